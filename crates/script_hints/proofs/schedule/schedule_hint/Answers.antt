use Rattle.std.proofs.Common.{◌∙◌, ap, is_some}
use Rattle.std.specs.Str.Lines.{lines}
use Rattle.schedule_texts.specs.LastSheet.{last_sheet}
use Rattle.script_hints.proofs.Causes.{schedule_exactly}
use Rattle.script_hints.proofs.schedule.schedule_hint.Goals as goal

pub returns-clause-exactly : goal.returns-clause-exactly
returns-clause-exactly c = ap is_some c.first_hint.ensures ∙ schedule_exactly 1 (last_sheet (lines c.args.text.now))
