use Rattle.std.proofs.Common.{◌∙◌, ap, is_some}
use Rattle.std.specs.Str.Lines.{lines}
use Rattle.script_hints.proofs.Causes.{script_exactly}
use Rattle.script_hints.proofs.script.script_hint.Goals as goal

pub returns-clause-exactly : goal.returns-clause-exactly
returns-clause-exactly c = ap is_some c.first_hint.ensures ∙ script_exactly 1 (lines c.args.script.now)
