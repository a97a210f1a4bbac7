use Rattle.std.proofs.Common.{◌≡◌}
use Rattle.report_json.specs.Labels.{round_text_at}
use Rattle.report_json.specs.Parts.{parts_below}
use Rattle.report_json.specs.within.Parts.{seen}
use Rattle.report_json.proofs.label_values.round_texts_value.Given as goal

abbrev pub invariant-loop-round : goal.invariant-loop-round
invariant-loop-round l = seen l.texts.items ≡ parts_below (round_text_at l.league) l.round
