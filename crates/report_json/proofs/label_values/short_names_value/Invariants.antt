use Rattle.std.proofs.Common.{◌≡◌}
use Rattle.report_json.specs.Labels.{short_name_at}
use Rattle.report_json.specs.Parts.{parts_below}
use Rattle.report_json.specs.within.Parts.{seen}
use Rattle.report_json.proofs.label_values.short_names_value.Given as goal

abbrev pub invariant-loop-team : goal.invariant-loop-team
invariant-loop-team l = seen l.names.items ≡ parts_below (short_name_at l.league) l.team
