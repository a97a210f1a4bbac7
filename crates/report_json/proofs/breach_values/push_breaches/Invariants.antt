use Rattle.std.proofs.Common.{◌≡◌, ◌++◌, length}
use Rattle.std.specs.Prelude.{map}
use Rattle.report_json.specs.within.Parts.{seen}
use Rattle.report_json.specs.Rules.{breach_data}
use Rattle.report_json.proofs.breach_values.push_breaches.Given as goal

abbrev pub invariant-loop-rest : goal.invariant-loop-rest
invariant-loop-rest l =
    seen l.initial.values.items ++ map (breach_data l.schedule l.body) l.breaches
    ≡ seen l.values.items ++ map (breach_data l.schedule l.body) l.rest

abbrev pub decreases-loop-rest : goal.decreases-loop-rest
decreases-loop-rest l = length l.rest
