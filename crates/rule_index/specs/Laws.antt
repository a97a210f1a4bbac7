-- What an index tells of a change.
use Rattle.std.specs.Prelude.{◌≡◌, ℕ, false, List, Some, slice_get}
use Rattle.league.specs.RuleLimits.{IsBodyFor}
use Rattle.league.specs.declared.rule.Rule.{Rule}
use Rattle.fixtures.specs.Games.{Games, IsDoubleRoundRobin}
use Rattle.rules.specs.Laws.{SidesAreMain}
use Rattle.rules.specs.Parts.{deviation_part}
use Rattle.rule_index.specs.Alterable.{is_alterable_at}

-- a change can alter nothing of the deviation from a rule that isn't alterable
abbrev pub NothingElseAlters : Type 0
NothingElseAlters =
    (g : Games) (rules : List Rule) (i : ℕ) (rule : Rule) (main rounds sides : ℕ) → IsDoubleRoundRobin g →
    slice_get rules i ≡ Some rule → IsBodyFor g.teams rule.body → SidesAreMain main sides →
    is_alterable_at rules main rounds i ≡ false → deviation_part g main rounds sides rule.body ≡ 0
