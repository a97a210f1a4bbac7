-- JSON made of parts. Teams, rounds and rules are numbered from 0 in calls, and from 1 in JSON.
use Rattle.std.specs.Prelude.{ℕ, zero, suc, ◌+◌, List, [], ◌∷◌, ◌++◌}
use Rattle.serde_json.specs.Data.{Data, number, unsigned, array, object, member, no_members}
use Rattle.serde_json.specs.View.{items_of}
use Rattle.std.specs.Prelude.{codes}

-- those of the numbers below n, one after another
abbrev pub parts_below : (ℕ → List Data) → ℕ → List Data
parts_below part zero = []
parts_below part (suc n) = parts_below part n ++ part n

abbrev pub list : List Data → Data
list parts = array (items_of parts)

abbrev pub whole : ℕ → Data
whole n = number (unsigned n)

abbrev pub counted : ℕ → Data
counted n = whole (n + 1)

abbrev pub both : ℕ → ℕ → Data
both first second = list (counted first ∷ counted second ∷ [])

-- two games of a pair, by their rounds
abbrev pub meetings : ℕ → ℕ → ℕ → ℕ → Data
meetings low high first second =
    object (member (codes "rounds") (both first second) (member (codes "teams") (both low high) no_members))
