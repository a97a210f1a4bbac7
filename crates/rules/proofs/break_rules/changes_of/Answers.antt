use Rattle.std.proofs.Common.{◌≡◌, ◌+◌, ◌-◌, ◌&&◌, not, Bool, true, false, ap, refl, ◌∙◌, arith}
use Rattle.std.proofs.lemmas.Bool.{lt-ltb}
use Rattle.league.specs.Limits.{max_rounds}
use Rattle.rules.proofs.break_rules.changes_of.Goals as goal

pub returns : goal.returns
returns c = λ r below.
    ap not (c.difference.ensures.members r) ∙ rw (c.below.ensures.members r, c.like_next_below.ensures.members r)
    (rw (lt-ltb r (max_rounds - 1) (omega arith), lt-ltb (r + 1) max_rounds below) (twice _))
  where
    twice : (b : Bool) → not (true && not (true && b)) ≡ b
    twice true = refl
    twice false = refl
