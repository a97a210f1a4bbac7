-- Repeats change by as many as have a pair and a round where meetings change.
use Rattle.std.proofs.Common.{◌≡◌, ℕ, ◌+◌, ◌-◌, ◌<◌, Bool, true, false, ◌&&◌, ◌||◌, refl, sym, ◌∙◌, ap, arith}
use Rattle.std.specs.Prelude.{◌==◌, if◌then◌else◌}
use Rattle.std.proofs.lemmas.Bool.{or_parts, and_left, and_right, or_from}
use Rattle.league.specs.Sums.{sum_of_pairs, sum_where}
use Rattle.fixtures.specs.declared.game.Cell.{Cell}
use Rattle.fixtures.specs.Games.{Games, round_count, cell, meets}
use Rattle.fixtures.specs.Changes.{DiffersOnlyIn}
use Rattle.tours.specs.Repeats.{repeats_after, repeats}
use Rattle.tours.specs.Parts.{repeats_part}
use Rattle.tours.proofs.balances.Balances.{one, where_balance, count_balance, sum_balance, pairs_balance, pairs_same}

-- the same pairs meet in both, but pairs with a team of the first set in the rounds of the second
pub record MeetingsDifferOnlyIn (g g' : Games) (teams rounds : ℕ → Bool) : Type 0 where
  pub same_size : g'.teams ≡ g.teams
  pub same : (t u r : ℕ) → t < g.teams → u < g.teams → r < round_count g.teams →
      ((teams t || teams u) && rounds r) ≡ false → meets g' t u r ≡ meets g t u r

-- how many pairs with a team of the set meet both in a round and in the next
unfoldable pub repeats_with_after : Games → (ℕ → Bool) → ℕ → ℕ
repeats_with_after g teams round =
    sum_of_pairs g.teams (λ low high.
    if (teams low || teams high) && (meets g high low round && meets g high low (round + 1)) then 1 else 0)

-- the repeats of pairs with a team of the first set that have one of their two rounds in the second
unfoldable pub repeats_with : Games → (ℕ → Bool) → (ℕ → Bool) → ℕ
repeats_with g teams rounds =
    sum_where (round_count g.teams - 1) (λ r. rounds r || rounds (r + 1)) (repeats_with_after g teams)

-- a pair meets both in a round and in the next
abbrev meet_twice : Games → ℕ → ℕ → ℕ → Bool
meet_twice g r low high = meets g high low r && meets g high low (r + 1)

-- of a pair that isn't in the set, or two rounds that aren't
meet_twice_same : (g g' : Games) (teams rounds : ℕ → Bool) → MeetingsDifferOnlyIn g g' teams rounds → (r low high : ℕ) →
    r + 1 < round_count g.teams → low < high → high < g.teams →
    ((teams high || teams low) && rounds r) ≡ false → ((teams high || teams low) && rounds (r + 1)) ≡ false →
    meet_twice g' r low high ≡ meet_twice g r low high
meet_twice_same g g' teams rounds d r low high in_r in_low in_high out next_out =
    rw (d.same high low r in_high (omega arith) (omega arith) out, d.same high low (r + 1) in_high (omega arith) in_r next_out) refl

other_way : (a b : Bool) → (a || b) ≡ false → (b || a) ≡ false
other_way a b out = let parts = or_parts a b out in or_from b a parts.1 parts.0

-- the change after a round that is touched, or before one
after_balance : (g g' : Games) (teams rounds : ℕ → Bool) → MeetingsDifferOnlyIn g g' teams rounds → (r : ℕ) → r + 1 < round_count g.teams →
    repeats_after g' r + repeats_with_after g teams r ≡ repeats_after g r + repeats_with_after g' teams r
unfolding repeats_after repeats_with_after
after_balance g g' teams rounds d r in_r =
    pairs_balance g.teams g'.teams (λ low high. one (meet_twice g' r low high)) (λ low high. one (meet_twice g r low high))
    (λ low high. one ((teams low || teams high) && meet_twice g' r low high))
    (λ low high. one ((teams low || teams high) && meet_twice g r low high))
    d.same_size
    (λ low high in_low in_high. count_balance (teams low || teams high) (meet_twice g' r low high) (meet_twice g r low high)
    (λ out. meet_twice_same g g' teams rounds d r low high in_r in_low in_high
    (and_left (teams high || teams low) (rounds r) (other_way (teams low) (teams high) out))
    (and_left (teams high || teams low) (rounds (r + 1)) (other_way (teams low) (teams high) out))))

-- the next of rounds that aren't touched
after_same : (g g' : Games) (teams rounds : ℕ → Bool) → MeetingsDifferOnlyIn g g' teams rounds → (r : ℕ) → r + 1 < round_count g.teams →
    (rounds r || rounds (r + 1)) ≡ false → repeats_after g' r ≡ repeats_after g r
unfolding repeats_after
after_same g g' teams rounds d r in_r out =
    let parts = or_parts (rounds r) (rounds (r + 1)) out in
    pairs_same g.teams g'.teams (λ low high. one (meet_twice g' r low high)) (λ low high. one (meet_twice g r low high)) d.same_size
    (λ low high in_low in_high. ap one (meet_twice_same g g' teams rounds d r low high in_r in_low in_high
    (and_right (teams high || teams low) (rounds r) parts.0) (and_right (teams high || teams low) (rounds (r + 1)) parts.1)))

pub repeats_balance_with : (g g' : Games) (teams rounds : ℕ → Bool) → MeetingsDifferOnlyIn g g' teams rounds →
    repeats g' + repeats_with g teams rounds ≡ repeats g + repeats_with g' teams rounds
unfolding repeats repeats_with
repeats_balance_with g g' teams rounds d =
    sum_balance (round_count g.teams - 1) (round_count g'.teams - 1) (repeats_after g') (repeats_after g)
    (λ r. if rounds r || rounds (r + 1) then repeats_with_after g' teams r else 0)
    (λ r. if rounds r || rounds (r + 1) then repeats_with_after g teams r else 0)
    (ap (λ n. round_count n - 1) d.same_size)
    (λ r in_r. where_balance (rounds r || rounds (r + 1)) (rounds r || rounds (r + 1)) (repeats_after g' r) (repeats_after g r)
    (repeats_with_after g' teams r) (repeats_with_after g teams r) refl
    (λ inside. after_balance g g' teams rounds d r (omega arith)) (after_same g g' teams rounds d r (omega arith)))

-- all teams
repeats_with_all : (g : Games) (rounds : ℕ → Bool) → repeats_with g (λ _. true) rounds ≡ repeats_part g rounds
unfolding repeats_with repeats_part repeats_with_after repeats_after
repeats_with_all g rounds = refl

meeting_of_cell : (g g' : Games) (t u r : ℕ) → cell g' t r ≡ cell g t r → meets g' t u r ≡ meets g t u r
unfolding meets
meeting_of_cell g g' t u r same = ap (λ (c : Cell). c.opponent == u) same

pub repeats_balance : (g g' : Games) (teams rounds : ℕ → Bool) → DiffersOnlyIn g g' teams rounds →
    repeats g' + repeats_part g rounds ≡ repeats g + repeats_part g' rounds
repeats_balance g g' teams rounds d =
    ap (λ x. repeats g' + x) (sym (repeats_with_all g rounds)) ∙ repeats_balance_with g g' (λ _. true) rounds meetings ∙
    ap (λ x. repeats g + x) (repeats_with_all g' rounds)
  where
    meetings : MeetingsDifferOnlyIn g g' (λ _. true) rounds
    meetings = record {
      same_size = d.same_size;
      same = λ t u r in_t in_u in_r out.
          meeting_of_cell g g' t u r (d.same_cells t r in_t in_r (and_right (teams t) (rounds r) out));
    }
