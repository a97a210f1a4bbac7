-- Lists of those that pass a test depend on the test alone.
use Rattle.std.proofs.Common.{◌≡◌, ℕ, zero, suc, ◌+◌, ◌-◌, ◌<◌, ◌&&◌, nat_lt, Bool, List, inl, inr, refl, arith}
use Rattle.std.proofs.lemmas.Bool.{cases_lt, le-ltb}
use Rattle.league.specs.League.{LeagueData, teams}
use Rattle.league.specs.Sums.{count_where}
use Rattle.league.proofs.ForCallers.{count_where_same}
use Rattle.byte_streams.specs.Pieces.{pieces_below}
use Rattle.report_page.specs.Lists.{name_in, names_text, round_in, rounds_text, teams_text}

pieces_same : (n : ℕ) (piece other : ℕ → List ℕ) → ((k : ℕ) → k < n → piece k ≡ other k) →
    pieces_below piece n ≡ pieces_below other n
pieces_same zero piece other same = refl
pieces_same (suc n) piece other same =
    rw (pieces_same n piece other (λ k below. same k (omega arith)), same n (omega arith)) refl

module _ (l : LeagueData) (test other : ℕ → Bool) (same : (t : ℕ) → t < teams l → test t ≡ other t) where
  all_same : count_where (teams l) test ≡ count_where (teams l) other
  all_same = count_where_same (teams l) test other same

  name_same : (t : ℕ) → t < teams l → name_in l test t ≡ name_in l other t
  name_same t below = rw (same t below, count_where_same t test other (λ k k_below. same k (omega arith)), all_same) refl

  names_same : names_text l test ≡ names_text l other
  unfolding names_text
  names_same = pieces_same (teams l) (name_in l test) (name_in l other) name_same

  pub teams_same : teams_text l test ≡ teams_text l other
  unfolding teams_text
  teams_same = rw (all_same, names_same) refl

module _ (n : ℕ) (test other : ℕ → Bool) (same : (r : ℕ) → r < n → test r ≡ other r) where
  next_same : (r : ℕ) → (nat_lt r n && test r) ≡ (nat_lt r n && other r)
  next_same r = elim (cases_lt r n) [ inl below ↦ rw (same r below) refl | inr past ↦ rw (le-ltb r n past) refl ]

  round_same : (r : ℕ) → r < n → round_in n test r ≡ round_in n other r
  round_same r below =
      rw (same r below, same (r - 1) (omega (arith, below)), next_same (r + 1), count_where_same r test other (λ k k_below. same k (omega arith)))
      refl

  pub rounds_same : rounds_text n test ≡ rounds_text n other
  unfolding rounds_text
  rounds_same = rw (count_where_same n test other same, pieces_same n (round_in n test) (round_in n other) round_same) refl
