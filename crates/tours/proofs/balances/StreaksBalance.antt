-- Streaks change by as many as touch a round where a team changes sides.
use Rattle.std.proofs.Common.{◌≡◌, ℕ, ◌+◌, ◌-◌, ◌<◌, ◌≤◌, Bool, true, false, not, ◌&&◌, refl, sym, ◌∙◌, ap, arith}
use Rattle.std.specs.Prelude.{if◌then◌else◌}
use Rattle.league.proofs.ForCallers.{all_below_same, any_below_fails, any_below_from_none, count_where_none}
use Rattle.fixtures.specs.declared.game.Cell.{Cell}
use Rattle.fixtures.specs.Games.{Games, round_count, cell, is_home}
use Rattle.fixtures.specs.Changes.{DiffersOnlyIn}
use Rattle.tours.specs.Streaks.{is_streak, windows, streaks_of, runs_over}
use Rattle.tours.specs.Parts.{touches_window, runs_part_of, runs_part}
use Rattle.tours.proofs.balances.Balances.{one, count_balance, sum_balance}

-- the sides of a team stay, but in rounds of the set
abbrev pub SidesStay : Games → Games → (ℕ → Bool) → ℕ → Type 0
SidesStay g g' rounds t = (r : ℕ) → r < round_count g.teams → rounds r ≡ false → is_home g' t r ≡ is_home g t r

is_streak_same : (g g' : Games) (set : ℕ → Bool) (t first rounds : ℕ) → SidesStay g g' set t → first + rounds ≤ round_count g.teams →
    touches_window set first rounds ≡ false → is_streak g' t first rounds ≡ is_streak g t first rounds
unfolding touches_window is_streak
is_streak_same g g' set t first rounds stay fits out =
    rw (
      all_below_same rounds (λ k. is_home g' t (first + k)) (λ k. is_home g t (first + k)) same,
      all_below_same rounds (λ k. not (is_home g' t (first + k))) (λ k. not (is_home g t (first + k))) (λ k below. ap not (same k below)),
    )
    refl
  where
    same : (k : ℕ) → k < rounds → is_home g' t (first + k) ≡ is_home g t (first + k)
    same k below = stay (first + k) (omega arith) (any_below_fails rounds (λ k. set (first + k)) out k below)

pub streaks_of_balance : (g g' : Games) (limit : ℕ) (rounds : ℕ → Bool) (t : ℕ) → g'.teams ≡ g.teams → SidesStay g g' rounds t →
    streaks_of g' limit t + runs_part_of g limit rounds t ≡ streaks_of g limit t + runs_part_of g' limit rounds t
unfolding streaks_of runs_part_of
streaks_of_balance g g' limit rounds t size stay =
    sum_balance (windows g (limit + 1)) (windows g' (limit + 1)) (λ f. one (is_streak g' t f (limit + 1))) (λ f. one (is_streak g t f (limit + 1)))
    (λ f. one (touches_window rounds f (limit + 1) && is_streak g' t f (limit + 1)))
    (λ f. one (touches_window rounds f (limit + 1) && is_streak g t f (limit + 1)))
    (ap (λ n. round_count n + 1 - (limit + 1)) size)
    (λ f below. count_balance (touches_window rounds f (limit + 1)) (is_streak g' t f (limit + 1)) (is_streak g t f (limit + 1))
    (is_streak_same g g' rounds t f (limit + 1) stay (omega arith)))

-- cells of touched teams in touched rounds

none_touched : (first rounds : ℕ) (streak : Bool) → (touches_window (λ _. false) first rounds && streak) ≡ false
unfolding touches_window
none_touched first rounds streak = rw (any_below_from_none rounds (λ _. false) (λ k below. refl)) refl

pub part_of_box : (g : Games) (limit : ℕ) (rounds : ℕ → Bool) (t : ℕ) (inside : Bool) →
    runs_part_of g limit (λ r. inside && rounds r) t ≡ (if inside then runs_part_of g limit rounds t else 0)
unfolding runs_part_of
part_of_box g limit rounds t true = refl
part_of_box g limit rounds t false =
    count_where_none (windows g (limit + 1)) (λ f. touches_window (λ _. false) f (limit + 1) && is_streak g t f (limit + 1))
    (λ f below. none_touched f (limit + 1) (is_streak g t f (limit + 1)))

side_of_cell : (g g' : Games) (t r : ℕ) → cell g' t r ≡ cell g t r → is_home g' t r ≡ is_home g t r
unfolding is_home
side_of_cell g g' t r same = ap (λ (c : Cell). c.home) same

pub streaks_balance : (g g' : Games) (limit : ℕ) (teams rounds : ℕ → Bool) → DiffersOnlyIn g g' teams rounds →
    runs_over g' limit + runs_part g limit teams rounds ≡ runs_over g limit + runs_part g' limit teams rounds
unfolding runs_over runs_part
streaks_balance g g' limit teams rounds d =
    sum_balance g.teams g'.teams (streaks_of g' limit) (streaks_of g limit) (λ t. if teams t then runs_part_of g' limit rounds t else 0)
    (λ t. if teams t then runs_part_of g limit rounds t else 0) d.same_size
    (λ t in_t.
    ap (λ x. streaks_of g' limit t + x) (sym (part_of_box g limit rounds t (teams t))) ∙
    streaks_of_balance g g' limit (λ r. teams t && rounds r) t d.same_size
    (λ r in_r out. side_of_cell g g' t r (d.same_cells t r in_t in_r out)) ∙
    ap (λ x. streaks_of g limit t + x) (part_of_box g' limit rounds t (teams t)))
