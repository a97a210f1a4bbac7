-- A part changes by as much as its whole.
use Rattle.std.proofs.Common.{◌≡◌, ℕ, ◌+◌, ◌<◌, Bool, true, false, ◌&&◌, sym, subst, refl, ◌∙◌, ap, arith}
use Rattle.std.specs.Prelude.{if◌then◌else◌}
use Rattle.league.specs.Sums.{sum_below, sum_of_pairs}
use Rattle.league.proofs.ForCallers.{sum_below_balance, sum_of_pairs_balance, sum_of_pairs_same}

abbrev pub one : Bool → ℕ
one b = if b then 1 else 0

-- a term is in the part, where it changes by as much as the part's, or it stays
pub where_balance : (inside inside' : Bool) (new old part_new part_old : ℕ) → inside' ≡ inside →
    (inside ≡ true → new + part_old ≡ old + part_new) → (inside ≡ false → new ≡ old) →
    new + (if inside then part_old else 0) ≡ old + (if inside' then part_new else 0)
where_balance true inside' new old part_new part_old same balance stays = rw same (balance refl)
where_balance false inside' new old part_new part_old same balance stays = rw (same, stays refl) refl

-- the same of a count
pub count_balance : (inside new old : Bool) → (inside ≡ false → new ≡ old) → one new + one (inside && old) ≡ one old + one (inside && new)
count_balance true new old stays = omega arith
count_balance false new old stays = rw (stays refl) refl

-- sums below a number that stays
pub sum_balance : (n n' : ℕ) (new old part_new part_old : ℕ → ℕ) → n' ≡ n →
    ((k : ℕ) → k < n → new k + part_old k ≡ old k + part_new k) →
    sum_below n' new + sum_below n part_old ≡ sum_below n old + sum_below n' part_new
sum_balance n n' new old part_new part_old same each =
    subst (λ (m : ℕ). sum_below m new + sum_below n part_old ≡ sum_below n old + sum_below m part_new) (sym same)
    (sum_below_balance n new old part_new part_old each)

pub pairs_balance : (n n' : ℕ) (new old part_new part_old : ℕ → ℕ → ℕ) → n' ≡ n →
    ((i j : ℕ) → i < j → j < n → new i j + part_old i j ≡ old i j + part_new i j) →
    sum_of_pairs n' new + sum_of_pairs n part_old ≡ sum_of_pairs n old + sum_of_pairs n' part_new
pairs_balance n n' new old part_new part_old same each =
    subst (λ (m : ℕ). sum_of_pairs m new + sum_of_pairs n part_old ≡ sum_of_pairs n old + sum_of_pairs m part_new) (sym same)
    (sum_of_pairs_balance n new old part_new part_old each)

pub pairs_same : (n n' : ℕ) (new old : ℕ → ℕ → ℕ) → n' ≡ n → ((i j : ℕ) → i < j → j < n → new i j ≡ old i j) →
    sum_of_pairs n' new ≡ sum_of_pairs n old
pairs_same n n' new old same each = ap (λ (m : ℕ). sum_of_pairs m new) same ∙ sum_of_pairs_same n new old each
