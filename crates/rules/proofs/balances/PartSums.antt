-- Sums of which a part changes by as much as the whole.
use Rattle.std.proofs.Common.{◌≡◌, ℕ, ◌+◌, ◌<◌, ◌&&◌, Bool, true, false, if◌then◌else◌, refl, sym, subst, arith}
use Rattle.league.specs.Sums.{sum_where}
use Rattle.league.proofs.ForCallers.{sum_below_balance}

-- a term is in the part, where it changes by as much as the part's, or it stays
term_balance : (test inside inside' : Bool) (new old part_new part_old : ℕ) → inside' ≡ inside →
    (inside ≡ true → new + part_old ≡ old + part_new) →
    (test ≡ true → inside ≡ false → new ≡ old) →
    (if test then new else 0) + (if test && inside then part_old else 0) ≡
    (if test then old else 0) + (if test && inside' then part_new else 0)
term_balance false inside inside' new old part_new part_old same balance stays = refl
term_balance true true inside' new old part_new part_old same balance stays = rw same (balance refl)
term_balance true false inside' new old part_new part_old same balance stays = rw (same, stays refl refl) refl

pub where_balance : (n n' : ℕ) (test inside inside' : ℕ → Bool) (new old part_new part_old : ℕ → ℕ) → n' ≡ n →
    ((k : ℕ) → k < n → inside' k ≡ inside k) → ((k : ℕ) → k < n → inside k ≡ true → new k + part_old k ≡ old k + part_new k) →
    ((k : ℕ) → k < n → test k ≡ true → inside k ≡ false → new k ≡ old k) →
    sum_where n' test new + sum_where n (λ k. test k && inside k) part_old ≡ sum_where n test old + sum_where n'
    (λ k. test k && inside' k) part_new
where_balance n n' test inside inside' new old part_new part_old size same balance stays =
    subst (λ (m : ℕ). sum_where m test new + sum_where n (λ k. test k && inside k) part_old ≡ sum_where n test old + sum_where m
    (λ k. test k && inside' k) part_new) (sym size)
    (sum_below_balance n (λ k. if test k then new k else 0) (λ k. if test k then old k else 0)
    (λ k. if test k && inside' k then part_new k else 0) (λ k. if test k && inside k then part_old k else 0)
    (λ k below. term_balance (test k) (inside k) (inside' k) (new k) (old k) (part_new k) (part_old k) (same k below) (balance k below)
    (stays k below)))

-- where the part has whole terms
pub whole_terms_balance : (n n' : ℕ) (test inside inside' : ℕ → Bool) (new old : ℕ → ℕ) → n' ≡ n →
    ((k : ℕ) → k < n → inside' k ≡ inside k) → ((k : ℕ) → k < n → test k ≡ true → inside k ≡ false → new k ≡ old k) →
    sum_where n' test new + sum_where n (λ k. test k && inside k) old ≡ sum_where n test old + sum_where n' (λ k. test k && inside' k) new
whole_terms_balance n n' test inside inside' new old size same stays =
    where_balance n n' test inside inside' new old new old size same (λ k below is. omega arith) stays

-- the whole, or nothing where it stays
pub whole_balance : (inside inside' : Bool) (new old : ℕ) → inside' ≡ inside → (inside ≡ false → new ≡ old) →
    new + (if inside then old else 0) ≡ old + (if inside' then new else 0)
whole_balance true inside' new old same stays = rw same (omega arith)
whole_balance false inside' new old same stays = rw (same, stays refl) refl

-- the same of a part
pub part_balance : (inside inside' : Bool) (new old part_new part_old : ℕ) → inside' ≡ inside → new + part_old ≡ old + part_new →
    (inside ≡ false → new ≡ old) → new + (if inside then part_old else 0) ≡ old + (if inside' then part_new else 0)
part_balance true inside' new old part_new part_old same balance stays = rw same balance
part_balance false inside' new old part_new part_old same balance stays = rw (same, stays refl) refl
