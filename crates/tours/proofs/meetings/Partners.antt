-- Sums over numbers of which each has a partner.
use Rattle.std.proofs.Common.{◌≡◌, ◌≢◌, ℕ, ◌<◌, refl, sym, ◌∙◌, ap}
use Rattle.std.specs.Prelude.{◌==◌, if◌then◌else◌}
use Rattle.std.proofs.lemmas.Bool.{cond-true, cond-false, eq-eqb, ne_eqb}
use Rattle.league.specs.Sums.{sum_below}
use Rattle.league.proofs.ForCallers.{sum_below_same, sum_below_swap, sum_below_only}

-- each number below n has one below n, whose own it is
pub record HasPartners (n : ℕ) (a : ℕ → ℕ) : Type 0 where
  pub in_range : (k : ℕ) → k < n → a k < n
  pub back : (k : ℕ) → k < n → a (a k) ≡ k

-- and isn't its own
pub record IsPairing (n : ℕ) (a : ℕ → ℕ) : Type 0 where
  pub partners : HasPartners n a
  pub apart : (k : ℕ) → k < n → a k ≢ k

at_partner : (n : ℕ) (a f : ℕ → ℕ) → HasPartners n a → (k : ℕ) → k < n → sum_below n (λ u. if a k == u then f u else 0) ≡ f (a k)
at_partner n a f partners k in_k =
    sum_below_only n (a k) (λ u. if a k == u then f u else 0) (partners.in_range k in_k)
    (λ u in_u other. cond-false (a k == u) (f u) 0 (ne_eqb (a k) u (λ is. other (sym is)))) ∙
    cond-true (a k == a k) (f (a k)) 0 (eq-eqb (a k) (a k) refl)

at_own : (n : ℕ) (a f : ℕ → ℕ) → HasPartners n a → (u : ℕ) → u < n → sum_below n (λ k. if a k == u then f u else 0) ≡ f u
at_own n a f partners u in_u =
    sum_below_only n (a u) (λ k. if a k == u then f u else 0) (partners.in_range u in_u)
    (λ k in_k other. cond-false (a k == u) (f u) 0 (ne_eqb (a k) u (λ is. other (sym (partners.back k in_k) ∙ ap a is)))) ∙
    cond-true (a (a u) == u) (f u) 0 (eq-eqb (a (a u)) u (partners.back u in_u))

pub sum_below_partners : (n : ℕ) (a f : ℕ → ℕ) → HasPartners n a → sum_below n (λ k. f (a k)) ≡ sum_below n f
sum_below_partners n a f partners =
    sym (sum_below_same n (λ k. sum_below n (λ u. if a k == u then f u else 0)) (λ k. f (a k)) (at_partner n a f partners)) ∙
    sum_below_swap n n (λ k u. if a k == u then f u else 0) ∙
    sum_below_same n (λ u. sum_below n (λ k. if a k == u then f u else 0)) f (at_own n a f partners)
