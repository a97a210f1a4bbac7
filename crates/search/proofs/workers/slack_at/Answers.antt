use Rattle.std.proofs.Common.{◌≡◌, ℕ, ◌+◌, ◌-◌, ◌*◌, ◌/◌, ◌%◌, ◌<◌, sym, ap, ◌∙◌, arith}
use Rattle.std.proofs.Math.Nat.{add-mul, div-add-mod, mul-add-div, mul_assoc}
use Rattle.search.proofs.workers.slack_at.Goals as goal

-- a quotient and a remainder, each times what is left
by_parts : (slack steps left : ℕ) → 0 < steps → slack * left / steps ≡ slack / steps * left + slack % steps * left / steps
by_parts slack steps left some =
    ap (λ n. n * left / steps) (sym (div-add-mod slack steps)) ∙
    ap (λ n. n / steps) (add-mul (steps * (slack / steps)) (slack % steps) left) ∙
    ap (λ n. (n + slack % steps * left) / steps) (mul_assoc steps (slack / steps) left) ∙
    mul-add-div some (slack / steps * left) (slack % steps * left)

pub returns : goal.returns
returns c =
    rw (c.from-steps.ensures, c.from-left.ensures)
    (sym (by_parts c.args.plan.slack c.args.plan.steps (c.args.plan.steps - c.args.s) (omega (arith, c.requires))))
