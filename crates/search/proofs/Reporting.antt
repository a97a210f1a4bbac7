-- The steps that a worker reported, and those that it is still to report.
use Rattle.std.proofs.Common.{◌≡◌, ◌⊎◌, ℕ, ◌+◌, inl, inr, refl, sym, ap, ◌∙◌, subst, arith}
use Rattle.draws.specs.declared.gates.Progress.{Progress}
use Rattle.draws.specs.Reported.{AreReported}
use Rattle.draws.proofs.ForCallers.{reported_none, reported_more}
use Rattle.search.specs.declared.workers.steps.StepResult.{StepResult}
use Rattle.search.specs.declared.workers.steps.StepResult.TheVariants.{Nothing, Accepted, Refused, Full}
use Rattle.search.specs.within.Steps.{IsReported, IsReportedBefore, progress_with}

-- so many steps were reported, but for those that the progress has
pub record ReportsBut (reported : Progress → Type 0) (steps : ℕ) (p : Progress) : Type 0 where
  pub taken : ℕ
  pub reported_are : AreReported reported taken
  pub left : taken + p.steps ≡ steps

pub but_none : (reported : Progress → Type 0) (p : Progress) → p.steps ≡ 0 → ReportsBut reported 0 p
but_none reported p none = record { taken = 0; reported_are = reported_none reported; left = omega (arith, none) }

one_more : (p : Progress) (step_result : StepResult) → (progress_with p step_result).steps ≡ p.steps + 1
one_more p Nothing = refl
one_more p (Accepted cost) = refl
one_more p Refused = refl
one_more p Full = refl

-- after one more step
pub but_more : (reported : Progress → Type 0) (steps : ℕ) (p next : Progress) (result : StepResult) → ReportsBut reported steps p →
    next ≡ progress_with p result → ReportsBut reported (steps + 1) next
but_more reported steps p next result was is =
    let more : next.steps ≡ p.steps + 1 = ap (λ (q : Progress). q.steps) is ∙ one_more p result in
    record { taken = was.taken; reported_are = was.reported_are; left = omega (arith, was.left, more) }

-- after it was reported, if that was due
pub but_due : (reported : Progress → Type 0) (steps : ℕ) (p next : Progress) → ReportsBut reported steps p → IsReportedBefore reported p next →
    ReportsBut reported steps next
but_due reported steps p next was due =
    elim due [
      | inl same ↦
          let P : Progress → Type 0 = λ q. ReportsBut reported steps q in subst P (sym same) was
      | inr one ↦
          let none : next.steps ≡ 0 = ap (λ (q : Progress). q.steps) one.1 in
          record {
            taken = was.taken + p.steps;
            reported_are = reported_more reported was.taken (was.taken + p.steps) p was.reported_are one.0 refl;
            left = omega (arith, was.left, none);
          }
    ]

-- after the rest was reported
pub but_end : (reported : Progress → Type 0) (steps : ℕ) (p : Progress) → ReportsBut reported steps p → IsReported reported p → AreReported reported steps
but_end reported steps p was rest =
    elim rest [
      | inl none ↦ let P : ℕ → Type 0 = λ n. AreReported reported n in subst P (omega (arith, was.left, none)) was.reported_are
      | inr one ↦ reported_more reported was.taken steps p was.reported_are one was.left
    ]
