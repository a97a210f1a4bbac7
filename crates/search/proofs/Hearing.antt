-- One more step of a worker: its report, and the reply that the gate heard.
use Rattle.std.proofs.Common.{◌≡◌, ℕ, ◌+◌, ◌≤◌, List, [], ◌∷◌, ◌++◌, length, inl, inr, refl, sym, ap, arith, subst, length-append}
use Rattle.std.proofs.lemmas.List.Sums.{sum_by_push}
use Rattle.fixture_board.specs.declared.reply.Reply.{Reply}
use Rattle.fixture_board.specs.declared.reply.Reply.TheVariants.{Done, No}
use Rattle.search.specs.declared.workers.Report.{Report}
use Rattle.search.specs.Doors.{done_count}
use Rattle.search.specs.declared.workers.steps.StepResult.{StepResult}
use Rattle.search.specs.declared.workers.steps.StepResult.TheVariants.{Nothing, Accepted, Refused, Full}
use Rattle.search.specs.Heard.{AreHeard, HearsFull, IsFull, IsHeard}
use Rattle.search.specs.within.Steps.{IsProposed, IsResultOf, accepted_count, report_with}

heard_last : (heard : ℕ → Reply → Type 0) (made at : ℕ) (rs : List Reply) (r : Reply) → AreHeard heard made rs →
    at ≡ made + length rs → heard at r → AreHeard heard made (rs ++ r ∷ [])
heard_last heard made at [] r are is one = let P : ℕ → Type 0 = λ n. heard n r in (subst P (omega (arith, is)) one, tt)
heard_last heard made at (q ∷ rs) r are is one = (are.0, heard_last heard (made + 1) at rs r are.1 (omega (arith, is)) one)

pub heard_none : (heard : ℕ → Reply → Type 0) (report : Report) → report.made ≡ 0 → report.accepted ≡ 0 → IsHeard heard report
heard_none heard report made accepted = record { replies = []; are = tt; made = omega (arith, made); accepted = omega (arith, accepted) }

-- one more proposal, and the reply to it
heard_more : (heard : ℕ → Reply → Type 0) (was is : Report) (r : Reply) → IsHeard heard was → heard was.made r →
    is.made ≡ was.made + 1 → is.accepted ≡ was.accepted + done_count r → IsHeard heard is
heard_more heard was is r before one made accepted =
    let long = length-append before.replies (r ∷ []) in
    let granted = sum_by_push done_count before.replies r in
    record {
      replies = before.replies ++ r ∷ [];
      are = heard_last heard 0 was.made before.replies r before.are (omega (arith, before.made)) one;
      made = omega (arith, before.made, made, long);
      accepted = omega (arith, before.accepted, accepted, granted);
    }

-- what the gate heard of a step: the reply to its proposal, where it made one
abbrev pub HearsStep : (ℕ → Reply → Type 0) → ℕ → StepResult → Type 0
HearsStep heard made step_result = IsProposed step_result → (reply : Reply) × heard made reply × IsResultOf reply step_result

-- a step accepts as many as its reply grants
counts_result : (step_result : StepResult) (reply : Reply) → IsResultOf reply step_result → accepted_count step_result ≡ done_count reply
counts_result step_result (Done at cost) is = ap accepted_count is
counts_result step_result (No at reason) is = elim is [ inl full ↦ ap accepted_count full.1 | inr other ↦ ap accepted_count other.1 ]

-- the step found the board full
abbrev pub IsStopped : StepResult → Type 0
IsStopped Nothing = ⊥
IsStopped (Accepted cost) = ⊥
IsStopped Refused = ⊥
IsStopped Full = Unit {0}

full_reply : (step_result : StepResult) (reply : Reply) → IsResultOf reply step_result → IsStopped step_result → IsFull reply
full_reply step_result (Done at cost) is stopped = let P : StepResult → Type 0 = λ t. IsStopped t in subst P is stopped
full_reply step_result (No at reason) is stopped =
    let P : StepResult → Type 0 = λ t. IsStopped t in
    elim is [ inl full ↦ full.0 | inr other ↦ absurd (subst P other.1 stopped) ]

-- a step that found the board full had such a reply
pub hears_full : (heard : ℕ → Reply → Type 0) (made : ℕ) (step_result : StepResult) → step_result ≡ Full → HearsStep heard made step_result → HearsFull heard
hears_full heard made step_result is more =
    let Proposed : StepResult → Type 0 = λ t. IsProposed t in
    let Stopped : StepResult → Type 0 = λ t. IsStopped t in
    let one = more (subst Proposed (sym is) tt) in
    record { made = made; reply = one.0; is_heard = one.1; full = full_reply step_result one.0 one.2 (subst Stopped (sym is) tt) }

heard_step : (heard : ℕ → Reply → Type 0) (r : Report) (step_result : StepResult) → IsHeard heard r → HearsStep heard r.made step_result →
    IsHeard heard (report_with r step_result)
heard_step heard r Nothing before more = before
heard_step heard r (Accepted cost) before more =
    let one = more tt in heard_more heard r (report_with r (Accepted cost)) one.0 before one.1 refl (omega (arith, counts_result (Accepted cost) one.0 one.2))
heard_step heard r Refused before more =
    let one = more tt in heard_more heard r (report_with r Refused) one.0 before one.1 refl (omega (arith, counts_result Refused one.0 one.2))
heard_step heard r Full before more =
    let one = more tt in heard_more heard r (report_with r Full) one.0 before one.1 refl (omega (arith, counts_result Full one.0 one.2))

-- the next report counts what was heard
pub heard_next : (heard : ℕ → Reply → Type 0) (r next : Report) (step_result : StepResult) → next ≡ report_with r step_result → IsHeard heard r →
    HearsStep heard r.made step_result → IsHeard heard next
heard_next heard r next step_result is before more =
    let P : Report → Type 0 = λ x. IsHeard heard x in subst P (sym is) (heard_step heard r step_result before more)

-- a step makes one proposal at most, and its report counts it once
pub record CountsStep (r : Report) (step_result : StepResult) (next : Report) : Type 0 where
  pub few : next.made ≤ r.made + 1
  pub accepted : next.accepted ≡ r.accepted + accepted_count step_result
  pub whole : r.made ≡ r.accepted + r.refused → next.made ≡ next.accepted + next.refused

counts_step : (r : Report) (step_result : StepResult) → CountsStep r step_result (report_with r step_result)
counts_step r Nothing = record { few = omega arith; accepted = omega arith; whole = λ h. h }
counts_step r (Accepted cost) = record { few = omega arith; accepted = omega arith; whole = λ h. omega (arith, h) }
counts_step r Refused = record { few = omega arith; accepted = omega arith; whole = λ h. omega (arith, h) }
counts_step r Full = record { few = omega arith; accepted = omega arith; whole = λ h. omega (arith, h) }

pub counts_next : (r next : Report) (step_result : StepResult) → next ≡ report_with r step_result → CountsStep r step_result next
counts_next r next step_result is = let P : Report → Type 0 = λ x. CountsStep r step_result x in subst P (sym is) (counts_step r step_result)
