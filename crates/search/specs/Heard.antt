-- What a gate hears of a worker: the replies to its proposals, and the steps that are reported to it.
use Rattle.std.specs.Prelude.{◌≡◌, ◌⊎◌, ℕ, ◌+◌, ◌≤◌, List, [], ◌∷◌, length, sum_by}
use Rattle.fixture_board.specs.declared.reply.Reply.{Reply}
use Rattle.fixture_board.specs.declared.reply.Reply.TheVariants.{Done, No}
use Rattle.fixture_board.specs.declared.reply.Why.TheVariants.{Full}
use Rattle.draws.specs.declared.gates.Progress.{Progress}
use Rattle.draws.specs.Reported.{AreReported}
use Rattle.search.specs.declared.workers.Report.{Report}
use Rattle.search.specs.Doors.{done_count}

-- the replies to proposals in a row, the first of which is made after so many others
abbrev pub AreHeard : (ℕ → Reply → Type 0) → ℕ → List Reply → Type 0
AreHeard heard made [] = Unit {0}
AreHeard heard made (r ∷ rs) = heard made r × AreHeard heard (made + 1) rs

-- The report counts replies that were heard, one to each proposal: so many are there, and so many of them grant
pub record IsHeard (heard : ℕ → Reply → Type 0) (report : Report) : Type 0 where
  pub replies : List Reply
  pub are : AreHeard heard 0 replies
  pub made : length replies ≡ report.made
  pub accepted : sum_by done_count replies ≡ report.accepted

-- the reply says that the history has no room
abbrev pub IsFull : Reply → Type 0
IsFull (Done at cost) = ⊥
IsFull (No at reason) = reason ≡ Full

-- such a reply was heard
pub record HearsFull (heard : ℕ → Reply → Type 0) : Type 0 where
  pub made : ℕ
  pub reply : Reply
  pub is_heard : heard made reply
  pub full : IsFull reply

-- Each step that was taken was reported. It is all of so many steps, unless a reply was heard that the history has no room
pub record ReportsSteps (reported : Progress → Type 0) (heard : ℕ → Reply → Type 0) (steps : ℕ) : Type 0 where
  pub taken : ℕ
  pub few : taken ≤ steps
  pub reported_are : AreReported reported taken
  pub stops : (taken ≡ steps) ⊎ HearsFull heard

-- The report of the worker of this number, of which a gate heard. Its steps are reported if its copy is of the right size
pub record IsOfWorker (heard : ℕ → ℕ → Reply → Type 0) (reported : ℕ → Progress → Type 0) (sized : Type 0) (steps worker : ℕ)
    (report : Report) : Type 0 where
  pub heard_is : IsHeard (heard worker) report
  pub reported_is : sized → ReportsSteps (reported worker) (heard worker) steps

-- the reports of these, in their order
abbrev pub AreOf : {A : Type 0} → (A → Report → Type 0) → List A → List Report → Type 0
AreOf is [] [] = Unit {0}
AreOf is (x ∷ xs) (r ∷ rs) = is x r × AreOf is xs rs
AreOf is _ _ = ⊥
