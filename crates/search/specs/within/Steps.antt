-- The steps of a worker.
use Rattle.std.specs.Prelude.{◌≡◌, ◌≢◌, ◌⊎◌, ℕ, ◌+◌, ◌-◌, ◌*◌, ◌/◌, ◌^◌, ◌==◌, min, if◌then◌else◌, Bool, true, false, IsTrue}
use Rattle.std.specs.Prelude.{List, Option, Some, None, Ok}
use Rattle.rand_pcg.specs.Lcg.{Lcg, increment_of, started}
use Rattle.rand_pcg.specs.Pcg.{multiplier_64}
use Rattle.league.specs.League.{LeagueData}
use Rattle.fixture_board.specs.declared.ask.Proposal.{Proposal}
use Rattle.fixture_board.specs.declared.change.Entry.{Entry}
use Rattle.fixture_board.specs.declared.reply.Reply.{Reply}
use Rattle.fixture_board.specs.declared.reply.Reply.TheVariants.{Done, No}
use Rattle.fixture_board.specs.declared.reply.Why.TheVariants as why
use Rattle.fixtures.specs.Games.{Games}
use Rattle.fixtures.specs.declared.exchanges.Exchange.{Exchange}
use Rattle.moves.specs.declared.moves.Move.{Move}
use Rattle.moves.specs.ExchangeOf.{IsExchangeOf}
use Rattle.fixtures.specs.Kept.{moves_one_of}
use Rattle.moves.specs.Moves.{fault_of, moved}
use Rattle.costs.specs.declared.cost.Cost.{Cost}
use Rattle.costs.specs.Costs.{cost_of, score_of}
use Rattle.search.specs.Doors.{Replies}
use Rattle.draws.specs.declared.gates.Progress.{Progress}
use Rattle.search.specs.declared.workers.Report.{Report}
use Rattle.search.specs.declared.workers.steps.StepResult.{StepResult}
use Rattle.search.specs.declared.workers.steps.Candidate.{Candidate}
use Rattle.search.specs.declared.workers.steps.StepResult.TheVariants.{Nothing, Accepted, Refused, Full}

-- the slack of step s: at the first step it is all of it, and from each step to the next it falls by one part of as many
-- as there are steps
abbrev pub slack_of : ℕ → ℕ → ℕ → ℕ
slack_of slack steps s = slack * (steps - s) / steps

-- the generator of a seed, with the stream of the worker's number
abbrev pub generator_of : ℕ → ℕ → Lcg
generator_of seed worker = started 64 multiplier_64 seed (increment_of 64 worker)

-- how many of its proposals a step had accepted
abbrev pub accepted_count : StepResult → ℕ
accepted_count Nothing = 0
accepted_count (Accepted cost) = 1
accepted_count Refused = 0
accepted_count Full = 0

-- the step proposed something
abbrev pub IsProposed : StepResult → Type 0
IsProposed Nothing = ⊥
IsProposed _ = Unit {0}

-- the report with one more step
abbrev pub report_with : Report → StepResult → Report
report_with r Nothing = r
report_with r (Accepted cost) = record { made = r.made + 1; accepted = r.accepted + 1; refused = r.refused }
report_with r _ = record { made = r.made + 1; accepted = r.accepted; refused = r.refused + 1 }

-- the lesser of a total and one more
abbrev pub lesser : Option ℕ → ℕ → ℕ
lesser None total = total
lesser (Some least) total = min least total

-- the least total of feasible versions, with one more version's cost. A total stops at the greatest `u64`
abbrev pub least_with : Option ℕ → Cost → Option ℕ
least_with least cost = if cost.hard == 0 then Some (lesser least (min (cost.travel + cost.soft) (2 ^ 64 - 1))) else least

-- how far a worker is after one more step
abbrev pub progress_with : Progress → StepResult → Progress
progress_with p (Accepted cost) = record { steps = p.steps + 1; least = least_with p.least cost }
progress_with p _ = record { steps = p.steps + 1; least = p.least }

-- what there was to report was reported, or it is still to be reported
abbrev pub IsReportedBefore : (Progress → Type 0) → (before after : Progress) → Type 0
IsReportedBefore reported before after = (after ≡ before) ⊎ (reported before × (after ≡ record before { steps = 0 }))

-- what there was to report was reported
abbrev pub IsReported : (Progress → Type 0) → Progress → Type 0
IsReported reported p = (p.steps ≡ 0) ⊎ reported p

-- what the reply to a step's proposal makes of the step
abbrev pub IsResultOf : Reply → StepResult → Type 0
IsResultOf (Done at cost) step_result = step_result ≡ Accepted cost
IsResultOf (No at reason) step_result = ((reason ≡ why.Full) × (step_result ≡ Full)) ⊎ ((reason ≢ why.Full) × (step_result ≡ Refused))

-- a proposal of the candidate's move, for this version and with this score as claim
abbrev pub proposal_of : ℕ → Candidate → ℕ → Proposal
proposal_of version candidate score = record { version = version; mv = candidate.mv; claim = Some score; slack = candidate.slack }

-- what a step may propose: its claim is the score of the copy after the move
abbrev pub asked_of : LeagueData → Games → ℕ → Candidate → Proposal
asked_of league copy version candidate = proposal_of version candidate (score_of league (cost_of league (moved copy candidate.mv)))

-- a reply to the proposal was heard, from a board that may be had, and the step is what it makes of it
pub record IsAnswered (heard : Reply → Type 0) (may_have : LeagueData → ℕ → Type 0) (caller : ℕ) (seen : List Entry)
    (proposal : Proposal) (step_result : StepResult) : Type 0 where
  pub reply : Reply
  pub is_heard : heard reply
  pub result_is : IsResultOf reply step_result
  pub after : List Entry
  pub replied : Replies may_have caller seen proposal reply after

-- each board that may be had is of this league, if it is said to be
abbrev pub IsScoring : Bool → LeagueData → (LeagueData → ℕ → Type 0) → Type 0
IsScoring of_boards league may_have = IsTrue of_boards → (other : LeagueData) (room : ℕ) → may_have other room → other ≡ league

-- whether the move would give another round to a game that the league keeps
abbrev pub moves_kept : LeagueData → Games → Move → Bool
moves_kept league g mv = moves_one_of g (moved g mv) league.origin.kept

-- the move is left out: it can't be made, or a kept game would get another round
abbrev pub IsLeftOut : LeagueData → Games → Move → Type 0
IsLeftOut league g mv = (fault_of g mv ≢ Ok tt) ⊎ (moves_kept league g mv ≡ true)

-- the exchange that the move is, which can be made, and leaves each kept game its round
abbrev pub IsAllowedExchange : LeagueData → Games → Move → Exchange → Type 0
IsAllowedExchange league g mv exchange = IsExchangeOf g mv exchange × (moves_kept league g mv ≡ false)

-- the cost and the score of the copy
pub record IsCopyCost (league : LeagueData) (copy : Games) (cost : Cost) (score : ℕ) : Type 0 where
  pub cost_is : cost ≡ cost_of league copy
  pub score_is : score ≡ score_of league cost
