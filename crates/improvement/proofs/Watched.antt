-- What stands at the sink when a leg is reported.
use Rattle.std.proofs.Common.{◌≡◌, ℕ, ◌+◌, Bool, if◌then◌else◌, List, [], ◌∷◌, length, Option, Some, None, refl, sym, ◌∙◌, ap, subst, subst₂, arith}
use Rattle.std.specs.Io.KnownBytes.{Appends}
use Rattle.league.specs.League.{LeagueData}
use Rattle.fixture_board.specs.Record.{Book}
use Rattle.byte_streams.specs.declared.buffered.BufferedSink.{BufferedSink}
use Rattle.byte_streams.specs.declared.tally.Tally.{Tally}
use Rattle.byte_streams.specs.Writing.{waiting_in}
use Rattle.byte_streams.proofs.Sendings.{AppendsAllBut-all}
use Rattle.annealing.specs.declared.chain.Annealed.{Annealed}
use Rattle.annealing.specs.declared.unit.Unit.{Unit as Measure}
use Rattle.annealing.specs.Walks.{IsUnitOf}
use Rattle.improvement.specs.declared.legs.Assignment.{Assignment}
use Rattle.improvement.specs.declared.plan.ImprovePlan.{ImprovePlan}
use Rattle.improvement.specs.declared.reported.Reported.{Reported}
use Rattle.improvement.specs.declared.reported_leg.ReportedLeg.{ReportedLeg}
use Rattle.improvement.specs.declared.watcher.LegEnded.{LegEnded}
use Rattle.improvement.specs.declared.watcher.Written.{Written}
use Rattle.improvement.specs.Legs.{AreLegs, LegRun, room_of}
use Rattle.improvement.specs.LegText.{legs_text}
use Rattle.improvement.specs.Watched.{HasLines, IsNewest, ended_as, takes_lead}
use Rattle.improvement.specs.within.UnderWay.{HasReported, HasTold, run_of}

-- a leg that is reported with this number
abbrev pub told_as : ℕ → Assignment → Annealed → ReportedLeg
told_as number assignment now = record { number = number; chain = assignment.chain; leg = assignment.leg; end = now.end }

pub newest_is : (start : Book) (unit : Measure) (legs : List LegRun) (reported new : Reported) (assignment : Assignment) (now : Annealed)
    (leg : LegEnded) (improves : Bool) (better : Option Book) → HasReported start legs reported → HasReported start (run_of assignment now ∷ legs) new →
    leg ≡ ended_as unit (told_as new.legs assignment now) new.least →
    improves ≡ takes_lead reported.lead.league reported.legs reported.lead.history now.chain.board.history →
    better ≡ (if improves then Some new.lead else None) → IsNewest start.league start.room unit (run_of assignment now ∷ legs) leg better
newest_is start unit legs reported new assignment now leg improves better is is' ended improves_is shows =
    let number : new.legs ≡ length legs + 1 = omega (arith, is'.count) in (
      ended ∙ ap (λ (number : ℕ). ended_as unit (told_as number assignment now) new.least) number ∙ rw is'.least_is refl,
      shows ∙ rw (improves_is, is'.lead_is, is.lead_is, is.count) refl,
    )

module _ {W : Type 0} (held : W → Option (List ℕ)) (tally : W → Tally) (start : Book) (plan : ImprovePlan) (unit : Measure)
    (unit_is : IsUnitOf start.league unit) (room_is : start.room ≡ room_of plan.effort) where
  pub has_lines : (a b : BufferedSink W) (written : Written W) (leg : LegEnded) (better : Option Book) (legs : List LegRun)
      (reported : Reported) → HasTold held tally start plan a b legs reported → waiting_in a ≡ [] → written.league.now ≡ start.league → written.plan ≡ plan →
      written.lent.now.value ≡ a → written.now.value ≡ b → IsNewest start.league start.room unit legs leg better →
      HasLines held written leg better
  has_lines a b written leg better legs reported told none league plan_is lent now newest = record {
    text = legs_text start.league legs;
    texts = record {
      legs = legs;
      are = subst₂ (λ (l : LeagueData) (p : ImprovePlan). AreLegs l (room_of p.effort) legs) (sym league) (sym plan_is)
          (subst (λ (room : ℕ). AreLegs start.league room legs) room_is told.are);
      text_is = ap (λ (l : LeagueData). legs_text l legs) (sym league);
    };
    unit = unit;
    unit_is = subst (λ (l : LeagueData). IsUnitOf l unit) (sym league) unit_is;
    newest = subst₂ (λ (l : LeagueData) (p : ImprovePlan). IsNewest l (room_of p.effort) unit legs leg better) (sym league) (sym plan_is)
        (subst (λ (room : ℕ). IsNewest start.league room unit legs leg better) room_is newest);
    stands = subst₂ (λ (x y : BufferedSink W). Appends (held x.sink.now) (held y.sink.now) (legs_text start.league legs))
        (sym lent) (sym now) (AppendsAllBut-all _ _ _ (rw (none, told.sends.sent) at told.sends.adds.sent));
  }
