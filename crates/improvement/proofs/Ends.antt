-- The end of an improvement: what is written when all legs were reported, and what the sink has got.
use Rattle.std.proofs.Common.{◌≡◌, ℕ, ◌≤◌, Bool, true, List, [], ◌++◌, length, All, Option, Result, Ok, Err, refl, sym, ◌∙◌, ap, subst, inl, inr, arith}
use Rattle.std.specs.Borrow.{MutBor}
use Rattle.std.specs.Io.KnownBytes.{Appends}
use Rattle.league.specs.League.{IsLeague, LeagueData}
use Rattle.fixture_board.specs.declared.best.Best.{Best}
use Rattle.choices.specs.Limits.{max_room}
use Rattle.fixture_board.specs.History.{best_of}
use Rattle.fixture_board.proofs.Next.{IsLegal-within}
use Rattle.fixture_board.specs.Record.{Book}
use Rattle.byte_streams.specs.declared.buffered.BufferedSink.{BufferedSink}
use Rattle.byte_streams.specs.declared.tally.Tally.{Tally}
use Rattle.byte_streams.specs.Writing.{Adds, IsFreshOver, Stops, waiting_in}
use Rattle.byte_streams.proofs.Pieces.{Adds-stops, Adds-then}
use Rattle.byte_streams.proofs.Sendings.{AppendsAllBut-all}
use Rattle.board_texts.specs.SearchText.{PlaysBack, improved_text}
use Rattle.board_texts.proofs.ForCallers.{plays_back}
use Rattle.improvement.specs.declared.reported.Reported.{Reported}
use Rattle.improvement.specs.declared.plan.ImproveFault.{ImproveFault}
use Rattle.improvement.specs.declared.plan.ImproveFault.TheVariants.{Workers, Memory, Write}
use Rattle.improvement.specs.declared.plan.ImprovePlan.{ImprovePlan}
use Rattle.improvement.specs.Broken.{broken_text}
use Rattle.improvement.specs.within.Chains.{IsInLeague}
use Rattle.improvement.specs.Legs.{AreLegs, IsWorkers, LegRun, lead_of, room_of}
use Rattle.improvement.specs.LegText.{improve_text, legs_text}
use Rattle.improvement.specs.Outcome.{Improves}
use Rattle.improvement.specs.within.Settings.{MayRefuse}
use Rattle.improvement.specs.within.UnderWay.{EndsBy, HasStopped, HasWritten, Sends, end_text}
use Rattle.improvement.proofs.RunAll.{HasRunAll}
use Rattle.improvement.proofs.Bests.{chains_in}
use Rattle.improvement.proofs.Leads.{lead_legal}
use Rattle.improvement.proofs.Rooms.{IsLegal-fits}

ending_is : (league : LeagueData) (history : Bool) (legs : List LegRun) → improve_text league history true legs ≡
    legs_text league legs ++ (broken_text league legs ++ improved_text history league (lead_of league legs))
unfolding improve_text
ending_is league history legs = refl

module _ {W : Type 0} (held : W → Option (List ℕ)) (tally : W → Tally) (start : Book) (plan : ImprovePlan) where
  -- the texts of all legs, and that
  text_is : (a x : BufferedSink W) (reported : Reported) (all : HasRunAll held tally start plan a x reported) →
      legs_text start.league all.legs ++ end_text plan.history reported ≡ improve_text start.league plan.history true all.legs
  text_is a x reported all =
      let is = all.told.reported_is in rw (is.lead_is, is.least_is, is.chains_is) (sym (ending_is start.league plan.history all.legs))

  -- the chains have schedules of the league's teams
  pub reported_in : {a x : BufferedSink W} (reported : Reported) → HasRunAll held tally start plan a x reported →
      All (IsInLeague reported.lead.league) reported.chains.bests.items
  reported_in reported all = let is = all.told.reported_is in rw (is.lead_is, is.chains_is) (chains_in start.league start.room all.legs all.told.are)

  pub end_stops : {a x y : BufferedSink W} (reported : Reported) → HasRunAll held tally start plan a x reported →
      Stops held tally x y (end_text plan.history reported) → HasStopped held tally start plan a y
  end_stops {a} {x} {y} reported all stops = record {
    legs = all.legs;
    are = all.told.are;
    ended = true;
    all = λ ended. all.all;
    stops = subst (Stops held tally a y) (text_is a x reported all) (Adds-stops all.told.sends.adds stops);
  }

  pub end_written : {a x y : BufferedSink W} (reported : Reported) (best : Option Best) → HasRunAll held tally start plan a x reported →
      Adds held tally x y (end_text plan.history reported) → waiting_in y ≡ [] →
      best ≡ best_of reported.lead.league reported.lead.history → HasWritten held tally start plan a y best
  end_written {a} {x} {y} reported best all adds none best_is = record {
    legs = all.legs;
    are = all.told.are;
    all = all.all;
    best_is = best_is ∙ ap (λ (b : Book). best_of b.league b.history) all.told.reported_is.lead_is;
    sends = record { adds = subst (Adds held tally a y) (text_is a x reported all) (Adds-then all.told.sends.adds adds); sent = none };
  }

-- ---- what the sink has got

-- nothing
pub refused : {W : Type 0} (held : W → Option (List ℕ)) (tally : W → Tally) (league : LeagueData) (plan : ImprovePlan) (sink : W)
    (fault : ImproveFault) → MayRefuse plan fault → Improves held tally league plan sink sink (Err fault)
refused held tally league plan sink Workers wrong = (wrong, refl)
refused held tally league plan sink Memory workers = (workers, inl refl)
refused held tally league plan sink Write never = absurd never

module _ {W : Type 0} (held : W → Option (List ℕ)) (tally : W → Tally) (start : Book) (plan : ImprovePlan) (sink : MutBor W)
    (limits : IsLeague start.league) (workers : IsWorkers plan)
    (room_is : start.room ≡ room_of plan.effort) where
  sent : (a b : BufferedSink W) (text : List ℕ) → IsFreshOver sink a → Sends held tally start plan a b text →
      Appends (held sink.now) (held b.sink.now) text
  sent a b text fresh sends =
      rw (← fresh.unchanged) (AppendsAllBut-all _ _ _ (rw (fresh.waiting, sends.sent) at sends.adds.sent))

  in_room : (legs : List LegRun) → AreLegs start.league start.room legs → AreLegs start.league (room_of plan.effort) legs
  in_room legs are = subst (λ (room : ℕ). AreLegs start.league room legs) room_is are

  fits : (legs : List LegRun) → AreLegs start.league start.room legs → length (lead_of start.league legs) ≤ max_room
  fits legs are =
      omega (
        arith,
        IsLegal-within start.league (room_of plan.effort) (lead_of start.league legs)
            (lead_legal start.league (room_of plan.effort) legs (in_room legs are)),
      )

  again : (legs : List LegRun) → AreLegs start.league start.room legs → (room : ℕ) → length (lead_of start.league legs) ≤ room →
      PlaysBack start.league room (lead_of start.league legs)
  again legs are room within =
      plays_back start.league room _ limits
      (IsLegal-fits start.league start.room room _ (lead_legal start.league start.room legs are) within)

  ends_at : (a b : BufferedSink W) (r : Result (Option Best) ImproveFault) → IsFreshOver sink a →
      EndsBy held tally start plan a b (HasWritten held tally start plan a b) r →
      Improves held tally start.league plan sink.now b.sink.now r
  ends_at a b (Ok best) fresh ends = (
    workers,
    improve_text start.league plan.history true ends.legs,
    record {
      legs = ends.legs;
      are = in_room ends.legs ends.are;
      all = ends.all;
      text_is = refl;
      best_is = ends.best_is;
      fits = fits ends.legs ends.are;
      again = again ends.legs ends.are;
    },
    sent a b _ fresh ends.sends,
  )
  ends_at a b (Err Workers) fresh ends = absurd ends
  ends_at a b (Err Memory) fresh ends = (
    workers,
    inr (
      legs_text start.league ends.legs,
      record { legs = ends.legs; are = in_room ends.legs ends.are; text_is = refl },
      sent a b _ fresh ends.sends,
    ),
  )
  ends_at a b (Err Write) fresh ends = (
    workers,
    improve_text start.league plan.history ends.ended ends.legs,
    record {
      legs = ends.legs;
      are = in_room ends.legs ends.are;
      ended = ends.ended;
      all = ends.all;
      text_is = refl;
    },
    rw (← fresh.unchanged) (rw fresh.waiting at ends.stops.prefix),
    rw (← fresh.unchanged) ends.stops.cause,
  )

  -- at another name of the sink
  pub improves : (a b : BufferedSink W) (r : Result (Option Best) ImproveFault) (after : W) → IsFreshOver sink a →
      EndsBy held tally start plan a b (HasWritten held tally start plan a b) r → b.sink.now ≡ after →
      Improves held tally start.league plan sink.now after r
  improves a b r after fresh ends same =
      subst (λ (x : W). Improves held tally start.league plan sink.now x r) same (ends_at a b r fresh ends)
