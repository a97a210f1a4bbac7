use Rattle.std.proofs.Common.{◌≡◌, ◌⊎◌, ℕ, true, List, Option, Result, Ok, Err, OnOk, OnErr, inl, inr, sym, subst}
use Rattle.byte_streams.specs.declared.writer_sink.WriterSink.{WriterSink}
use Rattle.improvement.specs.declared.watcher.LegEnded.{LegEnded}
use Rattle.cli.specs.declared.follower.Followed.{Followed}
use Rattle.cli.specs.declared.leg_log.LegLog.{LegLog}
use Rattle.cli.specs.LegLog.{IsAdded, IsTorn}
use Rattle.cli.proofs.follower.log_leg.Goals as goal

noted : {C F T E : Type 0} (held : WriterSink F → Option (List ℕ)) (leg : LegEnded) (outcome : Result T E) (old new : Followed (LegLog C F))
    (log : LegLog C F) → OnOk outcome (IsAdded held old.file log leg) → OnErr outcome (IsTorn held old.file log leg) → new.file ≡ log
    → OnErr outcome (new.failed ≡ true) → OnOk outcome (new.failed ≡ old.failed)
    → (IsAdded held old.file new.file leg × (new.failed ≡ old.failed)) ⊎ (IsTorn held old.file new.file leg × (new.failed ≡ true))
noted held leg (Ok x) old new log added torn same failed kept = inl (subst (λ file. IsAdded held old.file file leg) (sym same) added, kept)
noted held leg (Err e) old new log added torn same failed kept = inr (subst (λ file. IsTorn held old.file file leg) (sym same) torn, failed)

pub returns-in-Some : goal.returns-in-Some
returns-in-Some g c = rw (c.in-Some.is)
    (noted _ c.args.leg c.add-outcome.result c.in-Some.log c.note.new.self c.add-outcome.new.self c.add-outcome.ensures.added
    c.add-outcome.ensures.torn c.note.ensures.file c.note.ensures.failed c.note.ensures.same)
