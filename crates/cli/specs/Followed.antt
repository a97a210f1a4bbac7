-- The files that follow an improvement.
use Rattle.std.specs.Prelude.{◌≡◌, ◌⊎◌, ℕ, ⊤, Bool, false, true, List, Option, Some, None}
use Rattle.byte_streams.specs.declared.writer_sink.WriterSink.{WriterSink}
use Rattle.improvement.specs.declared.watcher.LegEnded.{LegEnded}
use Rattle.cli.specs.declared.follower.Followed.{Followed}
use Rattle.cli.specs.declared.leg_log.LegLog.{LegLog}
use Rattle.cli.specs.LegLog.{IsAdded, IsTorn}

-- whether there is such a file, and it ever couldn't be written
abbrev pub has_failed : {F : Type 0} → Option (Followed F) → Bool
has_failed None = false
has_failed (Some followed) = followed.failed

-- if there is a log, it has the leg's line behind what it had, or else it is noted that it couldn't be written
abbrev pub IsLogged : {C F : Type 0} → (WriterSink F → Option (List ℕ)) → LegEnded → Option (Followed (LegLog C F)) →
    Option (Followed (LegLog C F)) → Type 0
IsLogged held leg None None = ⊤
IsLogged held leg None (Some new) = ⊥
IsLogged held leg (Some old) None = ⊥
IsLogged held leg (Some old) (Some new) =
    (IsAdded held old.file new.file leg × (new.failed ≡ old.failed)) ⊎ (IsTorn held old.file new.file leg × (new.failed ≡ true))
