use Rattle.std.proofs.Common.{◌≡◌, ℕ, Bool, true, List, Option, Result, Ok, Err, OnErr, inl, inr, refl, sym, ◌∙◌, subst}
use Rattle.std.specs.Result.{is_err}
use Rattle.byte_streams.specs.declared.writer_sink.WriterSink.{WriterSink}
use Rattle.byte_streams.proofs.Sendings.{AppendsAllBut-refl}
use Rattle.improvement.specs.declared.watcher.LegEnded.{LegEnded}
use Rattle.cli.specs.declared.leg_log.LegLog.{LegLog}
use Rattle.byte_streams.specs.Sending.{AppendsPrefix}
use Rattle.cli.specs.LegLog.{leg_line, IsTorn}
use Rattle.cli.proofs.leg_log.LegLog.add.Goals as goal

untouched : {C F T E : Type 0} (held : WriterSink F → Option (List ℕ)) (log : LegLog C F) (leg : LegEnded) (result : Result T E)
    → OnErr result (IsTorn held log log leg)
untouched held log leg (Ok x) = tt
untouched held log leg (Err e) = record { n = 0; line = (_, AppendsAllBut-refl _ _); torn = inr refl }

pub returns-in_err-now-clause-torn : goal.returns-in_err-now-clause-torn
returns-in_err-now-clause-torn g c = untouched _ _ _ _

-- what holds after an error, after one
after_an_error : {T E P : Type 0} (r : Result T E) → is_err r ≡ true → OnErr r P → P
after_an_error (Ok x) is holds = cc
after_an_error (Err e) is holds = holds

torn_off : {C F T E : Type 0} (held : WriterSink F → Option (List ℕ)) (old new : LegLog C F) (leg : LegEnded) (n : ℕ) (torn : Bool)
    (r : Result T E) → is_err r ≡ true → OnErr r (AppendsPrefix (held old.sink) (held new.sink) (leg_line torn n leg)) → torn ≡ old.torn
    → new.torn ≡ true → IsTorn held old new leg
torn_off held old new leg n torn r is line same now = record {
  n = n;
  line = subst (λ torn. AppendsPrefix (held old.sink) (held new.sink) (leg_line torn n leg)) same (after_an_error r is line);
  torn = inl now;
}

pub returns-then-is_err-clause-torn : goal.returns-then-is_err-clause-torn
returns-then-is_err-clause-torn g c =
    torn_off _ _ _ _ _ _ c.write_leg.result (sym c.is_err.ensures.value ∙ c.if-is_err.true) c.write_leg.ensures.prefix
    c.replace-torn.ensures.value c.replace-torn.ensures.after
