-- How pieces written one after another to a `BufferedSink` make a text.
use Rattle.std.proofs.Common.{◌≡◌, ℕ, zero, suc, ◌+◌, ◌<◌, add-one, inl, inr, List, [], ◌++◌, Option, Result, Ok, Err}
use Rattle.std.proofs.Common.{OnOk, OnErr, IsErr, refl, sym, ◌∙◌, append_assoc, append-nil}
use Rattle.std.proofs.Math.Nat.{eq-or-lt_of_le, le_of_suc-le-suc, not-suc-le-zero}
use Rattle.std.specs.Io.KnownBytes.{Appends}
use Rattle.std.specs.Borrow.{MutBor}
use Rattle.byte_streams.specs.declared.tally.Tally.{Tally}
use Rattle.byte_streams.specs.declared.buffered.BufferedSink.{BufferedSink}
use Rattle.byte_streams.specs.declared.writing.TheConstants.{WRITE_LIMIT}
use Rattle.byte_streams.specs.Pieces.{pieces_below}
use Rattle.byte_streams.specs.Sending.{AppendsAllBut, AppendsPrefix}
use Rattle.byte_streams.specs.Tally.{NotBelow, FailsWriting}
use Rattle.byte_streams.specs.Writing.{Adds, Stops, Writes, IsFreshOver, waiting_in}
use Rattle.byte_streams.proofs.Counts.{NotBelow-refl, NotBelow-trans, FailsWriting-after}
use Rattle.byte_streams.proofs.Sendings.{AppendsAllBut-refl, AppendsAllBut-trans, AppendsAllBut-more, AppendsAllBut-all}

-- a prefix of what waited and the first piece, and then of the rest and the second
joined : (a b c : Option (List ℕ)) (waiting p q rest left : List ℕ) → AppendsAllBut a b (waiting ++ p) rest →
    AppendsAllBut b c (rest ++ q) left
    → AppendsAllBut a c (waiting ++ (p ++ q)) left
joined a b c waiting p q rest left first second =
    rw (← append_assoc waiting p q) (AppendsAllBut-trans a b c _ _ left (AppendsAllBut-more a b _ rest q first) second)

module _ {S : Type 0} {held : S → Option (List ℕ)} {tally : S → Tally} where
  pub Adds-nothing : (a : BufferedSink S) → Adds held tally a a []
  Adds-nothing a = record { same_sink = refl; sent = rw append-nil (AppendsAllBut-refl _ _); counts = NotBelow-refl _ }

  -- after a piece, another one
  pub Adds-then : {a b c : BufferedSink S} {p q : List ℕ} → Adds held tally a b p → Adds held tally b c q → Adds held tally a c (p ++ q)
  Adds-then {a} {b} {c} {p} {q} first second = record {
    same_sink = second.same_sink ∙ first.same_sink;
    sent = joined _ _ _ _ p q _ _ first.sent second.sent;
    counts = NotBelow-trans _ _ _ first.counts second.counts;
  }

  -- after a piece, one at which a write failed
  pub Adds-stops : {a b c : BufferedSink S} {p q : List ℕ} → Adds held tally a b p → Stops held tally b c q → Stops held tally a c (p ++ q)
  Adds-stops {a} {b} {c} {p} {q} first second = record {
    same_sink = second.same_sink ∙ first.same_sink;
    prefix = (second.prefix.0, joined _ _ _ _ p q _ _ first.sent second.prefix.1);
    dropped = second.dropped;
    cause = FailsWriting-after _ (tally a.sink.now) (tally b.sink.now) (tally c.sink.now) first.counts second.cause;
    counts = NotBelow-trans _ _ _ first.counts second.counts;
  }

  -- after a piece, one that was added or at which a write failed
  pub Adds-writes : {T E : Type 0} {a b c : BufferedSink S} {r : Result T E} {p q : List ℕ} → Adds held tally a b p
      → Writes held tally b c r q → Writes held tally a c r (p ++ q)
  Adds-writes {r = Ok x} first second = record { ok = Adds-then first second.ok; err = tt }
  Adds-writes {r = Err e} first second = record { ok = tt; err = Adds-stops first second.err }

  -- once a write failed, no more is written
  pub Stops-more : {a b : BufferedSink S} {p : List ℕ} (q : List ℕ) → Stops held tally a b p → Stops held tally a b (p ++ q)
  Stops-more {a} {b} {p} q w = record {
    same_sink = w.same_sink;
    prefix = (w.prefix.0 ++ q, rw (← append_assoc (waiting_in a) p q) (AppendsAllBut-more _ _ _ w.prefix.0 q w.prefix.1));
    dropped = w.dropped;
    cause = w.cause;
    counts = w.counts;
  }

  -- at the exit of a `?`
  pub Stops-writes : {T E : Type 0} {a b : BufferedSink S} {r : Result T E} {p : List ℕ} → IsErr r → Stops held tally a b p →
      Writes held tally a b r p
  Stops-writes {r = Ok x} err w = cc
  Stops-writes {r = Err e} err w = record { ok = tt; err = w }

  -- nothing waited, and the piece went past the buffer
  pub Writes-passed : {T E : Type 0} (a b : BufferedSink S) (r : Result T E) (p : List ℕ) → b.sink.ghost_name ≡ a.sink.ghost_name
      → waiting_in a ≡ [] → waiting_in b ≡ [] → OnOk r (Appends (held a.sink.now) (held b.sink.now) p)
      → OnErr r (AppendsPrefix (held a.sink.now) (held b.sink.now) p) →
      OnErr r (FailsWriting WRITE_LIMIT (tally a.sink.now) (tally b.sink.now))
      → NotBelow (tally a.sink.now) (tally b.sink.now) → Writes held tally a b r p
  Writes-passed a b (Ok x) p name before after ok prefix cause counts =
      let sent : AppendsAllBut (held a.sink.now) (held b.sink.now) p [] = record { sent = p; parts = sym (append-nil p); appended = ok } in
      record { ok = record { same_sink = name; sent = rw (before, after) sent; counts = counts }; err = tt }
  Writes-passed a b (Err e) p name before after ok prefix cause counts =
      record { ok = tt; err = record { same_sink = name; prefix = rw before prefix; dropped = after; cause = cause; counts = counts } }

  -- ---- loops that write the pieces of the numbers below a bound

  pub Adds-piece : {a b c : BufferedSink S} (piece : ℕ → List ℕ) (n : ℕ) → Adds held tally a b (pieces_below piece n)
      → Adds held tally b c (piece n) → Adds held tally a c (pieces_below piece (n + 1))
  Adds-piece piece n first second = rw add-one (Adds-then first second)

  -- a write failed in a piece below the bound
  pub Stops-in_pieces : {a b c : BufferedSink S} (piece : ℕ → List ℕ) (n bound : ℕ) → n < bound → Adds held tally a b (pieces_below piece n)
      → Stops held tally b c (piece n) → Stops held tally a c (pieces_below piece bound)
  Stops-in_pieces piece n zero below first second = absurd (not-suc-le-zero below)
  Stops-in_pieces {a} {b} {c} piece n (suc bound) below first second = elim (eq-or-lt_of_le (le_of_suc-le-suc below)) [
    | inl same ↦ rw (← same) (Adds-stops first second)
    | inr lower ↦ Stops-more (piece bound) (Stops-in_pieces piece n bound lower first second)
  ]

-- what a whole text does to a sink, as `write_all` says it
pub record Delivers {S T E : Type 0} (held : S → Option (List ℕ)) (tally : S → Tally) (old new : S) (result : Result T E)
    (text : List ℕ) : Type 0 where
  pub ok : OnOk result (Appends (held old) (held new) text)
  pub prefix : OnErr result (AppendsPrefix (held old) (held new) text)
  pub cause : OnErr result (FailsWriting WRITE_LIMIT (tally old) (tally new))
  pub counts : NotBelow (tally old) (tally new)

module _ {S : Type 0} {held : S → Option (List ℕ)} {tally : S → Tally} {sink : MutBor S} where
  -- a write failed before the end
  pub Stops-delivers : {T E : Type 0} {a b : BufferedSink S} {r : Result T E} {text : List ℕ} → IsFreshOver sink a → IsErr r →
      Stops held tally a b text
      → Delivers held tally sink.now b.sink.now r text
  Stops-delivers {r = Ok x} fresh err w = cc
  Stops-delivers {b} {r = Err e} {text} fresh err w =
      rw (← fresh.unchanged) (record { ok = tt; prefix = rw fresh.waiting at w.prefix; cause = w.cause; counts = w.counts })

  -- the text was added, and what waited was flushed
  pub Adds-delivers : {T E : Type 0} {a b c : BufferedSink S} {r : Result T E} {text : List ℕ} → IsFreshOver sink a →
      Adds held tally a b text
      → Writes held tally b c r [] → waiting_in c ≡ [] → Delivers held tally sink.now c.sink.now r text
  Adds-delivers {r = Ok x} {text} fresh added flushed none =
      let whole = rw append-nil at (Adds-then added flushed.ok) in
      let sent = rw (fresh.waiting, none) at whole.sent in
      rw (← fresh.unchanged) (record { ok = AppendsAllBut-all _ _ _ sent; prefix = tt; cause = tt; counts = whole.counts })
  Adds-delivers {r = Err e} {text} fresh added flushed none =
      Stops-delivers fresh refl (rw append-nil at (Adds-stops added flushed.err))
