-- What a call of a `BufferedSink` does.
use Rattle.std.specs.Prelude.{◌≡◌, ◌++◌, ℕ, List, [], Option, Result, IsOk, OnOk, OnErr}
use Rattle.std.specs.Borrow.{MutBor}
use Rattle.byte_streams.specs.declared.tally.Tally.{Tally}
use Rattle.byte_streams.specs.declared.buffered.BufferedSink.{BufferedSink}
use Rattle.byte_streams.specs.Limits.{write_limit}
use Rattle.byte_streams.specs.Sending.{AppendsAllBut, AppendsPrefix}
use Rattle.byte_streams.specs.Tally.{NotBelow, FailsWriting}

-- the bytes that wait
abbrev pub waiting_in : {S : Type 0} → BufferedSink S → List ℕ
waiting_in buffer = buffer.waiting.items

-- the piece fits beside what waits: it waits as well, and nothing goes out
pub record Waits {S T E : Type 0} (old new : BufferedSink S) (result : Result T E) (piece : List ℕ) : Type 0 where
  pub succeeds : IsOk result
  pub same_sink : new.sink.ghost_name ≡ old.sink.ghost_name
  pub unchanged : new.sink.now ≡ old.sink.now
  pub waiting : waiting_in new ≡ waiting_in old ++ piece

-- the sink is as it was, and nothing waits
pub record IsFreshOver {S : Type 0} (sink : MutBor S) (buffer : BufferedSink S) : Type 0 where
  pub same_sink : buffer.sink.ghost_name ≡ sink.ghost_name
  pub unchanged : buffer.sink.now ≡ sink.now
  pub waiting : waiting_in buffer ≡ []

module _ {S : Type 0} (held : S → Option (List ℕ)) (tally : S → Tally) (old new : BufferedSink S) where
  -- the piece was added: the sink got, in order, what waited and the piece, but for what waits now
  pub record Adds (piece : List ℕ) : Type 0 where
    pub same_sink : new.sink.ghost_name ≡ old.sink.ghost_name
    pub sent : AppendsAllBut (held old.sink.now) (held new.sink.now) (waiting_in old ++ piece) (waiting_in new)
    pub counts : NotBelow (tally old.sink.now) (tally new.sink.now)

  -- a write failed: the sink got a prefix of what waited and the piece, and nothing waits
  pub record Stops (piece : List ℕ) : Type 0 where
    pub same_sink : new.sink.ghost_name ≡ old.sink.ghost_name
    pub prefix : AppendsPrefix (held old.sink.now) (held new.sink.now) (waiting_in old ++ piece)
    pub dropped : waiting_in new ≡ []
    pub cause : FailsWriting write_limit (tally old.sink.now) (tally new.sink.now)
    pub counts : NotBelow (tally old.sink.now) (tally new.sink.now)

  -- at `Ok` the piece was added, and at `Err` a write failed
  pub record Writes {T E : Type 0} (result : Result T E) (piece : List ℕ) : Type 0 where
    pub ok : OnOk result (Adds piece)
    pub err : OnErr result (Stops piece)
