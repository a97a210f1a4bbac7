-- What a reading does to the bytes that a source has left.
use Rattle.std.specs.Prelude.{◌≡◌, ◌<◌, ◌≤◌, ◌+◌, ℕ, List, Option, length}
use Rattle.std.specs.Io.KnownBytes.{Consumes}
use Rattle.byte_streams.specs.declared.tally.Tally.{Tally}
use Rattle.byte_streams.specs.declared.ends.Step.TheVariants.{Moved}
use Rattle.byte_streams.specs.Tally.{noted, FailsReading}

-- the last read alone brought what was taken over the limit, for a source whose bytes and calls are these
pub record StopsPast {S : Type 0} (left : S → Option (List ℕ)) (tally : S → Tally) (limit : ℕ) (old new : S) : Type 0 where
  pub middle : S
  pub before : List ℕ
  pub last : List ℕ
  pub taken : Consumes (left old) (left middle) before
  pub one_read : Consumes (left middle) (left new) last
  pub counted : tally new ≡ noted (tally middle) (Moved (length last))
  pub within : length before ≤ limit
  pub past : limit < length before + length last

-- a read failed or too many were made; one failed at most, none met the end, and what was taken is within the limit
pub record StopsWithin {S : Type 0} (left : S → Option (List ℕ)) (tally : S → Tally) (limit most : ℕ) (old new : S) : Type 0 where
  pub bytes : List ℕ
  pub taken : Consumes (left old) (left new) bytes
  pub within : length bytes ≤ limit
  pub cause : FailsReading most (tally old) (tally new)
  pub at_most_one : (tally new).failed ≤ (tally old).failed + 1
