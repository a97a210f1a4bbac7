-- A job on an input that was read to its end, or that could not be read.
use Rattle.std.proofs.Common.{◌≡◌, ◌≤◌, ◌+◌, ◌<◌, ℕ, List, length, Option, None, Result, Ok, Err, refl}
use mathlib.Core.Logic.{inl, inr}
use Rattle.std.specs.Io.KnownBytes.{Consumes, IsAtEnd}
use Rattle.byte_streams.specs.Limits.{input_limit, read_limit}
use Rattle.byte_streams.specs.Reading.{StopsPast, StopsWithin}
use Rattle.byte_streams.specs.declared.reading.ReadFault.{ReadFault}
use Rattle.byte_streams.specs.declared.reading.ReadFault.TheVariants as reading
use Rattle.byte_streams.specs.declared.tally.Tally.{Tally}
use Rattle.options.specs.declared.job.Job.{Job}
use Rattle.options.specs.declared.job.Job.TheVariants.{Start, Play, Improve, Find, Report, League as Make, Bound}
use Rattle.commands.specs.declared.fault.ProgramFault.{ProgramFault}
use Rattle.commands.specs.declared.fault.ProgramFault.TheVariants.{Read, TooLong, League, Begin, Row, Distances, NoSheet, Room, Workers, Spawn, Receipts, Write, Memory}
use Rattle.commands.specs.within.Fault.{of_reading}
use Rattle.commands.specs.Outcome.{EndsBy}
use Rattle.cli.specs.declared.jobs.Ending.{Ending}
use Rattle.cli.specs.Program.{EndsJob, EndsJobOn}

-- no job on an input that was read ends as if it couldn't be
module _ {W : Type 0} (held : W → Option (List ℕ)) (pushes : W → Tally) (bytes : List ℕ) (before after : W) (told : Option Ending)
    (title : Option (List ℕ)) where
  not_unread : (job : Job) → EndsJobOn held pushes bytes None None title job told before after (Err Read) → ⊥
  not_unread Start ends = ends.0
  not_unread (Play room) ends = ends.0
  not_unread (Improve workers seed effort seconds history) ends = ends.0
  not_unread (Find room plan) ends = ends.0
  not_unread (Report format) ends = ends.0
  not_unread (Make choice at_most hard_weight) ends = ends.0
  not_unread Bound ends = ends.0

  not_long : (job : Job) → EndsJobOn held pushes bytes None None title job told before after (Err TooLong) → ⊥
  not_long Start ends = ends.0
  not_long (Play room) ends = ends.0
  not_long (Improve workers seed effort seconds history) ends = ends.0
  not_long (Find room plan) ends = ends.0
  not_long (Report format) ends = ends.0
  not_long (Make choice at_most hard_weight) ends = ends.0
  not_long Bound ends = ends.0

-- a read has one fault
not_both : {A : Type 0} (result : Result A ReadFault) → result ≡ Err reading.TooLong → result ≡ Err reading.Read → ⊥
not_both result long unread = cc

not_memory : {A : Type 0} (result : Result A ReadFault) → result ≡ Err reading.Memory → result ≡ Err reading.Read → ⊥
not_memory result memory unread = cc

-- a source before and after it was read, and how often
module _ {R W : Type 0} (left : R → Option (List ℕ)) (pulls : R → Tally) (held : W → Option (List ℕ)) (pushes : W → Tally)
    (title : Option (List ℕ)) (job : Job) (old new : R) (calls : (pulls new).calls ≤ (pulls old).calls + read_limit) where
  module _ (bytes : List ℕ) (told : Option Ending) (before after : W) (taken : Consumes (left old) (left new) bytes)
      (ended : IsAtEnd (left new)) (within : length bytes ≤ input_limit) where
    by_result : (result : Result Unit ProgramFault) → EndsJobOn held pushes bytes None None title job told before after result
        → EndsBy left pulls (λ b. EndsJobOn held pushes b None None title job told) old new before after result
    by_result (Ok done) ends = record { bytes = bytes; taken = taken; ended = ended; within = within; ends_so = ends }
    by_result (Err Read) ends = absurd (not_unread held pushes bytes before after told title job ends)
    by_result (Err TooLong) ends = absurd (not_long held pushes bytes before after told title job ends)
    by_result (Err Memory) ends = inr (record { bytes = bytes; taken = taken; ended = ended; within = within; ends_so = ends })
    by_result (Err (League fault)) ends = record { bytes = bytes; taken = taken; ended = ended; within = within; ends_so = ends }
    by_result (Err (Begin fault)) ends = record { bytes = bytes; taken = taken; ended = ended; within = within; ends_so = ends }
    by_result (Err (Row fault)) ends = record { bytes = bytes; taken = taken; ended = ended; within = within; ends_so = ends }
    by_result (Err (Distances fault)) ends = record { bytes = bytes; taken = taken; ended = ended; within = within; ends_so = ends }
    by_result (Err NoSheet) ends = record { bytes = bytes; taken = taken; ended = ended; within = within; ends_so = ends }
    by_result (Err Room) ends = record { bytes = bytes; taken = taken; ended = ended; within = within; ends_so = ends }
    by_result (Err Workers) ends = record { bytes = bytes; taken = taken; ended = ended; within = within; ends_so = ends }
    by_result (Err Spawn) ends = record { bytes = bytes; taken = taken; ended = ended; within = within; ends_so = ends }
    by_result (Err Receipts) ends = record { bytes = bytes; taken = taken; ended = ended; within = within; ends_so = ends }
    by_result (Err Write) ends = record { bytes = bytes; taken = taken; ended = ended; within = within; ends_so = ends }

    -- what the job comes to on the input is what it comes to between the source and the sink
    pub on_input : (result : Result Unit ProgramFault) → ((pulls old).failed < (pulls new).failed → ⊥)
        → EndsJobOn held pushes bytes None None title job told before after result
        → EndsJob left pulls held pushes title job told old new before after result
    on_input result none_failed ends =
        record { ending = by_result result ends; failed_read = λ failed. absurd (none_failed failed); reads = calls }

  -- an input that couldn't be read ends the job before it wrote
  pub unread : {A : Type 0} (sink : W) (result : Result A ReadFault) (fault : ReadFault) → result ≡ Err fault
      → (result ≡ Err reading.TooLong → StopsPast left pulls input_limit old new)
      → (result ≡ Err reading.Read → StopsWithin left pulls input_limit read_limit old new)
      → ((pulls old).failed < (pulls new).failed → result ≡ Err reading.Read)
      → EndsJob left pulls held pushes title job None old new sink sink (Err (of_reading fault))
  unread sink result reading.Read is too_long read failed =
      record { ending = (read is, refl); failed_read = λ h. refl; reads = calls }
  unread sink result reading.TooLong is too_long read failed =
      record { ending = (too_long is, refl); failed_read = λ h. absurd (not_both result is (failed h)); reads = calls }
  unread sink result reading.Memory is too_long read failed =
      record { ending = inl refl; failed_read = λ h. absurd (not_memory result is (failed h)); reads = calls }
