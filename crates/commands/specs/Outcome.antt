-- How a command ends that writes a text.
use Rattle.std.specs.Prelude.{◌≡◌, ◌⊎◌, ◌+◌, ◌<◌, ◌≤◌, ℕ, List, Option, Some, None, Result, Ok, Err, length}
use Rattle.std.specs.Io.KnownBytes.{Consumes, IsAtEnd, Appends}
use Rattle.byte_streams.specs.Limits.{input_limit, read_limit, write_limit}
use Rattle.byte_streams.specs.declared.tally.Tally.{Tally}
use Rattle.byte_streams.specs.Reading.{StopsPast, StopsWithin}
use Rattle.byte_streams.specs.Sending.{AppendsPrefix}
use Rattle.byte_streams.specs.Tally.{FailsWriting}
use Rattle.commands.specs.declared.fault.ProgramFault.{ProgramFault}
use Rattle.commands.specs.declared.fault.ProgramFault.TheVariants.{Read, TooLong, Write, Memory}

-- A command answers texts that were read with the text that it writes, or with a fault that lies in them.
abbrev pub Answer : Type 1
Answer = Result (List ℕ) ProgramFault → Type 0

-- It answers an input by the texts in it.
abbrev pub Answers : Type 1
Answers = List ℕ → Answer

-- For a sink with these bytes held and these calls, and a command on texts that were read: the text that it writes went out whole on
-- success, and a prefix of it before a failed write; before every other fault nothing
module _ {W : Type 0} (held : W → Option (List ℕ)) (pushes : W → Tally) (answers : Answer) where
  abbrev pub EndsOn : W → W → Result Unit ProgramFault → Type 0
  EndsOn before after (Ok done) = (text : List ℕ) × answers (Ok text) × Appends (held before) (held after) text
  EndsOn before after (Err Write) = (text : List ℕ) × answers (Ok text) × AppendsPrefix (held before) (held after) text
      × FailsWriting write_limit (pushes before) (pushes after)
  EndsOn before after (Err Memory) = after ≡ before
  EndsOn before after (Err fault) = answers (Err fault) × (after ≡ before)

-- For a source with these bytes left and these calls, and how a command ends on the bytes of an input
module _ {R W : Type 0} (left : R → Option (List ℕ)) (pulls : R → Tally) (ends : List ℕ → W → W → Result Unit ProgramFault → Type 0) where
  -- the source was read to its end, no further than the limit, and on what it had the command ended so
  pub record EndsRead (old new : R) (before after : W) (result : Result Unit ProgramFault) : Type 0 where
    pub bytes : List ℕ
    pub taken : Consumes (left old) (left new) bytes
    pub ended : IsAtEnd (left new)
    pub within : length bytes ≤ input_limit
    pub ends_so : ends bytes before after result

  -- a read failed, or the input was too long, or memory was wanting: nothing was written
  abbrev pub EndsBy : R → R → W → W → Result Unit ProgramFault → Type 0
  EndsBy old new before after (Err Read) = StopsWithin left pulls input_limit read_limit old new × (after ≡ before)
  EndsBy old new before after (Err TooLong) = StopsPast left pulls input_limit old new × (after ≡ before)
  EndsBy old new before after (Err Memory) = (after ≡ before) ⊎ EndsRead old new before after (Err Memory)
  EndsBy old new before after result = EndsRead old new before after result

  -- the command's whole outcome: how it ends, and how often it read
  pub record EndsFrom (old new : R) (before after : W) (result : Result Unit ProgramFault) : Type 0 where
    pub ending : EndsBy old new before after result
    pub failed_read : (pulls old).failed < (pulls new).failed → result ≡ Err Read
    pub reads : (pulls new).calls ≤ (pulls old).calls + read_limit

-- a command between a source and a sink, that answers the input with a text
abbrev pub Ends : {R W : Type 0} → (R → Option (List ℕ)) → (R → Tally) → (W → Option (List ℕ)) → (W → Tally) → Answers → R → R → W → W
    → Result Unit ProgramFault → Type 0
Ends left pulls held pushes answers = EndsFrom left pulls (λ bytes. EndsOn held pushes (answers bytes))

-- the value that a command ends with, if it does its work
abbrev pub value_of : {T : Type 0} → Result T ProgramFault → Option T
value_of (Ok value) = Some value
value_of (Err fault) = None

abbrev pub without_value : {T : Type 0} → Result T ProgramFault → Result Unit ProgramFault
without_value (Ok value) = Ok tt
without_value (Err fault) = Err fault
