-- What one call does to the bytes that a source has left and that a sink holds, if those are known.
use Rattle.std.specs.Prelude.{◌≡◌, ◌≤◌, ℕ, List, Option, length, take}
use Rattle.std.specs.Io.KnownBytes.{Consumes, Appends, Keeps, IsAtEnd}
use Rattle.byte_streams.specs.declared.ends.Step.{Step}
use Rattle.byte_streams.specs.declared.ends.Step.TheVariants.{Moved, Again, Failed}

-- the call took the bytes that it put at the start of the buffer, none only at the end; another call took nothing
abbrev pub StepTakes : Option (List ℕ) → Option (List ℕ) → Step → List ℕ → Type 0
StepTakes old new (Moved n) buffer = (n ≤ length buffer) × Consumes old new (take n buffer) × (n ≡ 0 → IsAtEnd new)
StepTakes old new Again buffer = Keeps old new
StepTakes old new Failed buffer = Keeps old new

-- the call added the bytes that it took from the start of the piece; another call added nothing
abbrev pub StepGives : Option (List ℕ) → Option (List ℕ) → Step → List ℕ → Type 0
StepGives old new (Moved n) piece = (n ≤ length piece) × Appends old new (take n piece)
StepGives old new Again piece = Keeps old new
StepGives old new Failed piece = Keeps old new
