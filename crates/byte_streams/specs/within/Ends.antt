-- What private functions alone need beside specs/Ends.antt.
use Rattle.std.specs.Prelude.{ℕ, Result, Ok, Err}
use Rattle.std.specs.IoError.{error_kind}
use Rattle.std.specs.declared.io.Error.{Error}
use Rattle.std.specs.declared.io.ErrorKind.{ErrorKind}
use Rattle.std.specs.declared.io.ErrorKind.TheVariants.{Interrupted}
use Rattle.byte_streams.specs.declared.ends.Step.{Step}
use Rattle.byte_streams.specs.declared.ends.Step.TheVariants.{Moved, Again, Failed}

-- what a call of an end answers if std's reader or writer fails with an error of this kind
abbrev pub step_of_kind : ErrorKind → Step
step_of_kind Interrupted = Again
step_of_kind _ = Failed

-- what it answers if they answer this
abbrev pub step_of_answer : Result ℕ Error → Step
step_of_answer (Ok n) = Moved n
step_of_answer (Err error) = step_of_kind (error_kind error)
