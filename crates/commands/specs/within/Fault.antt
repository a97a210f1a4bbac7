-- What private functions alone need beside specs/Fault.antt.
use Rattle.std.specs.Prelude.{Result, Ok, Err}
use Rattle.byte_streams.specs.declared.reading.ReadFault.{ReadFault}
use Rattle.byte_streams.specs.declared.reading.ReadFault.TheVariants as read
use Rattle.byte_streams.specs.declared.writing.WriteFault.{WriteFault}
use Rattle.commands.specs.declared.fault.ProgramFault.{ProgramFault}
use Rattle.commands.specs.declared.fault.ProgramFault.TheVariants.{Read, TooLong, Write, Memory}

abbrev pub of_reading : ReadFault → ProgramFault
of_reading read.Read = Read
of_reading read.TooLong = TooLong
of_reading read.Memory = Memory

-- the value of a command whose text was to be written, unless a write failed
abbrev pub of_writing : {T : Type 0} → Result Unit WriteFault → T → Result T ProgramFault
of_writing (Ok done) value = Ok value
of_writing (Err fault) value = Err Write
