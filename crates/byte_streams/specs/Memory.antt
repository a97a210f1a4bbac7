-- What the ends over memory have.
use Rattle.std.specs.Prelude.{ℕ, ◌-◌, List, length, take}
use Rattle.byte_streams.specs.declared.memory_source.MemorySource.{MemorySource}
use Rattle.byte_streams.specs.declared.memory_sink.MemorySink.{MemorySink}

-- the bytes that a source has left, and how many it gives at a call at most
abbrev pub rest_of : MemorySource → List ℕ
rest_of source = source.rest.now

abbrev pub most_at_once : MemorySource → ℕ
most_at_once source = source.most

-- the bytes that a sink holds, and for how many more it has space
abbrev pub bytes_in : MemorySink → List ℕ
bytes_in sink = take sink.filled sink.buffer.now

abbrev pub space_in : MemorySink → ℕ
space_in sink = length sink.buffer.now - sink.filled
