-- The limits of reading an input, of writing a text and of gathering one.
use Rattle.std.specs.Prelude.{ℕ}

-- the most bytes of an input, and the most reads of one
abbrev pub input_limit : ℕ
input_limit = 4194304

abbrev pub read_limit : ℕ
read_limit = 8388608

-- so many writes that were interrupted in a row count as a failed one
abbrev pub write_limit : ℕ
write_limit = 1000

-- how many bytes may wait before they go out
abbrev pub buffer_limit : ℕ
buffer_limit = 4096
