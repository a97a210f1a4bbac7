-- How a control byte is shown, alone or as a character of a text.
use Rattle.std.specs.Prelude.{ℕ, if◌then◌else◌}
use Rattle.league.specs.Names.{is_name_byte}

-- a question mark for a control byte
abbrev pub shown_byte : ℕ → ℕ
shown_byte b = if is_name_byte b then b else 63
