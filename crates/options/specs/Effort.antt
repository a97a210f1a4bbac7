-- How many moves an improvement draws, as words have it: millions, as `10`, `2.5` or `0.001`. It is read in thousandths of a million.
use Rattle.std.specs.Prelude.{ℕ, ◌+◌, ◌-◌, ◌*◌, ◌^◌, ◌==◌, ◌&&◌, nat_le, List, drop, length, take, Option, Some, None, codes}
use Rattle.std.specs.Prelude.{if◌then◌else◌, option_and_then, option_map}
use Rattle.std.specs.List.{position_or_len}
use Rattle.clap.specs.Words.{Row, Text, first_of}
use Rattle.text_lines.specs.Number.{number_of}

-- the most that is drawn
abbrev pub max_thousandths : ℕ
max_thousandths = 1000000000

-- a thousandth to the most
abbrev pub in_range : ℕ → Option ℕ
in_range n = if nat_le 1 n && nat_le n max_thousandths then Some n else None

-- one to three digits behind a point, in thousandths
abbrev pub decimals_of : Text → Option ℕ
decimals_of digits =
    if nat_le (length digits) 3 then option_map (λ n. n * 10 ^ (3 - length digits)) (number_of digits) else None

-- those behind the point that stands here, and nothing if the text ends here
abbrev pub decimals_at : ℕ → Text → Option ℕ
decimals_at point text = if point == length text then Some 0 else decimals_of (drop (point + 1) text)

abbrev pub thousandths_from : Option ℕ → Option ℕ → Option ℕ
thousandths_from (Some whole) (Some decimals) = in_range (whole * 1000 + decimals)
thousandths_from (Some whole) None = None
thousandths_from None decimals = None

abbrev pub point_in : Text → ℕ
point_in = position_or_len (λ b. b == 46)

-- a whole number, or one with a point and one to three digits behind it
abbrev pub thousandths_of_text : Text → Option ℕ
thousandths_of_text text = thousandths_from (number_of (take (point_in text) text)) (decimals_at (point_in text) text)

-- what stands after the option, or its default
abbrev pub thousandths_in : List Row → Option ℕ
thousandths_in rows = option_and_then thousandths_of_text (first_of (codes "effort") rows)
