-- The distance that a cell gives.
use Rattle.std.specs.Prelude.{ℕ, ◌+◌, ◌==◌, ◌&&◌, ◌||◌, not, nat_le, List, [], ◌∷◌, take, drop, length, Bool, true, false, Option, Some, None, if◌then◌else◌, Result, Ok, Err}
use Rattle.std.specs.List.{list_all, position_or_len}
use Rattle.std.specs.Char.{is_ascii_digit}
use Rattle.league.specs.Limits.{max_distance}
use Rattle.text_lines.specs.Number.{number_of}
use Rattle.schedule_csv.specs.Cells.{unmarked}
use Rattle.league_csv.specs.declared.fault.DistanceCellFault.{DistanceCellFault}
use Rattle.league_csv.specs.declared.fault.DistanceCellFault.TheVariants.{NoNumber, TooFar, NotZero}
use Rattle.league_csv.specs.declared.measures.Measure.{Measure}

-- a point, or a comma where no comma stands between cells
abbrev pub is_point : ℕ → ℕ → Bool
is_point separator b = (b == 46) || ((b == 44) && not (separator == 44))

-- half up, by the first digit behind the point
abbrev pub rounded_up : List ℕ → ℕ
rounded_up [] = 0
rounded_up (digit ∷ digits) = if nat_le 53 digit then 1 else 0

-- whether digits behind the point say nothing
abbrev pub are_noughts : List ℕ → Bool
are_noughts = list_all (λ digit. digit == 48)

abbrev pub near : ℕ → Bool → Result Measure DistanceCellFault
near distance is_rounded = if nat_le distance max_distance then Ok (record { distance = distance; is_rounded = is_rounded }) else Err TooFar

-- a whole number and the digits behind its point
abbrev pub decimal_measure : Option ℕ → List ℕ → Result Measure DistanceCellFault
decimal_measure None digits = Err NoNumber
decimal_measure (Some whole) digits =
    if list_all is_ascii_digit digits then near (whole + rounded_up digits) (not (are_noughts digits)) else Err NoNumber

-- where the point of a text is, or how long the text is
abbrev pub point_of : ℕ → List ℕ → ℕ
point_of separator text = position_or_len (is_point separator) text

abbrev pub text_measure : ℕ → List ℕ → Result Measure DistanceCellFault
text_measure separator text =
    decimal_measure (number_of (take (point_of separator text) text)) (drop (point_of separator text + 1) text)

-- a number as a distance, rounded if it is a decimal
abbrev pub number_measure : ℕ → List ℕ → Result Measure DistanceCellFault
number_measure separator cell = text_measure separator (unmarked cell)

abbrev pub or_not_zero : Result Measure DistanceCellFault → Result Measure DistanceCellFault
or_not_zero (Ok m) = if m.distance == 0 then Ok m else Err NotZero
or_not_zero (Err fault) = Err NotZero

-- what a cell is that has the distance of a team to itself: empty or 0
abbrev pub own_measure : ℕ → List ℕ → Result Measure DistanceCellFault
own_measure separator cell =
    if length (unmarked cell) == 0 then Ok (record { distance = 0; is_rounded = false }) else or_not_zero (number_measure separator cell)

-- the same of the distance between two teams, which may be one
abbrev pub measure_between : ℕ → ℕ → ℕ → List ℕ → Result Measure DistanceCellFault
measure_between separator team other cell = if team == other then own_measure separator cell else number_measure separator cell
