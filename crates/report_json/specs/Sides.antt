-- The runs, repeats and pairs in one half as JSON: what a report's lines of them tell.
use Rattle.std.specs.Prelude.{ℕ, ◌+◌, ◌-◌, ◌==◌, Bool, List, [], ◌∷◌, codes, if◌then◌else◌}
use Rattle.serde_json.specs.Data.{Data, string, object, member, no_members}
use Rattle.fixtures.specs.Games.{Games, cell, is_home, round_count, round_of}
use Rattle.league.specs.League.{LeagueData}
use Rattle.report_text.specs.CostText.{repeats_lower}
use Rattle.report_text.specs.Runs.{ended_streak, is_over}
use Rattle.tours.specs.Phased.{is_unphased}
use Rattle.report_json.specs.Parts.{counted, list, meetings, parts_below, whole}

abbrev pub side_name : Bool → List ℕ
side_name home = if home then codes "home" else codes "away"

-- a stretch of this many windows, the last of which begins with the round before this one
abbrev pub run_data : ℕ → Bool → ℕ → ℕ → ℕ → Data
run_data at_most home team round count =
    object (member (codes "first") (whole (round - count + 1)) (member (codes "last") (whole (round + at_most))
    (member (codes "side") (string (side_name home)) (member (codes "team") (counted team)
    (member (codes "windows") (whole count) no_members)))))

abbrev pub run_at : Games → ℕ → ℕ → ℕ → ℕ → List Data
run_at g at_most team round count =
    if count == 0 then [] else run_data at_most (is_home g team (round - 1)) team round count ∷ []

abbrev pub runs_of : Games → ℕ → ℕ → List Data
runs_of g at_most team =
    parts_below (λ round. run_at g at_most team round (ended_streak (is_over g at_most team) round)) (round_count g.teams)

abbrev pub runs_data : Games → ℕ → Data
runs_data g at_most = list (parts_below (runs_of g at_most) g.teams)

abbrev pub repeat_at : Games → ℕ → ℕ → List Data
repeat_at g round team = if repeats_lower g round team then meetings (cell g team round).opponent team round (round + 1) ∷ [] else []

abbrev pub repeats_after : Games → ℕ → List Data
repeats_after g round = parts_below (repeat_at g round) g.teams

-- unless they are free
abbrev pub repeats_in : LeagueData → Games → List Data
repeats_in l g = if l.free_repeats then [] else parts_below (repeats_after g) (round_count g.teams - 1)

abbrev pub repeats_data : LeagueData → Games → Data
repeats_data l g = list (repeats_in l g)

abbrev pub half_at : Games → ℕ → ℕ → List Data
half_at g high low = if is_unphased g low high then meetings low high (round_of g low high) (round_of g high low) ∷ [] else []

abbrev pub halves_of : Games → ℕ → List Data
halves_of g high = parts_below (half_at g high) high

-- of a phased league alone
abbrev pub halves_in : LeagueData → Games → List Data
halves_in l g = if l.phased then parts_below (halves_of g) g.teams else []

abbrev pub halves_data : LeagueData → Games → Data
halves_data l g = list (halves_in l g)
