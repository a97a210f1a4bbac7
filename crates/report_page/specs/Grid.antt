-- The grid of teams and rounds on a page. Teams and rounds are numbered from 0 in calls, and from 1 in texts.
use Rattle.std.specs.Prelude.{ℕ, ◌+◌, ◌-◌, ◌==◌, List, [], ◌∷◌, ◌++◌, Bool, not, ◌&&◌, nat_le, nat_lt, codes, decimal, length}
use Rattle.std.specs.List.{concat, list_any}
use Rattle.fixtures.specs.Games.{Games, cell, cell_round, round_count}
use Rattle.league.specs.League.{LeagueData, name_of}
use Rattle.league.specs.Starts.{is_given, start_round}
use Rattle.league.specs.declared.rule.Rule.{Rule}
use Rattle.report_breaches.specs.Cells.{is_marked}
use Rattle.report_text.specs.Runs.{is_over}
use Rattle.byte_streams.specs.Pieces.{pieces_below}
use Rattle.report_page.specs.Labels.{has_short_names, short_name_of}
use Rattle.report_page.specs.Pieces.{escaped}
use Rattle.report_page.specs.Style.{word_if}

-- whether a window of one round more than allowed, spent at home or away, ends with the round
abbrev pub goes_over : Games → ℕ → ℕ → ℕ → Bool
goes_over g at_most team round = nat_le at_most round && is_over g at_most team (round - at_most)

-- whether the team meets in the round whom it met in the round before
abbrev pub meets_again : Games → ℕ → ℕ → Bool
meets_again g team round = nat_lt 0 round && (cell g team round).opponent == (cell g team (round - 1)).opponent

-- whether boards begin at a given schedule that has the team's game of the round in another one
abbrev pub is_moved : LeagueData → Games → ℕ → ℕ → Bool
is_moved l g team round = is_given l.origin.start && not (round == cell_round (start_round l) team (cell g team round))

-- whether a breach of some rule names the team's game in the round
unfoldable pub breaks_rule : LeagueData → Games → ℕ → ℕ → Bool
breaks_rule l g team round = list_any (λ (rule : Rule). is_marked g rule.body team round) l.rules

-- the opponent, and whether the game is at home, goes over the most in a row, repeats, breaks a rule, and is moved
abbrev pub cell_of : ℕ → Bool → Bool → Bool → Bool → Bool → List ℕ
cell_of opponent home over again broken moved =
    concat (codes "<td class='" ∷ word_if home (codes "h") ∷ word_if over (codes " o") ∷ word_if again (codes " r") ∷
    word_if broken (codes " b") ∷ word_if moved (codes " m") ∷ codes "'>" ∷ word_if (not home) (codes "@") ∷ decimal (opponent + 1) ∷ codes "</td>" ∷ [])

abbrev pub cell_text : LeagueData → Games → ℕ → ℕ → List ℕ
cell_text l g team round =
    cell_of (cell g team round).opponent (cell g team round).home (goes_over g l.at_most team round) (meets_again g team round)
    (breaks_rule l g team round) (is_moved l g team round)

-- how a row of a team begins: with its number, its short name if it has one, and its name
unfoldable pub team_head : LeagueData → ℕ → List ℕ
team_head l team =
    concat (codes "<tr><th>" ∷ decimal (team + 1) ∷ codes " " ∷ escaped (short_name_of l team) ∷ word_if (has_short_names l) (codes " ") ∷
    escaped (name_of l team) ∷ codes "</th>" ∷ [])

abbrev pub grid_row : LeagueData → Games → ℕ → List ℕ
grid_row l g team =
    codes "</tr>" ++ team_head l team ++ pieces_below (cell_text l g team) (round_count g.teams)

abbrev pub round_head : ℕ → List ℕ
round_head round = concat (codes "<th>" ∷ decimal (round + 1) ∷ codes "</th>" ∷ [])

-- a head with the rounds, and a row for each team
abbrev pub grid_lines : LeagueData → Games → List ℕ
grid_lines l g = pieces_below round_head (round_count g.teams) ++ pieces_below (grid_row l g) g.teams

-- what the marks mean
abbrev pub legend_text : ℕ → Bool → Bool → List ℕ
legend_text at_most ruled given =
    concat (codes "<h2>Games</h2><p><span class='h'>Shaded</span>: at home. @: away. " ∷ codes "<span class='o'>Ringed</span>: more than " ∷
    decimal at_most ∷
    codes " in a row at home or away. " ∷ codes "<span class='r'>Dashed</span>: the opponent of the round before.</p>" ∷
    word_if ruled (codes "<p><span class='b'>Line below</span>: what a broken rule counts.</p>") ∷
    word_if given (codes "<p><span class='m'>Underlined</span>: in another round than at the start.</p>") ∷
    codes "<div class='wide'><table class='grid'><tr><th>Team</th>" ∷ [])

unfoldable pub grid_text : LeagueData → Games → List ℕ
grid_text l g = legend_text l.at_most (nat_lt 0 (length l.rules)) (is_given l.origin.start) ++ grid_lines l g ++ codes "</tr></table></div>"
