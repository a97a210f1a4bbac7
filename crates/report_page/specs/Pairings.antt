-- The games of a schedule in words, as they are published. Teams and rounds are numbered from 0 in calls, and from 1 in the text.
use Rattle.std.specs.Prelude.{ℕ, ◌+◌, List, [], ◌∷◌, ◌++◌, codes, decimal, nat_lt, if◌then◌else◌}
use Rattle.std.specs.List.{concat}
use Rattle.fixtures.specs.Games.{Games, cell, round_count}
use Rattle.league.specs.League.{LeagueData, name_of}
use Rattle.byte_streams.specs.Pieces.{pieces_below}
use Rattle.report_page.specs.declared.pairings.Dress.{Dress}
use Rattle.report_page.specs.declared.pairings.Dress.TheVariants.{Lines, Page}
use Rattle.report_page.specs.Labels.{has_round_texts, round_text_of}
use Rattle.report_page.specs.Pieces.{escaped}
use Rattle.report_page.specs.Style.{word_if}

-- what stands before the games of a round, with the round's text if there is one. Of lines an empty one parts it from the round before
abbrev pub round_head : Dress → LeagueData → ℕ → List ℕ
round_head Lines l round = concat (word_if (nat_lt 0 round) (codes "\n") ∷ codes "Round " ∷ decimal (round + 1) ∷
    word_if (has_round_texts l) (codes ", ") ∷ round_text_of l round ∷ codes "\n" ∷ [])
round_head Page l round = concat (codes "<section><h3>Round " ∷ decimal (round + 1) ∷
    word_if (has_round_texts l) (codes ", ") ∷ escaped (round_text_of l round) ∷ codes "</h3>" ∷ [])

abbrev pub round_end : Dress → List ℕ
round_end Lines = []
round_end Page = codes "</section>\n"

abbrev pub pairing : Dress → LeagueData → ℕ → ℕ → List ℕ
pairing Lines l home away = concat (name_of l home ∷ codes " - " ∷ name_of l away ∷ codes "\n" ∷ [])
pairing Page l home away = concat (codes "<div>" ∷ escaped (name_of l home) ∷ codes " - " ∷ escaped (name_of l away) ∷ codes "</div>" ∷ [])

-- the team's game in the round, if the team is at home there
abbrev pub pairing_at : Dress → LeagueData → Games → ℕ → ℕ → List ℕ
pairing_at dress l g round team = if (cell g team round).home then pairing dress l team (cell g team round).opponent else []

-- in the order of the home teams
abbrev pub round_block : Dress → LeagueData → Games → ℕ → List ℕ
round_block dress l g round = round_head dress l round ++ pieces_below (pairing_at dress l g round) g.teams ++ round_end dress

-- the rounds, one after another
abbrev pub rounds_text : Dress → LeagueData → Games → List ℕ
rounds_text dress l g = pieces_below (round_block dress l g) (round_count g.teams)

abbrev pub pairings_text : LeagueData → Games → List ℕ
pairings_text l g = rounds_text Lines l g

-- the games as a part of a page
abbrev pub rounds_section : LeagueData → Games → List ℕ
rounds_section l g = codes "<h2>Rounds</h2><div class='rounds'>\n" ++ rounds_text Page l g ++ codes "</div>"
