-- What private functions alone need beside specs/Faults.antt.
use Rattle.std.specs.Prelude.{ℕ, Bool, List}
use Rattle.byte_streams.specs.Pieces.{pieces_below}
use Rattle.fixtures.specs.declared.game.Game.{Game}
use Rattle.fixtures.specs.Games.{round_count}
use Rattle.schedule_texts.specs.declared.counted.Counted.{Counted}
use Rattle.schedule_texts.specs.declared.counted.Counted.TheVariants.{Rounds, Guests}
use Rattle.schedule_texts.specs.Faults.{plays, games_in, team_line, receives, games_of_pair, pair_line}

-- ---- what the games of a team are counted by: all of them by round, or those at home by guest

abbrev pub numbers : Counted → ℕ → ℕ
numbers Rounds n = round_count n
numbers Guests n = n

abbrev pub takes : Counted → ℕ → ℕ → Game → Bool
takes Rounds = plays
takes Guests = receives

abbrev pub number_of : Counted → Game → ℕ
number_of Rounds x = x.round
number_of Guests x = x.away

abbrev pub count_in : Counted → ℕ → List Game → ℕ → ℕ → ℕ
count_in Rounds = games_in
count_in Guests = games_of_pair

abbrev pub count_line : Counted → ℕ → ℕ → ℕ → List ℕ
count_line Rounds = team_line
count_line Guests = pair_line

abbrev pub count_lines : Counted → ℕ → List Game → ℕ → List ℕ
count_lines counted n games team =
    pieces_below (λ number. count_line counted team number (count_in counted n games team number)) (numbers counted n)
