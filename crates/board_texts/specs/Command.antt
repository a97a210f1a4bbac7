-- What the lines of a script say.
use Rattle.std.specs.Prelude.{ℕ, ◌==◌, List, [], ◌∷◌, Option, Some, None, codes, slice_index, if◌then◌else◌}
use Rattle.std.specs.Str.{bytes_eq}
use Rattle.moves.specs.declared.moves.Move.TheVariants as move
use Rattle.text_lines.specs.Number.{number_of, index_of, numbered_game}
use Rattle.text_lines.specs.Words.{words_of}
use Rattle.fixture_board.specs.declared.change.Change.TheVariants as change
use Rattle.board_texts.specs.declared.script_line.ScriptLine.{ScriptLine}
use Rattle.board_texts.specs.declared.script_line.ScriptLine.TheVariants.{Skip, Slack, Asks, Tries, Bad}
use Rattle.board_texts.specs.declared.script_line.Keyword.{Keyword}
use Rattle.board_texts.specs.declared.script_line.Keyword.TheVariants as key

abbrev pub one_more : Option ℕ → Option (List ℕ) → Option (List ℕ)
one_more (Some number) (Some numbers) = Some (number ∷ numbers)
one_more (Some number) None = None
one_more None numbers = None

-- the numbers that the words are, if each is one
abbrev pub numbers_of : List (List ℕ) → Option (List ℕ)
numbers_of [] = Some []
numbers_of (word ∷ words) = one_more (number_of word) (numbers_of words)

abbrev pub keyword_of : List ℕ → Option Keyword
keyword_of word =
    if bytes_eq word (codes "homes") then Some key.Homes
    else if bytes_eq word (codes "rounds") then Some key.Rounds
    else if bytes_eq word (codes "teams") then Some key.Teams
    else if bytes_eq word (codes "part-rounds") then Some key.PartRounds
    else if bytes_eq word (codes "part-teams") then Some key.PartTeams
    else if bytes_eq word (codes "pin") then Some key.Pin
    else if bytes_eq word (codes "unpin") then Some key.Unpin
    else if bytes_eq word (codes "undo") then Some key.Undo
    else if bytes_eq word (codes "slack") then Some key.Slack
    else None

-- a command has as many numbers as it needs
abbrev pub command_of : Keyword → List ℕ → ScriptLine
command_of key.Homes (i ∷ j ∷ []) = Asks (change.Shift (move.Homes (index_of i) (index_of j)))
command_of key.Rounds (k ∷ l ∷ []) = Asks (change.Shift (move.Rounds (index_of k) (index_of l)))
command_of key.Teams (i ∷ j ∷ []) = Asks (change.Shift (move.Teams (index_of i) (index_of j)))
command_of key.PartRounds (i ∷ k ∷ l ∷ []) =
    Asks (change.Shift (move.PartRounds (index_of i) (index_of k) (index_of l)))
command_of key.PartTeams (i ∷ j ∷ k ∷ []) =
    Asks (change.Shift (move.PartTeams (index_of i) (index_of j) (index_of k)))
command_of key.Pin (r ∷ h ∷ a ∷ []) = Asks (change.Pin (numbered_game r h a))
command_of key.Unpin (r ∷ h ∷ a ∷ []) = Asks (change.Unpin (numbered_game r h a))
command_of key.Undo [] = Asks change.Undo
command_of key.Slack (s ∷ []) = Slack s
command_of _ _ = Bad

-- a command begins with a keyword, and its other words are numbers
abbrev pub command_with : Option Keyword → Option (List ℕ) → ScriptLine
command_with (Some keyword) (Some numbers) = command_of keyword numbers
command_with (Some keyword) None = Bad
command_with None numbers = Bad

abbrev pub command_of_words : List (List ℕ) → ScriptLine
command_of_words [] = Bad
command_of_words (word ∷ arguments) = command_with (keyword_of word) (numbers_of arguments)

-- only a move can be tried
abbrev pub tried : ScriptLine → ScriptLine
tried (Asks (change.Shift mv)) = Tries mv
tried _ = Bad

-- a line with no words, or whose first begins with `#`, says nothing
abbrev pub line_of_words : List (List ℕ) → ScriptLine
line_of_words [] = Skip
line_of_words (word ∷ arguments) =
    if slice_index word 0 == 35 then Skip
    else if bytes_eq word (codes "try") then tried (command_of_words arguments)
    else command_of_words (word ∷ arguments)

abbrev pub line_of : List ℕ → ScriptLine
line_of bytes = line_of_words (words_of bytes)
