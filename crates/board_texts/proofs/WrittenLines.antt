-- The line that is written for a change, without its end: it is read as that change.
use Rattle.std.proofs.Common.{◌≡◌, ℕ, ◌+◌, ◌-◌, ◌<◌, ◌≤◌, false, cond, List, [], ◌∷◌, ◌++◌, length, take, Some, codes}
use Rattle.std.proofs.Common.{decimal, refl, ap, ◌∙◌, arith, append_assoc}
use Rattle.std.specs.Prelude.{◌==◌, slice_index}
use Rattle.std.specs.Str.Lines.{lines, strip_carriage_return}
use Rattle.std.proofs.lemmas.Bool.{ne_eqb}
use Rattle.std.proofs.lemmas.List.Elements.{All-weaker}
use Rattle.std.proofs.lemmas.List.Splits.{slice_split_at}
use Rattle.fixtures.specs.declared.game.Game.{Game}
use Rattle.moves.specs.declared.moves.Move.{Move}
use Rattle.moves.specs.declared.moves.Move.TheVariants.{Homes, Rounds, Teams, PartRounds, PartTeams}
use Rattle.fixture_board.specs.declared.change.Change.{Change}
use Rattle.fixture_board.specs.declared.change.Change.TheVariants as change
use Rattle.fixture_board.specs.declared.change.Entry.{Entry}
use Rattle.board_texts.specs.Command.{numbers_of, command_with, line_of, line_of_words}
use Rattle.text_lines.specs.Input.{is_line_end}
use Rattle.text_lines.specs.Number.{number_of, index_of}
use Rattle.board_texts.specs.PlayText.{change_line, change_lines}
use Rattle.board_texts.specs.declared.script_line.ScriptLine.TheVariants.{Asks}
use Rattle.board_texts.specs.declared.script_line.Keyword.TheVariants as key
use Rattle.text_lines.proofs.ForCallers.{parts_of}
use Rattle.text_lines.proofs.ForCallers.{AllFrom, AllFrom-plain, AllFrom-with_two, AllFrom-with_three, IsPlain}
use Rattle.text_lines.proofs.ForCallers.{IsPlain-decimal, IsPlain-tested, number_of-decimal, index_of-more, with_two}
use Rattle.text_lines.proofs.ForCallers.{with_three, words_with_two, words_with_three}

-- teams and rounds that can be numbered from 1 within a byte

abbrev pub IsSmallMove : Move → Type 0
IsSmallMove (Homes i j) = (i < 255) × (j < 255)
IsSmallMove (Rounds k l) = (k < 255) × (l < 255)
IsSmallMove (Teams i j) = (i < 255) × (j < 255)
IsSmallMove (PartRounds i k l) = (i < 255) × (k < 255) × (l < 255)
IsSmallMove (PartTeams i j k) = (i < 255) × (j < 255) × (k < 255)

abbrev pub IsSmallGame : Game → Type 0
IsSmallGame game = (game.round < 255) × (game.home < 255) × (game.away < 255)

abbrev pub IsSmall : Change → Type 0
IsSmall (change.Shift mv) = IsSmallMove mv
IsSmall (change.Pin game) = IsSmallGame game
IsSmall (change.Unpin game) = IsSmallGame game
IsSmall change.Undo = Unit {0}

-- ---- a line without its end

abbrev bare_two : List ℕ → ℕ → ℕ → List ℕ
bare_two word a b = with_two word (decimal (a + 1)) (decimal (b + 1))

abbrev bare_three : List ℕ → ℕ → ℕ → ℕ → List ℕ
bare_three word a b c = with_three word (decimal (a + 1)) (decimal (b + 1)) (decimal (c + 1))

abbrev bare_move : Move → List ℕ
bare_move (Homes i j) = bare_two (codes "homes") i j
bare_move (Rounds k l) = bare_two (codes "rounds") k l
bare_move (Teams i j) = bare_two (codes "teams") i j
bare_move (PartRounds i k l) = bare_three (codes "part-rounds") i k l
bare_move (PartTeams i j k) = bare_three (codes "part-teams") i j k

abbrev pub bare_line : Change → List ℕ
bare_line (change.Shift mv) = bare_move mv
bare_line (change.Pin game) = bare_three (codes "pin") game.round game.home game.away
bare_line (change.Unpin game) = bare_three (codes "unpin") game.round game.home game.away
bare_line change.Undo = codes "undo"

-- what is written number by number is the line and its end
two_ended : (word a b : List ℕ) → (word ++ a) ++ ((codes " " ++ b) ++ codes "\n") ≡ (word ++ (a ++ 32 ∷ b)) ++ 10 ∷ []
two_ended word a b = simp append_assoc

three_ended : (word a b c : List ℕ) → ((word ++ a) ++ (codes " " ++ b)) ++
    ((codes " " ++ c) ++ codes "\n") ≡ (word ++ (a ++ 32 ∷ (b ++ 32 ∷ c))) ++ 10 ∷ []
three_ended word a b c = simp append_assoc

move_ended : (mv : Move) → change_line (change.Shift mv) ≡ bare_move mv ++ 10 ∷ []
move_ended (Homes i j) = two_ended (codes "homes ") (decimal (i + 1)) (decimal (j + 1))
move_ended (Rounds k l) = two_ended (codes "rounds ") (decimal (k + 1)) (decimal (l + 1))
move_ended (Teams i j) = two_ended (codes "teams ") (decimal (i + 1)) (decimal (j + 1))
move_ended (PartRounds i k l) = three_ended (codes "part-rounds ") (decimal (i + 1)) (decimal (k + 1)) (decimal (l + 1))
move_ended (PartTeams i j k) = three_ended (codes "part-teams ") (decimal (i + 1)) (decimal (j + 1)) (decimal (k + 1))

line_ended : (c : Change) → change_line c ≡ bare_line c ++ 10 ∷ []
line_ended (change.Shift mv) = move_ended mv
line_ended (change.Pin game) = three_ended (codes "pin ") (decimal (game.round + 1)) (decimal (game.home + 1)) (decimal (game.away + 1))
line_ended (change.Unpin game) = three_ended (codes "unpin ") (decimal (game.round + 1)) (decimal (game.home + 1)) (decimal (game.away + 1))
line_ended change.Undo = refl

-- ---- the lines of a history

plain_index : (n : ℕ) → n < 255 → IsPlain (decimal (n + 1))
plain_index n small = IsPlain-decimal (n + 1) (omega arith)

two_high : (word : List ℕ) (a b : ℕ) → IsPlain word → a < 255 → b < 255 → AllFrom 32 (bare_two word a b)
two_high word a b plain small_a small_b =
    AllFrom-with_two word (decimal (a + 1)) (decimal (b + 1)) plain (plain_index a small_a) (plain_index b small_b)

three_high : (word : List ℕ) (a b c : ℕ) → IsPlain word → a < 255 → b < 255 → c < 255 → AllFrom 32 (bare_three word a b c)
three_high word a b c plain small_a small_b small_c =
    AllFrom-with_three word (decimal (a + 1)) (decimal (b + 1)) (decimal (c + 1)) plain (plain_index a small_a) (plain_index b small_b)
    (plain_index c small_c)

-- each keyword is one word

homes : IsPlain (codes "homes")
homes = IsPlain-tested (codes "homes") refl refl

rounds : IsPlain (codes "rounds")
rounds = IsPlain-tested (codes "rounds") refl refl

teams : IsPlain (codes "teams")
teams = IsPlain-tested (codes "teams") refl refl

part_rounds : IsPlain (codes "part-rounds")
part_rounds = IsPlain-tested (codes "part-rounds") refl refl

part_teams : IsPlain (codes "part-teams")
part_teams = IsPlain-tested (codes "part-teams") refl refl

pin : IsPlain (codes "pin")
pin = IsPlain-tested (codes "pin") refl refl

unpin : IsPlain (codes "unpin")
unpin = IsPlain-tested (codes "unpin") refl refl

undo : IsPlain (codes "undo")
undo = IsPlain-tested (codes "undo") refl refl

move_high : (mv : Move) → IsSmallMove mv → AllFrom 32 (bare_move mv)
move_high (Homes i j) small = two_high (codes "homes") i j homes small.0 small.1
move_high (Rounds k l) small = two_high (codes "rounds") k l rounds small.0 small.1
move_high (Teams i j) small = two_high (codes "teams") i j teams small.0 small.1
move_high (PartRounds i k l) small = three_high (codes "part-rounds") i k l part_rounds small.0 small.1 small.2
move_high (PartTeams i j k) small = three_high (codes "part-teams") i j k part_teams small.0 small.1 small.2

line_high : (c : Change) → IsSmall c → AllFrom 32 (bare_line c)
line_high (change.Shift mv) small = move_high mv small
line_high (change.Pin game) small = three_high (codes "pin") game.round game.home game.away pin small.0 small.1 small.2
line_high (change.Unpin game) small = three_high (codes "unpin") game.round game.home game.away unpin small.0 small.1 small.2
line_high change.Undo small = AllFrom-plain (codes "undo") undo

-- no byte of a line is a carriage return or a line end

kept_whole : (line : List ℕ) → AllFrom 32 line → strip_carriage_return line ≡ line
kept_whole [] high = refl
kept_whole (b ∷ bs) high =
    let last : 32 ≤ slice_index (b ∷ bs) (length (b ∷ bs) - 1) = high (length (b ∷ bs) - 1) 0 (omega arith) in
    let other : (slice_index (b ∷ bs) (length (b ∷ bs) - 1) == 13) ≡ false = ne_eqb _ 13 (λ is. omega arith) in
    ap (λ ends. cond ends (take (length (b ∷ bs) - 1) (b ∷ bs)) (b ∷ bs)) other

no_line_end : (b : ℕ) → 32 ≤ b → is_line_end b ≡ false
no_line_end b high = ne_eqb b 10 (λ is. omega arith)

first_line : (line rest : List ℕ) → AllFrom 32 line → lines (line ++ 10 ∷ rest) ≡ line ∷ lines rest
first_line line rest high =
    let first = slice_split_at is_line_end line 10 rest
    (All-weaker (λ b. 32 ≤ b) (λ b. is_line_end b ≡ false) no_line_end line high) refl in
    let next = parts_of is_line_end rest in
    let split : lines (line ++ 10 ∷ rest) ≡ strip_carriage_return line ∷ lines rest = rw (first, next.2) refl in
    split ∙ ap (λ l. l ∷ lines rest) (kept_whole line high)

abbrev pub AreSmall : List Entry → Type 0
AreSmall [] = Unit {0}
AreSmall (e ∷ h) = IsSmall e.change × AreSmall h

abbrev pub bare_lines : List Entry → List (List ℕ)
bare_lines [] = []
bare_lines (e ∷ h) = bare_line e.change ∷ bare_lines h

-- the lines of the text are those that were written
pub lines-change_lines : (h : List Entry) → AreSmall h → lines (change_lines h) ≡ bare_lines h
lines-change_lines [] small = refl
lines-change_lines (e ∷ h) small =
    ap (λ line. lines (line ++ change_lines h)) (line_ended e.change) ∙
    ap lines (append_assoc (bare_line e.change) (10 ∷ []) (change_lines h)) ∙
    first_line (bare_line e.change) (change_lines h) (line_high e.change small.0) ∙
    ap (λ rest. bare_line e.change ∷ rest) (lines-change_lines h small.1)

-- ---- a line is read as its change

-- the keyword takes what two numbers make of it
abbrev ReadsTwo : List ℕ → (ℕ → ℕ → Change) → Type 0
ReadsTwo word f = (arguments : List (List ℕ)) (x y : ℕ) → numbers_of arguments ≡ Some (x ∷ y ∷ []) →
    line_of_words (word ∷ arguments) ≡ Asks (f (index_of x) (index_of y))

abbrev ReadsThree : List ℕ → (ℕ → ℕ → ℕ → Change) → Type 0
ReadsThree word f = (arguments : List (List ℕ)) (x y z : ℕ) → numbers_of arguments ≡ Some (x ∷ y ∷ z ∷ []) →
    line_of_words (word ∷ arguments) ≡ Asks (f (index_of x) (index_of y) (index_of z))

index_read : (n : ℕ) → n < 255 → number_of (decimal (n + 1)) ≡ Some (n + 1)
index_read n small = number_of-decimal (n + 1) (omega arith)

two_read : (word : List ℕ) (f : ℕ → ℕ → Change) (a b : ℕ) → IsPlain word → ReadsTwo word f → (a < 255) × (b < 255) →
    line_of (bare_two word a b) ≡ Asks (f a b)
two_read word f a b plain reads small =
    let numbers : numbers_of (decimal (a + 1) ∷ decimal (b + 1) ∷ []) ≡ Some ((a + 1) ∷ (b + 1) ∷ []) =
    rw (index_read a small.0, index_read b small.1) refl in
    ap line_of_words (words_with_two word (decimal (a + 1)) (decimal (b + 1)) plain (plain_index a small.0) (plain_index b small.1)) ∙
    reads (decimal (a + 1) ∷ decimal (b + 1) ∷ []) (a + 1) (b + 1) numbers ∙
    ap (λ x. Asks (f x (index_of (b + 1)))) (index_of-more a small.0) ∙
    ap (λ y. Asks (f a y)) (index_of-more b small.1)

three_read : (word : List ℕ) (f : ℕ → ℕ → ℕ → Change) (a b c : ℕ) → IsPlain word → ReadsThree word f → (a < 255) × (b < 255) × (c < 255)
    → line_of (bare_three word a b c) ≡ Asks (f a b c)
three_read word f a b c plain reads small =
    let numbers : numbers_of (decimal (a + 1) ∷ decimal (b + 1) ∷ decimal (c + 1) ∷ []) ≡ Some ((a + 1) ∷ (b + 1) ∷ (c + 1) ∷ []) =
    rw (index_read a small.0, index_read b small.1, index_read c small.2) refl in
    ap line_of_words (words_with_three word (decimal (a + 1)) (decimal (b + 1)) (decimal (c + 1)) plain (plain_index a small.0)
    (plain_index b small.1) (plain_index c small.2)) ∙
    reads (decimal (a + 1) ∷ decimal (b + 1) ∷ decimal (c + 1) ∷ []) (a + 1) (b + 1) (c + 1) numbers ∙
    ap (λ x. Asks (f x (index_of (b + 1)) (index_of (c + 1)))) (index_of-more a small.0) ∙
    ap (λ y. Asks (f a y (index_of (c + 1)))) (index_of-more b small.1) ∙
    ap (λ z. Asks (f a b z)) (index_of-more c small.2)

move_read : (mv : Move) → IsSmallMove mv → line_of (bare_move mv) ≡ Asks (change.Shift mv)
move_read (Homes i j) small = two_read (codes "homes") (λ a b. change.Shift (Homes a b)) i j homes
    (λ arguments x y is. ap (command_with (Some key.Homes)) is) small
move_read (Rounds k l) small = two_read (codes "rounds") (λ a b. change.Shift (Rounds a b)) k l rounds
    (λ arguments x y is. ap (command_with (Some key.Rounds)) is) small
move_read (Teams i j) small = two_read (codes "teams") (λ a b. change.Shift (Teams a b)) i j teams
    (λ arguments x y is. ap (command_with (Some key.Teams)) is) small
move_read (PartRounds i k l) small =
    three_read (codes "part-rounds") (λ a b c. change.Shift (PartRounds a b c)) i k l part_rounds
    (λ arguments x y z is. ap (command_with (Some key.PartRounds)) is) small
move_read (PartTeams i j k) small =
    three_read (codes "part-teams") (λ a b c. change.Shift (PartTeams a b c)) i j k part_teams
    (λ arguments x y z is. ap (command_with (Some key.PartTeams)) is) small

abbrev game_at : ℕ → ℕ → ℕ → Game
game_at r h a = record { round = r; home = h; away = a }

pub line_read : (c : Change) → IsSmall c → line_of (bare_line c) ≡ Asks c
line_read (change.Shift mv) small = move_read mv small
line_read (change.Pin game) small =
    three_read (codes "pin") (λ r h a. change.Pin (game_at r h a)) game.round game.home game.away pin
    (λ arguments x y z is. ap (command_with (Some key.Pin)) is) small
line_read (change.Unpin game) small =
    three_read (codes "unpin") (λ r h a. change.Unpin (game_at r h a)) game.round game.home game.away unpin
    (λ arguments x y z is. ap (command_with (Some key.Unpin)) is) small
line_read change.Undo small = refl
