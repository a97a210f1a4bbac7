-- A line has a cause exactly if it is bad.
use Rattle.std.proofs.Common.{◌≡◌, ℕ, ◌+◌, ◌-◌, ◌==◌, ◌||◌, ◌&&◌, ◌<◌, suc, ◌∙◌, if◌then◌else◌, not, List, [], ◌∷◌, length, take, slice_index, codes, Bool, true, false}
use Rattle.std.proofs.Common.{Option, Some, None, IfSome, is_some, option_map, refl, sym, ap, ap₂, arith}
use Rattle.std.specs.Option.{option_map_or}
use Rattle.std.specs.Str.{bytes_eq}
use Rattle.league_json.specs.Json.{only_if}
use Rattle.board_texts.specs.Command.{command_of, command_of_words, command_with, keyword_of, line_of_words, numbers_of, one_more, tried}
use Rattle.text_lines.specs.Number.{number_of}
use Rattle.text_lines.specs.Words.{words_of}
use Rattle.board_texts.specs.declared.script_line.ScriptLine.{ScriptLine}
use Rattle.board_texts.specs.declared.script_line.ScriptLine.TheVariants.{Bad, Skip}
use Rattle.board_texts.specs.declared.script_line.Keyword.{Keyword}
use Rattle.board_texts.specs.declared.script_line.Keyword.TheVariants as key
use Rattle.schedule_texts.specs.ScheduleText as schedule
use Rattle.schedule_texts.specs.declared.schedule_text.ScheduleLine.{ScheduleLine}
use Rattle.schedule_texts.specs.declared.schedule_text.ScheduleLine.TheVariants as schedule_line
use Rattle.std.proofs.lemmas.Bool.{true≢false}
use Rattle.std.proofs.lemmas.Bool.Decides.{nat_tests}
use Rattle.league_forms.specs.Forms.{or_else}
use Rattle.script_hints.specs.declared.cause.Cause.{Cause}
use Rattle.script_hints.specs.Hints.{first_hint, has_bad_line}
use Rattle.script_hints.specs.Schedule.{first_no_game, games_cause, round_cause, schedule_cause}
use Rattle.script_hints.specs.Schedule.{cause_in_words as schedule_words_cause}
use Rattle.script_hints.specs.Script.{argument_count, arguments_cause, begins_move, cause_in_words, command_cause}
use Rattle.script_hints.specs.Script.{first_no_number, is_bad, is_move, named_cause, script_cause, try_cause}

some_or : {A : Type 0} (a b : Option A) → is_some (or_else a b) ≡ is_some a || is_some b
some_or None b = refl
some_or (Some x) b = refl

some_only : {A : Type 0} (b : Bool) (x : A) → is_some (only_if b x) ≡ b
some_only true x = refl
some_only false x = refl

some_map : {A B : Type 0} (f : A → B) (o : Option A) → is_some (option_map f o) ≡ is_some o
some_map f None = refl
some_map f (Some x) = refl

-- ---- scripts

too_many : (a b c d : ℕ) (more : List ℕ) (k : ℕ) → k < 4 → (length (a ∷ b ∷ c ∷ d ∷ more) == k) ≡ false
too_many a b c d more k few = grind (arith, nat_tests)

-- there are another number of numbers than the keyword wants exactly if they are no command, and behind `try` no move
abbrev Fits : Keyword → List ℕ → Type 0
Fits k ns = (not (length ns == argument_count k) ≡ is_bad (command_of k ns))
    × (not (length ns == argument_count k) || not (begins_move k) ≡ is_bad (tried (command_of k ns)))

by_length : (k : Keyword) → argument_count k < 4 → Fits k [] → ((a : ℕ) → Fits k (a ∷ [])) → ((a b : ℕ) → Fits k (a ∷ b ∷ []))
    → ((a b c : ℕ) → Fits k (a ∷ b ∷ c ∷ [])) → ((a b c d : ℕ) (more : List ℕ) → command_of k (a ∷ b ∷ c ∷ d ∷ more) ≡ Bad)
    → (ns : List ℕ) → Fits k ns
by_length k few none one two three bad [] = none
by_length k few none one two three bad (a ∷ []) = one a
by_length k few none one two three bad (a ∷ b ∷ []) = two a b
by_length k few none one two three bad (a ∷ b ∷ c ∷ []) = three a b c
by_length k few none one two three bad (a ∷ b ∷ c ∷ d ∷ more) =
    rw (bad a b c d more, too_many a b c d more (argument_count k) few) (refl, refl)

fits : (k : Keyword) (ns : List ℕ) → Fits k ns
fits key.Homes = by_length key.Homes (omega arith) (refl, refl) (λ a. (refl, refl)) (λ a b. (refl, refl)) (λ a b c. (refl, refl)) (λ a b c d more. refl)
fits key.Rounds = by_length key.Rounds (omega arith) (refl, refl) (λ a. (refl, refl)) (λ a b. (refl, refl)) (λ a b c. (refl, refl)) (λ a b c d more. refl)
fits key.Teams = by_length key.Teams (omega arith) (refl, refl) (λ a. (refl, refl)) (λ a b. (refl, refl)) (λ a b c. (refl, refl)) (λ a b c d more. refl)
fits key.PartRounds = by_length key.PartRounds (omega arith) (refl, refl) (λ a. (refl, refl)) (λ a b. (refl, refl)) (λ a b c. (refl, refl)) (λ a b c d more. refl)
fits key.PartTeams = by_length key.PartTeams (omega arith) (refl, refl) (λ a. (refl, refl)) (λ a b. (refl, refl)) (λ a b c. (refl, refl)) (λ a b c d more. refl)
fits key.Pin = by_length key.Pin (omega arith) (refl, refl) (λ a. (refl, refl)) (λ a b. (refl, refl)) (λ a b c. (refl, refl)) (λ a b c d more. refl)
fits key.Unpin = by_length key.Unpin (omega arith) (refl, refl) (λ a. (refl, refl)) (λ a b. (refl, refl)) (λ a b c. (refl, refl)) (λ a b c d more. refl)
fits key.Undo = by_length key.Undo (omega arith) (refl, refl) (λ a. (refl, refl)) (λ a b. (refl, refl)) (λ a b c. (refl, refl)) (λ a b c d more. refl)
fits key.Slack = by_length key.Slack (omega arith) (refl, refl) (λ a. (refl, refl)) (λ a b. (refl, refl)) (λ a b c. (refl, refl)) (λ a b c d more. refl)

no_number_step : (number : Option ℕ) (numbers : Option (List ℕ)) (rest : Option (List ℕ)) (word : List ℕ) → is_some rest ≡ not (is_some numbers) →
    is_some (if is_some number then rest else Some word) ≡ not (is_some (one_more number numbers))
no_number_step None numbers rest word e = refl
no_number_step (Some n) None rest word e = e
no_number_step (Some n) (Some ns) rest word e = e

no_number : (words : List (List ℕ)) → is_some (first_no_number words) ≡ not (is_some (numbers_of words))
no_number [] = refl
no_number (word ∷ words) = no_number_step (number_of word) (numbers_of words) (first_no_number words) word (no_number words)

one_more_length : (number : Option ℕ) (numbers : Option (List ℕ)) (n : ℕ) → IfSome numbers (λ ns. length ns ≡ n) →
    IfSome (one_more number numbers) (λ ns. length ns ≡ suc n)
one_more_length None numbers n e = tt
one_more_length (Some x) None n e = tt
one_more_length (Some x) (Some ns) n e = ap suc e

numbers_length : (words : List (List ℕ)) → IfSome (numbers_of words) (λ ns. length ns ≡ length words)
numbers_length [] = refl
numbers_length (word ∷ words) = one_more_length (number_of word) (numbers_of words) (length words) (numbers_length words)

-- the numbers, if there are any, are as many as the words; and these are wrong exactly if there are none
command_at : (numbers : Option (List ℕ)) (wrong : Bool) (k : Keyword) (n : ℕ) → wrong ≡ not (is_some numbers) →
    IfSome numbers (λ ns. length ns ≡ n) → wrong || not (n == argument_count k) ≡ is_bad (command_with (Some k) numbers)
command_at None wrong k n e long = rw e refl
command_at (Some ns) wrong k n e long = rw (e, ← long) (fits k ns).0

move_at : (numbers : Option (List ℕ)) (wrong : Bool) (k : Keyword) (n : ℕ) → wrong ≡ not (is_some numbers) →
    IfSome numbers (λ ns. length ns ≡ n) →
    (wrong || not (n == argument_count k)) || not (begins_move k) ≡ is_bad (tried (command_with (Some k) numbers))
move_at None wrong k n e long = rw e refl
move_at (Some ns) wrong k n e long = rw (e, ← long) (fits k ns).1

some_arguments : (k : Keyword) (words : List (List ℕ)) → is_some (arguments_cause k words)
    ≡ is_some (first_no_number words) || not (length words == argument_count k)
some_arguments k words =
    some_or _ _ ∙ ap₂ (λ (a b : Bool). a || b) (some_map _ (first_no_number words)) (some_only (not (length words == argument_count k)) _)

command_named : (k : Option Keyword) (word : List ℕ) (words : List (List ℕ)) →
    is_some (named_cause word k words) ≡ is_bad (command_with k (numbers_of words))
command_named None word words = refl
command_named (Some k) word words =
    some_arguments k words ∙ command_at (numbers_of words) _ k _ (no_number words) (numbers_length words)

move_named : (k : Option Keyword) (word : List ℕ) (words : List (List ℕ)) →
    is_some (named_cause word k words) || not (option_map_or begins_move k false) ≡ is_bad (tried (command_with k (numbers_of words)))
move_named None word words = refl
move_named (Some k) word words =
    ap (λ (a : Bool). a || not (begins_move k)) (some_arguments k words)
    ∙ move_at (numbers_of words) _ k _ (no_number words) (numbers_length words)

command_exactly : (words : List (List ℕ)) → is_some (command_cause words) ≡ is_bad (command_of_words words)
command_exactly [] = refl
command_exactly (word ∷ words) = command_named (keyword_of word) word words

try_exactly : (words : List (List ℕ)) → is_some (try_cause words) ≡ is_bad (tried (command_of_words words))
try_exactly [] = refl
try_exactly (word ∷ words) =
    some_or _ _ ∙ ap (λ (b : Bool). is_some (command_cause (word ∷ words)) || b) (some_only (not (is_move (word ∷ words))) _)
    ∙ move_named (keyword_of word) word words

chosen : (remark tries : Bool) (c d : Option Cause) (x y : ScriptLine) → is_some c ≡ is_bad x → is_some d ≡ is_bad y →
    is_some (if remark then None else if tries then c else d) ≡ is_bad (if remark then Skip else if tries then x else y)
chosen true tries c d x y first second = refl
chosen false true c d x y first second = first
chosen false false c d x y first second = second

words_exactly : (words : List (List ℕ)) → is_some (cause_in_words words) ≡ is_bad (line_of_words words)
words_exactly [] = refl
words_exactly (word ∷ words) =
    chosen (slice_index word 0 == 35) (bytes_eq word (codes "try")) _ _ _ _ (try_exactly words) (command_exactly (word ∷ words))

pub script_exactly : (number : ℕ) (lines : List (List ℕ)) → is_some (first_hint script_cause number lines) ≡ has_bad_line lines
script_exactly number [] = refl
script_exactly number (line ∷ lines) =
    some_or _ _ ∙ ap₂ (λ (a b : Bool). a || b) (some_map _ (script_cause line) ∙ words_exactly (words_of line)) (script_exactly (number + 1) lines)

-- ---- schedules

game_numbers : (round : ℕ) (home away : Option ℕ) →
    is_some (schedule.game_of_numbers 0 home away) ≡ is_some (schedule.game_of_numbers round home away)
game_numbers round None away = refl
game_numbers round (Some h) None = refl
game_numbers round (Some h) (Some a) = refl

no_game_step : (game other : Bool) (rest : Option (List ℕ)) (all : Bool) (word : List ℕ) → game ≡ other → is_some rest ≡ not all →
    is_some (if game then rest else Some word) ≡ not (other && all)
no_game_step true true rest all word same e = e
no_game_step false false rest all word same e = refl
no_game_step true false rest all word same e = absurd (true≢false same)
no_game_step false true rest all word same e = absurd (true≢false (sym same))

no_game : (round : ℕ) (words : List (List ℕ)) → is_some (first_no_game words) ≡ not (schedule.are_games round words)
no_game round [] = refl
no_game round (word ∷ words) = no_game_step _ _ _ _ word (game_numbers round _ _) (no_game round words)

games_line : (round : ℕ) (all : Bool) → not all ≡ schedule.is_bad (if all then schedule_line.Round round else schedule_line.Bad)
games_line round true = refl
games_line round false = refl

numbered_at : (colon : Bool) (round : Option ℕ) (words : List (List ℕ)) (x y : Cause) →
    is_some (if colon then (if is_some round then games_cause words else Some x) else Some y)
    ≡ schedule.is_bad (schedule.numbered_line (if colon then round else None) words)
numbered_at false round words x y = refl
numbered_at true None words x y = refl
numbered_at true (Some round) words x y =
    some_map _ (first_no_game words) ∙ no_game round words ∙ games_line round (schedule.are_games round words)

round_exactly : (words : List (List ℕ)) → is_some (round_cause words) ≡ schedule.is_bad (schedule.round_line words)
round_exactly [] = refl
round_exactly (word ∷ words) = numbered_at (slice_index word (length word - 1) == 58) (number_of (take (length word - 1) word)) words _ _

of_round : (is : Bool) (c : Option Cause) (x : ScheduleLine) → is_some c ≡ schedule.is_bad x →
    is_some (if is then c else None) ≡ schedule.is_bad (if is then x else schedule_line.Other)
of_round true c x e = e
of_round false c x e = refl

schedule_words_exactly : (words : List (List ℕ)) → is_some (schedule_words_cause words) ≡ schedule.is_bad (schedule.line_of_words words)
schedule_words_exactly [] = refl
schedule_words_exactly (word ∷ words) = of_round (bytes_eq word (codes "round")) _ _ (round_exactly words)

pub schedule_exactly : (number : ℕ) (lines : List (List ℕ)) → is_some (first_hint schedule_cause number lines) ≡ schedule.has_bad_line lines
schedule_exactly number [] = refl
schedule_exactly number (line ∷ lines) =
    some_or _ _ ∙ ap₂ (λ (a b : Bool). a || b) (some_map _ (schedule_cause line) ∙ schedule_words_exactly (words_of line)) (schedule_exactly (number + 1) lines)
