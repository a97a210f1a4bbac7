-- Items between commas, and sets and lists that grow by one.
use Rattle.std.proofs.Common.{◌≡◌, ◌∙◌, ℕ, ◌+◌, ◌<◌, zero, suc, add-one, ap, arith, List, [], ◌∷◌, ◌++◌, length, take, drop, get_or, map}
use Rattle.std.proofs.Common.{Option, Some, None, refl, sym, is_some, option_and_then, true, false, true≢false}
use Rattle.std.specs.Prelude.{if◌then◌else◌}
use Rattle.std.specs.Borrow.{Bor}
use Rattle.std.specs.List.{position_or_len, slice_split}
use Rattle.std.proofs.lemmas.List.Elements.{All-from_get_or}
use Rattle.std.proofs.lemmas.List.Splits.{slice_split_first, slice_split_none}
use Rattle.std.proofs.lemmas.List.Sums.{fails_before_first}
use Rattle.clap.specs.Words.{Text}
use Rattle.sets.specs.Sets.{with_number}
use Rattle.options.specs.Beginnings.{game_of_text, is_comma, with_games, with_item, with_items, with_numbers}
use Rattle.options.specs.within.Refusals.{first_wrong}

pub one_more : (set first n : ℕ) → with_numbers set first (n + 1) ≡ with_number (with_numbers set first n) (first + n)
one_more set first n = rw (add-one n) refl

-- nothing is a comma, so all is one item
pub last_item : (set : ℕ) (text : Text) → position_or_len is_comma text ≡ length text →
    with_items set (slice_split is_comma text) ≡ with_item set text
last_item set text e =
    let one = slice_split_none is_comma text
    (All-from_get_or (λ b. is_comma b ≡ false) text 0 (λ i within. fails_before_first is_comma text i 0 (omega arith))) in
    ap (with_items set) one ∙ or_none (with_item set text)
  where
    or_none : (o : Option ℕ) → option_and_then (λ more. Some more) o ≡ o
    or_none None = refl
    or_none (Some n) = refl

-- the first comma ends the first item
pub more_items : (set n : ℕ) (text : Text) → n ≡ position_or_len is_comma text → n < length text →
    with_items set (slice_split is_comma text)
    ≡ option_and_then (λ more. with_items more (slice_split is_comma (drop (n + 1) text))) (with_item set (take n text))
more_items set n text is within =
    let parts : slice_split is_comma text ≡ take n text ∷ slice_split is_comma (drop (n + 1) text) = rw is
    (slice_split_first is_comma text 0 (omega arith)) in
    ap (with_items set) parts

-- one more text is a game
next_game : (games : List (ℕ × ℕ)) (texts : List (Bor Text)) (i : ℕ) (d : Bor Text) → i < length texts →
    with_games games (drop i (map (λ text. text.now) texts))
    ≡ option_and_then (λ game. with_games (games ++ game ∷ []) (drop (suc i) (map (λ text. text.now) texts)))
    (game_of_text (get_or texts i d).now)
next_game games [] i d within = absurd (omega arith)
next_game games (x ∷ xs) zero d within = refl
next_game games (x ∷ xs) (suc i) d within = next_game games xs i d (omega arith)

pub more_games : (games : List (ℕ × ℕ)) (texts : List (Bor Text)) (i : ℕ) (d : Bor Text) → i < length texts →
    with_games games (drop i (map (λ text. text.now) texts))
    ≡ option_and_then (λ game. with_games (games ++ game ∷ []) (drop (i + 1) (map (λ text. text.now) texts)))
    (game_of_text (get_or texts i d).now)
more_games games texts i d within = rw (add-one i) (next_game games texts i d within)

-- the first text that is wrong is the next one, or it is not
pub wrong_here : (texts : List (Bor Text)) (i : ℕ) (d : Bor Text) → i < length texts → is_some (game_of_text (get_or texts i d).now) ≡ false
    → first_wrong (drop i (map (λ text. text.now) texts)) ≡ (get_or texts i d).now
wrong_here [] i d within none = absurd (omega arith)
wrong_here (x ∷ xs) zero d within none = named (game_of_text x.now) _ _ none
  where
    named : (game : Option (ℕ × ℕ)) (later this : Text) → is_some game ≡ false → (if is_some game then later else this) ≡ this
    named None later this none = refl
    named (Some game) later this none = absurd (true≢false none)
wrong_here (x ∷ xs) (suc i) d within none = wrong_here xs i d (omega arith) none

pub wrong_later : (texts : List (Bor Text)) (i : ℕ) (d : Bor Text) → i < length texts → is_some (game_of_text (get_or texts i d).now) ≡ true
    → first_wrong (drop i (map (λ text. text.now) texts)) ≡ first_wrong (drop (i + 1) (map (λ text. text.now) texts))
wrong_later texts i d within some = rw (add-one i) (go texts i within some)
  where
    passed : (game : Option (ℕ × ℕ)) (later this : Text) → is_some game ≡ true → (if is_some game then later else this) ≡ later
    passed None later this some = absurd (true≢false (sym some))
    passed (Some game) later this some = refl

    go : (texts : List (Bor Text)) (i : ℕ) → i < length texts → is_some (game_of_text (get_or texts i d).now) ≡ true
        → first_wrong (drop i (map (λ text. text.now) texts)) ≡ first_wrong (drop (suc i) (map (λ text. text.now) texts))
    go [] i within some = absurd (omega arith)
    go (x ∷ xs) zero within some = passed (game_of_text x.now) _ _ some
    go (x ∷ xs) (suc i) within some = go xs i (omega arith) some
