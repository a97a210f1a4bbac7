-- How a text is cut into lines, and a line into words.
use Rattle.std.proofs.Common.{◌≡◌, inl, inr, ℕ, suc, ◌+◌, ◌<◌, ◌≤◌, add-one, Bool, true, false, cond, not, ltb}
use Rattle.std.proofs.Common.{eqb, List, [], ◌∷◌, ◌++◌, length, take, drop, get_or, Option, Some, None, refl, ◌∙◌, sym}
use Rattle.std.proofs.Common.{ap, arith, append_assoc, append-nil, drop-cons, length-drop, length-append, filter}
use Rattle.std.proofs.Math.Nat.{eq-or-lt_of_le}
use Rattle.std.proofs.Math.Seq.{take-append_seam}
use Rattle.std.specs.List.{slice_split, position_or_len}
use Rattle.std.specs.Option.{unwrap_or}
use Rattle.std.specs.Str.Lines.{strip_carriage_return}
use Rattle.std.proofs.lemmas.Bool.{cases_Bool}
use Rattle.std.proofs.lemmas.Bool.Decides.{nat_tests}
use Rattle.std.proofs.lemmas.List.{take_all, drop_all, length-take-le}
use Rattle.std.proofs.lemmas.List.Elements.{All-from_get_or}
use Rattle.std.proofs.lemmas.List.Splits.{slice_split_first, slice_split_none, length-slice_split}
use Rattle.std.proofs.lemmas.List.Sums.{fails_before_first, prefix_len-le-length, split_at_first, prefix_len_stops}
use Rattle.text_lines.specs.Input.{TakesLine, is_line_end, lines_after, text_before}
use Rattle.text_lines.specs.Words.{is_blank, is_word, words_of}

-- the index that was found, or the length
pub index_or_length : {X : Type 0} (p : X → Bool) (xs : List X) (r : Option ℕ)
    → r ≡ cond (ltb (position_or_len p xs) (length xs)) (Some (position_or_len p xs)) None → unwrap_or r (length xs) ≡ position_or_len p xs
index_or_length p xs r e = rw e (grind (arith, nat_tests, prefix_len-le-length (λ x. not (p x)) xs))

-- the first part of a list that has one
first_part : {X : Type 0} (parts : List X) → 0 < length parts → (part : X) × (more : List X) × (parts ≡ part ∷ more)
first_part [] some = absurd (omega arith)
first_part (part ∷ more) some = (part, more, refl)

pub parts_of : (p : ℕ → Bool) (bs : List ℕ) → (part : List ℕ) × (more : List (List ℕ)) × (slice_split p bs ≡ part ∷ more)
parts_of p bs = first_part (slice_split p bs) (omega (arith, length-slice_split p bs))

-- nothing passes, so all is one part
one_part : (p : ℕ → Bool) (bs : List ℕ) → position_or_len p bs ≡ length bs → slice_split p bs ≡ bs ∷ []
one_part p bs e = slice_split_none p bs (All-from_get_or (λ b. p b ≡ false) bs 0 (λ i within. fails_before_first p bs i 0 (omega arith)))

-- what stands before the first that passes is the first part
more_parts : (p : ℕ → Bool) (bs : List ℕ) (n : ℕ) → n ≡ position_or_len p bs → n < length bs →
    slice_split p bs ≡ take n bs ∷ slice_split p (drop (n + 1) bs)
more_parts p bs n is within = rw is (slice_split_first p bs 0 (omega arith))

-- the list in three: before the first that passes, that one, and after it
three_parts : (p : ℕ → Bool) (bs : List ℕ) (n : ℕ) → n ≡ position_or_len p bs → n < length bs → bs ≡ take n bs ++
    (get_or bs n 0 ∷ drop (n + 1) bs)
three_parts p bs n is within = rw (← is) at (split_at_first p bs 0 (omega arith))

not-true : (b : Bool) → not b ≡ false → b ≡ true
not-true true e = refl
not-true false e = cc

passes_at : (p : ℕ → Bool) (bs : List ℕ) (n : ℕ) → n ≡ position_or_len p bs → n < length bs → p (get_or bs n 0) ≡ true
passes_at p bs n is within = rw is (not-true _ (prefix_len_stops (λ b. not (p b)) bs 0 (omega arith)))

n≤length : (bs : List ℕ) (n : ℕ) → n ≡ position_or_len is_blank bs → n ≤ length bs
n≤length bs n is = omega (arith, prefix_len-le-length (λ b. not (is_blank b)) bs)

-- no line is left
nothing_before : (word : List ℕ) → text_before word [] ≡ []
unfolding text_before
nothing_before [] = refl
nothing_before (b ∷ bs) = refl

none_left : (word : List ℕ) → 0 < length word → lines_after word [] ≡ None
unfolding lines_after
none_left [] letters = absurd (omega arith)
none_left (b ∷ bs) letters = refl

-- ---- lines

-- the first line ends at a line end
pub takes_ended_line : (bs : List ℕ) (n : ℕ) → n ≡ position_or_len is_line_end bs → n < length bs →
    TakesLine bs (strip_carriage_return (take n bs)) (drop (n + 1) bs)
unfolding text_before lines_after
takes_ended_line bs n is within =
    let first = more_parts is_line_end bs n is within in
    let next = parts_of is_line_end (drop (n + 1) bs) in
    let end : get_or bs n 0 ≡ 10 = grind (arith, nat_tests, passes_at is_line_end bs n is within) in
    record {
      taken = take n bs ++ (10 ∷ []);
      parts = rw append_assoc (rw end at (three_parts is_line_end bs n is within));
      shorter = omega (arith, length-drop (n + 1) bs);
      lines_are = rw (first, next.2) refl;
      before = λ word. rw (first, next.2, append_assoc) refl;
      after = λ word some. rw (first, next.2) refl;
    }

-- the last line goes to the end of the text
pub takes_last_line : (bs : List ℕ) → position_or_len is_line_end bs ≡ length bs → 0 < length bs → TakesLine bs bs []
unfolding text_before lines_after
takes_last_line bs is some =
    let one = one_part is_line_end bs is in
    let full : eqb (length bs) 0 ≡ false = grind (arith, nat_tests) in
    record {
      taken = bs;
      parts = sym (append-nil bs);
      shorter = some;
      lines_are = rw (one, full) refl;
      before = λ word. rw (one, nothing_before word, append-nil) refl;
      after = λ word letters. rw (one, none_left word letters) refl;
    }

-- ---- words

drop_one_more : {X : Type 0} (n : ℕ) (x : X) (xs : List X) → drop (1 + n) (x ∷ xs) ≡ drop n xs
drop_one_more n x xs = let e : 1 + n ≡ suc n = omega arith in rw e refl

blank_dropped : (b : ℕ) (bs : List ℕ) → is_blank b ≡ true → words_of (b ∷ bs) ≡ words_of bs
blank_dropped b bs e = rw e refl

-- blanks at the front are no words
pub blanks_dropped : (bs : List ℕ) → words_of bs ≡ words_of (drop (position_or_len (λ b. not (is_blank b)) bs) bs)
blanks_dropped [] = refl
blanks_dropped (b ∷ bs) = elim (cases_Bool (is_blank b)) [
  | inl e ↦ rw (blank_dropped b bs e, e, drop_one_more _ b bs) (blanks_dropped bs)
  | inr e ↦ let whole : drop (position_or_len (λ b. not (is_blank b)) (b ∷ bs)) (b ∷ bs) ≡ b ∷ bs = rw e refl in rw whole refl
]

-- after them a word begins
pub word_begins : (bs : List ℕ) (text : List ℕ) → text ≡ drop (position_or_len (λ b. not (is_blank b)) bs) bs → 0 < length text →
    0 < position_or_len is_blank text
word_begins [] text e some = let none : text ≡ [] = e in absurd (omega (arith, ap length none))
word_begins (b ∷ bs) text e some = elim (cases_Bool (is_blank b)) [
  | inl blank ↦ word_begins bs text (rw (blank, drop_one_more _ b bs) at e) some
  | inr other ↦ let whole : text ≡ b ∷ bs = rw other at e in rw (whole, other) (omega arith)
]

pub is_word-some : (word : List ℕ) → 0 < length word → is_word word ≡ true
is_word-some word some = let full : eqb (length word) 0 ≡ false = grind (arith, nat_tests) in rw full refl

-- no byte is left but blanks
pub no_word : (text : List ℕ) → length text ≤ 0 → words_of text ≡ []
no_word [] none = refl
no_word (b ∷ bs) none = absurd (omega arith)

pub word_kept : (word : List ℕ) (more : List (List ℕ)) → 0 < length word → filter is_word (word ∷ more) ≡ word ∷ filter is_word more
word_kept word more some = rw (is_word-some word some) refl

-- the first word goes to the first blank, or to the end
pub first_word : (bs : List ℕ) (n : ℕ) → n ≡ position_or_len is_blank bs → 0 < n → words_of bs ≡ take n bs ∷ words_of (drop n bs)
first_word bs n is some = elim (eq-or-lt_of_le (n≤length bs n is)) [
  | inl all ↦
      let one = one_part is_blank bs (omega arith) in
      rw (take_all n bs (omega arith), drop_all n bs (omega arith), one) (word_kept bs [] (omega arith))
  | inr within ↦
      let more = more_parts is_blank bs n is within in
      let rest : drop n bs ≡ get_or bs n 0 ∷ drop (n + 1) bs = rw add-one (drop-cons bs n 0 within) in
      rw (rest, blank_dropped (get_or bs n 0) (drop (n + 1) bs) (passes_at is_blank bs n is within), more)
      (word_kept (take n bs) (slice_split is_blank (drop (n + 1) bs)) (omega (arith, length-take-le n bs (omega arith))))
]

-- ---- the two parts of an input

-- no line before `rest`, which begins at `start`, is the word
pub record IsReadTo (word input rest : List ℕ) (start : ℕ) : Type 0 where
  pub start_is : start + length rest ≡ length input
  pub parts : input ≡ take start input ++ rest
  pub before : text_before word input ≡ take start input ++ text_before word rest
  pub after : lines_after word input ≡ lines_after word rest

front_of : (input front rest : List ℕ) (n : ℕ) → input ≡ front ++ rest → n + length rest ≡ length input → take n input ≡ front
front_of input front rest n e is =
    let n_is : n ≡ length front = omega (arith, length-append front rest, ap length e) in
    rw (n_is, e) (take-append_seam front rest)

-- no line is left
pub ends_without : (word input : List ℕ) (start : ℕ) → 0 < length word → IsReadTo word input [] start
    → (input ≡ text_before word input) × (None ≡ lines_after word input)
unfolding text_before
ends_without word input start letters so_far =
    let none : text_before word [] ≡ [] = nothing_before word in
    (so_far.parts ∙ rw none at (sym so_far.before), sym (so_far.after ∙ none_left word letters))
