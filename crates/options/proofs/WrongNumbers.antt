-- What the words hold that a walk has yet to see, and when clap takes a word for a number.
use Rattle.std.proofs.Common.{◌≡◌, ◌∙◌, ◌↔◌, ◌+◌, ◌<◌, ℕ, ap, sym, refl, true≢false, Bool, true, false, List, ◌∷◌, length, drop, get_or, map, Option, Some, None}
use Rattle.std.specs.Prelude.{IsTrue, codes}
use Rattle.std.specs.Str.{bytes_eq}
use Rattle.std.proofs.lemmas.List.{drop-map, drop_more}
use Rattle.clap.specs.ValueTests.{accepts}
use Rattle.clap.specs.Words.{IsUnsignedIn, Text}
use Rattle.clap.specs.declared.builder.value_parser.ValueParser.TheVariants.{Unsigned}
use Rattle.clap.proofs.ValueTestLemmas.{Accepts-accepts, accepts-Accepts}
use Rattle.options.specs.within.WrongNumbers.{Wanting, Wrong, option_at, value_at, waits, wrong_from, wrong_if_any}

pub by_test : (b : Bool) (least most : ℕ) (text : Text) → IsTrue b ↔ IsUnsignedIn least most text → b ≡ accepts false (Unsigned least most) text
by_test true least most text same = sym (Accepts-accepts false (Unsigned least most) text (same.0 refl))
by_test false least most text same = go (accepts false (Unsigned least most) text) refl
  where
    go : (t : Bool) → accepts false (Unsigned least most) text ≡ t → false ≡ accepts false (Unsigned least most) text
    go true is = absurd (true≢false (sym (same.1 (accepts-Accepts false (Unsigned least most) text is))))
    go false is = sym is

-- the next of a list's images
pub next_at : {X Y : Type 0} (f : X → Y) (xs : List X) (i : ℕ) (x d : X) → i < length xs → x ≡ get_or xs i d →
    drop i (map f xs) ≡ f x ∷ drop (i + 1) (map f xs)
next_at f xs i x d within is =
    drop-map f i xs ∙ ap (map f) (drop_more xs i d within ∙ ap (λ y. y ∷ drop (i + 1) xs) (sym is))
    ∙ ap (λ ys. f x ∷ ys) (sym (drop-map f (i + 1) xs))

module _ (command : Text) (waiting : Option Wanting) (word : Text) (rest : List Text) where
  pub stops : bytes_eq word (codes "--") ≡ true → wrong_from command waiting (word ∷ rest) ≡ None
  stops dashes = rw dashes refl

  pub tells : (wrong : Wrong) → bytes_eq word (codes "--") ≡ false →
      wrong_if_any (option_at command waiting word) (value_at waiting word) ≡ Some wrong → wrong_from command waiting (word ∷ rest) ≡ Some wrong
  tells wrong passes is = rw (passes, is) refl

  pub goes_on : bytes_eq word (codes "--") ≡ false → wrong_if_any (option_at command waiting word) (value_at waiting word) ≡ None →
      wrong_from command waiting (word ∷ rest)
      ≡ wrong_from command (waits (option_at command waiting word) (value_at waiting word)) rest
  goes_on passes is = rw (passes, is) refl
