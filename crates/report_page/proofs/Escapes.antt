-- Names on a page: no mark is left, and a browser reads them back.
use Rattle.std.proofs.Common.{◌≡◌, ◌∙◌, ◌&&◌, ◌||◌, not, cond, ℕ, List, [], ◌∷◌, ◌++◌, Bool, true, false, inl, inr, ap, refl, subst, sym}
use Rattle.std.specs.List.{list_all}
use Rattle.std.specs.Prelude.{◌==◌, Option, Some, option_map}
use Rattle.std.proofs.lemmas.Bool.Decides.{eqb_tells}
use Rattle.std.proofs.lemmas.List.Folds.{list_all-append}
use Rattle.report_page.specs.Pieces.{escape_of, escaped, is_plain, unescaped}

-- a byte is one of the five marks, or none of them
by_mark : (P : ℕ → Type 0) → P 38 → P 60 → P 62 → P 34 → P 39
    → ((b : ℕ) → (b == 38) ≡ false → (b == 60) ≡ false → (b == 62) ≡ false → (b == 34) ≡ false → (b == 39) ≡ false → P b)
    → (b : ℕ) → P b
by_mark P ampersand less more quote apostrophe other b =
    elim (eqb_tells b 38) [
      | inl is ↦ subst P (sym is.1) ampersand
      | inr a ↦ elim (eqb_tells b 60) [
        | inl is ↦ subst P (sym is.1) less
        | inr l ↦ elim (eqb_tells b 62) [
          | inl is ↦ subst P (sym is.1) more
          | inr m ↦ elim (eqb_tells b 34) [
            | inl is ↦ subst P (sym is.1) quote
            | inr q ↦ elim (eqb_tells b 39) [ inl is ↦ subst P (sym is.1) apostrophe | inr p ↦ other b a.0 l.0 m.0 q.0 p.0 ]
          ]
        ]
      ]
    ]

-- any other byte stands for itself
as_it_is : (b : ℕ) → (b == 38) ≡ false → (b == 60) ≡ false → (b == 62) ≡ false → (b == 34) ≡ false → (b == 39) ≡ false →
    escape_of b ≡ b ∷ []
as_it_is b a l m q p = rw (a, l, m, q, p) refl

escape_plain : (b : ℕ) → list_all is_plain (escape_of b) ≡ true
escape_plain = by_mark (λ b. list_all is_plain (escape_of b) ≡ true) refl refl refl refl refl
    (λ b a l m q p.
    let plain : not (b == 60 || (b == 62 || (b == 34 || b == 39))) ≡ true = rw (l, m, q, p) refl in
    subst (λ text. list_all is_plain text ≡ true) (sym (as_it_is b a l m q p)) (ap (λ t. t && true) plain))

pub escaped_plain : (name : List ℕ) → list_all is_plain (escaped name) ≡ true
escaped_plain [] = refl
escaped_plain (b ∷ bs) = list_all-append is_plain (escape_of b) (escaped bs) ∙ rw (escape_plain b, escaped_plain bs) refl

first_read : (is_mark : Bool) (first other : Option (List ℕ)) → is_mark ≡ false → cond (not is_mark) first other ≡ first
first_read is_mark first other is = rw is refl

itself_read : (b : ℕ) (rest : List ℕ) → (b == 38) ≡ false → unescaped 0 (b ∷ rest) ≡ option_map (λ name. b ∷ name) (unescaped 0 rest)
itself_read b rest other = first_read (b == 38) (option_map (λ name. b ∷ name) (unescaped 0 rest)) _ other

escape_read : (rest : List ℕ) (b : ℕ) → unescaped 0 (escape_of b ++ rest) ≡ option_map (λ name. b ∷ name) (unescaped 0 rest)
escape_read rest = by_mark (λ b. unescaped 0 (escape_of b ++ rest) ≡ option_map (λ name. b ∷ name) (unescaped 0 rest)) refl refl refl refl refl
    (λ b a l m q p.
    subst (λ text. unescaped 0 (text ++ rest) ≡ option_map (λ name. b ∷ name) (unescaped 0 rest)) (sym (as_it_is b a l m q p))
    (itself_read b rest a))

pub escaped_read : (name : List ℕ) → unescaped 0 (escaped name) ≡ Some name
escaped_read [] = refl
escaped_read (b ∷ bs) = escape_read (escaped bs) b ∙ ap (option_map (λ read. b ∷ read)) (escaped_read bs)
