-- Pieces of a page.
use Rattle.std.specs.Prelude.{ℕ, zero, suc, ◌==◌, ◌||◌, List, [], ◌∷◌, ◌++◌, Bool, not, codes, nat_eq, if◌then◌else◌}
use Rattle.std.specs.Prelude.{Option, Some, None, option_map}
use Rattle.std.specs.List.{starts_with}

-- a byte of a name in which the marks of HTML stand for themselves
abbrev pub escape_of : ℕ → List ℕ
escape_of b =
    if b == 38 then codes "&amp;" else if b == 60 then codes "&lt;" else if b == 62 then codes "&gt;"
    else if b == 34 then codes "&quot;" else if b == 39 then codes "&#39;" else b ∷ []

abbrev pub escaped : List ℕ → List ℕ
escaped [] = []
escaped (b ∷ bs) = escape_of b ++ escaped bs

-- whether the byte is no mark that begins or ends markup: `<`, `>`, `"` or `'`
abbrev pub is_plain : ℕ → Bool
is_plain b = not (b == 60 || (b == 62 || (b == 34 || b == 39)))

-- what a browser reads from a text, behind so many bytes that it has read: `&amp;` and its like are the marks that they stand for. It reads
-- none from a text in which an `&` begins something else
abbrev pub unescaped : ℕ → List ℕ → Option (List ℕ)
unescaped read [] = Some []
unescaped (suc read) (b ∷ bs) = unescaped read bs
unescaped zero (b ∷ bs) = if not (b == 38) then option_map (λ name. b ∷ name) (unescaped 0 bs)
    else (if starts_with nat_eq bs (codes "amp;") then option_map (λ name. 38 ∷ name) (unescaped 4 bs)
    else (if starts_with nat_eq bs (codes "lt;") then option_map (λ name. 60 ∷ name) (unescaped 3 bs)
    else (if starts_with nat_eq bs (codes "gt;") then option_map (λ name. 62 ∷ name) (unescaped 3 bs)
    else (if starts_with nat_eq bs (codes "quot;") then option_map (λ name. 34 ∷ name) (unescaped 5 bs)
    else (if starts_with nat_eq bs (codes "#39;") then option_map (λ name. 39 ∷ name) (unescaped 4 bs) else None)))))
