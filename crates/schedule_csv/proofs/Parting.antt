-- A line, parted behind its first cell.
use Rattle.std.proofs.Common.{◌≡◌, ◌≤◌, ◌<◌, ℕ, suc, ◌+◌, ◌-◌, ◌==◌, ◌&&◌, Bool, false, not, List, [], ◌∷◌, map, length, take, drop, refl, ap, inl, inr, arith, add-one}
use Rattle.std.proofs.Math.Seq.{take-length}
use Rattle.std.proofs.lemmas.Bool.{cases_Bool}
use Rattle.schedule_csv.specs.Cells.{cell_at, cells, inside_after, parts, trimmed, with_byte}
use Rattle.schedule_csv.specs.within.Cells.{cell_length}

-- before a separator
pub parted : (separator : ℕ) (inside : Bool) (line : List ℕ) → cell_length separator inside line < length line
    → parts separator inside line ≡ take (cell_length separator inside line) line ∷ parts separator false (drop (suc (cell_length separator inside line)) line)
parted separator inside [] short = absurd (omega (arith, short))
parted separator inside (b ∷ bs) short = elim (cases_Bool (not inside && (b == separator))) [
  | inl ends ↦ rw ends refl
  | inr goes_on ↦
      rw goes_on (ap (with_byte b) (parted separator (inside_after b inside) bs (omega (arith, rw goes_on at short))))
]

-- without one
pub whole : (separator : ℕ) (inside : Bool) (line : List ℕ) → cell_length separator inside line ≡ length line
    → parts separator inside line ≡ line ∷ []
whole separator inside [] long = refl
whole separator inside (b ∷ bs) long = elim (cases_Bool (not inside && (b == separator))) [
  | inl ends ↦ absurd (omega (arith, rw ends at long))
  | inr goes_on ↦
      rw goes_on (ap (with_byte b) (whole separator (inside_after b inside) bs (omega (arith, rw goes_on at long))))
]

-- the first cell is part of the line
pub within : (separator : ℕ) (inside : Bool) (line : List ℕ) → cell_length separator inside line ≤ length line
within separator inside [] = omega arith
within separator inside (b ∷ bs) = elim (cases_Bool (not inside && (b == separator))) [
  | inl ends ↦ rw ends (omega arith)
  | inr goes_on ↦ let short = within separator (inside_after b inside) bs in rw goes_on (omega (arith, short))
]

with_byte_length : (b : ℕ) (cells : List (List ℕ)) → length (with_byte b cells) ≡ length cells
with_byte_length b [] = refl
with_byte_length b (cell ∷ cells) = refl

-- a line has no more cells than bytes, and one
pub few : (separator : ℕ) (inside : Bool) (line : List ℕ) → length (parts separator inside line) ≤ suc (length line)
few separator inside [] = omega arith
few separator inside (b ∷ bs) = elim (cases_Bool (not inside && (b == separator))) [
  | inl ends ↦ let less = few separator false bs in rw ends (omega (arith, less))
  | inr goes_on ↦
      let less = few separator (inside_after b inside) bs in
      rw (goes_on, with_byte_length b (parts separator (inside_after b inside) bs)) (omega (arith, less))
]

map_length : {A B : Type 0} (f : A → B) (xs : List A) → length (map f xs) ≡ length xs
map_length f [] = refl
map_length f (x ∷ xs) = ap suc (map_length f xs)

pub few_cells : (separator : ℕ) (line : List ℕ) → length (cells separator line) ≤ length line + 1
few_cells separator line =
    let less = few separator false line in rw (map_length trimmed (parts separator false line)) (omega (arith, less))

-- the cell of an index, behind the first of the cells
pub at_next : (all more : List (List ℕ)) (cell : List ℕ) (passed index : ℕ) → all ≡ cell ∷ more → passed < index
    → cell_at all (index - passed) ≡ cell_at more (index - (passed + 1))
at_next all more cell passed index is below =
    let one : index - passed ≡ suc (index - (passed + 1)) = omega (arith, below) in rw (is, one) refl

-- what next_cell takes off a line, and what is left
module _ (separator : ℕ) (line cell : List ℕ) (count : ℕ) (count_is : count ≡ cell_length separator false line)
    (cell_is : cell ≡ trimmed (take count line)) where
  pub taken : (rest : List ℕ) → rest ≡ drop (count + 1) line → count < length line → cells separator line ≡ cell ∷ cells separator rest
  taken rest rest_is short = rw (rest_is, cell_is, count_is, add-one) (ap (map trimmed) (parted separator false line (rw count_is at short)))

  pub all_taken : ¬ (count < length line) → cells separator line ≡ cell ∷ []
  all_taken long =
      let most = within separator false line in
      let same : cell_length separator false line ≡ length line = omega (arith, most, rw count_is at long) in
      rw (cell_is, count_is, same, take-length line) (ap (map trimmed) (whole separator false line same))
