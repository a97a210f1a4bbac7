-- A row of numbers in the code, and in the definitions; a table's rows one after another.
use Rattle.std.proofs.Common.{◌≡◌, ℕ, zero, suc, ◌+◌, ◌*◌, ◌<◌, ◌≤◌, List, [], ◌∷◌, ◌++◌, length, get_or, take}
use Rattle.std.proofs.Common.{drop, Vec, String, string_bytes, Global, refl, sym, ◌∙◌, ap, arith}
use Rattle.std.proofs.lemmas.List.{get_or-map, get_or-take, get_or-drop, length-take, length-drop, length-map}
use Rattle.std.proofs.lemmas.List.{get_or_default, drop_all, append-nil}
use Rattle.std.proofs.lemmas.Nat.{mul-add-lt}
use Rattle.std.proofs.Math.Seq.{take-add}
use Rattle.league.specs.Checks.{distance_of, IsDistanceTable}
use Rattle.league.specs.Rows.{cut, table_of}
use Rattle.league.specs.within.Rows.{joined}
use Rattle.league.specs.Views.{texts}
use Rattle.league.specs.Views.{rows, row_items}
use Rattle.league.proofs.Tables.{HasColumns}

pub get_or-rows : (table : List (Vec ℕ Global)) (a : ℕ) (row : Vec ℕ Global) → a < length table
    → row ≡ get_or table a row → get_or (rows table) a [] ≡ row.items
get_or-rows table a row lt is = get_or-map row_items table a row [] lt ∙ sym (ap row_items is)

take_row : (row rest : List ℕ) → take (length row) (row ++ rest) ≡ row
take_row [] rest = refl
take_row (x ∷ row) rest = ap (λ xs. x ∷ xs) (take_row row rest)

drop_row : (row rest : List ℕ) → drop (length row) (row ++ rest) ≡ rest
drop_row [] rest = refl
drop_row (x ∷ row) rest = drop_row row rest

-- cutting undoes joining
cut-joined : (n : ℕ) (table : List (List ℕ)) → HasColumns n table → cut n (length table) (joined table) ≡ table
unfolding cut
cut-joined n [] fit = refl
cut-joined n (row ∷ table) fit =
    let first : take n (row ++ joined table) ≡ row =
    ap (λ m. take m (row ++ joined table)) (sym fit.0) ∙ take_row row (joined table) in
    let others : drop n (row ++ joined table) ≡ joined table =
    ap (λ m. drop m (row ++ joined table)) (sym fit.0) ∙ drop_row row (joined table) in
    rw (first, others) (ap (λ t. row ∷ t) (cut-joined n table fit.1))

pub table_of-joined : (n : ℕ) (table : List (List ℕ)) → length table ≡ n → HasColumns n table
    → table_of n (joined table) ≡ table
table_of-joined n table size fit = ap (λ m. cut n m (joined table)) (sym size) ∙ cut-joined n table fit

-- there are as many numbers as the rows have
length-cut : (n count : ℕ) (numbers : List ℕ) → HasColumns n (cut n count numbers) → count * n ≤ length numbers
unfolding cut
length-cut n zero numbers fit = omega arith
length-cut n (suc count) numbers fit =
    omega (arith, length-cut n count (drop n numbers) fit.1, length-drop n numbers, length-take n numbers, fit.0)

get_or-cut : (n count : ℕ) (numbers : List ℕ) (a b : ℕ) → a < count → b < n
    → get_or (get_or (cut n count numbers) a []) b 0 ≡ get_or numbers (a * n + b) 0
unfolding cut
get_or-cut n zero numbers a b a_below b_below = absurd (omega arith)
get_or-cut n (suc count) numbers zero b a_below b_below =
    get_or-take n numbers b 0 b_below ∙ ap (λ i. get_or numbers i 0) (omega arith)
get_or-cut n (suc count) numbers (suc a) b a_below b_below =
    get_or-cut n count (drop n numbers) a b (omega arith) b_below ∙ get_or-drop n numbers (a * n + b) 0
    ∙ ap (λ i. get_or numbers i 0) (omega arith)

-- the numbers that were cut
joined-cut : (n count : ℕ) (numbers : List ℕ) → count * n ≤ length numbers → joined (cut n count numbers) ≡ take (count * n) numbers
unfolding cut
joined-cut n zero numbers room = let none : 0 ≡ 0 * n = omega arith in ap (λ m. take m numbers) none
joined-cut n (suc count) numbers room =
    let more : n + count * n ≡ suc count * n = omega arith in
    ap (λ rest. take n numbers ++ rest) (joined-cut n count (drop n numbers) (omega (arith, room, length-drop n numbers)))
    ∙ sym (take-add n (count * n) numbers) ∙ ap (λ m. take m numbers) more

pub joined-table_of : (n : ℕ) (numbers : List ℕ) → HasColumns n (table_of n numbers)
    → joined (table_of n numbers) ≡ take (n * n) numbers
joined-table_of n numbers fit = joined-cut n n numbers (length-cut n n numbers fit)

pub numbers_within : (n : ℕ) (numbers : List ℕ) → HasColumns n (table_of n numbers) → n * n ≤ length numbers
numbers_within n numbers fit = length-cut n n numbers fit

-- where a number of the table lies
pub index_in_table : (n : ℕ) (numbers : List ℕ) (a b : ℕ) → HasColumns n (table_of n numbers) → a < n → b < n
    → a * n + b < length numbers
index_in_table n numbers a b fit a_below b_below =
    omega (arith, length-cut n n numbers fit, mul-add-lt a n b n a_below b_below)

distance_of-table_of : (n : ℕ) (numbers : List ℕ) (a b : ℕ) → a < n → b < n
    → distance_of (table_of n numbers) a b ≡ get_or numbers (a * n + b) 0
distance_of-table_of n numbers a b a_below b_below = get_or-cut n n numbers a b a_below b_below

-- the numbers of all rows, where none is left
pub table_of-all : (n : ℕ) (numbers : List ℕ) (table : List (Vec ℕ Global)) (i : ℕ) → length table ≤ i
    → IsDistanceTable n (rows table)
    → numbers ++ joined (rows (drop i table)) ≡ joined (rows table) → table_of n numbers ≡ rows table
table_of-all n numbers table i past is_table so_far =
    let none_left : numbers ++ joined (rows (drop i table)) ≡ numbers =
    ap (λ rest. numbers ++ joined (rows rest)) (drop_all i table past) ∙ append-nil numbers in
    ap (λ xs. table_of n xs) (sym none_left ∙ so_far) ∙ table_of-joined n (rows table) is_table.rows is_table.columns

-- a number read where it lies is the distance
pub read_in_table : (n : ℕ) (numbers : List ℕ) (a b i x : ℕ) → HasColumns n (table_of n numbers) → a < n → b < n
    → i ≡ a * n + b → x ≡ get_or numbers i x
    → x ≡ distance_of (table_of n numbers) a b
read_in_table n numbers a b i x fit a_below b_below index_is is =
    let inside : i < length numbers = omega (arith, index_is, index_in_table n numbers a b fit a_below b_below) in
    is ∙ get_or_default numbers i x 0 inside ∙ ap (λ k. get_or numbers k 0) index_is
    ∙ sym (distance_of-table_of n numbers a b a_below b_below)

pub length-texts : (names : List (String Global)) → length (texts names) ≡ length names
length-texts names = length-map names string_bytes
