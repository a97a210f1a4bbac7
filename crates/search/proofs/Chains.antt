-- The seats of a run: numbers that rise.
use Rattle.std.proofs.Common.{◌≡◌, ℕ, zero, suc, ◌+◌, ◌<◌, List, [], ◌∷◌, ◌++◌, length, map, get_or, sym, ap, ◌∙◌, subst, arith}
use Rattle.std.proofs.Common.{length-append, append_assoc}
use Rattle.std.specs.List.{All, range_with_len}
use Rattle.std.specs.List.Sorted.{IsStrictlyIncreasing}
use Rattle.std.proofs.Math.Seq.{get_or-append_seam}
use Rattle.std.proofs.lemmas.List.{get_or_append_left, map-append}
use Rattle.std.proofs.lemmas.List.Elements.{All-push, All-same, All-weaker}
use mathlib.Core.Logic.{dite}
use native.Mathlib.Decide.{ℕ_discrete}
use Rattle.shared_board.specs.Seats.{BoardId, SeatValue, IsNew, given_at}
use Rattle.shared_board.specs.Setting.{Setting}
use Rattle.search.specs.declared.runs.threads.WorkerInput.{WorkerInput}
use Rattle.search.specs.within.RunParts.{InputIn, IsFresh, IsWorkerInput, input_number, input_worker}

-- The seats of the inputs are fresh, and their numbers rise up to that of the run's own, which is fresh too. All have one
-- setting
pub record IsChain (table : BoardId) (setting : Setting) (inputs : List WorkerInput) (seat : SeatValue) : Type 0 where
  pub fresh : IsFresh table seat
  pub setting_is : seat.setting ≡ setting
  pub inputs_are : All (IsWorkerInput table) inputs
  pub rising : IsStrictlyIncreasing (map input_number inputs)
  pub below : All (λ n. n < seat.number) (map input_number inputs)
  pub in_setting : All (InputIn setting) inputs

increasing_push : (ns : List ℕ) (n : ℕ) → IsStrictlyIncreasing ns → All (λ m. m < n) ns → IsStrictlyIncreasing (ns ++ n ∷ [])
increasing_push ns n was below k within =
    let long = length-append ns (n ∷ []) in
    let low : k < length ns = omega arith in
    let here = get_or_append_left ns (n ∷ []) 0 k low in
    dite (ℕ_discrete (k + 1) (length ns))
    (λ e.
    let seam = ap (λ (i : ℕ). get_or (ns ++ n ∷ []) i 0) e ∙ get_or-append_seam ns n [] 0 in
    let less = below k 0 low in
    omega (arith, here, seam, less))
    (λ ne.
    let more : k + 1 < length ns = omega arith in
    let next = get_or_append_left ns (n ∷ []) 0 (k + 1) more in
    let less = was k more in
    omega (arith, here, next, less))

below_push : (ns : List ℕ) (n m : ℕ) → All (λ k. k < n) ns → n < m → All (λ k. k < m) (ns ++ n ∷ [])
below_push ns n m was less =
    All-push (λ k. k < m) ns n (All-weaker (λ k. k < n) (λ k. k < m) (λ k h. omega arith) ns was) less

-- a new seat is fresh, where the old one is
fresh_next : (table : BoardId) (a b : SeatValue) → IsFresh table a → IsNew a b → IsFresh table b
fresh_next table a b fresh new = record {
  table_is = ap (λ (s : SeatValue). s.table) new.now ∙ fresh.table_is;
  held = ap (λ (s : SeatValue). s.held) new.now;
  seen = ap (λ (s : SeatValue). s.seen) new.now ∙ fresh.seen;
  given = omega (arith, ap (λ (s : SeatValue). s.given) new.now);
}

-- and the old one stays so
fresh_still : (table : BoardId) (a b : SeatValue) → IsFresh table a → IsNew a b → IsFresh table (given_at a (b.number + 1))
fresh_still table a b fresh new =
    record { table_is = fresh.table_is; held = fresh.held; seen = fresh.seen; given = omega (arith, fresh.given, new.later) }

-- the first of what is left comes to the end of what is done
pub moved_over : {A : Type 0} (done done' left left' all : List A) (x y : A) → done' ≡ done ++ x ∷ [] → left ≡ y ∷ left' → x ≡ y →
    done ++ left ≡ all → done' ++ left' ≡ all
moved_over {A} done done' left left' all x y one_more one_less same is =
    ap (λ (xs : List A). xs ++ left') one_more ∙ append_assoc done (x ∷ []) left' ∙ ap (λ (z : A). done ++ (z ∷ left')) same ∙
    ap (λ (xs : List A). done ++ xs) (sym one_less) ∙ is

counted_last : (first n : ℕ) → range_with_len first (suc n) ≡ range_with_len first n ++ (first + n) ∷ []
counted_last first zero = let same : first ≡ first + zero = omega arith in ap (λ k. k ∷ []) same
counted_last first (suc n) =
    let next : first + 1 + n ≡ first + suc n = omega arith in
    ap (λ l. first ∷ l) (counted_last (first + 1) n ∙ ap (λ k. range_with_len (first + 1) n ++ k ∷ []) next)

-- the workers of the inputs have numbers in a row, from 0, also with one more
pub workers_more : (inputs inputs' : List WorkerInput) (input : WorkerInput) (n m : ℕ) → map input_worker inputs ≡ range_with_len 0 n →
    inputs' ≡ inputs ++ input ∷ [] → input.worker ≡ n → m ≡ n + 1 → map input_worker inputs' ≡ range_with_len 0 m
workers_more inputs inputs' input n m was items number more =
    let here : input.worker ≡ 0 + n = omega (arith, number) in
    let count : suc n ≡ m = omega (arith, more) in
    ap (map input_worker) items ∙ map-append input_worker inputs (input ∷ []) ∙ ap (λ ns. ns ++ input.worker ∷ []) was ∙
    ap (λ k. range_with_len 0 n ++ k ∷ []) here ∙ sym (counted_last 0 n) ∙ ap (range_with_len 0) count

-- one more input gets the seat, and the run the one that was split from it
pub chain_more : (table : BoardId) (setting : Setting) (inputs inputs' : List WorkerInput) (input : WorkerInput) (a b own : SeatValue) →
    IsChain table setting inputs a → IsNew a b → own ≡ b → inputs' ≡ inputs ++ input ∷ [] → input.seat ≡ given_at a (b.number + 1) →
    IsChain table setting inputs' own
chain_more table setting inputs inputs' input a b own was new own_is items given =
    let fresh = was.fresh in
    let later = new.later in
    let rises : a.number < b.number = omega (arith, fresh.given) in
    let numbers : map input_number inputs' ≡ map input_number inputs ++ a.number ∷ [] =
    ap (map input_number) items ∙ map-append input_number inputs (input ∷ []) ∙ ap (λ (s : SeatValue). map input_number inputs ++ s.number ∷ []) given
    in
    let P : SeatValue → Type 0 = λ s. IsChain table setting inputs' s in
    let Rises : List ℕ → Type 0 = λ ns. IsStrictlyIncreasing ns in
    let Below : List ℕ → Type 0 = λ ns. All (λ n. n < b.number) ns in
    let Fresh : SeatValue → Type 0 = λ s. IsFresh table s in
    subst P (sym own_is) (record {
      fresh = fresh_next table a b was.fresh new;
      setting_is = ap (λ (s : SeatValue). s.setting) new.now ∙ was.setting_is;
      inputs_are = All-same (IsWorkerInput table) inputs' (inputs ++ input ∷ []) items
          (All-push (IsWorkerInput table) inputs input was.inputs_are (subst Fresh (sym given) (fresh_still table a b was.fresh new)));
      rising = subst Rises (sym numbers) (increasing_push (map input_number inputs) a.number was.rising was.below);
      below = subst Below (sym numbers) (below_push (map input_number inputs) a.number b.number was.below rises);
      in_setting = All-same (InputIn setting) inputs' (inputs ++ input ∷ []) items
          (All-push (InputIn setting) inputs input was.in_setting (ap (λ (s : SeatValue). s.setting) given ∙ was.setting_is));
    })
