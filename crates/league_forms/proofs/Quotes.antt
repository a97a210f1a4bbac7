-- The characters of a quote, as a loop fills them, and arrays that are no pairs.
use Rattle.std.proofs.Common.{◌≡◌, ◌≢◌, ℕ, ◌+◌, ◌-◌, ◌<◌, ◌≤◌, List, [], ◌∷◌, ◌++◌, ◌∙◌, length, take, drop, set, replicate, Bool, true, false, None, refl}
use Rattle.std.proofs.Common.{ap, ap₂, sym, arith, append_assoc, append-nil, add-one, nat_lt, lt-ltb, length-append}
use Rattle.std.proofs.Math.Seq.{drop-cons}
use Rattle.std.proofs.lemmas.List.{take_all, take_at, take-append-drop, take_more_set, drop-set-lt, drop-replicate, length-take-le}
use Rattle.serde_json.specs.declared.value.Value.{Value}
use Rattle.serde_json.specs.View.{items_view}
use Rattle.league_forms.specs.declared.form.Quote.{Quote}
use Rattle.league_forms.specs.Forms.{pair_form, quoted}

pub pair_form_none : (items : List Value) → length items ≢ 2 → pair_form (items_view items) ≡ None
pair_form_none [] h = refl
pair_form_none (a ∷ []) h = refl
pair_form_none (a ∷ b ∷ []) h = absurd (h refl)
pair_form_none (a ∷ b ∷ c ∷ items) h = refl

fewer_zeros : (cs : List ℕ) (k : ℕ) → k < length cs → drop k cs ≡ replicate (40 - k) 0 → drop (k + 1) cs ≡ replicate (40 - (k + 1)) 0
fewer_zeros cs k lt zeros =
    let first : drop 1 (drop k cs) ≡ drop (k + 1) cs = rw (add-one, drop-cons cs k 0) refl in
    let count : 40 - k - 1 ≡ 40 - (k + 1) = omega arith in
    sym first ∙ ap (drop 1) zeros ∙ drop-replicate 1 (40 - k) 0 ∙ ap (λ (n : ℕ). replicate n 0) count

-- one more character
pub next_shown : (cs shown rest : List ℕ) (k x : ℕ) → k < length cs → shown ≡ take k cs ++ x ∷ rest →
    shown ≡ take (k + 1) (set cs k x) ++ rest
next_shown cs shown rest k x lt is = rw (take_more_set cs k x lt, append_assoc) is

pub next_zeros : (cs : List ℕ) (k x : ℕ) → k < length cs → drop k cs ≡ replicate (40 - k) 0 →
    drop (k + 1) (set cs k x) ≡ replicate (40 - (k + 1)) 0
next_zeros cs k x lt zeros = let past : k < k + 1 = omega arith in drop-set-lt (k + 1) cs k x past ∙ fewer_zeros cs k lt zeros

abbrev pub quote : List ℕ → Bool → Quote
quote cs is_cut = record { characters = cs; is_cut = is_cut }

-- all characters are there
pub whole_quote : (cs shown : List ℕ) (k : ℕ) → length cs ≡ 40 → k ≤ 40 → shown ≡ take k cs → drop k cs ≡ replicate (40 - k) 0 →
    quoted shown ≡ quote cs false
whole_quote cs shown k size few is zeros =
    let within : k ≤ length cs = omega arith in
    let long : length shown ≡ k = ap length is ∙ length-take-le k cs within in
    let fits : length shown ≤ 40 = omega arith in
    let filled : take 40 shown ++ replicate (40 - length shown) 0 ≡ cs = rw (take_all 40 shown fits, long, is, ← zeros) (take-append-drop k cs) in
    let not_cut : nat_lt 40 (length shown) ≡ false = grind arith in
    ap₂ quote filled not_cut

-- there is one more
pub cut_quote : (cs shown rest : List ℕ) (x : ℕ) → length cs ≡ 40 → shown ≡ take 40 cs ++ x ∷ rest →
    quoted shown ≡ quote cs true
cut_quote cs shown rest x size is =
    let all : take 40 cs ≡ cs = take_all 40 cs (omega arith) in
    let whole : shown ≡ cs ++ x ∷ rest = is ∙ ap (λ (ds : List ℕ). ds ++ x ∷ rest) all in
    let long : length shown ≡ 40 + length (x ∷ rest) = ap length whole ∙ length-append cs (x ∷ rest) ∙ ap (λ (n : ℕ). n + length (x ∷ rest)) size in
    let none : 40 - length shown ≡ 0 = omega arith in
    let filled : take 40 shown ++ replicate (40 - length shown) 0 ≡ cs = rw (none, whole, take_at cs (x ∷ rest) 40 size) (append-nil cs) in
    let more : 40 < length shown = omega arith in
    ap₂ quote filled (lt-ltb 40 (length shown) more)
