-- Values that are added to a list one after another.
use Rattle.std.proofs.Common.{◌≡◌, ℕ, ◌+◌, add-one, List, [], ◌∷◌, ◌++◌, append_assoc}
use Rattle.std.proofs.lemmas.List.{map-append}
use Rattle.serde_json.specs.Data.{Data}
use Rattle.serde_json.specs.View.{view}
use Rattle.serde_json.specs.declared.value.Value.{Value}
use Rattle.report_json.specs.Parts.{parts_below}
use Rattle.report_json.specs.within.Parts.{seen}

pub part_added : (a b c : List Data) (part : ℕ → List Data) (n : ℕ) → b ≡ a ++ parts_below part n → c ≡ b ++ part n →
    c ≡ a ++ parts_below part (n + 1)
part_added a b c part n so_far next = rw (add-one, next, so_far) (append_assoc a (parts_below part n) (part n))

pub value_pushed : (old new : List Value) (value : Value) → new ≡ old ++ value ∷ [] → seen new ≡ seen old ++ view value ∷ []
value_pushed old new value is = rw is (map-append view old (value ∷ []))
