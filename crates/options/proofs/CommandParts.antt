-- Commands that are made argument by argument.
use Rattle.std.proofs.Common.{◌≡◌, ◌≤◌, ◌++◌, ℕ, List, [], ◌∷◌, drop, length, map, refl, zero, suc, true, arith}
use Rattle.std.specs.Prelude.{fold}
use Rattle.clap.specs.Words.{App, Rule, new_app, with_rule}
use Rattle.options.specs.CommandLine.{CommandForm, app_of_command, rule_of}

-- arguments leave a command plain
rules_plain : (rules : List Rule) (a : App) → (fold with_rule a rules).top.is_plain ≡ a.top.is_plain
rules_plain [] a = refl
rules_plain (r ∷ rs) a = rules_plain rs (with_rule a r)

pub is_plain : (c : CommandForm) → (app_of_command c).top.is_plain ≡ true
is_plain c = rules_plain (c.words ++ map rule_of c.options ++ c.free) (new_app c.name)

-- nothing is left behind the end
pub none_left : {X Y : Type 0} (f : Y → X → Y) (xs : List X) (i : ℕ) (y : Y) → length xs ≤ i → fold f y (drop i xs) ≡ y
none_left f [] zero y past = refl
none_left f [] (suc i) y past = refl
none_left f (x ∷ xs) zero y past = absurd (omega arith)
none_left f (x ∷ xs) (suc i) y past = none_left f xs i y (omega arith)
