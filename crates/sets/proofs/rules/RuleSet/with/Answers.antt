use Rattle.std.proofs.Common.{◌≡◌, ◌+◌, ◌-◌, ◌*◌, ◌^◌, ◌%◌, bit_or, ◌∙◌, ap, subst, sym}
use Rattle.sets.specs.Sets.{has, IsBelow, with_number}
use Rattle.sets.proofs.Bits.{has_with_number, IsBelow_with_number}
use Rattle.sets.proofs.RuleWords.{rule_added_low, rule_added_high, IsBelow_word_added}
use Rattle.sets.proofs.rules.RuleSet.with.Goals as goal

-- a rule of the low half

added_low : (c : goal.After-struct_known-1)
    → c.self.inside.high * 2 ^ 128 + bit_or c.self.inside.low (1 * 2 ^ c.args.rule % 2 ^ 128) ≡ with_number c.args.self c.args.rule
added_low c =
    rule_added_low c.self.inside.high c.self.inside.low c.args.rule c.self.invariant.0 c.if-rule-lt-HALF.true
    ∙ ap (λ set. with_number set c.args.rule) c.self.view_is

pub invariant_of-result : goal.invariant_of-result
invariant_of-result c = (IsBelow_word_added c.self.inside.low c.args.rule c.self.invariant.0, c.self.invariant.1)

pub returns-then-rule-lt-HALF-clause-value : goal.returns-then-rule-lt-HALF-clause-value
returns-then-rule-lt-HALF-clause-value c = added_low c

pub returns-then-rule-lt-HALF-clause-members : goal.returns-then-rule-lt-HALF-clause-members
returns-then-rule-lt-HALF-clause-members c = λ r. ap (λ set. has set r) (added_low c) ∙ has_with_number c.args.self c.args.rule r

pub returns-then-rule-lt-HALF-clause-below : goal.returns-then-rule-lt-HALF-clause-below
returns-then-rule-lt-HALF-clause-below c = λ m below lt.
    subst (IsBelow m) (sym (added_low c)) (IsBelow_with_number m c.args.self c.args.rule below lt)

-- and of the high one

added_high : (c : goal.After-struct_known-2-1)
    → bit_or c.self.inside.high (1 * 2 ^ (c.args.rule - 128) % 2 ^ 128) * 2 ^ 128 + c.self.inside.low
    ≡ with_number c.args.self c.args.rule
added_high c =
    rule_added_high c.self.inside.high c.self.inside.low c.args.rule c.self.invariant.0 c.if-rule-lt-HALF.false c.requires
    ∙ ap (λ set. with_number set c.args.rule) c.self.view_is

pub invariant_of-result-2 : goal.invariant_of-result-2
invariant_of-result-2 c = (c.self.invariant.0, IsBelow_word_added c.self.inside.high (c.args.rule - 128) c.self.invariant.1)

pub returns-clause-value : goal.returns-clause-value
returns-clause-value c = added_high c

pub returns-clause-members : goal.returns-clause-members
returns-clause-members c = λ r. ap (λ set. has set r) (added_high c) ∙ has_with_number c.args.self c.args.rule r

pub returns-clause-below : goal.returns-clause-below
returns-clause-below c = λ m below lt.
    subst (IsBelow m) (sym (added_high c)) (IsBelow_with_number m c.args.self c.args.rule below lt)
