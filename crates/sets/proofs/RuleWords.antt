-- The same at the two words in which the code holds a set of rules: 128 bits each.
use Rattle.std.proofs.Common.{◌≡◌, ℕ, ◌+◌, ◌-◌, ◌*◌, ◌^◌, ◌%◌, ◌<◌, ◌≤◌, ◌&&◌, ◌||◌, bit_and, bit_or, sym, ◌∙◌, ap}
use Rattle.std.proofs.Common.{subst, arith}
use Rattle.std.proofs.lemmas.Nat.{pow-add, pow_below, pow_pos, mod_below, or_block, and_block}
use Rattle.std.specs.Int.Bits.{or_zero_r}
use Rattle.sets.specs.Limits.{max_rules}
use Rattle.sets.specs.Sets.{has, IsBelow, with_number}
use Rattle.sets.proofs.Bits.{with_number_shifted}
use Rattle.sets.proofs.SetBits.{has_union, has_intersection, IsBelow_union, IsBelow_common}

-- a rule of the low half

pub rule_added_low : (high low rule : ℕ) → IsBelow 128 low → rule < 128
    → high * 2 ^ 128 + bit_or low (1 * 2 ^ rule % 2 ^ 128) ≡ with_number (high * 2 ^ 128 + low) rule
unfolding with_number
rule_added_low high low rule below lt =
    let block : bit_or (high * 2 ^ 128 + low) (0 * 2 ^ 128 + 2 ^ rule) ≡ bit_or high 0 * 2 ^ 128 + bit_or low (2 ^ rule) =
    or_block 128 high 0 low (2 ^ rule) below (pow_below rule 128 lt) in
    let alone : 0 * 2 ^ 128 + 2 ^ rule ≡ 2 ^ rule = omega arith in
    ap (λ n. high * 2 ^ 128 + n) (with_number_shifted low rule 128 lt)
    ∙ ap (λ n. n * 2 ^ 128 + bit_or low (2 ^ rule)) (sym (or_zero_r high)) ∙ sym block
    ∙ ap (λ n. bit_or (high * 2 ^ 128 + low) n) alone

-- and of the high one

pub rule_added_high : (high low rule : ℕ) → IsBelow 128 low → 128 ≤ rule → rule < max_rules
    → bit_or high (1 * 2 ^ (rule - 128) % 2 ^ 128) * 2 ^ 128 + low ≡ with_number (high * 2 ^ 128 + low) rule
unfolding with_number
rule_added_high high low rule below from lt =
    let block : bit_or (high * 2 ^ 128 + low) (2 ^ (rule - 128) * 2 ^ 128 + 0) ≡ bit_or high (2 ^ (rule - 128)) * 2 ^ 128 + bit_or low 0 =
    or_block 128 high (2 ^ (rule - 128)) low 0 below (pow_pos 128) in
    let moved : 2 ^ rule ≡ 2 ^ (rule - 128) * 2 ^ 128 = ap (λ n. 2 ^ n) (back rule from) ∙ pow-add 2 (rule - 128) 128 in
    let alone : 2 ^ (rule - 128) * 2 ^ 128 + 0 ≡ 2 ^ rule = omega (arith, moved) in
    ap (λ n. n * 2 ^ 128 + low) (with_number_shifted high (rule - 128) 128 (omega arith))
    ∙ ap (λ n. bit_or high (2 ^ (rule - 128)) * 2 ^ 128 + n) (sym (or_zero_r low)) ∙ sym block
    ∙ ap (λ n. bit_or (high * 2 ^ 128 + low) n) alone
  where
    back : (rule : ℕ) → 128 ≤ rule → rule ≡ rule - 128 + 128
    back rule from = omega arith

-- both halves at once

pub has_rules_union : (high low more_high more_low rule : ℕ) → IsBelow 128 low → IsBelow 128 more_low
    → has (bit_or high more_high * 2 ^ 128 + bit_or low more_low) rule
    ≡ (has (high * 2 ^ 128 + low) rule || has (more_high * 2 ^ 128 + more_low) rule)
has_rules_union high low more_high more_low rule below more_below =
    ap (λ set. has set rule) (sym (or_block 128 high more_high low more_low below more_below))
    ∙ has_union (high * 2 ^ 128 + low) (more_high * 2 ^ 128 + more_low) rule

pub IsBelow_rules_union : (m high low more_high more_low : ℕ) → IsBelow 128 low → IsBelow 128 more_low
    → IsBelow m (high * 2 ^ 128 + low) → IsBelow m (more_high * 2 ^ 128 + more_low)
    → IsBelow m (bit_or high more_high * 2 ^ 128 + bit_or low more_low)
IsBelow_rules_union m high low more_high more_low below more_below set_below more_set_below =
    subst (IsBelow m) (or_block 128 high more_high low more_low below more_below)
    (IsBelow_union m (high * 2 ^ 128 + low) (more_high * 2 ^ 128 + more_low) set_below more_set_below)

pub has_rules_common : (high low more_high more_low rule : ℕ) → IsBelow 128 low → IsBelow 128 more_low
    → has (bit_and high more_high * 2 ^ 128 + bit_and low more_low) rule
    ≡ (has (high * 2 ^ 128 + low) rule && has (more_high * 2 ^ 128 + more_low) rule)
has_rules_common high low more_high more_low rule below more_below =
    ap (λ set. has set rule) (sym (and_block 128 high more_high low more_low below more_below))
    ∙ has_intersection (high * 2 ^ 128 + low) (more_high * 2 ^ 128 + more_low) rule

pub IsBelow_rules_common : (m high low more_high more_low : ℕ) → IsBelow 128 low → IsBelow 128 more_low
    → IsBelow m (high * 2 ^ 128 + low) → IsBelow m (bit_and high more_high * 2 ^ 128 + bit_and low more_low)
IsBelow_rules_common m high low more_high more_low below more_below set_below =
    subst (IsBelow m) (and_block 128 high more_high low more_low below more_below)
    (IsBelow_common m (high * 2 ^ 128 + low) (more_high * 2 ^ 128 + more_low) set_below)

-- a word with one more rule is a word
pub IsBelow_word_added : (word k : ℕ) → IsBelow 128 word → IsBelow 128 (bit_or word (1 * 2 ^ k % 2 ^ 128))
IsBelow_word_added word k below =
    IsBelow_union 128 word (1 * 2 ^ k % 2 ^ 128) below (mod_below (1 * 2 ^ k) (2 ^ 128) (pow_pos 128))
