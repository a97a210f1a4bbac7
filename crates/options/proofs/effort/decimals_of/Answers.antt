use Rattle.std.proofs.Common.{◌∙◌, arith, sym}
use Rattle.options.proofs.Decimals.{few_digits}
use Rattle.options.proofs.effort.decimals_of.Goals as goal

pub overflow_mul-result : goal.overflow_mul-result
overflow_mul-result c =
    omega (arith, few_digits c.args.digits.now c.in_ok-value.value (sym c.number.ensures ∙ c.in_ok-value.was) (omega arith))

pub overflow_mul-result-in-2 : goal.overflow_mul-result-in-2
overflow_mul-result-in-2 c =
    omega (arith, few_digits c.args.digits.now c.in_ok-value.value (sym c.number.ensures ∙ c.in_ok-value.was) (omega arith))
