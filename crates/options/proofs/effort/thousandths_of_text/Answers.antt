use Rattle.std.proofs.Common.{◌∙◌, refl}
use Rattle.options.proofs.effort.thousandths_of_text.Goals as goal

pub returns-clause-value : goal.returns-clause-value
returns-clause-value c =
    c.thousandths_of.ensures.value
    ∙ rw (c.number.ensures, c.split_at.ensures.front, c.decimals_at.ensures, c.byte_index-point.ensures.index, c.as_bytes-bytes.ensures.value) refl
