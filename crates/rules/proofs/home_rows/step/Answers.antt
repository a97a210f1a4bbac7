use Rattle.std.proofs.Common.{refl, arith}
use Rattle.std.proofs.lemmas.List.{get_or-replicate}
use Rattle.rules.proofs.home_rows.step.Goals as goal

pub loop-place-init : goal.loop-place-init
loop-place-init c = record {
  len = refl;
  before = λ k below. get_or-replicate 160 k 0 0 (omega (arith, below));
  written = λ k from below. absurd (omega (arith, from, below));
}
