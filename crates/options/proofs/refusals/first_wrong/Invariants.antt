use Rattle.std.proofs.Common.{◌≡◌, drop, map}
use Rattle.options.specs.within.Refusals.{first_wrong}
use Rattle.options.proofs.refusals.first_wrong.Given as goal

abbrev pub invariant-loop-text : goal.invariant-loop-text
invariant-loop-text l = first_wrong (map (λ text. text.now) l.texts) ≡ first_wrong (drop l.text-index (map (λ text. text.now) l.texts))
