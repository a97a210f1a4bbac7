use Rattle.std.proofs.Common.{◌-◌, arith}
use Rattle.league.specs.Limits.{max_rounds}
use Rattle.rules.specs.within.Walked.{one_in, number_at}
use Rattle.rules.proofs.counted.RoundNumbers.{sum_by_bits, over_by_bits}
use Rattle.rules.proofs.round_numbers.RoundNumbers.over_64.Goals as goal

pub returns : goal.returns
returns c =
    omega (
      arith,
      c.from.ensures,
      c.len-ones.ensures.value,
      c.len-twos.ensures.value,
      c.len-fours.ensures.value,
      c.len-eights.ensures.value,
      c.len-sixteens.ensures.value,
      c.len-thirty_twos.ensures.value,
      sum_by_bits max_rounds (λ r. number_at c.args.self.now r - 64) (one_in c.intersection.result) (one_in c.intersection-2.result)
          (one_in c.intersection-3.result) (one_in c.intersection-4.result) (one_in c.intersection-5.result)
          (one_in c.intersection-6.result)
          (λ r below. over_by_bits c.args.self.now r _ _ _ _ _ _ (c.intersection.ensures.members r) (c.intersection-2.ensures.members r)
          (c.intersection-3.ensures.members r) (c.intersection-4.ensures.members r) (c.intersection-5.ensures.members r)
          (c.intersection-6.ensures.members r)),
    )
