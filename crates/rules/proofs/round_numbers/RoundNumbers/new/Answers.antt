use Rattle.rules.proofs.counted.RoundNumbers.{number_in_each}
use Rattle.rules.proofs.round_numbers.RoundNumbers.new.Goals as goal

pub returns : goal.returns
returns c = λ r.
    number_in_each _ _ r _ c.requires (c.rounds_with_bit.ensures r) (c.rounds_with_bit-2.ensures r)
    (c.rounds_with_bit-3.ensures r) (c.rounds_with_bit-4.ensures r) (c.rounds_with_bit-5.ensures r)
    (c.rounds_with_bit-6.ensures r) (c.rounds_with_bit-7.ensures r)
