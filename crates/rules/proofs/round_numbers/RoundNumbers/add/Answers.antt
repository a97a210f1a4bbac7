use Rattle.rules.proofs.counted.RoundNumbers.{one_added}
use Rattle.rules.proofs.round_numbers.RoundNumbers.add.Goals as goal

pub returns : goal.returns
returns c = λ r.
    one_added c.args.self.now _ c.args.rounds r _ _ _ _ _ _ _ (c.requires r) (c.add_bit-carry.ensures r) (c.add_bit-carry-2.ensures r)
    (c.add_bit-carry-3.ensures r) (c.add_bit-carry-4.ensures r) (c.add_bit-carry-5.ensures r) (c.add_bit-carry-6.ensures r)
    (c.add_bit.ensures r)
