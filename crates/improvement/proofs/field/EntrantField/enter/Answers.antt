use Rattle.std.proofs.Common.{not, arith}
use Rattle.std.proofs.lemmas.List.Sums.{prefix_len-le-length}
use Rattle.improvement.specs.within.Fields.{is_before}
use Rattle.improvement.proofs.field.EntrantField.enter.Goals as goal

pub insert-requires : goal.insert-requires
insert-requires c =
    let entrants = c.args.self.now.entrants in
    omega (arith, c.rank_of-rank.ensures, prefix_len-le-length (λ x. not (is_before c.args.entrant x)) entrants.items, entrants.ok.0)
