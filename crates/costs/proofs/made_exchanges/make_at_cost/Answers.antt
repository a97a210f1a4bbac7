use Rattle.std.proofs.Common.{sym, ◌∙◌, ap, arith}
use Rattle.costs.specs.Costs.{cost_of}
use Rattle.costs.proofs.Parts.{score_fits_after, within_greatest}
use Rattle.costs.proofs.made_exchanges.make_at_cost.Goals as goal

pub unwrap-requires : goal.unwrap-requires
unwrap-requires c =
    within_greatest c.args.league.now _ _ c.make_within.result c.make_within.ensures.value
    (score_fits_after c.args.league.now c.args.schedule.now c.args.exchange.now _ c.teams.ensures.limits c.requires.same_size
    (c.alike.ensures.are (omega arith)))

pub returns : goal.returns
returns c = record {
  made = rw c.unwrap.ensures at c.make_within.ensures.schedule;
  again = c.make_within.ensures.again;
  back = rw c.unwrap.ensures at c.make_within.ensures.back;
  value =
      (rw c.unwrap.ensures at c.make_within.ensures.value).0 ∙
      ap (cost_of c.args.league.now) (sym (rw c.unwrap.ensures at c.make_within.ensures.schedule));
  small = rw c.unwrap.ensures at c.make_within.ensures.small;
  evaluator = c.make_within.ensures.evaluator;
}
