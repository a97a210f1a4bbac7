use Rattle.std.proofs.Common.{◌*◌, ◌≤◌, slice_index, subst, arith}
use Rattle.sets.specs.Sums.{sum_below}
use Rattle.bounds.proofs.Evaluated.{scaled_bound}
use Rattle.bounds.proofs.evaluation.evaluate.Goals as goal

pub returns : goal.returns
returns c =
    scaled_bound c.args.league.now c.args.traveller.home c.args.sets.now c.args.entries.now c.args.prices.now
    c.shortest_relaxed-least.result c.paid.result c.shortest_relaxed-least.ensures
    (subst (λ n. c.paid.result ≤ sum_below n (λ k. slice_index c.args.prices.now k * slice_index c.args.entries.now k)) c.requires.prices
    c.paid.ensures)
    c.saturating_sub.result
    (omega (arith, c.saturating_sub.ensures, c.saturating_add-all.ensures, c.from.ensures, c.requires.teams))
