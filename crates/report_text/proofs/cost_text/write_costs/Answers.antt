use Rattle.byte_streams.proofs.Pieces.{Adds-stops, Adds-then, Adds-writes, Stops-more, Stops-writes}
use Rattle.byte_streams.specs.Pieces.{pieces_below}
use Rattle.costs.specs.Costs.{cost_of}
use Rattle.report_text.specs.within.CostText.{leaving_text}
use Rattle.report_text.specs.CostText.{total_line}
use Rattle.report_text.specs.within.CostText.{halves_text, parts_text, repeats_text, rule_lines, run_lines, tour_line}
use Rattle.report_text.proofs.cost_text.write_costs.Goals as goal

pub returns-in_err-write_cost : goal.returns-in_err-write_cost
unfolding parts_text
returns-in_err-write_cost g c =
    Stops-writes c.from_residual.ensures.0
    (Stops-more (total_line (cost_of c.args.league.now c.args.schedule.now))
    (Stops-more (leaving_text c.args.league.now c.args.schedule.now)
    (Stops-more (rule_lines c.args.league.now c.args.schedule.now)
    (Stops-more (halves_text c.args.league.now c.args.schedule.now)
    (Stops-more (repeats_text c.args.league.now c.args.schedule.now)
    (Stops-more (pieces_below (run_lines c.args.schedule.now c.args.league.now.at_most) c.args.schedule.now.teams)
    (Stops-more (pieces_below (tour_line c.args.league.now c.args.schedule.now) c.args.schedule.now.teams)
    (rw c.cost_of-cost.ensures.value at c.in_err-write_cost.ensures.err))))))))

pub returns-in_err-write_tours : goal.returns-in_err-write_tours
unfolding parts_text
returns-in_err-write_tours g c =
    Stops-writes c.from_residual-in_err-write_tours.ensures.0
    (Stops-more (total_line (cost_of c.args.league.now c.args.schedule.now))
    (Stops-more (leaving_text c.args.league.now c.args.schedule.now)
    (Stops-more (rule_lines c.args.league.now c.args.schedule.now)
    (Stops-more (halves_text c.args.league.now c.args.schedule.now)
    (Stops-more (repeats_text c.args.league.now c.args.schedule.now)
    (Stops-more (pieces_below (run_lines c.args.schedule.now c.args.league.now.at_most) c.args.schedule.now.teams)
    (Adds-stops (rw c.cost_of-cost.ensures.value at c.in_ok-write_cost.ensures.ok) c.in_err-write_tours.ensures.err)))))))

pub returns-in_err-write_runs : goal.returns-in_err-write_runs
unfolding parts_text
returns-in_err-write_runs g c =
    Stops-writes c.from_residual-in_err-write_runs.ensures.0
    (Stops-more (total_line (cost_of c.args.league.now c.args.schedule.now))
    (Stops-more (leaving_text c.args.league.now c.args.schedule.now)
    (Stops-more (rule_lines c.args.league.now c.args.schedule.now)
    (Stops-more (halves_text c.args.league.now c.args.schedule.now)
    (Stops-more (repeats_text c.args.league.now c.args.schedule.now)
    (Adds-stops (Adds-then (rw c.cost_of-cost.ensures.value at c.in_ok-write_cost.ensures.ok) c.in_ok-write_tours.ensures.ok)
    (rw c.at_most.ensures.value at c.in_err-write_runs.ensures.err)))))))

pub returns-in_err-write_repeats : goal.returns-in_err-write_repeats
unfolding parts_text
returns-in_err-write_repeats g c =
    Stops-writes c.from_residual-in_err-write_repeats.ensures.0
    (Stops-more (total_line (cost_of c.args.league.now c.args.schedule.now))
    (Stops-more (leaving_text c.args.league.now c.args.schedule.now)
    (Stops-more (rule_lines c.args.league.now c.args.schedule.now)
    (Stops-more (halves_text c.args.league.now c.args.schedule.now)
    (Adds-stops (Adds-then (Adds-then (rw c.cost_of-cost.ensures.value at c.in_ok-write_cost.ensures.ok) c.in_ok-write_tours.ensures.ok)
    (rw c.at_most.ensures.value at c.in_ok-write_runs.ensures.ok)) c.in_err-write_repeats.ensures.err)))))

pub returns-in_err-write_halves : goal.returns-in_err-write_halves
unfolding parts_text
returns-in_err-write_halves g c =
    Stops-writes c.from_residual-in_err-write_halves.ensures.0
    (Stops-more (total_line (cost_of c.args.league.now c.args.schedule.now))
    (Stops-more (leaving_text c.args.league.now c.args.schedule.now)
    (Stops-more (rule_lines c.args.league.now c.args.schedule.now)
    (Adds-stops
    (Adds-then (Adds-then (Adds-then (rw c.cost_of-cost.ensures.value at c.in_ok-write_cost.ensures.ok) c.in_ok-write_tours.ensures.ok)
    (rw c.at_most.ensures.value at c.in_ok-write_runs.ensures.ok)) c.in_ok-write_repeats.ensures.ok)
    c.in_err-write_halves.ensures.err))))

pub returns-in_err-write_rules : goal.returns-in_err-write_rules
unfolding parts_text
returns-in_err-write_rules g c =
    Stops-writes c.from_residual-in_err-write_rules.ensures.0
    (Stops-more (total_line (cost_of c.args.league.now c.args.schedule.now))
    (Stops-more (leaving_text c.args.league.now c.args.schedule.now)
    (Adds-stops
    (Adds-then
    (Adds-then (Adds-then (Adds-then (rw c.cost_of-cost.ensures.value at c.in_ok-write_cost.ensures.ok) c.in_ok-write_tours.ensures.ok)
    (rw c.at_most.ensures.value at c.in_ok-write_runs.ensures.ok)) c.in_ok-write_repeats.ensures.ok) c.in_ok-write_halves.ensures.ok)
    c.in_err-write_rules.ensures.err)))

pub returns-in_err-write_leaving : goal.returns-in_err-write_leaving
unfolding parts_text
returns-in_err-write_leaving g c =
    Stops-writes c.from_residual-in_err-write_leaving.ensures.0
    (Stops-more (total_line (cost_of c.args.league.now c.args.schedule.now))
    (Adds-stops
    (Adds-then
    (Adds-then
    (Adds-then (Adds-then (Adds-then (rw c.cost_of-cost.ensures.value at c.in_ok-write_cost.ensures.ok) c.in_ok-write_tours.ensures.ok)
    (rw c.at_most.ensures.value at c.in_ok-write_runs.ensures.ok)) c.in_ok-write_repeats.ensures.ok) c.in_ok-write_halves.ensures.ok)
    c.in_ok-write_rules.ensures.ok)
    c.in_err-write_leaving.ensures.err))

pub returns : goal.returns
unfolding parts_text
returns g c =
    Adds-writes
    (Adds-then
    (Adds-then
    (Adds-then
    (Adds-then (Adds-then (Adds-then (rw c.cost_of-cost.ensures.value at c.in_ok-write_cost.ensures.ok) c.in_ok-write_tours.ensures.ok)
    (rw c.at_most.ensures.value at c.in_ok-write_runs.ensures.ok)) c.in_ok-write_repeats.ensures.ok) c.in_ok-write_halves.ensures.ok)
    c.in_ok-write_rules.ensures.ok)
    c.in_ok-write_leaving.ensures.ok) (rw c.cost_of-cost.ensures.value at c.write_total.ensures)
