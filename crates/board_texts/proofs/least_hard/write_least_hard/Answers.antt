use Rattle.std.proofs.Common.{◌+◌, arith, codes}
use Rattle.byte_streams.proofs.Pieces.{Adds-stops, Adds-then, Adds-writes, Stops-more, Stops-writes}
use Rattle.board_texts.specs.LeastHard.{least_hard_line, part_text, rule_parts}
use Rattle.board_texts.proofs.least_hard.write_least_hard.Goals as goal

pub returns-in_err-write_counted : goal.returns-in_err-write_counted
unfolding least_hard_line
returns-in_err-write_counted g c =
    let l = c.args.league.now in
    let s = c.args.schedule.now in
    let runs = c.runs_over-runs.result in
    let repeats = c.counted_repeats-repeats.result in
    let halves = c.halves-halves.result in
    rw (← c.cost_of.ensures.value, ← c.runs_over-runs.ensures.value, ← c.counted_repeats-repeats.ensures.value, ← c.halves-halves.ensures.value)
    (Stops-writes c.from_residual.ensures.0
    (Stops-more (codes "\n")
    (Stops-more (rule_parts l.rules s (runs + repeats + halves))
    (Stops-more (part_text (runs + repeats) (codes "halves ") halves)
    (Stops-more (part_text runs (codes "repeats ") repeats)
    (Stops-more (part_text 0 (codes "runs ") runs)
    c.in_err-write_counted.ensures.err))))))

pub returns-in_err-write_part : goal.returns-in_err-write_part
unfolding least_hard_line
returns-in_err-write_part g c =
    let l = c.args.league.now in
    let s = c.args.schedule.now in
    let runs = c.runs_over-runs.result in
    let repeats = c.counted_repeats-repeats.result in
    let halves = c.halves-halves.result in
    rw (← c.cost_of.ensures.value, ← c.runs_over-runs.ensures.value, ← c.counted_repeats-repeats.ensures.value, ← c.halves-halves.ensures.value)
    (Stops-writes c.from_residual-in_err-write_part.ensures.0
    (Stops-more (codes "\n")
    (Stops-more (rule_parts l.rules s (runs + repeats + halves))
    (Stops-more (part_text (runs + repeats) (codes "halves ") halves)
    (Stops-more (part_text runs (codes "repeats ") repeats)
    (Adds-stops c.in_ok-write_counted.ensures.ok c.in_err-write_part.ensures.err))))))

pub returns-in_err-write_part-2 : goal.returns-in_err-write_part-2
unfolding least_hard_line
returns-in_err-write_part-2 g c =
    let l = c.args.league.now in
    let s = c.args.schedule.now in
    let runs = c.runs_over-runs.result in
    let repeats = c.counted_repeats-repeats.result in
    let halves = c.halves-halves.result in
    rw (← c.cost_of.ensures.value, ← c.runs_over-runs.ensures.value, ← c.counted_repeats-repeats.ensures.value, ← c.halves-halves.ensures.value)
    (Stops-writes c.from_residual-in_err-write_part-2.ensures.0
    (Stops-more (codes "\n")
    (Stops-more (rule_parts l.rules s (runs + repeats + halves))
    (Stops-more (part_text (runs + repeats) (codes "halves ") halves)
    (Adds-stops (Adds-then c.in_ok-write_counted.ensures.ok c.in_ok-write_part.ensures.ok) c.in_err-write_part-2.ensures.err)))))

pub returns-in_err-write_part-3 : goal.returns-in_err-write_part-3
unfolding least_hard_line
returns-in_err-write_part-3 g c =
    let l = c.args.league.now in
    let s = c.args.schedule.now in
    let runs = c.runs_over-runs.result in
    let repeats = c.counted_repeats-repeats.result in
    let halves = c.halves-halves.result in
    rw (← c.cost_of.ensures.value, ← c.runs_over-runs.ensures.value, ← c.counted_repeats-repeats.ensures.value, ← c.halves-halves.ensures.value)
    (Stops-writes c.from_residual-in_err-write_part-3.ensures.0
    (Stops-more (codes "\n")
    (Stops-more (rule_parts l.rules s (runs + repeats + halves))
    (Adds-stops (Adds-then (Adds-then c.in_ok-write_counted.ensures.ok c.in_ok-write_part.ensures.ok) c.in_ok-write_part-2.ensures.ok) c.in_err-write_part-3.ensures.err))))

pub returns-in_err-write_rules : goal.returns-in_err-write_rules
unfolding least_hard_line
returns-in_err-write_rules g c =
    let l = c.args.league.now in
    let s = c.args.schedule.now in
    let runs = c.runs_over-runs.result in
    let repeats = c.counted_repeats-repeats.result in
    let halves = c.halves-halves.result in
    rw (← c.cost_of.ensures.value, ← c.runs_over-runs.ensures.value, ← c.counted_repeats-repeats.ensures.value, ← c.halves-halves.ensures.value)
    (Stops-writes c.from_residual-in_err-write_rules.ensures.0
    (Stops-more (codes "\n")
    (Adds-stops (Adds-then (Adds-then (Adds-then c.in_ok-write_counted.ensures.ok c.in_ok-write_part.ensures.ok) c.in_ok-write_part-2.ensures.ok) c.in_ok-write_part-3.ensures.ok) c.in_err-write_rules.ensures.err)))

pub write_rules-requires-clause-few : goal.write_rules-requires-clause-few
write_rules-requires-clause-few g c =
    omega (arith, c.runs_over-runs.ensures.limit, c.counted_repeats-repeats.ensures.limit, c.halves-halves.ensures.most)

pub returns : goal.returns
unfolding least_hard_line
returns g c =
    rw (← c.cost_of.ensures.value, ← c.runs_over-runs.ensures.value, ← c.counted_repeats-repeats.ensures.value, ← c.halves-halves.ensures.value)
    (Adds-writes (Adds-then (Adds-then (Adds-then (Adds-then c.in_ok-write_counted.ensures.ok c.in_ok-write_part.ensures.ok) c.in_ok-write_part-2.ensures.ok) c.in_ok-write_part-3.ensures.ok) c.in_ok-write_rules.ensures.ok) c.write.ensures.writes)
