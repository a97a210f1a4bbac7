use Rattle.byte_streams.proofs.Pieces.{Adds-stops, Adds-then, Adds-writes, Stops-more, Stops-writes}
use Rattle.improvement.specs.Broken.{broken_line, broken_lines, rule_lines}
use Rattle.improvement.specs.declared.broken.Part.TheVariants.{Halves, Repeats}
use Rattle.improvement.proofs.broken.write_lines.Goals as goal

pub returns-in_err-write_line : goal.returns-in_err-write_line
unfolding broken_lines
returns-in_err-write_line g c =
    let l = c.args.league.now in
    let bests = c.args.chains.now.bests.items in
    Stops-writes c.from_residual.ensures.0
    (Stops-more (rule_lines l bests) (Stops-more (broken_line l bests Halves) (Stops-more (broken_line l bests Repeats)
    c.in_err-write_line.ensures.err)))

pub returns-in_err-write_line-2 : goal.returns-in_err-write_line-2
unfolding broken_lines
returns-in_err-write_line-2 g c =
    let l = c.args.league.now in
    let bests = c.args.chains.now.bests.items in
    Stops-writes c.from_residual-in_err-write_line-2.ensures.0
    (Stops-more (rule_lines l bests) (Stops-more (broken_line l bests Halves)
    (Adds-stops c.in_ok-write_line.ensures.ok c.in_err-write_line-2.ensures.err)))

pub returns-in_err-write_line-3 : goal.returns-in_err-write_line-3
unfolding broken_lines
returns-in_err-write_line-3 g c =
    Stops-writes c.from_residual-in_err-write_line-3.ensures.0
    (Stops-more (rule_lines c.args.league.now c.args.chains.now.bests.items)
    (Adds-stops (Adds-then c.in_ok-write_line.ensures.ok c.in_ok-write_line-2.ensures.ok) c.in_err-write_line-3.ensures.err))

pub returns : goal.returns
unfolding broken_lines
returns g c =
    Adds-writes (Adds-then (Adds-then c.in_ok-write_line.ensures.ok c.in_ok-write_line-2.ensures.ok) c.in_ok-write_line-3.ensures.ok)
    c.write_rules.ensures
