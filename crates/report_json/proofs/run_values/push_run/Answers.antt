use Rattle.std.proofs.Common.{◌≡◌, ◌-◌, ap, eqb, false, arith}
use Rattle.std.proofs.lemmas.Bool.Decides.{nat_tests}
use Rattle.fixtures.specs.declared.game.Cell.{Cell}
use Rattle.fixtures.specs.Games.{is_home}
use Rattle.report_json.proofs.run_values.push_run.Goals as goal

pub returns : goal.returns
unfolding is_home
returns c =
    let some : eqb c.args.stretch.windows 0 ≡ false = grind (arith, nat_tests) in
    let side : c.game_at-last.result.home ≡ is_home c.args.schedule.now c.args.stretch.team (c.args.stretch.round - 1) =
    ap (λ (cell : Cell). cell.home) c.game_at-last.ensures.value in
    rw some (rw (c.in_ok-run_value.ensures, side) at c.in_ok-push_value.ensures)
