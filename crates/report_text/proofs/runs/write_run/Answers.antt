use Rattle.std.proofs.Common.{◌≡◌, ◌-◌, ◌∙◌, ap, eqb, false, arith}
use Rattle.std.proofs.lemmas.Bool.Decides.{nat_tests}
use Rattle.fixtures.specs.declared.game.Cell.{Cell}
use Rattle.fixtures.specs.Games.{is_home}
use Rattle.report_text.specs.CostText.{side_word}
use Rattle.report_text.proofs.runs.write_run.Goals as goal

pub returns : goal.returns
unfolding is_home
returns g c =
    let some : eqb c.args.stretch.windows 0 ≡ false = grind (arith, nat_tests) in
    let side : c.side_word.result.now ≡ side_word (is_home c.args.schedule.now c.args.stretch.team (c.args.stretch.round - 1)) =
    c.side_word.ensures ∙ ap (λ (cell : Cell). side_word cell.home) c.game_at-last.ensures.value in
    rw some (rw side at c.write_pieces.ensures)
