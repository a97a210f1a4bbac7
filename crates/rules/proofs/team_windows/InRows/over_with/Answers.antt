use Rattle.std.proofs.Common.{◌∙◌, ap, ◌&&◌, arith}
use Rattle.league.specs.Sets.{has}
use Rattle.rules.proofs.rows.FullWindows.{over_with_full, over_with_both}
use Rattle.rules.proofs.team_windows.InRows.over_with.Goals as goal

pub returns-then-window-most-clause-value : goal.returns-then-window-most-clause-value
returns-then-window-most-clause-value c = λ n teams lacks in_row below is lacking.
    c.into.ensures ∙ c.len.ensures.among n (c.intersection.ensures.below n (is.each_below n below)) ∙
    over_with_full in_row lacks teams c.args.row n c.args.window c.args.most lacking _ (omega (arith, c.if-window-most.true))
    (λ t. c.intersection.ensures.members t ∙ ap (λ b. b && has c.args.row t) (is.each t))

pub returns-else-window-most-clause-value : goal.returns-else-window-most-clause-value
returns-else-window-most-clause-value c = λ n teams lacks in_row below is lacking.
    omega (
      arith,
      c.from.ensures ∙ c.len-else-window-most.ensures.among n (is.each_below n below),
      c.from-else-window-most.ensures ∙
          c.len-else-window-most-2.ensures.among n (c.intersection-else-window-most.ensures.below n (is.but_one_below n below)),
      over_with_both in_row lacks teams c.args.row n c.args.window c.args.most lacking _ _
          (omega (arith, c.if-window-most.false, c.requires.longer, c.requires.told)) is.each
          (λ t. c.intersection-else-window-most.ensures.members t ∙ ap (λ b. b && has c.args.row t) (is.but_one t)),
    )
