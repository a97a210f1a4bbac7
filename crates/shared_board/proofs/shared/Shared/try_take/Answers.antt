use Rattle.std.proofs.Common.{rules, ap, ◌∙◌}
use Rattle.shared_board.specs.within.Plays.{Token}
use Rattle.shared_board.proofs.Turns.{take_keeps}
use Rattle.shared_board.proofs.shared.Shared.try_take.Goals as goal

pub compare_exchange-requires : goal.compare_exchange-requires
compare_exchange-requires c =
    let same = c.loop-tried.invariant.1 in (
      search rules,
      search rules,
      take_keeps _ _ _ (ap (λ (m : Token). m.0.live) same ∙ c.requires.idle.0)
          (ap (λ (m : Token). m.0.stage) same ∙ c.requires.idle.1),
    )
