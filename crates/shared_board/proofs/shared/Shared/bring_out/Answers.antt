use Rattle.std.proofs.Common.{rules, ap, sym, ◌∙◌, ◌∷◌, Some}
use Rattle.atomic_table.specs.Table.{rest}
use Rattle.shared_board.specs.Setting.{board_at}
use Rattle.shared_board.proofs.Ends.{has_board, brought_out}
use Rattle.shared_board.proofs.shared.Shared.bring_out.Goals as goal

pub exchange-requires : goal.exchange-requires
exchange-requires g c =
    let b = Some (board_at c.args.token.now.me.0.setting c.take.ensures.took.0) in
    let has = has_board _ _ _ _ c.take.ensures.took c.count-numbers.ensures.counted c.requires.idle.no_slot in
    (search rules, (b, has ∙ ap (λ l. (0, b) ∷ rest l) (sym has)))

pub returns : goal.returns
returns g c = brought_out _ _ _ _ _ c.requires.idle.no_slot c.requires.below.0 c.requires.below.1 c.take.ensures.took
    c.count-numbers.ensures.counted c.in-Some.ensures.2
