use Rattle.std.proofs.Common.{rules}
use Rattle.shared_board.proofs.Ends.{board_out}
use Rattle.shared_board.proofs.shared.Shared.read.Goals as goal

pub slot_mut-requires : goal.slot_mut-requires
slot_mut-requires c = (search rules, board_out c.args.token.now.me c.requires.board)

pub returns-clause-version : goal.returns-clause-version
returns-clause-version c = search rules

pub returns-clause-cost : goal.returns-clause-cost
returns-clause-cost c = search rules

pub returns-clause-copy : goal.returns-clause-copy
returns-clause-copy c = search rules
