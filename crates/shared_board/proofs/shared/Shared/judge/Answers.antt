use Rattle.std.proofs.Common.{rules, arith}
use Rattle.std.proofs.lemmas.Grind.{common_steps}
use Rattle.fixture_board.specs.Laws.{least_of}
use Rattle.shared_board.proofs.Ends.{board_out}
use Rattle.shared_board.proofs.shared.Shared.judge.Goals as goal

pub slot_mut-requires : goal.slot_mut-requires
slot_mut-requires c = (search rules, board_out c.args.token.now.me c.requires.board)

pub returns-clause-board : goal.returns-clause-board
returns-clause-board c = search rules

pub returns-clause-judged : goal.returns-clause-judged
unfolding least_of
returns-clause-judged c = grind (arith, common_steps)
