use Rattle.shared_board.proofs.Betweens.{fixtures}
use Rattle.shared_board.proofs.law.fixtures_while_free.Goals as goal

pub returns : goal.returns
returns c = fixtures c.legal_history_is_sound.ensures c.best_is_least.ensures
