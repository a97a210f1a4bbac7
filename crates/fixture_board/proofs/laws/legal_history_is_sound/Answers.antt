use Rattle.fixture_board.proofs.Sound.{IsSound-legal}
use Rattle.fixture_board.proofs.laws.legal_history_is_sound.Goals as goal

pub returns : goal.returns
returns c = IsSound-legal
