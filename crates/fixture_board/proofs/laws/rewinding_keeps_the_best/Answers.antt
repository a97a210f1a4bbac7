use Rattle.fixture_board.proofs.Rewinding.{same_best_rewound}
use Rattle.fixture_board.proofs.laws.rewinding_keeps_the_best.Goals as goal

pub returns : goal.returns
returns c = same_best_rewound
