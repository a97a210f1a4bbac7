use Rattle.std.proofs.Common.{rules}
use Rattle.moves.proofs.moves.Move.kind.Goals as goal

pub returns-in-PartRounds : goal.returns-in-PartRounds
returns-in-PartRounds c = search rules
