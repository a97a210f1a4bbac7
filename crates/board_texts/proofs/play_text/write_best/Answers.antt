use Rattle.std.proofs.Common.{rules}
use Rattle.board_texts.proofs.play_text.write_best.Goals as goal

pub returns : goal.returns
returns g c = search rules
