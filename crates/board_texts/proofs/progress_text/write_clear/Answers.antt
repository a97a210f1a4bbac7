use Rattle.std.proofs.Common.{rules}
use Rattle.board_texts.proofs.progress_text.write_clear.Goals as goal

pub returns : goal.returns
returns g c = search rules
