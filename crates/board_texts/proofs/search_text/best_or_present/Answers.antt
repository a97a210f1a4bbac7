use Rattle.std.proofs.Common.{rules}
use Rattle.board_texts.proofs.search_text.best_or_present.Goals as goal

pub returns-in-Some : goal.returns-in-Some
returns-in-Some c = search rules

pub returns-in-None : goal.returns-in-None
returns-in-None c = search rules
