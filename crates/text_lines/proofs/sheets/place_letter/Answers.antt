use Rattle.std.proofs.Common.{rules}
use Rattle.text_lines.proofs.sheets.place_letter.Goals as goal

pub returns-then-home : goal.returns-then-home
returns-then-home c = search rules

pub returns-else-home : goal.returns-else-home
returns-else-home c = search rules
