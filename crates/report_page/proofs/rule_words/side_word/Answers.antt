use Rattle.std.proofs.Common.{refl}
use Rattle.report_page.proofs.rule_words.side_word.Goals as goal

pub returns-in-Home : goal.returns-in-Home
returns-in-Home c = rw c.in-Home.is refl
