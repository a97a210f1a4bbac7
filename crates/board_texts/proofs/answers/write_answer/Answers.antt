use Rattle.std.proofs.Common.{rules}
use Rattle.board_texts.proofs.answers.write_answer.Goals as goal

pub returns-in-Skip : goal.returns-in-Skip
returns-in-Skip g c = search rules

pub returns-in-Slack : goal.returns-in-Slack
returns-in-Slack g c = search rules

pub returns-in-Asks : goal.returns-in-Asks
returns-in-Asks g c = search rules

pub returns-in-Tries : goal.returns-in-Tries
returns-in-Tries g c = search rules

pub returns-in-Bad : goal.returns-in-Bad
returns-in-Bad g c = search rules
