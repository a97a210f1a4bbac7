use Rattle.std.proofs.Common.{[], ap, unwrap_or}
use Rattle.text_lines.specs.Input.{league_text, script_lines}
use Rattle.text_lines.proofs.input.split_input.Goals as goal

pub returns-in-Some-clause-league : goal.returns-in-Some-clause-league
unfolding league_text
returns-in-Some-clause-league c = c.split_at_line.ensures.before

pub returns-in-Some-clause-script : goal.returns-in-Some-clause-script
unfolding script_lines
returns-in-Some-clause-script c = ap (λ o. unwrap_or o []) (rw c.in-Some.is at c.split_at_line.ensures.after)

pub returns-in-None-clause-league : goal.returns-in-None-clause-league
unfolding league_text
returns-in-None-clause-league c = c.split_at_line.ensures.before

pub returns-in-None-clause-script : goal.returns-in-None-clause-script
unfolding script_lines
returns-in-None-clause-script c = ap (λ o. unwrap_or o []) (rw c.in-None.is at c.split_at_line.ensures.after)
