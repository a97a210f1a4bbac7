use Rattle.std.proofs.Common.{rules}
use Rattle.league_json.proofs.forms.number_within.Goals as goal

pub returns : goal.returns
returns c = search rules
