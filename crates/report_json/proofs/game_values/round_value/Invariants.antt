use Rattle.std.proofs.Common.{◌≡◌}
use Rattle.report_json.specs.Parts.{parts_below}
use Rattle.report_json.specs.within.Parts.{seen}
use Rattle.report_json.specs.Rounds.{game_at}
use Rattle.report_json.proofs.game_values.round_value.Given as goal

abbrev pub invariant-loop-team : goal.invariant-loop-team
invariant-loop-team l = seen l.games.items ≡ parts_below (game_at l.league l.schedule l.round) l.team
