use Rattle.std.proofs.Common.{◌∙◌}
use Rattle.serde_json.specs.View.{view}
use Rattle.league_hints.specs.Rules.{value_hint}
use Rattle.league_hints.proofs.rules.need_hint.Goals as goal

pub returns : goal.returns
returns c =
    c.value_hint.ensures ∙
    (λ i. value_hint c.args.index c.args.roster.now (view c.args.rule.now) (c.member.ensures i) (c.wanted-wanted.ensures i))
