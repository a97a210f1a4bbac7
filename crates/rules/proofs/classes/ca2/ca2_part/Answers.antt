use Rattle.std.proofs.Common.{◌≡◌, sym, ◌∙◌, ap}
use Rattle.std.proofs.lemmas.Bool.{eqb-true}
use Rattle.league.specs.declared.rule.RuleBody.TheVariants.{Ca2}
use Rattle.rules.specs.Deviations.{deviation}
use Rattle.rules.proofs.balances.PartTerms.{Ca2-terms}
use Rattle.rules.proofs.classes.ca2.ca2_part.Goals as goal

pub returns-in-Some : goal.returns-in-Some
returns-in-Some c =
    let others = c.games_otherwise-otherwise in
    let all : others.result.teams ≡ c.args.games.now.teams = eqb-true _ _ (sym c.eq.ensures ∙ c.if-eq.true) in
    rw c.in-Some.is at c.requires.known ∙
    ap (λ teams. deviation c.args.schedule.now (Ca2 teams c.args.games.now.side c.args.games.now.opponents c.args.slots c.args.most)) (sym all) ∙
    Ca2-terms c.args.schedule.now c.args.change.now.main c.args.change.now.rounds c.args.change.now.sides c.args.games.now.teams
    c.args.games.now.side c.args.games.now.opponents c.args.slots c.args.most others.result.teams others.ensures.members

pub returns-in_default : goal.returns-in_default
returns-in_default c =
    let others = c.games_otherwise-otherwise in
    rw (others.ensures.side, others.ensures.opponents) at c.ca2.ensures ∙
    Ca2-terms c.args.schedule.now c.args.change.now.main c.args.change.now.rounds c.args.change.now.sides c.args.games.now.teams
    c.args.games.now.side c.args.games.now.opponents c.args.slots c.args.most others.result.teams others.ensures.members
