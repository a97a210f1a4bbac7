use Rattle.std.proofs.Common.{◌≡◌, sym, ◌∙◌, ap}
use Rattle.std.proofs.lemmas.Bool.{eqb-true}
use Rattle.league.specs.declared.rule.RuleBody.TheVariants.{Br1}
use Rattle.rules.specs.Deviations.{deviation}
use Rattle.rules.proofs.balances.PartTerms.{Br1-terms}
use Rattle.rules.proofs.classes.br1.br1_part.Goals as goal

pub returns-in-Some : goal.returns-in-Some
returns-in-Some c =
    let g = c.args.schedule.now in
    let flipped = c.intersection-flipped in
    let all : flipped.result ≡ c.args.teams = eqb-true _ _ (sym c.eq.ensures ∙ c.if-eq.true) in
    rw c.in-Some.is at c.requires.known ∙
    ap (λ teams. deviation g (Br1 teams c.args.side c.args.slots c.args.most)) (sym all) ∙
    Br1-terms g c.args.change.now.main c.args.change.now.rounds c.args.change.now.sides c.args.teams c.args.side c.args.slots c.args.most
    flipped.result flipped.ensures.members

pub returns-in_default : goal.returns-in_default
returns-in_default c =
    let flipped = c.intersection-flipped in
    c.br1.ensures ∙
    Br1-terms c.args.schedule.now c.args.change.now.main c.args.change.now.rounds c.args.change.now.sides c.args.teams c.args.side
    c.args.slots c.args.most flipped.result flipped.ensures.members
