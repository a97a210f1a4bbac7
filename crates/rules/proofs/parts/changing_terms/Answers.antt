use Rattle.std.proofs.Common.{◌≡◌, ℕ, Bool, if◌then◌else◌, IfSome, inl, inr, sym, ◌∙◌, ap, subst}
use Rattle.league.specs.Sets.{has, all_numbers}
use Rattle.league.specs.declared.rule.RuleBody.{RuleBody}
use Rattle.league.specs.declared.rule.RuleBody.TheVariants.{Ca2}
use Rattle.league.proofs.ForCallers.{has_all_numbers}
use Rattle.rules.specs.declared.counted_games.CountedGames.{CountedGames}
use Rattle.rules.specs.Deviations.{deviation}
use Rattle.rules.specs.Parts.{changing_terms}
use Rattle.rules.specs.Touches.{has_touched_team}
use Rattle.rules.specs.within.Walked.{counted_of}
use Rattle.rules.proofs.rows.AllTeams.{Ca2-all}
use Rattle.rules.proofs.balances.PartTerms.{Ca1-otherwise}
use Rattle.rules.proofs.parts.changing_terms.Goals as goal

pub ca2_part-requires-clause-known : goal.ca2_part-requires-clause-known
ca2_part-requires-clause-known c =
    let g = c.args.schedule.now in
    let games = c.of-games-in-Ca1 in
    let as_ca2 : CountedGames → ℕ = (λ (counted : CountedGames).
    deviation g (Ca2 counted.teams counted.side counted.opponents c.in-Ca1.slots c.in-Ca1.max)) in
    let same : deviation g c.args.rule.now.body ≡ as_ca2 games.result = elim c.in-Ca1.is [
      | inl is ↦
          ap (deviation g) is.2 ∙
          sym (Ca2-all g c.requires.round_robin is.1 (all_numbers g.teams) (has_all_numbers g.teams) is.0 c.in-Ca1.slots c.in-Ca1.max) ∙
          sym (ap as_ca2 (games.ensures.value ∙ ap (counted_of g.teams) is.2))
      | inr is ↦ ap (deviation g) is.3 ∙ sym (ap as_ca2 (games.ensures.value ∙ ap (counted_of g.teams) is.3))
    ] in
    subst (λ (n : ℕ). IfSome c.args.known (λ whole. whole ≡ n)) same c.requires.known

pub returns-in-Ca1 : goal.returns-in-Ca1
returns-in-Ca1 c =
    let g = c.args.schedule.now in
    let games = c.of-games-in-Ca1 in
    let terms = changing_terms g c.args.change.now.main c.args.change.now.rounds c.args.change.now.sides in
    let as_ca2 : CountedGames → ℕ = (λ (counted : CountedGames).
    terms (Ca2 counted.teams counted.side counted.opponents c.in-Ca1.slots c.in-Ca1.max)) in
    c.ca2_part.ensures ∙
    elim c.in-Ca1.is [
      | inl is ↦
          ap as_ca2 (games.ensures.value ∙ ap (counted_of g.teams) is.2) ∙
          Ca1-otherwise g c.requires.round_robin c.args.change.now.main c.args.change.now.rounds c.args.change.now.sides is.0 is.1
          c.in-Ca1.slots c.in-Ca1.max ∙
          ap terms (sym is.2)
      | inr is ↦ ap as_ca2 (games.ensures.value ∙ ap (counted_of g.teams) is.3) ∙ ap terms (sym is.3)
    ]

pub returns-in-Br2 : goal.returns-in-Br2
unfolding changing_terms has_touched_team
returns-in-Br2 c =
    let g = c.args.schedule.now in
    c.deviation_if-in-Br2.ensures ∙
    ap (λ (b : Bool). if b then deviation g c.args.rule.now.body else 0) c.intersects.ensures ∙
    ap (λ (body : RuleBody). if has_touched_team c.in-Br2.teams (has c.args.change.now.sides) then deviation g body else 0) c.in-Br2.is ∙
    ap (changing_terms g c.args.change.now.main c.args.change.now.rounds c.args.change.now.sides) (sym c.in-Br2.is)
