use Rattle.std.proofs.Common.{not, ◌&&◌, sym, ◌∙◌, ap, ap₂, eqb, ltb, ◌||◌}
use Rattle.league.specs.Sets.{has}
use Rattle.fixtures.specs.Games.{round_of, round_count}
use Rattle.league.proofs.ForCallers.{has_both}
use Rattle.moves.proofs.Sets.{same_set, has-set_where}
use Rattle.moves.proofs.resolving.rounds_apart.Goals as goal

pub returns : goal.returns
returns c = same_set _ _ (λ r.
    c.difference.ensures.members r ∙
    ap₂ (λ x y. x && not y) (c.below.ensures.members r ∙ ap (ltb r) c.rounds.ensures.number)
    (ap (λ set. has set r) c.two-theirs.ensures.value ∙ has_both _ _ r ∙
    ap₂ (λ x y. eqb r x || eqb r y) c.round_of.ensures.value c.round_of-2.ensures.value) ∙
    sym (has-set_where (round_count c.args.schedule.now.teams)
    (λ s. not (eqb s (round_of c.args.schedule.now c.args.i c.args.j) || eqb s (round_of c.args.schedule.now c.args.j c.args.i))) r))
