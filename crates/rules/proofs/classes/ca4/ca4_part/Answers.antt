use Rattle.std.proofs.Common.{◌≡◌, ◌∙◌, ap, sym, true, false}
use Rattle.rules.specs.Deviations.{over}
use Rattle.rules.proofs.balances.PartTerms.{one_is_met, Ca4-none, Ca4-all, Ca4-whole, Ca4-each}
use Rattle.rules.proofs.classes.ca4.ca4_part.Goals as goal

pub returns-then-not-intersects : goal.returns-then-not-intersects
returns-then-not-intersects c =
    let none : c.intersects.result ≡ false = cc in
    Ca4-none _ _ _ _ _ _ _ _ _ c.args.capacity.now.each (sym (one_is_met _ _ _ c.teams_otherwise-otherwise.ensures.members) ∙ sym
    c.intersects.ensures ∙
    none)

pub returns-then-capacity : goal.returns-then-capacity
returns-then-capacity c =
    let one : c.intersects.result ≡ true = cc in
    rw c.if-capacity.true
    (c.over_in_slots.ensures ∙
    Ca4-each _ _ _ _ _ _ _ _ _ _ c.intersection-slots.ensures.members (sym (one_is_met _ _ _ c.teams_otherwise-otherwise.ensures.members) ∙
    sym c.intersects.ensures ∙ one))

pub returns-in-Some : goal.returns-in-Some
returns-in-Some c =
    let one : c.intersects.result ≡ true = cc in
    rw c.in-Some.is at c.requires.known ∙
    Ca4-whole _ _ _ _ _ _ _ _ _ c.args.capacity.now.each c.if-capacity.false (sym (one_is_met _ _ _ c.teams_otherwise-otherwise.ensures.members) ∙
    sym c.intersects.ensures ∙ one)

pub returns-in-None : goal.returns-in-None
returns-in-None c =
    let one : c.intersects.result ≡ true = cc in
    rw c.if-capacity.false
    (c.over.ensures.value ∙ ap (λ n. over n c.args.capacity.now.most) c.games_of_all.ensures ∙
    Ca4-all _ _ _ _ _ _ _ _ _ (sym (one_is_met _ _ _ c.teams_otherwise-otherwise.ensures.members) ∙ sym c.intersects.ensures ∙ one))
