use Rattle.std.proofs.Common.{◌∙◌, sym}
use Rattle.improvement.specs.Chains.{is_of, reached}
use Rattle.improvement.proofs.Bests.{met_better, met_new, met_worse, place_none, place_within}
use Rattle.improvement.proofs.chains.Chains.offer.Goals as goal

pub index-requires : goal.index-requires
index-requires c = place_within (is_of c.args.chain) c.args.self.now.bests _ _ c.place_of-place.ensures c.len.ensures c.if-place-len.false

pub index_mut-requires : goal.index_mut-requires
index_mut-requires c = place_within (is_of c.args.chain) c.args.self.now.bests _ _ c.place_of-place.ensures c.len.ensures c.if-place-len.false

pub returns-in_ok-push : goal.returns-in_ok-push
returns-in_ok-push c =
    let bests = c.args.self.now.bests in
    rw (← c.in_ok-reached.ensures) (c.in_ok-push.ensures.items ∙
    sym (rw c.in_ok-reached.ensures (met_new (reached c.args.chain c.args.board.now.league c.args.board.now.history) bests.items
    (place_none (is_of c.args.chain) bests _ _ c.place_of-place.ensures c.len.ensures c.if-place-len.true))))

pub returns-in_ok-self : goal.returns-in_ok-self
returns-in_ok-self c =
    let bests = c.args.self.now.bests in
    rw c.in_ok-self.ensures (sym (met_better (reached c.args.chain c.args.board.now.league c.args.board.now.history) c.index.result.now bests.items
    c.place_of-place.result c.place_of-place.ensures
    (rw bests.ok.0 at (place_within (is_of c.args.chain) bests _ _ c.place_of-place.ensures c.len.ensures c.if-place-len.false))
    c.index.ensures (rw c.of.ensures at (sym c.improves.ensures ∙ c.if-improves.true))))

pub returns-else-improves : goal.returns-else-improves
returns-else-improves c =
    let bests = c.args.self.now.bests in
    sym (met_worse (reached c.args.chain c.args.board.now.league c.args.board.now.history) c.index.result.now bests.items
    c.place_of-place.result c.place_of-place.ensures
    (rw bests.ok.0 at (place_within (is_of c.args.chain) bests _ _ c.place_of-place.ensures c.len.ensures c.if-place-len.false))
    c.index.ensures (rw c.of.ensures at (sym c.improves.ensures ∙ c.if-improves.false)))
