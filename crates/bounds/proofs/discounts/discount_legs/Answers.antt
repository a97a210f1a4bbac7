use Rattle.std.proofs.Common.{◌≡◌, ◌≢◌, ℕ, if◌then◌else◌, slice_index, ap, arith}
use Rattle.std.proofs.lemmas.List.{get_or_read}
use Rattle.sets.specs.Sets.{has}
use Rattle.bounds.specs.within.Prices.{leads_into}
use Rattle.bounds.proofs.DiscountSums.{discount_none, discount_more, discount_room}
use Rattle.bounds.proofs.discounts.discount_legs.Goals as goal

pub loop-k-init : goal.loop-k-init
loop-k-init c = λ from to from_in to_in. omega (arith, discount_none c.args.sets.now c.args.prices.now from to)

pub shorten-requires-clause-long : goal.shorten-requires-clause-long
shorten-requires-clause-long c = λ from to from_in to_in inside.
    let set : c.index-sets-k.result ≡ slice_index c.args.sets.now c.loop-k.k =
    get_or_read c.args.sets.now _ _ (omega arith) c.index-sets-k.is 0 in
    let not_home : to ≢ c.args.traveller.home = λ home. cc (
      ap (has c.index-sets-k.result) home,
      ap (λ (x : ℕ). has x c.args.traveller.home) set,
      (c.requires.opponents.each c.loop-k.k (omega arith)).away,
    ) in
    omega (
      arith,
      c.loop-k.invariant from to from_in to_in,
      c.requires.long from to from_in to_in not_home,
      discount_room c.args.sets.now c.args.prices.now c.loop-k.k from to (omega arith),
      c.requires.within,
    )

pub loop-k-preserved : goal.loop-k-preserved
loop-k-preserved c = λ from to from_in to_in.
    let set : c.index-sets-k.result ≡ slice_index c.args.sets.now c.loop-k.k =
    get_or_read c.args.sets.now _ _ (omega arith) c.index-sets-k.is 0 in
    omega (
      arith,
      c.shorten.ensures from to from_in to_in,
      ap (λ (x : ℕ). if leads_into x from to then slice_index c.args.prices.now c.loop-k.k else 0) set,
      c.loop-k.invariant from to from_in to_in,
      discount_more c.args.sets.now c.args.prices.now c.loop-k.k from to,
    )
