use Rattle.std.proofs.Common.{◌≡◌, ◌∙◌, ◌+◌, None, Some, ap, arith, drop, length, length-drop, not, option_and_then, sym, take}
use Rattle.std.specs.List.{position_or_len, slice_split}
use Rattle.std.proofs.lemmas.List.Sums.{prefix_len-le-length}
use Rattle.options.specs.Beginnings.{is_comma, with_item, with_items}
use Rattle.options.proofs.Keeping.{last_item, more_items}
use Rattle.options.proofs.beginning.rounds_of_text.Goals as goal

pub loop-comma-init : goal.loop-comma-init
loop-comma-init c = (
  ap (λ set. with_items set (slice_split is_comma c.args.text.now)) (sym c.empty-rounds.ensures.value),
  c.byte_index-comma.ensures.index,
)

pub returns-in_err-rounds : goal.returns-in_err-rounds
returns-in_err-rounds c =
    let rest = c.loop-comma.rest.now in
    let comma = c.loop-comma.comma in
    let none : with_item c.loop-comma.rounds (take comma rest) ≡ None =
    ap (with_item c.loop-comma.rounds) (sym c.split_at.ensures.front) ∙ sym c.with_item.ensures ∙ c.in_err-rounds.was in
    c.from_residual.ensures ∙ sym (c.loop-comma.invariant.0
    ∙ more_items c.loop-comma.rounds comma rest c.loop-comma.invariant.1 c.loop-comma-test.true
    ∙ ap (option_and_then (λ more. with_items more (slice_split is_comma (drop (comma + 1) rest)))) none)

pub loop-comma-smaller : goal.loop-comma-smaller
loop-comma-smaller c =
    rw c.rest_after-rest.ensures (omega (arith, c.loop-comma-test.true, length-drop (c.loop-comma.comma + 1) c.loop-comma.rest.now))

pub loop-comma-preserved : goal.loop-comma-preserved
loop-comma-preserved c =
    let rest = c.loop-comma.rest.now in
    let comma = c.loop-comma.comma in
    let some : with_item c.loop-comma.rounds (take comma rest) ≡ Some c.in_ok-rounds.rounds =
    ap (with_item c.loop-comma.rounds) (sym c.split_at.ensures.front) ∙ sym c.with_item.ensures ∙ c.in_ok-rounds.was in (
      c.loop-comma.invariant.0
          ∙ more_items c.loop-comma.rounds comma rest c.loop-comma.invariant.1 c.loop-comma-test.true
          ∙ ap (option_and_then (λ more. with_items more (slice_split is_comma (drop (comma + 1) rest)))) some
          ∙ ap (λ items. with_items c.in_ok-rounds.rounds (slice_split is_comma items)) (sym c.rest_after-rest.ensures),
      c.byte_index-comma-in-loop-comma.ensures.index,
    )

pub returns : goal.returns
returns c =
    let rest = c.loop-comma.rest.now in
    let at_end : position_or_len is_comma rest ≡ length rest =
    omega (arith, c.loop-comma.invariant.1, c.loop-comma-test.false, prefix_len-le-length (λ b. not (is_comma b)) rest) in
    c.with_item-2.ensures ∙ sym (c.loop-comma.invariant.0 ∙ last_item c.loop-comma.rounds rest at_end)
