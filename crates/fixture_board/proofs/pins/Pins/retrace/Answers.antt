use Rattle.std.proofs.Common.{◌∙◌, refl}
use Rattle.fixture_board.proofs.Rewinding.{written_after-next}
use Rattle.fixture_board.proofs.pins.Pins.retrace.Goals as goal

pub loop-change-init : goal.loop-change-init
loop-change-init c = record { first = c.begin.new.self; first_is = c.begin.ensures; after = refl }

pub loop-change-preserved : goal.loop-change-preserved
loop-change-preserved c =
    let so_far = c.loop-change.invariant in
    record {
      first = so_far.first;
      first_is = so_far.first_is;
      after = c.make.ensures ∙
          written_after-next so_far.first _ c.args.changes.now c.loop-change.change-index _ c.loop-change-test.true so_far.after;
    }
