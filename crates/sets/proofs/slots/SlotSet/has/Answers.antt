use Rattle.std.proofs.Common.{◌∙◌, ap}
use Rattle.sets.specs.Sets.{has}
use Rattle.sets.proofs.Halves.{has_in_low_half, has_in_high_half}
use Rattle.sets.proofs.slots.SlotSet.has.Goals as goal

pub returns-then-slot-lt64 : goal.returns-then-slot-lt64
returns-then-slot-lt64 c =
    has_in_low_half c.self.inside.bits c.args.slot c.if-slot-lt64.true ∙ ap (λ set. has set c.args.slot) c.self.view_is

pub returns-else-slot-lt64 : goal.returns-else-slot-lt64
returns-else-slot-lt64 c =
    has_in_high_half c.self.inside.bits c.args.slot c.if-slot-lt64.false ∙ ap (λ set. has set c.args.slot) c.self.view_is
