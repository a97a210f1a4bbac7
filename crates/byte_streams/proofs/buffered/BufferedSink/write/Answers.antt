use Rattle.std.proofs.Common.{arith, ◌≡◌, refl, rules}
use Rattle.byte_streams.proofs.Pieces.{Adds-writes, Stops-more, Stops-writes, Writes-passed}
use Rattle.byte_streams.proofs.buffered.BufferedSink.write.Goals as goal

pub returns-in_err-flush-clause-writes : goal.returns-in_err-flush-clause-writes
returns-in_err-flush-clause-writes g c =
    let same : c.try_extend_from_slice.new.self ≡ c.args.self.now.waiting = grind arith in
    Stops-writes c.from_residual.ensures.0 (Stops-more _ (rw same at (c.in_err-flush.ensures).writes.err))

pub returns-clause-writes : goal.returns-clause-writes
returns-clause-writes g c =
    let same : c.try_extend_from_slice.new.self ≡ c.args.self.now.waiting = grind arith in
    let kept : c.try_extend_from_slice-2.new.self ≡ c.flush.new.self.waiting = grind arith in
    let none = (c.in_ok-flush.ensures).waiting in
    let e = c.write_all.ensures in
    rw kept (Adds-writes (rw same at (c.in_ok-flush.ensures).writes.ok)
    (Writes-passed _ _ _ _ refl none none e.ok e.prefix e.cause e.counts))

pub returns-then-is_ok : goal.returns-then-is_ok
returns-then-is_ok g c = search rules

pub returns-in_err-flush-clause-waits : goal.returns-in_err-flush-clause-waits
returns-in_err-flush-clause-waits g c = search rules

pub returns-then-is_ok-2 : goal.returns-then-is_ok-2
returns-then-is_ok-2 g c = search rules

pub returns-clause-waits : goal.returns-clause-waits
returns-clause-waits g c = search rules
