use Rattle.std.proofs.Common.{refl, sym, ◌∙◌, ap}
use Rattle.std.proofs.lemmas.Result.{err_from_is_err_and}
use Rattle.fixture_board.specs.Record.{Book}
use Rattle.improvement.proofs.UnderWay.{league_is, reported_more, room_is, sent_more, stopped_more, told_more}
use Rattle.improvement.proofs.Watched.{has_lines, newest_is}
use Rattle.improvement.proofs.improving.report.Goals as goal

pub returns-in_err-write_leg : goal.returns-in_err-write_leg
returns-in_err-write_leg g c = λ first legs told e.
    let s = c.args.setting in
    let p = err_from_is_err_and c.from_residual.result c.from_residual.ensures.1 in
    rw (p.1, p.2) (stopped_more g.W.Sink.held g.W.Sink.tally s.start.now s.plan legs c.args.reported.now c.args.assignment c.args.annealed.now told e
    c.in_err-write_leg.ensures.writes.err)

pub offer-requires-clause-league : goal.offer-requires-clause-league
offer-requires-clause-league g c =
    let t = c.requires.told in
    league_is c.args.assignment c.args.annealed.now t.2 ∙ sym (ap (λ (b : Book). b.league) t.1.reported_is.lead_is)

pub offer-requires-clause-room : goal.offer-requires-clause-room
offer-requires-clause-room g c =
    let t = c.requires.told in
    room_is c.args.assignment c.args.annealed.now t.2 ∙ sym (ap (λ (b : Book). b.room) t.1.reported_is.lead_is)

pub returns-in_err-improves : goal.returns-in_err-improves
returns-in_err-improves g c = λ first legs told e.
    let s = c.args.setting in
    let p = err_from_is_err_and c.from_residual-in_err-improves.result c.from_residual-in_err-improves.ensures.1 in
    rw (p.1, p.2) (sent_more g.W.Sink.held g.W.Sink.tally s.start.now s.plan legs c.args.reported.now c.args.assignment c.args.annealed.now told e
    c.in_ok-write_leg.ensures.writes.ok c.in_ok-write_leg.ensures.sent)

pub leg_ended-requires : goal.leg_ended-requires
leg_ended-requires g c =
    let s = c.args.setting in
    let t = c.requires.told in
    let known = reported_more s.start.now t.0 c.args.reported.now c.offer.new.self c.args.assignment c.args.annealed.now t.1.reported_is
    c.in_ok-improves.ensures.lead c.in_ok-improves.ensures.least c.in_ok-improves.ensures.legs c.in_ok-improves.ensures.chains in
    has_lines g.W.Sink.held g.W.Sink.tally s.start.now s.plan s.unit c.requires.setting.unit c.requires.setting.room _ _ _ _ _ _ c.offer.new.self
    (told_more g.W.Sink.held g.W.Sink.tally s.start.now s.plan t.0 c.args.reported.now c.offer.new.self c.args.assignment c.args.annealed.now t.1 t.2
    c.in_ok-write_leg.ensures.writes.ok c.in_ok-write_leg.ensures.sent known)
    c.requires.none c.league.ensures refl refl c.of.ensures
    (newest_is s.start.now s.unit t.0 c.args.reported.now c.offer.new.self c.args.assignment c.args.annealed.now _ _ _ t.1.reported_is known
    c.of-2.ensures c.in_ok-improves.ensures.improves c.lead_if.ensures)

pub returns : goal.returns
returns g c = λ first legs told e.
    let s = c.args.setting in
    told_more g.W.Sink.held g.W.Sink.tally s.start.now s.plan legs c.args.reported.now c.offer.new.self c.args.assignment c.args.annealed.now told e
    c.in_ok-write_leg.ensures.writes.ok c.in_ok-write_leg.ensures.sent
    (reported_more s.start.now legs c.args.reported.now c.offer.new.self c.args.assignment c.args.annealed.now told.reported_is
    c.in_ok-improves.ensures.lead c.in_ok-improves.ensures.least c.in_ok-improves.ensures.legs c.in_ok-improves.ensures.chains)
