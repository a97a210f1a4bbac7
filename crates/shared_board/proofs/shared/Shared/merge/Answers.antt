use Rattle.std.proofs.Common.{rules, ap, sym, ◌∙◌, subst}
use Rattle.shared_board.specs.within.Plays.{Token, Agreed}
use Rattle.shared_board.proofs.Seating.{join_keeps, tell_keeps}
use Rattle.shared_board.proofs.Ends.{absorbed, of_both}
use Rattle.shared_board.proofs.shared.Shared.merge.Goals as goal

pub join_seat-requires : goal.join_seat-requires
join_seat-requires c = (
  search rules,
  search rules,
  c.requires.idle.1.no_slot,
  search rules,
  join_keeps _ _ _ _ c.requires.idle.0.live c.requires.idle.0.away_is c.requires.idle.1.live c.requires.idle.1.away_is,
)

pub load-requires : goal.load-requires
load-requires c =
    let one = c.join_seat.ensures.2 in (
      search rules,
      search rules,
      tell_keeps _ _ _ (ap (λ (m : Token). m.0.live) one ∙ c.requires.idle.0.live)
          (ap (λ (m : Token). m.0.stage) one ∙ c.requires.idle.0.away_is),
    )

pub returns-clause-both : goal.returns-clause-both
returns-clause-both c =
    of_both c.args.token.now.me c.args.other.me c.load.new.seat.me c.requires.idle.0 (c.load.ensures.2.0 ∙ c.join_seat.ensures.2)
    (subst Agreed (sym c.load.ensures.2.0) c.load.ensures.2.1)

pub returns-clause-absorbed : goal.returns-clause-absorbed
returns-clause-absorbed c = λ number theirs a o.
    absorbed c.args.token.now.table_id c.args.other.table_id c.load.new.seat.table_id c.args.token.now.me c.args.other.me
    c.load.new.seat.me number theirs a o
    (c.load.ensures.0 ∙ c.join_seat.ensures.0) (c.load.ensures.2.0 ∙ c.join_seat.ensures.2)
    (subst Agreed (sym c.load.ensures.2.0) c.load.ensures.2.1)
