use Rattle.std.proofs.Common.{refl, rules}
use Rattle.shared_board.proofs.Ends.{Asked, answered, seat_after}
use Rattle.shared_board.proofs.shared.Shared.asked.Goals as goal

pub returns : goal.returns
returns g c =
    let turn : Asked c.args.token.now.me c.take.new.token.me c.judge-judged.new.token.me c.conclude.new.token.me c.args.number
    c.args.ask c.judge-judged.result =
    record {
      took = c.take.ensures.took;
      same = c.judge-judged.ensures.same.1;
      judged = c.judge-judged.ensures.judged;
      left = c.conclude.ensures.done;
    } in
    record {
      same = search rules;
      seat = λ held seen accepted seat. seat_after _ _ _ _ _ held seen accepted _ _ _ seat turn refl;
      answered = λ held seen accepted seat. answered _ _ _ _ _ _ held seen accepted _ _ turn seat;
    }
