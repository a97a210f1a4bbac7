use Rattle.bounds.proofs.Opponents.{opponent_more}
use Rattle.bounds.proofs.families.single.Goals as goal

pub returns : goal.returns
returns c =
    let n = c.args.traveller.teams in
    let home = c.args.traveller.home in
    opponent_more n home c.empty.result c.args.j c.with.result
    (record { below = c.empty.ensures.below n; away = c.empty.ensures.members home }) c.requires.j c.requires.opponent
    c.with.ensures.members c.with.ensures.below
