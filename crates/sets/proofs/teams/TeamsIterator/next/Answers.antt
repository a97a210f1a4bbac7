use Rattle.std.proofs.Common.{arith, rules}
use Rattle.std.specs.Int.{w64}
use Rattle.sets.specs.Limits.{max_teams}
use Rattle.sets.proofs.Bits.{IsBelow_more}
use Rattle.sets.proofs.LowestBits.{lowest_taken}
use Rattle.sets.proofs.teams.TeamsIterator.next.Goals as goal

pub returns-clause-steps : goal.returns-clause-steps
returns-clause-steps c =
    let fits = IsBelow_more max_teams 64 c.self.inside.left (omega arith) c.self.invariant in
    rw (← c.self.view_is) (lowest_taken w64 c.self.inside.left (omega arith) fits)

pub returns-then-self-eq0 : goal.returns-then-self-eq0
returns-then-self-eq0 c = search rules

pub returns-clause-goes : goal.returns-clause-goes
returns-clause-goes c = search rules
