use Rattle.std.proofs.Common.{◌≡◌, ◌&&◌, ◌==◌, nat_lt, ◌∙◌, ap, arith}
use Rattle.league.specs.Sets.{has}
use Rattle.rules.specs.within.Walked.{lacks}
use Rattle.rules.proofs.rows.FullWindows.{full_none, full_more}
use Rattle.rules.proofs.windows.full_windows.Goals as goal

pub loop-init : goal.loop-init
loop-init c = full_none _ _

pub loop-preserved : goal.loop-preserved
loop-preserved c =
    full_more _ _ _ _ _ _ _ _ _ _ _ c.loop.invariant c.requires.starts (omega arith) c.requires.season c.intersection.ensures.members
    c.union-nearly.ensures.members c.intersection-full.ensures.members c.before-next.ensures c.intersection-full.ensures.below
    c.intersection.ensures.below
    c.union-nearly.ensures.below

pub returns-clause-full : goal.returns-clause-full
returns-clause-full c = λ s.
    let all : c.loop.counter ≡ c.args.window = omega arith in
    c.loop.invariant.none s ∙ ap (λ k. has c.args.starts s && lacks c.args.set s k == 0) all

pub returns-clause-nearly : goal.returns-clause-nearly
returns-clause-nearly c = λ s.
    let all : c.loop.counter ≡ c.args.window = omega arith in
    c.loop.invariant.one s ∙ ap (λ k. has c.args.starts s && nat_lt (lacks c.args.set s k) 2) all
