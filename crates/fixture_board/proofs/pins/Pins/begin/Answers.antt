use Rattle.std.proofs.Common.{◌≡◌, ◌+◌, ℕ, ◌||◌, ◌==◌, nat_lt, false, arith, subst, sym}
use Rattle.std.proofs.lemmas.Bool.{lt-ltb}
use Rattle.std.proofs.lemmas.Bool.Decides.{nat_tests}
use Rattle.fixture_board.specs.within.PinTable.{AreBegun}
use Rattle.fixture_board.proofs.BegunTables.{begun_all, begun_like, begun_none}
use Rattle.fixture_board.proofs.pins.Pins.begin.Goals as goal

-- no team is below the first, and one home team more
none : (h : ℕ) → false ≡ nat_lt h 0
none h = grind (arith, nat_tests)

more : (home h : ℕ) → (nat_lt h home || h == home) ≡ nat_lt h (home + 1)
more home h = grind (arith, nat_tests)

pub loop-home-init : goal.loop-home-init
loop-home-init c =
    begun_like c.args.league.now _ _ c.clear.new.self
    (subst (AreBegun c.args.league.now (λ h a. false)) (sym c.clear.ensures) (begun_none c.args.league.now (omega arith)))
    (λ h a pair. none h)

pub loop-home-preserved : goal.loop-home-preserved
loop-home-preserved c =
    begun_like c.args.league.now _ _ c.pin_kept_of.new.self (c.pin_kept_of.ensures _ c.loop-home.invariant)
    (λ h a pair. more c.loop-home.home h)

pub returns : goal.returns
returns c =
    begun_all c.args.league.now _ c.loop-home.self c.teams-home-end.ensures.limits c.loop-home.invariant
    (λ h a pair. lt-ltb h c.loop-home.home (omega (arith, pair.home_in, c.loop-home-test.false, c.teams-home-end.ensures.value)))
