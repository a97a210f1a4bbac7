use Rattle.std.proofs.Common.{◌≡◌, ◌+◌, ℕ, ◌||◌, ◌&&◌, ◌==◌, nat_lt, Bool, true, arith}
use Rattle.std.proofs.lemmas.Bool.{lt-ltb}
use Rattle.std.proofs.lemmas.Bool.Decides.{nat_tests}
use Rattle.fixture_board.proofs.BegunTables.{begun_like}
use Rattle.fixture_board.proofs.pins.Pins.pin_kept_of.Goals as goal

-- one away team more
more : (passed : Bool) (home away h a : ℕ) →
    ((passed || (h == home && nat_lt a away)) || (h == home && a == away)) ≡ (passed || (h == home && nat_lt a (away + 1)))
more passed home away h a = grind (arith, nat_tests)

-- all of them
all : (passed : Bool) (home away h a : ℕ) → nat_lt a away ≡ true → (passed || (h == home && nat_lt a away)) ≡ (passed || h == home)
all passed home away h a under = grind (arith, nat_tests)

pub loop-away-preserved : goal.loop-away-preserved
loop-away-preserved c = λ passes begun.
    begun_like c.args.league.now _ _ c.pin_if_kept.new.self
    (c.pin_if_kept.ensures _ (c.loop-away.invariant passes begun))
    (λ h a pair. more (passes h a) c.args.home c.loop-away.away h a)

pub returns : goal.returns
returns c = λ passes begun.
    begun_like c.args.league.now _ _ c.loop-away.self (c.loop-away.invariant passes begun)
    (λ h a pair. all (passes h a) c.args.home c.loop-away.away h a
    (lt-ltb a c.loop-away.away (omega (arith, pair.away_in, c.loop-away-test.false, c.teams-away-end.ensures.value))))
