-- Leagues that keep more games.
use Rattle.std.proofs.Common.{◌≡◌, ℕ, ◌<◌, Bool, true, false, ◌&&◌, ◌||◌, ◌==◌, length, arith, refl, sym, ◌∙◌, ap, subst}
use Rattle.std.proofs.Math.Bool.{or-false, or_assoc, or_comm}
use Rattle.std.proofs.lemmas.Bool.Decides.{nat_tests}
use Rattle.sets.specs.Limits.{max_teams}
use Rattle.sets.proofs.ForCallers.{has_with_pair}
use Rattle.fixtures.specs.Games.{IsPair}
use Rattle.league.specs.League.{LeagueData, teams}
use Rattle.league.specs.Starts.{keeps, keeping, KeepsMore}

-- the test of a game of one pair
abbrev pub is_pair : ℕ → ℕ → ℕ → ℕ → Bool
is_pair home away h a = (h == home) && (a == away)

pub keeps_none : (passes : ℕ → ℕ → Bool) (l : LeagueData) → ((h a : ℕ) → passes h a ≡ false) → KeepsMore passes l l
keeps_none passes l none = record {
  same = refl;
  kept = λ h a pair. sym (ap (λ b. keeps l h a || b) (none h a) ∙ or-false (keeps l h a));
}

pub keeps_like : (passes test : ℕ → ℕ → Bool) (l m : LeagueData) → KeepsMore passes l m →
    ((h a : ℕ) → IsPair (teams l) h a → passes h a ≡ test h a) → KeepsMore test l m
keeps_like passes test l m more alike = record {
  same = more.same;
  kept = λ h a pair. more.kept h a pair ∙ ap (λ b. keeps l h a || b) (alike h a pair);
}

pub keeps_then : (passes test : ℕ → ℕ → Bool) (l m k : LeagueData) → KeepsMore passes l m → KeepsMore test m k →
    KeepsMore (λ h a. passes h a || test h a) l k
keeps_then passes test l m k more then = record {
  same = then.same ∙ ap (λ (x : LeagueData). record x { origin = record x.origin { kept = k.origin.kept } }) more.same;
  kept = λ h a pair.
      then.kept h a (subst (λ n. IsPair n h a) (sym (ap teams more.same)) pair)
      ∙ ap (λ b. b || test h a) (more.kept h a pair) ∙ or_assoc (keeps l h a) (passes h a) (test h a);
}

pub keeps_one : (l : LeagueData) (home away : ℕ) → home < max_teams → length l.origin.kept ≡ max_teams →
    KeepsMore (is_pair home away) l (keeping home away l)
keeps_one l home away home_in rows = record {
  same = refl;
  kept = λ h a pair. has_with_pair l.origin.kept home away h a (omega arith) ∙ or_comm (is_pair home away h a) (keeps l h a);
}

-- a test that passes for one pair alone passes where it does for that
pub keeps_of_pair : (test : ℕ → ℕ → Bool) (l m : LeagueData) (home away : ℕ) → KeepsMore (is_pair home away) l m →
    test home away ≡ true → KeepsMore (λ h a. is_pair home away h a && test h a) l m
keeps_of_pair test l m home away more passes =
    keeps_like (is_pair home away) (λ h a. is_pair home away h a && test h a) l m more (λ h a pair. of_pair h a)
  where
    of_pair : (h a : ℕ) → is_pair home away h a ≡ (is_pair home away h a && test h a)
    of_pair h a = grind (arith, nat_tests)
