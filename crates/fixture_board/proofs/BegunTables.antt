-- The table of pins of a new board, filled pair by pair.
use Rattle.std.proofs.Common.{◌≡◌, ℕ, ◌≤◌, ◌&&◌, ◌||◌, ◌==◌, Bool, true, false, cond, List, slice_set, replicate}
use Rattle.std.proofs.Common.{arith, refl, sym, ◌∙◌, ap, subst, inl, inr, true≢false}
use Rattle.std.proofs.lemmas.Bool.{cases_Bool, cases_eq, eq-eqb, ne_eqb}
use Rattle.std.proofs.Math.Bool.{and-false, or-false, or-true}
use Rattle.std.proofs.lemmas.List.{get_or-replicate, length-replicate, length-set}
use Rattle.league.specs.League.{LeagueData, teams, IsLeague}
use Rattle.league.specs.Limits.{max_teams}
use Rattle.league.specs.Starts.{start_round, keeps, kept_games}
use Rattle.league.proofs.ForCallers.{round_of_start}
use Rattle.fixtures.specs.Games.{IsPair}
use Rattle.fixture_board.specs.History.{is_pinned}
use Rattle.fixture_board.specs.within.PinTable.{free, pin_at, pin_index, pin_entries, AreBegun, IsFirstTable}
use Rattle.fixture_board.proofs.KeptGames.{pinned_if_kept}
use Rattle.fixture_board.proofs.PinTable.{pin_at-same, pin_at-other}

-- two pairs that aren't the same
apart_pairs : (h home a away : ℕ) → (h ≡ home → a ≡ away → ⊥) → (h == home && a == away) ≡ false
apart_pairs h home a away apart = elim (cases_eq h home) [
  | inl same ↦ ap (λ b. (h == home) && b) (ne_eqb a away (apart same)) ∙ and-false (h == home)
  | inr other ↦ ap (λ b. b && (a == away)) (ne_eqb h home other)
]

abbrev entry : LeagueData → Bool → ℕ → ℕ → ℕ
entry l passes h a = cond (passes && keeps l h a) (start_round l h a) free

pub begun_none : (l : LeagueData) → teams l ≤ max_teams → AreBegun l (λ h a. false) (replicate pin_entries free)
begun_none l most = record {
  size = length-replicate {A = ℕ} pin_entries free;
  entries = λ h a pair. get_or-replicate pin_entries (pin_index h a) free 0 (omega (arith, pair.home_in, pair.away_in));
}

pub begun_like : (l : LeagueData) (passes test : ℕ → ℕ → Bool) (table : List ℕ) → AreBegun l passes table →
    ((h a : ℕ) → IsPair (teams l) h a → passes h a ≡ test h a) → AreBegun l test table
begun_like l passes test table begun same = record {
  size = begun.size;
  entries = λ h a pair. begun.entries h a pair ∙ ap (λ b. entry l b h a) (same h a pair);
}

-- an entry is told by the test only where the game is kept
entry_like : (l : LeagueData) (p q : Bool) (h a : ℕ) → (keeps l h a ≡ true → p ≡ q) → entry l p h a ≡ entry l q h a
entry_like l p q h a same = elim (cases_Bool (keeps l h a)) [
  | inl kept ↦ ap (λ b. entry l b h a) (same kept)
  | inr left ↦
      ap (λ b. cond (p && b) (start_round l h a) free) left ∙ ap (λ b. cond b (start_round l h a) free) (and-false p ∙ sym (and-false q))
      ∙ ap (λ b. cond (q && b) (start_round l h a) free) (sym left)
]

-- a pair that is kept is written, any other left
pub begun_written : (l : LeagueData) (passes : ℕ → ℕ → Bool) (table : List ℕ) (home away round : ℕ) → teams l ≤ max_teams →
    IsPair (teams l) home away → keeps l home away ≡ true → round ≡ start_round l home away → AreBegun l passes table →
    AreBegun l (λ h a. passes h a || (h == home && a == away)) (slice_set table (pin_index home away) round)
begun_written l passes table home away round most pair kept is begun = record {
  size = length-set table (pin_index home away) round ∙ begun.size;
  entries = λ h a other.
      elim (cases_eq h home) [
        | inl same_home ↦ elim (cases_eq a away) [
          | inl same_away ↦
              rw (same_home, same_away)
              (pin_at-same table home away round (omega (arith, pair.home_in)) (omega (arith, pair.away_in)) begun.size
              ∙ is ∙ sym (written_entry))
          | inr apart ↦ elsewhere h a other (λ _ same. apart same)
        ]
        | inr apart ↦ elsewhere h a other (λ same _. apart same)
      ];
}
  where
    written_entry : entry l (passes home away || (home == home && away == away)) home away ≡ start_round l home away
    written_entry =
        ap (λ b. cond (b && keeps l home away) (start_round l home away) free)
        (ap (λ b. passes home away || (b && (away == away))) (eq-eqb home home refl)
        ∙ ap (λ b. passes home away || b) (eq-eqb away away refl) ∙ or-true (passes home away))
        ∙ ap (λ b. cond b (start_round l home away) free) kept

    elsewhere : (h a : ℕ) → IsPair (teams l) h a → (h ≡ home → a ≡ away → ⊥) →
        pin_at (slice_set table (pin_index home away) round) h a ≡ entry l (passes h a || (h == home && a == away)) h a
    elsewhere h a other apart =
        pin_at-other table home away round h a (omega (arith, pair.away_in)) (omega (arith, other.away_in)) apart
        ∙ begun.entries h a other
        ∙ ap (λ b. entry l b h a) (sym (ap (λ b. passes h a || b) (apart_pairs h home a away apart) ∙ or-false (passes h a)))

pub begun_left : (l : LeagueData) (passes : ℕ → ℕ → Bool) (table : List ℕ) (home away : ℕ) →
    (IsPair (teams l) home away → keeps l home away ≡ false) → AreBegun l passes table →
    AreBegun l (λ h a. passes h a || (h == home && a == away)) table
begun_left l passes table home away left begun = record {
  size = begun.size;
  entries = λ h a pair.
      begun.entries h a pair
      ∙ entry_like l (passes h a) (passes h a || (h == home && a == away)) h a
      (λ kept. sym (ap (λ b. passes h a || b) (apart_pairs h home a away (λ same_home same_away.
      true≢false (sym kept ∙ rw (same_home, same_away) (left (subst (λ x. IsPair (teams l) x away) same_home
      (subst (λ x. IsPair (teams l) h x) same_away pair)))))) ∙ or-false (passes h a)));
}

-- a table in which all pairs were looked at is the first
pub begun_all : (l : LeagueData) (passes : ℕ → ℕ → Bool) (table : List ℕ) → IsLeague l → AreBegun l passes table →
    ((h a : ℕ) → IsPair (teams l) h a → passes h a ≡ true) → IsFirstTable l table
begun_all l passes table is begun all = record {
  size = begun.size;
  are = λ h a pair.
      begun.entries h a pair
      ∙ ap (λ b. entry l b h a) (all h a pair)
      ∙ ap (λ b. cond b (start_round l h a) free) (sym (pinned_if_kept l h a pair))
      ∙ ap (λ r. cond (is_pinned (kept_games l) h a) r free) (sym (round_of_start l h a pair));
}
