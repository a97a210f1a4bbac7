-- The ejection chain of the rounds that follow a round in a partial exchange of teams i and j: the round in which j has
-- the cell that i has in the round before, until the first round comes back.
use Rattle.std.proofs.Common.{◌≡◌, ◌≢◌, ℕ, ◌<◌, inl, inr, Bool, false, refl, sym, subst}
use Rattle.std.specs.Prelude.{IsTrue}
use Rattle.std.proofs.lemmas.Bool.{cases_eq, false_from_ne_true}
use Rattle.fixtures.specs.Games.{Games, IsCell, IsDoubleRoundRobin, round_count, cell, cell_round, round_of}
use Rattle.fixtures.specs.Closed.{IsLeastClosed, shares_opponent}
use Rattle.fixtures.proofs.ForCallers.{is_cell, IsReached, reached_start, reached_step, Meets, meets_swapped}
use Rattle.fixtures.proofs.ForCallers.{meets_in_range, same_opponent, meets_cell, Follows, follows_once, follows_back}
use Rattle.fixtures.proofs.ForCallers.{shares_opponent_forward, shares_opponent_cases}
use Rattle.moves.proofs.ejection.Added.{Adds, Adds-new, Adds-old, Adds-cases, only-new}

-- i has a cell in the first round, and j the same in the second
pub Follows-cell : (g : Games) → IsDoubleRoundRobin g → (i j first second : ℕ) → i < g.teams → j < g.teams →
    first < round_count g.teams → ¬ Meets g i j first → second ≡ cell_round (round_of g) j (cell g i first) →
    Follows g i j first second
Follows-cell g rr i j first second in_i in_j in_range apart is =
    let of_i : IsCell g i first (cell g i first) = is_cell g rr i first in_i in_range in (
      cell g i first,
      of_i,
      record {
        pair = record {
          home_in = in_j;
          away_in = of_i.pair.away_in;
          distinct = λ e. apart (subst (λ t. Meets g i t first) (sym e) (meets_cell g i first _ of_i));
        };
        in_round = sym is;
      },
    )

-- The set has the ejection chain from the start to `last`: each of its rounds but the last is followed within it, and
-- each but the start follows one of it.
pub record IsEjectedRounds (g : Games) (i j start last : ℕ) (set : ℕ → Bool) : Type 0 where
  pub start_in : IsTrue (set start)
  pub last_in : IsTrue (set last)
  pub last_below : last < round_count g.teams
  pub last_apart : ¬ Meets g i j last
  pub reached : (r : ℕ) → IsTrue (set r) → IsReached (shares_opponent g i j) start r
  pub followed : (r s : ℕ) → IsTrue (set r) → r ≢ last → Follows g i j r s → IsTrue (set s)
  pub following : (r s : ℕ) → IsTrue (set s) → s ≢ start → Follows g i j r s → IsTrue (set r) × (r ≢ last)

pub IsEjectedRounds-start : (g : Games) (i j start : ℕ) (none set : ℕ → Bool) → start < round_count g.teams →
    ¬ Meets g i j start → ((r : ℕ) → none r ≡ false) → Adds start none set → IsEjectedRounds g i j start start set
IsEjectedRounds-start g i j start none set below apart empty adds = record {
  start_in = Adds-new start none set adds;
  last_in = Adds-new start none set adds;
  last_below = below;
  last_apart = apart;
  reached = λ r here. subst (IsReached (shares_opponent g i j) start) (sym (only r here))
      (reached_start (shares_opponent g i j) start);
  followed = λ r s here other follows. absurd (other (only r here));
  following = λ r s here other follows. absurd (other (only s here));
}
  where
    only : (r : ℕ) → IsTrue (set r) → r ≡ start
    only = only-new start none set empty adds

-- the ejection chain goes on from its last round to `next`
module _ (g : Games) (rr : IsDoubleRoundRobin g) (i j start last next : ℕ) (set : ℕ → Bool) (in_i : i < g.teams)
    (in_j : j < g.teams) (ejected : IsEjectedRounds g i j start last set) (to_next : Follows g i j last next) where
  -- Where the ejection chain comes back to its start, the set is closed.
  pub IsLeastClosed-ejected : next ≡ start → IsLeastClosed (shares_opponent g i j) start set
  IsLeastClosed-ejected back = record {
    has_start = ejected.start_in;
    closed = λ r s shares here. elim (shares_opponent_cases g i j r s in_i in_j shares) [
      | inl forward ↦ elim (cases_eq r last) [
        | inl e ↦
            let is : start ≡ s = follows_once g rr i j last start s to_start
            (subst (λ q. Follows g i j q s) e forward) in
            subst (λ q. IsTrue (set q)) is ejected.start_in
        | inr other ↦ ejected.followed r s here other forward
      ]
      | inr backward ↦ elim (cases_eq r start) [
        | inl e ↦
            let is : last ≡ s = follows_back g rr i j last s start to_start
            (subst (λ q. Follows g i j s q) e backward) in
            subst (λ q. IsTrue (set q)) is ejected.last_in
        | inr other ↦ (ejected.following s r here other backward).0
      ]
    ];
    reached = ejected.reached;
  }
    where
      to_start : Follows g i j last start
      to_start = subst (Follows g i j last) back to_next

  -- Otherwise the next round is new,
  next_out : next ≢ start → IsTrue (set next) → ⊥
  next_out other here = (ejected.following last next here other to_next).1 refl

  pub next-false : next ≢ start → set next ≡ false
  next-false other = false_from_ne_true (set next) (next_out other)

  -- and the ejection chain is one round longer.
  pub IsEjectedRounds-next : next ≢ start → (more : ℕ → Bool) → Adds next set more → IsEjectedRounds g i j start next more
  IsEjectedRounds-next other more adds = record {
    start_in = kept start ejected.start_in;
    last_in = Adds-new next set more adds;
    last_below = meets_in_range g rr j to_next.0.opponent next (meets_cell g j next to_next.0 to_next.2);
    last_apart = λ meet. to_next.1.pair.distinct
        (same_opponent g rr j i to_next.0.opponent next (meets_swapped g i j next meet)
        (meets_cell g j next to_next.0 to_next.2));
    reached = λ r here. elim (Adds-cases next set more adds r here) [
      | inl e ↦ subst (IsReached (shares_opponent g i j) start) (sym e)
          (reached_step (shares_opponent g i j) start last next (ejected.reached last ejected.last_in)
          (shares_opponent_forward g i j last next to_next))
      | inr old ↦ ejected.reached r old
    ];
    followed = λ r s here not_next follows. elim (Adds-cases next set more adds r here) [
      | inl e ↦ absurd (not_next e)
      | inr old ↦ elim (cases_eq r last) [
        | inl e ↦
            let is : next ≡ s = follows_once g rr i j last next s to_next (subst (λ q. Follows g i j q s) e follows) in
            subst (λ q. IsTrue (more q)) is (Adds-new next set more adds)
        | inr not_last ↦ kept s (ejected.followed r s old not_last follows)
      ]
    ];
    following = λ r s here not_start follows. elim (Adds-cases next set more adds s here) [
      | inl e ↦
          let is : last ≡ r = follows_back g rr i j last r next to_next (subst (Follows g i j r) e follows) in
          subst (λ q. IsTrue (more q) × (q ≢ next)) is (kept last ejected.last_in, λ e. absurd (out last ejected.last_in e))
      | inr old ↦
          let inside = (ejected.following r s old not_start follows).0 in
          (kept r inside, out r inside)
    ];
  }
    where
      kept : (r : ℕ) → IsTrue (set r) → IsTrue (more r)
      kept = Adds-old next set more adds

      out : (r : ℕ) → IsTrue (set r) → r ≢ next
      out r here e = next_out other (subst (λ q. IsTrue (set q)) e here)
