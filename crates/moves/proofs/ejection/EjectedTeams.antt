-- The ejection chain of the teams that follow a team in a partial exchange of rounds k and l: its opponent in round k,
-- that one's opponent in round l, and so on in turn, until the first team comes back.
use Rattle.std.proofs.Common.{◌≡◌, ◌≢◌, ℕ, ◌<◌, inl, inr, Bool, false, refl, sym, subst}
use Rattle.std.specs.Prelude.{IsTrue}
use Rattle.std.proofs.lemmas.Bool.{cases_eq, false_from_ne_true}
use Rattle.fixtures.specs.Games.{Games, IsDoubleRoundRobin}
use Rattle.fixtures.specs.Closed.{IsLeastClosed, plays_in}
use Rattle.fixtures.proofs.ForCallers.{IsReached, reached_start, reached_step, Meets, meets_swapped, same_opponent}
use Rattle.fixtures.proofs.ForCallers.{plays_in_first, plays_in_second, plays_in_cases}
use Rattle.moves.proofs.ejection.Added.{Adds, Adds-new, Adds-old, Adds-cases, only-new}

-- The set has the ejection chain from the start to `last`, which was entered over round l: the set without `last` is
-- closed under opponents in round k, and the set without the start under those in round l.
pub record IsEjectedTeams (g : Games) (k l start last : ℕ) (set : ℕ → Bool) : Type 0 where
  pub start_in : IsTrue (set start)
  pub last_in : IsTrue (set last)
  pub last_below : last < g.teams
  pub reached : (t : ℕ) → IsTrue (set t) → IsReached (plays_in g k l) start t
  pub in_first : (t u : ℕ) → IsTrue (set t) → t ≢ last → Meets g t u k → IsTrue (set u) × (u ≢ last)
  pub in_second : (t u : ℕ) → IsTrue (set t) → t ≢ start → Meets g t u l → IsTrue (set u) × (u ≢ start)

pub IsEjectedTeams-start : (g : Games) (k l start : ℕ) (none set : ℕ → Bool) → start < g.teams →
    ((t : ℕ) → none t ≡ false) → Adds start none set → IsEjectedTeams g k l start start set
IsEjectedTeams-start g k l start none set below empty adds = record {
  start_in = Adds-new start none set adds;
  last_in = Adds-new start none set adds;
  last_below = below;
  reached = λ t here. subst (IsReached (plays_in g k l) start) (sym (only t here))
      (reached_start (plays_in g k l) start);
  in_first = λ t u here other are. absurd (other (only t here));
  in_second = λ t u here other are. absurd (other (only t here));
}
  where
    only : (t : ℕ) → IsTrue (set t) → t ≡ start
    only = only-new start none set empty adds

-- the ejection chain goes on from its last team over `middle` to `next`
module _ (g : Games) (rr : IsDoubleRoundRobin g) (k l start last middle next : ℕ) (set more : ℕ → Bool)
    (ejected : IsEjectedTeams g k l start last set) (to_middle : Meets g last middle k)
    (to_next : Meets g middle next l) (adds : Adds middle set more) where
  -- the team in the middle is new
  middle_out : IsTrue (set middle) → ⊥
  middle_out here =
      (ejected.in_first middle last here (λ e. to_middle.0.distinct (sym e)) (meets_swapped g last middle k to_middle)).1
      refl

  pub middle-false : set middle ≡ false
  middle-false = false_from_ne_true (set middle) middle_out

  middle_reached : IsReached (plays_in g k l) start middle
  middle_reached =
      reached_step (plays_in g k l) start last middle (ejected.reached last ejected.last_in)
      (plays_in_first g k l last middle to_middle)

  next_reached : IsReached (plays_in g k l) start next
  next_reached =
      reached_step (plays_in g k l) start middle next middle_reached (plays_in_second g k l middle next to_next)

  more_reached : (t : ℕ) → IsTrue (more t) → IsReached (plays_in g k l) start t
  more_reached t here =
      elim (Adds-cases middle set more adds t here) [
        | inl e ↦ subst (IsReached (plays_in g k l) start) (sym e) middle_reached
        | inr old ↦ ejected.reached t old
      ]

  -- with the team in the middle, the set has the opponents in round k of all its teams
  first_closed : (t u : ℕ) → IsTrue (more t) → Meets g t u k → IsTrue (more u)
  first_closed t u here are =
      elim (Adds-cases middle set more adds t here) [
        | inl e ↦
            let is : last ≡ u = same_opponent g rr middle last u k (meets_swapped g last middle k to_middle)
            (subst (λ m. Meets g m u k) e are) in
            subst (λ v. IsTrue (more v)) is (Adds-old middle set more adds last ejected.last_in)
        | inr old ↦ elim (cases_eq t last) [
          | inl e ↦
              let is : middle ≡ u = same_opponent g rr last middle u k to_middle (subst (λ m. Meets g m u k) e are) in
              subst (λ v. IsTrue (more v)) is (Adds-new middle set more adds)
          | inr other ↦ Adds-old middle set more adds u (ejected.in_first t u old other are).0
        ]
      ]

  -- Where the ejection chain comes back to its start, the set is closed.
  pub IsLeastClosed-ejected : next ≡ start → IsLeastClosed (plays_in g k l) start more
  IsLeastClosed-ejected back = record {
    has_start = Adds-old middle set more adds start ejected.start_in;
    closed = λ t u plays here. elim (plays_in_cases g k l t u plays) [
      | inl are ↦ first_closed t u here are
      | inr are ↦ second_closed t u here are
    ];
    reached = more_reached;
  }
    where
      to_start : Meets g middle start l
      to_start = subst (λ t. Meets g middle t l) back to_next

      second_closed : (t u : ℕ) → IsTrue (more t) → Meets g t u l → IsTrue (more u)
      second_closed t u here are =
          elim (Adds-cases middle set more adds t here) [
            | inl e ↦
                let is : start ≡ u = same_opponent g rr middle start u l to_start (subst (λ m. Meets g m u l) e are) in
                subst (λ v. IsTrue (more v)) is (Adds-old middle set more adds start ejected.start_in)
            | inr old ↦ elim (cases_eq t start) [
              | inl e ↦
                  let is : middle ≡ u = same_opponent g rr start middle u l (meets_swapped g middle start l to_start)
                  (subst (λ m. Meets g m u l) e are) in
                  subst (λ v. IsTrue (more v)) is (Adds-new middle set more adds)
              | inr other ↦ Adds-old middle set more adds u (ejected.in_second t u old other are).0
            ]
          ]

  -- Otherwise it is one team longer.
  pub IsEjectedTeams-next : next ≢ start → (most : ℕ → Bool) → Adds next more most → IsEjectedTeams g k l start next most
  IsEjectedTeams-next other most adds_next = record {
    start_in = Adds-old next more most adds_next start (Adds-old middle set more adds start ejected.start_in);
    last_in = Adds-new next more most adds_next;
    last_below = to_next.0.away_in;
    reached = λ t here. elim (Adds-cases next more most adds_next t here) [
      | inl e ↦ subst (IsReached (plays_in g k l) start) (sym e) next_reached
      | inr old ↦ more_reached t old
    ];
    in_first = λ t u here not_next are. elim (Adds-cases next more most adds_next t here) [
      | inl e ↦ absurd (not_next e)
      | inr old ↦
          let inside : IsTrue (more u) = first_closed t u old are in
          (Adds-old next more most adds_next u inside, λ e. next_out (subst (λ v. IsTrue (more v)) e inside))
    ];
    in_second = λ t u here not_start are. elim (Adds-cases next more most adds_next t here) [
      | inl e ↦
          let is : middle ≡ u = same_opponent g rr next middle u l (meets_swapped g middle next l to_next)
          (subst (λ m. Meets g m u l) e are) in
          subst (λ v. IsTrue (most v) × (v ≢ start)) is (kept middle (Adds-new middle set more adds), middle_other)
      | inr old ↦ elim (Adds-cases middle set more adds t old) [
        | inl e ↦
            let is : next ≡ u = same_opponent g rr middle next u l to_next (subst (λ m. Meets g m u l) e are) in
            subst (λ v. IsTrue (most v) × (v ≢ start)) is (Adds-new next more most adds_next, other)
        | inr older ↦
            let inside = ejected.in_second t u older not_start are in
            (kept u (Adds-old middle set more adds u inside.0), inside.1)
      ]
    ];
  }
    where
      kept : (t : ℕ) → IsTrue (more t) → IsTrue (most t)
      kept = Adds-old next more most adds_next

      middle_other : middle ≢ start
      middle_other e = middle_out (subst (λ v. IsTrue (set v)) (sym e) ejected.start_in)

      -- the next team is new too
      next_out : IsTrue (more next) → ⊥
      next_out here =
          elim (Adds-cases middle set more adds next here) [
            | inl e ↦ to_next.0.distinct (sym e)
            | inr old ↦ middle_out (ejected.in_second next middle old other (meets_swapped g middle next l to_next)).0
          ]
