-- What the tables say of walks and tours. Only upper limits are told: a table that is too low makes a lower bound.
use Rattle.std.specs.Prelude.{◌≡◌, ◌≢◌, ◌<◌, ◌≤◌, ◌+◌, ◌*◌, ◌==◌, ℕ, List, slice_index, slice_index_or, if◌then◌else◌}
use Rattle.std.proofs.Common.{lit<, lit≤}
use Rattle.sets.specs.Limits.{max_teams}
use Rattle.bounds.specs.declared.labels.Label.{Label}

-- a team's opponent
pub record IsOpponent (n home j : ℕ) : Type 0 where
  pub team : j < n
  pub away : j ≢ home

-- the least length of a walk that goes on to a team
abbrev pub to_of : Label → ℕ → ℕ
to_of label next = if label.before == next then label.second else label.least

-- the leg from a team to a team
abbrev pub leg_at : List ℕ → ℕ → ℕ → ℕ
leg_at legs from to = slice_index legs (to * max_teams + from)

abbrev pub no_label : Label
no_label = record { least = 0; before = 0; second = 0; ordered = lit≤ tt; before_in = lit< tt }

-- the label of the walks with so many games that end at a team
abbrev pub label_at : List Label → ℕ → ℕ → Label
label_at labels games j = slice_index_or labels (games * max_teams + j) no_label

-- of these the least length of one that goes on to a team
abbrev pub walk_at : List Label → ℕ → ℕ → ℕ → ℕ
walk_at labels games j next = to_of (label_at labels games j) next

-- `walk games j x`: of walks from home with so many games that end at j and don't come from x
pub record AreWalks (n home most : ℕ) (leg : ℕ → ℕ → ℕ) (walk : ℕ → ℕ → ℕ → ℕ) : Type 0 where
  pub first : (j x : ℕ) → IsOpponent n home j → x ≢ home → walk 1 j x ≤ leg home j
  pub next : (games j e x : ℕ) → 1 ≤ games → games < most → IsOpponent n home j → IsOpponent n home e → j ≢ e → x ≢ j →
      walk (games + 1) e x ≤ walk games j e + leg j e

-- `tour games`: of trips with so many games together
pub record AreTours (n home most : ℕ) (leg : ℕ → ℕ → ℕ) (walk : ℕ → ℕ → ℕ → ℕ) (tour : ℕ → ℕ) : Type 0 where
  pub none : tour 0 ≡ 0
  pub trip : (all games j : ℕ) → 1 ≤ games → games ≤ most → all + games < n → IsOpponent n home j →
      tour (all + games) ≤ tour all + (walk games j j + leg j home)
