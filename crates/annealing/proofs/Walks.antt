-- The walk on which a unit is measured.
use Rattle.std.proofs.Common.{◌≡◌, ℕ, ◌+◌, List, [], ◌++◌, ◌∙◌, ap, add-one}
use Rattle.rand_core.specs.Stream.{Stream}
use Rattle.rand_pcg.specs.Lcg.{started, increment_of, Lcg}
use Rattle.rand_pcg.specs.Pcg.{multiplier_64}
use Rattle.league.specs.League.{LeagueData, teams}
use Rattle.moves.specs.declared.moves.Move.{Move}
use Rattle.moves.specs.declared.moves.MoveKind.{MoveKind}
use Rattle.fixture_board.specs.declared.change.Entry.{Entry}
use Rattle.policy.specs.declared.legs.MoveSet.TheVariants.{Loose}
use Rattle.policy.specs.Legs.{kinds_of}
use Rattle.draws.specs.Draws.{drawn_among, each_round, stream_of_generator}
use Rattle.annealing.specs.Walks.{apart, moved_on, next_drawn, total_at, unless_none, walk_after, walk_begun, walk_with, Walk}

abbrev pub walk_at : List Entry → Stream → List ℕ → Walk
walk_at history stream changes = record { history = history; stream = stream; changes = changes }

pub walk_at-none : (league : LeagueData) (h : List Entry) (g : Lcg) (changes : List ℕ) → h ≡ [] → g ≡ started 64 multiplier_64 0 (increment_of 64 0) →
    changes ≡ [] → walk_at h (stream_of_generator g) changes ≡ walk_after league 0
unfolding walk_after walk_begun
walk_at-none league h g changes h_is g_is changes_is =
    ap (λ first. walk_at first (stream_of_generator g) changes) h_is ∙ ap (walk_at [] (stream_of_generator g)) changes_is ∙
    ap (λ generator. walk_at [] (stream_of_generator generator) []) g_is

pub next_drawn-by : (league : LeagueData) (stream : Stream) (n : ℕ) (among : List MoveKind) (rounds : List ℕ) → n ≡ teams league →
    among ≡ kinds_of Loose → rounds ≡ each_round n → drawn_among n among rounds stream ≡ next_drawn league stream
unfolding next_drawn
next_drawn-by league stream n among rounds n_is among_are rounds_are =
    ap (λ kinds. drawn_among n kinds rounds stream) among_are ∙ ap (λ r. drawn_among n (kinds_of Loose) r stream) rounds_are ∙
    ap (λ m. drawn_among m (kinds_of Loose) (each_round m) stream) n_is

-- one move more
pub walk_at-more : (league : LeagueData) (n : ℕ) (h next : List Entry) (stream left : Stream) (mv : Move) (changes : List ℕ) (total after : ℕ) →
    walk_at h stream changes ≡ walk_after league n → (mv, left) ≡ next_drawn league stream → next ≡ moved_on league h mv →
    total ≡ total_at league h → after ≡ total_at league next →
    walk_at next left (changes ++ unless_none (apart total after)) ≡ walk_after league (n + 1)
unfolding walk_after
walk_at-more league n h next stream left mv changes total after walk drawn next_is total_is after_is =
    let with_drawn : walk_with league (walk_at h stream changes) (mv, left) ≡ walk_after league (n + 1) =
    rw add-one (ap (walk_with league (walk_at h stream changes)) drawn ∙ ap (λ (w : Walk). walk_with league w (next_drawn league w.stream)) walk) in
    rw (total_is, after_is, next_is) with_drawn
