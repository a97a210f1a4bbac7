-- A script that is answered line by line.
use Rattle.std.proofs.Common.{◌≡◌, ℕ, ◌+◌, ◌≤◌, List, [], ◌∷◌, ◌++◌, length, Option, Result, Ok, Err, OnErr, refl, sym, ap, ◌∙◌, arith}
use Rattle.std.proofs.Common.{append_assoc, append-nil}
use Rattle.std.specs.Str.Lines.{lines}
use Rattle.byte_streams.specs.declared.tally.Tally.{Tally}
use Rattle.byte_streams.specs.declared.buffered.BufferedSink.{BufferedSink}
use Rattle.byte_streams.specs.Writing.{Adds, Stops}
use Rattle.league.specs.League.{LeagueData}
use Rattle.fixture_board.specs.declared.change.Entry.{Entry}
use Rattle.board_texts.specs.Command.{line_of}
use Rattle.text_lines.specs.Input.{TakesLine}
use Rattle.fixture_board.specs.Record.{book}
use Rattle.fixture_board.specs.Replies.{greatest}
use Rattle.board_texts.specs.PlayText.{IsPlayedInPart, answer_to, answers, answers_from, history_after, slack_after, played, played_from}
use Rattle.text_lines.proofs.ForCallers.{AddsAllBut, none_added, one_added, one_stopped}

-- the answers to all lines but those of `rest` were added, and led to this history and slack
pub record IsAnsweredTo {S : Type 0} (held : S → Option (List ℕ)) (tally : S → Tally) (old new : BufferedSink S)
    (league : LeagueData) (room : ℕ) (script rest : List ℕ) (h : List Entry) (slack number : ℕ) : Type 0 where
  pub written : AddsAllBut held tally old new (answers league room (lines script)) (answers_from league room h slack number (lines rest))
  pub history_is : played league room (lines script) ≡ played_from league room h slack (lines rest)
  pub few : number + length rest ≤ 1 + length script

module _ (league : LeagueData) (room : ℕ) (script : List ℕ) where
  -- the lines before `rest` lead to this history and slack
  pub record IsLedTo (rest : List ℕ) (h : List Entry) (slack : ℕ) : Type 0 where
    pub done : List (List ℕ)
    pub parts : lines script ≡ done ++ lines rest
    pub leads : (more : List (List ℕ)) → played league room (done ++ more) ≡ played_from league room h slack more

  pub none_led : IsLedTo script [] greatest
  unfolding played
  none_led = record { done = []; parts = refl; leads = λ more. refl }

  pub one_led : (rest line next : List ℕ) (h : List Entry) (slack : ℕ) → IsLedTo rest h slack → TakesLine rest line next
      → IsLedTo next (history_after league room h slack (line_of line)) (slack_after league room slack (line_of line))
  one_led rest line next h slack so_far takes = record {
    done = so_far.done ++ line ∷ [];
    parts = rw takes.lines_are at so_far.parts ∙ sym (append_assoc so_far.done (line ∷ []) (lines next));
    leads = λ more. ap (played league room) (append_assoc so_far.done (line ∷ []) more) ∙ so_far.leads (line ∷ more);
  }

  pub played_in_part : (rest : List ℕ) (h : List Entry) (slack : ℕ) → IsLedTo rest h slack
      → IsPlayedInPart league room (lines script) (book league room h)
  played_in_part rest h slack so_far = record {
    done = so_far.done;
    left = lines rest;
    parts = so_far.parts;
    is = ap (book league room) (sym (so_far.leads []) ∙ ap (played league room) (append-nil so_far.done));
  }

module _ {S : Type 0} {held : S → Option (List ℕ)} {tally : S → Tally} (league : LeagueData) (room : ℕ) (script : List ℕ) where
  pub none_answered : (a : BufferedSink S) → IsAnsweredTo held tally a a league room script script [] greatest 1
  unfolding answers played
  none_answered a = record { written = none_added a _; history_is = refl; few = omega arith }

  pub one_answered : {a b c : BufferedSink S} (rest line next : List ℕ) (h : List Entry) (slack number : ℕ)
      → IsAnsweredTo held tally a b league room script rest h slack number → TakesLine rest line next
      → Adds held tally b c (answer_to league room h slack number (line_of line))
      → IsAnsweredTo held tally a c league room script next (history_after league room h slack (line_of line))
      (slack_after league room slack (line_of line)) (number + 1)
  one_answered rest line next h slack number so_far takes added = record {
    written = one_added _ _ _ (rw takes.lines_are at so_far.written) added;
    history_is = rw takes.lines_are at so_far.history_is;
    few = omega (arith, so_far.few, takes.shorter);
  }

  pub one_failed : {a b c : BufferedSink S} (rest line next : List ℕ) (h : List Entry) (slack number : ℕ)
      → IsAnsweredTo held tally a b league room script rest h slack number → TakesLine rest line next
      → Stops held tally b c (answer_to league room h slack number (line_of line))
      → Stops held tally a c (answers league room (lines script))
  one_failed rest line next h slack number so_far takes stops = one_stopped _ _ _ (rw takes.lines_are at so_far.written) stops

-- no line is played, and all are
pub played_none : (league : LeagueData) (room : ℕ) (script : List (List ℕ)) → IsPlayedInPart league room script (book league room [])
unfolding played
played_none league room script = record { done = []; left = script; parts = refl; is = refl }

pub played_all : (league : LeagueData) (room : ℕ) (script : List (List ℕ))
    → IsPlayedInPart league room script (book league room (played league room script))
played_all league room script = record { done = script; left = []; parts = sym (append-nil script); is = refl }

pub at_err : {T E : Type 0} {P : Type 0} (r : Result T E) → P → OnErr r P
at_err (Ok x) p = tt
at_err (Err e) p = p
