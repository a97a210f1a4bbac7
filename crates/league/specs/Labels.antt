-- What a league calls itself, its teams in short, and its rounds.
use Rattle.std.specs.Prelude.{ℕ, ◌||◌, ◌&&◌, ◌==◌, Bool, true, List, [], length, Option, Some, None, IsTrue}
use Rattle.std.specs.List.{list_all}
use Rattle.league.specs.Limits.{max_title, max_short_name, max_round_text, round_count}
use Rattle.league.specs.Names.{is_text_within}

pub record LabelData : Type 0 where
  pub title : Option (List ℕ)
  -- one for each team, or none
  pub short_names : List (List ℕ)
  -- one for each round, or none
  pub round_texts : List (List ℕ)

abbrev pub label_data : Option (List ℕ) → List (List ℕ) → List (List ℕ) → LabelData
label_data title short_names round_texts =
    record { title = title; short_names = short_names; round_texts = round_texts }

abbrev pub no_labels : LabelData
no_labels = label_data None [] []

-- so many texts, or none
abbrev pub are_texts_for : ℕ → ℕ → List (List ℕ) → Bool
are_texts_for count most texts = (length texts == 0 || length texts == count) && list_all (is_text_within most) texts

abbrev pub is_title : Option (List ℕ) → Bool
is_title None = true
is_title (Some title) = is_text_within max_title title

pub record AreLabelsFor (n : ℕ) (labels : LabelData) : Type 0 where
  pub title : IsTrue (is_title labels.title)
  pub short_names : IsTrue (are_texts_for n max_short_name labels.short_names)
  pub round_texts : IsTrue (are_texts_for (round_count n) max_round_text labels.round_texts)
