-- One cell: it runs on the state of the head's commit, and is committed.
use Rattle.std.specs.Prelude.{ℕ, suc, nat_le, nat_lt, ◌||◌, if◌then◌else◌, List, [], ◌∷◌, length}
use Rattle.kishu_language.specs.Limits.{longest_text}
use Rattle.kishu_meaning.specs.cells.Meaning.{run}
use Rattle.kishu_meaning.specs.values.Values.{Ran}
use Rattle.kishu_store.specs.Limits.{most_records, newest_profile}
use Rattle.kishu_store.specs.Graph.{Graph, newest, with_commit, count_of}
use Rattle.kishu_replay.specs.Replay.{replay}
use Rattle.kishu_model.specs.Answers.{ran_cell, cell_too_long, store_full}
use Rattle.kishu_model.specs.Request.{Stepped, refused_with}
use Rattle.kishu_model.specs.requests.TooLarge.{unless_too_large}

-- its run
abbrev pub ran_on : List ℕ → Graph → Ran
ran_on text g = run newest_profile text (replay g g.head.commit)

abbrev pub committed : List ℕ → Graph → Stepped
committed text g = record {
  graph = with_commit newest_profile (text ∷ []) g;
  answer = ran_cell (suc (newest g)) (suc (count_of g g.head.commit)) (ran_on text g).report;
}

-- the steps that it takes
abbrev pub charge_for : List ℕ → Graph → ℕ
charge_for text g = (ran_on text g).charge

-- A text that is too long is no cell, and a store that is full takes none: they aren't run. A state that is too large isn't kept.
abbrev pub step_cell : List ℕ → Graph → Stepped
step_cell text g =
    if nat_lt longest_text (length text) then refused_with cell_too_long g
    else if nat_le most_records g.records then refused_with store_full g
    else unless_too_large (ran_on text g).state g (committed text g)

-- A cell that isn't run takes no step. One that is run takes its own, though its state may be too large.
abbrev pub charge_of_cell : List ℕ → Graph → ℕ
charge_of_cell text g = if nat_lt longest_text (length text) || nat_le most_records g.records then 0 else charge_for text g
