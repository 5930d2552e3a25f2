-- The rows of worked cells: what a cell gives, also one that has few steps left, and one that begins at some depth.
use Rattle.std.proofs.Common.{[], ◌∷◌}
use Rattle.std.specs.Prelude.{ℕ, pos, negsuc, List, codes, Result, Ok, Err}
use Rattle.std.specs.Str.{chars}
use Rattle.kishu_language.specs.declared.profile.Profile.TheVariants.{One}
use Rattle.kishu_meaning.specs.declared.result.Outcome.{Outcome}
use Rattle.kishu_language.specs.trees.Tree.{Statement}
use Rattle.kishu_language.specs.reading.ReadText.{read_chars}
use Rattle.kishu_meaning.specs.values.Values.{range, Names, Node, State, Output, Ran, empty}
use Rattle.kishu_meaning.specs.moments.Moment.{Moment}
use Rattle.kishu_meaning.specs.cells.Meaning.{cell, begun, finished, unread}

abbrev pub ran : Outcome → List Output → Names → List (List ℕ) → ℕ → Ran
ran outcome outputs names accessed charge = record {
  state = record { names = names; nodes = [] };
  report = record { outcome = outcome; outputs = outputs };
  accessed = accessed;
  charge = charge;
}

-- the same, with these nodes
abbrev pub ran_over : Outcome → List Output → Names → List Node → List (List ℕ) → ℕ → Ran
ran_over outcome outputs names nodes accessed charge = record (ran outcome outputs names accessed charge) { state = record { names = names; nodes = nodes } }

-- a state with three ranges
abbrev pub ranged : State
ranged = record {
  names = (codes "d", range (pos 5) (pos 0) (negsuc 1)) ∷ (codes "e", range (pos 0) (pos 0) (pos 1)) ∷ (codes "r", range (pos 0) (pos 10) (pos 3)) ∷ [];
  nodes = [];
}

abbrev pub run_from : Moment → Result (List Statement) ℕ → Ran
run_from s (Ok tree) = finished (cell tree s)
run_from s (Err line) = unread line empty

abbrev pub run_with : ℕ → List ℕ → Ran
run_with n source = run_from (record (begun One empty) { left = n }) (read_chars One (chars source))

abbrev pub run_at : ℕ → List ℕ → Ran
run_at n source = run_from (record (begun One empty) { depth = n }) (read_chars One (chars source))
