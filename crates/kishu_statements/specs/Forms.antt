-- Forms that the code's functions have, where they cut a rule of the language into parts.
use Rattle.std.specs.Prelude.{ℕ, zero, suc, ◌+◌, ◌*◌, ◌≤◌, true, false, if◌then◌else◌, List, [], ◌∷◌, Option, None, Result, Ok, Err}
use Rattle.kishu_language.specs.trees.Tree.{Links, Bound, Statement, Definition, no_links, more_links}
use Rattle.kishu_meaning.specs.values.Values.{Value, bool}
use Rattle.kishu_meaning.specs.moments.Moment.{M, ◌>>=◌, ◌>>◌, give, tick, recursion_error}
use Rattle.kishu_meaning.specs.comparing.Comparing.{compare}
use Rattle.kishu_meaning.specs.items.Subscripts.{slice}
use Rattle.kishu_meaning.specs.calls.Callees.{Given, Part, whole}
use Rattle.kishu_meaning.specs.calls.Functions.{bound_values}
use Rattle.kishu_meaning.specs.cells.Meaning.{Calls, expr, bound_value, act, enter, all_calls, call}
use Rattle.kishu_machine.specs.declared.fault.Fault.{Fault}
use Rattle.kishu_machine.specs.declared.machine.Machine.{Machine}
use Rattle.kishu_access.specs.declared.places.Place as rust_place
use Rattle.kishu_access.specs.Access.{place_of, place_reads}
use Rattle.kishu_calls.specs.declared.parts.Part as rust_part
use Rattle.kishu_calls.specs.Calls.{owed, part_of}

abbrev pub silent_act : Statement → M (Option (List ℕ))
silent_act s = act all_calls s >> give None

-- each of these statements, wherever it leads
abbrev pub each : List Statement → M (Unit {0})
each [] = give tt
each (s ∷ ss) = tick >> act all_calls s >> each ss

module _ (calls : Calls) where
  -- each operand once, up to the first comparison that is false
  abbrev pub linked : Value → Links → M Value
  linked v no_links = give (bool true)
  linked v (more_links comparison e ls) = expr calls e >>= λ w. tick >> compare comparison v w >>= λ b. if b then linked w ls else give (bool false)

  abbrev pub slice_part : Value → Bound → Bound → Bound → M Part
  slice_part v start stop step = bound_value calls start >>= λ a. bound_value calls stop >>= λ b. bound_value calls step >>= λ c. slice v a b c >>= λ w. give (whole w)

-- a function that is called, by its tree and its defaults
abbrev pub called : ℕ → Definition → List Value → Given → M Value
called zero d vs given = recursion_error
called (suc n) d vs given = enter (call n) d (bound_values d vs given)

-- A part leaves 64 reads over, and eight more for what it owes; k were lent.
abbrev pub LeavesPart : ℕ → Machine → ℕ → Result rust_part.Part Fault → Machine → ℕ → Type 0
LeavesPart k old a (Ok p) new b = b + 128 * new.budget.left + 64 + 8 * owed (part_of p) ≤ a + 128 * old.budget.left + k
LeavesPart k old a (Err f) new b = b + 128 * new.budget.left ≤ a + 128 * old.budget.left + k

-- A place leaves the reads that it may cost; k were lent.
abbrev pub PlaceReads : ℕ → Machine → ℕ → Result rust_place.Place Fault → Machine → ℕ → Type 0
PlaceReads k old a (Ok p) new b = b + 128 * new.budget.left + place_reads (place_of p) ≤ a + 128 * old.budget.left + k
PlaceReads k old a (Err f) new b = b + 128 * new.budget.left ≤ a + 128 * old.budget.left + k
