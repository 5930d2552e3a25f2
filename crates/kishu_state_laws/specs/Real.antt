-- The names of a state rise, and its names and nodes lead to nodes that are there: what runs that can't tell states apart ask for.
use Rattle.std.specs.Prelude.{◌≡◌, ℕ, zero, suc, ◌<◌, List, [], ◌∷◌, length, Option, Some, None}
use Rattle.std.specs.List.{AllByRecursion as Each}
use Rattle.std.proofs.Common.{sym, subst, inl, inr}
use Rattle.kishu_language.specs.declared.profile.Profile.{Profile}
use Rattle.kishu_meaning.specs.values.Values.{Value, node, Node, list, tuple, dict, object, function, exception, find, State}
use Rattle.kishu_meaning.specs.cells.Meaning.{run}
use Rattle.kishu_replay.specs.Replay.{after_cells}
use Rattle.kishu_objects.specs.Lists.{In}
use Rattle.kishu_objects_laws.specs.ListLaws.{in_cases}
use Rattle.kishu_objects.specs.Picture.{number, numbers, leads}
use Rattle.kishu_objects.specs.Same.{Same}
use Rattle.kishu_objects.specs.Shape.{children}
use Rattle.kishu_objects.specs.States.{IsSoundState}
use Rattle.kishu_pairing_laws.specs.runs.PairedRuns.{same_runs}
use Rattle.kishu_objects.specs.State.{IsCell, IsValue, AreValues, IsNode, IsState}
use Rattle.kishu_state_laws.specs.keeping.Logic.{Maybe}
use Rattle.kishu_state_laws.specs.keeping.Names.{value_of_name}
use Rattle.kishu_state_laws.specs.Whole.{run_becomes}

-- ---- node numbers

number_below : (k : ℕ) (v : Value) → IsValue k v → (a : ℕ) → In a (number v) → a < k
number_below k (node i) h a (inl e) = subst (λ x. x < k) (sym e) h
number_below k (node i) h a (inr m) = absurd m
number_below k v h a m = absurd m

numbers_below : (k : ℕ) (vs : List Value) → AreValues k vs → (a : ℕ) → In a (numbers vs) → a < k
numbers_below k [] h a m = absurd m
numbers_below k (v ∷ vs) h a m = elim (in_cases a (number v) (numbers vs) m) [ inl l ↦ number_below k v h.0 a l | inr r ↦ numbers_below k vs h.1 a r ]

pub children_values : (k : ℕ) (n : Node) → IsNode k n → AreValues k (children n)
children_values k (list vs) h = h
children_values k (tuple vs) h = h
children_values k (dict es) h = h.2
children_values k (object es) h = h.2
children_values k (function profile code vs) h = h.1
children_values k (exception kind vs) h = h.1

leads_below : (k : ℕ) (ns : List Node) → Each (IsNode k) ns → (i a : ℕ) → In a (leads ns i) → a < k
leads_below k [] h i a m = absurd m
leads_below k (n ∷ ns) h zero a m = numbers_below k (children n) (children_values k n h.0) a m
leads_below k (n ∷ ns) h (suc i) a m = leads_below k ns h.1 i a m

found_below : (k : ℕ) (o : Option Value) (i : ℕ) → o ≡ Some (node i) → Maybe (IsValue k) o → i < k
found_below k (Some v) i e h = subst (IsValue k) (some_is e) h
  where
    some_is : Some v ≡ Some (node i) → v ≡ node i
    some_is e = cc
found_below k None i e h = absurd (cc)

pub state_is_real : (s : State) → IsState s → IsSoundState s
state_is_real s h = record {
  sound = record {
    names = λ x i e. found_below (length s.nodes) (find x s.names) i e (value_of_name (length s.nodes) x s.names h.names.values);
    nodes = leads_below (length s.nodes) s.nodes h.nodes;
  };
  rise = h.names.rise;
}

-- ---- cells one after another

-- They can't tell states apart that are the same.
pub same_after : (profile : Profile) (cells : List (List ℕ)) (s t : State) → Each IsCell cells → IsState s → IsState t → Same s t → Same (after_cells profile cells s) (after_cells profile cells t)
same_after profile [] s t c hs ht h = h
same_after profile (cell ∷ cells) s t c hs ht h =
    same_after profile cells (run profile cell s).state (run profile cell t).state c.1 (run_becomes profile cell s c.0 hs).state (run_becomes profile cell t c.0 ht).state
    (same_runs profile cell s t (state_is_real s hs) (state_is_real t ht) h).states
