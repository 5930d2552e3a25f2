-- A run leads from a sound state whose names stand in order to another.
use Rattle.std.specs.Prelude.{ℕ, ◌<◌, List, [], ◌∷◌, suc, zero, Some, ◌≡◌, Option, None, map, length, ⊤}
use Rattle.std.specs.List.Sorted.{IsStrictlySortedBy}
use Rattle.std.proofs.Common.{inl, refl, subst, sym, inr, ap, ◌∙◌}
use Rattle.kishu_language.specs.declared.profile.Profile.{Profile}
use Rattle.kishu_meaning.specs.cells.Meaning.{run}
use Rattle.kishu_meaning.specs.values.Values.{Value, node, Node, Names, find, State, empty}
use Rattle.kishu_objects_laws.specs.SameLaws.{same_self}
use Rattle.kishu_objects.specs.Lists.{In, Rise}
use Rattle.kishu_objects_laws.specs.ListLaws.{in_left, in_right, in_cases}
use Rattle.kishu_objects.specs.Sound.{IsSound}
use Rattle.kishu_objects_laws.specs.PairingLaws.{ByPath}
use Rattle.kishu_objects.specs.Picture.{number, numbers, leads}
use Rattle.kishu_objects.specs.Shape.{children}
use Rattle.kishu_soundness_laws.specs.Below.{Below, AllBelow, Each, NodeBelow, EntriesBelow, StateBelow, Maybe}
use Rattle.kishu_soundness_laws.specs.moments.Names.{found_below}
use Rattle.kishu_soundness_laws.specs.cells.Cells.{run_below}
use Rattle.kishu_objects.specs.States.{IsSoundState}
use Rattle.kishu_pairing_laws.specs.moments.NamesInOrder.{find_none, not_above, found_here, found_past}
use Rattle.kishu_pairing_laws.specs.runs.PairedRuns.{runs_pair, by_paths}

-- ---- the two ways to say that node numbers are those of nodes

value_of : (k : ℕ) (v : Value) → ((a : ℕ) → In a (number v) → a < k) → Below k v
value_of k (node i) h = h i (inl refl)
value_of k v h = tt

number_of : (k : ℕ) (v : Value) → Below k v → (a : ℕ) → In a (number v) → a < k
number_of k (node i) h a (inl e) = subst (λ x. x < k) (sym e) h
number_of k (node i) h a (inr m) = absurd m
number_of k v h a m = absurd m

all_of : (k : ℕ) (vs : List Value) → ((a : ℕ) → In a (numbers vs) → a < k) → AllBelow k vs
all_of k [] h = tt
all_of k (v ∷ vs) h = (value_of k v (λ a m. h a (in_left a (number v) (numbers vs) m)), all_of k vs (λ a m. h a (in_right a (number v) (numbers vs) m)))

numbers_of : (k : ℕ) (vs : List Value) → AllBelow k vs → (a : ℕ) → In a (numbers vs) → a < k
numbers_of k [] h a m = absurd m
numbers_of k (v ∷ vs) h a m = elim (in_cases a (number v) (numbers vs) m) [ inl l ↦ number_of k v h.0 a l | inr r ↦ numbers_of k vs h.1 a r ]

nodes_of : (k : ℕ) (ns : List Node) → ((i a : ℕ) → In a (leads ns i) → a < k) → Each (NodeBelow k) ns
nodes_of k [] h = tt
nodes_of k (n ∷ ns) h = (all_of k (children n) (h 0), nodes_of k ns (λ i a m. h (suc i) a m))

leads_of : (k : ℕ) (ns : List Node) → Each (NodeBelow k) ns → (i a : ℕ) → In a (leads ns i) → a < k
leads_of k [] h i a m = absurd m
leads_of k (n ∷ ns) h zero a m = numbers_of k (children n) h.0 a m
leads_of k (n ∷ ns) h (suc i) a m = leads_of k ns h.1 i a m

none_is_some : (o : Option Value) (v : Value) → o ≡ None → o ≡ Some v → ⊥
none_is_some None v e f = absurd (cc)
none_is_some (Some w) v e f = absurd (cc)

names_of : (k : ℕ) (ns : Names) → Rise (map (λ (b : List ℕ × Value). b.0) ns) → ((x : List ℕ) (i : ℕ) → find x ns ≡ Some (node i) → i < k) → EntriesBelow k ns
unfolding IsStrictlySortedBy
names_of k [] r h = tt
names_of k (b ∷ ns) r h = (
  first_of b.1 refl,
  names_of k ns r.1 (λ x i e. h x i (found_past b.0 x b.1 ns (λ f. none_is_some (find x ns) (node i) (find_none x ns (not_above x b.0 ns f r.0)) e) ∙ e)),
)
  where
    first_of : (v : Value) → b.1 ≡ v → Below k v
    first_of (node i) e = h b.0 i (found_here b.0 b.1 ns ∙ ap Some e)
    first_of v e = tt

pub below_of : (s : State) → IsSoundState s → StateBelow s
below_of s real = record { nodes = nodes_of (length s.nodes) s.nodes real.sound.nodes; names = names_of (length s.nodes) s.names real.rise real.sound.names }

below_at : (k : ℕ) (o : Option Value) (v : Value) → o ≡ Some v → Maybe (Below k) o → Below k v
below_at k (Some w) v e h = subst (Below k) (some_is e) h
  where
    some_is : Some w ≡ Some v → w ≡ v
    some_is e = cc
below_at k None v e h = absurd (cc)

pub sound_of_below : (s : State) → StateBelow s → IsSound s
sound_of_below s h = record { names = λ x i e. below_at (length s.nodes) (find x s.names) (node i) e (found_below (length s.nodes) x s.names h.names); nodes = leads_of (length s.nodes) s.nodes h.nodes }

-- ---- runs

-- The empty state is sound.
pub empty_is_state : IsSoundState empty
unfolding IsStrictlySortedBy
empty_is_state = record { sound = record { names = λ x i e. absurd (none_is_some None (node i) refl e); nodes = λ i a m. absurd m }; rise = tt }

-- A run leads from a sound state whose names stand in order to another.
pub run_is_state : (profile : Profile) (source : List ℕ) (s : State) → IsSoundState s → IsSoundState (run profile source s).state
run_is_state profile source s real =
    let k = runs_pair (ByPath (λ x. ⊤) s s (same_self (λ x. ⊤) s)) (λ x. ⊤) s s (by_paths (λ x. ⊤) s s real real (same_self (λ x. ⊤) s)) profile source (λ x m. tt) in
    record { sound = sound_of_below (run profile source s).state (run_below profile source s (below_of s real)); rise = k.left_rise }
