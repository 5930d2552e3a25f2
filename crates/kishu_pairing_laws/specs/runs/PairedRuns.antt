-- Runs from states that a pairing relates go alike, so a run can't tell states apart that are the same.
use Rattle.std.specs.Prelude.{ℕ, List, [], ◌∷◌, Option, None, Some, slice_get, Contains, option_and_then, ◌≡◌, length, ◌<◌, ⊤}
use Rattle.std.specs.List.{AllZip}
use Rattle.std.proofs.Common.{inl, inr, arith, refl}
use Rattle.kishu_language.specs.declared.profile.Profile.{Profile}
use Rattle.kishu_meaning.specs.cells.Meaning.{run}
use Rattle.kishu_meaning.specs.values.Values.{State, Value, node, Ran, Node}
use Rattle.kishu_objects_laws.specs.ListLaws.{in_contains, in_flat, in_at}
use Rattle.kishu_objects.specs.Lists.{In}
use Rattle.kishu_objects.specs.Sound.{IsSound}
use Rattle.kishu_objects_laws.specs.PairingLaws.{ByPath, same_pairs, pairs_same}
use Rattle.kishu_objects.specs.Picture.{leads, number}
use Rattle.kishu_objects.specs.Same.{BothOrNone, SameWhere, Same, SameOn}
use Rattle.kishu_objects.specs.Shape.{child, children, node_at, reached}
use Rattle.kishu_objects.specs.Pairings.{Alike}
use Rattle.kishu_objects.specs.AlikeRuns.{IsPairing, RunAlike, ArePaired, RunsSame}
use Rattle.kishu_objects.specs.States.{IsSoundState}
use Rattle.kishu_pairing_laws.specs.World.{World, Paired, BothOrNeither, SameNode, both, neither, SameNames, SameHeaps}
use Rattle.kishu_pairing_laws.specs.cells.Runs.{SameRan, run_same}
use Rattle.kishu_pairing_laws.specs.runs.Worlds.{get_node, node_of, no_node, opt_of, pairs_of}

-- ---- runs from states that a pairing relates

module _ (P : ℕ → ℕ → Type 0) (N : List ℕ → Type 0) (s t : State) (h : IsPairing P N s t) where
  abbrev pub world : World
  world = record {
    P = P;
    N = N;
    Sorted = Unit {0};
    nodes_here = s.nodes;
    nodes_there = t.nodes;
    names_here = s.names;
    names_there = t.names;
    left_in = h.left_in;
    right_in = h.right_in;
    one_right = h.pairs.one_right;
    one_left = h.pairs.one_left;
  }

  wider : (v w : Value) → Alike P v w → Alike (Paired world) v w
  wider (node i) (node j) p = inl p
  wider (node i) w p = absurd p
  wider v (node j) p = absurd p
  wider v w p = p

  all_wider : (vs ws : List Value) → AllZip (Alike P) vs ws → AllZip (Alike (Paired world)) vs ws
  all_wider [] [] p = tt
  all_wider (v ∷ vs) (w ∷ ws) p = (wider v w p.0, all_wider vs ws p.1)
  all_wider [] (w ∷ ws) p = absurd p
  all_wider (v ∷ vs) [] p = absurd p

  opt_wider : (o q : Option Value) → BothOrNone (Alike P) o q → BothOrNone (Alike (Paired world)) o q
  opt_wider None None p = tt
  opt_wider (Some v) (Some w) p = wider v w p
  opt_wider None (Some w) p = absurd p
  opt_wider (Some v) None p = absurd p

  world_closed : (i j : ℕ) → Paired world i j → BothOrNeither (SameNode world) (slice_get s.nodes i) (slice_get t.nodes j)
  world_closed i j (inl p) = rw (get_node s.nodes i (h.left_in i j p), get_node t.nodes j (h.right_in i j p)) (both (node_of world _ _ (h.pairs.shows i j p) (all_wider _ _ (h.pairs.leads_on i j p))))
  world_closed i j (inr p) = rw (no_node s.nodes i p.0, no_node t.nodes j (omega (arith, p.0, p.1))) neither

  pub names_begin : SameNames world s.names t.names
  names_begin = record { bound = λ x n. opt_of world _ _ (opt_wider _ _ (h.pairs.names x n)); left_others = λ x no. refl; right_others = λ x no. refl; left_rise = λ u. h.left_rise; right_rise = λ u. h.right_rise }

  pub heaps_begin : SameHeaps world s.nodes t.nodes
  heaps_begin = record { base = omega arith; counts = omega arith; closed = world_closed; left_stays = λ i lt un. refl; right_stays = λ j lt un. refl }

  alike : {r q : Ran} → SameRan world r q → RunAlike P N s t r q
  alike k = record {
    report = k.report;
    accessed = k.accessed;
    charge = k.charge;
    nodes_grow = k.heaps.base;
    nodes_new = k.heaps.counts;
    pairs = pairs_of world k.names k.heaps;
    left_names = k.names.left_others;
    right_names = k.names.right_others;
    left_nodes = k.heaps.left_stays;
    right_nodes = k.heaps.right_stays;
    left_rise = k.names.left_rise tt;
    right_rise = k.names.right_rise tt;
  }

  pub runs_pair : (profile : Profile) (source : List ℕ) → ((x : List ℕ) → In x (run profile source s).accessed → N x) → RunAlike P N s t (run profile source s) (run profile source t)
  runs_pair profile source w = alike (run_same world tt profile source names_begin heaps_begin w)

pub listed_runs : (pairs : List (ℕ × ℕ)) (names : List (List ℕ)) (s t : State) (profile : Profile) (source : List ℕ) → IsPairing (ArePaired pairs) (λ x. Contains names x) s t → ((x : List ℕ) → Contains (run profile source s).accessed x → Contains names x) → RunAlike (ArePaired pairs) (λ x. Contains names x) s t (run profile source s) (run profile source t)
listed_runs pairs names s t profile source h w = runs_pair (ArePaired pairs) (λ x. Contains names x) s t h profile source (λ x m. w x (in_contains _ x m))

-- ---- states that are the same

in_along : (nodes : List Node) (c i : ℕ) (o : Option Value) → option_and_then (child nodes c) o ≡ Some (node i) → (k : ℕ) × In i (leads nodes k)
in_along nodes c i None e = absurd (cc)
in_along nodes c i (Some (node k)) e = (k, in_flat number i (node i) (children (node_at nodes k)) (in_at (children (node_at nodes k)) c (node i) e) (inl refl))
in_along nodes c i (Some v) e = absurd (cc)

pub reached_below : (s : State) → IsSound s → (x p : List ℕ) (i : ℕ) → reached s x p ≡ Some (node i) → i < length s.nodes
reached_below s sound x [] i e = sound.names x i e
reached_below s sound x (c ∷ p) i e = let k = in_along s.nodes c i (reached s x p) e in sound.nodes k.0 i k.1

module _ (N : List ℕ → Type 0) (s t : State) (real_s : IsSoundState s) (real_t : IsSoundState t) (same : SameWhere N s t) where
  pub by_paths : IsPairing (ByPath N s t same) N s t
  by_paths = record {
    pairs = same_pairs N s t same;
    left_in = λ i j h. reached_below s real_s.sound h.0 h.1 i h.3;
    right_in = λ i j h. reached_below t real_t.sound h.0 h.1 j h.4;
    left_rise = real_s.rise;
    right_rise = real_t.rise;
  }

  pub runs_same : (profile : Profile) (source : List ℕ) → ((x : List ℕ) → In x (run profile source s).accessed → N x) → RunsSame N s t (run profile source s) (run profile source t)
  runs_same profile source w =
      let k = runs_pair (ByPath N s t same) N s t by_paths profile source w in
      record { report = k.report; accessed = k.accessed; charge = k.charge; nodes_new = k.nodes_new; states = pairs_same _ N _ _ k.pairs }

-- A run can't tell states apart that are the same.
pub same_runs : (profile : Profile) (source : List ℕ) (s t : State) → IsSoundState s → IsSoundState t → Same s t → RunsSame (λ x. ⊤) s t (run profile source s) (run profile source t)
same_runs profile source s t real_s real_t same = runs_same (λ x. ⊤) s t real_s real_t same profile source (λ x m. tt)

-- A run goes alike from states that are the same on names that hold all that it accesses.
pub local_runs : (profile : Profile) (source : List ℕ) (s t : State) (names : List (List ℕ)) → IsSoundState s → IsSoundState t → SameOn s t names → ((x : List ℕ) → Contains (run profile source s).accessed x → Contains names x) → RunsSame (λ x. Contains names x) s t (run profile source s) (run profile source t)
local_runs profile source s t names real_s real_t same w = runs_same (λ x. Contains names x) s t real_s real_t same profile source (λ x m. w x (in_contains _ x m))
