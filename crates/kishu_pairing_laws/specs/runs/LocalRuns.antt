-- What a run leaves: what is inside the reach of its accessed names leads afterwards only to what is inside, and all else stays.
use Rattle.std.specs.Prelude.{ℕ, ◌≡◌, List, [], ◌∷◌, Option, Some, None, length, option_and_then, ◌<◌}
use Rattle.std.specs.List.{AllZip}
use Rattle.std.proofs.Common.{subst, inl, sym, inr, arith, refl, ap, ◌∙◌}
use Rattle.std.proofs.lemmas.Bool.{cases_lt}
use Rattle.kishu_language.specs.declared.profile.Profile.{Profile}
use Rattle.kishu_meaning.specs.cells.Meaning.{run}
use Rattle.kishu_meaning.specs.values.Values.{Value, node, State, find}
use Rattle.kishu_objects_laws.specs.SameLaws.{same_self}
use Rattle.kishu_objects.specs.Lists.{In}
use Rattle.kishu_objects_laws.specs.ListLaws.{in_at}
use Rattle.kishu_objects_laws.specs.OrderLaws.{in_numbers, numbers_in}
use Rattle.kishu_objects_laws.specs.PairingLaws.{ByPath}
use Rattle.kishu_objects.specs.Same.{BothOrNone}
use Rattle.kishu_objects.specs.Shape.{children, node_at, child, reached}
use Rattle.kishu_objects.specs.Pairings.{Alike}
use Rattle.kishu_objects.specs.AlikeRuns.{Extended}
use Rattle.kishu_objects.specs.States.{IsSoundState}
use Rattle.kishu_objects.specs.Locality.{Reached, Leaves, Inside, LeavesAlone}
use Rattle.kishu_pairing_laws.specs.runs.Worlds.{got_same, get_node}
use Rattle.kishu_pairing_laws.specs.runs.PairedRuns.{runs_pair, by_paths}

-- ---- what a closed pairing of a state with itself tells, where it pairs what is inside

module _ (P : ℕ → ℕ → Type 0) (here : ℕ → Type 0) (inside : (i j : ℕ) → P i j → here i) where
  value_inside : (v w : Value) (i : ℕ) → v ≡ node i → Alike P v w → here i
  value_inside (node k) (node j) i e h = inside i j (subst (λ z. P z j) (cc) h)
  value_inside (node k) w i e h = absurd h
  value_inside v (node j) i e h = absurd h
  value_inside v w i e h = absurd (cc)

  values_inside : (vs ws : List Value) (i : ℕ) → AllZip (Alike P) vs ws → In (node i) vs → here i
  values_inside [] [] i h m = absurd m
  values_inside (v ∷ vs) (w ∷ ws) i h (inl e) = value_inside v w i (sym e) h.0
  values_inside (v ∷ vs) (w ∷ ws) i h (inr m) = values_inside vs ws i h.1 m
  values_inside [] (w ∷ ws) i h m = absurd h
  values_inside (v ∷ vs) [] i h m = absurd h

  found_inside : (o q : Option Value) (i : ℕ) → o ≡ Some (node i) → BothOrNone (Alike P) o q → here i
  found_inside (Some v) (Some w) i e h = value_inside v w i (cc) h
  found_inside (Some v) None i e h = absurd h
  found_inside None q i e h = absurd (cc)

-- ---- runs

-- A run is paired with itself: each node that an accessed name reaches with itself.
pub run_leaves_inside : (profile : Profile) (source : List ℕ) (s : State) → IsSoundState s → Leaves (run profile source s).accessed s (run profile source s).state
run_leaves_inside profile source s real =
    let t : State = (run profile source s).state in
    let accessed : List (List ℕ) = (run profile source s).accessed in
    let N : List ℕ → Type 0 = λ x. In x accessed in
    let Old : ℕ → ℕ → Type 0 = ByPath N s s (same_self N s) in
    let k = runs_pair Old N s s (by_paths N s s real real (same_self N s)) profile source (λ x m. m) in
    let inside : (i j : ℕ) → Extended Old s s i j → Inside accessed s i = λ i j p. elim p [ inl h ↦ inr (h.0, h.2, (h.1, h.3)) | inr h ↦ inl h.0 ] in
    record {
      grows = k.nodes_grow;
      names = λ x n. sym (k.left_names x n);
      nodes = λ i n. elim (cases_lt i (length s.nodes)) [
        | inl l ↦ got_same s.nodes t.nodes i (sym (k.left_nodes i l (λ j h. n (inr (h.0, h.2, (h.1, h.3))))))
        | inr l ↦ absurd (n (inl (omega arith)))
      ];
      begins = λ x i m e. found_inside (Extended Old s s) (Inside accessed s) inside (find x t.names) (find x t.names) i e (k.pairs.names x m);
      goes_on = λ i j h m.
          let p : Extended Old s s i i = elim h [ inl l ↦ inr (l, refl) | inr r ↦ inl (r.0, r.2.0, r.1, r.2.1, r.2.1) ] in
          values_inside (Extended Old s s) (Inside accessed s) inside (children (node_at t.nodes i)) (children (node_at t.nodes i)) j (k.pairs.leads_on i i p) (in_numbers (children (node_at t.nodes i)) j m);
    }

-- ---- the same as seen from outside

module _ (accessed : List (List ℕ)) (s t : State) (leaves : Leaves accessed s t) where
  step_inside : (c i : ℕ) (o : Option Value) → ((k : ℕ) → o ≡ Some (node k) → Inside accessed s k) → option_and_then (child t.nodes c) o ≡ Some (node i) → Inside accessed s i
  step_inside c i (Some (node k)) h e = leaves.goes_on k i (h k refl) (numbers_in (children (node_at t.nodes k)) i (in_at (children (node_at t.nodes k)) c (node i) e))
  step_inside c i (Some v) h e = absurd (cc)
  step_inside c i None h e = absurd (cc)

  -- What an accessed name reaches afterwards is inside.
  pub reached_inside : (x p : List ℕ) (i : ℕ) → In x accessed → reached t x p ≡ Some (node i) → Inside accessed s i
  reached_inside x [] i m e = leaves.begins x i m e
  reached_inside x (c ∷ p) i m e = step_inside c i (reached t x p) (λ k f. reached_inside x p k m f) e

  outside : (i : ℕ) → i < length s.nodes → (Reached accessed s i → ⊥) → Inside accessed s i → ⊥
  outside i l n (inl g) = omega (arith, l, g)
  outside i l n (inr r) = n r

  pub left_alone : LeavesAlone accessed s t
  left_alone = record {
    names = leaves.names;
    nodes = λ i l n. (let g = leaves.grows in get_node s.nodes i l ∙ ap Some (leaves.nodes i (outside i l n)) ∙ sym (get_node t.nodes i (omega (arith, l, g))));
    apart = λ i l n r. outside i l n (reached_inside r.0 r.2.0 i r.1 r.2.1);
  }

pub run_leaves_rest : (profile : Profile) (source : List ℕ) (s : State) → IsSoundState s → LeavesAlone (run profile source s).accessed s (run profile source s).state
run_leaves_rest profile source s real = left_alone (run profile source s).accessed s (run profile source s).state (run_leaves_inside profile source s real)
