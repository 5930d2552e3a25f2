-- What one cell leaves and what the next leaves is what both leave; and a cell leaves the same for more names than it accesses.
use Rattle.std.specs.Prelude.{ℕ, List, [], ◌∷◌, ◌++◌, slice_get, option_and_then}
use Rattle.std.proofs.Common.{ap, sym, ◌∙◌, subst, arith, inl, inr}
use Rattle.kishu_meaning.specs.values.Values.{node, State}
use Rattle.kishu_objects.specs.Shape.{children, node_at, child}
use Rattle.kishu_objects.specs.Picture.{leads, numbers}
use Rattle.kishu_objects.specs.Lists.{In}
use Rattle.kishu_objects_laws.specs.ListLaws.{at_in, in_left, in_right, in_cases}
use Rattle.kishu_objects.specs.Sound.{IsSound}
use Rattle.kishu_objects_laws.specs.OrderLaws.{in_numbers}
use Rattle.kishu_objects.specs.Locality.{Inside, Leaves}
use Rattle.kishu_history_laws.specs.Choices.{among_decides, told}
use Rattle.kishu_history_laws.specs.cells.InsideLaws.{inside_decided, reach_cases}

module _ (a b : List (List ℕ)) (s t u : State) (sound : IsSound s) (middle : IsSound t) (first : Leaves a s t) (second : Leaves b t u) where
  abbrev both : List (List ℕ)
  both = a ++ b

  from_first : (i : ℕ) → Inside a s i → Inside both s i
  from_first i (inl l) = inl l
  from_first i (inr k) = inr (k.0, in_left k.0 a b k.1, k.2)

  from_second : (i : ℕ) → Inside b t i → Inside both s i
  from_second i (inl l) = (let g = first.grows in inl (omega (arith, l, g)))
  from_second i (inr k) = elim (reach_cases a s t sound first k.0 k.2.0 i k.2.1) [
    | inl h ↦ from_first i h
    | inr r ↦ inr (k.0, in_right k.0 a b k.1, r)
  ]

  -- a child of what is inside is inside
  goes_both : (i j : ℕ) → Inside both s i → In j (leads t.nodes i) → Inside both s j
  goes_both i j h m = elim (inside_decided a s sound i) [
    | inl k ↦ from_first j (first.goes_on i j k m)
    | inr n ↦ elim h [
      | inl l ↦ absurd (n (inl l))
      | inr r ↦ elim (in_cases r.0 a b r.1) [
        | inl k ↦ absurd (n (inr (r.0, k, r.2)))
        | inr k ↦ (
            let e = first.nodes i n in
            let c = at_in (children (node_at t.nodes i)) (node j) (in_numbers (children (node_at t.nodes i)) j m) in
            inr (r.0, r.1, (c.0 ∷ r.2.0, ap (option_and_then (child s.nodes c.0)) r.2.1 ∙ ap (λ n. slice_get (children n) c.0) e ∙ c.1))
            )
      ]
    ]
  ]

  pub leaves_both : Leaves both s u
  leaves_both = record {
    grows = (let g = first.grows in let h = second.grows in omega (arith, g, h));
    names = λ x n. first.names x (λ m. n (in_left x a b m)) ∙ second.names x (λ m. n (in_right x a b m));
    nodes = λ i n. first.nodes i (λ h. n (from_first i h)) ∙ second.nodes i (λ h. n (from_second i h));
    begins = λ x i m e. elim (told _ (among_decides x b)) [
      | inl k ↦ from_second i (second.begins x i k e)
      | inr n ↦ elim (in_cases x a b m) [
        | inl k ↦ from_first i (first.begins x i k (second.names x n ∙ e))
        | inr k ↦ absurd (n k)
      ]
    ];
    goes_on = λ i j h m. elim (inside_decided b t middle i) [
      | inl k ↦ from_second j (second.goes_on i j k m)
      | inr n ↦ goes_both i j h (subst (λ z. In j (numbers (children z))) (sym (second.nodes i n)) m)
    ];
  }

-- What a cell leaves that accesses these names it leaves that accesses more.
module _ (a b : List (List ℕ)) (s t : State) (sound : IsSound s) (leaves : Leaves a s t) (more : (x : List ℕ) → In x a → In x b) where
  inside_more : (i : ℕ) → Inside a s i → Inside b s i
  inside_more i (inl l) = inl l
  inside_more i (inr k) = inr (k.0, more k.0 k.1, k.2)

  pub leaves_more : Leaves b s t
  leaves_more = record {
    grows = leaves.grows;
    names = λ x n. leaves.names x (λ m. n (more x m));
    nodes = λ i n. leaves.nodes i (λ h. n (inside_more i h));
    begins = λ x i m e. elim (told _ (among_decides x a)) [
      | inl k ↦ inside_more i (leaves.begins x i k e)
      | inr n ↦ inr (x, m, ([], leaves.names x n ∙ e))
    ];
    goes_on = λ i j h m. elim (inside_decided a s sound i) [
      | inl k ↦ inside_more j (leaves.goes_on i j k m)
      | inr n ↦ elim h [
        | inl l ↦ absurd (n (inl l))
        | inr r ↦ (
            let e = leaves.nodes i n in
            let c = at_in (children (node_at t.nodes i)) (node j) (in_numbers (children (node_at t.nodes i)) j m) in
            inr (r.0, r.1, (c.0 ∷ r.2.0, ap (option_and_then (child s.nodes c.0)) r.2.1 ∙ ap (λ n. slice_get (children n) c.0) e ∙ c.1))
            )
      ]
    ];
  }
