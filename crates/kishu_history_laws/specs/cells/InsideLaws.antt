-- Nodes inside the reach of names, before and after a cell.
use Rattle.std.specs.Prelude.{◌≡◌, ℕ, ◌==◌, ◌<◌, ◌⊎◌, List, [], ◌∷◌, length, slice_get, Some, option_and_then}
use Rattle.std.proofs.Common.{ap, ◌∙◌, arith, inl, inr}
use Rattle.std.proofs.lemmas.Bool.{cases_lt}
use Rattle.std.proofs.lemmas.Bool.Decides.{Decides-eqb}
use Rattle.kishu_meaning.specs.values.Values.{node, State}
use Rattle.kishu_objects.specs.Shape.{children, node_at, child, reached}
use Rattle.kishu_objects.specs.Picture.{order, listed, leads}
use Rattle.kishu_objects.specs.Groups.{Reaches, is_in}
use Rattle.kishu_objects.specs.Lists.{In}
use Rattle.kishu_objects_laws.specs.ListLaws.{in_at}
use Rattle.kishu_objects.specs.Sound.{IsSound}
use Rattle.kishu_objects_laws.specs.OrderLaws.{order_reached, reached_order, step_from, numbers_in}
use Rattle.kishu_objects_laws.specs.NameLaws.{found_listed}
use Rattle.kishu_objects.specs.Locality.{Reached, Inside, Leaves}
use Rattle.kishu_history_laws.specs.Choices.{any_decides, among_decides, told}

pub reach_below : (s : State) → IsSound s → (x p : List ℕ) (i : ℕ) → reached s x p ≡ Some (node i) → i < length s.nodes
reach_below s sound x [] i e = sound.names x i e
reach_below s sound x (c ∷ p) i e = (let k = step_from s c i (reached s x p) e in sound.nodes k.0 i (numbers_in (children (node_at s.nodes k.0)) i (in_at (children (node_at s.nodes k.0)) c (node i) k.2)))

-- a name from which a path leads is bound
pub reach_bound : (s : State) (x p : List ℕ) (i : ℕ) → reached s x p ≡ Some (node i) → In x (listed s)
reach_bound s x [] i e = found_listed s.names x (node i) e
reach_bound s x (c ∷ p) i e = (let k = step_from s c i (reached s x p) e in reach_bound s x p k.0 k.1)

-- whether a node is inside is known
pub inside_decided : (accessed : List (List ℕ)) (s : State) → IsSound s → (i : ℕ) → Inside accessed s i ⊎ (Inside accessed s i → ⊥)
inside_decided accessed s sound i = elim (cases_lt i (length s.nodes)) [
  | inl l ↦ elim (told (is_in i (order s accessed)) (any_decides ◌==◌ Decides-eqb i (order s accessed))) [
    | inl m ↦ inl (inr (order_reached s accessed i m))
    | inr n ↦ inr (λ h. elim h [ inl g ↦ omega (arith, l, g) | inr r ↦ n (reached_order s sound accessed r.0 r.1 r.2.0 i r.2.1) ])
  ]
  | inr g ↦ inl (inl (omega arith))
]

-- what a name reaches after a cell is inside, or the name reached it before
pub reach_cases : (accessed : List (List ℕ)) (s t : State) → IsSound s → Leaves accessed s t → (y p : List ℕ) (i : ℕ) → reached t y p ≡ Some (node i) → Inside accessed s i ⊎ Reaches s y i
reach_cases accessed s t sound leaves y [] i e = elim (told _ (among_decides y accessed)) [
  | inl a ↦ inl (leaves.begins y i a e)
  | inr n ↦ inr ([], leaves.names y n ∙ e)
]
reach_cases accessed s t sound leaves y (c ∷ p) i e =
    let k = step_from t c i (reached t y p) e in
    let l : In i (leads t.nodes k.0) = numbers_in (children (node_at t.nodes k.0)) i (in_at (children (node_at t.nodes k.0)) c (node i) k.2) in
    elim (reach_cases accessed s t sound leaves y p k.0 k.1) [
      | inl h ↦ inl (leaves.goes_on k.0 i h l)
      | inr r ↦ elim (inside_decided accessed s sound k.0) [
        | inl h ↦ inl (leaves.goes_on k.0 i h l)
        | inr n ↦ inr (c ∷ r.0, ap (option_and_then (child s.nodes c)) r.1 ∙ ap (λ m. slice_get (children m) c) (leaves.nodes k.0 n) ∙ k.2)
      ]
    ]

-- An old node that no accessed name reached stays, and no accessed name reaches it afterwards.
pub outside_stays : (accessed : List (List ℕ)) (s t : State) → IsSound s → Leaves accessed s t → (i : ℕ) → i < length s.nodes → (Reached accessed s i → ⊥) → (node_at s.nodes i ≡ node_at t.nodes i) × (Reached accessed t i → ⊥)
outside_stays accessed s t sound leaves i l n =
    let out : Inside accessed s i → ⊥ = λ h. elim h [ inl g ↦ omega (arith, l, g) | inr b ↦ n b ] in
    (leaves.nodes i out, λ b. elim (reach_cases accessed s t sound leaves b.0 b.2.0 i b.2.1) [ inl h ↦ out h | inr r ↦ n (b.0, b.1, r) ])
