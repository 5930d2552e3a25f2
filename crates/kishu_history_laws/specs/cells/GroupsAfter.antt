-- After a cell: which groups there are, and what they take.
use Rattle.std.specs.Prelude.{◌≡◌, ◌↔◌, ◌+◌, ◌⊎◌, ℕ, Bool, false, not, List, [], ◌∷◌, map, length, filter}
use Rattle.std.specs.List.{sum_by}
use Rattle.std.proofs.Common.{refl, ap, sym, ◌∙◌, subst, arith, inl, inr}
use Rattle.std.proofs.lemmas.Bool.{cases_Bool}
use Rattle.std.proofs.lemmas.List.Sums.{sum_by-cons}
use Rattle.kishu_meaning.specs.values.Values.{State}
use Rattle.kishu_objects.specs.Same.{Same}
use Rattle.kishu_objects.specs.Picture.{picture, listed}
use Rattle.kishu_objects.specs.Lists.{In, Rise}
use Rattle.kishu_objects.specs.Bytes.{state_bytes, picture_bytes}
use Rattle.kishu_objects_laws.specs.ListLaws.{in_filter, filter_in}
use Rattle.kishu_objects_laws.specs.GroupLaws.{one_group}
use Rattle.kishu_objects.specs.Groups.{groups_of}
use Rattle.kishu_history.specs.Changed.{Group}
use Rattle.kishu_objects.specs.States.{IsSoundState}
use Rattle.kishu_history.specs.Tables.{first_name}
use Rattle.kishu_history.specs.Touched.{holds_any, is_touched, classes, IsKept}
use Rattle.kishu_objects.specs.Sizes.{size}
use Rattle.kishu_objects.specs.Locality.{Leaves}
use Rattle.kishu_history_laws.specs.states.AlikeLaws.{not_true}
use Rattle.kishu_history_laws.specs.Choices.{rise_one, not_false}
use Rattle.kishu_history_laws.specs.tables.TableLaws.{rise_picked, groups_rise, first_inside}
use Rattle.kishu_history_laws.specs.cells.TouchLaws.{in_holds, touched_in, part_chosen, no_touch, class_group, own}
use Rattle.kishu_history_laws.specs.cells.LeavesLaws.{groups_are_cut, kept_after}
use Rattle.kishu_history_laws.specs.states.SameLaws.{same_groups, same_pictures}

module _ (gs : List Group) (pic : Group → State) (accessed : List (List ℕ)) (s : State) (is : IsSoundState s) (kept : IsKept gs pic accessed s) (rise : Rise (map first_name gs)) where
  abbrev holds : Group → Bool
  holds = holds_any accessed

  abbrev first_touched : Group → Bool
  first_touched g = is_touched gs accessed (first_name g)

  touched_groups : filter first_touched (groups_of s) ≡ classes gs accessed s
  touched_groups = part_chosen s is.sound (listed s) (is_touched gs accessed) (no_touch gs pic accessed s is.sound kept)

  quiet_first : (g : Group) → In g gs → holds g ≡ false → In g (groups_of s) → first_touched g ≡ false
  quiet_first g m e k =
      let n = first_inside s is.sound (listed s) g k in
      elim (cases_Bool (first_touched g)) [
        | inr f ↦ f
        | inl f ↦ elim (touched_in gs accessed (first_name g) f) [
          | inl a ↦ absurd (not_true (sym e ∙ in_holds accessed g (first_name g) n a))
          | inr h ↦ absurd (not_true (sym e ∙ ap holds (kept.one g h.0 (first_name g) m h.1 n h.3) ∙ h.2))
        ]
      ]

  other_groups : filter (λ g. not (first_touched g)) (groups_of s) ≡ filter (λ g. not (holds g)) gs
  other_groups = rise_one first_name (filter (λ g. not (first_touched g)) (groups_of s)) (filter (λ g. not (holds g)) gs)
      (rise_picked first_name (λ g. not (first_touched g)) (groups_of s) (groups_rise s is.sound (listed s) is.rise))
      (rise_picked first_name (λ g. not (holds g)) gs rise)
      (λ g m.
      let f = filter_in (λ g. not (first_touched g)) (groups_of s) g m in
      let n = first_inside s is.sound (listed s) g f.0 in
      let b = ((groups_are_cut s is.sound).bound (first_name g)).1 (g, f.0, n) in
      let h = own gs pic accessed s is.sound kept (first_name g) b (not_false (first_touched g) f.1) in
      let e : g ≡ h.0 = one_group s is.sound (listed s) g h.0 (first_name g) f.0 h.4 n h.2 in
      in_filter (λ g. not (holds g)) gs g (subst (λ z. In z gs) (sym e) h.1) (ap not (ap holds e ∙ h.3)))
      (λ g m.
      let f = filter_in (λ g. not (holds g)) gs g m in
      let k = (kept.still g f.0 (not_false (holds g) f.1)).0 in
      in_filter (λ g. not (first_touched g)) (groups_of s) g k (ap not (quiet_first g f.0 (not_false (holds g) f.1) k)))

  -- The groups are those of before that hold no accessed name, and the classes of the touched names.
  pub groups_after : (g : Group) → In g (groups_of s) → (In g gs × (holds_any accessed g ≡ false)) ⊎ In g (classes gs accessed s)
  groups_after g m = elim (cases_Bool (first_touched g)) [
    | inl e ↦ inr (subst (λ l. In g l) touched_groups (in_filter first_touched (groups_of s) g m e))
    | inr e ↦ (let f = filter_in (λ g. not (holds g)) gs g (subst (λ l. In g l) other_groups (in_filter (λ g. not (first_touched g)) (groups_of s) g m (ap not e))) in inl (f.0, not_false (holds g) f.1))
  ]

  pub after_groups : (g : Group) → (In g gs × (holds_any accessed g ≡ false)) ⊎ In g (classes gs accessed s) → In g (groups_of s)
  after_groups g (inl m) = (kept.still g m.0 m.1).0
  after_groups g (inr m) = class_group gs pic accessed s is.sound kept g m

  sum_chosen : (f : Group → ℕ) (p : Group → Bool) (xs : List Group) → sum_by f (filter p xs) + sum_by f (filter (λ g. not (p g)) xs) ≡ sum_by f xs
  sum_chosen f p [] = refl
  sum_chosen f p (x ∷ xs) =
      let r = sum_chosen f p xs in
      let c = sum_by-cons f x xs in
      elim (cases_Bool (p x)) [
        | inl e ↦ (let d = sum_by-cons f x (filter p xs) in rw e (omega (arith, r, c, d)))
        | inr e ↦ (let d = sum_by-cons f x (filter (λ g. not (p g)) xs) in rw e (omega (arith, r, c, d)))
      ]

  -- What the state takes is what the groups without an accessed name take, and the classes of the touched names.
  pub size_after : size s ≡ sum_by (λ g. length (picture_bytes s g)) (filter (λ g. not (holds_any accessed g)) gs) + sum_by (λ g. length (picture_bytes s g)) (classes gs accessed s)
  size_after =
      let f : Group → ℕ = λ g. length (picture_bytes s g) in
      let a = sum_chosen f first_touched (groups_of s) in
      let b = ap (sum_by f) touched_groups in
      let c = ap (sum_by f) other_groups in
      omega (arith, a, b, c)

-- After a cell the groups are those of before that hold no accessed name, and the classes of the touched names.
pub groups_after_cell : (accessed : List (List ℕ)) (s t : State) → IsSoundState s → IsSoundState t → Leaves accessed s t → (g : Group) → (In g (groups_of t) ↔ ((In g (groups_of s) × (holds_any accessed g ≡ false)) ⊎ In g (classes (groups_of s) accessed t)))
groups_after_cell accessed s t here there leaves g =
    let kept = kept_after accessed s t here there leaves in
    let rise = groups_rise s here.sound (listed s) here.rise in
    (groups_after (groups_of s) (picture s) accessed t there kept rise g, after_groups (groups_of s) (picture s) accessed t there kept rise g)

-- States that are the same take the same.
pub same_size : (s t : State) → IsSoundState s → IsSoundState t → Same s t → size s ≡ size t
same_size s t here there same =
    sum_same (groups_of s) ∙ ap (sum_by (λ g. length (picture_bytes t g))) (same_groups s t here there same)
  where
    sum_same : (gs : List Group) → sum_by (λ g. length (picture_bytes s g)) gs ≡ sum_by (λ g. length (picture_bytes t g)) gs
    sum_same gs = ap (λ (f : Group → ℕ). sum_by f gs) (λ i g. length (state_bytes (same_pictures s t here there same g i)))
