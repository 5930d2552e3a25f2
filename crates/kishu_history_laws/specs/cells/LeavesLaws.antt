-- After a cell: the groups without an accessed name stand as before, so what is told among the touched names is exact.
use Rattle.std.specs.Prelude.{◌≡◌, ℕ, Bool, true, false, not, ◌&&◌, List, [], ◌∷◌, filter, slice_get, Option, Some, None, option_and_then}
use Rattle.std.proofs.Common.{refl, ap, sym, ◌∙◌, subst, arith, inl, inr}
use Rattle.std.proofs.lemmas.Bool.{cases_Bool}
use Rattle.kishu_meaning.specs.values.Values.{Value, node, State}
use Rattle.kishu_objects.specs.Shape.{children, node_at, child, reached}
use Rattle.kishu_objects.specs.Picture.{picture, listed}
use Rattle.kishu_objects.specs.Groups.{Reaches, Touch, groups, groups_of}
use Rattle.kishu_objects.specs.Lists.{In}
use Rattle.kishu_objects.specs.Sound.{IsSound}
use Rattle.kishu_objects_laws.specs.ListLaws.{contains_in, in_filter, filter_in}
use Rattle.kishu_objects_laws.specs.SameLaws.{kept_picture, picture_same}
use Rattle.kishu_objects_laws.specs.NameLaws.{rise_same, found_listed, listed_found}
use Rattle.kishu_objects_laws.specs.GroupLaws.{group_is, group_of, one_group, touch_group, class_in, groups_same}
use Rattle.kishu_objects_laws.specs.PartLaws.{part_groups, groups_part}
use Rattle.kishu_history.specs.Alike.{is_state}
use Rattle.kishu_history.specs.Changed.{Group, is_one_of, stands, changed}
use Rattle.kishu_objects.specs.States.{IsSoundState}
use Rattle.kishu_history.specs.Tables.{first_name}
use Rattle.kishu_history.specs.Touched.{holds_any, is_touched, dropped_among, stored_among, IsKept}
use Rattle.kishu_history.specs.Cut.{IsCut}
use Rattle.kishu_objects.specs.Locality.{Inside, Leaves}
use Rattle.kishu_history_laws.specs.states.AlikeLaws.{not_true, state_decides}
use Rattle.kishu_history_laws.specs.Choices.{among_decides, told, not_false, filter_same, one_truth, rise_chosen}
use Rattle.kishu_history_laws.specs.tables.TableLaws.{first_inside}
use Rattle.kishu_history_laws.specs.cells.InsideLaws.{reach_below, reach_bound, reach_cases}
use Rattle.kishu_history_laws.specs.cells.TouchLaws.{in_holds, touched_in, accessed_touched, untouched_holds, dropped_exact, stored_exact}

module _ (gs : List Group) (accessed : List (List ℕ)) (s t : State) (here : IsSoundState s) (there : IsSoundState t) (cut : IsCut gs s) (leaves : Leaves accessed s t) where
  abbrev test : List ℕ → Bool
  test = is_touched gs accessed

  -- what a group's name shares a node with is in the group
  touch_inside : (g : Group) (x y : List ℕ) → In g gs → In x g → Touch s x y → In y g
  touch_inside g x y m n touch =
      let k = (cut.bound y).0 (reach_bound s y touch.2.0 touch.0 touch.2.1) in
      subst (λ h. In y h) (sym (cut.apart g k.0 x y m k.1 n k.2 touch)) k.2

  -- What a name reaches whose group holds no accessed name isn't inside.
  outside : (g : Group) (x : List ℕ) (i : ℕ) → In g gs → holds_any accessed g ≡ false → In x g → Reaches s x i → Inside accessed s i → ⊥
  outside g x i m e n r (inl l) = (let b = reach_below s here.sound x r.0 i r.1 in omega (arith, l, b))
  outside g x i m e n r (inr k) = not_true (sym e ∙ in_holds accessed g k.0 (touch_inside g x k.0 m n (i, r, k.2)) k.1)

  pub not_accessed : (g : Group) (x : List ℕ) → holds_any accessed g ≡ false → In x g → In x accessed → ⊥
  not_accessed g x e n a = not_true (sym e ∙ in_holds accessed g x n a)

  pub still_picture : (g : Group) → In g gs → holds_any accessed g ≡ false → picture s g ≡ picture t g
  still_picture g m e = kept_picture s t here.sound there.sound g
      (λ x n. leaves.names x (not_accessed g x e (contains_in g x n)))
      (λ x i n r. leaves.nodes i (outside g x i m e (contains_in g x n) r))

  -- ---- the names that aren't touched

  abbrev pub quiet : List ℕ → Bool
  quiet x = not (test x)

  free : (x : List ℕ) → quiet x ≡ true → In x accessed → ⊥
  free x e a = not_true (sym (not_false (test x) e) ∙ accessed_touched gs accessed x a)

  pub bound_there : (x : List ℕ) → quiet x ≡ true → In x (listed s) → In x (listed t)
  bound_there x e m = (let k = listed_found s.names x m in found_listed t.names x k.0 (sym (leaves.names x (free x e)) ∙ k.1))

  pub bound_here : (x : List ℕ) → quiet x ≡ true → In x (listed t) → In x (listed s)
  bound_here x e m = (let k = listed_found t.names x m in found_listed s.names x k.0 (leaves.names x (free x e) ∙ k.1))

  same_quiet : filter quiet (listed s) ≡ filter quiet (listed t)
  same_quiet = rise_same (filter quiet (listed s)) (filter quiet (listed t)) (rise_chosen quiet (listed s) here.rise) (rise_chosen quiet (listed t) there.rise)
      (λ x m. let f = filter_in quiet (listed s) x m in in_filter quiet (listed t) x (bound_there x f.1 f.0) f.1)
      (λ x m. let f = filter_in quiet (listed t) x m in in_filter quiet (listed s) x (bound_here x f.1 f.0) f.1)

  -- the group of a name that isn't touched
  pub quiet_group : (x : List ℕ) → quiet x ≡ true → In x (listed s) → (g : Group) × In g gs × In x g × (holds_any accessed g ≡ false)
  quiet_group x e m = (let g = (cut.bound x).0 m in (g.0, g.1, g.2, untouched_holds gs accessed g.0 x g.1 g.2 (not_false (test x) e)))

  -- a name of such a group isn't touched
  pub group_quiet : (g : Group) (x : List ℕ) → In g gs → holds_any accessed g ≡ false → In x g → quiet x ≡ true
  group_quiet g x m e n = elim (cases_Bool (test x)) [
    | inl k ↦ elim (touched_in gs accessed x k) [
      | inl a ↦ absurd (not_accessed g x e n a)
      | inr r ↦ absurd (not_true (sym e ∙ ap (holds_any accessed) (cut.one g r.0 x m r.1 n r.3) ∙ r.2))
    ]
    | inr k ↦ ap not k
  ]

  quiet_outside : (x : List ℕ) (i : ℕ) → quiet x ≡ true → Reaches s x i → Inside accessed s i → ⊥
  quiet_outside x i e r = (let g = quiet_group x e (reach_bound s x r.0 i r.1) in outside g.0 x i g.1 g.3 g.2 r)

  -- what such a name touched before isn't touched by the cell
  pub apart_here : (x y : List ℕ) → In x (listed s) → In y (listed s) → quiet x ≡ true → quiet y ≡ false → Touch s x y → ⊥
  apart_here x y m n e f touch =
      let g = quiet_group x e m in
      let k = group_quiet g.0 y g.1 g.3 (touch_inside g.0 x y g.1 g.2 touch) in
      not_true (sym f ∙ k)

  -- ---- paths after the cell

  child_quiet : (c : ℕ) (o : Option Value) → ((i : ℕ) → o ≡ Some (node i) → node_at s.nodes i ≡ node_at t.nodes i) → option_and_then (child s.nodes c) o ≡ option_and_then (child t.nodes c) o
  child_quiet c None h = refl
  child_quiet c (Some (node i)) h = ap (λ n. slice_get (children n) c) (h i refl)
  child_quiet c (Some v) h = refl

  pub path_quiet : (x p : List ℕ) → quiet x ≡ true → reached s x p ≡ reached t x p
  path_quiet x [] e = leaves.names x (free x e)
  path_quiet x (c ∷ p) e =
      child_quiet c (reached s x p) (λ i h. leaves.nodes i (quiet_outside x i e (p, h)))
      ∙ ap (option_and_then (child t.nodes c)) (path_quiet x p e)

  pub apart_there : (x y : List ℕ) → In x (listed t) → In y (listed t) → quiet x ≡ true → quiet y ≡ false → Touch t x y → ⊥
  apart_there x y m n e f touch =
      let r : Reaches s x touch.0 = (touch.1.0, path_quiet x touch.1.0 e ∙ touch.1.1) in
      elim (reach_cases accessed s t here.sound leaves y touch.2.0 touch.0 touch.2.1) [
        | inl h ↦ quiet_outside x touch.0 e r h
        | inr q ↦ apart_here x y (bound_here x e m) (reach_bound s y q.0 touch.0 q.1) e f (touch.0, r, q)
      ]

  -- ---- the groups

  pub groups_quiet : groups s (filter quiet (listed s)) ≡ groups t (filter quiet (listed t))
  groups_quiet =
      let part = filter quiet (listed s) in
      let e : picture s part ≡ picture t part = kept_picture s t here.sound there.sound part
      (λ x m. leaves.names x (free x (filter_in quiet (listed s) x (contains_in part x m)).1))
      (λ x i m r. leaves.nodes i (quiet_outside x i (filter_in quiet (listed s) x (contains_in part x m)).1 r)) in
      groups_same s t here.sound there.sound part (picture_same s t here.sound there.sound part e) ∙ ap (groups t) same_quiet

pub groups_are_cut : (s : State) → IsSound s → IsCut (groups_of s) s
groups_are_cut s sound = record {
  bound = λ x. (
    λ m. group_of s sound (listed s) x m,
    λ k. let i = group_is s sound (listed s) k.0 k.1 in class_in s sound (listed s) i.0 x i.1 (subst (λ h. In x h) i.2 k.2),
  );
  apart = λ g h x y m n a b touch. one_group s sound (listed s) g h y m n (touch_group s sound (listed s) g x y m a (reach_bound s y touch.2.0 touch.0 touch.2.1) touch) b;
  one = λ g h x m n a b. one_group s sound (listed s) g h x m n a b;
}

-- ---- the groups of a state

module _ (accessed : List (List ℕ)) (s t : State) (here : IsSoundState s) (there : IsSoundState t) (leaves : Leaves accessed s t) where
  abbrev gs : List Group
  gs = groups_of s

  cut : IsCut gs s
  cut = groups_are_cut s here.sound

  abbrev calm : List ℕ → Bool
  calm x = not (is_touched gs accessed x)

  still_group : (g : Group) → In g gs → holds_any accessed g ≡ false → In g (groups_of t)
  still_group g m e =
      let x = first_name g in
      let n = first_inside s here.sound (listed s) g m in
      let q = group_quiet gs accessed s t here there cut leaves g x m e n in
      let b = (cut.bound x).1 (g, m, n) in
      let p = groups_part s here.sound (listed s) calm (apart_here gs accessed s t here there cut leaves) g x m n (in_filter calm (listed s) x b q) in
      (part_groups t there.sound (listed t) calm (apart_there gs accessed s t here there cut leaves) g (subst (λ l. In g l) (groups_quiet gs accessed s t here there cut leaves) p)).0

  -- After a cell the groups without an accessed name stand with their pictures, and the other bound names are accessed or were in the other groups.
  pub kept_after : IsKept gs (picture s) accessed t
  kept_after = record {
    still = λ g m e. (still_group g m e, sym (still_picture gs accessed s t here there cut leaves g m e));
    others = λ x m. elim (told _ (among_decides x accessed)) [
      | inl a ↦ inr a
      | inr n ↦ (let k = listed_found t.names x m in let b = found_listed s.names x k.0 (leaves.names x n ∙ k.1) in inl ((cut.bound x).0 b))
    ];
    one = cut.one;
  }

  pub dropped_changed : dropped_among gs (picture s) accessed t ≡ changed s t
  dropped_changed = dropped_exact gs (picture s) accessed t there.sound kept_after

  pub stored_changed : stored_among gs (picture s) accessed t ≡ changed t s
  stored_changed =
      stored_exact gs (picture s) accessed t there.sound kept_after
      ∙ filter_same (λ g. not (is_one_of g gs && is_state (picture t g) (picture s g))) (λ g. not (stands g (picture t g) s)) (groups_of t)
      (λ g m. ap (λ b. not (is_one_of g gs && b)) (turned (picture t g) (picture s g)))
    where
      turned : (p q : State) → is_state p q ≡ is_state q p
      turned p q = one_truth (is_state p q) (is_state q p) (λ e. (state_decides q p).1 (sym ((state_decides p q).0 e))) (λ e. (state_decides p q).1 (sym ((state_decides q p).0 e)))
