-- What is told among the touched names is exact against the whole state.
use Rattle.std.specs.Prelude.{◌≡◌, ℕ, Bool, true, false, not, ◌&&◌, ◌||◌, ◌⊎◌, if◌then◌else◌, List, [], ◌∷◌, ◌++◌, filter, flat_map}
use Rattle.std.specs.List.{list_any}
use Rattle.std.proofs.Common.{refl, ap, sym, ◌∙◌, subst, inl, inr}
use Rattle.std.proofs.lemmas.Bool.{cases_Bool}
use Rattle.kishu_language.specs.tokens.Names.{is_among}
use Rattle.kishu_meaning.specs.values.Values.{State}
use Rattle.kishu_objects.specs.Picture.{picture, listed}
use Rattle.kishu_objects.specs.Groups.{Touch, class_of, begins_with, groups, groups_of}
use Rattle.kishu_objects.specs.Lists.{In}
use Rattle.kishu_objects.specs.Sound.{IsSound}
use Rattle.kishu_objects_laws.specs.ListLaws.{in_filter}
use Rattle.kishu_objects_laws.specs.GroupLaws.{own_group, group_is, one_group, touch_group, class_in}
use Rattle.kishu_objects_laws.specs.PartLaws.{class_part, part_groups, groups_part}
use Rattle.kishu_history.specs.Alike.{is_state}
use Rattle.kishu_history.specs.Changed.{Group, is_one_of, stands}
use Rattle.kishu_history.specs.Tables.{first_name}
use Rattle.kishu_history.specs.Touched.{holds_any, is_touched, classes, dropped_among, stored_among, IsKept}
use Rattle.kishu_history_laws.specs.states.AlikeLaws.{not_true, state_decides, both_and, and_both}
use Rattle.kishu_history_laws.specs.Choices.{any_in, in_any, one_of_decides, among_decides, filter_same, filter_twice, one_truth}
use Rattle.kishu_history_laws.specs.tables.TableLaws.{first_of, first_inside}
use Rattle.kishu_history_laws.specs.versions.VersionLaws.{stands_decides}

-- ---- tests on touched names

pub holds_in : (accessed : List (List ℕ)) (g : Group) → holds_any accessed g ≡ true → (a : List ℕ) × In a g × In a accessed
holds_in accessed g e = (let k = any_in (λ x. is_among x accessed) g e in (k.0, k.1, (among_decides k.0 accessed).0 k.2))

pub in_holds : (accessed : List (List ℕ)) (g : Group) (a : List ℕ) → In a g → In a accessed → holds_any accessed g ≡ true
in_holds accessed g a m n = in_any (λ x. is_among x accessed) g a m ((among_decides a accessed).1 n)

or_cases : (a b : Bool) → (a || b) ≡ true → (a ≡ true) ⊎ (b ≡ true)
or_cases true b e = inl refl
or_cases false b e = inr e

or_left : (a b : Bool) → a ≡ true → (a || b) ≡ true
or_left a b e = rw e refl

or_right : (a b : Bool) → b ≡ true → (a || b) ≡ true
or_right true b e = refl
or_right false b e = e

module _ (gs : List Group) (accessed : List (List ℕ)) where
  pub touched_in : (x : List ℕ) → is_touched gs accessed x ≡ true → In x accessed ⊎ ((g : Group) × In g gs × (holds_any accessed g ≡ true) × In x g)
  touched_in x e = elim (or_cases (is_among x accessed) (list_any (λ g. holds_any accessed g && is_among x g) gs) e) [
    | inl h ↦ inl ((among_decides x accessed).0 h)
    | inr h ↦ (let k = any_in (λ g. holds_any accessed g && is_among x g) gs h in let b = and_both (holds_any accessed k.0) (is_among x k.0) k.2 in inr (k.0, k.1, b.0, (among_decides x k.0).0 b.1))
  ]

  pub accessed_touched : (x : List ℕ) → In x accessed → is_touched gs accessed x ≡ true
  accessed_touched x m = or_left (is_among x accessed) (list_any (λ g. holds_any accessed g && is_among x g) gs) ((among_decides x accessed).1 m)

  pub group_touched : (g : Group) (x : List ℕ) → In g gs → holds_any accessed g ≡ true → In x g → is_touched gs accessed x ≡ true
  group_touched g x m e n =
      or_right (is_among x accessed) (list_any (λ g. holds_any accessed g && is_among x g) gs)
      (in_any (λ g. holds_any accessed g && is_among x g) gs g m (both_and (holds_any accessed g) (is_among x g) e ((among_decides x g).1 n)))

  pub untouched_holds : (g : Group) (x : List ℕ) → In g gs → In x g → is_touched gs accessed x ≡ false → holds_any accessed g ≡ false
  untouched_holds g x m n e = elim (cases_Bool (holds_any accessed g)) [ inl h ↦ absurd (not_true (sym e ∙ group_touched g x m h n)) | inr h ↦ h ]

-- ---- the groups of a part are chosen from all groups

module _ (s : State) (sound : IsSound s) (of : List (List ℕ)) (test : List ℕ → Bool)
    (apart : (x y : List ℕ) → In x of → In y of → test x ≡ true → test y ≡ false → Touch s x y → ⊥) where
  own_chosen : (x : List ℕ) → In x of → (b : Bool) → test x ≡ b → filter (λ g. test (first_name g)) (own_group s sound of x) ≡ (if b then own_group s sound (filter test of) x else [])
  own_chosen x m true e = elim (cases_Bool (begins_with x (class_of s of x))) [
    | inl h ↦ (
        let c = class_part s sound of test apart x (in_filter test of x m e) in
        let f : test (first_name (class_of s of x)) ≡ true = ap test (first_of x (class_of s of x) h) ∙ e in
        let k : begins_with x (class_of s (filter test of) x) ≡ true = ap (begins_with x) (sym c) ∙ h in
        rw h (rw f (rw k (ap (λ g. g ∷ []) c)))
        )
    | inr h ↦ (
        let c = class_part s sound of test apart x (in_filter test of x m e) in
        let k : begins_with x (class_of s (filter test of) x) ≡ false = ap (begins_with x) (sym c) ∙ h in
        rw h (rw k refl)
        )
  ]
  own_chosen x m false e = elim (cases_Bool (begins_with x (class_of s of x))) [
    | inl h ↦ (let f : test (first_name (class_of s of x)) ≡ false = ap test (first_of x (class_of s of x) h) ∙ e in rw h (rw f refl))
    | inr h ↦ rw h refl
  ]

  filter_append : (p : Group → Bool) (xs ys : List Group) → filter p (xs ++ ys) ≡ filter p xs ++ filter p ys
  filter_append p [] ys = refl
  filter_append p (x ∷ xs) ys = elim (cases_Bool (p x)) [ inl e ↦ rw e (ap (λ l. x ∷ l) (filter_append p xs ys)) | inr e ↦ rw e (filter_append p xs ys) ]

  part_from : (xs : List (List ℕ)) → ((x : List ℕ) → In x xs → In x of) → filter (λ g. test (first_name g)) (flat_map (own_group s sound of) xs) ≡ flat_map (own_group s sound (filter test of)) (filter test xs)
  part_from [] h = refl
  part_from (x ∷ xs) h =
      let rest = part_from xs (λ y m. h y (inr m)) in
      let split = filter_append (λ g. test (first_name g)) (own_group s sound of x) (flat_map (own_group s sound of) xs) in
      elim (cases_Bool (test x)) [
        | inl e ↦ rw e (split ∙ ap (λ l. l ++ filter (λ g. test (first_name g)) (flat_map (own_group s sound of) xs)) (own_chosen x (h x (inl refl)) true e) ∙ ap (λ l. own_group s sound (filter test of) x ++ l) rest)
        | inr e ↦ rw e (split ∙ ap (λ l. l ++ filter (λ g. test (first_name g)) (flat_map (own_group s sound of) xs)) (own_chosen x (h x (inl refl)) false e) ∙ rest)
      ]

  pub part_chosen : filter (λ g. test (first_name g)) (groups s of) ≡ groups s (filter test of)
  part_chosen = part_from of (λ x m. m)

-- ---- exact against the whole state

module _ (gs : List Group) (pic : Group → State) (accessed : List (List ℕ)) (s : State) (sound : IsSound s) (kept : IsKept gs pic accessed s) where
  abbrev test : List ℕ → Bool
  test = is_touched gs accessed

  -- the group of a name that isn't touched
  pub own : (x : List ℕ) → In x (listed s) → test x ≡ false → (g : Group) × In g gs × In x g × (holds_any accessed g ≡ false) × In g (groups_of s)
  own x m e = elim (kept.others x m) [
    | inl k ↦ (let h = untouched_holds gs accessed k.0 x k.1 k.2 e in (k.0, k.1, k.2, h, (kept.still k.0 k.1 h).0))
    | inr a ↦ absurd (not_true (sym e ∙ accessed_touched gs accessed x a))
  ]

  pub no_touch : (x y : List ℕ) → In x (listed s) → In y (listed s) → test x ≡ true → test y ≡ false → Touch s x y → ⊥
  no_touch x y m n e f t =
      let g = own y n f in
      let h : In x g.0 = touch_group s sound (listed s) g.0 y x g.4 g.2 m (t.0, t.2, t.1) in
      elim (touched_in gs accessed x e) [
        | inl a ↦ not_true (sym g.3 ∙ in_holds accessed g.0 x h a)
        | inr k ↦ not_true (sym g.3 ∙ ap (holds_any accessed) (kept.one g.0 k.0 x g.1 k.1 h k.3) ∙ k.2)
      ]

  pub class_group : (g : Group) → In g (classes gs accessed s) → In g (groups_of s)
  class_group g m = (part_groups s sound (listed s) test no_touch g m).0

  group_class : (g : Group) (x : List ℕ) → In g (groups_of s) → In x g → test x ≡ true → In g (classes gs accessed s)
  group_class g x m n e = groups_part s sound (listed s) test no_touch g x m n (in_filter test (listed s) x (bound_in g x m n) e)
    where
      bound_in : (g : Group) (x : List ℕ) → In g (groups_of s) → In x g → In x (listed s)
      bound_in g x m n = let k = group_is s sound (listed s) g m in class_in s sound (listed s) k.0 x k.1 (subst (λ h. In x h) k.2 n)

  pub dropped_exact : dropped_among gs pic accessed s ≡ filter (λ g. not (stands g (pic g) s)) gs
  dropped_exact = filter_same (λ g. holds_any accessed g && not (is_one_of g (classes gs accessed s) && is_state (picture s g) (pic g))) (λ g. not (stands g (pic g) s)) gs each
    where
      each : (g : Group) → In g gs → (holds_any accessed g && not (is_one_of g (classes gs accessed s) && is_state (picture s g) (pic g))) ≡ not (stands g (pic g) s)
      each g m = elim (cases_Bool (holds_any accessed g)) [
        | inl e ↦ (
            let a = holds_in accessed g e in
            let same : is_one_of g (classes gs accessed s) ≡ is_one_of g (groups_of s) = one_truth (is_one_of g (classes gs accessed s)) (is_one_of g (groups_of s))
            (λ h. (one_of_decides g (groups_of s)).1 (class_group g ((one_of_decides g (classes gs accessed s)).0 h)))
            (λ h. (one_of_decides g (classes gs accessed s)).1 (group_class g a.0 ((one_of_decides g (groups_of s)).0 h) a.1 (accessed_touched gs accessed a.0 a.2))) in
            rw e (ap (λ b. not (b && is_state (picture s g) (pic g))) same)
            )
        | inr e ↦ (let k = kept.still g m e in let f = (stands_decides g (pic g) s).1 k in rw e (rw f refl))
      ]

  abbrev is_new : Group → Bool
  is_new g = not (is_one_of g gs && is_state (picture s g) (pic g))

  pub stored_exact : stored_among gs pic accessed s ≡ filter (λ g. not (is_one_of g gs && is_state (picture s g) (pic g))) (groups_of s)
  stored_exact =
      ap (filter is_new) (sym (part_chosen s sound (listed s) test no_touch))
      ∙ filter_twice is_new (λ g. test (first_name g)) (groups_of s)
      ∙ filter_same (λ g. test (first_name g) && is_new g) is_new (groups_of s) each
    where
      each : (g : Group) → In g (groups_of s) → (test (first_name g) && not (is_one_of g gs && is_state (picture s g) (pic g))) ≡ not (is_one_of g gs && is_state (picture s g) (pic g))
      each g m = elim (cases_Bool (test (first_name g))) [
        | inl e ↦ rw e refl
        | inr e ↦ (
            let i = group_is s sound (listed s) g m in
            let n = first_inside s sound (listed s) g m in
            let b = class_in s sound (listed s) i.0 (first_name g) i.1 (subst (λ h. In (first_name g) h) i.2 n) in
            let k = own (first_name g) b e in
            let f : g ≡ k.0 = one_group s sound (listed s) g k.0 (first_name g) m k.4 n k.2 in
            let p = (kept.still k.0 k.1 k.3).1 in
            let a : is_one_of g gs ≡ true = (one_of_decides g gs).1 (subst (λ h. In h gs) (sym f) k.1) in
            let c : is_state (picture s g) (pic g) ≡ true = (state_decides (picture s g) (pic g)).1 (subst (λ h. picture s h ≡ pic h) (sym f) p) in
            rw e (rw (a, c) refl)
            )
      ]

  -- Each group of the state is stored, or has the picture that was kept for it.
  pub group_kept : (g : Group) → In g (groups_of s) → In g (stored_among gs pic accessed s) ⊎ (In g gs × (picture s g ≡ pic g))
  group_kept g m = elim (cases_Bool (is_one_of g gs && is_state (picture s g) (pic g))) [
    | inl e ↦ (let b = and_both (is_one_of g gs) (is_state (picture s g) (pic g)) e in inr ((one_of_decides g gs).0 b.0, (state_decides (picture s g) (pic g)).0 b.1))
    | inr e ↦ inl (subst (λ l. In g l) (sym stored_exact) (in_filter is_new (groups_of s) g m (ap not e)))
  ]
