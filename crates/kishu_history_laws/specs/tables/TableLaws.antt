-- Tables are right where each commit's lists are.
use Rattle.std.specs.Prelude.{◌≡◌, ℕ, Bool, true, false, not, ◌⊎◌, List, [], ◌∷◌, map, filter, flat_map}
use Rattle.std.specs.List.Sorted.{IsStrictlySortedBy}
use Rattle.std.specs.Ordering.{nat_cmp, match_ordering, is_eq, ordering_reverse}
use Rattle.std.specs.declared.cmp.Ordering.TheVariants.{Less, Equal, Greater}
use Rattle.std.specs.Cmp.Lexicographic.{slice_cmp, bytes_decides}
use Rattle.std.proofs.Common.{refl, ap, sym, ◌∙◌, subst, inl, inr, Ordering}
use Rattle.std.proofs.lemmas.Bool.{cases_Bool}
use Rattle.std.proofs.lemmas.Cmp.{nat_list_cmp_total}
use Rattle.std.proofs.lemmas.Map.Text.{is_eq-slice_cmp}
use Rattle.kishu_meaning.specs.values.Values.{State}
use Rattle.kishu_objects.specs.Picture.{picture, listed}
use Rattle.kishu_objects.specs.Groups.{class_of, begins_with, groups, groups_of}
use Rattle.kishu_objects.specs.Lists.{In, Rise, AllDiffer}
use Rattle.kishu_objects.specs.Sound.{IsSound}
use Rattle.kishu_objects_laws.specs.ListLaws.{map_in, in_filter, filter_in}
use Rattle.kishu_objects_laws.specs.NameLaws.{below_in, not_both}
use Rattle.kishu_objects_laws.specs.GroupLaws.{class_end, tests, own_group, group_is, one_group}
use Rattle.kishu_history.specs.Changed.{Group, is_one_of, stands}
use Rattle.kishu_objects.specs.States.{IsSoundState}
use Rattle.kishu_history.specs.Versions.{AreStates, Stop, at_end, version, stored, dropped, Falls}
use Rattle.kishu_history.specs.Tables.{Row, Table, group_in, groups_in, Change, first_name, first_in, put_row, put_rows, without_groups, after, table_of, AreRight, IsRight}
use Rattle.kishu_history_laws.specs.states.StateLaws.{end_state}
use Rattle.kishu_history_laws.specs.states.AlikeLaws.{not_true}
use Rattle.kishu_history_laws.specs.Choices.{one_of_decides, not_told, false_no, not_false, in_map, AllBelow}
use Rattle.kishu_history_laws.specs.versions.VersionLaws.{stands_decides, version_older, version_newest, stored_changed}
use Rattle.kishu_history_laws.specs.Choices as choices

-- ---- lists that rise

below_picked : {A : Type 0} (f : A → List ℕ) (test : A → Bool) (x : List ℕ) (ys : List A) → AllBelow x (map f ys) → AllBelow x (map f (filter test ys))
below_picked f test x [] h = tt
below_picked f test x (y ∷ ys) h = elim (cases_Bool (test y)) [ inl e ↦ rw e (h.0, below_picked f test x ys h.1) | inr e ↦ rw e (below_picked f test x ys h.1) ]

pub rise_picked : {A : Type 0} (f : A → List ℕ) (test : A → Bool) (xs : List A) → Rise (map f xs) → Rise (map f (filter test xs))
unfolding IsStrictlySortedBy
rise_picked f test [] r = r
rise_picked f test (x ∷ xs) r = elim (cases_Bool (test x)) [
  | inl e ↦ rw e (below_picked f test (f x) xs r.0, rise_picked f test xs r.1)
  | inr e ↦ rw e (rise_picked f test xs r.1)
]

pub rise_differ : (xs : List (List ℕ)) → Rise xs → AllDiffer xs
unfolding IsStrictlySortedBy
rise_differ [] r = tt
rise_differ (x ∷ xs) r = ((λ h. let l = below_in x x xs r.0 h in not_both x x l l), rise_differ xs r.1)

-- ---- the first names of groups

pub firsts_of_rows : (t : Table) → map first_name (groups_in t) ≡ map first_in t
firsts_of_rows [] = refl
firsts_of_rows (r ∷ t) = ap (λ l. first_in r ∷ l) (firsts_of_rows t)

pub first_of : (x : List ℕ) (g : Group) → begins_with x g ≡ true → first_name g ≡ x
first_of x [] e = absurd (not_true e)
first_of x (y ∷ ys) e = sym ((bytes_decides x y).0 e)

begins_in : (x : List ℕ) (g : Group) → begins_with x g ≡ true → In (first_name g) g
begins_in x [] e = absurd (not_true e)
begins_in x (y ∷ ys) e = inl refl

module _ (s : State) (sound : IsSound s) where
  pub first_inside : (of : List (List ℕ)) (g : Group) → In g (groups s of) → In (first_name g) g
  first_inside of g m = let k = group_is s sound of g m in begins_in k.0 g k.3

  firsts_chosen : (of xs : List (List ℕ)) → map first_name (flat_map (own_group s sound of) xs) ≡ filter (λ x. begins_with x (class_of s of x)) xs
  firsts_chosen of [] = refl
  firsts_chosen of (x ∷ xs) = elim (cases_Bool (begins_with x (class_of s of x))) [
    | inl e ↦ (let f = first_of x (class_of s of x) e in rw e (ap (λ y. y ∷ map first_name (flat_map (own_group s sound of) xs)) f ∙ ap (λ l. x ∷ l) (firsts_chosen of xs)))
    | inr e ↦ rw e (firsts_chosen of xs)
  ]

  pub groups_rise : (of : List (List ℕ)) → Rise of → Rise (map first_name (groups s of))
  groups_rise of r = subst (λ xs. Rise xs) (sym (firsts_chosen of of)) (choices.rise_chosen (λ x. begins_with x (class_of s of x)) of r)

-- the names of a group stand in byte order
pub class_rises : (s : State) → IsSound s → (of : List (List ℕ)) → Rise of → (g : Group) → In g (groups s of) → Rise g
class_rises s sound of r g m =
    let k = group_is s sound of g m in
    subst (λ h. Rise h) (sym (k.2 ∙ class_end s sound of k.0 k.1)) (choices.rise_chosen (tests s sound of k.0) of r)

-- ---- rows put in

row_cases : (r q s : Row) (t : Table) (o : Ordering) → (In r (put_row q t) → (r ≡ q) ⊎ In r t) → In r (match_ordering o (q ∷ s ∷ t) (q ∷ s ∷ t) (s ∷ put_row q t)) → (r ≡ q) ⊎ In r (s ∷ t)
row_cases r q s t Less rest h = h
row_cases r q s t Equal rest h = h
row_cases r q s t Greater rest (inl e) = inr (inl e)
row_cases r q s t Greater rest (inr m) = elim (rest m) [ inl e ↦ inl e | inr n ↦ inr (inr n) ]

pub put_row_in : (r q : Row) (t : Table) → In r (put_row q t) → (r ≡ q) ⊎ In r t
put_row_in r q [] h = h
put_row_in r q (s ∷ t) h = row_cases r q s t (slice_cmp nat_cmp (first_name q.group) (first_name s.group)) (put_row_in r q t) h

row_there : (r q s : Row) (t : Table) (o : Ordering) → ((r ≡ q) ⊎ In r t → In r (put_row q t)) → (r ≡ q) ⊎ In r (s ∷ t) → In r (match_ordering o (q ∷ s ∷ t) (q ∷ s ∷ t) (s ∷ put_row q t))
row_there r q s t Less rest h = h
row_there r q s t Equal rest h = h
row_there r q s t Greater rest (inl e) = inr (rest (inl e))
row_there r q s t Greater rest (inr (inl e)) = inl e
row_there r q s t Greater rest (inr (inr m)) = inr (rest (inr m))

pub in_put_row : (r q : Row) (t : Table) → (r ≡ q) ⊎ In r t → In r (put_row q t)
in_put_row r q [] h = h
in_put_row r q (s ∷ t) h = row_there r q s t (slice_cmp nat_cmp (first_name q.group) (first_name s.group)) (in_put_row r q t) h

pub put_rows_in : (r : Row) (rs t : Table) → In r (put_rows rs t) → In r rs ⊎ In r t
put_rows_in r [] t h = inr h
put_rows_in r (q ∷ rs) t h = elim (put_row_in r q (put_rows rs t) h) [ inl e ↦ inl (inl e) | inr m ↦ elim (put_rows_in r rs t m) [ inl n ↦ inl (inr n) | inr n ↦ inr n ] ]

pub in_put_rows : (r : Row) (rs t : Table) → In r rs ⊎ In r t → In r (put_rows rs t)
in_put_rows r [] t (inl h) = absurd h
in_put_rows r [] t (inr h) = h
in_put_rows r (q ∷ rs) t (inl (inl e)) = in_put_row r q (put_rows rs t) (inl e)
in_put_rows r (q ∷ rs) t (inl (inr m)) = in_put_row r q (put_rows rs t) (inr (in_put_rows r rs t (inl m)))
in_put_rows r (q ∷ rs) t (inr m) = in_put_row r q (put_rows rs t) (inr (in_put_rows r rs t (inr m)))

-- ---- the order of rows

pub less_reversed : (x y : List ℕ) → Greater ≡ slice_cmp nat_cmp x y → slice_cmp nat_cmp y x ≡ Less
less_reversed x y e = nat_list_cmp_total.antisymm y x ∙ ap ordering_reverse (sym e)

below_row : (x : List ℕ) (q s : Row) (t : Table) (o : Ordering) → slice_cmp nat_cmp x (first_in q) ≡ Less → AllBelow x (map first_in (s ∷ t)) → AllBelow x (map first_in (put_row q t)) → AllBelow x (map first_in (match_ordering o (q ∷ s ∷ t) (q ∷ s ∷ t) (s ∷ put_row q t)))
below_row x q s t Less l h rest = (l, h)
below_row x q s t Equal l h rest = (l, h)
below_row x q s t Greater l h rest = (h.0, rest)

all_below_row : (x : List ℕ) (q : Row) (t : Table) → slice_cmp nat_cmp x (first_in q) ≡ Less → AllBelow x (map first_in t) → AllBelow x (map first_in (put_row q t))
all_below_row x q [] l h = (l, tt)
all_below_row x q (s ∷ t) l h = below_row x q s t (slice_cmp nat_cmp (first_name q.group) (first_name s.group)) l h (all_below_row x q t l h.1)

pub below_more : (x y : List ℕ) (zs : List (List ℕ)) → slice_cmp nat_cmp x y ≡ Less → AllBelow y zs → AllBelow x zs
below_more x y [] l h = tt
below_more x y (z ∷ zs) l h = (nat_list_cmp_total.trans x y z l h.0, below_more x y zs l h.1)

pub equal_names : (x y : List ℕ) → Equal ≡ slice_cmp nat_cmp x y → x ≡ y
equal_names x y e = (bytes_decides x y).0 (sym (ap is_eq e ∙ is_eq-slice_cmp x y))

row_rises : (q s : Row) (t : Table) (o : Ordering) → o ≡ slice_cmp nat_cmp (first_in q) (first_in s) → Rise (map first_in (s ∷ t)) → (first_in q ≡ first_in s → ⊥) → Rise (map first_in (put_row q t)) → Rise (map first_in (match_ordering o (q ∷ s ∷ t) (q ∷ s ∷ t) (s ∷ put_row q t)))
unfolding IsStrictlySortedBy
row_rises q s t Less e r n rest = ((sym e, below_more (first_in q) (first_in s) (map first_in t) (sym e) r.0), r)
row_rises q s t Equal e r n rest = absurd (n (equal_names (first_in q) (first_in s) e))
row_rises q s t Greater e r n rest = (all_below_row (first_in s) q t (less_reversed (first_in q) (first_in s) e) r.0, rest)

put_row_rises : (q : Row) (t : Table) → Rise (map first_in t) → (In (first_in q) (map first_in t) → ⊥) → Rise (map first_in (put_row q t))
unfolding IsStrictlySortedBy
put_row_rises q [] r n = (tt, tt)
put_row_rises q (s ∷ t) r n = row_rises q s t (slice_cmp nat_cmp (first_name q.group) (first_name s.group)) refl r (λ e. n (inl e)) (put_row_rises q t r.1 (λ m. n (inr m)))

pub put_rows_rise : (rs t : Table) → Rise (map first_in t) → AllDiffer (map first_in rs) → ((r q : Row) → In r rs → In q t → first_in r ≡ first_in q → ⊥) → Rise (map first_in (put_rows rs t))
put_rows_rise [] t r d n = r
put_rows_rise (q ∷ rs) t r d n = put_row_rises q (put_rows rs t) (put_rows_rise rs t r d.1 (λ a b m k. n a b (inr m) k)) (λ m.
    let k = map_in first_in (put_rows rs t) (first_in q) m in
    elim (put_rows_in k.0 rs t k.1) [
      | inl h ↦ d.0 (subst (λ x. In x (map first_in rs)) (sym k.2) (in_map first_in rs k.0 h))
      | inr h ↦ n q k.0 (inl refl) h k.2
    ])

-- ---- the table after a commit

module _ (k : Stop) (ks : List Stop) (here : IsSoundState k.state) (before : IsSoundState (at_end ks)) (falls : Falls (k ∷ ks)) (t : Table) (right : IsRight ks t)
    (c : Change) (drops : c.dropped ≡ dropped (k ∷ ks)) (stores : groups_in c.stored ≡ stored (k ∷ ks)) (newest : (r : Row) → In r c.stored → r.version ≡ k.commit) where
  old : Table
  old = without_groups c.dropped t

  -- what stays stood before and stands now, with one picture
  stays : (r : Row) → In r (without_groups c.dropped t) → In r t × In r.group (groups_of k.state) × (stands r.group (picture k.state r.group) (at_end ks) ≡ true)
  stays r m =
      let f = filter_in (λ r. not (is_one_of r.group c.dropped)) t r m in
      let g : In r.group (groups_of (at_end ks)) = subst (λ gs. In r.group gs) right.groups (in_map group_in t r f.0) in
      let out : In r.group c.dropped → ⊥ = false_no (is_one_of r.group c.dropped) (one_of_decides r.group c.dropped) (not_false (is_one_of r.group c.dropped) f.1) in
      elim (cases_Bool (stands r.group (picture (at_end ks) r.group) k.state)) [
        | inl e ↦ (let d = (stands_decides r.group (picture (at_end ks) r.group) k.state).0 e in (f.0, d.0, (stands_decides r.group (picture k.state r.group) (at_end ks)).1 (g, sym d.1)))
        | inr e ↦ absurd (out (subst (λ gs. In r.group gs) (sym drops) (in_filter (λ g. not (stands g (picture (at_end ks) g) k.state)) (groups_of (at_end ks)) r.group g (ap not e))))
      ]

  stored_now : (g : Group) → In g (groups_in c.stored) → In g (groups_of k.state) × (stands g (picture k.state g) (at_end ks) ≡ false)
  stored_now g m =
      let f = filter_in (λ g. not (stands g (picture k.state g) (at_end ks))) (groups_of k.state) g (subst (λ gs. In g gs) (stores ∙ stored_changed k ks falls) m) in
      (f.0, not_false (stands g (picture k.state g) (at_end ks)) f.1)

  goes : (r : Row) → In r (after c t) → In r.group (groups_of k.state) × (r.version ≡ version (k ∷ ks) r.group)
  goes r m = elim (put_rows_in r c.stored (without_groups c.dropped t) m) [
    | inl h ↦ (let s = stored_now r.group (in_map group_in c.stored r h) in (s.0, newest r h ∙ sym (version_newest k ks r.group s.1)))
    | inr h ↦ (let s = stays r h in (s.1, right.versions r s.0 ∙ sym (version_older k ks r.group s.2)))
  ]

  comes : (g : Group) → In g (groups_of k.state) → In g (groups_in (after c t))
  comes g m = elim (cases_Bool (stands g (picture k.state g) (at_end ks))) [
    | inl e ↦ (
        let d = (stands_decides g (picture k.state g) (at_end ks)).0 e in
        let r = map_in group_in t g (subst (λ gs. In g gs) (sym right.groups) d.0) in
        let out : In r.0.group c.dropped → ⊥ = λ h.
        let f = filter_in (λ g. not (stands g (picture (at_end ks) g) k.state)) (groups_of (at_end ks)) g (subst (λ gs. In g gs) drops (subst (λ z. In z c.dropped) (sym r.2) h)) in
        false_no (stands g (picture (at_end ks) g) k.state) (stands_decides g (picture (at_end ks) g) k.state) (not_false (stands g (picture (at_end ks) g) k.state) f.1) (m, sym d.1) in
        let stay = in_filter (λ r. not (is_one_of r.group c.dropped)) t r.0 r.1 (ap not (not_told (is_one_of r.0.group c.dropped) (one_of_decides r.0.group c.dropped) out)) in
        subst (λ z. In z (groups_in (after c t))) (sym r.2) (in_map group_in (after c t) r.0 (in_put_rows r.0 c.stored (without_groups c.dropped t) (inr stay)))
        )
    | inr e ↦ (
        let s = in_filter (λ g. not (stands g (picture k.state g) (at_end ks))) (groups_of k.state) g m (ap not e) in
        let r = map_in group_in c.stored g (subst (λ gs. In g gs) (sym (stores ∙ stored_changed k ks falls)) s) in
        subst (λ z. In z (groups_in (after c t))) (sym r.2) (in_map group_in (after c t) r.0 (in_put_rows r.0 c.stored (without_groups c.dropped t) (inl r.1)))
        )
  ]

  apart : (r q : Row) → In r c.stored → In q (without_groups c.dropped t) → first_in r ≡ first_in q → ⊥
  apart r q m n e =
      let a = stored_now r.group (in_map group_in c.stored r m) in
      let b = stays q n in
      let g : r.group ≡ q.group = one_group k.state here.sound (listed k.state) r.group q.group (first_in r) a.0 b.1 (first_inside k.state here.sound (listed k.state) r.group a.0) (subst (λ x. In x q.group) (sym e) (first_inside k.state here.sound (listed k.state) q.group b.1)) in
      not_true (sym a.1 ∙ ap (λ g. stands g (picture k.state g) (at_end ks)) g ∙ b.2)

  rises : Rise (map first_in (after c t))
  rises =
      let old_rise : Rise (map first_in t) = subst (λ xs. Rise xs) (ap (map first_name) (sym right.groups) ∙ firsts_of_rows t) (groups_rise (at_end ks) before.sound (listed (at_end ks)) before.rise) in
      let now_rise : Rise (map first_in c.stored) = subst (λ xs. Rise xs) (ap (map first_name) (sym (stores ∙ stored_changed k ks falls)) ∙ firsts_of_rows c.stored)
      (rise_picked first_name (λ g. not (stands g (picture k.state g) (at_end ks))) (groups_of k.state) (groups_rise k.state here.sound (listed k.state) here.rise)) in
      put_rows_rise c.stored (without_groups c.dropped t) (rise_picked first_in (λ r. not (is_one_of r.group c.dropped)) t old_rise) (rise_differ (map first_in c.stored) now_rise) apart

  pub right_after : IsRight (k ∷ ks) (after c t)
  right_after = record {
    groups = choices.rise_one first_name (groups_in (after c t)) (groups_of k.state)
        (subst (λ xs. Rise xs) (sym (firsts_of_rows (after c t))) rises)
        (groups_rise k.state here.sound (listed k.state) here.rise)
        (λ g m. let r = map_in group_in (after c t) g m in subst (λ z. In z (groups_of k.state)) (sym r.2) (goes r.0 r.1).0)
        comes;
    versions = λ r m. (goes r m).1;
  }

-- Where each commit on the path drops and stores just what it has to, its table has just the groups of its state, each with its version.
pub tables_right : (ks : List Stop) (cs : List Change) → AreStates ks → Falls ks → AreRight ks cs → IsRight ks (table_of cs)
tables_right [] [] a f h = record { groups = refl; versions = λ r m. absurd m }
tables_right (k ∷ ks) (c ∷ cs) a f h = right_after k ks a.0 (end_state ks a.1) f (table_of cs) (tables_right ks cs a.1 f.1 h.3) c h.0 h.1 h.2
tables_right [] (c ∷ cs) a f h = absurd h
tables_right (k ∷ ks) [] a f h = absurd h
