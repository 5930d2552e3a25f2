-- After a cell the live state is the one that the new table tells, on every store, whatever test tells which classes of the touched names stay.
use Rattle.std.specs.Prelude.{◌≡◌, ℕ, Bool, true, false, not, ◌&&◌, ◌⊎◌, List, map, filter}
use Rattle.std.proofs.Common.{ap, sym, ◌∙◌, subst, inl, inr}
use Rattle.std.proofs.lemmas.Bool.{cases_Bool}
use Rattle.kishu_meaning.specs.values.Values.{State}
use Rattle.kishu_objects.specs.Picture.{picture, listed}
use Rattle.kishu_objects.specs.Groups.{Touch}
use Rattle.kishu_objects.specs.Lists.{In, Rise}
use Rattle.kishu_objects_laws.specs.ListLaws.{map_in, in_filter, filter_in}
use Rattle.kishu_objects_laws.specs.GroupLaws.{group_is, group_of, one_group, touch_group, class_in}
use Rattle.kishu_history.specs.Changed.{Group, is_one_of}
use Rattle.kishu_objects.specs.States.{IsSoundState}
use Rattle.kishu_history.specs.Tables.{Row, Table, group_in, groups_in, first_name, first_in, Change, without_groups, after, IsTable}
use Rattle.kishu_history.specs.Touched.{holds_any, is_touched, touched, classes}
use Rattle.kishu_history.specs.Cut.{IsCut}
use Rattle.kishu_objects.specs.Locality.{Leaves}
use Rattle.kishu_history.specs.Live.{IsLive}
use Rattle.kishu_history_laws.specs.states.AlikeLaws.{not_true, and_both, both_and}
use Rattle.kishu_history_laws.specs.Choices.{one_of_decides, not_told, false_no, not_false, in_map, rise_chosen}
use Rattle.kishu_history_laws.specs.tables.TableLaws.{class_rises, first_inside, rise_picked, rise_differ, firsts_of_rows, groups_rise, put_rows_in, in_put_rows, put_rows_rise}
use Rattle.kishu_history_laws.specs.cells.LeavesLaws.{still_picture, bound_there, bound_here, quiet_group, group_quiet, path_quiet, apart_there}
use Rattle.kishu_history_laws.specs.checkouts.CheckoutLaws.{live_cut}
use Rattle.kishu_history_laws.specs.checkouts.PlanLaws.{one_row}

module _ (at : Row → State → Type 0) (t : Table) (is : IsTable t) (s u : State) (live : IsLive at t s) (there : IsSoundState u) (accessed : List (List ℕ)) (leaves : Leaves accessed s u)
    (same : Group → Bool) (standing : (r : Row) → In r t → In r.group (classes (groups_in t) accessed u) → same r.group ≡ true → at r (picture u r.group)) where
  abbrev gs : List Group
  gs = groups_in t

  abbrev now : List Group
  now = classes gs accessed u

  cut : IsCut gs s
  cut = live_cut at t s is live

  abbrev calm : List ℕ → Bool
  calm x = not (is_touched gs accessed x)

  -- a group that is a class and passes the test
  abbrev is_same : Group → Bool
  is_same g = is_one_of g now && same g

  module _ (rows : Table) (stores : groups_in rows ≡ filter (λ g. not (is_one_of g gs && same g)) now)
      (new : (r : Row) → In r rows → at r (picture u r.group)) where
    abbrev drops : List Group
    drops = filter (λ g. holds_any accessed g && not (is_same g)) gs

    abbrev change : Change
    change = record { dropped = drops; stored = rows }

    rows_rise : Rise (map first_in rows)
    rows_rise = subst (λ xs. Rise xs) (ap (map first_name) (sym stores) ∙ firsts_of_rows rows)
        (rise_picked first_name (λ g. not (is_one_of g gs && same g)) now (groups_rise u there.sound (touched gs accessed u) (rise_chosen (is_touched gs accessed) (listed u) there.rise)))

    -- the two kinds of row: one that isn't touched, and one that is a class of the touched names; a class is stored, or stays
    abbrev IsCalm : Row → Type 0
    IsCalm r = In r t × (holds_any accessed r.group ≡ false)

    abbrev IsClass : Row → Type 0
    IsClass r = In r.group now × ((In r rows × (In r.group gs → same r.group ≡ true → ⊥)) ⊎ (In r t × (same r.group ≡ true)))

    stored_kind : (r : Row) → In r rows → In r.group now × (In r.group gs → same r.group ≡ true → ⊥)
    stored_kind r m =
        let f = filter_in (λ g. not (is_one_of g gs && same g)) now r.group (subst (λ l. In r.group l) stores (in_map group_in rows r m)) in
        let n = not_false (is_one_of r.group gs && same r.group) f.1 in
        (f.0, λ a e. not_true (sym n ∙ both_and (is_one_of r.group gs) (same r.group) ((one_of_decides r.group gs).1 a) e))

    kind_of_old : (r : Row) → In r t → (In r.group drops → ⊥) → IsCalm r ⊎ (In r.group now × (same r.group ≡ true))
    kind_of_old r m n = elim (cases_Bool (holds_any accessed r.group)) [
      | inr e ↦ inl (m, e)
      | inl e ↦ elim (cases_Bool (is_same r.group)) [
        | inl h ↦ (
            let b = and_both (is_one_of r.group now) (same r.group) h in
            inr ((one_of_decides r.group now).0 b.0, b.1)
            )
        | inr h ↦ absurd (n (in_filter (λ g. holds_any accessed g && not (is_same g)) gs r.group (in_map group_in t r m) (both_and (holds_any accessed r.group) (not (is_same r.group)) e (ap not h))))
      ]
    ]

    kind : (r : Row) → In r (after change t) → IsCalm r ⊎ IsClass r
    kind r m = elim (put_rows_in r rows (without_groups drops t) m) [
      | inl h ↦ (let c = stored_kind r h in inr (c.0, inl (h, c.1)))
      | inr h ↦ (
          let f = filter_in (λ r. not (is_one_of r.group drops)) t r h in
          elim (kind_of_old r f.0 (false_no (is_one_of r.group drops) (one_of_decides r.group drops) (not_false (is_one_of r.group drops) f.1))) [
            | inl c ↦ inl c
            | inr c ↦ inr (c.0, inr (f.0, c.1))
          ]
          )
    ]

    stays : (r : Row) → In r t → (In r.group drops → ⊥) → In r (after change t)
    stays r m n = in_put_rows r rows (without_groups drops t) (inr (in_filter (λ r. not (is_one_of r.group drops)) t r m (ap not (not_told (is_one_of r.group drops) (one_of_decides r.group drops) n))))

    calm_stays : (r : Row) → IsCalm r → In r (after change t)
    calm_stays r c = stays r c.0 (λ h.
        let f = filter_in (λ g. holds_any accessed g && not (is_same g)) gs r.group h in
        not_true (sym c.1 ∙ (and_both (holds_any accessed r.group) (not (is_same r.group)) f.1).0))

    class_stands : (g : Group) → In g now → (r : Row) × In r (after change t) × (g ≡ r.group)
    class_stands g m = elim (cases_Bool (is_one_of g gs && same g)) [
      | inl e ↦ (
          let b = and_both (is_one_of g gs) (same g) e in
          let r = map_in group_in t g ((one_of_decides g gs).0 b.0) in
          let same : is_same g ≡ true = both_and (is_one_of g now) (same g) ((one_of_decides g now).1 m) b.1 in (
            r.0,
            stays r.0 r.1 (λ h.
                let f = filter_in (λ g. holds_any accessed g && not (is_same g)) gs g (subst (λ z. In z drops) (sym r.2) h) in
                not_true (sym (not_false (is_same g) (and_both (holds_any accessed g) (not (is_same g)) f.1).1) ∙ same)),
            r.2,
          )
          )
      | inr e ↦ (
          let r = map_in group_in rows g (subst (λ l. In g l) (sym stores) (in_filter (λ g. not (is_one_of g gs && same g)) now g m (ap not e))) in
          (r.0, in_put_rows r.0 rows (without_groups drops t) (inl r.1), r.2)
          )
    ]

    -- ---- names

    calm_name : (r : Row) (x : List ℕ) → IsCalm r → In x r.group → (calm x ≡ true) × In x (listed u)
    calm_name r x c m =
        let n = in_map group_in t r c.0 in
        let q = group_quiet gs accessed s u live.state there cut leaves r.group x n c.1 m in
        (q, bound_there gs accessed s u live.state there cut leaves x q ((cut.bound x).1 (r.group, n, m)))

    class_name : (g : Group) (x : List ℕ) → In g now → In x g → (calm x ≡ false) × In x (listed u)
    class_name g x m n =
        let i = group_is u there.sound (touched gs accessed u) g m in
        let f = filter_in (is_touched gs accessed) (listed u) x (class_in u there.sound (touched gs accessed u) i.0 x i.1 (subst (λ h. In x h) i.2 n)) in
        (ap not f.1, f.0)

    first_class : (g : Group) → In g now → In (first_name g) g
    first_class g m = first_inside u there.sound (touched gs accessed u) g m

    -- ---- rows that share a name or a node are one

    calm_calm : (r q : Row) (x y : List ℕ) → IsCalm r → IsCalm q → In x r.group → In y q.group → Touch u x y → r ≡ q
    calm_calm r q x y c d m n touch =
        let a = (calm_name r x c m).0 in
        let b = (calm_name q y d n).0 in
        live.apart r q x y c.0 d.0 m n (
          touch.0,
          (touch.1.0, path_quiet gs accessed s u live.state there cut leaves x touch.1.0 a ∙ touch.1.1),
          (touch.2.0, path_quiet gs accessed s u live.state there cut leaves y touch.2.0 b ∙ touch.2.1),
        )

    one_class_row : (r q : Row) → IsClass r → IsClass q → r.group ≡ q.group → r ≡ q
    one_class_row r q c d e = elim c.1 [
      | inl a ↦ elim d.1 [
        | inl b ↦ one_row rows rows_rise r q a.0 b.0 (ap first_name e)
        | inr b ↦ absurd (a.1 (subst (λ g. In g gs) (sym e) (in_map group_in t q b.0)) (subst (λ g. same g ≡ true) (sym e) b.1))
      ]
      | inr a ↦ elim d.1 [
        | inl b ↦ absurd (b.1 (subst (λ g. In g gs) e (in_map group_in t r a.0)) (subst (λ g. same g ≡ true) e a.1))
        | inr b ↦ is.one r q (first_in r) a.0 b.0 (is.full r a.0) (subst (λ g. In (first_in r) g) e (is.full r a.0))
      ]
    ]

    class_class : (r q : Row) (x : List ℕ) → IsClass r → IsClass q → In x r.group → In x q.group → r ≡ q
    class_class r q x c d m n = one_class_row r q c d (one_group u there.sound (touched gs accessed u) r.group q.group x c.0 d.0 m n)

    calm_class : (r q : Row) (x y : List ℕ) → IsCalm r → IsClass q → In x r.group → In y q.group → Touch u x y → ⊥
    calm_class r q x y c d m n touch =
        let a = calm_name r x c m in
        let b = class_name q.group y d.0 n in
        apart_there gs accessed s u live.state there cut leaves x y a.1 b.1 a.0 b.0 touch

    different : (x : List ℕ) → calm x ≡ true → calm x ≡ false → ⊥
    different x a b = not_true (sym b ∙ a)

    one_name : (r q : Row) (x : List ℕ) → In r (after change t) → In q (after change t) → In x r.group → In x q.group → r ≡ q
    one_name r q x m n a b = elim (kind r m) [
      | inl c ↦ elim (kind q n) [
        | inl d ↦ is.one r q x c.0 d.0 a b
        | inr d ↦ absurd (different x (calm_name r x c a).0 (class_name q.group x d.0 b).0)
      ]
      | inr c ↦ elim (kind q n) [
        | inl d ↦ absurd (different x (calm_name q x d b).0 (class_name r.group x c.0 a).0)
        | inr d ↦ class_class r q x c d a b
      ]
    ]

    names_after : (r : Row) → In r (after change t) → In (first_in r) r.group
    names_after r m = elim (kind r m) [ inl c ↦ is.full r c.0 | inr c ↦ first_class r.group c.0 ]

    both_kinds : (r : Row) → In r rows → In r (without_groups drops t) → ⊥
    both_kinds r m n =
        let f = filter_in (λ r. not (is_one_of r.group drops)) t r n in
        let c = stored_kind r m in
        elim (kind_of_old r f.0 (false_no (is_one_of r.group drops) (one_of_decides r.group drops) (not_false (is_one_of r.group drops) f.1))) [
          | inl d ↦ (let x = first_in r in let h = is.full r f.0 in different x (calm_name r x d h).0 (class_name r.group x c.0 h).0)
          | inr d ↦ c.1 (in_map group_in t r f.0) d.1
        ]

    pub table_after : IsTable (after change t)
    table_after = record {
      rise = put_rows_rise rows (without_groups drops t) (rise_picked first_in (λ r. not (is_one_of r.group drops)) t is.rise)
          (rise_differ (map first_in rows) rows_rise)
          (λ r q m n e.
          let a = in_put_rows r rows (without_groups drops t) (inl m) in
          let b = in_put_rows q rows (without_groups drops t) (inr n) in
          let f : r ≡ q = one_name r q (first_in r) a b (names_after r a) (subst (λ x. In x q.group) (sym e) (names_after q b)) in
          both_kinds r m (subst (λ z. In z (without_groups drops t)) (sym f) n));
      full = names_after;
      ordered = λ r m. elim (kind r m) [ inl c ↦ is.ordered r c.0 | inr c ↦ class_rises u there.sound (touched gs accessed u) (rise_chosen (is_touched gs accessed) (listed u) there.rise) r.group c.0 ];
      one = one_name;
    }

    pub live_after : IsLive at (after change t) u
    live_after = record {
      state = there;
      bound = λ x. (
        λ m. elim (cases_Bool (is_touched gs accessed x)) [
          | inl e ↦ (
              let g = group_of u there.sound (touched gs accessed u) x (in_filter (is_touched gs accessed) (listed u) x m e) in
              let r = class_stands g.0 g.1 in
              (r.0, r.1, subst (λ h. In x h) r.2 g.2)
              )
          | inr e ↦ (
              let q : calm x ≡ true = ap not e in
              let g = quiet_group gs accessed s u live.state there cut leaves x q (bound_here gs accessed s u live.state there cut leaves x q m) in
              let r = map_in group_in t g.0 g.1 in
              (r.0, calm_stays r.0 (r.1, subst (λ h. holds_any accessed h ≡ false) r.2 g.3), subst (λ h. In x h) r.2 g.2)
              )
        ],
        λ k. elim (kind k.0 k.1) [ inl c ↦ (calm_name k.0 x c k.2).1 | inr c ↦ (class_name k.0.group x c.0 k.2).1 ],
      );
      apart = λ r q x y m n a b touch. elim (kind r m) [
        | inl c ↦ elim (kind q n) [
          | inl d ↦ calm_calm r q x y c d a b touch
          | inr d ↦ absurd (calm_class r q x y c d a b touch)
        ]
        | inr c ↦ elim (kind q n) [
          | inl d ↦ absurd (calm_class q r y x d c b a (touch.0, touch.2, touch.1))
          | inr d ↦ (
              let v : In y (touched gs accessed u) = in_filter (is_touched gs accessed) (listed u) y (class_name q.group y d.0 b).1 (not_calm y (class_name q.group y d.0 b).0) in
              class_class r q y c d (touch_group u there.sound (touched gs accessed u) r.group x y c.0 a v touch) b
              )
        ]
      ];
      pictures = λ r m. elim (kind r m) [
        | inl c ↦ subst (λ p. at r p) (still_picture gs accessed s u live.state there cut leaves r.group (in_map group_in t r c.0) c.1) (live.pictures r c.0)
        | inr c ↦ elim c.1 [
          | inl a ↦ new r a.0
          | inr a ↦ standing r a.0 c.0 a.1
        ]
      ];
    }
      where
        not_calm : (x : List ℕ) → calm x ≡ false → is_touched gs accessed x ≡ true
        not_calm x e = elim (cases_Bool (is_touched gs accessed x)) [ inl h ↦ h | inr h ↦ absurd (not_true (sym e ∙ ap not h)) ]

    -- Each row of the new table was just stored, or has the picture that it had, or is a class that passes the test.
    pub row_kind : (r : Row) → In r (after change t) → In r rows ⊎ ((picture u r.group ≡ picture s r.group) ⊎ (In r.group now × (same r.group ≡ true)))
    row_kind r m = elim (kind r m) [
      | inl c ↦ inr (inl (sym (still_picture gs accessed s u live.state there cut leaves r.group (in_map group_in t r c.0) c.1)))
      | inr c ↦ elim c.1 [ inl a ↦ inl a.0 | inr a ↦ inr (inr (c.0, a.1)) ]
    ]

    -- The two lists stand in the order of their first names.
    pub stored_rise : Rise (map first_in rows)
    stored_rise = rows_rise

    pub dropped_rise : Rise (map first_name drops)
    dropped_rise = rise_picked first_name (λ g. holds_any accessed g && not (is_same g)) gs (subst (λ xs. Rise xs) (sym (firsts_of_rows t)) is.rise)
