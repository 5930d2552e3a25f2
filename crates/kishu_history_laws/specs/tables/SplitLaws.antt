-- The classes of the touched names are those that stay and those that are stored, whatever test tells which stay; and what they take.
use Rattle.std.specs.Prelude.{◌≡◌, ◌+◌, ℕ, Bool, true, false, not, ◌&&◌, ◌⊎◌, List, [], ◌∷◌, map, filter}
use Rattle.std.specs.List.{sum_by}
use Rattle.std.proofs.lemmas.List.Sums.{sum_by-cons}
use Rattle.std.specs.Ordering.{nat_cmp, match_ordering}
use Rattle.std.specs.declared.cmp.Ordering.TheVariants.{Less, Equal, Greater}
use Rattle.std.specs.Cmp.Lexicographic.{slice_cmp}
use Rattle.std.proofs.Common.{refl, ap, sym, ◌∙◌, subst, arith, inl, inr, Ordering}
use Rattle.std.proofs.lemmas.Bool.{cases_Bool}
use Rattle.kishu_meaning.specs.values.Values.{State}
use Rattle.kishu_objects.specs.Picture.{listed}
use Rattle.kishu_objects.specs.Lists.{In, Rise}
use Rattle.kishu_objects_laws.specs.ListLaws.{in_filter, filter_in}
use Rattle.kishu_objects_laws.specs.GroupLaws.{group_is, class_in}
use Rattle.kishu_history.specs.Changed.{Group, is_one_of}
use Rattle.kishu_objects.specs.States.{IsSoundState}
use Rattle.kishu_history.specs.Tables.{Row, Table, group_in, groups_in, first_name, Change, put_row, put_rows, without_groups, after, IsTable, bytes_in, len_in}
use Rattle.kishu_history.specs.Touched.{holds_any, is_touched, touched, classes}
use Rattle.kishu_history_laws.specs.states.AlikeLaws.{not_true, and_both, both_and}
use Rattle.kishu_history_laws.specs.Choices.{one_of_decides, one_truth, in_map, rise_one, rise_chosen, filter_twice, filter_same, filter_map}
use Rattle.kishu_history_laws.specs.tables.TableLaws.{firsts_of_rows, rise_picked, groups_rise, first_inside}
use Rattle.kishu_history_laws.specs.cells.TouchLaws.{in_holds, touched_in}

module _ (gs : List Group) (rise : Rise (map first_name gs)) (one : (g h : Group) (x : List ℕ) → In g gs → In h gs → In x g → In x h → g ≡ h)
    (accessed : List (List ℕ)) (s : State) (is : IsSoundState s) (same : Group → Bool) where
  abbrev now : List Group
  now = classes gs accessed s

  -- a group that is a class, and passes the test, stays
  abbrev pub stays_by : List Group
  stays_by = filter (λ g. holds_any accessed g && (is_one_of g now && same g)) gs

  abbrev pub stored_by : List Group
  stored_by = filter (λ g. not (is_one_of g gs && same g)) now

  -- a group that is a class of the touched names holds an accessed name
  class_holds : (g : Group) → In g gs → In g now → holds_any accessed g ≡ true
  class_holds g m n =
      let i = group_is s is.sound (touched gs accessed s) g n in
      let x = first_name g in
      let h = first_inside s is.sound (touched gs accessed s) g n in
      let f = filter_in (is_touched gs accessed) (listed s) x (class_in s is.sound (touched gs accessed s) i.0 x i.1 (subst (λ z. In x z) i.2 h)) in
      elim (touched_in gs accessed x f.1) [
        | inl a ↦ in_holds accessed g x h a
        | inr k ↦ ap (holds_any accessed) (one g k.0 x m k.1 h k.3) ∙ k.2
      ]

  now_rise : Rise (map first_name now)
  now_rise = groups_rise s is.sound (touched gs accessed s) (rise_chosen (is_touched gs accessed) (listed s) is.rise)

  -- those that stay, in the order of the classes
  stays_chosen : stays_by ≡ filter (λ g. is_one_of g gs && same g) now
  stays_chosen = rise_one first_name stays_by (filter (λ g. is_one_of g gs && same g) now)
      (rise_picked first_name (λ g. holds_any accessed g && (is_one_of g now && same g)) gs rise)
      (rise_picked first_name (λ g. is_one_of g gs && same g) now now_rise)
      (λ g m.
      let f = filter_in (λ g. holds_any accessed g && (is_one_of g now && same g)) gs g m in
      let b = and_both (is_one_of g now) (same g) (and_both (holds_any accessed g) (is_one_of g now && same g) f.1).1 in
      in_filter (λ g. is_one_of g gs && same g) now g ((one_of_decides g now).0 b.0) (both_and (is_one_of g gs) (same g) ((one_of_decides g gs).1 f.0) b.1))
      (λ g m.
      let f = filter_in (λ g. is_one_of g gs && same g) now g m in
      let b = and_both (is_one_of g gs) (same g) f.1 in
      let n = (one_of_decides g gs).0 b.0 in
      in_filter (λ g. holds_any accessed g && (is_one_of g now && same g)) gs g n
      (both_and (holds_any accessed g) (is_one_of g now && same g) (class_holds g n f.0) (both_and (is_one_of g now) (same g) ((one_of_decides g now).1 f.0) b.1)))

  -- Each class stays or is stored, and none does both.
  pub classes_split : (g : Group) → In g now → In g stays_by ⊎ In g stored_by
  classes_split g m = elim (cases_Bool (is_one_of g gs && same g)) [
    | inl e ↦ inl (subst (λ l. In g l) (sym stays_chosen) (in_filter (λ g. is_one_of g gs && same g) now g m e))
    | inr e ↦ inr (in_filter (λ g. not (is_one_of g gs && same g)) now g m (ap not e))
  ]

  pub split_classes : (g : Group) → In g stays_by ⊎ In g stored_by → In g now
  split_classes g (inl m) = (filter_in (λ g. is_one_of g gs && same g) now g (subst (λ l. In g l) stays_chosen m)).0
  split_classes g (inr m) = (filter_in (λ g. not (is_one_of g gs && same g)) now g m).0

  pub not_twice : (g : Group) → In g stays_by → In g stored_by → ⊥
  not_twice g m n =
      let f = filter_in (λ g. is_one_of g gs && same g) now g (subst (λ l. In g l) stays_chosen m) in
      let h = filter_in (λ g. not (is_one_of g gs && same g)) now g n in
      not_true (sym (ap not f.1) ∙ h.1)

  sum_split : (f : Group → ℕ) (p : Group → Bool) (xs : List Group) → sum_by f (filter p xs) + sum_by f (filter (λ g. not (p g)) xs) ≡ sum_by f xs
  sum_split f p [] = refl
  sum_split f p (x ∷ xs) =
      let r = sum_split f p xs in
      let c = sum_by-cons f x xs in
      elim (cases_Bool (p x)) [
        | inl e ↦ (let d = sum_by-cons f x (filter p xs) in rw e (omega (arith, r, c, d)))
        | inr e ↦ (let d = sum_by-cons f x (filter (λ g. not (p g)) xs) in rw e (omega (arith, r, c, d)))
      ]

  -- What the classes take is what those take that stay, and those that are stored.
  pub sums_split : (f : Group → ℕ) → sum_by f stays_by + sum_by f stored_by ≡ sum_by f now
  sums_split f = (let e = ap (sum_by f) stays_chosen in let r = sum_split f (λ g. is_one_of g gs && same g) now in omega (arith, e, r))

-- ---- what a table takes

put_row_by : (r q : Row) (t : Table) (o : Ordering) → bytes_in (put_row r t) ≡ r.len + bytes_in t → bytes_in (match_ordering o (r ∷ q ∷ t) (r ∷ q ∷ t) (q ∷ put_row r t)) ≡ r.len + bytes_in (q ∷ t)
put_row_by r q t Less e = sum_by-cons len_in r (q ∷ t)
put_row_by r q t Equal e = sum_by-cons len_in r (q ∷ t)
put_row_by r q t Greater e = (let c = sum_by-cons len_in q (put_row r t) in let d = sum_by-cons len_in q t in omega (arith, e, c, d))

put_row_takes : (r : Row) (t : Table) → bytes_in (put_row r t) ≡ r.len + bytes_in t
put_row_takes r [] = sum_by-cons len_in r []
put_row_takes r (q ∷ t) = put_row_by r q t (slice_cmp nat_cmp (first_name r.group) (first_name q.group)) (put_row_takes r t)

pub put_rows_take : (rs t : Table) → bytes_in (put_rows rs t) ≡ bytes_in rs + bytes_in t
put_rows_take [] t = omega arith
put_rows_take (r ∷ rs) t = (let e = put_row_takes r (put_rows rs t) in let h = put_rows_take rs t in let c = sum_by-cons len_in r rs in omega (arith, e, h, c))

rows_split : (p : Row → Bool) (t : Table) → bytes_in (filter p t) + bytes_in (filter (λ r. not (p r)) t) ≡ bytes_in t
rows_split p [] = refl
rows_split p (r ∷ t) =
    let e = rows_split p t in
    let c = sum_by-cons len_in r t in
    elim (cases_Bool (p r)) [
      | inl h ↦ (let d = sum_by-cons len_in r (filter p t) in rw h (omega (arith, e, c, d)))
      | inr h ↦ (let d = sum_by-cons len_in r (filter (λ r. not (p r)) t) in rw h (omega (arith, e, c, d)))
    ]

-- rows that take what their groups take
pub rows_take : (f : Group → ℕ) (t : Table) → ((r : Row) → In r t → r.len ≡ f r.group) → bytes_in t ≡ sum_by f (groups_in t)
rows_take f [] h = refl
rows_take f (r ∷ t) h = (let e = rows_take f t (λ q m. h q (inr m)) in let c = sum_by-cons len_in r t in let d = sum_by-cons f r.group (groups_in t) in let k = h r (inl refl) in omega (arith, e, c, d, k))

-- After a cell the table takes what the rows without an accessed name take, and the classes of the touched names.
module _ (t : Table) (is : IsTable t) (cut : (g h : Group) (x : List ℕ) → In g (groups_in t) → In h (groups_in t) → In x g → In x h → g ≡ h) (accessed : List (List ℕ)) (s : State) (good : IsSoundState s) (same : Group → Bool)
    (f : Group → ℕ) (rows : Table) (stores : groups_in rows ≡ filter (λ g. not (is_one_of g (groups_in t) && same g)) (classes (groups_in t) accessed s))
    (new_len : (r : Row) → In r rows → r.len ≡ f r.group)
    (old_len : (r : Row) → In r t → same r.group ≡ true → r.len ≡ f r.group) where
  abbrev gs : List Group
  gs = groups_in t

  abbrev stays : Group → Bool
  stays g = holds_any accessed g && (is_one_of g (classes gs accessed s) && same g)

  abbrev goes : Group → Bool
  goes g = holds_any accessed g && not (is_one_of g (classes gs accessed s) && same g)

  abbrev pub change : Change
  change = record { dropped = filter goes gs; stored = rows }

  stays_take : bytes_in (filter (λ r. stays r.group) t) ≡ sum_by f (filter stays gs)
  stays_take =
      rows_take f (filter (λ r. stays r.group) t) (λ r m.
      let k = filter_in (λ r. stays r.group) t r m in
      old_len r k.0 (and_both (is_one_of r.group (classes gs accessed s)) (same r.group) (and_both (holds_any accessed r.group) (is_one_of r.group (classes gs accessed s) && same r.group) k.1).1).1)
      ∙ ap (sum_by f) (sym (filter_map group_in stays t))

  not_goes : without_groups change.dropped t ≡ filter (λ r. not (goes r.group)) t
  not_goes = filter_same (λ r. not (is_one_of r.group change.dropped)) (λ r. not (goes r.group)) t (λ r m. ap not (one_truth (is_one_of r.group change.dropped) (goes r.group)
      (λ e. (filter_in goes gs r.group ((one_of_decides r.group change.dropped).0 e)).1)
      (λ e. (one_of_decides r.group change.dropped).1 (in_filter goes gs r.group (in_map group_in t r m) e))))

  three : (a b : Bool) → (not (a && not b) && not a) ≡ not a
  three true true = refl
  three true false = refl
  three false b = refl

  four : (a b : Bool) → (not (a && not b) && not (not a)) ≡ (a && b)
  four true true = refl
  four true false = refl
  four false b = refl

  pub after_takes : bytes_in (after change t) ≡ bytes_in (filter (λ r. not (holds_any accessed r.group)) t) + sum_by f (classes gs accessed s)
  after_takes =
      let rise : Rise (map first_name gs) = subst (λ xs. Rise xs) (sym (firsts_of_rows t)) is.rise in
      let a = put_rows_take rows (without_groups change.dropped t) in
      let b = ap bytes_in not_goes in
      let kept = filter (λ r. not (goes r.group)) t in
      let c = rows_split (λ r. not (holds_any accessed r.group)) kept in
      let d = ap bytes_in (filter_twice (λ r. not (holds_any accessed r.group)) (λ r. not (goes r.group)) t
      ∙ filter_same (λ r. not (goes r.group) && not (holds_any accessed r.group)) (λ r. not (holds_any accessed r.group)) t (λ r m. three (holds_any accessed r.group) (is_one_of r.group (classes gs accessed s) && same r.group))) in
      let e = ap bytes_in (filter_twice (λ r. not (not (holds_any accessed r.group))) (λ r. not (goes r.group)) t
      ∙ filter_same (λ r. not (goes r.group) && not (not (holds_any accessed r.group))) (λ r. stays r.group) t (λ r m. four (holds_any accessed r.group) (is_one_of r.group (classes gs accessed s) && same r.group))) in
      let g = stays_take in
      let h = sums_split gs rise cut accessed s good same f in
      let k = rows_take f rows new_len ∙ ap (sum_by f) stores in
      omega (arith, a, b, c, d, e, g, h, k)
