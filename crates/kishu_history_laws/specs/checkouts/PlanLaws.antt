-- Between right tables the rows to keep, to load and to drop are just the groups that are kept, loaded and left; and tables of one list of records are tables of one graph.
use Rattle.std.specs.Prelude.{◌≡◌, ◌<◌, ℕ, ◌==◌, not, ◌&&◌, List, [], ◌∷◌, map, filter}
use Rattle.std.specs.Bool.{Decides}
use Rattle.std.specs.List.Sorted.{IsStrictlySortedBy}
use Rattle.std.specs.Ordering.{nat_cmp}
use Rattle.std.specs.declared.cmp.Ordering.TheVariants.{Less}
use Rattle.std.specs.Cmp.Lexicographic.{slice_cmp}
use Rattle.std.proofs.Common.{ap, sym, ◌∙◌, subst, arith, inl, inr}
use Rattle.std.proofs.lemmas.Bool.Decides.{Decides-eqb, same_from_decides}
use Rattle.kishu_objects.specs.Lists.{In, Rise}
use Rattle.kishu_objects.specs.Picture.{listed}
use Rattle.kishu_objects_laws.specs.ListLaws.{map_in, filter_in}
use Rattle.kishu_objects_laws.specs.NameLaws.{below_in, not_both}
use Rattle.kishu_objects_laws.specs.GroupLaws.{one_group}
use Rattle.kishu_objects.specs.Groups.{groups_of}
use Rattle.kishu_history.specs.Changed.{Group, is_one_of}
use Rattle.kishu_objects.specs.States.{IsSoundState}
use Rattle.kishu_history.specs.Versions.{Stop, at_end, version, is_kept, kept, loaded, left}
use Rattle.kishu_history.specs.Tables.{Row, Table, group_in, groups_in, first_name, first_in, Change, without_groups, after, IsRight, IsTable, AreOfOne}
use Rattle.kishu_history.specs.Checkout.{agree, is_row_of, to_keep, to_load, to_drop}
use Rattle.kishu_history_laws.specs.states.AlikeLaws.{by_two}
use Rattle.kishu_history_laws.specs.Choices.{one_of_decides, filter_same, filter_map, in_map, in_any}
use Rattle.kishu_history_laws.specs.tables.TableLaws.{class_rises, rise_picked, rise_differ, firsts_of_rows, groups_rise, first_inside, put_rows_in, in_put_rows, put_rows_rise}
use Rattle.kishu_history_laws.specs.checkouts.CheckoutLaws.{agree_decides, row_of}

kept_decides : (h c : List Stop) (g : Group) → Decides (is_kept h c g) (In g (groups_of (at_end h)) × (In g (groups_of (at_end c)) × (version h g ≡ version c g)))
kept_decides h c g =
    by_two {R = In g (groups_of (at_end h)) × (In g (groups_of (at_end c)) × (version h g ≡ version c g))} (is_one_of g (groups_of (at_end h))) (is_one_of g (groups_of (at_end c)) && (version h g == version c g)) (one_of_decides g (groups_of (at_end h)))
    (by_two {R = In g (groups_of (at_end c)) × (version h g ≡ version c g)} (is_one_of g (groups_of (at_end c))) (version h g == version c g) (one_of_decides g (groups_of (at_end c))) (Decides-eqb (version h g) (version c g)) (λ a b. (a, b)) (λ r. r.0) (λ r. r.1))
    (λ a b. (a, b)) (λ r. r.0) (λ r. r.1)

module _ (h c : List Stop) (t u : Table) (here : IsRight h t) (there : IsRight c u) where
  group_h : (r : Row) → In r t → In r.group (groups_of (at_end h))
  group_h r m = subst (λ l. In r.group l) here.groups (in_map group_in t r m)

  group_c : (r : Row) → In r u → In r.group (groups_of (at_end c))
  group_c r m = subst (λ l. In r.group l) there.groups (in_map group_in u r m)

  target_kept : (r : Row) → In r u → is_row_of t r ≡ is_kept h c r.group
  target_kept r m = same_from_decides (is_row_of t r) (is_kept h c r.group) (
    (λ e. let q = row_of t r e in (subst (λ g. In g (groups_of (at_end h))) (sym q.2) (group_h q.0 q.1), (group_c r m, ap (version h) q.2 ∙ sym (here.versions q.0 q.1) ∙ sym q.3 ∙ there.versions r m))),
    (λ k. let q = map_in group_in t r.group (subst (λ l. In r.group l) (sym here.groups) k.0) in in_any (agree r) t q.0 q.1 ((agree_decides r q.0).1 (q.2, there.versions r m ∙ sym k.1.1 ∙ ap (version h) q.2 ∙ sym (here.versions q.0 q.1)))),
  ) (kept_decides h c r.group)

  current_kept : (r : Row) → In r t → is_row_of u r ≡ is_kept h c r.group
  current_kept r m = same_from_decides (is_row_of u r) (is_kept h c r.group) (
    (λ e. let q = row_of u r e in (group_h r m, (subst (λ g. In g (groups_of (at_end c))) (sym q.2) (group_c q.0 q.1), sym (here.versions r m) ∙ q.3 ∙ there.versions q.0 q.1 ∙ ap (version c) (sym q.2)))),
    (λ k. let q = map_in group_in u r.group (subst (λ l. In r.group l) (sym there.groups) k.1.0) in in_any (agree r) u q.0 q.1 ((agree_decides r q.0).1 (q.2, here.versions r m ∙ k.1.1 ∙ ap (version c) q.2 ∙ sym (there.versions q.0 q.1)))),
  ) (kept_decides h c r.group)

  pub keeps_kept : groups_in (to_keep t u) ≡ kept h c
  keeps_kept = ap (map group_in) (filter_same (λ r. is_row_of t r) (λ r. is_kept h c r.group) u target_kept) ∙ sym (filter_map group_in (is_kept h c) u) ∙ ap (filter (is_kept h c)) there.groups

  pub loads_loaded : groups_in (to_load t u) ≡ loaded h c
  loads_loaded = ap (map group_in) (filter_same (λ r. not (is_row_of t r)) (λ r. not (is_kept h c r.group)) u (λ r m. ap not (target_kept r m))) ∙ sym (filter_map group_in (λ g. not (is_kept h c g)) u) ∙ ap (filter (λ g. not (is_kept h c g))) there.groups

  pub drops_left : to_drop t u ≡ left h c
  drops_left = ap (map group_in) (filter_same (λ r. not (is_row_of u r)) (λ r. not (is_kept h c r.group)) t (λ r m. ap not (current_kept r m))) ∙ sym (filter_map group_in (λ g. not (is_kept h c g)) t) ∙ ap (filter (λ g. not (is_kept h c g))) here.groups

-- ---- right tables are tables

pub one_row : (t : Table) → Rise (map first_in t) → (r q : Row) → In r t → In q t → first_in r ≡ first_in q → r ≡ q
unfolding IsStrictlySortedBy
one_row [] rise r q m n e = absurd m
one_row (p ∷ t) rise r q (inl a) (inl b) e = a ∙ sym b
one_row (p ∷ t) rise r q (inl a) (inr n) e = absurd (
    let l = below_in (first_in q) (first_in p) (map first_in t) rise.0 (in_map first_in t q n) in
    let k = subst (λ z. slice_cmp nat_cmp (first_in p) z ≡ Less) (sym e ∙ ap first_in a) l in
    not_both (first_in p) (first_in p) k k)
one_row (p ∷ t) rise r q (inr m) (inl b) e = absurd (
    let l = below_in (first_in r) (first_in p) (map first_in t) rise.0 (in_map first_in t r m) in
    let k = subst (λ z. slice_cmp nat_cmp (first_in p) z ≡ Less) (e ∙ ap first_in b) l in
    not_both (first_in p) (first_in p) k k)
one_row (p ∷ t) rise r q (inr m) (inr n) e = one_row t rise.1 r q m n e

pub right_table : (path : List Stop) (t : Table) → IsSoundState (at_end path) → IsRight path t → IsTable t
right_table path t is right =
    let s = at_end path in
    let rise : Rise (map first_in t) = subst (λ xs. Rise xs) (ap (map first_name) (sym right.groups) ∙ firsts_of_rows t) (groups_rise s is.sound (listed s) is.rise) in
    let group : (r : Row) → In r t → In r.group (groups_of s) = λ r m. subst (λ l. In r.group l) right.groups (in_map group_in t r m) in record {
      rise = rise;
      full = λ r m. first_inside s is.sound (listed s) r.group (group r m);
      ordered = λ r m. class_rises s is.sound (listed s) is.rise r.group (group r m);
      one = λ r q x m n a b. one_row t rise r q m n (ap first_name (one_group s is.sound (listed s) r.group q.group x (group r m) (group q n) a b));
    }

-- ---- the rows of records

-- Each row stands among those that its version's record stored.
abbrev pub AreRecorded : (ℕ → Table) → Table → Type 0
AreRecorded recorded t = (r : Row) → In r t → In r (recorded r.version)

pub recorded_of_one : (recorded : ℕ → Table) → ((v : ℕ) → Rise (map first_in (recorded v))) → (t u : Table) → AreRecorded recorded t → AreRecorded recorded u → AreOfOne t u
recorded_of_one recorded rise t u a b r q m n e f = one_row (recorded r.version) (rise r.version) r q (a r m) (subst (λ v. In q (recorded v)) (sym f) (b q n)) (ap first_name e)

-- A record that fits leaves a table: its stored rows rise, have names and are of a commit that the parent's table doesn't have, and no name is in two rows of the result.
pub fitting_table : (c : Change) (t : Table) (k : ℕ) → IsTable t → Rise (map first_in c.stored) → ((r : Row) → In r c.stored → In (first_in r) r.group) → ((r : Row) → In r c.stored → Rise r.group) → ((r : Row) → In r c.stored → r.version ≡ k) → ((r : Row) → In r t → r.version < k)
    → ((r q : Row) (x : List ℕ) → In r (after c t) → In q (after c t) → In x r.group → In x q.group → r ≡ q) → IsTable (after c t)
fitting_table c t k is rise full ordered new old one =
    let old_in : (r : Row) → In r (without_groups c.dropped t) → In r t = λ r m. (filter_in _ t r m).0 in record {
      rise = put_rows_rise c.stored (without_groups c.dropped t) (rise_picked first_in _ t is.rise) (rise_differ (map first_in c.stored) rise) (λ r q m n e.
          let f = one r q (first_in r) (in_put_rows r c.stored (without_groups c.dropped t) (inl m)) (in_put_rows q c.stored (without_groups c.dropped t) (inr n)) (full r m) (subst (λ x. In x q.group) (sym e) (is.full q (old_in q n))) in
          let a = new r m in
          let b = old q (old_in q n) in
          let v = ap (λ z. z.version) f in
          omega (arith, a, b, v));
      full = λ r m. elim (put_rows_in r c.stored (without_groups c.dropped t) m) [ inl h ↦ full r h | inr h ↦ is.full r (old_in r h) ];
      ordered = λ r m. elim (put_rows_in r c.stored (without_groups c.dropped t) m) [ inl h ↦ ordered r h | inr h ↦ is.ordered r (old_in r h) ];
      one = one;
    }
