-- Names that stand apart: in whatever order they stand, and where some are put among others.
use Rattle.std.specs.Prelude.{◌≡◌, ◌<◌, ◌≤◌, ℕ, ◌+◌, Bool, true, false, not, ◌&&◌, ◌||◌, List, [], ◌∷◌, ◌++◌, length, map, take, drop, get_or, refl}
use Rattle.std.specs.BTreeMap.{is_at}
use Rattle.std.specs.BTreeSet.{insert_key}
use Rattle.std.specs.Cmp.Lexicographic.{bytes_decides, slice_cmp}
use Rattle.std.specs.List.{list_any}
use Rattle.std.specs.List.Sorted.{IsStrictlySortedBy}
use Rattle.std.specs.Ordering.{nat_cmp, match_ordering}
use Rattle.std.specs.Rc.{rc_str_bytes}
use Rattle.std.specs.Str.{bytes_eq}
use Rattle.std.specs.declared.alloc.Global.{Global}
use Rattle.std.specs.declared.rc.RcStr.{RcStr}
use Rattle.std.specs.declared.vec.Vec.{Vec}
use Rattle.std.specs.declared.cmp.Ordering.TheVariants.{Less, Equal, Greater}
use Rattle.std.proofs.Common.{ap, sym, ◌∙◌, subst, inl, inr, Ordering, append_assoc, arith}
use Rattle.std.proofs.lemmas.Bool.{cases_Bool, false≢true}
use Rattle.std.proofs.lemmas.List.{append-nil, take_all, take_more, take-append-drop}
use Rattle.kishu_language.specs.tokens.Names.{is_among}
use Rattle.kishu_store.specs.Tables.{Row, Table, first_in, names_in, put_row, put_rows, are_apart}
use Rattle.kishu_store.specs.Groups.{AreStored, Rise}
use Rattle.kishu_store_laws.specs.BranchLaws.{AllBehind}
use Rattle.kishu_store_laws.specs.TableLaws.{and_true, both_ways}
use Rattle.kishu_graph.specs.declared.tables.TableRow as rust_row
use Rattle.kishu_graph.specs.Fits.{AddsNames, names_of, rows_of}
use Rattle.kishu_graph.specs.Kept.{texts_of}
use Rattle.kishu_graph.specs.Tables.{stored_of}
use Rattle.kishu_graph.specs.Walks.{HaveSame, all_texts}
use Rattle.kishu_graph.proofs.Gone.{by_text, key_in, among_append, among_texts}

-- ---- names in another order

-- The same names are among both, and stand apart in both or in neither.
pub record AreAlike (xs ys : List (List ℕ)) : Type 0 where
  pub same : HaveSame xs ys
  pub apart : are_apart xs ≡ are_apart ys

alike_then : (xs ys zs : List (List ℕ)) → AreAlike xs ys → AreAlike ys zs → AreAlike xs zs
alike_then xs ys zs a b = record { same = λ x. a.same x ∙ b.same x; apart = a.apart ∙ b.apart }

alike_back : (xs ys : List (List ℕ)) → AreAlike xs ys → AreAlike ys xs
alike_back xs ys a = record { same = λ x. sym (a.same x); apart = sym a.apart }

alike_is : (xs ys : List (List ℕ)) → xs ≡ ys → AreAlike xs ys
alike_is xs ys e = record { same = λ x. ap (is_among x) e; apart = ap are_apart e }

alike_more : (x : List ℕ) (xs ys : List (List ℕ)) → AreAlike xs ys → AreAlike (x ∷ xs) (x ∷ ys)
alike_more x xs ys a = record { same = λ z. ap (λ (b : Bool). bytes_eq z x || b) (a.same z); apart = ap (λ (b : Bool). not b && are_apart xs) (a.same x) ∙ ap (λ (b : Bool). not (is_among x ys) && b) a.apart }

alike_behind : (zs xs ys : List (List ℕ)) → AreAlike xs ys → AreAlike (zs ++ xs) (zs ++ ys)
alike_behind [] xs ys a = a
alike_behind (z ∷ zs) xs ys a = alike_more z (zs ++ xs) (zs ++ ys) (alike_behind zs xs ys a)

turned : (x y : List ℕ) → bytes_eq x y ≡ bytes_eq y x
turned x y = elim (cases_Bool (bytes_eq x y)) [
  | inl e ↦ e ∙ sym ((bytes_decides y x).1 (sym ((bytes_decides x y).0 e)))
  | inr e ↦ e ∙ sym (elim (cases_Bool (bytes_eq y x)) [
    | inl f ↦ absurd (false≢true (sym e ∙ (bytes_decides x y).1 (sym ((bytes_decides y x).0 f))))
    | inr f ↦ f
  ])
]

or_swapped : (a b c : Bool) → (a || (b || c)) ≡ (b || (a || c))
or_swapped true true c = refl
or_swapped true false c = refl
or_swapped false true c = refl
or_swapped false false c = refl

and_swapped : (e a b c : Bool) → (not (e || a) && (not b && c)) ≡ (not (e || b) && (not a && c))
and_swapped true a b c = refl
and_swapped false true true c = refl
and_swapped false true false c = refl
and_swapped false false true c = refl
and_swapped false false false c = refl

-- two names next to each other
alike_two : (x y : List ℕ) (zs : List (List ℕ)) → AreAlike (x ∷ y ∷ zs) (y ∷ x ∷ zs)
alike_two x y zs = record {
  same = λ z. or_swapped (bytes_eq z x) (bytes_eq z y) (is_among z zs);
  apart = and_swapped (bytes_eq x y) (is_among x zs) (is_among y zs) (are_apart zs) ∙ ap (λ (e : Bool). not (e || is_among y zs) && (not (is_among x zs) && are_apart zs)) (turned x y);
}

-- a name that comes to the front
alike_front : (x : List ℕ) (ys zs : List (List ℕ)) → AreAlike (ys ++ (x ∷ zs)) (x ∷ (ys ++ zs))
alike_front x [] zs = alike_is (x ∷ zs) (x ∷ zs) refl
alike_front x (y ∷ ys) zs = alike_then (y ∷ (ys ++ (x ∷ zs))) (y ∷ x ∷ (ys ++ zs)) (x ∷ y ∷ (ys ++ zs)) (alike_more y (ys ++ (x ∷ zs)) (x ∷ (ys ++ zs)) (alike_front x ys zs)) (alike_two y x (ys ++ zs))

-- names that come to the front
alike_fronts : (xs ys zs : List (List ℕ)) → AreAlike (ys ++ (xs ++ zs)) (xs ++ (ys ++ zs))
alike_fronts [] ys zs = alike_is (ys ++ zs) (ys ++ zs) refl
alike_fronts (x ∷ xs) ys zs =
    alike_then (ys ++ (x ∷ (xs ++ zs))) (x ∷ (ys ++ (xs ++ zs))) (x ∷ (xs ++ (ys ++ zs)))
    (alike_front x ys (xs ++ zs))
    (alike_more x (ys ++ (xs ++ zs)) (xs ++ (ys ++ zs)) (alike_fronts xs ys zs))

-- ---- names that rise

not_among : (x : List ℕ) (ys : List (List ℕ)) → AllBehind x ys → is_among x ys ≡ false
not_among x [] h = refl
not_among x (y ∷ ys) h = elim (cases_Bool (bytes_eq x y)) [
  | inl e ↦ absurd (let m : slice_cmp nat_cmp x x ≡ Less = subst (λ z. slice_cmp nat_cmp x z ≡ Less) (sym ((bytes_decides x y).0 e)) h.0 in both_ways x x m m)
  | inr e ↦ rw e (not_among x ys h.1)
]

pub rise-apart : (xs : List (List ℕ)) → Rise xs → are_apart xs ≡ true
unfolding IsStrictlySortedBy
rise-apart [] h = refl
rise-apart (x ∷ xs) h = (let no = not_among x xs h.0 in rw no (rise-apart xs h.1))

-- those of one group, or of none
pub one-apart : (stored : List (Vec (RcStr Global) Global × ℕ)) (left : List rust_row.TableRow) → AreStored (map stored_of stored) → length stored ≤ 1 → left ≡ [] → true ≡ are_apart (names_of stored ++ names_in (rows_of left))
one-apart [] left are few none = ap (λ (l : List rust_row.TableRow). are_apart (names_in (rows_of l))) (sym none)
one-apart (s ∷ []) left are few none =
    sym (ap (λ (l : List rust_row.TableRow). are_apart (names_of (s ∷ []) ++ names_in (rows_of l))) none ∙ ap are_apart (append-nil (names_of (s ∷ [])) ∙ append-nil (texts_of s.0)) ∙ rise-apart (texts_of s.0) are.each.0.0.rise)
one-apart (s ∷ r ∷ stored) left are few none = absurd (omega (arith, few))

-- ---- the names of a table

row_by : (r q : Row) (t : Table) (o : Ordering) → AreAlike (names_in (put_row r t)) (r.group ++ names_in t) → AreAlike (names_in (match_ordering o (r ∷ q ∷ t) (r ∷ q ∷ t) (q ∷ put_row r t))) (r.group ++ names_in (q ∷ t))
row_by r q t Less a = alike_is (r.group ++ names_in (q ∷ t)) (r.group ++ names_in (q ∷ t)) refl
row_by r q t Equal a = alike_is (r.group ++ names_in (q ∷ t)) (r.group ++ names_in (q ∷ t)) refl
row_by r q t Greater a =
    alike_then (q.group ++ names_in (put_row r t)) (q.group ++ (r.group ++ names_in t)) (r.group ++ (q.group ++ names_in t))
    (alike_behind q.group (names_in (put_row r t)) (r.group ++ names_in t) a)
    (alike_fronts r.group q.group (names_in t))

pub row_names : (r : Row) (t : Table) → AreAlike (names_in (put_row r t)) (r.group ++ names_in t)
row_names r [] = alike_is (names_in (r ∷ [])) (r.group ++ []) refl
row_names r (q ∷ t) = row_by r q t (slice_cmp nat_cmp (first_in r) (first_in q)) (row_names r t)

-- The names of rows that are put into a table are theirs, and then the table's.
pub names-put : (rs t : Table) → AreAlike (names_in (put_rows rs t)) (names_in rs ++ names_in t)
names-put [] t = alike_is (names_in t) (names_in t) refl
names-put (r ∷ rs) t =
    alike_then (names_in (put_row r (put_rows rs t))) (r.group ++ names_in (put_rows rs t)) (names_in (r ∷ rs) ++ names_in t)
    (row_names r (put_rows rs t))
    (alike_then (r.group ++ names_in (put_rows rs t)) (r.group ++ (names_in rs ++ names_in t)) (names_in (r ∷ rs) ++ names_in t)
    (alike_behind r.group (names_in (put_rows rs t)) (names_in rs ++ names_in t) (names-put rs t))
    (alike_is (r.group ++ (names_in rs ++ names_in t)) (names_in (r ∷ rs) ++ names_in t) (sym (append_assoc r.group (names_in rs) (names_in t)))))

-- ---- names that are put among others

-- the first of names that are apart are
apart_first : (xs ys : List (List ℕ)) → are_apart (xs ++ ys) ≡ true → are_apart xs ≡ true
apart_first [] ys e = refl
apart_first (x ∷ xs) ys e =
    let both = and_true (not (is_among x (xs ++ ys))) (are_apart (xs ++ ys)) e in
    let rest = apart_first xs ys both.1 in
    let here : not (is_among x xs || is_among x ys) ≡ true = ap not (sym (among_append x xs ys)) ∙ both.0 in
    elim (cases_Bool (is_among x xs)) [
      | inl k ↦ absurd (false≢true (rw k at here))
      | inr k ↦ rw (k, rest) refl
    ]

pub not-apart : (xs ys : List (List ℕ)) → are_apart xs ≡ false → are_apart (xs ++ ys) ≡ false
not-apart xs ys e = elim (cases_Bool (are_apart (xs ++ ys))) [ inl k ↦ absurd (false≢true (sym e ∙ apart_first xs ys k)) | inr k ↦ k ]

-- none
pub adds-nothing : (keys : List (RcStr Global)) → AddsNames [] keys keys true
adds-nothing keys before same apart = (sym (ap are_apart (append-nil before) ∙ apart), λ e x. same x ∙ ap (is_among x) (sym (append-nil before)))

-- one, where it is told whether it wasn't there
pub adds-one : (x : List ℕ) (k : RcStr Global) (keys new : List (RcStr Global)) (added : Bool) → rc_str_bytes k ≡ x → added ≡ not (list_any (is_at (by_text k)) keys) → new ≡ insert_key by_text keys k → AddsNames (x ∷ []) keys new added
adds-one x k keys new added is told put before same apart =
    let whole : AreAlike (before ++ (x ∷ [])) (x ∷ before) =
    alike_then (before ++ (x ∷ [])) (x ∷ (before ++ [])) (x ∷ before) (alike_front x before []) (alike_is (x ∷ (before ++ [])) (x ∷ before) (ap (λ (l : List (List ℕ)). x ∷ l) (append-nil before))) in
    let fresh : added ≡ not (is_among x before) = told ∙ ap not (among_texts (rc_str_bytes k) keys ∙ ap (λ (y : List ℕ). is_among y (all_texts keys)) is ∙ same x) in
    let one : (not (is_among x before) && are_apart before) ≡ not (is_among x before) = rw apart (elim (cases_Bool (is_among x before)) [ inl e ↦ rw e refl | inr e ↦ rw e refl ]) in (
      fresh ∙ sym one ∙ sym whole.apart,
      (λ e z.
          ap (λ (ks : List (RcStr Global)). is_among z (all_texts ks)) put
          ∙ key_in k keys z
          ∙ ap (λ (y : List ℕ). bytes_eq z y || is_among z (all_texts keys)) is
          ∙ ap (λ (b : Bool). bytes_eq z x || b) (same z)
          ∙ sym (whole.same z)),
    )

-- some, and then some more
pub adds-more : (xs ys : List (List ℕ)) (old now new : List (RcStr Global)) (apart : Bool) → AddsNames xs old now true → AddsNames ys now new apart → AddsNames (xs ++ ys) old new apart
adds-more xs ys old now new apart f h before same fresh =
    let first = f before same fresh in
    let next = h (before ++ xs) (first.1 refl) (sym first.0) in
    let joined = append_assoc before xs ys in
    (next.0 ∙ ap are_apart joined, λ e x. next.1 e x ∙ ap (is_among x) joined)

-- some that aren't apart, and then whatever
pub adds-too-many : (xs ys : List (List ℕ)) (old new : List (RcStr Global)) → AddsNames xs old new false → AddsNames (xs ++ ys) old new false
adds-too-many xs ys old new f before same fresh =
    (sym (ap are_apart (sym (append_assoc before xs ys)) ∙ not-apart (before ++ xs) ys (sym (f before same fresh).0)), λ e. absurd (false≢true e))

-- ---- names that are put among others one after another

module _ {X : Type 0} (names : List X → List (List ℕ)) (joins : (xs ys : List X) → names (xs ++ ys) ≡ names xs ++ names ys) where
  -- those of the next one
  pub adds-next : (xs : List X) (i : ℕ) (d : X) → i < length xs → (old now new : List (RcStr Global)) (apart : Bool) → AddsNames (names (take i xs)) old now true → AddsNames (names (get_or xs i d ∷ [])) now new apart
      → AddsNames (names (take (i + 1) xs)) old new apart
  adds-next xs i d inside old now new apart f h =
      subst (λ (l : List (List ℕ)). AddsNames l old new apart) (sym (ap names (take_more xs i d inside) ∙ joins (take i xs) (get_or xs i d ∷ [])))
      (adds-more (names (take i xs)) (names (get_or xs i d ∷ [])) old now new apart f h)

  -- that aren't apart
  pub adds-none : (xs : List X) (i : ℕ) (d : X) → i < length xs → (old now new : List (RcStr Global)) → AddsNames (names (take i xs)) old now true → AddsNames (names (get_or xs i d ∷ [])) now new false → AddsNames (names xs) old new false
  adds-none xs i d inside old now new f h =
      subst (λ (l : List (List ℕ)). AddsNames l old new false) (sym (joins (take (i + 1) xs) (drop (i + 1) xs)) ∙ ap names (take-append-drop (i + 1) xs))
      (adds-too-many (names (take (i + 1) xs)) (names (drop (i + 1) xs)) old new (adds-next xs i d inside old now new false f h))

  -- and at the end
  pub adds-all : (xs : List X) (i : ℕ) → length xs ≤ i → (old new : List (RcStr Global)) → AddsNames (names (take i xs)) old new true → AddsNames (names xs) old new true
  adds-all xs i past old new f = subst (λ (l : List X). AddsNames (names l) old new true) (take_all i xs past) f
