-- Sets of groups with their versions.
use Rattle.std.specs.Prelude.{◌≡◌, ℕ, ◌==◌, Bool, true, false, not, ◌&&◌, ◌||◌, List, [], ◌∷◌, map, filter}
use Rattle.std.specs.BTreeMap.{is_at}
use Rattle.std.specs.BTreeSet.{insert_key}
use Rattle.std.specs.Cmp.{unsigned_ties}
use Rattle.std.specs.Cmp.Derive.Mapped.{pointwise-map}
use Rattle.std.specs.Cmp.Lexicographic.{slice_cmp, lists_ties}
use Rattle.std.specs.List.{list_any}
use Rattle.std.specs.Ordering.{nat_cmp, is_eq, ordering_then, match_ordering}
use Rattle.std.specs.Rc.{rc_str_bytes}
use Rattle.std.specs.Str.{bytes_eq}
use Rattle.std.specs.declared.alloc.Global.{Global}
use Rattle.std.specs.declared.cmp.Ordering.TheVariants.{Less, Equal, Greater}
use Rattle.std.specs.declared.rc.RcStr.{RcStr}
use Rattle.std.proofs.Common.{refl, sym, ap, ◌∙◌, Ordering}
use Rattle.std.proofs.lemmas.Bool.{and_parts}
use Rattle.std.proofs.lemmas.Bool.Decides.{Decides-eqb}
use Rattle.std.proofs.lemmas.Map.Text.{is_eq-slice_cmp}
use Rattle.kishu_store.specs.Groups.{is_group}
use Rattle.kishu_store.specs.Tables.{Row, Table}
use Rattle.kishu_history.specs.Checkout.{agree, is_row_of}
use Rattle.kishu_history_laws.specs.Choices.{group_decides, filter_same}
use Rattle.kishu_checkout.specs.Versioned.{Versioned, is_rows, is_there, IsIndexOf}

-- ---- as the set compares them

abbrev by_text : RcStr Global → RcStr Global → Ordering
by_text x y = slice_cmp nat_cmp (rc_str_bytes x) (rc_str_bytes y)

abbrev pub by_both : Versioned → Versioned → Ordering
by_both x y = ordering_then (slice_cmp by_text x.0.now y.0.now) (nat_cmp x.1 y.1)

abbrev names_in : Versioned → List (List ℕ)
names_in k = map rc_str_bytes k.0.now

then_eq : (o p : Ordering) → is_eq (ordering_then o p) ≡ (is_eq o && is_eq p)
then_eq Less p = refl
then_eq Equal p = refl
then_eq Greater p = refl

names_eq : (xs ys : List (RcStr Global)) → is_eq (slice_cmp by_text xs ys) ≡ is_group (map rc_str_bytes xs) (map rc_str_bytes ys)
names_eq xs ys =
    sym (lists_ties {E = λ a b. bytes_eq (rc_str_bytes a) (rc_str_bytes b)} by_text (λ x y. sym (is_eq-slice_cmp (rc_str_bytes x) (rc_str_bytes y))) xs ys)
    ∙ sym (pointwise-map rc_str_bytes bytes_eq xs ys)

both_eq : (x y : Versioned) → is_eq (by_both x y) ≡ (is_group (names_in x) (names_in y) && x.1 == y.1)
both_eq x y =
    then_eq (slice_cmp by_text x.0.now y.0.now) (nat_cmp x.1 y.1)
    ∙ ap (λ (b : Bool). b && is_eq (nat_cmp x.1 y.1)) (names_eq x.0.now y.0.now)
    ∙ ap (λ (b : Bool). is_group (names_in x) (names_in y) && b) (sym (unsigned_ties x.1 y.1))

-- What is equal to the search for a row's group and version is the row's.
pub there_same : (q : Versioned) (r : Row) → names_in q ≡ r.group → q.1 ≡ r.version → (ks : List Versioned)
    → list_any (is_at (by_both q)) ks ≡ is_there ks r
there_same q r e f [] = refl
there_same q r e f (k ∷ ks) =
    let here : is_eq (by_both q k) ≡ is_rows r k = both_eq q k ∙ ap (λ (g : List (List ℕ)). is_group g (names_in k) && q.1 == k.1) e
    ∙ ap (λ (v : ℕ). is_group r.group (names_in k) && v == k.1) f in
    ap (λ (b : Bool). b || list_any (is_at (by_both q)) ks) here ∙ ap (λ (b : Bool). is_rows r k || b) (there_same q r e f ks)

-- ---- one more

or_twice : (a b : Bool) → (a || b) ≡ (a || (a || b))
or_twice true b = refl
or_twice false b = refl

or_swapped : (a b c : Bool) → (a || (b || c)) ≡ (b || (a || c))
or_swapped true true c = refl
or_swapped true false c = refl
or_swapped false true c = refl
or_swapped false false c = refl

rows_same : (r : Row) (k q : Versioned) → by_both k q ≡ Equal → is_rows r k ≡ is_rows r q
rows_same r k q e =
    let both : (is_group (names_in k) (names_in q) && k.1 == q.1) ≡ true = sym (both_eq k q) ∙ ap is_eq e in
    let parts = and_parts (is_group (names_in k) (names_in q)) (k.1 == q.1) both in
    let names = (group_decides (names_in k) (names_in q)).0 parts.0 in
    let version = (Decides-eqb k.1 q.1).0 parts.1 in
    ap (λ (g : List (List ℕ)). is_group r.group g && r.version == k.1) names ∙ ap (λ (v : ℕ). is_group r.group (names_in q) && r.version == v) version

put_by : (r : Row) (k q : Versioned) (ks : List Versioned) (o : Ordering) → by_both k q ≡ o
    → is_there (insert_key by_both ks k) r ≡ (is_rows r k || is_there ks r)
    → is_there (match_ordering o (k ∷ q ∷ ks) (q ∷ ks) (q ∷ insert_key by_both ks k)) r ≡ (is_rows r k || (is_rows r q || is_there ks r))
put_by r k q ks Less e rest = refl
put_by r k q ks Equal e rest =
    or_twice (is_rows r q) (is_there ks r) ∙ ap (λ (b : Bool). b || (is_rows r q || is_there ks r)) (sym (rows_same r k q e))
put_by r k q ks Greater e rest = ap (λ (b : Bool). is_rows r q || b) rest ∙ or_swapped (is_rows r q) (is_rows r k) (is_there ks r)

there_more : (r : Row) (k : Versioned) (ks : List Versioned) → is_there (insert_key by_both ks k) r ≡ (is_rows r k || is_there ks r)
there_more r k [] = refl
there_more r k (q ∷ ks) = put_by r k q ks (by_both k q) refl (there_more r k ks)

-- ---- a table's rows, one after another

-- With those that are left they tell of each row whether it is the table's.
abbrev pub IsIndexing : List Versioned → Table → Table → Type 0
IsIndexing ks t left = (r : Row) → (is_there ks r || is_row_of left r) ≡ is_row_of t r

or_moved : (a b c : Bool) → ((a || b) || c) ≡ (b || (a || c))
or_moved true true c = refl
or_moved true false c = refl
or_moved false true c = refl
or_moved false false c = refl

or_false : (a : Bool) → a ≡ (a || false)
or_false true = refl
or_false false = refl

pub indexing_next : (ks new : List Versioned) (k : Versioned) (t : Table) (x : Row) (left : Table) → new ≡ insert_key by_both ks k
    → names_in k ≡ x.group → k.1 ≡ x.version → IsIndexing ks t (x ∷ left) → IsIndexing new t left
indexing_next ks new k t x left is names version h r =
    let here : is_rows r k ≡ agree r x = ap (λ (g : List (List ℕ)). is_group r.group g && r.version == k.1) names
    ∙ ap (λ (v : ℕ). is_group r.group x.group && r.version == v) version in
    ap (λ (l : List Versioned). is_there l r || is_row_of left r) is
    ∙ ap (λ (b : Bool). b || is_row_of left r) (there_more r k ks)
    ∙ or_moved (is_rows r k) (is_there ks r) (is_row_of left r)
    ∙ ap (λ (b : Bool). is_there ks r || (b || is_row_of left r)) here
    ∙ h r

pub indexing_end : (ks : List Versioned) (t : Table) → IsIndexing ks t [] → IsIndexOf ks t
indexing_end ks t h r = or_false (is_there ks r) ∙ h r

-- ---- what is chosen by them

pub those_there : (ks : List Versioned) (t u : Table) → IsIndexOf ks t → filter (is_there ks) u ≡ filter (λ r. is_row_of t r) u
those_there ks t u h = filter_same (is_there ks) (λ r. is_row_of t r) u (λ r m. h r)

pub those_elsewhere : (ks : List Versioned) (t u : Table) → IsIndexOf ks t
    → filter (λ r. not (is_there ks r)) u ≡ filter (λ r. not (is_row_of t r)) u
those_elsewhere ks t u h = filter_same (λ r. not (is_there ks r)) (λ r. not (is_row_of t r)) u (λ r m. ap not (h r))
