-- Names that newer commits dropped, and the rows that stay for them.
use Rattle.std.specs.Prelude.{◌≡◌, ℕ, Bool, true, false, ◌||◌, List, [], ◌∷◌, ◌++◌, map, refl}
use Rattle.std.specs.Cmp.Lexicographic.{slice_cmp}
use Rattle.std.specs.Ordering.{nat_cmp, match_ordering}
use Rattle.std.specs.Str.{bytes_eq}
use Rattle.std.specs.BTreeSet.{insert_key}
use Rattle.std.specs.BTreeMap.{is_at}
use Rattle.std.specs.List.{list_any}
use Rattle.std.specs.Rc.{rc_str_bytes}
use Rattle.std.specs.declared.alloc.Global.{Global}
use Rattle.std.specs.declared.rc.RcStr.{RcStr}
use Rattle.std.specs.declared.cmp.Ordering.TheVariants.{Less, Equal, Greater}
use Rattle.std.proofs.Common.{ap, sym, ◌∙◌, inl, inr, Ordering}
use Rattle.std.proofs.lemmas.Bool.{cases_Bool}
use Rattle.std.proofs.lemmas.Map.Text.{is_eq-slice_cmp}
use Rattle.kishu_language.specs.tokens.Names.{is_among}
use Rattle.kishu_store.specs.Groups.{first_name}
use Rattle.kishu_store.specs.Tables.{Table, Change, first_in}
use Rattle.kishu_store_laws.specs.BranchLaws.{equal_titles}
use Rattle.kishu_store_laws.specs.WalkLaws.{rows_left, rows_back}
use Rattle.kishu_graph.specs.Walks.{HaveSame, all_texts}

left_same : (xs ys : List (List ℕ)) → HaveSame xs ys → (t : Table) → rows_left xs t ≡ rows_left ys t
left_same xs ys s [] = refl
left_same xs ys s (r ∷ t) =
    let rest = left_same xs ys s t in
    let here = s (first_in r) in
    elim (cases_Bool (is_among (first_in r) xs)) [
      | inl e ↦ (let f : is_among (first_in r) ys ≡ true = sym here ∙ e in rw (e, f) rest)
      | inr e ↦ (let f : is_among (first_in r) ys ≡ false = sym here ∙ e in rw (e, f) (ap (λ (l : Table). r ∷ l) rest))
    ]

pub append_same : (zs xs ys : List (List ℕ)) → HaveSame xs ys → HaveSame (zs ++ xs) (zs ++ ys)
append_same [] xs ys s = s
append_same (z ∷ zs) xs ys s = λ x. ap (λ (b : Bool). bytes_eq x z || b) (append_same zs xs ys s x)

-- Only which names are gone matters, and in no order.
pub back_same : (cs : List Change) (xs ys : List (List ℕ)) → HaveSame xs ys → rows_back xs cs ≡ rows_back ys cs
back_same [] xs ys s = refl
back_same (c ∷ cs) xs ys s =
    ap (λ (l : Table). l ++ rows_back (map first_name c.dropped ++ xs) cs) (left_same xs ys s c.stored)
    ∙ ap (λ (l : Table). rows_left ys c.stored ++ l) (back_same cs (map first_name c.dropped ++ xs) (map first_name c.dropped ++ ys) (append_same (map first_name c.dropped) xs ys s))

-- ---- a set of texts

abbrev pub by_text : RcStr Global → RcStr Global → Ordering
by_text x y = slice_cmp nat_cmp (rc_str_bytes x) (rc_str_bytes y)

pub among_texts : (x : List ℕ) (ks : List (RcStr Global)) → list_any (is_at (λ k. slice_cmp nat_cmp x (rc_str_bytes k))) ks ≡ is_among x (all_texts ks)
among_texts x [] = refl
among_texts x (k ∷ ks) = rw (is_eq-slice_cmp x (rc_str_bytes k), among_texts x ks) refl

or_swapped : (a b c : Bool) → (a || (b || c)) ≡ (b || (a || c))
or_swapped true true c = refl
or_swapped true false c = refl
or_swapped false true c = refl
or_swapped false false c = refl

or_twice : (a b : Bool) → (a || (a || b)) ≡ (a || b)
or_twice true b = refl
or_twice false b = refl

key_by : (x : List ℕ) (k q : RcStr Global) (ks : List (RcStr Global)) (o : Ordering) → by_text k q ≡ o → is_among x (all_texts (insert_key by_text ks k)) ≡ (bytes_eq x (rc_str_bytes k) || is_among x (all_texts ks))
    → is_among x (all_texts (match_ordering o (k ∷ q ∷ ks) (q ∷ ks) (q ∷ insert_key by_text ks k))) ≡ (bytes_eq x (rc_str_bytes k) || (bytes_eq x (rc_str_bytes q) || is_among x (all_texts ks)))
key_by x k q ks Less e rest = refl
key_by x k q ks Equal e rest =
    let same : rc_str_bytes k ≡ rc_str_bytes q = equal_titles (rc_str_bytes k) (rc_str_bytes q) (sym e) in
    sym (or_twice (bytes_eq x (rc_str_bytes q)) (is_among x (all_texts ks))) ∙ ap (λ (y : List ℕ). bytes_eq x y || (bytes_eq x (rc_str_bytes q) || is_among x (all_texts ks))) (sym same)
key_by x k q ks Greater e rest =
    ap (λ (b : Bool). bytes_eq x (rc_str_bytes q) || b) rest ∙ or_swapped (bytes_eq x (rc_str_bytes q)) (bytes_eq x (rc_str_bytes k)) (is_among x (all_texts ks))

-- a text that is put in is among them
pub key_in : (k : RcStr Global) (ks : List (RcStr Global)) → HaveSame (all_texts (insert_key by_text ks k)) (rc_str_bytes k ∷ all_texts ks)
key_in k [] x = refl
key_in k (q ∷ ks) x = key_by x k q ks (by_text k q) refl (key_in k ks x)

pub among_append : (x : List ℕ) (xs ys : List (List ℕ)) → is_among x (xs ++ ys) ≡ (is_among x xs || is_among x ys)
among_append x [] ys = refl
among_append x (z ∷ xs) ys = ap (λ (b : Bool). bytes_eq x z || b) (among_append x xs ys) ∙ or_joined (bytes_eq x z) (is_among x xs) (is_among x ys)
  where
    or_joined : (a b c : Bool) → (a || (b || c)) ≡ ((a || b) || c)
    or_joined true b c = refl
    or_joined false b c = refl

-- of some names and those before, one more
pub one_gone : (names : List (List ℕ)) (name : List ℕ) (old now new : List (List ℕ)) → HaveSame now (names ++ old) → HaveSame new (name ∷ now) → HaveSame new ((names ++ name ∷ []) ++ old)
one_gone names name old now new before one x =
    let last : is_among x (names ++ name ∷ []) ≡ (is_among x names || (bytes_eq x name || false)) = among_append x names (name ∷ []) in
    one x
    ∙ ap (λ (b : Bool). bytes_eq x name || b) (before x ∙ among_append x names old)
    ∙ or_placed (bytes_eq x name) (is_among x names) (is_among x old)
    ∙ ap (λ (b : Bool). b || is_among x old) (sym last)
    ∙ sym (among_append x (names ++ name ∷ []) old)
  where
    or_placed : (a b c : Bool) → (a || (b || c)) ≡ ((b || (a || false)) || c)
    or_placed true true c = refl
    or_placed true false c = refl
    or_placed false true c = refl
    or_placed false false c = refl
