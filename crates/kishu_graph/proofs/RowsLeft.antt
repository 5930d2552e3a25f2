-- Rows that are taken out of a table by their first names.
use Rattle.std.specs.Prelude.{◌≡◌, ◌<◌, ◌≤◌, MatchOption, unwrap_or, ◌+◌, ℕ, Bool, true, false, not, ◌&&◌, ◌||◌, if◌then◌else◌, List, [], ◌∷◌, ◌++◌, map, Option, Some, None, option_map, refl}
use Rattle.std.specs.BTreeMap.{is_at}
use Rattle.std.specs.Cmp.Lexicographic.{bytes_decides, slice_cmp}
use Rattle.std.specs.List.Sorted.{IsStrictlySortedBy}
use Rattle.std.specs.Map.{lookup, remove_entry}
use Rattle.std.specs.Ordering.{nat_cmp}
use Rattle.std.specs.Rc.{rc_str_bytes}
use Rattle.std.specs.Str.{bytes_eq}
use Rattle.std.specs.declared.alloc.Global.{Global}
use Rattle.std.specs.declared.rc.RcStr.{RcStr}
use Rattle.std.specs.declared.cmp.Ordering.TheVariants.{Less}
use Rattle.std.proofs.Common.{ap, sym, ◌∙◌, subst, inl, inr, arith}
use Rattle.std.proofs.lemmas.Bool.{cases_Bool, false≢true}
use Rattle.std.proofs.lemmas.Map.Text.{is_eq-slice_cmp}
use Rattle.kishu_language.specs.tokens.Names.{is_among}
use Rattle.kishu_store.specs.Groups.{Rise}
use Rattle.kishu_store.specs.Limits.{most_pictured}
use Rattle.kishu_store.specs.Tables.{Row, Table, first_in, names_in, bytes_in, put_row, are_apart}
use Rattle.kishu_store_laws.specs.BranchLaws.{AllBehind}
use Rattle.kishu_store_laws.specs.TableLaws.{and_true, apart-behind, not_true, or_false}
use Rattle.kishu_store_laws.specs.WalkLaws.{rows_left}
use Rattle.kishu_graph.specs.Heads.{Lack, StandApart}
use Rattle.kishu_graph.specs.Kept.{row_of}
use Rattle.kishu_graph.specs.Walks.{Found, HaveSame, StandAtFirst, all_texts, rows_in}
use Rattle.kishu_graph.proofs.Apart.{row_names}
use Rattle.kishu_graph.proofs.Gone.{among_append}
use Rattle.kishu_graph.proofs.Puts.{put_greater, put_less, turned}
use Rattle.kishu_graph.proofs.Stays.{not_less}
use Rattle.kishu_graph.proofs.TablesThatFit.{row_bytes}

-- the row that begins with this name
abbrev pub row_at : List ℕ → Table → Option Row
row_at x [] = None
row_at x (q ∷ t) = if bytes_eq x (first_in q) then Some q else row_at x t

-- ---- what is taken out

pub other_name : (x y : List ℕ) → slice_cmp nat_cmp x y ≡ Less → bytes_eq y x ≡ false
other_name x y l = elim (cases_Bool (bytes_eq y x)) [ inl e ↦ absurd (not_less x y (sym ((bytes_decides y x).0 e)) l) | inr e ↦ e ]

not_turned : (x y : List ℕ) → bytes_eq x y ≡ false → bytes_eq y x ≡ false
not_turned x y e = elim (cases_Bool (bytes_eq y x)) [ inl f ↦ absurd (false≢true (sym e ∙ (bytes_decides x y).1 (sym ((bytes_decides y x).0 f)))) | inr f ↦ f ]

-- nothing of rows behind the name
left_behind : (x : List ℕ) (t : Table) → AllBehind x (map first_in t) → rows_left (x ∷ []) t ≡ t
left_behind x [] h = refl
left_behind x (q ∷ t) h = (let no = other_name x (first_in q) h.0 in rw no (ap (λ (l : Table). q ∷ l) (left_behind x t h.1)))

-- nothing where no row begins with it
pub left-none-at : (x : List ℕ) (t : Table) → row_at x t ≡ None → rows_left (x ∷ []) t ≡ t
left-none-at x [] e = refl
left-none-at x (q ∷ t) e = elim (cases_Bool (bytes_eq x (first_in q))) [
  | inl k ↦ absurd (none_some q (sym (rw k at e)))
  | inr k ↦ (let no = not_turned x (first_in q) k in rw no (ap (λ (l : Table). q ∷ l) (left-none-at x t (rw k at e))))
]
  where
    none_some : (q : Row) → None ≡ Some q → ⊥
    none_some q f = cc (f)

behind_at : (x y : List ℕ) (t : Table) (r : Row) → AllBehind y (map first_in t) → row_at x t ≡ Some r → slice_cmp nat_cmp y (first_in r) ≡ Less
behind_at x y [] r h e = absurd (none_some r e)
  where
    none_some : (r : Row) → None ≡ Some r → ⊥
    none_some r f = cc (f)
behind_at x y (q ∷ t) r h e = elim (cases_Bool (bytes_eq x (first_in q))) [
  | inl k ↦ (let same : q ≡ r = is_some q r (rw k at e) in subst (λ (p : Row). slice_cmp nat_cmp y (first_in p) ≡ Less) same h.0)
  | inr k ↦ behind_at x y t r h.1 (rw k at e)
]
  where
    is_some : (q r : Row) → Some q ≡ Some r → q ≡ r
    is_some q r f = cc (f)

front : (q : Row) (t : Table) → AllBehind (first_in q) (map first_in t) → put_row q t ≡ q ∷ t
front q [] h = refl
front q (p ∷ t) h = put_less q p t h.0

-- A row that is taken out may be put in again.
pub taken : (x : List ℕ) (t : Table) (r : Row) → Rise (map first_in t) → row_at x t ≡ Some r → t ≡ put_row r (rows_left (x ∷ []) t)
unfolding IsStrictlySortedBy
taken x [] r rise e = absurd (none_some r e)
  where
    none_some : (r : Row) → None ≡ Some r → ⊥
    none_some r f = cc (f)
taken x (q ∷ t) r rise e = elim (cases_Bool (bytes_eq x (first_in q))) [
  | inl k ↦ (
      let same : q ≡ r = is_some q r (rw k at e) in
      let first : x ≡ first_in q = (bytes_decides x (first_in q)).0 k in
      let gone : bytes_eq (first_in q) x ≡ true = (bytes_decides (first_in q) x).1 (sym first) in
      let rest : rows_left (x ∷ []) (q ∷ t) ≡ t = rw gone (left_behind x t (subst (λ y. AllBehind y (map first_in t)) (sym first) rise.0)) in
      sym (front q t rise.0) ∙ ap (put_row q) (sym rest) ∙ ap (λ (p : Row). put_row p (rows_left (x ∷ []) (q ∷ t))) same
      )
  | inr k ↦ (
      let there : row_at x t ≡ Some r = rw k at e in
      let stays : rows_left (x ∷ []) (q ∷ t) ≡ q ∷ rows_left (x ∷ []) t = (let no = not_turned x (first_in q) k in rw no refl) in
      ap (λ (l : Table). q ∷ l) (taken x t r rise.1 there)
      ∙ sym (put_greater r q (rows_left (x ∷ []) t) (turned q r Less (behind_at x (first_in q) t r rise.0 there)))
      ∙ ap (put_row r) (sym stays)
      )
]
  where
    is_some : (q r : Row) → Some q ≡ Some r → q ≡ r
    is_some q r f = cc (f)

-- ---- what stays of a table in order

left_further : (x y : List ℕ) (t : Table) → AllBehind y (map first_in t) → AllBehind y (map first_in (rows_left (x ∷ []) t))
left_further x y [] h = tt
left_further x y (q ∷ t) h = elim (cases_Bool (bytes_eq (first_in q) x)) [ inl k ↦ rw k (left_further x y t h.1) | inr k ↦ rw k (h.0, left_further x y t h.1) ]

left_rise : (x : List ℕ) (t : Table) → Rise (map first_in t) → Rise (map first_in (rows_left (x ∷ []) t))
unfolding IsStrictlySortedBy
left_rise x [] h = tt
left_rise x (q ∷ t) h = elim (cases_Bool (bytes_eq (first_in q) x)) [ inl k ↦ rw k (left_rise x t h.1) | inr k ↦ rw k (left_further x (first_in q) t h.0, left_rise x t h.1) ]

-- the names of a table of which a row was taken out: the row's, and then those that stay
pub taken_apart : (x : List ℕ) (t : Table) (r : Row) → StandApart t → row_at x t ≡ Some r → are_apart (r.group ++ names_in (rows_left (x ∷ []) t)) ≡ true
taken_apart x t r s e =
    let left = rows_left (x ∷ []) t in
    sym (row_names r left).apart ∙ ap (λ (u : Table). are_apart (names_in u)) (sym (taken x t r s.rise e)) ∙ s.apart

pub left-apart : (x : List ℕ) (t : Table) → StandApart t → (o : Option Row) → row_at x t ≡ o → StandApart (rows_left (x ∷ []) t)
left-apart x t s None e = subst StandApart (sym (left-none-at x t e)) s
left-apart x t s (Some r) e = record { rise = left_rise x t s.rise; apart = apart-behind r.group (names_in (rows_left (x ∷ []) t)) (taken_apart x t r s e) }

-- ---- names

pub apart_not : (x : List ℕ) (xs ys : List (List ℕ)) → are_apart (xs ++ ys) ≡ true → is_among x xs ≡ true → is_among x ys ≡ false
apart_not x [] ys e m = absurd (false≢true m)
apart_not x (z ∷ xs) ys e m =
    let both = and_true (not (is_among z (xs ++ ys))) (are_apart (xs ++ ys)) e in
    elim (cases_Bool (bytes_eq x z)) [
      | inl k ↦ (
          let same : x ≡ z = (bytes_decides x z).0 k in
          let none = or_false (is_among z xs) (is_among z ys) (sym (among_append z xs ys) ∙ not_true (is_among z (xs ++ ys)) both.0) in
          ap (λ (y : List ℕ). is_among y ys) same ∙ none.1
          )
      | inr k ↦ apart_not x xs ys both.1 (rw k at m)
    ]

only_second : (a b : Bool) → (a ≡ true → b ≡ false) → ((a || b) && not a) ≡ b
only_second true b f = sym (f refl)
only_second false true f = refl
only_second false false f = refl

-- Names without those of a row that is taken out are those of the rows that stay.
pub names-left : (x : List ℕ) (t : Table) (r : Row) (keys new : List (List ℕ)) → StandApart t → row_at x t ≡ Some r → HaveSame keys (names_in t) → Lack r.group keys new → HaveSame new (names_in (rows_left (x ∷ []) t))
names-left x t r keys new s e same lack z =
    let left = rows_left (x ∷ []) t in
    let whole : is_among z (names_in t) ≡ (is_among z r.group || is_among z (names_in left)) =
    ap (λ (u : Table). is_among z (names_in u)) (taken x t r s.rise e) ∙ (row_names r left).same z ∙ among_append z r.group (names_in left) in
    lack z
    ∙ ap (λ (b : Bool). b && not (is_among z r.group)) (same z ∙ whole)
    ∙ only_second (is_among z r.group) (is_among z (names_in left)) (λ m. apart_not z r.group (names_in left) (taken_apart x t r s e) m)

-- ---- bytes

pub bytes-left : (x : List ℕ) (t : Table) (r : Row) → Rise (map first_in t) → row_at x t ≡ Some r → bytes_in t ≡ r.len + bytes_in (rows_left (x ∷ []) t)
bytes-left x t r rise e = ap bytes_in (taken x t r rise e) ∙ row_bytes r (rows_left (x ∷ []) t)

-- ---- one after another

pub left-left : (xs ys : List (List ℕ)) (t : Table) → rows_left ys (rows_left xs t) ≡ rows_left (xs ++ ys) t
left-left xs ys [] = refl
left-left xs ys (q ∷ t) =
    let rest = left-left xs ys t in
    let joined = among_append (first_in q) xs ys in
    elim (cases_Bool (is_among (first_in q) xs)) [
      | inl k ↦ (let all : is_among (first_in q) (xs ++ ys) ≡ true = joined ∙ ap (λ (b : Bool). b || is_among (first_in q) ys) k in rw (k, all) rest)
      | inr k ↦ (
          let all : is_among (first_in q) (xs ++ ys) ≡ is_among (first_in q) ys = joined ∙ ap (λ (b : Bool). b || is_among (first_in q) ys) k in
          elim (cases_Bool (is_among (first_in q) ys)) [
            | inl f ↦ (let g = all ∙ f in rw (k, f, g) rest)
            | inr f ↦ (let g = all ∙ f in rw (k, f, g) (ap (λ (l : Table). q ∷ l) rest))
          ]
          )
    ]

pub left-all : (t : Table) → rows_left [] t ≡ t
left-all [] = refl
left-all (q ∷ t) = ap (λ (l : Table). q ∷ l) (left-all t)

-- ---- rows by their first names

module _ (x : List ℕ) where
  abbrev is_here : RcStr Global → Bool
  is_here = is_at (λ k. slice_cmp nat_cmp x (rc_str_bytes k))

  pub row-found-at : (es : Found) → StandAtFirst es → option_map row_of (lookup is_here es) ≡ row_at x (rows_in es)
  row-found-at [] at = refl
  row-found-at (e ∷ es) at =
      let same : bytes_eq x (first_in (row_of e.1)) ≡ bytes_eq x (rc_str_bytes e.0) = ap (bytes_eq x) at.0 in
      let test = is_eq-slice_cmp x (rc_str_bytes e.0) in
      elim (cases_Bool (bytes_eq x (rc_str_bytes e.0))) [
        | inl f ↦ (let here = same ∙ f in let found = test ∙ f in rw (here, found) refl)
        | inr f ↦ (let here = same ∙ f in let found = test ∙ f in rw (here, found) (row-found-at es at.1))
      ]

  pub rows-removed : (es : Found) → StandAtFirst es → Rise (map first_in (rows_in es)) → rows_in (remove_entry is_here es) ≡ rows_left (x ∷ []) (rows_in es)
  unfolding IsStrictlySortedBy
  rows-removed [] at rise = refl
  rows-removed (e ∷ es) at rise =
      let first : first_in (row_of e.1) ≡ rc_str_bytes e.0 = at.0 in
      let test = is_eq-slice_cmp x (rc_str_bytes e.0) in
      elim (cases_Bool (bytes_eq x (rc_str_bytes e.0))) [
        | inl f ↦ (
            let found = test ∙ f in
            let name : x ≡ first_in (row_of e.1) = (bytes_decides x (rc_str_bytes e.0)).0 f ∙ sym first in
            let gone : bytes_eq (first_in (row_of e.1)) x ≡ true = (bytes_decides (first_in (row_of e.1)) x).1 (sym name) in
            let rest = left_behind x (rows_in es) (subst (λ y. AllBehind y (map first_in (rows_in es))) (sym name) rise.0) in
            rw (found, gone) (sym rest)
            )
        | inr f ↦ (
            let found = test ∙ f in
            let stays : bytes_eq (first_in (row_of e.1)) x ≡ false = not_turned x (first_in (row_of e.1)) (ap (bytes_eq x) first ∙ f) in
            rw (found, stays) (ap (λ (l : Table). row_of e.1 ∷ l) (rows-removed es at.1 rise.1))
            )
      ]

  pub stand-removed : (es : Found) → StandAtFirst es → StandAtFirst (remove_entry is_here es)
  stand-removed [] at = tt
  stand-removed (e ∷ es) at =
      let test = is_eq-slice_cmp x (rc_str_bytes e.0) in
      elim (cases_Bool (bytes_eq x (rc_str_bytes e.0))) [
        | inl f ↦ (let found = test ∙ f in rw found at.1)
        | inr f ↦ (let found = test ∙ f in rw found (at.0, stand-removed es at.1))
      ]

-- ---- a set without a text

some_among : (z : List ℕ) (ks : List (RcStr Global)) → is_among z (all_texts ks) ≡ true → (k : RcStr Global) × (rc_str_bytes k ≡ z)
some_among z [] m = absurd (false≢true m)
some_among z (k ∷ ks) m = elim (cases_Bool (bytes_eq z (rc_str_bytes k))) [
  | inl e ↦ (k, sym ((bytes_decides z (rc_str_bytes k)).0 e))
  | inr e ↦ some_among z ks (rw e at m)
]

-- what is told of each text of a set's type is so of all texts
pub one-lacks : (x : List ℕ) (old new : List (RcStr Global)) → ((q : RcStr Global) → is_among (rc_str_bytes q) (all_texts new) ≡ (if bytes_eq x (rc_str_bytes q) then false else is_among (rc_str_bytes q) (all_texts old))) → Lack (x ∷ []) (all_texts old) (all_texts new)
one-lacks x old new tells z =
    elim (cases_Bool (is_among z (all_texts old))) [
      | inl e ↦ (let some = some_among z old e in at z some.0 some.1)
      | inr e ↦ elim (cases_Bool (is_among z (all_texts new))) [
        | inl f ↦ (let some = some_among z new f in at z some.0 some.1)
        | inr f ↦ rw (e, f) refl
      ]
    ]
  where
    by_test : (q : RcStr Global) (b : Bool) → bytes_eq x (rc_str_bytes q) ≡ b → (if b then false else is_among (rc_str_bytes q) (all_texts old)) ≡ (is_among (rc_str_bytes q) (all_texts old) && not (is_among (rc_str_bytes q) (x ∷ [])))
    by_test q true e = (let turned = (bytes_decides (rc_str_bytes q) x).1 (sym ((bytes_decides x (rc_str_bytes q)).0 e)) in rw turned (elim (cases_Bool (is_among (rc_str_bytes q) (all_texts old))) [ inl f ↦ rw f refl | inr f ↦ rw f refl ]))
    by_test q false e = (let turned = not_turned x (rc_str_bytes q) e in rw turned (elim (cases_Bool (is_among (rc_str_bytes q) (all_texts old))) [ inl f ↦ rw f refl | inr f ↦ rw f refl ]))

    at : (z : List ℕ) (q : RcStr Global) → rc_str_bytes q ≡ z → is_among z (all_texts new) ≡ (is_among z (all_texts old) && not (is_among z (x ∷ [])))
    at z q e = subst (λ y. is_among y (all_texts new) ≡ (is_among y (all_texts old) && not (is_among y (x ∷ [])))) e (tells q ∙ by_test q (bytes_eq x (rc_str_bytes q)) refl)

and_not : (a b c : Bool) → ((a && not b) && not (c || false)) ≡ (a && not (b || (c || false)))
and_not true true c = refl
and_not true false true = refl
and_not true false false = refl
and_not false b c = refl

-- one more
pub lack-more : (names : List (List ℕ)) (x : List ℕ) (old now new : List (List ℕ)) → Lack names old now → Lack (x ∷ []) now new → Lack (names ++ (x ∷ [])) old new
lack-more names x old now new before one z =
    one z
    ∙ ap (λ (b : Bool). b && not (is_among z (x ∷ []))) (before z)
    ∙ and_not (is_among z old) (is_among z names) (bytes_eq z x)
    ∙ ap (λ (b : Bool). is_among z old && not b) (sym (among_append z names (x ∷ [])))

and_true_end : (a : Bool) → a ≡ (a && not false)
and_true_end true = refl
and_true_end false = refl

pub lack-none : (keys : List (List ℕ)) → Lack [] keys keys
lack-none keys z = and_true_end (is_among z keys)

pub left-each : (xs : List (List ℕ)) (t : Table) → StandApart t → StandApart (rows_left xs t)
left-each [] t s = subst StandApart (sym (left-all t)) s
left-each (x ∷ xs) t s = subst StandApart (left-left (x ∷ []) xs t) (left-each xs (rows_left (x ∷ []) t) (left-apart x t s (row_at x t) refl))

-- ---- room for pictures

-- Where rows come to others, and the pictures of all have room, so much is left.
pub room-after : (room before rows all : ℕ) (o : Option ℕ) (left : ℕ) → all ≡ rows + before → room + before ≡ most_pictured → all ≤ most_pictured → MatchOption o (room < rows) (λ n. n + rows ≡ room) → left ≡ unwrap_or o 0 → left + all ≡ most_pictured
room-after room before rows all None left sum was fits told is = absurd (omega (arith, sum, was, fits, told))
room-after room before rows all (Some n) left sum was fits told is = omega (arith, sum, was, fits, told, is)
