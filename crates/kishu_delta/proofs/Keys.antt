-- Names and groups as keys of sets and maps: what these tell of them is what the definitions tell of their texts.
use Rattle.std.proofs.Common.{◌≡◌, ℕ, Bool, true, false, cond, ◌&&◌, List, [], ◌∷◌, ◌++◌, map, Option, Ordering, refl, sym, ap, ◌∙◌, inl, inr}
use Rattle.std.specs.Prelude.{◌||◌, if◌then◌else◌, option_map, Some, None}
use Rattle.std.specs.BTreeMap.{insert_entry, is_at}
use Rattle.std.specs.BTreeSet.{insert_key}
use Rattle.std.specs.Cmp.Lexicographic.{slice_cmp, bytes_decides}
use Rattle.std.specs.List.{list_any}
use Rattle.std.specs.Map.{lookup, remove_entry}
use Rattle.std.specs.Ordering.{is_eq, nat_cmp, match_ordering, ordering_then}
use Rattle.std.specs.Rc.{rc_str_bytes}
use Rattle.std.specs.Str.{bytes_eq}
use Rattle.std.specs.declared.alloc.Global.{Global}
use Rattle.std.specs.declared.cmp.Ordering.TheVariants.{Less, Equal, Greater}
use Rattle.std.specs.declared.rc.RcStr.{RcStr}
use Rattle.std.specs.declared.vec.Vec.{Vec}
use Rattle.std.proofs.lemmas.Bool.{cases_Bool, false≢true}
use Rattle.std.proofs.lemmas.Map.Text.{is_eq-slice_cmp}
use Rattle.kishu_language.specs.tokens.Names.{is_among}
use Rattle.kishu_names.specs.Record.{texts_of}
use Rattle.kishu_store.specs.Groups.{Group, is_group, is_one_of}
use Rattle.kishu_history_laws.specs.Choices.{group_decides}
use Rattle.kishu_delta.specs.Found.{group_of, found, found_as}
use Rattle.kishu_delta.specs.Sets.{HasNames, HasGroup}

abbrev pub Text : Type 0
Text = RcStr Global

abbrev pub Texts : Type 0
Texts = Vec (RcStr Global) Global

abbrev pub by_text : Text → Text → Ordering
by_text x y = slice_cmp nat_cmp (rc_str_bytes x) (rc_str_bytes y)

abbrev pub by_group : Texts → Texts → Ordering
by_group x y = slice_cmp by_text x.items y.items

then_eq : (a b : Ordering) → is_eq (ordering_then a b) ≡ (is_eq a && is_eq b)
then_eq Less b = refl
then_eq Equal b = refl
then_eq Greater b = refl

pub same_names : (xs ys : List Text) → is_eq (slice_cmp by_text xs ys) ≡ is_group (texts_of xs) (texts_of ys)
same_names [] [] = refl
same_names [] (y ∷ ys) = refl
same_names (x ∷ xs) [] = refl
same_names (x ∷ xs) (y ∷ ys) =
    then_eq (by_text x y) (slice_cmp by_text xs ys)
    ∙ ap (λ (b : Bool). b && is_eq (slice_cmp by_text xs ys)) (is_eq-slice_cmp (rc_str_bytes x) (rc_str_bytes y))
    ∙ ap (λ (b : Bool). bytes_eq (rc_str_bytes x) (rc_str_bytes y) && b) (same_names xs ys)

equal_texts : (k q : Text) → by_text k q ≡ Equal → rc_str_bytes k ≡ rc_str_bytes q
equal_texts k q e = (bytes_decides (rc_str_bytes k) (rc_str_bytes q)).0 (sym (is_eq-slice_cmp (rc_str_bytes k) (rc_str_bytes q)) ∙ ap is_eq e)

equal_groups : (k q : Texts) → by_group k q ≡ Equal → group_of k ≡ group_of q
equal_groups k q e = (group_decides (group_of k) (group_of q)).0 (sym (same_names k.items q.items) ∙ ap is_eq e)

-- ---- sets

or_swapped : (a b c : Bool) → (a || (b || c)) ≡ (b || (a || c))
or_swapped true true c = refl
or_swapped true false c = refl
or_swapped false true c = refl
or_swapped false false c = refl

or_twice : (a b : Bool) → (a || (a || b)) ≡ (a || b)
or_twice true b = refl
or_twice false b = refl

pub among_texts : (x : List ℕ) (ks : List Text) → list_any (is_at (λ k. slice_cmp nat_cmp x (rc_str_bytes k))) ks ≡ is_among x (texts_of ks)
among_texts x [] = refl
among_texts x (k ∷ ks) = rw (is_eq-slice_cmp x (rc_str_bytes k), among_texts x ks) refl

text_by : (x : List ℕ) (k q : Text) (ks : List Text) (o : Ordering) → by_text k q ≡ o → is_among x (texts_of (insert_key by_text ks k)) ≡ (bytes_eq x (rc_str_bytes k) || is_among x (texts_of ks))
    → is_among x (texts_of (match_ordering o (k ∷ q ∷ ks) (q ∷ ks) (q ∷ insert_key by_text ks k))) ≡ (bytes_eq x (rc_str_bytes k) || (bytes_eq x (rc_str_bytes q) || is_among x (texts_of ks)))
text_by x k q ks Less e rest = refl
text_by x k q ks Equal e rest =
    sym (or_twice (bytes_eq x (rc_str_bytes q)) (is_among x (texts_of ks)))
    ∙ ap (λ (y : List ℕ). bytes_eq x y || (bytes_eq x (rc_str_bytes q) || is_among x (texts_of ks))) (sym (equal_texts k q e))
text_by x k q ks Greater e rest =
    ap (λ (b : Bool). bytes_eq x (rc_str_bytes q) || b) rest ∙ or_swapped (bytes_eq x (rc_str_bytes q)) (bytes_eq x (rc_str_bytes k)) (is_among x (texts_of ks))

text_in : (k : Text) (ks : List Text) (x : List ℕ) → is_among x (texts_of (insert_key by_text ks k)) ≡ (bytes_eq x (rc_str_bytes k) || is_among x (texts_of ks))
text_in k [] x = refl
text_in k (q ∷ ks) x = text_by x k q ks (by_text k q) refl (text_in k ks x)

or_placed : (a b c : Bool) → (a || (b || c)) ≡ ((b || (a || false)) || c)
or_placed true true c = refl
or_placed true false c = refl
or_placed false true c = refl
or_placed false false c = refl

or_joined : (a b c : Bool) → (a || (b || c)) ≡ ((a || b) || c)
or_joined true b c = refl
or_joined false b c = refl

among_append : (x : List ℕ) (xs ys : List (List ℕ)) → is_among x (xs ++ ys) ≡ (is_among x xs || is_among x ys)
among_append x [] ys = refl
among_append x (z ∷ xs) ys = ap (λ (b : Bool). bytes_eq x z || b) (among_append x xs ys) ∙ or_joined (bytes_eq x z) (is_among x xs) (is_among x ys)

-- Of some names that were put in, one more.
pub name_more : (names : List (List ℕ)) (k : Text) (name : List ℕ) (old : List (List ℕ)) (ks : List Text) → rc_str_bytes k ≡ name
    → HasNames names old (texts_of ks) → HasNames (names ++ name ∷ []) old (texts_of (insert_key by_text ks k))
name_more names k name old ks is before x =
    text_in k ks x
    ∙ ap (λ (y : List ℕ). bytes_eq x y || is_among x (texts_of ks)) is
    ∙ ap (λ (b : Bool). bytes_eq x name || b) (before x)
    ∙ or_placed (bytes_eq x name) (is_among x names) (is_among x old)
    ∙ ap (λ (b : Bool). b || is_among x old) (sym (among_append x names (name ∷ [])))

pub among_groups : (g : List Text) (ks : List Texts) → list_any (is_at (λ k. slice_cmp by_text g k.items)) ks ≡ is_one_of (texts_of g) (map group_of ks)
among_groups g [] = refl
among_groups g (k ∷ ks) = rw (same_names g k.items, among_groups g ks) refl

group_by : (h : Group) (k q : Texts) (ks : List Texts) (o : Ordering) → by_group k q ≡ o → is_one_of h (map group_of (insert_key by_group ks k)) ≡ (is_group h (group_of k) || is_one_of h (map group_of ks))
    → is_one_of h (map group_of (match_ordering o (k ∷ q ∷ ks) (q ∷ ks) (q ∷ insert_key by_group ks k))) ≡ (is_group h (group_of k) || (is_group h (group_of q) || is_one_of h (map group_of ks)))
group_by h k q ks Less e rest = refl
group_by h k q ks Equal e rest =
    sym (or_twice (is_group h (group_of q)) (is_one_of h (map group_of ks)))
    ∙ ap (λ (g : Group). is_group h g || (is_group h (group_of q) || is_one_of h (map group_of ks))) (sym (equal_groups k q e))
group_by h k q ks Greater e rest =
    ap (λ (b : Bool). is_group h (group_of q) || b) rest ∙ or_swapped (is_group h (group_of q)) (is_group h (group_of k)) (is_one_of h (map group_of ks))

pub group_in : (k : Texts) (ks : List Texts) → HasGroup (group_of k) (map group_of ks) (map group_of (insert_key by_group ks k))
group_in k [] h = refl
group_in k (q ∷ ks) h = group_by h k q ks (by_group k q) refl (group_in k ks h)

-- ---- maps from groups

if_twice : {A : Type 0} (b : Bool) (x y z : A) → (if b then x else z) ≡ (if b then x else if b then y else z)
if_twice true x y z = refl
if_twice false x y z = refl

if_swapped : {A : Type 0} (a b : Bool) (x y z : A) → (a ≡ true → b ≡ true → ⊥) → (if a then x else if b then y else z) ≡ (if b then y else if a then x else z)
if_swapped true true x y z n = absurd (n refl refl)
if_swapped true false x y z n = refl
if_swapped false true x y z n = refl
if_swapped false false x y z n = refl

not_two : (h : Group) (k q : Texts) → by_group k q ≡ Greater → is_group h (group_of q) ≡ true → is_group h (group_of k) ≡ true → ⊥
not_two h k q e a b =
    let one : group_of k ≡ group_of q = sym ((group_decides h (group_of k)).0 b) ∙ (group_decides h (group_of q)).0 a in
    let same : is_eq (by_group k q) ≡ true = same_names k.items q.items ∙ (group_decides (group_of k) (group_of q)).1 one in
    false≢true (sym (ap is_eq e) ∙ same)

-- with values that are seen by f
module _ {V W : Type 0} (f : V → W) where
  abbrev pub Entry : Type 0
  Entry = Texts × V

  found_by : (v : V) (rest : Option V) (is : Option W) (b : Bool) → option_map f rest ≡ is → option_map f (cond b (Some v) rest) ≡ (if b then Some (f v) else is)
  found_by v rest is true e = refl
  found_by v rest is false e = e

  pub finds : (g : List Text) (es : List Entry) → option_map f (lookup (is_at (λ k. slice_cmp by_text g k.items)) es) ≡ found (found_as f es) (texts_of g)
  finds g [] = refl
  finds g (e ∷ es) = rw (same_names g e.0.items) (found_by e.1 _ _ (is_group (texts_of g) (group_of e.0)) (finds g es))

  put_by : (h : Group) (k : Texts) (v : V) (e : Entry) (es : List Entry) (o : Ordering) → by_group k e.0 ≡ o
      → found (found_as f (insert_entry by_group es k v)) h ≡ (if is_group h (group_of k) then Some (f v) else found (found_as f es) h)
      → found (found_as f (match_ordering o ((k, v) ∷ e ∷ es) ((e.0, v) ∷ es) (e ∷ insert_entry by_group es k v))) h
      ≡ (if is_group h (group_of k) then Some (f v) else if is_group h (group_of e.0) then Some (f e.1) else found (found_as f es) h)
  put_by h k v e es Less o rest = refl
  put_by h k v e es Equal o rest =
      if_twice (is_group h (group_of e.0)) (Some (f v)) (Some (f e.1)) (found (found_as f es) h)
      ∙ ap (λ (g : Group). if is_group h g then Some (f v) else if is_group h (group_of e.0) then Some (f e.1) else found (found_as f es) h) (sym (equal_groups k e.0 o))
  put_by h k v e es Greater o rest =
      ap (λ (p : Option W). if is_group h (group_of e.0) then Some (f e.1) else p) rest
      ∙ if_swapped (is_group h (group_of e.0)) (is_group h (group_of k)) (Some (f e.1)) (Some (f v)) (found (found_as f es) h) (not_two h k e.0 o)

  -- What is found once a value was put in.
  pub puts : (k : Texts) (v : V) (es : List Entry) (h : Group) → found (found_as f (insert_entry by_group es k v)) h ≡ (if is_group h (group_of k) then Some (f v) else found (found_as f es) h)
  puts k v [] h = refl
  puts k v (e ∷ es) h = put_by h k v e es (by_group k e.0) refl (puts k v es h)

  taken_by : (g h : Group) (e : Entry) (es rest : List Entry) (b : Bool) → is_group g (group_of e.0) ≡ b → is_group h g ≡ false → found (found_as f rest) h ≡ found (found_as f es) h
      → found (found_as f (cond b es (e ∷ rest))) h ≡ (if is_group h (group_of e.0) then Some (f e.1) else found (found_as f es) h)
  taken_by g h e es rest true b other same =
      (let q : is_group h (group_of e.0) ≡ false = ap (is_group h) (sym ((group_decides g (group_of e.0)).0 b)) ∙ other in rw q refl)
  taken_by g h e es rest false b other same = ap (λ (p : Option W). if is_group h (group_of e.0) then Some (f e.1) else p) same

  takes_others : (g : List Text) (es : List Entry) (h : Group) → is_group h (texts_of g) ≡ false
      → found (found_as f (remove_entry (is_at (λ k. slice_cmp by_text g k.items)) es)) h ≡ found (found_as f es) h
  takes_others g [] h other = refl
  takes_others g (e ∷ es) h other =
      rw (same_names g e.0.items) (taken_by (texts_of g) h e es _ (is_group (texts_of g) (group_of e.0)) refl other (takes_others g es h other))

  -- What is found once a value was taken out, of which none is left.
  pub takes : (g : List Text) (es : List Entry) → found (found_as f (remove_entry (is_at (λ k. slice_cmp by_text g k.items)) es)) (texts_of g) ≡ None
      → (h : Group) → found (found_as f (remove_entry (is_at (λ k. slice_cmp by_text g k.items)) es)) h ≡ (if is_group h (texts_of g) then None else found (found_as f es) h)
  takes g es none h = elim (cases_Bool (is_group h (texts_of g))) [
    | inl e ↦ (
        let here : found (found_as f (remove_entry (is_at (λ k. slice_cmp by_text g k.items)) es)) h ≡ None =
        ap (found (found_as f (remove_entry (is_at (λ k. slice_cmp by_text g k.items)) es))) ((group_decides h (texts_of g)).0 e) ∙ none in
        rw e here
        )
    | inr e ↦ rw e (takes_others g es h e)
  ]

pub seen_alike : {V : Type 0} (o : Option V) → o ≡ option_map (λ v. v) o
seen_alike None = refl
seen_alike (Some v) = refl
