-- What is written of a picture is read back: part after part, with the nodes that are met in it.
use Rattle.std.specs.Prelude.{◌≡◌, ℕ, suc, ◌<◌, ◌≤◌, ◌^◌, ◌==◌, nat_le, nat_lt, ⊤, ℤ, pos, FitsSigned, Bool, true, false, not, ◌&&◌, ◌||◌, if◌then◌else◌, List, [], ◌∷◌, ◌++◌, length, take, drop, map, flat_map, Option, Some, None, option_and_then, Result, Ok, Err}
use Rattle.std.specs.Int.{w32, w128, to_be_bytes, from_be_bytes, cast_unsigned, cast_signed}
use Rattle.std.specs.Ordering.{int_eq}
use Rattle.std.specs.Str.{encode_utf8_all, chars, all_scalars, bytes_eq}
use Rattle.std.specs.List.{AllByRecursion, list_any}
use Rattle.std.specs.Cmp.Lexicographic.{bytes_decides}
use Rattle.std.proofs.Common.{refl, ap, sym, ◌∙◌, subst, arith, inl, inr, append_assoc, append-nil, length-append}
use Rattle.std.proofs.lemmas.Bool.{cases_Bool, cases_lt, le-leb, lt-ltb, le-ltb}
use Rattle.std.proofs.lemmas.List.{take_at, drop_at}
use Rattle.std.proofs.lemmas.Nat.{from_be_bytes-to_be_bytes_4}
use Rattle.std.proofs.lemmas.Int.{to_z-of_z}
use Rattle.std.proofs.lemmas.Str.{chars-encodes}
use Rattle.kishu_language.specs.Limits.{longest_text}
use Rattle.kishu_language.specs.declared.profile.Profile.{Profile}
use Rattle.kishu_language.specs.declared.profile.Profile.TheVariants.{One}
use Rattle.kishu_language.specs.tokens.Names.{is_name}
use Rattle.kishu_meaning.specs.values.Keys.{Key, KeyPart, is_one}
use Rattle.kishu_meaning.specs.values.Keys as k
use Rattle.kishu_meaning.specs.values.Values.{Value, none, bool, integer, text, range, builtin, class, node, Node, list, tuple, dict, object, function, exception, Names, State}
use Rattle.kishu_meaning.specs.values.Sound.{builtins, classes, is_exception_class}
use Rattle.kishu_bytes.specs.Numbers.{four, sixteen}
use Rattle.kishu_reading_laws.specs.WholeNumbers.{from_sixteen, below_128}
use Rattle.kishu_objects.specs.Shape.{children}
use Rattle.kishu_objects.specs.Picture.{number, numbers}
use Rattle.kishu_objects_laws.specs.ListLaws.{same_or_not}
use Rattle.kishu_objects.specs.Reading.{counted, rows_counted, IsInOrder}
use Rattle.kishu_objects.specs.Bytes.{in_four, short, long, many, value_bytes, part_bytes, key_bytes, entry_bytes, name_bytes, row_bytes, state_bytes}
use Rattle.kishu_objects.specs.Fits.{IsCounted, Spells, PartFits, KeyFits}
use Rattle.kishu_reading.specs.FromBytes as r
use Rattle.kishu_reading.specs.FromBytes.{Front, Reader, Reading, ◌>>=◌, and_then, keeping, repeated, give, bytes, byte, is_utf8, meets, node_number, value_behind, value, part, part_behind, key, key_behind, short_name, row, row_behind, function_row, is_code, is_number, code_defaults, is_behind, node_count, at_end, whole_picture, with_place, read_picture}

abbrev pub front : List ℕ → ℕ → Front
front z m = record { rest = z; met = m }

-- The reader takes these bytes for this, and meets these nodes.
pub record Takes {A : Type 0} (p : Reader A) (a : A) (bs is : List ℕ) : Type 0 where
  pub reads : (z : List ℕ) (m n : ℕ) → counted m is ≡ Some n → p (front (bs ++ z) m) ≡ Ok (a, front z n)

-- ---- one after another

pub counted_cut : (is js : List ℕ) (m n : ℕ) → counted m (is ++ js) ≡ Some n → (k : ℕ) × (counted m is ≡ Some k) × (counted k js ≡ Some n)
counted_cut [] js m n e = (m, refl, e)
counted_cut (i ∷ is) js m n e = elim (cases_Bool (nat_lt i m)) [
  | inl t ↦ (
      let f : counted m (is ++ js) ≡ Some n = rw t at e in
      let k = counted_cut is js m n f in
      (k.0, ap (λ b. if b then counted m is else (if i == m then counted (suc m) is else None)) t ∙ k.1, k.2)
      )
  | inr t ↦ (
      let f : (if i == m then counted (suc m) (is ++ js) else None) ≡ Some n = rw t at e in
      elim (cases_Bool (i == m)) [
        | inl u ↦ (
            let g : counted (suc m) (is ++ js) ≡ Some n = rw u at f in
            let k = counted_cut is js (suc m) n g in (
              k.0,
              ap (λ b. if b then counted m is else (if i == m then counted (suc m) is else None)) t
                  ∙ ap (λ b. if b then counted (suc m) is else None) u ∙ k.1,
              k.2,
            )
            )
        | inr u ↦ absurd (let g : None ≡ Some n = rw u at f in cc)
      ]
      )
]

pub takes_then : {A B : Type 0} (p : Reader A) (f : A → Reader B) (a : A) (b : B) (bs cs is js : List ℕ) → Takes p a bs is → Takes (f a) b cs js
    → Takes (p >>= f) b (bs ++ cs) (is ++ js)
takes_then p f a b bs cs is js h g = record {
  reads = λ z m n e. (
      let k = counted_cut is js m n e in
      ap (λ y. and_then (p (front y m)) f) (append_assoc bs cs z) ∙ ap (λ r. and_then r f) (h.reads (cs ++ z) m k.0 k.1) ∙ g.reads z k.0 n k.2
      );
}

some_is : {m n : ℕ} → Some m ≡ Some n → m ≡ n
some_is e = cc

pub takes_map : {A B : Type 0} (p : Reader A) (f : A → B) (a : A) (bs is : List ℕ) → Takes p a bs is → Takes (p >>= λ x. give (f x)) (f a) bs is
takes_map p f a bs is h = record { reads = λ z m n e. ap (λ r. and_then r (λ x. give (f x))) (h.reads z m n e) }

pub takes_give : {A : Type 0} (a : A) → Takes (give a) a [] []
takes_give {A} a = record { reads = λ z m n e. ap {B = Reading A} (λ k. Ok (a, front z k)) (some_is e) }

pub takes_keeping : {A : Type 0} (rule : A → Bool) (p : Reader A) (a : A) (bs is : List ℕ) → rule a ≡ true → Takes p a bs is
    → Takes (keeping rule p) a bs is
takes_keeping {A} rule p a bs is t h = record {
  reads = λ z m n e.
      ap {B = Reading A} (λ o. and_then o (λ x s. if rule x then Ok (x, s) else Err (length (bs ++ z)))) (h.reads z m n e)
      ∙ ap {B = Reading A} (λ b. if b then Ok (a, front z n) else Err (length (bs ++ z))) t;
}

pub takes_as : {A : Type 0} (p : Reader A) (a b : A) (bs cs is : List ℕ) → a ≡ b → bs ≡ cs → Takes p a bs is → Takes p b cs is
takes_as {A} p a b bs cs is e f h = subst (λ (x : List ℕ). Takes p b x is) f (subst (λ (x : A). Takes p x bs is) e h)

pub takes_repeated : {A : Type 0} (p : Reader A) (w num : A → List ℕ) (as' : List A) → AllByRecursion (λ a. Takes p a (w a) (num a)) as'
    → Takes (repeated (length as') p) as' (flat_map w as') (flat_map num as')
takes_repeated p w num [] h = takes_give []
takes_repeated {A} p w num (a ∷ as') h =
    takes_then p (λ x. repeated (length as') p >>= λ xs. give (x ∷ xs)) a (a ∷ as') (w a) (flat_map w as') (num a) (flat_map num as') h.0
    (takes_map (repeated (length as') p) (λ (xs : List A). a ∷ xs) as' (flat_map w as') (flat_map num as') (takes_repeated p w num as' h.1))

-- ---- fields

pub takes_byte : (b : ℕ) → Takes byte b (b ∷ []) []
takes_byte b = record { reads = λ z m n e. ap {B = Reading ℕ} (λ k. Ok (b, front z k)) (some_is e) }

pub takes_bytes : (n : ℕ) (bs : List ℕ) → length bs ≡ n → Takes (bytes n) bs bs []
takes_bytes n bs size = record {
  reads = λ z m k e. (
      let long_enough : nat_le n (length (bs ++ z)) ≡ true = le-leb n (length (bs ++ z)) (let l = length-append bs z in omega arith) in
      ap {B = Reading (List ℕ)} (λ b. if b then Ok (take n (bs ++ z), front (drop n (bs ++ z)) m) else Err (length (bs ++ z))) long_enough
      ∙ ap {B = Reading (List ℕ)} (λ x. Ok (x, front (drop n (bs ++ z)) m)) (take_at bs z n size)
      ∙ ap {B = Reading (List ℕ)} (λ x. Ok (bs, front x m)) (drop_at bs z n size)
      ∙ ap {B = Reading (List ℕ)} (λ x. Ok (bs, front z x)) (some_is e)
      );
}

pub takes_number : (n : ℕ) → n < 2 ^ 32 → Takes r.number n (in_four n) []
unfolding in_four
takes_number n l = takes_as r.number (from_be_bytes w32 (four n)) n (in_four n) (in_four n) [] (from_be_bytes-to_be_bytes_4 n l) refl
    (takes_map (bytes 4) (from_be_bytes w32) (four n) (four n) [] (takes_bytes 4 (four n) refl))

pub takes_whole : (z : ℤ) → FitsSigned w128 z → Takes r.whole_number z (sixteen z) []
unfolding sixteen
takes_whole z l =
    let n = cast_unsigned w128 z in
    takes_as r.whole_number (cast_signed w128 (from_be_bytes w128 (to_be_bytes w128 n))) z (sixteen z) (sixteen z) []
    (ap (cast_signed w128) (from_sixteen n (below_128 z l)) ∙ to_z-of_z w128 z l) refl
    (takes_map (bytes 16) (λ bs. cast_signed w128 (from_be_bytes w128 bs)) (to_be_bytes w128 n) (to_be_bytes w128 n) []
    (takes_bytes 16 (to_be_bytes w128 n) refl))

pub utf8_of : (cs : List ℕ) → all_scalars cs ≡ true → is_utf8 (encode_utf8_all cs) ≡ true
utf8_of cs s =
    let c = chars-encodes cs s in
    ap (λ x. all_scalars x && bytes_eq (encode_utf8_all x) (encode_utf8_all cs)) c
    ∙ ap (λ b. b && bytes_eq (encode_utf8_all cs) (encode_utf8_all cs)) s ∙ (bytes_decides (encode_utf8_all cs) (encode_utf8_all cs)).1 refl

pub takes_spelled : (cs : List ℕ) → Spells cs → Takes r.spelled cs (long (encode_utf8_all cs)) []
takes_spelled cs h =
    let bs = encode_utf8_all cs in
    takes_then r.number (λ n. keeping is_utf8 (bytes n) >>= λ x. give (chars x)) (length bs) cs (in_four (length bs)) bs [] []
    (takes_number (length bs) h.1)
    (takes_as (keeping is_utf8 (bytes (length bs)) >>= λ x. give (chars x)) (chars bs) cs bs bs [] (chars-encodes cs h.0) refl
    (takes_map (keeping is_utf8 (bytes (length bs))) chars bs bs [] (takes_keeping is_utf8 (bytes (length bs)) bs bs [] (utf8_of cs h.0)
    (takes_bytes (length bs) bs refl))))

-- a name that keeps a rule, which isn't empty
pub takes_name : (rule : List ℕ → Bool) (x : List ℕ) → rule x ≡ true → not (length x == 0) ≡ true → Takes (short_name rule) x (short x) []
takes_name rule x t some =
    takes_then (keeping (λ n. not (n == 0)) byte) (λ n. keeping rule (bytes n)) (length x) x (length x ∷ []) x [] []
    (takes_keeping (λ n. not (n == 0)) byte (length x) (length x ∷ []) [] some (takes_byte (length x)))
    (takes_keeping rule (bytes (length x)) x x [] t (takes_bytes (length x) x refl))

-- ---- values

-- What a value has to keep to be read: as IsValue, but with a rule that says which nodes there are.
abbrev pub IsRead : (ℕ → Bool) → Value → Type 0
IsRead there none = Unit {0}
IsRead there (bool b) = Unit {0}
IsRead there (integer z) = FitsSigned w128 z
IsRead there (text cs) = Spells cs
IsRead there (range a b c) = FitsSigned w128 a × FitsSigned w128 b × FitsSigned w128 c × (not (int_eq c (pos 0)) ≡ true)
IsRead there (builtin n) = nat_lt n builtins ≡ true
IsRead there (class n) = nat_lt n classes ≡ true
IsRead there (node i) = (i < 2 ^ 32) × (there i ≡ true)

not_same : (a b : ℕ) → (a ≡ b → ⊥) → (a == b) ≡ false
not_same a b ne = elim (same_or_not a b) [ inl e ↦ absurd (ne e.0) | inr n ↦ n.1 ]

takes_node : (there : ℕ → Bool) (i : ℕ) → i < 2 ^ 32 → there i ≡ true → Takes (node_number there) (node i) (in_four i) (i ∷ [])
takes_node there i l t = record {
  reads = λ z m n e. (
      let rule : ℕ → Bool = λ j. nat_le j m && there j in
      let h : (nat_le i m ≡ true) × ((if i == m then suc m else m) ≡ n) = met_so m n e in
      let keeps : (nat_le i m && there i) ≡ true = ap (λ b. b && there i) h.0 ∙ t in
      ap {B = Reading Value} (λ o. and_then o meets) ((takes_keeping rule r.number i (in_four i) [] keeps (takes_number i l)).reads z m m refl)
      ∙ ap {B = Reading Value} (λ x. Ok (node i, front z x)) h.1
      );
}
  where
    met_so : (m n : ℕ) → counted m (i ∷ []) ≡ Some n → (nat_le i m ≡ true) × ((if i == m then suc m else m) ≡ n)
    met_so m n e = elim (cases_lt i m) [
      | inl f ↦ (
          let a : nat_lt i m ≡ true = lt-ltb i m f in
          let b : Some m ≡ Some n = rw a at e in
          let c : (i == m) ≡ false = not_same i m (λ g. let h : i ≡ m = g in omega arith) in
          (le-leb i m (omega arith), ap (λ x. if x then suc m else m) c ∙ some_is b)
          )
      | inr f ↦ (
          let a : nat_lt i m ≡ false = le-ltb i m f in
          let b : (if i == m then Some (suc m) else None) ≡ Some n = rw a at e in
          elim (same_or_not i m) [
            | inl g ↦ (let h : i ≡ m = g.0 in (le-leb i m (omega arith), ap (λ x. if x then suc m else m) g.1 ∙ some_is (rw g.1 at b)))
            | inr g ↦ absurd (let h : None ≡ Some n = rw g.1 at b in cc)
          ]
          )
    ]

module _ (there : ℕ → Bool) where
  tagged : (kind : ℕ) (v : Value) (bs is : List ℕ) → nat_le kind 8 ≡ true → Takes (value_behind there kind) v bs is
      → Takes (value there) v (kind ∷ bs) is
  tagged kind v bs is t h =
      takes_then (keeping (λ n. nat_le n 8) byte) (value_behind there) kind v (kind ∷ []) bs [] is
      (takes_keeping (λ n. nat_le n 8) byte kind (kind ∷ []) [] t (takes_byte kind)) h

  takes_range : (a b c : ℤ) → FitsSigned w128 a → FitsSigned w128 b → FitsSigned w128 c → not (int_eq c (pos 0)) ≡ true
      → Takes (value_behind there 5) (range a b c) (sixteen a ++ (sixteen b ++ sixteen c)) []
  takes_range a b c ha hb hc t =
      takes_then r.whole_number (λ x. r.whole_number >>= λ y. keeping (λ s. not (int_eq s (pos 0))) r.whole_number >>= λ s. give (range x y s)) a
      (range a b c) (sixteen a) (sixteen b ++ sixteen c) [] [] (takes_whole a ha)
      (takes_then r.whole_number (λ y. keeping (λ s. not (int_eq s (pos 0))) r.whole_number >>= λ s. give (range a y s)) b (range a b c) (sixteen b)
      (sixteen c) [] [] (takes_whole b hb)
      (takes_map (keeping (λ s. not (int_eq s (pos 0))) r.whole_number) (λ s. range a b s) c (sixteen c) []
      (takes_keeping (λ s. not (int_eq s (pos 0))) r.whole_number c (sixteen c) [] t (takes_whole c hc))))

  -- a value
  pub takes_value : (v : Value) → IsRead there v → Takes (value there) v (value_bytes v) (number v)
  takes_value none h = tagged 0 none [] [] refl (takes_give none)
  takes_value (bool false) h = tagged 1 (bool false) [] [] refl (takes_give (bool false))
  takes_value (bool true) h = tagged 2 (bool true) [] [] refl (takes_give (bool true))
  takes_value (integer z) h = tagged 3 (integer z) (sixteen z) [] refl (takes_map r.whole_number integer z (sixteen z) [] (takes_whole z h))
  takes_value (text cs) h =
      tagged 4 (text cs) (long (encode_utf8_all cs)) [] refl (takes_map r.spelled text cs (long (encode_utf8_all cs)) [] (takes_spelled cs h))
  takes_value (range a b c) h = tagged 5 (range a b c) (sixteen a ++ (sixteen b ++ sixteen c)) [] refl (takes_range a b c h.0 h.1 h.2 h.3)
  takes_value (builtin n) h =
      tagged 6 (builtin n) (n ∷ []) [] refl (takes_map (keeping (λ x. nat_lt x builtins) byte) builtin n (n ∷ []) []
      (takes_keeping (λ x. nat_lt x builtins) byte n (n ∷ []) [] h (takes_byte n)))
  takes_value (class n) h =
      tagged 7 (class n) (n ∷ []) [] refl (takes_map (keeping (λ x. nat_lt x classes) byte) class n (n ∷ []) []
      (takes_keeping (λ x. nat_lt x classes) byte n (n ∷ []) [] h (takes_byte n)))
  takes_value (node i) h = tagged 8 (node i) (in_four i) (i ∷ []) refl (takes_node there i h.0 h.1)

  all_values : (vs : List Value) → AllByRecursion (IsRead there) vs → AllByRecursion (λ v. Takes (value there) v (value_bytes v) (number v)) vs
  all_values [] h = tt
  all_values (v ∷ vs) h = (takes_value v h.0, all_values vs h.1)

  -- values behind their number
  pub takes_values : (vs : List Value) → IsCounted vs → AllByRecursion (IsRead there) vs
      → Takes (r.values there) vs (many value_bytes vs) (numbers vs)
  takes_values vs few h =
      takes_then r.number (λ n. repeated n (value there)) (length vs) vs (in_four (length vs)) (flat_map value_bytes vs) [] (numbers vs)
      (takes_number (length vs) few)
      (takes_repeated (value there) value_bytes number vs (all_values vs h))

-- ---- keys

part_tag : (kind : ℕ) (p : KeyPart) (bs : List ℕ) → nat_le kind 4 ≡ true → Takes (part_behind kind) p bs [] → Takes part p (kind ∷ bs) []
part_tag kind p bs t h =
    takes_then (keeping (λ n. nat_le n 4) byte) part_behind kind p (kind ∷ []) bs [] []
    (takes_keeping (λ n. nat_le n 4) byte kind (kind ∷ []) [] t (takes_byte kind)) h

-- a part behind its kind, which stands in front of it
pub takes_part : (p : KeyPart) → PartFits p → Takes part p (part_bytes p) []
takes_part k.none h = part_tag 0 k.none [] refl (takes_give k.none)
takes_part (k.bool false) h = part_tag 1 (k.bool false) [] refl (takes_give (k.bool false))
takes_part (k.bool true) h = part_tag 2 (k.bool true) [] refl (takes_give (k.bool true))
takes_part (k.integer z) h = part_tag 3 (k.integer z) (sixteen z) refl (takes_map r.whole_number k.integer z (sixteen z) [] (takes_whole z h))
takes_part (k.text cs) h =
    part_tag 4 (k.text cs) (long (encode_utf8_all cs)) refl (takes_map r.spelled k.text cs (long (encode_utf8_all cs)) [] (takes_spelled cs h))

all_parts : (ps : List KeyPart) → AllByRecursion PartFits ps → AllByRecursion (λ p. Takes part p (part_bytes p) []) ps
all_parts [] h = tt
all_parts (p ∷ ps) h = (takes_part p h.0, all_parts ps h.1)

nothing_met : {A : Type 0} (as' : List A) → flat_map {A = ℕ} (λ a. []) as' ≡ []
nothing_met [] = refl
nothing_met (a ∷ as') = nothing_met as'

key_tag : (kind : ℕ) (x : Key) (bs : List ℕ) → (nat_le kind 4 || kind == 9) ≡ true → Takes (key_behind kind) x bs [] → Takes key x (kind ∷ bs) []
key_tag kind x bs t h =
    takes_then (keeping (λ n. nat_le n 4 || n == 9) byte) key_behind kind x (kind ∷ []) bs [] []
    (takes_keeping (λ n. nat_le n 4 || n == 9) byte kind (kind ∷ []) [] t (takes_byte kind)) h

one_part : (kind : ℕ) (p : KeyPart) (bs : List ℕ) → (nat_le kind 4 || kind == 9) ≡ true → (kind == 9) ≡ false → Takes (part_behind kind) p bs []
    → Takes key (k.single p) (kind ∷ bs) []
one_part kind p bs t other h = key_tag kind (k.single p) bs t (record {
  reads = λ z m n e.
      ap {B = Reading Key} (λ b. (if b then (r.number >>= λ c. repeated c part >>= λ ps. give (k.tuple ps)) else
      (part_behind kind >>= λ q. give (k.single q))) (front (bs ++ z) m)) other
      ∙ (takes_map (part_behind kind) k.single p bs [] h).reads z m n e;
})

-- a key
pub takes_key : (x : Key) → KeyFits x → Takes key x (key_bytes x) []
takes_key (k.single k.none) h = one_part 0 k.none [] refl refl (takes_give k.none)
takes_key (k.single (k.bool false)) h = one_part 1 (k.bool false) [] refl refl (takes_give (k.bool false))
takes_key (k.single (k.bool true)) h = one_part 2 (k.bool true) [] refl refl (takes_give (k.bool true))
takes_key (k.single (k.integer z)) h =
    one_part 3 (k.integer z) (sixteen z) refl refl (takes_map r.whole_number k.integer z (sixteen z) [] (takes_whole z h))
takes_key (k.single (k.text cs)) h =
    one_part 4 (k.text cs) (long (encode_utf8_all cs)) refl refl (takes_map r.spelled k.text cs (long (encode_utf8_all cs)) [] (takes_spelled cs h))
takes_key (k.tuple ps) h =
    key_tag 9 (k.tuple ps) (many part_bytes ps) refl
    (takes_then r.number (λ c. repeated c part >>= λ qs. give (k.tuple qs)) (length ps) (k.tuple ps) (in_four (length ps)) (flat_map part_bytes ps)
    [] [] (takes_number (length ps) h.0)
    (takes_map (repeated (length ps) part) k.tuple ps (flat_map part_bytes ps) []
    (subst (λ is. Takes (repeated (length ps) part) ps (flat_map part_bytes ps) is) (nothing_met ps)
    (takes_repeated part part_bytes (λ q. []) ps (all_parts ps h.1)))))

-- ---- keys with values

-- Keys are none of those that were seen, and no two of them are one.
abbrev pub Fresh : {K : Type 0} → (K → K → Bool) → List K → List K → Type 0
Fresh same seen [] = ⊤
Fresh same seen (x ∷ xs) = (list_any (same x) seen ≡ false) × Fresh same (x ∷ seen) xs

module _ {K : Type 0} (same : K → K → Bool) (one : Reader K) (w : K → List ℕ) (there : ℕ → Bool) where
  abbrev pub pair_bytes : K × Value → List ℕ
  pair_bytes e = w e.0 ++ value_bytes e.1

  abbrev pub keys_of : List (K × Value) → List K
  keys_of es = map (λ e. e.0) es

  abbrev pub values_of : List (K × Value) → List Value
  values_of es = map (λ e. e.1) es

  pub takes_pairs : (es : List (K × Value)) (seen : List K) → Fresh same seen (keys_of es) → AllByRecursion (λ x. Takes one x (w x) []) (keys_of es)
      → AllByRecursion (IsRead there) (values_of es)
      → Takes (r.pairs same one there (length es) seen) es (flat_map pair_bytes es) (numbers (values_of es))
  takes_pairs [] seen fresh keys values = takes_give []
  takes_pairs (e ∷ es) seen fresh keys values =
      let new : not (list_any (same e.0) seen) ≡ true = ap not fresh.0 in
      takes_as (r.pairs same one there (suc (length es)) seen) (e ∷ es) (e ∷ es) (w e.0 ++ (value_bytes e.1 ++ flat_map pair_bytes es))
      (flat_map pair_bytes (e ∷ es)) (numbers (values_of (e ∷ es))) refl
      (sym (append_assoc (w e.0) (value_bytes e.1) (flat_map pair_bytes es)))
      (takes_then (keeping (λ x. not (list_any (same x) seen)) one) (λ x. value there >>= λ v. r.pairs same one there (length es) (x ∷ seen)
      >>= λ fs. give ((x, v) ∷ fs)) e.0 (e ∷ es) (w e.0)
      (value_bytes e.1 ++ flat_map pair_bytes es) [] (numbers (values_of (e ∷ es)))
      (takes_keeping (λ x. not (list_any (same x) seen)) one e.0 (w e.0) [] new keys.0)
      (takes_then (value there) (λ v. r.pairs same one there (length es) (e.0 ∷ seen) >>= λ fs. give ((e.0, v) ∷ fs)) e.1 (e ∷ es) (value_bytes e.1)
      (flat_map pair_bytes es) (number e.1) (numbers (values_of es))
      (takes_value there e.1 values.0)
      (takes_map (r.pairs same one there (length es) (e.0 ∷ seen)) (λ (fs : List (K × Value)). (e.0, e.1) ∷ fs) es (flat_map pair_bytes es)
      (numbers (values_of es)) (takes_pairs es (e.0 ∷ seen) fresh.1 keys.1 values.1))))

-- A row begins where its node was met, and the others go on with the nodes that were met in it.
pub next_row : (a : Node) (ms : List Node) (q m n : ℕ) → rows_counted q m (a ∷ ms) ≡ Some n
    → (k : ℕ) × (q < m) × (counted m (numbers (children a)) ≡ Some k) × (rows_counted (suc q) k ms ≡ Some n)
next_row a ms q m n e = elim (cases_lt q m) [
  | inl f ↦ (
      let t : nat_lt q m ≡ true = lt-ltb q m f in
      let g : option_and_then (λ k. rows_counted (suc q) k ms) (counted m (numbers (children a))) ≡ Some n = rw t at e in
      let k = step (counted m (numbers (children a))) g in
      (k.0, f, k.1, k.2)
      )
  | inr f ↦ absurd (let t : nat_lt q m ≡ false = le-ltb q m f in let g : None ≡ Some n = rw t at e in cc)
]
  where
    step : (o : Option ℕ) → option_and_then (λ k. rows_counted (suc q) k ms) o ≡ Some n
        → (k : ℕ) × (o ≡ Some k) × (rows_counted (suc q) k ms ≡ Some n)
    step None g = absurd (cc)
    step (Some k) g = (k, refl, g)

-- ---- rows

-- What a function's code has to be.
pub record IsReadCode (profile : Profile) (code : List ℕ) (defaults : ℕ) : Type 0 where
  pub known : profile ≡ One
  pub short : length code ≤ longest_text
  pub reads : is_code One code ≡ true
  pub filled : code_defaults One code ≡ Some defaults

all_keys : (es : List (Key × Value)) → AllByRecursion KeyFits (map (λ e. e.0) es)
    → AllByRecursion (λ x. Takes key x (key_bytes x) []) (map (λ e. e.0) es)
all_keys [] h = tt
all_keys (e ∷ es) h = (takes_key e.0 h.0, all_keys es h.1)

-- a name can be read
abbrev pub IsReadName : List ℕ → Type 0
IsReadName x = (is_name x ≡ true) × (not (length x == 0) ≡ true)

all_names : (es : List (List ℕ × Value)) → AllByRecursion IsReadName (map (λ e. e.0) es)
    → AllByRecursion (λ x. Takes (short_name is_name) x (short x) []) (map (λ e. e.0) es)
all_names [] h = tt
all_names (e ∷ es) h = (takes_name is_name e.0 h.0.0 h.0.1, all_names es h.1)

abbrev pub AreRead : (ℕ → Bool) → List Value → Type 0
AreRead there vs = IsCounted vs × AllByRecursion (IsRead there) vs

-- What a node has to keep to be read.
abbrev pub IsReadNode : (ℕ → Bool) → Node → Type 0
IsReadNode there (list vs) = AreRead there vs
IsReadNode there (tuple vs) = AreRead there vs
IsReadNode there (dict es) =
    IsCounted es × AllByRecursion KeyFits (map (λ e. e.0) es) × Fresh is_one [] (map (λ e. e.0) es) × AllByRecursion (IsRead there)
    (map (λ e. e.1) es)
IsReadNode there (object as') =
    IsCounted as' × AllByRecursion IsReadName (map (λ e. e.0) as') × Fresh bytes_eq [] (map (λ e. e.0) as') × AllByRecursion (IsRead there)
    (map (λ e. e.1) as')
IsReadNode there (function profile code vs) = IsReadCode profile code (length vs) × AreRead there vs
IsReadNode there (exception kind vs) = (is_exception_class kind ≡ true) × AreRead there vs

module _ (there : ℕ → Bool) where
  row_tag : (kind : ℕ) (a : Node) (bs is : List ℕ) → (nat_le 1 kind && nat_le kind 6) ≡ true → Takes (row_behind there kind) a bs is
      → Takes (row there) a (kind ∷ bs) is
  row_tag kind a bs is t h =
      takes_then (keeping (λ n. nat_le 1 n && nat_le n 6) byte) (row_behind there) kind a (kind ∷ []) bs [] is
      (takes_keeping (λ n. nat_le 1 n && nat_le n 6) byte kind (kind ∷ []) [] t (takes_byte kind)) h

  takes_function : (code : List ℕ) (vs : List Value) → IsReadCode One code (length vs) → AreRead there vs
      → Takes (function_row there) (function One code vs) (1 ∷ (long code ++ many value_bytes vs)) (numbers vs)
  takes_function code vs c h =
      let rest = in_four (length code) ++ (code ++ (in_four (length vs) ++ flat_map value_bytes vs)) in
      let small : length code < 2 ^ 32 = (let s = c.short in omega arith) in
      takes_as (function_row there) (function One code vs) (function One code vs) (1 ∷ rest) (1 ∷ (long code ++ many value_bytes vs)) (numbers vs)
      refl (ap (λ z. 1 ∷ z) (sym (append_assoc (in_four (length code)) code (many value_bytes vs))))
      (takes_then r.profile (λ rules. keeping (λ n. nat_le n longest_text) r.number >>= λ n. keeping (is_code rules) (bytes n)
      >>= λ x. keeping (is_number (code_defaults rules x)) r.number >>= λ d. repeated d (value there) >>= λ ws. give (function rules x ws))
      One (function One code vs) (1 ∷ []) rest [] (numbers vs)
      (takes_map (keeping (λ n. n == 1) byte) (λ n. One) 1 (1 ∷ []) [] (takes_keeping (λ n. n == 1) byte 1 (1 ∷ []) [] refl (takes_byte 1)))
      (takes_then (keeping (λ n. nat_le n longest_text) r.number) (λ n. keeping (is_code One) (bytes n)
      >>= λ x. keeping (is_number (code_defaults One x)) r.number >>= λ d. repeated d (value there) >>= λ ws. give (function One x ws))
      (length code) (function One code vs) (in_four (length code)) (code ++ (in_four (length vs) ++ flat_map value_bytes vs)) [] (numbers vs)
      (takes_keeping (λ n. nat_le n longest_text) r.number (length code) (in_four (length code)) [] (le-leb (length code) longest_text c.short)
      (takes_number (length code) small))
      (takes_then (keeping (is_code One) (bytes (length code))) (λ x. keeping (is_number (code_defaults One x)) r.number
      >>= λ d. repeated d (value there) >>= λ ws. give (function One x ws))
      code (function One code vs) code (in_four (length vs) ++ flat_map value_bytes vs) [] (numbers vs)
      (takes_keeping (is_code One) (bytes (length code)) code code [] c.reads (takes_bytes (length code) code refl))
      (takes_then (keeping (is_number (code_defaults One code)) r.number) (λ d. repeated d (value there) >>= λ ws. give (function One code ws))
      (length vs) (function One code vs) (in_four (length vs)) (flat_map value_bytes vs) [] (numbers vs)
      (takes_keeping (is_number (code_defaults One code)) r.number (length vs) (in_four (length vs)) []
      (right_number (code_defaults One code) c.filled) (takes_number (length vs) h.0))
      (takes_map (repeated (length vs) (value there)) (λ ws. function One code ws) vs (flat_map value_bytes vs) (numbers vs)
      (takes_repeated (value there) value_bytes number vs (all_values there vs h.1)))))))
    where
      same_true : (n : ℕ) → (n == n) ≡ true
      same_true n = elim (same_or_not n n) [ inl f ↦ f.1 | inr m ↦ absurd (m.0 refl) ]

      right_number : (o : Option ℕ) → o ≡ Some (length vs) → is_number o (length vs) ≡ true
      right_number o e = ap (λ x. is_number x (length vs)) e ∙ same_true (length vs)

  -- a row
  pub takes_row : (a : Node) → IsReadNode there a → Takes (row there) a (row_bytes a) (numbers (children a))
  takes_row (list vs) h =
      row_tag 1 (list vs) (many value_bytes vs) (numbers vs) refl (takes_map (r.values there) list vs (many value_bytes vs) (numbers vs)
      (takes_values there vs h.0 h.1))
  takes_row (tuple vs) h =
      row_tag 2 (tuple vs) (many value_bytes vs) (numbers vs) refl (takes_map (r.values there) tuple vs (many value_bytes vs) (numbers vs)
      (takes_values there vs h.0 h.1))
  takes_row (dict es) h = row_tag 3 (dict es) (many entry_bytes es) (numbers (map (λ e. e.1) es)) refl
      (takes_then r.number (λ n. r.entries there n >>= λ fs. give (dict fs)) (length es) (dict es) (in_four (length es)) (flat_map entry_bytes es)
      [] (numbers (map (λ e. e.1) es)) (takes_number (length es) h.0)
      (takes_map (r.entries there (length es)) dict es (flat_map entry_bytes es) (numbers (map (λ e. e.1) es))
      (takes_pairs is_one key key_bytes there es [] h.2 (all_keys es h.1) h.3)))
  takes_row (object es) h = row_tag 4 (object es) (many name_bytes es) (numbers (map (λ e. e.1) es)) refl
      (takes_then r.number (λ n. r.attributes there n >>= λ fs. give (object fs)) (length es) (object es) (in_four (length es))
      (flat_map name_bytes es) [] (numbers (map (λ e. e.1) es)) (takes_number (length es) h.0)
      (takes_map (r.attributes there (length es)) object es (flat_map name_bytes es) (numbers (map (λ e. e.1) es))
      (takes_pairs bytes_eq (short_name is_name) short there es [] h.2 (all_names es h.1) h.3)))
  takes_row (function profile code vs) h =
      subst (λ q. Takes (row there) (function q code vs) (row_bytes (function q code vs)) (numbers vs)) (sym h.0.known)
      (row_tag 5 (function One code vs) (1 ∷ (long code ++ many value_bytes vs)) (numbers vs) refl
      (takes_function code vs (subst (λ q. IsReadCode q code (length vs)) h.0.known h.0) h.1))
  takes_row (exception kind vs) h = row_tag 6 (exception kind vs) (kind ∷ many value_bytes vs) (numbers vs) refl
      (takes_then (keeping is_exception_class byte) (λ c. r.values there >>= λ ws. give (exception c ws)) kind (exception kind vs) (kind ∷ [])
      (many value_bytes vs) [] (numbers vs)
      (takes_keeping is_exception_class byte kind (kind ∷ []) [] h.0 (takes_byte kind))
      (takes_map (r.values there) (exception kind) vs (many value_bytes vs) (numbers vs) (takes_values there vs h.1.0 h.1.1)))

  -- rows one after another, each behind the place where its node was met
  pub takes_rows : (ms : List Node) → AllByRecursion (IsReadNode there) ms → (q : ℕ) (z : List ℕ) (m n : ℕ) → rows_counted q m ms ≡ Some n
      → r.rows there (length ms) q (front (flat_map row_bytes ms ++ z) m) ≡ Ok (ms, front z n)
  takes_rows [] h q z m n e = ap {B = Reading (List Node)} (λ k. Ok ([], front z k)) (some_is e)
  takes_rows (a ∷ ms) h q z m n e =
      let k = next_row a ms q m n e in
      let t : nat_lt q m ≡ true = lt-ltb q m k.1 in
      let whole = flat_map row_bytes (a ∷ ms) ++ z in
      let rest : Node → Reader (List Node) = λ b. r.rows there (length ms) (suc q) >>= λ bs. give (b ∷ bs) in
      ap {B = Reading (List Node)} (λ b. if b then (row there >>= rest) (front whole m) else Err (length whole)) t
      ∙ ap {B = Reading (List Node)} (λ y. and_then (row there (front y m)) rest) (append_assoc (row_bytes a) (flat_map row_bytes ms) z)
      ∙ ap {B = Reading (List Node)} (λ o. and_then o rest) ((takes_row a h.0).reads (flat_map row_bytes ms ++ z) m k.0 k.2)
      ∙ ap {B = Reading (List Node)} (λ o. and_then o (λ bs. give (a ∷ bs))) (takes_rows ms h.1 (suc q) z k.0 n k.3)

-- ---- names and the whole

-- Names that can be read, behind the last one.
abbrev pub Follow : Option (List ℕ) → Names → Type 0
Follow last [] = ⊤
Follow last (b ∷ bs) = ((is_name b.0 && is_behind last b.0) ≡ true) × (not (length b.0 == 0) ≡ true) × IsRead (λ i. true) b.1 × Follow (Some b.0) bs

pub takes_names : (ns : Names) (last : Option (List ℕ)) → Follow last ns
    → Takes (r.names (length ns) last) ns (flat_map name_bytes ns) (numbers (map (λ (b : List ℕ × Value). b.1) ns))
takes_names [] last h = takes_give []
takes_names (b ∷ bs) last h =
    takes_as (r.names (suc (length bs)) last) (b ∷ bs) (b ∷ bs) (short b.0 ++ (value_bytes b.1 ++ flat_map name_bytes bs))
    (flat_map name_bytes (b ∷ bs)) (numbers (map (λ (d : List ℕ × Value). d.1) (b ∷ bs))) refl
    (sym (append_assoc (short b.0) (value_bytes b.1) (flat_map name_bytes bs)))
    (takes_then (short_name (λ x. is_name x && is_behind last x)) (λ x. value (λ i. true) >>= λ v. r.names (length bs) (Some x)
    >>= λ ns. give ((x, v) ∷ ns)) b.0 (b ∷ bs) (short b.0)
    (value_bytes b.1 ++ flat_map name_bytes bs) [] (numbers (map (λ (d : List ℕ × Value). d.1) (b ∷ bs)))
    (takes_name (λ x. is_name x && is_behind last x) b.0 h.0 h.1)
    (takes_then (value (λ i. true)) (λ v. r.names (length bs) (Some b.0) >>= λ ns. give ((b.0, v) ∷ ns)) b.1 (b ∷ bs) (value_bytes b.1)
    (flat_map name_bytes bs) (number b.1) (numbers (map (λ (d : List ℕ × Value). d.1) bs))
    (takes_value (λ i. true) b.1 h.2)
    (takes_map (r.names (length bs) (Some b.0)) (λ (ns : Names). (b.0, b.1) ∷ ns) bs (flat_map name_bytes bs)
    (numbers (map (λ (d : List ℕ × Value). d.1) bs)) (takes_names bs (Some b.0) h.3))))

-- What a state has to keep to be read as a picture.
pub record IsReadable (p : State) : Type 0 where
  pub many : IsCounted p.names
  pub names : Follow None p.names
  pub count : IsCounted p.nodes
  pub nodes : AllByRecursion (IsReadNode (λ i. nat_lt i (length p.nodes))) p.nodes
  pub order : IsInOrder p

pub counted_up : (is : List ℕ) (m n : ℕ) → counted m is ≡ Some n → m ≤ n
counted_up [] m n e = (let f : m ≡ n = some_is e in omega arith)
counted_up (i ∷ is) m n e = elim (cases_Bool (nat_lt i m)) [
  | inl t ↦ counted_up is m n (rw t at e)
  | inr t ↦ (
      let f : (if i == m then counted (suc m) is else None) ≡ Some n = rw t at e in
      elim (cases_Bool (i == m)) [
        | inl u ↦ (let g = counted_up is (suc m) n (rw u at f) in omega arith)
        | inr u ↦ absurd (let g : None ≡ Some n = rw u at f in cc)
      ]
      )
]

pub rows_up : (ms : List Node) (q m n : ℕ) → rows_counted q m ms ≡ Some n → m ≤ n
rows_up [] q m n e = (let f : m ≡ n = some_is e in omega arith)
rows_up (a ∷ ms) q m n e =
    let k = next_row a ms q m n e in
    let x = counted_up (numbers (children a)) m k.0 k.2 in
    let y = rows_up ms (suc q) k.0 n k.3 in
    omega arith

-- What is written of such a state is read as it.
pub written_is_read : (p : State) → IsReadable p → read_picture (state_bytes p) ≡ Ok p
unfolding read_picture
written_is_read p h =
    let ns = p.names in
    let ms = p.nodes in
    let there : ℕ → Bool = λ i. nat_lt i (length ms) in
    let first = numbers (map (λ (b : List ℕ × Value). b.1) ns) in
    let k = begun (counted 0 first) h.order in
    let behind = many row_bytes ms in
    let up = rows_up ms 0 k.0 (length ms) k.2 in
    let of_names : Reader State =
    r.names (length ns) None >>= λ xs. node_count >>= λ m. r.rows (λ i. nat_lt i m) m 0 >>= λ ys. at_end (record { names = xs; nodes = ys }) in
    let of_count : Names → Reader State =
    λ xs. node_count >>= λ m. r.rows (λ i. nat_lt i m) m 0 >>= λ ys. at_end (record { names = xs; nodes = ys }) in
    let of_rows : ℕ → Reader State = λ m. r.rows (λ i. nat_lt i m) m 0 >>= λ ys. at_end (record { names = ns; nodes = ys }) in
    let of_end : List Node → Reader State = λ ys. at_end (record { names = ns; nodes = ys }) in
    let size = length (state_bytes p) in
    ap {B = Result State ℕ} (λ y. with_place size (whole_picture (front y 0))) (append_assoc (in_four (length ns)) (flat_map name_bytes ns) behind)
    ∙ ap {B = Result State ℕ} (λ o. with_place size (and_then o (λ n. r.names n None >>= of_count)))
    ((takes_number (length ns) h.many).reads (flat_map name_bytes ns ++ behind) 0 0 refl)
    ∙ ap {B = Result State ℕ} (λ o. with_place size (and_then o of_count)) ((takes_names ns None h.names).reads behind 0 k.0 k.1)
    ∙ ap {B = Result State ℕ} (λ o. with_place size (and_then o of_rows))
    ((takes_keeping (nat_le k.0) r.number (length ms) (in_four (length ms)) [] (le-leb k.0 (length ms) up)
    (takes_number (length ms) h.count)).reads (flat_map row_bytes ms) k.0 k.0 refl)
    ∙ ap {B = Result State ℕ} (λ y. with_place size (and_then (r.rows there (length ms) 0 (front y k.0)) of_end))
    (sym (append-nil (flat_map row_bytes ms)))
    ∙ ap {B = Result State ℕ} (λ o. with_place size (and_then o of_end)) (takes_rows there ms h.nodes 0 [] k.0 (length ms) k.2)
  where
    begun : (o : Option ℕ) → option_and_then (λ n. rows_counted 0 n p.nodes) o ≡ Some (length p.nodes)
        → (n : ℕ) × (o ≡ Some n) × (rows_counted 0 n p.nodes ≡ Some (length p.nodes))
    begun None e = absurd (cc)
    begun (Some n) e = (n, refl, e)
