-- What can be read as a picture are states whose nodes stand in the order of first meeting.
use Rattle.std.specs.Prelude.{◌≡◌, ℕ, suc, ◌<◌, ◌≤◌, ◌^◌, ◌==◌, nat_lt, ℤ, pos, negsuc, FitsSigned, Bool, true, false, not, ◌&&◌, ◌||◌, if◌then◌else◌, IsTrue, IsFalse, List, [], ◌∷◌, length, map, Option, Some, None, option_and_then, Result, Ok, Err}
use Rattle.std.specs.Int.{w128}
use Rattle.std.specs.Ordering.{nat_cmp, int_eq, match_ordering}
use Rattle.std.specs.Str.{encode_utf8_all, chars, all_scalars, bytes_eq}
use Rattle.std.specs.List.{AllByRecursion, list_any}
use Rattle.std.specs.List.Sorted.{IsStrictlySortedBy}
use Rattle.std.specs.Cmp.Lexicographic.{bytes_decides, slice_cmp}
use Rattle.std.specs.declared.cmp.Ordering.{Ordering}
use Rattle.std.specs.declared.cmp.Ordering.TheVariants.{Less, Equal, Greater}
use Rattle.std.proofs.Common.{refl, ap, sym, ◌∙◌, subst, arith, inl, inr}
use Rattle.std.proofs.lemmas.Bool.{cases_Bool, and_parts, lt-ltb, ltb-true}
use Rattle.std.proofs.lemmas.Bool.Decides.{nat_tests}
use Rattle.std.proofs.lemmas.Cmp.{nat_list_cmp_total}
use Rattle.kishu_language.specs.declared.profile.Profile.{Profile}
use Rattle.kishu_language.specs.declared.profile.Profile.TheVariants.{One}
use Rattle.kishu_language.specs.reading.ReadText.{read_chars, ReadsDef}
use Rattle.kishu_language.specs.tokens.Names.{is_name}
use Rattle.kishu_language.specs.trees.Tree.{Text, Statement, Definition}
use Rattle.kishu_language.specs.trees.Tree as t
use Rattle.kishu_meaning.specs.values.KeyLaws.{is_one_equiv}
use Rattle.kishu_meaning.specs.values.Keys.{Key, KeyPart, is_one}
use Rattle.kishu_meaning.specs.values.Keys as k
use Rattle.kishu_meaning.specs.values.Numbers.{is_whole}
use Rattle.kishu_meaning.specs.values.Sound.{builtins, classes, default_count}
use Rattle.kishu_meaning.specs.values.Values.{Value, none, bool, integer, text, range, builtin, class, node, Node, list, tuple, dict, object, function, exception, Names, State}
use Rattle.kishu_objects.specs.Lists.{In}
use Rattle.kishu_objects.specs.Picture.{number, numbers}
use Rattle.kishu_objects.specs.Reading.{counted, rows_counted, IsInOrder}
use Rattle.kishu_objects.specs.Fits.{ValueFits, PartFits, KeyFits, NodeFits}
use Rattle.kishu_objects.specs.State.{IsValue, AreValues, IsKeyPart, IsKey, AreApart, IsName, keys_in, values_in, IsCode, IsNode}
use Rattle.kishu_objects_laws.specs.ListLaws.{same_or_not, in_left, in_right}
use Rattle.kishu_reading.specs.FromBytes.{is_utf8, is_there, is_behind, code_defaults, defaults_in, defaults_of}
use Rattle.kishu_reading.specs.Pictured.{HasKnownProfile, IsInPicture}
use Rattle.kishu_reading_laws.specs.TakingLaws.{IsRead, IsReadCode, IsReadName, IsReadNode, Fresh, Follow, IsReadable, utf8_of, counted_up, rows_up}
use Rattle.kishu_reading_laws.specs.GivingLaws.{some_number}

-- ---- whole numbers and texts

whole_fits : (z : ℤ) → IsTrue (is_whole z) → FitsSigned w128 z
whole_fits (pos n) h = (let below : n < 2 ^ 127 = grind (arith, nat_tests) in record { sfits = below })
whole_fits (negsuc n) h = (let below : n < 2 ^ 127 = grind (arith, nat_tests) in record { sfits = below })

fits_whole : (z : ℤ) → FitsSigned w128 z → IsTrue (is_whole z)
fits_whole (pos n) f = (let below : n < 2 ^ 127 = f.sfits in grind (arith, nat_tests))
fits_whole (negsuc n) f = (let below : n < 2 ^ 127 = f.sfits in grind (arith, nat_tests))

not_true : (b : Bool) → not b ≡ true → IsFalse b
not_true false e = refl
not_true true e = absurd (cc)

not_false : (b : Bool) → IsFalse b → not b ≡ true
not_false false e = refl
not_false true e = absurd (let f : true ≡ false = e in cc)

-- ---- values

-- what was read among nodes of which a rule tells is a value among so many, where the rule tells these
module _ (there : ℕ → Bool) (n : ℕ) where
  value_of_read : ((i : ℕ) → there i ≡ true → i < n) → (v : Value) → IsRead there v → IsValue n v
  value_of_read low none h = tt
  value_of_read low (bool b) h = tt
  value_of_read low (integer z) h = fits_whole z h
  value_of_read low (text cs) h = h.0
  value_of_read low (range a b c) h = (fits_whole a h.0, fits_whole b h.1, fits_whole c h.2, not_true (int_eq c (pos 0)) h.3)
  value_of_read low (builtin m) h = ltb-true m builtins h
  value_of_read low (class m) h = ltb-true m classes h
  value_of_read low (node i) h = low i h.1

  pub values_of_read : ((i : ℕ) → there i ≡ true → i < n) → (vs : List Value) → AllByRecursion (IsRead there) vs → AreValues n vs
  values_of_read low [] h = tt
  values_of_read low (v ∷ vs) h = (value_of_read low v h.0, values_of_read low vs h.1)

  read_of_value : ((i : ℕ) → i < n → there i ≡ true) → (v : Value) → IsValue n v → ValueFits v → IsRead there v
  read_of_value high none h f = tt
  read_of_value high (bool b) h f = tt
  read_of_value high (integer z) h f = f
  read_of_value high (text cs) h f = f
  read_of_value high (range a b c) h f = (f.0, f.1, f.2, not_false (int_eq c (pos 0)) h.3)
  read_of_value high (builtin m) h f = lt-ltb m builtins h
  read_of_value high (class m) h f = lt-ltb m classes h
  read_of_value high (node i) h f = (f, high i h)

  pub reads_of_values : ((i : ℕ) → i < n → there i ≡ true) → (vs : List Value) → AreValues n vs → AllByRecursion ValueFits vs
      → AllByRecursion (IsRead there) vs
  reads_of_values high [] h f = tt
  reads_of_values high (v ∷ vs) h f = (read_of_value high v h.0 f.0, reads_of_values high vs h.1 f.1)

  fits_of_read : (v : Value) → IsRead there v → ValueFits v
  fits_of_read none h = tt
  fits_of_read (bool b) h = tt
  fits_of_read (integer z) h = h
  fits_of_read (text cs) h = h
  fits_of_read (range a b c) h = (h.0, h.1, h.2)
  fits_of_read (builtin m) h = tt
  fits_of_read (class m) h = tt
  fits_of_read (node i) h = h.0

  fits_of_reads : (vs : List Value) → AllByRecursion (IsRead there) vs → AllByRecursion ValueFits vs
  fits_of_reads [] h = tt
  fits_of_reads (v ∷ vs) h = (fits_of_read v h.0, fits_of_reads vs h.1)

-- ---- keys

part_of_fit : (p : KeyPart) → PartFits p → IsKeyPart p
part_of_fit k.none h = tt
part_of_fit (k.bool b) h = tt
part_of_fit (k.integer z) h = fits_whole z h
part_of_fit (k.text cs) h = h.0

parts_of_fits : (ps : List KeyPart) → AllByRecursion PartFits ps → AllByRecursion IsKeyPart ps
parts_of_fits [] h = tt
parts_of_fits (p ∷ ps) h = (part_of_fit p h.0, parts_of_fits ps h.1)

key_of_fit : (x : Key) → KeyFits x → IsKey x
key_of_fit (k.single p) h = part_of_fit p h
key_of_fit (k.tuple ps) h = parts_of_fits ps h.1

keys_of_fits : (xs : List Key) → AllByRecursion KeyFits xs → AllByRecursion IsKey xs
keys_of_fits [] h = tt
keys_of_fits (x ∷ xs) h = (key_of_fit x h.0, keys_of_fits xs h.1)

-- what is apart from those before it is apart from those behind it
module _ {K : Type 0} (same : K → K → Bool) (turned : (x y : K) → same x y ≡ true → same y x ≡ true) where
  abbrev IsNoneOf : List K → K → Type 0
  IsNoneOf seen x = list_any (same x) seen ≡ false

  none_first : (x y : K) (seen : List K) → IsNoneOf (y ∷ seen) x → (same x y ≡ false) × IsNoneOf seen x
  none_first x y seen h = elim (cases_Bool (same x y)) [
    | inl e ↦ absurd (let f : true ≡ false = sym (ap (λ b. b || list_any (same x) seen) e) ∙ h in cc)
    | inr e ↦ (e, sym (ap (λ b. b || list_any (same x) seen) e) ∙ h)
  ]

  none_more : (x y : K) (seen : List K) → same x y ≡ false → IsNoneOf seen x → IsNoneOf (y ∷ seen) x
  none_more x y seen e h = ap (λ b. b || list_any (same x) seen) e ∙ h

  turned_false : (x y : K) → same x y ≡ false → same y x ≡ false
  turned_false x y e = elim (cases_Bool (same y x)) [ inl f ↦ absurd (let g : true ≡ false = sym (turned y x f) ∙ e in cc) | inr f ↦ f ]

  -- each of them is none of those that were seen
  fresh_none : (xs seen : List K) → Fresh same seen xs → AllByRecursion (IsNoneOf seen) xs
  fresh_none [] seen h = tt
  fresh_none (x ∷ xs) seen h = (h.0, drop_one xs (fresh_none xs (x ∷ seen) h.1))
    where
      drop_one : (ys : List K) → AllByRecursion (IsNoneOf (x ∷ seen)) ys → AllByRecursion (IsNoneOf seen) ys
      drop_one [] h = tt
      drop_one (y ∷ ys) h = ((none_first y x seen h.0).1, drop_one ys h.1)

  none_of_all : (x : K) (ys seen : List K) → AllByRecursion (IsNoneOf (x ∷ seen)) ys → list_any (same x) ys ≡ false
  none_of_all x [] seen h = refl
  none_of_all x (y ∷ ys) seen h = ap (λ b. b || list_any (same x) ys) (turned_false y x (none_first y x seen h.0).0) ∙ none_of_all x ys seen h.1

  pub apart_of_fresh : (xs seen : List K) → Fresh same seen xs → AreApart same xs
  apart_of_fresh [] seen h = tt
  apart_of_fresh (x ∷ xs) seen h = (none_of_all x xs seen (fresh_none xs (x ∷ seen) h.1), apart_of_fresh xs (x ∷ seen) h.1)

  fresh_of : (xs seen : List K) → AreApart same xs → AllByRecursion (IsNoneOf seen) xs → Fresh same seen xs
  fresh_of [] seen h n = tt
  fresh_of (x ∷ xs) seen h n = (n.0, fresh_of xs (x ∷ seen) h.1 (more xs h.0 n.1))
    where
      more : (ys : List K) → list_any (same x) ys ≡ false → AllByRecursion (IsNoneOf seen) ys → AllByRecursion (IsNoneOf (x ∷ seen)) ys
      more [] e m = tt
      more (y ∷ ys) e m = elim (cases_Bool (same x y)) [
        | inl f ↦ absurd (let g : true ≡ false = sym (ap (λ b. b || list_any (same x) ys) f) ∙ e in cc)
        | inr f ↦ (none_more y x seen (turned_false x y f) m.0, more ys (sym (ap (λ b. b || list_any (same x) ys) f) ∙ e) m.1)
      ]

  all_none : (xs : List K) → AllByRecursion (IsNoneOf []) xs
  all_none [] = tt
  all_none (x ∷ xs) = (refl, all_none xs)

  pub fresh_of_apart : (xs : List K) → AreApart same xs → Fresh same [] xs
  fresh_of_apart xs h = fresh_of xs [] h (all_none xs)

texts_turned : (x y : List ℕ) → bytes_eq x y ≡ true → bytes_eq y x ≡ true
texts_turned x y e = (bytes_decides y x).1 (sym ((bytes_decides x y).0 e))

-- a name isn't empty
name_some : (x : List ℕ) → is_name x ≡ true → not (length x == 0) ≡ true
name_some [] e = absurd (cc)
name_some (c ∷ cs) e = some_long (length cs)
  where
    some_long : (n : ℕ) → not (suc n == 0) ≡ true
    some_long n = elim (same_or_not (suc n) 0) [ inl f ↦ absurd (let g : suc n ≡ 0 = f.0 in omega arith) | inr m ↦ ap not m.1 ]

read_names : (xs : List (List ℕ)) → AllByRecursion IsName xs → AllByRecursion IsReadName xs
read_names [] h = tt
read_names (x ∷ xs) h = ((h.0, name_some x h.0), read_names xs h.1)

names_of_read : (xs : List (List ℕ)) → AllByRecursion IsReadName xs → AllByRecursion IsName xs
names_of_read [] h = tt
names_of_read (x ∷ xs) h = (h.0.0, names_of_read xs h.1)

-- ---- code

pub record Alone (code : Text) (n : ℕ) (r : Result (List Statement) ℕ) : Type 0 where
  pub function : Definition
  pub is : r ≡ Ok (t.define function.title function.parameters function.body code ∷ [])
  pub many : n ≡ default_count function

alone_if : (code : Text) (n : ℕ) (d : Definition) (own : Text) (b : Bool) → bytes_eq own code ≡ b
    → (if b then Some (default_count d) else None) ≡ Some n → Alone code n (Ok (t.define d.title d.parameters d.body own ∷ []))
alone_if code n d own true e h = record {
  function = d;
  is = ap (λ c. Ok (t.define d.title d.parameters d.body c ∷ [])) ((bytes_decides own code).0 e);
  many = sym (some_number (default_count d) n h);
}
alone_if code n d own false e h = absurd cc

alone_of : (code : Text) (n : ℕ) (s : Statement) → defaults_of code s ≡ Some n → Alone code n (Ok (s ∷ []))
alone_of code n (t.define x ps body own) h = alone_if code n (record { title = x; parameters = ps; body = body }) own (bytes_eq own code) refl h
alone_of code n t.pass h = absurd cc
alone_of code n t.break h = absurd cc
alone_of code n t.continue h = absurd cc
alone_of code n (t.return e) h = absurd cc
alone_of code n (t.raise e) h = absurd cc
alone_of code n (t.assert e message) h = absurd cc
alone_of code n (t.delete es) h = absurd cc
alone_of code n (t.global xs) h = absurd cc
alone_of code n (t.import x) h = absurd cc
alone_of code n (t.update e operator operand) h = absurd cc
alone_of code n (t.assign es e) h = absurd cc
alone_of code n (t.choose as' other) h = absurd cc
alone_of code n (t.while e body) h = absurd cc
alone_of code n (t.for e walked body) h = absurd cc
alone_of code n (t.try body hs other last) h = absurd cc
alone_of code n (t.finally body last) h = absurd cc

found : (code : Text) (n : ℕ) (r : Result (List Statement) ℕ) → defaults_in code r ≡ Some n → Alone code n r
found code n (Ok []) h = absurd cc
found code n (Ok (s ∷ [])) h = alone_of code n s h
found code n (Ok (s ∷ (u ∷ ss))) h = absurd cc
found code n (Err line) h = absurd cc

-- A text of which so many defaults are told is the code of a function that has them.
pub code_found : (profile : Profile) (code : Text) (n : ℕ) → code_defaults profile code ≡ Some n → Alone code n (read_chars profile (chars code))
unfolding code_defaults
code_found profile code n h = found code n (read_chars profile (chars code)) h

pub code_told : (profile : Profile) (code : Text) (d : Definition) → ReadsDef profile code d → code_defaults profile code ≡ Some (default_count d)
unfolding code_defaults
code_told profile code d h = ap (defaults_in code) h ∙ ap (λ b. if b then Some (default_count d) else None) ((bytes_decides code code).1 refl)

code_of_read : (profile : Profile) (code : Text) (n : ℕ) → IsReadCode profile code n → IsCode profile code n
code_of_read profile code n h =
    let a = code_found One code n h.filled in
    let u = and_parts (is_utf8 code) (is_there (code_defaults One code)) h.reads in
    let v = and_parts (all_scalars (chars code)) (bytes_eq (encode_utf8_all (chars code)) code) u.0 in
    record {
      utf8 = (chars code, (v.0, (bytes_decides (encode_utf8_all (chars code)) code).0 v.1));
      short = h.short;
      function = a.function;
      reads = ap (λ q. read_chars q (chars code)) h.known ∙ a.is;
      filled = a.many;
    }

read_of_code : (code : Text) (n : ℕ) → IsCode One code n → IsReadCode One code n
read_of_code code n h =
    let told = code_told One code h.function h.reads in
    let cs = h.utf8.0 in
    let utf8 : is_utf8 code ≡ true = subst (λ x. is_utf8 x ≡ true) h.utf8.1.1 (utf8_of cs h.utf8.1.0) in
    record {
      known = refl;
      short = h.short;
      reads = ap (λ b. b && is_there (code_defaults One code)) utf8 ∙ ap is_there told;
      filled = told ∙ ap Some (sym h.filled);
    }

-- ---- nodes

same_turned : (x y : Key) → is_one x y ≡ true → is_one y x ≡ true
same_turned x y e = sym (is_one_equiv.symm x y) ∙ e

pairs_fit : (es : List (Key × Value)) → AllByRecursion KeyFits (map (λ e. e.0) es) → AllByRecursion ValueFits (map (λ e. e.1) es)
    → AllByRecursion (λ (e : Key × Value). KeyFits e.0 × ValueFits e.1) es
pairs_fit [] a b = tt
pairs_fit (e ∷ es) a b = ((a.0, b.0), pairs_fit es a.1 b.1)

keys_fit : (es : List (Key × Value)) → AllByRecursion (λ (e : Key × Value). KeyFits e.0 × ValueFits e.1) es
    → AllByRecursion KeyFits (map (λ e. e.0) es)
keys_fit [] h = tt
keys_fit (e ∷ es) h = (h.0.0, keys_fit es h.1)

entry_values_fit : (es : List (Key × Value)) → AllByRecursion (λ (e : Key × Value). KeyFits e.0 × ValueFits e.1) es
    → AllByRecursion ValueFits (map (λ e. e.1) es)
entry_values_fit [] h = tt
entry_values_fit (e ∷ es) h = (h.0.1, entry_values_fit es h.1)

named_fit : (es : List (List ℕ × Value)) → AllByRecursion ValueFits (map (λ e. e.1) es) → AllByRecursion (λ (a : List ℕ × Value). ValueFits a.1) es
named_fit [] h = tt
named_fit (e ∷ es) h = (h.0, named_fit es h.1)

named_values_fit : (es : List (List ℕ × Value)) → AllByRecursion (λ (a : List ℕ × Value). ValueFits a.1) es
    → AllByRecursion ValueFits (map (λ e. e.1) es)
named_values_fit [] h = tt
named_values_fit (e ∷ es) h = (h.0, named_values_fit es h.1)

-- What a node is that can be read.
record IsGoodNode (n : ℕ) (a : Node) : Type 0 where
  node : IsNode n a
  fits : NodeFits a
  known : HasKnownProfile a

module _ (n : ℕ) where
  abbrev there : ℕ → Bool
  there i = nat_lt i n

  low : (i : ℕ) → there i ≡ true → i < n
  low i e = ltb-true i n e

  high : (i : ℕ) → i < n → there i ≡ true
  high i l = lt-ltb i n l

  good_of_read : (a : Node) → IsReadNode there a → IsGoodNode n a
  good_of_read (list vs) h = record { node = values_of_read there n low vs h.1; fits = (h.0, fits_of_reads there n vs h.1); known = tt }
  good_of_read (tuple vs) h = record { node = values_of_read there n low vs h.1; fits = (h.0, fits_of_reads there n vs h.1); known = tt }
  good_of_read (dict es) h = record {
    node = (keys_of_fits (keys_in es) h.1, apart_of_fresh is_one same_turned (keys_in es) [] h.2, values_of_read there n low (values_in es) h.3);
    fits = (h.0, pairs_fit es h.1 (fits_of_reads there n (values_in es) h.3));
    known = tt;
  }
  good_of_read (object es) h = record {
    node = (names_of_read (keys_in es) h.1, apart_of_fresh bytes_eq texts_turned (keys_in es) [] h.2, values_of_read there n low (values_in es) h.3);
    fits = (h.0, named_fit es (fits_of_reads there n (values_in es) h.3));
    known = tt;
  }
  good_of_read (function profile code vs) h = record {
    node = (code_of_read profile code (length vs) h.0, values_of_read there n low vs h.1.1);
    fits = ((let s = h.0.short in omega arith), (h.1.0, fits_of_reads there n vs h.1.1));
    known = h.0.known;
  }
  good_of_read (exception kind vs) h = record {
    node = (h.0, values_of_read there n low vs h.1.1);
    fits = (h.1.0, fits_of_reads there n vs h.1.1);
    known = tt;
  }

  read_of_good : (a : Node) → IsNode n a → NodeFits a → HasKnownProfile a → IsReadNode there a
  read_of_good (list vs) h f p = (f.0, reads_of_values there n high vs h f.1)
  read_of_good (tuple vs) h f p = (f.0, reads_of_values there n high vs h f.1)
  read_of_good (dict es) h f p = (
    f.0,
    keys_fit es f.1,
    fresh_of_apart is_one same_turned (keys_in es) h.1,
    reads_of_values there n high (values_in es) h.2 (entry_values_fit es f.1),
  )
  read_of_good (object es) h f p = (
    f.0,
    read_names (keys_in es) h.0,
    fresh_of_apart bytes_eq texts_turned (keys_in es) h.1,
    reads_of_values there n high (values_in es) h.2 (named_values_fit es f.1),
  )
  read_of_good (function profile code vs) h f p =
      let c = subst (λ q. IsCode q code (length vs)) p h.0 in
      let r = read_of_code code (length vs) c in
      (record { known = p; short = r.short; reads = r.reads; filled = r.filled }, (f.1.0, reads_of_values there n high vs h.1 f.1.1))
  read_of_good (exception kind vs) h f p = (h.0, (f.0, reads_of_values there n high vs h.1 f.1))

  nodes_of_read : (ms : List Node) → AllByRecursion (IsReadNode there) ms → AllByRecursion (IsNode n) ms
  nodes_of_read [] h = tt
  nodes_of_read (a ∷ ms) h = ((good_of_read a h.0).node, nodes_of_read ms h.1)

  fits_of_nodes : (ms : List Node) → AllByRecursion (IsReadNode there) ms → AllByRecursion NodeFits ms
  fits_of_nodes [] h = tt
  fits_of_nodes (a ∷ ms) h = ((good_of_read a h.0).fits, fits_of_nodes ms h.1)

  known_of_nodes : (ms : List Node) → AllByRecursion (IsReadNode there) ms → AllByRecursion HasKnownProfile ms
  known_of_nodes [] h = tt
  known_of_nodes (a ∷ ms) h = ((good_of_read a h.0).known, known_of_nodes ms h.1)

  reads_of_nodes : (ms : List Node) → AllByRecursion (IsNode n) ms → AllByRecursion NodeFits ms → AllByRecursion HasKnownProfile ms
      → AllByRecursion (IsReadNode there) ms
  reads_of_nodes [] h f p = tt
  reads_of_nodes (a ∷ ms) h f p = (read_of_good a h.0 f.0 p.0, reads_of_nodes ms h.1 f.1 p.1)

-- ---- names

behind_is : (last x : List ℕ) → is_behind (Some last) x ≡ true → slice_cmp nat_cmp last x ≡ Less
behind_is last x e = by (slice_cmp nat_cmp last x) refl e
  where
    by : (o : Ordering) → slice_cmp nat_cmp last x ≡ o → match_ordering o true false false ≡ true → slice_cmp nat_cmp last x ≡ Less
    by Less f g = f
    by Equal f g = absurd (cc)
    by Greater f g = absurd (cc)

is_behind_of : (last x : List ℕ) → slice_cmp nat_cmp last x ≡ Less → is_behind (Some last) x ≡ true
is_behind_of last x e = ap (λ (o : Ordering). match_ordering o true false false) e

-- each is behind a name
abbrev Above : List ℕ → List (List ℕ) → Type 0
Above x ys = AllByRecursion (λ z. slice_cmp nat_cmp x z ≡ Less) ys

above_on : (x y : List ℕ) (ys : List (List ℕ)) → slice_cmp nat_cmp x y ≡ Less → Above y ys → Above x ys
above_on x y [] e h = tt
above_on x y (z ∷ zs) e h = (nat_list_cmp_total.trans x y z e h.0, above_on x y zs e h.1)

follow_above : (ns : Names) (last : List ℕ) → Follow (Some last) ns → Above last (keys_in ns)
follow_above [] last h = tt
follow_above (b ∷ bs) last h =
    let e = behind_is last b.0 (and_parts (is_name b.0) (is_behind (Some last) b.0) h.0).1 in
    (e, above_on last b.0 (keys_in bs) e (follow_above bs b.0 h.3))

follow_rise : (ns : Names) (last : Option (List ℕ)) → Follow last ns → IsStrictlySortedBy (slice_cmp nat_cmp) (keys_in ns)
unfolding IsStrictlySortedBy
follow_rise [] last h = tt
follow_rise (b ∷ bs) last h = (follow_above bs b.0 h.3, follow_rise bs (Some b.0) h.3)

follow_names : (ns : Names) (last : Option (List ℕ)) → Follow last ns → AllByRecursion IsName (keys_in ns)
follow_names [] last h = tt
follow_names (b ∷ bs) last h = ((and_parts (is_name b.0) (is_behind last b.0) h.0).0, follow_names bs (Some b.0) h.3)

follow_read : (ns : Names) (last : Option (List ℕ)) → Follow last ns → AllByRecursion (IsRead (λ i. true)) (values_in ns)
follow_read [] last h = tt
follow_read (b ∷ bs) last h = (h.2, follow_read bs (Some b.0) h.3)

-- among so many nodes, where each of them is one
values_low : (n : ℕ) (vs : List Value) → AllByRecursion (IsRead (λ i. true)) vs → ((i : ℕ) → In i (numbers vs) → i < n) → AreValues n vs
values_low n [] h l = tt
values_low n (v ∷ vs) h l =
    (one v h.0 (λ i m. l i (in_left i (number v) (numbers vs) m)), values_low n vs h.1 (λ i m. l i (in_right i (number v) (numbers vs) m)))
  where
    one : (w : Value) → IsRead (λ i. true) w → ((i : ℕ) → In i (number w) → i < n) → IsValue n w
    one none g f = tt
    one (bool b) g f = tt
    one (integer z) g f = fits_whole z g
    one (text cs) g f = g.0
    one (range a b c) g f = (fits_whole a g.0, fits_whole b g.1, fits_whole c g.2, not_true (int_eq c (pos 0)) g.3)
    one (builtin m) g f = ltb-true m builtins g
    one (class m) g f = ltb-true m classes g
    one (node i) g f = f i (inl refl)

-- what was met is below the number of those met
counted_in : (is : List ℕ) (m n i : ℕ) → counted m is ≡ Some n → In i is → i < n
counted_in [] m n i e h = absurd h
counted_in (j ∷ js) m n i e h = elim (cases_Bool (nat_lt j m)) [
  | inl t ↦ (
      let f : counted m js ≡ Some n = rw t at e in
      elim h [ inl g ↦ (let a = ltb-true j m t in let b = counted_up js m n f in let c : i ≡ j = g in omega arith) | inr k ↦ counted_in js m n i f k ]
      )
  | inr t ↦ (
      let f : (if j == m then counted (suc m) js else None) ≡ Some n = rw t at e in
      elim (same_or_not j m) [
        | inl u ↦ (
            let g : counted (suc m) js ≡ Some n = rw u.1 at f in
            elim h [
              | inl q ↦ (let a : j ≡ m = u.0 in let b = counted_up js (suc m) n g in let c : i ≡ j = q in omega arith)
              | inr k ↦ counted_in js (suc m) n i g k
            ]
            )
        | inr u ↦ absurd (let g : None ≡ Some n = rw u.1 at f in cc)
      ]
      )
]

names_met : (p : State) → IsInOrder p → (n : ℕ) × (counted 0 (numbers (map (λ (b : List ℕ × Value). b.1) p.names)) ≡ Some n) × (n ≤ length p.nodes)
names_met p h = by (counted 0 (numbers (map (λ (b : List ℕ × Value). b.1) p.names))) refl h
  where
    by : (o : Option ℕ) → counted 0 (numbers (map (λ (b : List ℕ × Value). b.1) p.names)) ≡ o
        → option_and_then (λ n. rows_counted 0 n p.nodes) o ≡ Some (length p.nodes)
        → (n : ℕ) × (counted 0 (numbers (map (λ (b : List ℕ × Value). b.1) p.names)) ≡ Some n) × (n ≤ length p.nodes)
    by None e f = absurd (cc)
    by (Some n) e f = (n, e, rows_up p.nodes 0 n (length p.nodes) f)

follow_of : (k : ℕ) (ns : Names) (last : Option (List ℕ)) → AllByRecursion IsName (keys_in ns) → IsStrictlySortedBy (slice_cmp nat_cmp) (keys_in ns)
    → AreValues k (values_in ns) → AllByRecursion ValueFits (values_in ns)
    → ((x : List ℕ) → In x (keys_in ns) → is_behind last x ≡ true) → Follow last ns
unfolding IsStrictlySortedBy
follow_of k [] last names rise values fits behind = tt
follow_of k (b ∷ bs) last names rise values fits behind = (
  ap (λ c. c && is_behind last b.0) names.0 ∙ behind b.0 (inl refl),
  name_some b.0 names.0,
  read_of_value (λ i. true) k (λ i l. refl) b.1 values.0 fits.0,
  follow_of k bs (Some b.0) names.1 rise.1 values.1 fits.1 (above_in (keys_in bs) rise.0),
)
  where
    above_in : (ys : List (List ℕ)) → Above b.0 ys → (x : List ℕ) → In x ys → is_behind (Some b.0) x ≡ true
    above_in [] h x m = absurd m
    above_in (y ∷ ys) h x (inl e) = ap (is_behind (Some b.0)) e ∙ is_behind_of b.0 y h.0
    above_in (y ∷ ys) h x (inr m) = above_in ys h.1 x m

-- ---- states

-- What can be read as a picture is in one.
pub in_picture : (p : State) → IsReadable p → IsInPicture p
in_picture p h =
    let m = names_met p h.order in
    let n = length p.nodes in
    let reads = follow_read p.names None h.names in
    record {
      state = record {
        names = record {
          titles = follow_names p.names None h.names;
          rise = follow_rise p.names None h.names;
          values = values_low n (values_in p.names) reads (λ i q. let a = counted_in (numbers (values_in p.names)) 0 m.0 i m.1 q in let b = m.2 in
              omega arith);
        };
        nodes = nodes_of_read n p.nodes h.nodes;
      };
      known = known_of_nodes n p.nodes h.nodes;
      fits = ((h.many, named_fit p.names (fits_of_reads (λ i. true) n (values_in p.names) reads)), (h.count, fits_of_nodes n p.nodes h.nodes));
      order = h.order;
    }

-- What is in a picture can be read.
pub readable : (p : State) → IsInPicture p → IsReadable p
readable p h =
    let n = length p.nodes in
    record {
      many = h.fits.0.0;
      names = follow_of n p.names None h.state.names.titles h.state.names.rise h.state.names.values (named_values_fit p.names h.fits.0.1)
          (λ x m. refl);
      count = h.fits.1.0;
      nodes = reads_of_nodes n p.nodes h.state.nodes h.fits.1.1 h.known;
      order = h.order;
    }
