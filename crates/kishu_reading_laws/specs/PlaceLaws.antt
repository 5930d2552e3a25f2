-- Reading goes on and never back: what is left where it stands, or where a fault begins, is no more than was left before.
use Rattle.std.specs.Prelude.{◌≡◌, ℕ, zero, suc, ◌-◌, ◌≤◌, ◌==◌, nat_le, nat_lt, ℤ, pos, Bool, true, false, not, ◌&&◌, ◌||◌, if◌then◌else◌, List, [], ◌∷◌, length, take, drop, Option, Some, None, Ok, Err}
use Rattle.std.specs.Int.{w32, w128, from_be_bytes, cast_signed}
use Rattle.std.specs.List.{list_any}
use Rattle.std.specs.Ordering.{int_eq}
use Rattle.std.specs.Str.{bytes_eq, chars}
use Rattle.std.proofs.Common.{arith}
use Rattle.kishu_language.specs.Limits.{longest_text}
use Rattle.kishu_language.specs.declared.profile.Profile.{Profile}
use Rattle.kishu_language.specs.declared.profile.Profile.TheVariants.{One}
use Rattle.kishu_language.specs.tokens.Names.{is_name}
use Rattle.kishu_meaning.specs.values.Keys.{Key, KeyPart, is_one}
use Rattle.kishu_meaning.specs.values.Keys as k
use Rattle.kishu_meaning.specs.values.Sound.{builtins, classes, is_exception_class}
use Rattle.kishu_meaning.specs.values.Values.{Value, none, bool, integer, text, range, builtin, class, Node, list, tuple, dict, object, function, exception, Names, State}
use Rattle.kishu_reading.specs.FromBytes as r
use Rattle.kishu_reading.specs.FromBytes.{Front, Reader, Reading, ◌>>=◌, and_then, only_if, keeping, repeated, give, bytes, byte, first_byte, is_utf8, meets, node_number, value_behind, value, part, part_behind, key, key_behind, short_name, row, row_behind, function_row, is_code, is_number, code_defaults, is_behind, node_count, at_end, whole_picture, with_place, read_picture}

-- Of so many bytes no more are left, where reading stands or where the fault begins.
abbrev pub Within : {A : Type 0} → ℕ → Reading A → Type 0
Within n (Ok r) = length r.1.rest ≤ n
Within n (Err left) = left ≤ n

-- so wherever the reader begins
abbrev pub GoesOn : {A : Type 0} → Reader A → Type 0
GoesOn p = (s : Front) → Within (length s.rest) (p s)

-- ---- how readers are put together

within_more : {A : Type 0} (m n : ℕ) (o : Reading A) → m ≤ n → Within m o → Within n o
within_more m n (Ok r) l h = omega arith
within_more m n (Err left) l h = omega arith

on_then : {A B : Type 0} (p : Reader A) (f : A → Reader B) → GoesOn p → ((a : A) → GoesOn (f a)) → GoesOn (p >>= f)
on_then {A} {B} p f h g s = by (p s) (h s)
  where
    by : (o : Reading A) → Within (length s.rest) o → Within (length s.rest) (and_then o f)
    by (Ok r) l = within_more (length r.1.rest) (length s.rest) (f r.0 r.1) l (g r.0 r.1)
    by (Err left) l = l

on_give : {A : Type 0} (a : A) → GoesOn (give a)
on_give a s = omega arith

on_if : {A : Type 0} (b : Bool) (p q : Reader A) → GoesOn p → GoesOn q → GoesOn (if b then p else q)
on_if true p q h g = h
on_if false p q h g = g

on_only_if : {A : Type 0} (b : Bool) (p : Reader A) (s : Front) → Within (length s.rest) (p s) → Within (length s.rest) (only_if b p s)
on_only_if true p s h = h
on_only_if false p s h = omega arith

on_keeping : {A : Type 0} (rule : A → Bool) (p : Reader A) → GoesOn p → GoesOn (keeping rule p)
on_keeping {A} rule p h s = by (p s) (h s)
  where
    told : (b : Bool) (a : A) (t : Front) → length t.rest ≤ length s.rest → Within (length s.rest) (if b then Ok (a, t) else Err (length s.rest))
    told true a t l = l
    told false a t l = omega arith

    by : (o : Reading A) → Within (length s.rest) o → Within (length s.rest) (and_then o (λ a t. if rule a then Ok (a, t) else Err (length s.rest)))
    by (Ok r) l = told (rule r.0) r.0 r.1 l
    by (Err left) l = l

on_repeated : {A : Type 0} (n : ℕ) (p : Reader A) → GoesOn p → GoesOn (repeated n p)
on_repeated {A} zero p h = on_give {A = List A} []
on_repeated {A} (suc n) p h =
    on_then p (λ a. repeated n p >>= λ as'. give (a ∷ as')) h (λ a. on_then (repeated n p) (λ as'. give (a ∷ as')) (on_repeated n p h)
    (λ as'. on_give (a ∷ as')))

on_map : {A B : Type 0} (p : Reader A) (f : A → B) → GoesOn p → GoesOn (p >>= λ a. give (f a))
on_map p f h = on_then p (λ a. give (f a)) h (λ a. on_give (f a))

-- ---- fields

on_byte : GoesOn byte
on_byte s = by s.rest
  where
    by : (bs : List ℕ) → Within (length bs) (first_byte bs s.met)
    by [] = omega arith
    by (b ∷ bs) = omega arith

fewer : (n : ℕ) (bs : List ℕ) → length (drop n bs) ≤ length bs
fewer zero bs = omega arith
fewer (suc n) [] = omega arith
fewer (suc n) (b ∷ bs) = (let l = fewer n bs in omega arith)

on_bytes : (n : ℕ) → GoesOn (bytes n)
on_bytes n s = by (nat_le n (length s.rest))
  where
    by : (b : Bool) → Within {A = List ℕ} (length s.rest) (if b then Ok (take n s.rest, record { rest = drop n s.rest; met = s.met }) else Err
        (length s.rest))
    by true = fewer n s.rest
    by false = omega arith

on_number : GoesOn r.number
on_number = on_map (bytes 4) (from_be_bytes w32) (on_bytes 4)

on_whole : GoesOn r.whole_number
on_whole = on_map (bytes 16) (λ bs. cast_signed w128 (from_be_bytes w128 bs)) (on_bytes 16)

on_spelled : GoesOn r.spelled
on_spelled =
    on_then r.number (λ n. keeping is_utf8 (bytes n) >>= λ bs. give (chars bs)) on_number
    (λ n. on_map (keeping is_utf8 (bytes n)) chars (on_keeping is_utf8 (bytes n) (on_bytes n)))

on_short_name : (rule : List ℕ → Bool) → GoesOn (short_name rule)
on_short_name rule =
    on_then (keeping (λ n. not (n == 0)) byte) (λ n. keeping rule (bytes n)) (on_keeping (λ n. not (n == 0)) byte on_byte)
    (λ n. on_keeping rule (bytes n) (on_bytes n))

-- ---- values and keys

on_meets : (i : ℕ) → GoesOn (meets i)
on_meets i s = omega arith

on_node : (there : ℕ → Bool) → GoesOn (node_number there)
on_node there s =
    let rule : ℕ → Bool = λ i. nat_le i s.met && there i in
    on_then (keeping rule r.number) meets (on_keeping rule r.number on_number) on_meets s

on_range : GoesOn (r.whole_number >>= λ a. r.whole_number >>= λ b. keeping (λ c. not (int_eq c (pos 0))) r.whole_number >>= λ c. give (range a b c))
on_range =
    let rule : ℤ → Bool = λ c. not (int_eq c (pos 0)) in
    let last : ℤ → ℤ → Reader Value = λ a b. keeping rule r.whole_number >>= λ c. give (range a b c) in
    on_then r.whole_number (λ a. r.whole_number >>= last a) on_whole
    (λ a. on_then r.whole_number (last a) on_whole (λ b. on_map (keeping rule r.whole_number) (range a b) (on_keeping rule r.whole_number on_whole)))

on_below : (limit : ℕ) (make : ℕ → Value) → GoesOn (keeping (λ n. nat_lt n limit) byte >>= λ n. give (make n))
on_below limit make = on_map (keeping (λ n. nat_lt n limit) byte) make (on_keeping (λ n. nat_lt n limit) byte on_byte)

on_value : (there : ℕ → Bool) → GoesOn (value there)
on_value there =
    on_then (keeping (λ kind. nat_le kind 8) byte) (value_behind there) (on_keeping (λ kind. nat_le kind 8) byte on_byte)
    (λ kind. on_if (kind == 0) _ _ (on_give none) (on_if (kind == 1) _ _ (on_give (bool false)) (on_if (kind == 2) _ _ (on_give (bool true))
    (on_if (kind == 3) _ _ (on_map r.whole_number integer on_whole) (on_if (kind == 4) _ _ (on_map r.spelled text on_spelled)
    (on_if (kind == 5) _ _ on_range
    (on_if (kind == 6) _ _ (on_below builtins builtin) (on_if (kind == 7) _ _ (on_below classes class) (on_node there)))))))))

on_part_behind : (kind : ℕ) → GoesOn (part_behind kind)
on_part_behind kind =
    on_if (kind == 0) _ _ (on_give k.none) (on_if (kind == 1) _ _ (on_give (k.bool false)) (on_if (kind == 2) _ _ (on_give (k.bool true))
    (on_if (kind == 3) _ _ (on_map r.whole_number k.integer on_whole) (on_map r.spelled k.text on_spelled))))

on_part : GoesOn part
on_part = on_then (keeping (λ kind. nat_le kind 4) byte) part_behind (on_keeping (λ kind. nat_le kind 4) byte on_byte) on_part_behind

on_tuple : GoesOn (r.number >>= λ n. repeated n part >>= λ ps. give (k.tuple ps))
on_tuple = on_then r.number (λ n. repeated n part >>= λ ps. give (k.tuple ps)) on_number
    (λ n. on_map (repeated n part) k.tuple (on_repeated n part on_part))

on_key : GoesOn key
on_key =
    on_then (keeping (λ kind. nat_le kind 4 || kind == 9) byte) key_behind (on_keeping (λ kind. nat_le kind 4 || kind == 9) byte on_byte)
    (λ kind. on_if (kind == 9) _ _ on_tuple (on_map (part_behind kind) k.single (on_part_behind kind)))

-- ---- rows

on_values : (there : ℕ → Bool) → GoesOn (r.values there)
on_values there = on_then r.number (λ n. repeated n (value there)) on_number (λ n. on_repeated n (value there) (on_value there))

module _ {K : Type 0} (same : K → K → Bool) (one : Reader K) (there : ℕ → Bool) (h : GoesOn one) where
  on_pairs : (n : ℕ) (seen : List K) → GoesOn (r.pairs same one there n seen)
  on_pairs zero seen = on_give {A = List (K × Value)} []
  on_pairs (suc n) seen =
      let new : K → Bool = λ x. not (list_any (same x) seen) in
      on_then (keeping new one) (λ x. value there >>= λ v. r.pairs same one there n (x ∷ seen) >>= λ es. give ((x, v) ∷ es)) (on_keeping new one h)
      (λ x. on_then (value there) (λ v. r.pairs same one there n (x ∷ seen) >>= λ es. give ((x, v) ∷ es)) (on_value there)
      (λ v. on_map (r.pairs same one there n (x ∷ seen)) (λ (es : List (K × Value)). (x, v) ∷ es) (on_pairs n (x ∷ seen))))

on_profile : GoesOn r.profile
on_profile = on_map (keeping (λ n. n == 1) byte) (λ n. One) (on_keeping (λ n. n == 1) byte on_byte)

module _ (there : ℕ → Bool) where
  on_filled : (rules : Profile) (code : List ℕ) → GoesOn (keeping (is_number (code_defaults rules code)) r.number
      >>= λ many. repeated many (value there) >>= λ vs. give (function rules code vs))
  on_filled rules code =
      let rule : ℕ → Bool = is_number (code_defaults rules code) in
      on_then (keeping rule r.number) (λ many. repeated many (value there) >>= λ vs. give (function rules code vs))
      (on_keeping rule r.number on_number)
      (λ many. on_map (repeated many (value there)) (function rules code) (on_repeated many (value there) (on_value there)))

  on_function : GoesOn (function_row there)
  on_function =
      let filled : Profile → List ℕ → Reader Node =
      λ rules code. keeping (is_number (code_defaults rules code)) r.number >>= λ many. repeated many (value there)
      >>= λ vs. give (function rules code vs) in
      let coded : Profile → ℕ → Reader Node = λ rules n. keeping (is_code rules) (bytes n) >>= filled rules in
      let short : ℕ → Bool = λ n. nat_le n longest_text in
      on_then r.profile (λ rules. keeping short r.number >>= coded rules) on_profile
      (λ rules. on_then (keeping short r.number) (coded rules) (on_keeping short r.number on_number)
      (λ n. on_then (keeping (is_code rules) (bytes n)) (filled rules) (on_keeping (is_code rules) (bytes n) (on_bytes n)) (on_filled rules)))

  on_made : (make : List Value → Node) → GoesOn (r.values there >>= λ vs. give (make vs))
  on_made make = on_map (r.values there) make (on_values there)

  on_dict : GoesOn (r.number >>= λ n. r.entries there n >>= λ es. give (dict es))
  on_dict = on_then r.number (λ n. r.entries there n >>= λ es. give (dict es)) on_number
      (λ n. on_map (r.entries there n) dict (on_pairs is_one key there on_key n []))

  on_object : GoesOn (r.number >>= λ n. r.attributes there n >>= λ as'. give (object as'))
  on_object =
      on_then r.number (λ n. r.attributes there n >>= λ as'. give (object as')) on_number
      (λ n. on_map (r.attributes there n) object (on_pairs bytes_eq (short_name is_name) there (on_short_name is_name) n []))

  on_exception : GoesOn (keeping is_exception_class byte >>= λ c. r.values there >>= λ vs. give (exception c vs))
  on_exception =
      on_then (keeping is_exception_class byte) (λ c. r.values there >>= λ vs. give (exception c vs)) (on_keeping is_exception_class byte on_byte)
      (λ c. on_made (exception c))

  on_row : GoesOn (row there)
  on_row =
      on_then (keeping (λ kind. nat_le 1 kind && nat_le kind 6) byte) (row_behind there)
      (on_keeping (λ kind. nat_le 1 kind && nat_le kind 6) byte on_byte)
      (λ kind. on_if (kind == 1) _ _ (on_made list) (on_if (kind == 2) _ _ (on_made tuple) (on_if (kind == 3) _ _ on_dict
      (on_if (kind == 4) _ _ on_object (on_if (kind == 5) _ _ on_function on_exception)))))

  on_rows : (n q : ℕ) → GoesOn (r.rows there n q)
  on_rows zero q s = on_give {A = List Node} [] s
  on_rows (suc n) q s =
      let more : Node → Reader (List Node) = λ m. r.rows there n (suc q) >>= λ ms. give (m ∷ ms) in
      on_only_if (nat_lt q s.met) (row there >>= more) s
      (on_then (row there) more on_row (λ m. on_map (r.rows there n (suc q)) (λ (ms : List Node). m ∷ ms) (on_rows n (suc q))) s)

-- ---- the picture

on_names : (n : ℕ) (last : Option (List ℕ)) → GoesOn (r.names n last)
on_names zero last = on_give {A = Names} []
on_names (suc n) last =
    let rule : List ℕ → Bool = λ x. is_name x && is_behind last x in
    on_then (short_name rule) (λ x. value (λ i. true) >>= λ v. r.names n (Some x) >>= λ ns. give ((x, v) ∷ ns)) (on_short_name rule)
    (λ x. on_then (value (λ i. true)) (λ v. r.names n (Some x) >>= λ ns. give ((x, v) ∷ ns)) (on_value (λ i. true))
    (λ v. on_map (r.names n (Some x)) (λ (ns : Names). (x, v) ∷ ns) (on_names n (Some x))))

on_node_count : GoesOn node_count
on_node_count s = on_keeping (nat_le s.met) r.number on_number s

on_end : (p : State) → GoesOn (at_end p)
on_end p s = on_only_if (length s.rest == 0) (give p) s (on_give p s)

pub picture_goes_on : GoesOn whole_picture
picture_goes_on =
    let of_rows : Names → ℕ → Reader State = λ ns m. r.rows (λ i. nat_lt i m) m 0 >>= λ ms. at_end (record { names = ns; nodes = ms }) in
    let of_count : Names → Reader State = λ ns. node_count >>= of_rows ns in
    on_then r.number (λ n. r.names n None >>= of_count) on_number
    (λ n. on_then (r.names n None) of_count (on_names n None)
    (λ ns. on_then node_count (of_rows ns) on_node_count
    (λ m. on_then (r.rows (λ i. nat_lt i m) m 0) (λ ms. at_end (record { names = ns; nodes = ms })) (on_rows (λ i. nat_lt i m) m 0)
    (λ ms. on_end (record { names = ns; nodes = ms })))))

-- Where a fault is found, no more is left than there was.
pub fault_goes_on : (s : Front) (left : ℕ) → whole_picture s ≡ Err left → left ≤ length s.rest
fault_goes_on s left e = by (whole_picture s) (picture_goes_on s) e
  where
    by : (o : Reading State) → Within (length s.rest) o → o ≡ Err left → left ≤ length s.rest
    by (Ok r) h f = absurd cc
    by (Err n) h f = (let g : n ≡ left = cc in omega arith)

-- The place of a fault lies in the bytes or at their end.
pub fault_lies_inside : (bs : List ℕ) (place : ℕ) → read_picture bs ≡ Err place → place ≤ length bs
unfolding read_picture
fault_lies_inside bs place e = by (whole_picture (record { rest = bs; met = 0 })) e
  where
    by : (o : Reading State) → with_place (length bs) o ≡ Err place → place ≤ length bs
    by (Ok r) f = absurd cc
    by (Err left) f = (let g : length bs - left ≡ place = cc in omega arith)
