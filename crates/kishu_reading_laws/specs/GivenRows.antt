-- What is read as keys, rows and names, and as a whole picture, is the bytes that are written of it.
use Rattle.std.specs.Prelude.{◌≡◌, ℕ, zero, suc, ◌+◌, ◌-◌, ◌<◌, ◌≤◌, ◌==◌, nat_le, nat_lt, Bool, true, false, not, ◌&&◌, ◌||◌, if◌then◌else◌, List, [], ◌∷◌, ◌++◌, length, map, flat_map, Option, Some, None, option_and_then, Result, Ok, Err}
use Rattle.std.specs.Str.{encode_utf8_all, bytes_eq}
use Rattle.std.specs.List.{AllByRecursion, list_any}
use Rattle.std.proofs.Common.{refl, ap, sym, ◌∙◌, subst, arith, inl, inr, append_assoc, append-nil}
use Rattle.std.proofs.lemmas.Bool.{cases_Bool, and_parts, leb-true, ltb-true}
use Rattle.kishu_language.specs.Limits.{longest_text}
use Rattle.kishu_language.specs.declared.profile.Profile.{Profile}
use Rattle.kishu_language.specs.declared.profile.Profile.TheVariants.{One}
use Rattle.kishu_language.specs.tokens.Names.{is_name}
use Rattle.kishu_meaning.specs.values.Keys.{Key, KeyPart, is_one}
use Rattle.kishu_meaning.specs.values.Keys as k
use Rattle.kishu_meaning.specs.values.Sound.{is_exception_class}
use Rattle.kishu_meaning.specs.values.Values.{Value, none, bool, integer, text, range, builtin, class, node, Node, list, tuple, dict, object, function, exception, Names, State}
use Rattle.kishu_bytes.specs.Numbers.{sixteen}
use Rattle.kishu_objects.specs.Shape.{children}
use Rattle.kishu_objects.specs.Picture.{number, numbers}
use Rattle.kishu_objects.specs.Reading.{counted, rows_counted}
use Rattle.kishu_objects.specs.Bytes.{in_four, short, long, many, value_bytes, part_bytes, key_bytes, entry_bytes, name_bytes, row_bytes, state_bytes}
use Rattle.kishu_objects.specs.Fits.{PartFits, KeyFits}
use Rattle.kishu_objects.specs.Lists.{In}
use Rattle.kishu_objects_laws.specs.ListLaws.{same_or_not, in_cases}
use Rattle.kishu_reading.specs.FromBytes as r
use Rattle.kishu_reading.specs.FromBytes.{Front, Reader, Reading, ◌>>=◌, keeping, repeated, give, bytes, byte, value, part, part_behind, key, key_behind, short_name, row, row_behind, function_row, is_code, is_number, code_defaults, is_behind, node_count, at_end, whole_picture, with_place, read_picture}
use Rattle.kishu_reading_laws.specs.TakingLaws.{IsRead, AreRead, IsReadName, IsReadNode, Fresh, Follow, IsReadable, counted_up, next_row}
use Rattle.kishu_reading.specs.Pictured.{AreBytes}
use Rattle.kishu_reading_laws.specs.GivingLaws.{Took, took_none, took_on, took_as, left_bytes, ok_is, went, kept, gave, byte_gave, bytes_gave, number_gave, whole_gave, spelled_gave, name_gave, made_of, value_gave, Gives, repeated_gave, values_gave, one_value, some_number}

-- ---- keys

pub record PartBehind (kind : ℕ) (s : Front) (p : KeyPart) (t : Front) : Type 0 where
  pub bytes : List ℕ
  pub is : kind ∷ bytes ≡ part_bytes p
  pub took : Took s t bytes []
  pub fits : PartFits p

part_gave_behind : (kind : ℕ) → nat_le kind 4 ≡ true → (s : Front) (p : KeyPart) (t : Front) → AreBytes s.rest → part_behind kind s ≡ Ok (p, t)
    → PartBehind kind s p t
part_gave_behind zero l s p t small e =
    made_of (λ y f. PartBehind 0 s y f) k.none p s t e (record { bytes = []; is = refl; took = took_none s; fits = tt })
part_gave_behind (suc zero) l s p t small e =
    made_of (λ y f. PartBehind 1 s y f) (k.bool false) p s t e (record { bytes = []; is = refl; took = took_none s; fits = tt })
part_gave_behind (suc (suc zero)) l s p t small e =
    made_of (λ y f. PartBehind 2 s y f) (k.bool true) p s t e (record { bytes = []; is = refl; took = took_none s; fits = tt })
part_gave_behind (suc (suc (suc zero))) l s p t small e =
    let w = went (r.whole_number s) (λ z. give (k.integer z)) p t e in
    let n = whole_gave s w.value w.front small w.first in
    made_of (λ y f. PartBehind 3 s y f) (k.integer w.value) p w.front t w.second
    (record { bytes = sixteen w.value; is = refl; took = n.took; fits = n.fits })
part_gave_behind (suc (suc (suc (suc zero)))) l s p t small e =
    let w = went (r.spelled s) (λ cs. give (k.text cs)) p t e in
    let n = spelled_gave s w.value w.front small w.first in
    made_of (λ y f. PartBehind 4 s y f) (k.text w.value) p w.front t w.second
    (record { bytes = long (encode_utf8_all w.value); is = refl; took = n.took; fits = n.spells })
part_gave_behind (suc (suc (suc (suc (suc n))))) l s p t small e = absurd (let m = leb-true (suc (suc (suc (suc (suc n))))) 4 l in omega arith)

part_gave : (s : Front) (p : KeyPart) (t : Front) → AreBytes s.rest → part s ≡ Ok (p, t) → Gives part_bytes (λ (q : KeyPart). []) PartFits s p t
part_gave s p t small e =
    let w = went (keeping (λ n. nat_le n 4) byte s) part_behind p t e in
    let q = kept (λ n. nat_le n 4) byte s w.value w.front w.first in
    let b = byte_gave s w.value w.front q.given in
    let h = part_gave_behind w.value q.keeps w.front p t (left_bytes s w.front (w.value ∷ []) [] b small) w.second in
    record {
      took = took_as s t (w.value ∷ h.bytes) (part_bytes p) [] h.is (took_on s w.front t (w.value ∷ []) h.bytes [] [] b h.took);
      holds = h.fits;
    }

none_met : (ps : List KeyPart) → flat_map {A = ℕ} (λ (q : KeyPart). []) ps ≡ []
none_met [] = refl
none_met (p ∷ ps) = none_met ps

pub record Keyed (s : Front) (x : Key) (t : Front) : Type 0 where
  pub took : Took s t (key_bytes x) []
  pub fits : KeyFits x

tuple_gave : (s u : Front) (x : Key) (t : Front) → Took s u (9 ∷ []) [] → AreBytes u.rest → key_behind 9 u ≡ Ok (x, t) → Keyed s x t
tuple_gave s u x t b small e =
    let w = went (r.number u) (λ n. repeated n part >>= λ ps. give (k.tuple ps)) x t e in
    let n = number_gave u w.value w.front small w.first in
    let v = went (repeated w.value part w.front) (λ ps. give (k.tuple ps)) x t w.second in
    let m = repeated_gave part part_bytes (λ q. []) PartFits part_gave w.value w.front v.value v.front
    (left_bytes u w.front (in_four w.value) [] n.took small) v.first in
    let quiet = subst (λ is. Took w.front v.front (flat_map part_bytes v.value) is) (none_met v.value) m.took in
    made_of (λ y f. Keyed s y f) (k.tuple v.value) x v.front t v.second (record {
      took = took_on s u v.front (9 ∷ []) (many part_bytes v.value) [] [] b
          (took_as u v.front (in_four w.value ++ flat_map part_bytes v.value) (many part_bytes v.value) []
          (ap (λ y. in_four y ++ flat_map part_bytes v.value) (sym m.size))
          (took_on u w.front v.front (in_four w.value) (flat_map part_bytes v.value) [] [] n.took quiet));
      fits = ((let l = n.small in let d = m.size in omega arith), m.all);
    })

single_gave : (kind : ℕ) → nat_le kind 4 ≡ true → (s u : Front) (x : Key) (t : Front) → Took s u (kind ∷ []) [] → AreBytes u.rest
    → (part_behind kind >>= λ p. give (k.single p)) u ≡ Ok (x, t) → Keyed s x t
single_gave kind l s u x t b small e =
    let w = went (part_behind kind u) (λ p. give (k.single p)) x t e in
    let h = part_gave_behind kind l u w.value w.front small w.first in
    made_of (λ y f. Keyed s y f) (k.single w.value) x w.front t w.second
    (record {
      took = took_as s w.front (kind ∷ h.bytes) (part_bytes w.value) [] h.is (took_on s u w.front (kind ∷ []) h.bytes [] [] b h.took);
      fits = h.fits;
    })

pub key_gave : (s : Front) (x : Key) (t : Front) → AreBytes s.rest → key s ≡ Ok (x, t) → Keyed s x t
key_gave s x t small e =
    let w = went (keeping (λ n. nat_le n 4 || n == 9) byte s) key_behind x t e in
    let q = kept (λ n. nat_le n 4 || n == 9) byte s w.value w.front w.first in
    let b = byte_gave s w.value w.front q.given in
    let small_2 = left_bytes s w.front (w.value ∷ []) [] b small in
    elim (same_or_not w.value 9) [
      | inl y ↦ tuple_gave s w.front x t (subst (λ n. Took s w.front (n ∷ []) []) y.0 b) small_2 (ap (λ n. key_behind n w.front) (sym y.0) ∙ w.second)
      | inr y ↦ single_gave w.value (low w.value q.keeps y.1) s w.front x t b small_2
          (sym (ap {B = Reading Key} (λ c. (if c then (r.number >>= λ n. repeated n part >>= λ ps. give (k.tuple ps)) else
          (part_behind w.value >>= λ p. give (k.single p))) w.front) y.1) ∙ w.second)
    ]
  where
    low : (n : ℕ) → (nat_le n 4 || n == 9) ≡ true → (n == 9) ≡ false → nat_le n 4 ≡ true
    low n e f = elim (cases_Bool (nat_le n 4)) [
      | inl g ↦ g
      | inr g ↦ absurd (let h : (n == 9) ≡ true = rw g at e in let i : true ≡ false = sym h ∙ f in cc)
    ]

-- ---- keys with values

abbrev pub pair_bytes : {K : Type 0} → (K → List ℕ) → K × Value → List ℕ
pair_bytes w e = w e.0 ++ value_bytes e.1

pub record Paired {K : Type 0} (same : K → K → Bool) (w : K → List ℕ) (C : K → Type 0) (there : ℕ → Bool) (seen : List K) (n : ℕ) (s : Front)
    (es : List (K × Value)) (t : Front) : Type 0 where
  pub size : length es ≡ n
  pub took : Took s t (flat_map (pair_bytes w) es) (numbers (map (λ e. e.1) es))
  pub keys : AllByRecursion C (map (λ e. e.0) es)
  pub fresh : Fresh same seen (map (λ e. e.0) es)
  pub values : AllByRecursion (IsRead there) (map (λ e. e.1) es)

not_true : (b : Bool) → not b ≡ true → b ≡ false
not_true false e = refl
not_true true e = absurd (cc)

module _ {K : Type 0} (same : K → K → Bool) (p : Reader K) (w : K → List ℕ) (C : K → Type 0) (there : ℕ → Bool)
    (one : (s : Front) (x : K) (t : Front) → AreBytes s.rest → p s ≡ Ok (x, t) → Gives w (λ y. []) C s x t) where
  pub pairs_gave : (n : ℕ) (seen : List K) (s : Front) (es : List (K × Value)) (t : Front) → AreBytes s.rest
      → r.pairs same p there n seen s ≡ Ok (es, t) → Paired same w C there seen n s es t
  pairs_gave zero seen s es t small e =
      made_of (λ (y : List (K × Value)) (f : Front). Paired same w C there seen 0 s y f) [] es s t e
      (record { size = refl; took = took_none s; keys = tt; fresh = tt; values = tt })
  pairs_gave (suc n) seen s es t small e =
      let new : K → Bool = λ x. not (list_any (same x) seen) in
      let w1 = went (keeping new p s) (λ x. value there >>= λ v. r.pairs same p there n (x ∷ seen) >>= λ fs. give ((x, v) ∷ fs)) es t e in
      let x = w1.value in
      let q = kept new p s x w1.front w1.first in
      let a = one s x w1.front small q.given in
      let small_2 = left_bytes s w1.front (w x) [] a.took small in
      let w2 = went (value there w1.front) (λ v. r.pairs same p there n (x ∷ seen) >>= λ fs. give ((x, v) ∷ fs)) es t w1.second in
      let b = value_gave there w1.front w2.value w2.front small_2 w2.first in
      let small_3 = left_bytes w1.front w2.front (value_bytes w2.value) (number w2.value) b.took small_2 in
      let w3 = went (r.pairs same p there n (x ∷ seen) w2.front) (λ fs. give ((x, w2.value) ∷ fs)) es t w2.second in
      let c = pairs_gave n (x ∷ seen) w2.front w3.value w3.front small_3 w3.first in
      made_of (λ (y : List (K × Value)) (f : Front). Paired same w C there seen (suc n) s y f) ((x, w2.value) ∷ w3.value) es w3.front t w3.second
      (record {
        size = (let k = c.size in omega arith);
        took = took_as s w3.front (w x ++ (value_bytes w2.value ++ flat_map (pair_bytes w) w3.value))
            ((w x ++ value_bytes w2.value) ++ flat_map (pair_bytes w) w3.value) (number w2.value ++ numbers (map (λ (y : K × Value). y.1) w3.value))
            (sym (append_assoc (w x) (value_bytes w2.value) (flat_map (pair_bytes w) w3.value)))
            (took_on s w1.front w3.front (w x) (value_bytes w2.value ++ flat_map (pair_bytes w) w3.value) []
            (number w2.value ++ numbers (map (λ (y : K × Value). y.1) w3.value)) a.took
            (took_on w1.front w2.front w3.front (value_bytes w2.value) (flat_map (pair_bytes w) w3.value) (number w2.value)
            (numbers (map (λ (y : K × Value). y.1) w3.value)) b.took c.took));
        keys = (a.holds, c.keys);
        fresh = (not_true (list_any (same x) seen) q.keeps, c.fresh);
        values = (b.read, c.values);
      })

one_key : (s : Front) (x : Key) (t : Front) → AreBytes s.rest → key s ≡ Ok (x, t) → Gives key_bytes (λ y. []) KeyFits s x t
one_key s x t small e = (let h = key_gave s x t small e in record { took = h.took; holds = h.fits })

one_name : (s : Front) (x : List ℕ) (t : Front) → AreBytes s.rest → short_name is_name s ≡ Ok (x, t) → Gives short (λ y. []) IsReadName s x t
one_name s x t small e = (let h = name_gave is_name s x t e in record { took = h.took; holds = (h.keeps, h.some) })

-- ---- rows

pub record RowBehind (there : ℕ → Bool) (kind : ℕ) (s : Front) (a : Node) (t : Front) : Type 0 where
  pub bytes : List ℕ
  pub is : kind ∷ bytes ≡ row_bytes a
  pub took : Took s t bytes (numbers (children a))
  pub read : IsReadNode there a

module _ (there : ℕ → Bool) where
  list_gave : (kind : ℕ) (make : List Value → Node) (s : Front) (a : Node) (t : Front) → AreBytes s.rest
      → ((vs : List Value) → kind ∷ many value_bytes vs ≡ row_bytes (make vs)) → ((vs : List Value) → numbers vs ≡ numbers (children (make vs)))
      → ((vs : List Value) → AreRead there vs → IsReadNode there (make vs)) → (r.values there >>= λ vs. give (make vs)) s ≡ Ok (a, t)
      → RowBehind there kind s a t
  list_gave kind make s a t small is leads fits e =
      let w = went (r.values there s) (λ vs. give (make vs)) a t e in
      let h = values_gave there s w.value w.front small w.first in
      made_of (λ y f. RowBehind there kind s y f) (make w.value) a w.front t w.second (record {
        bytes = many value_bytes w.value;
        is = is w.value;
        took = subst (λ ns. Took s w.front (many value_bytes w.value) ns) (leads w.value) h.took;
        read = fits w.value h.read;
      })

  dict_gave : (s : Front) (a : Node) (t : Front) → AreBytes s.rest → row_behind there 3 s ≡ Ok (a, t) → RowBehind there 3 s a t
  dict_gave s a t small e =
      let w = went (r.number s) (λ n. r.entries there n >>= λ es. give (dict es)) a t e in
      let n = number_gave s w.value w.front small w.first in
      let v = went (r.entries there w.value w.front) (λ es. give (dict es)) a t w.second in
      let h = pairs_gave is_one key key_bytes KeyFits there one_key w.value [] w.front v.value v.front
      (left_bytes s w.front (in_four w.value) [] n.took small) v.first in
      made_of (λ y f. RowBehind there 3 s y f) (dict v.value) a v.front t v.second (record {
        bytes = many entry_bytes v.value;
        is = refl;
        took = took_as s v.front (in_four w.value ++ flat_map entry_bytes v.value) (many entry_bytes v.value)
            (numbers (map (λ (x : Key × Value). x.1) v.value)) (ap (λ x. in_four x ++ flat_map entry_bytes v.value) (sym h.size))
            (took_on s w.front v.front (in_four w.value) (flat_map entry_bytes v.value) [] (numbers (map (λ (x : Key × Value). x.1) v.value)) n.took
            h.took);
        read = ((let l = n.small in let d = h.size in omega arith), h.keys, h.fresh, h.values);
      })

  object_gave : (s : Front) (a : Node) (t : Front) → AreBytes s.rest → row_behind there 4 s ≡ Ok (a, t) → RowBehind there 4 s a t
  object_gave s a t small e =
      let w = went (r.number s) (λ n. r.attributes there n >>= λ es. give (object es)) a t e in
      let n = number_gave s w.value w.front small w.first in
      let v = went (r.attributes there w.value w.front) (λ es. give (object es)) a t w.second in
      let h = pairs_gave bytes_eq (short_name is_name) short IsReadName there one_name w.value [] w.front v.value v.front
      (left_bytes s w.front (in_four w.value) [] n.took small) v.first in
      made_of (λ y f. RowBehind there 4 s y f) (object v.value) a v.front t v.second (record {
        bytes = many name_bytes v.value;
        is = refl;
        took = took_as s v.front (in_four w.value ++ flat_map name_bytes v.value) (many name_bytes v.value)
            (numbers (map (λ (x : List ℕ × Value). x.1) v.value)) (ap (λ x. in_four x ++ flat_map name_bytes v.value) (sym h.size))
            (took_on s w.front v.front (in_four w.value) (flat_map name_bytes v.value) [] (numbers (map (λ (x : List ℕ × Value). x.1) v.value))
            n.took h.took);
        read = ((let l = n.small in let d = h.size in omega arith), h.keys, h.fresh, h.values);
      })

  pub right_number : (o : Option ℕ) (n : ℕ) → is_number o n ≡ true → o ≡ Some n
  right_number None n e = absurd (cc)
  right_number (Some m) n e = elim (same_or_not n m) [ inl f ↦ ap Some (sym f.0) | inr g ↦ absurd (let h : true ≡ false = sym e ∙ g.1 in cc) ]

  function_gave : (s : Front) (a : Node) (t : Front) → AreBytes s.rest → function_row there s ≡ Ok (a, t) → RowBehind there 5 s a t
  function_gave s a t small e =
      let of_code : Profile → ℕ → Reader Node =
      λ rules n. keeping (is_code rules) (bytes n) >>= λ code. keeping (is_number (code_defaults rules code)) r.number
      >>= λ d. repeated d (value there) >>= λ vs. give (function rules code vs) in
      let of_defaults : Profile → List ℕ → Reader Node =
      λ rules code. keeping (is_number (code_defaults rules code)) r.number >>= λ d. repeated d (value there)
      >>= λ vs. give (function rules code vs) in
      let w1 = went (r.profile s) (λ rules. keeping (λ n. nat_le n longest_text) r.number >>= of_code rules) a t e in
      let w0 = went (keeping (λ n. n == 1) byte s) (λ n. give One) w1.value w1.front w1.first in
      let q0 = kept (λ n. n == 1) byte s w0.value w0.front w0.first in
      let b0 = byte_gave s w0.value w0.front q0.given in
      let g0 = gave One w1.value w0.front w1.front w0.second in
      let one : w0.value ≡ 1 = is_one_number w0.value q0.keeps in
      let took_1 : Took s w1.front (1 ∷ []) [] = subst (λ u. Took s u (1 ∷ []) []) g0.front (subst (λ n. Took s w0.front (n ∷ []) []) one b0) in
      let small_1 = left_bytes s w1.front (1 ∷ []) [] took_1 small in
      let f1 : (keeping (λ n. nat_le n longest_text) r.number >>= of_code One) w1.front ≡ Ok (a, t) =
      ap (λ rules. (keeping (λ n. nat_le n longest_text) r.number >>= of_code rules) w1.front) g0.value ∙ w1.second in
      let w2 = went (keeping (λ n. nat_le n longest_text) r.number w1.front) (of_code One) a t f1 in
      let q2 = kept (λ n. nat_le n longest_text) r.number w1.front w2.value w2.front w2.first in
      let n2 = number_gave w1.front w2.value w2.front small_1 q2.given in
      let small_2 = left_bytes w1.front w2.front (in_four w2.value) [] n2.took small_1 in
      let w3 = went (keeping (is_code One) (bytes w2.value) w2.front) (of_defaults One) a t w2.second in
      let q3 = kept (is_code One) (bytes w2.value) w2.front w3.value w3.front w3.first in
      let c3 = bytes_gave w2.value w2.front w3.value w3.front q3.given in
      let small_3 = left_bytes w2.front w3.front w3.value [] c3.took small_2 in
      let w4 = went (keeping (is_number (code_defaults One w3.value)) r.number w3.front)
      (λ d. repeated d (value there) >>= λ vs. give (function One w3.value vs)) a t w3.second in
      let q4 = kept (is_number (code_defaults One w3.value)) r.number w3.front w4.value w4.front w4.first in
      let n4 = number_gave w3.front w4.value w4.front small_3 q4.given in
      let w5 = went (repeated w4.value (value there) w4.front) (λ vs. give (function One w3.value vs)) a t w4.second in
      let m5 = repeated_gave (value there) value_bytes number (IsRead there) (one_value there) w4.value w4.front w5.value w5.front
      (left_bytes w3.front w4.front (in_four w4.value) [] n4.took small_3) w5.first in
      let code = w3.value in
      let vs = w5.value in
      let code_took : Took w1.front w3.front (long code) [] =
      took_as w1.front w3.front (in_four w2.value ++ code) (long code) [] (ap (λ n. in_four n ++ code) (sym c3.size))
      (took_on w1.front w2.front w3.front (in_four w2.value) code [] [] n2.took c3.took) in
      let values_took : Took w3.front w5.front (many value_bytes vs) (numbers vs) =
      took_as w3.front w5.front (in_four w4.value ++ flat_map value_bytes vs) (many value_bytes vs) (numbers vs)
      (ap (λ n. in_four n ++ flat_map value_bytes vs) (sym m5.size))
      (took_on w3.front w4.front w5.front (in_four w4.value) (flat_map value_bytes vs) [] (numbers vs) n4.took m5.took) in
      made_of (λ y f. RowBehind there 5 s y f) (function One code vs) a w5.front t w5.second (record {
        bytes = 1 ∷ (long code ++ many value_bytes vs);
        is = refl;
        took = took_on s w1.front w5.front (1 ∷ []) (long code ++ many value_bytes vs) [] (numbers vs) took_1
            (took_on w1.front w3.front w5.front (long code) (many value_bytes vs) [] (numbers vs) code_took values_took);
        read = (
          record {
            known = refl;
            short = (let l = leb-true w2.value longest_text q2.keeps in let d = c3.size in omega arith);
            reads = q3.keeps;
            filled = right_number (code_defaults One code) w4.value q4.keeps ∙ ap Some (sym m5.size);
          },
          ((let l = n4.small in let d = m5.size in omega arith), m5.all),
        );
      })
    where
      is_one_number : (n : ℕ) → (n == 1) ≡ true → n ≡ 1
      is_one_number n f = elim (same_or_not n 1) [ inl g ↦ g.0 | inr h ↦ absurd (let i : true ≡ false = sym f ∙ h.1 in cc) ]

  exception_gave : (s : Front) (a : Node) (t : Front) → AreBytes s.rest → row_behind there 6 s ≡ Ok (a, t) → RowBehind there 6 s a t
  exception_gave s a t small e =
      let w = went (keeping is_exception_class byte s) (λ c. r.values there >>= λ vs. give (exception c vs)) a t e in
      let q = kept is_exception_class byte s w.value w.front w.first in
      let b = byte_gave s w.value w.front q.given in
      let v = went (r.values there w.front) (λ vs. give (exception w.value vs)) a t w.second in
      let h = values_gave there w.front v.value v.front (left_bytes s w.front (w.value ∷ []) [] b small) v.first in
      made_of (λ y f. RowBehind there 6 s y f) (exception w.value v.value) a v.front t v.second (record {
        bytes = w.value ∷ many value_bytes v.value;
        is = refl;
        took = took_on s w.front v.front (w.value ∷ []) (many value_bytes v.value) [] (numbers v.value) b h.took;
        read = (q.keeps, h.read);
      })

  row_gave_behind : (kind : ℕ) → (nat_le 1 kind && nat_le kind 6) ≡ true → (s : Front) (a : Node) (t : Front) → AreBytes s.rest
      → row_behind there kind s ≡ Ok (a, t) → RowBehind there kind s a t
  row_gave_behind zero l s a t small e = absurd (cc)
  row_gave_behind (suc zero) l s a t small e = list_gave 1 list s a t small (λ vs. refl) (λ vs. refl) (λ vs h. h) e
  row_gave_behind (suc (suc zero)) l s a t small e = list_gave 2 tuple s a t small (λ vs. refl) (λ vs. refl) (λ vs h. h) e
  row_gave_behind (suc (suc (suc zero))) l s a t small e = dict_gave s a t small e
  row_gave_behind (suc (suc (suc (suc zero)))) l s a t small e = object_gave s a t small e
  row_gave_behind (suc (suc (suc (suc (suc zero))))) l s a t small e = function_gave s a t small e
  row_gave_behind (suc (suc (suc (suc (suc (suc zero)))))) l s a t small e = exception_gave s a t small e
  row_gave_behind (suc (suc (suc (suc (suc (suc (suc n))))))) l s a t small e =
      absurd (let m = leb-true (suc (suc (suc (suc (suc (suc (suc n))))))) 6
      (and_parts (nat_le 1 (suc (suc (suc (suc (suc (suc (suc n)))))))) (nat_le (suc (suc (suc (suc (suc (suc (suc n))))))) 6) l).1 in
      omega arith)

pub record Rowed (there : ℕ → Bool) (s : Front) (a : Node) (t : Front) : Type 0 where
  pub took : Took s t (row_bytes a) (numbers (children a))
  pub read : IsReadNode there a

pub row_gave : (there : ℕ → Bool) (s : Front) (a : Node) (t : Front) → AreBytes s.rest → row there s ≡ Ok (a, t) → Rowed there s a t
row_gave there s a t small e =
    let w = went (keeping (λ n. nat_le 1 n && nat_le n 6) byte s) (row_behind there) a t e in
    let q = kept (λ n. nat_le 1 n && nat_le n 6) byte s w.value w.front w.first in
    let b = byte_gave s w.value w.front q.given in
    let h = row_gave_behind there w.value q.keeps w.front a t (left_bytes s w.front (w.value ∷ []) [] b small) w.second in
    record {
      took = took_as s t (w.value ∷ h.bytes) (row_bytes a) (numbers (children a)) h.is
          (took_on s w.front t (w.value ∷ []) h.bytes [] (numbers (children a)) b h.took);
      read = h.read;
    }

pub record Rows (there : ℕ → Bool) (n q : ℕ) (s : Front) (ms : List Node) (t : Front) : Type 0 where
  pub size : length ms ≡ n
  pub rest : s.rest ≡ flat_map row_bytes ms ++ t.rest
  pub met : rows_counted q s.met ms ≡ Some t.met
  pub read : AllByRecursion (IsReadNode there) ms

module _ (there : ℕ → Bool) where
  pub rows_gave : (n q : ℕ) (s : Front) (ms : List Node) (t : Front) → AreBytes s.rest → r.rows there n q s ≡ Ok (ms, t) → Rows there n q s ms t
  rows_gave zero q s ms t small e =
      made_of (λ (y : List Node) (f : Front). Rows there 0 q s y f) [] ms s t e (record { size = refl; rest = refl; met = refl; read = tt })
  rows_gave (suc n) q s ms t small e = elim (cases_Bool (nat_lt q s.met)) [
    | inl y ↦ (
        let f : (row there >>= λ a. r.rows there n (suc q) >>= λ bs. give (a ∷ bs)) s ≡ Ok (ms, t) =
        sym (ap {B = Reading (List Node)} (λ b. if b then (row there >>= λ a. r.rows there n (suc q) >>= λ bs. give (a ∷ bs)) s else Err
        (length s.rest)) y) ∙ e in
        let w = went (row there s) (λ a. r.rows there n (suc q) >>= λ bs. give (a ∷ bs)) ms t f in
        let a = row_gave there s w.value w.front small w.first in
        let v = went (r.rows there n (suc q) w.front) (λ bs. give (w.value ∷ bs)) ms t w.second in
        let h = rows_gave n (suc q) w.front v.value v.front (left_bytes s w.front (row_bytes w.value) (numbers (children w.value)) a.took small)
        v.first in
        made_of (λ (z : List Node) (u : Front). Rows there (suc n) q s z u) (w.value ∷ v.value) ms v.front t v.second (record {
          size = (let k = h.size in omega arith);
          rest = a.took.rest ∙ ap (λ z. row_bytes w.value ++ z) h.rest
              ∙ sym (append_assoc (row_bytes w.value) (flat_map row_bytes v.value) v.front.rest);
          met = ap (λ b. if b then option_and_then (λ k. rows_counted (suc q) k v.value) (counted s.met (numbers (children w.value))) else None) y
              ∙ ap (option_and_then (λ k. rows_counted (suc q) k v.value)) a.took.met ∙ h.met;
          read = (a.read, h.read);
        })
        )
    | inr y ↦ absurd (let f : Err (length s.rest) ≡ Ok (ms, t) = sym (ap {B = Reading (List Node)}
        (λ b. if b then (row there >>= λ a. r.rows there n (suc q) >>= λ bs. give (a ∷ bs)) s else Err (length s.rest)) y) ∙ e in cc)
  ]

-- ---- names and the whole

pub record Named (last : Option (List ℕ)) (n : ℕ) (s : Front) (ns : Names) (t : Front) : Type 0 where
  pub size : length ns ≡ n
  pub took : Took s t (flat_map name_bytes ns) (numbers (map (λ (b : List ℕ × Value). b.1) ns))
  pub follow : Follow last ns

pub names_gave : (n : ℕ) (last : Option (List ℕ)) (s : Front) (ns : Names) (t : Front) → AreBytes s.rest → r.names n last s ≡ Ok (ns, t)
    → Named last n s ns t
names_gave zero last s ns t small e =
    made_of (λ (y : Names) (f : Front). Named last 0 s y f) [] ns s t e (record { size = refl; took = took_none s; follow = tt })
names_gave (suc n) last s ns t small e =
    let rule : List ℕ → Bool = λ x. is_name x && is_behind last x in
    let w1 = went (short_name rule s) (λ x. value (λ i. true) >>= λ v. r.names n (Some x) >>= λ bs. give ((x, v) ∷ bs)) ns t e in
    let x = w1.value in
    let a = name_gave rule s x w1.front w1.first in
    let small_2 = left_bytes s w1.front (short x) [] a.took small in
    let w2 = went (value (λ i. true) w1.front) (λ v. r.names n (Some x) >>= λ bs. give ((x, v) ∷ bs)) ns t w1.second in
    let b = value_gave (λ i. true) w1.front w2.value w2.front small_2 w2.first in
    let small_3 = left_bytes w1.front w2.front (value_bytes w2.value) (number w2.value) b.took small_2 in
    let w3 = went (r.names n (Some x) w2.front) (λ bs. give ((x, w2.value) ∷ bs)) ns t w2.second in
    let c = names_gave n (Some x) w2.front w3.value w3.front small_3 w3.first in
    made_of (λ (y : Names) (f : Front). Named last (suc n) s y f) ((x, w2.value) ∷ w3.value) ns w3.front t w3.second (record {
      size = (let k = c.size in omega arith);
      took = took_as s w3.front (short x ++ (value_bytes w2.value ++ flat_map name_bytes w3.value))
          ((short x ++ value_bytes w2.value) ++ flat_map name_bytes w3.value)
          (number w2.value ++ numbers (map (λ (y : List ℕ × Value). y.1) w3.value))
          (sym (append_assoc (short x) (value_bytes w2.value) (flat_map name_bytes w3.value)))
          (took_on s w1.front w3.front (short x) (value_bytes w2.value ++ flat_map name_bytes w3.value) []
          (number w2.value ++ numbers (map (λ (y : List ℕ × Value). y.1) w3.value)) a.took
          (took_on w1.front w2.front w3.front (value_bytes w2.value) (flat_map name_bytes w3.value) (number w2.value)
          (numbers (map (λ (y : List ℕ × Value). y.1) w3.value)) b.took c.took));
      follow = (a.keeps, a.some, b.read, c.follow);
    })

pub record IsReadAs (bs : List ℕ) (p : State) : Type 0 where
  pub readable : IsReadable p
  pub is : bs ≡ state_bytes p

-- as many nodes are met as there are rows
rows_reach : (ms : List Node) (q k n : ℕ) → rows_counted q k ms ≡ Some n → q ≤ k → q + length ms ≤ n
rows_reach [] q k n e l = (let f : k ≡ n = some_number k n e in omega arith)
rows_reach (a ∷ ms) q k n e l =
    let j = next_row a ms q k n e in
    let x = counted_up (numbers (children a)) k j.0 j.2 in
    let less = j.1 in
    let y = rows_reach ms (suc q) j.0 n j.3 (omega arith) in
    omega arith

-- no more nodes are met than there are
counted_below : (m : ℕ) (is : List ℕ) (k n : ℕ) → counted k is ≡ Some n → ((i : ℕ) → In i is → i < m) → k ≤ m → n ≤ m
counted_below m [] k n e low l = (let f : k ≡ n = some_number k n e in omega arith)
counted_below m (i ∷ is) k n e low l = elim (cases_Bool (nat_lt i k)) [
  | inl t ↦ counted_below m is k n (rw t at e) (λ j h. low j (inr h)) l
  | inr t ↦ (
      let f : (if i == k then counted (suc k) is else None) ≡ Some n = rw t at e in
      elim (same_or_not i k) [
        | inl u ↦ (let a = low i (inl refl) in let b : i ≡ k = u.0 in counted_below m is (suc k) n (rw u.1 at f) (λ j h. low j (inr h)) (omega arith))
        | inr u ↦ absurd (let g : None ≡ Some n = rw u.1 at f in cc)
      ]
      )
]

reads_there : (there : ℕ → Bool) (vs : List Value) → AllByRecursion (IsRead there) vs → (i : ℕ) → In i (numbers vs) → there i ≡ true
reads_there there [] h i m = absurd m
reads_there there (v ∷ vs) h i m = elim (in_cases i (number v) (numbers vs) m) [ inl l ↦ one v h.0 l | inr k ↦ reads_there there vs h.1 i k ]
  where
    one : (w : Value) → IsRead there w → In i (number w) → there i ≡ true
    one (node j) g (inl e) = ap there e ∙ g.1
    one (node j) g (inr f) = absurd f
    one none g f = absurd f
    one (bool b) g f = absurd f
    one (integer z) g f = absurd f
    one (text cs) g f = absurd f
    one (range a b c) g f = absurd f
    one (builtin n) g f = absurd f
    one (class n) g f = absurd f

pub reads_children : (there : ℕ → Bool) (a : Node) → IsReadNode there a → AllByRecursion (IsRead there) (children a)
reads_children there (list vs) h = h.1
reads_children there (tuple vs) h = h.1
reads_children there (dict es) h = h.3
reads_children there (object as') h = h.3
reads_children there (function profile code vs) h = h.1.1
reads_children there (exception kind vs) h = h.1.1

rows_below : (m : ℕ) (ms : List Node) (q k n : ℕ) → rows_counted q k ms ≡ Some n → AllByRecursion (IsReadNode (λ i. nat_lt i m)) ms → k ≤ m → n ≤ m
rows_below m [] q k n e h l = (let f : k ≡ n = some_number k n e in omega arith)
rows_below m (a ∷ ms) q k n e h l =
    let j = next_row a ms q k n e in
    let low = λ (i : ℕ) (x : In i (numbers (children a))). ltb-true i m
    (reads_there (λ y. nat_lt y m) (children a) (reads_children (λ y. nat_lt y m) a h.0) i x) in
    rows_below m ms (suc q) j.0 n j.3 h.1 (counted_below m (numbers (children a)) k j.0 j.2 low l)

whole_gave_state : (s : Front) (p : State) (t : Front) → s.met ≡ 0 → AreBytes s.rest → whole_picture s ≡ Ok (p, t) → IsReadAs s.rest p
whole_gave_state s p t none_met_yet small e =
    let of_rows : Names → ℕ → Reader State = λ ns m. r.rows (λ i. nat_lt i m) m 0 >>= λ ms. at_end (record { names = ns; nodes = ms }) in
    let of_count : Names → Reader State = λ ns. node_count >>= of_rows ns in
    let w1 = went (r.number s) (λ n. r.names n None >>= of_count) p t e in
    let n1 = number_gave s w1.value w1.front small w1.first in
    let small_1 = left_bytes s w1.front (in_four w1.value) [] n1.took small in
    let w2 = went (r.names w1.value None w1.front) of_count p t w1.second in
    let h2 = names_gave w1.value None w1.front w2.value w2.front small_1 w2.first in
    let ns = w2.value in
    let first = numbers (map (λ (b : List ℕ × Value). b.1) ns) in
    let small_2 = left_bytes w1.front w2.front (flat_map name_bytes ns) first h2.took small_1 in
    let w3 = went (keeping (nat_le w2.front.met) r.number w2.front) (of_rows ns) p t w2.second in
    let m = w3.value in
    let q3 = kept (nat_le w2.front.met) r.number w2.front m w3.front w3.first in
    let n3 = number_gave w2.front m w3.front small_2 q3.given in
    let small_3 = left_bytes w2.front w3.front (in_four m) [] n3.took small_2 in
    let w4 = went (r.rows (λ i. nat_lt i m) m 0 w3.front) (λ ms. at_end (record { names = ns; nodes = ms })) p t w3.second in
    let h4 = rows_gave (λ i. nat_lt i m) m 0 w3.front w4.value w4.front small_3 w4.first in
    let ms = w4.value in
    let done = ended ns ms w4.front p t w4.second in
    let q : State = record { names = ns; nodes = ms } in
    let met_1 : Some s.met ≡ Some w1.front.met = n1.took.met in
    let met_2 : counted w1.front.met first ≡ Some w2.front.met = h2.took.met in
    let met_3 : Some w2.front.met ≡ Some w3.front.met = n3.took.met in
    let from_0 : counted 0 first ≡ Some w3.front.met =
    ap (λ k. counted k first) (sym none_met_yet ∙ some_one s.met w1.front.met met_1) ∙ met_2 ∙ met_3 in
    let up = rows_reach ms 0 w3.front.met w4.front.met h4.met (omega arith) in
    let down = rows_below m ms 0 w3.front.met w4.front.met h4.met h4.read
    (let a = leb-true w2.front.met m q3.keeps in let b = some_one w2.front.met w3.front.met met_3 in omega arith) in
    subst (λ x. IsReadAs s.rest x) done.0 (record {
      readable = record {
        many = (let a = n1.small in let b = h2.size in omega arith);
        names = h2.follow;
        count = (let a = n3.small in let b = h4.size in omega arith);
        nodes = subst (λ k. AllByRecursion (IsReadNode (λ i. nat_lt i k)) ms) (sym h4.size) h4.read;
        order = ap (option_and_then (λ k. rows_counted 0 k ms)) from_0 ∙ h4.met
            ∙ ap Some (let l : w4.front.met ≡ length ms = (let a = h4.size in omega arith) in l);
      };
      is = n1.took.rest ∙ ap (λ z. in_four w1.value ++ z) (h2.took.rest
          ∙ ap (λ z. flat_map name_bytes ns ++ z) (n3.took.rest ∙ ap (λ z. in_four m ++ z)
          (h4.rest ∙ ap (λ z. flat_map row_bytes ms ++ z) done.1 ∙ append-nil (flat_map row_bytes ms))))
          ∙ sym (append_assoc (in_four w1.value) (flat_map name_bytes ns) (in_four m ++ flat_map row_bytes ms))
          ∙ ap (λ n. (in_four n ++ flat_map name_bytes ns) ++ (in_four m ++ flat_map row_bytes ms)) (sym h2.size)
          ∙ ap (λ n. many name_bytes ns ++ (in_four n ++ flat_map row_bytes ms)) (sym h4.size);
    })
  where
    some_one : (a b : ℕ) → Some a ≡ Some b → a ≡ b
    some_one a b f = cc

    empty_is : {A : Type 0} (xs : List A) → length xs ≡ 0 → xs ≡ []
    empty_is [] f = refl
    empty_is (x ∷ xs) f = absurd (omega arith)

    ended : (ns : Names) (ms : List Node) (u : Front) (p : State) (t : Front) → at_end (record { names = ns; nodes = ms }) u ≡ Ok (p, t)
        → (record { names = ns; nodes = ms } ≡ p) × (u.rest ≡ [])
    ended ns ms u p t e =
        let q : State = record { names = ns; nodes = ms } in
        elim (same_or_not (length u.rest) 0) [
          | inl y ↦ (
              let f : Ok (q, u) ≡ Ok (p, t) = sym (ap {B = Reading State} (λ b. if b then Ok (q, u) else Err (length u.rest)) y.1) ∙ e in
              (ap (λ z. z.0) (ok_is (q, u) (p, t) f), empty_is u.rest y.0)
              )
          | inr y ↦ absurd (let f : Err (length u.rest) ≡ Ok (p, t) = sym
              (ap {B = Reading State} (λ b. if b then Ok (q, u) else Err (length u.rest)) y.1) ∙ e in cc)
        ]

-- What is read as a state can be read, and the bytes are those that are written of it.
pub read_is_written : (bs : List ℕ) (p : State) → AreBytes bs → read_picture bs ≡ Ok p → IsReadAs bs p
unfolding read_picture
read_is_written bs p small e = by (whole_picture (record { rest = bs; met = 0 })) refl
  where
    same : (x y : State) → ◌≡◌ {A = Result State ℕ} (Ok x) (Ok y) → x ≡ y
    same x y g = cc

    by : (o : Reading State) → whole_picture (record { rest = bs; met = 0 }) ≡ o → IsReadAs bs p
    by (Ok r) f = (let g : Ok r.0 ≡ Ok p = sym (ap (with_place (length bs)) f) ∙ e in
        subst (λ x. IsReadAs bs x) (same r.0 p g) (whole_gave_state (record { rest = bs; met = 0 }) r.0 r.1 refl small f))
    by (Err left) f = absurd (let g : Err (length bs - left) ≡ Ok p = sym (ap (with_place (length bs)) f) ∙ e in cc)
