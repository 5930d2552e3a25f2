-- What is read as a picture is the bytes that are written of it, part after part.
use Rattle.std.specs.Prelude.{◌≡◌, ℕ, zero, suc, ◌<◌, ◌≤◌, ◌^◌, ◌==◌, nat_le, nat_lt, ℤ, pos, FitsSigned, Bool, true, false, not, ◌&&◌, if◌then◌else◌, List, [], ◌∷◌, ◌++◌, length, get_or, take, drop, flat_map, Some, None, Ok, Err}
use Rattle.std.specs.Int.{w32, w128, to_be_bytes, from_be_bytes, cast_signed}
use Rattle.std.specs.Ordering.{int_eq}
use Rattle.std.specs.Str.{encode_utf8_all, chars, all_scalars, bytes_eq}
use Rattle.std.specs.List.{AllByRecursion}
use Rattle.std.specs.Cmp.Lexicographic.{bytes_decides}
use Rattle.std.proofs.Common.{refl, ap, sym, ◌∙◌, subst, arith, inl, inr, append_assoc}
use Rattle.std.proofs.lemmas.Bool.{cases_Bool, cases_lt, and_parts, leb-true, lt-ltb, le-ltb}
use Rattle.std.proofs.lemmas.List.{take-append-drop}
use Rattle.std.proofs.lemmas.Nat.{be_bytes_4}
use Rattle.kishu_meaning.specs.values.Sound.{builtins, classes}
use Rattle.kishu_meaning.specs.values.Values.{Value, none, bool, integer, text, range, builtin, class, node}
use Rattle.kishu_bytes.specs.Numbers.{four, sixteen}
use Rattle.kishu_objects.specs.Picture.{number, numbers}
use Rattle.kishu_objects.specs.Reading.{counted}
use Rattle.kishu_objects.specs.Bytes.{in_four, short, long, many, value_bytes}
use Rattle.kishu_objects.specs.Fits.{Spells}
use Rattle.kishu_objects_laws.specs.ListLaws.{same_or_not}
use Rattle.kishu_reading.specs.FromBytes as r
use Rattle.kishu_reading.specs.FromBytes.{Front, Reader, Reading, ◌>>=◌, and_then, keeping, repeated, give, bytes, byte, first_byte, is_utf8, meets, node_number, value_behind, value, short_name}
use Rattle.kishu_reading.specs.Pictured.{AreBytes}
use Rattle.kishu_reading_laws.specs.WholeNumbers.{to_sixteen, signed_fits, unsigned_back}
use Rattle.kishu_reading_laws.specs.TakingLaws.{IsRead, AreRead}

-- From the one place to the other these bytes were read, and these nodes were met.
pub record Took (s t : Front) (bs is : List ℕ) : Type 0 where
  pub rest : s.rest ≡ bs ++ t.rest
  pub met : counted s.met is ≡ Some t.met

pub some_number : (a b : ℕ) → Some a ≡ Some b → a ≡ b
some_number a b f = cc

counted_on : (is js : List ℕ) (m k n : ℕ) → counted m is ≡ Some k → counted k js ≡ Some n → counted m (is ++ js) ≡ Some n
counted_on [] js m k n e f = (let g : m ≡ k = some_number m k e in subst (λ x. counted x js ≡ Some n) (sym g) f)
counted_on (i ∷ is) js m k n e f = elim (cases_Bool (nat_lt i m)) [
  | inl t ↦ (let g : counted m is ≡ Some k = rw t at e in ap (λ b. if b then counted m (is ++ js) else
      (if i == m then counted (suc m) (is ++ js) else None)) t ∙ counted_on is js m k n g f)
  | inr t ↦ (
      let g : (if i == m then counted (suc m) is else None) ≡ Some k = rw t at e in
      elim (cases_Bool (i == m)) [
        | inl u ↦ (
            let h : counted (suc m) is ≡ Some k = rw u at g in
            ap (λ b. if b then counted m (is ++ js) else (if i == m then counted (suc m) (is ++ js) else None)) t
            ∙ ap (λ b. if b then counted (suc m) (is ++ js) else None) u ∙ counted_on is js (suc m) k n h f
            )
        | inr u ↦ absurd (let h : None ≡ Some k = rw u at g in cc)
      ]
      )
]

pub took_none : (s : Front) → Took s s [] []
took_none s = record { rest = refl; met = refl }

pub took_on : (s t u : Front) (bs cs is js : List ℕ) → Took s t bs is → Took t u cs js → Took s u (bs ++ cs) (is ++ js)
took_on s t u bs cs is js a b = record {
  rest = a.rest ∙ ap (λ z. bs ++ z) b.rest ∙ sym (append_assoc bs cs u.rest);
  met = counted_on is js s.met t.met u.met a.met b.met;
}

pub took_as : (s t : Front) (bs cs is : List ℕ) → bs ≡ cs → Took s t bs is → Took s t cs is
took_as s t bs cs is e h = subst (λ x. Took s t x is) e h

bytes_behind : (xs ys : List ℕ) → AreBytes (xs ++ ys) → AreBytes ys
bytes_behind [] ys h = h
bytes_behind (x ∷ xs) ys h = bytes_behind xs ys h.1

bytes_before : (xs ys : List ℕ) → AreBytes (xs ++ ys) → AreBytes xs
bytes_before [] ys h = tt
bytes_before (x ∷ xs) ys h = (h.0, bytes_before xs ys h.1)

pub left_bytes : (s t : Front) (bs is : List ℕ) → Took s t bs is → AreBytes s.rest → AreBytes t.rest
left_bytes s t bs is a h = bytes_behind bs t.rest (subst AreBytes a.rest h)

-- ---- what a reader did

pub ok_is : {A : Type 0} (x y : A × Front) → ◌≡◌ {A = Reading A} (Ok x) (Ok y) → x ≡ y
ok_is x y e = cc

-- A reader gave something where another went on.
pub record Went {A B : Type 0} (o : Reading A) (f : A → Reader B) (b : B) (u : Front) : Type 0 where
  pub value : A
  pub front : Front
  pub first : o ≡ Ok (value, front)
  pub second : f value front ≡ Ok (b, u)

pub went : {A B : Type 0} (o : Reading A) (f : A → Reader B) (b : B) (u : Front) → and_then o f ≡ Ok (b, u) → Went o f b u
went (Ok r) f b u e = record { value = r.0; front = r.1; first = refl; second = e }
went (Err n) f b u e = absurd (cc)

pub record Kept {A : Type 0} (rule : A → Bool) (p : Reader A) (s : Front) (a : A) (t : Front) : Type 0 where
  pub given : p s ≡ Ok (a, t)
  pub keeps : rule a ≡ true

pub kept : {A : Type 0} (rule : A → Bool) (p : Reader A) (s : Front) (a : A) (t : Front) → keeping rule p s ≡ Ok (a, t) → Kept rule p s a t
kept {A} rule p s a t e =
    let w = went (p s) (λ x y. if rule x then Ok (x, y) else Err (length s.rest)) a t e in
    elim (cases_Bool (rule w.value)) [
      | inl y ↦ (
          let f : Ok (w.value, w.front) ≡ Ok (a, t) =
          sym (ap {B = Reading A} (λ b. if b then Ok (w.value, w.front) else Err (length s.rest)) y) ∙ w.second in
          record { given = w.first ∙ f; keeps = ap rule (sym (ap (λ z. z.0) (ok_is (w.value, w.front) (a, t) f))) ∙ y }
          )
      | inr y ↦ absurd (
          let f : Err (length s.rest) ≡ Ok (a, t) =
          sym (ap {B = Reading A} (λ b. if b then Ok (w.value, w.front) else Err (length s.rest)) y) ∙ w.second in
          cc
          )
    ]

-- what `give` gave
pub record Gave {A : Type 0} (a b : A) (s t : Front) : Type 0 where
  pub value : a ≡ b
  pub front : s ≡ t

pub gave : {A : Type 0} (a b : A) (s t : Front) → give a s ≡ Ok (b, t) → Gave a b s t
gave a b s t e = (let f = ok_is (a, s) (b, t) e in record { value = ap (λ z. z.0) f; front = ap (λ z. z.1) f })

-- ---- fields

pub byte_gave : (s : Front) (b : ℕ) (t : Front) → byte s ≡ Ok (b, t) → Took s t (b ∷ []) []
byte_gave s b t e = by s.rest refl e
  where
    by : (bs : List ℕ) → s.rest ≡ bs → first_byte bs s.met ≡ Ok (b, t) → Took s t (b ∷ []) []
    by [] f g = absurd (cc)
    by (c ∷ cs) f g =
        let h = ok_is (c, record { rest = cs; met = s.met }) (b, t) g in
        let x : c ≡ b = ap (λ z. z.0) h in
        let y : record { rest = cs; met = s.met } ≡ t = ap (λ z. z.1) h in
        record { rest = f ∙ ap (λ z. z ∷ cs) x ∙ ap (λ z. b ∷ z.rest) y; met = ap (λ z. Some z.met) y }

pub record Cut (n : ℕ) (s : Front) (bs : List ℕ) (t : Front) : Type 0 where
  pub took : Took s t bs []
  pub size : length bs ≡ n

length_take : (n : ℕ) (xs : List ℕ) → n ≤ length xs → length (take n xs) ≡ n
length_take zero xs l = refl
length_take (suc n) [] l = absurd (omega arith)
length_take (suc n) (x ∷ xs) l = (let k = length_take n xs (omega arith) in omega arith)

pub bytes_gave : (n : ℕ) (s : Front) (bs : List ℕ) (t : Front) → bytes n s ≡ Ok (bs, t) → Cut n s bs t
bytes_gave n s bs t e = elim (cases_Bool (nat_le n (length s.rest))) [
  | inl y ↦ (
      let f : Ok (take n s.rest, record { rest = drop n s.rest; met = s.met }) ≡ Ok (bs, t) =
      sym (ap {B = Reading (List ℕ)} (λ b. if b then Ok (take n s.rest, record { rest = drop n s.rest; met = s.met }) else Err (length s.rest))
      y) ∙ e in
      let h = ok_is (take n s.rest, record { rest = drop n s.rest; met = s.met }) (bs, t) f in
      let x : take n s.rest ≡ bs = ap (λ z. z.0) h in
      let q : record { rest = drop n s.rest; met = s.met } ≡ t = ap (λ z. z.1) h in
      record {
        took = record {
          rest = sym (take-append-drop n s.rest) ∙ ap (λ z. z ++ drop n s.rest) x ∙ ap (λ z. bs ++ z.rest) q;
          met = ap (λ z. Some z.met) q;
        };
        size = ap length (sym x) ∙ length_take n s.rest (leb-true n (length s.rest) y);
      }
      )
  | inr y ↦ absurd (let f : Err (length s.rest) ≡ Ok (bs, t) = sym (ap {B = Reading (List ℕ)}
      (λ b. if b then Ok (take n s.rest, record { rest = drop n s.rest; met = s.met }) else Err (length s.rest)) y) ∙ e in cc)
]

small_at : (bs : List ℕ) → AreBytes bs → (i : ℕ) → get_or bs i 0 < 256
small_at [] h i = omega arith
small_at (b ∷ bs) h zero = h.0
small_at (b ∷ bs) h (suc i) = small_at bs h.1 i

pub record Number (s : Front) (n : ℕ) (t : Front) : Type 0 where
  pub took : Took s t (in_four n) []
  pub small : n < 2 ^ 32

pub number_gave : (s : Front) (n : ℕ) (t : Front) → AreBytes s.rest → r.number s ≡ Ok (n, t) → Number s n t
unfolding in_four
number_gave s n t small e =
    let w = went (bytes 4 s) (λ bs. give (from_be_bytes w32 bs)) n t e in
    let c = bytes_gave 4 s w.value w.front w.first in
    let g = gave (from_be_bytes w32 w.value) n w.front t w.second in
    let low = small_at w.value (bytes_before w.value w.front.rest (subst AreBytes c.took.rest small)) in
    let same : four n ≡ w.value = be_bytes_4 w.value n c.size low (sym g.value) in
    record {
      took = subst (λ u. Took s u (four n) []) g.front (took_as s w.front w.value (four n) [] (sym same) c.took);
      small = (let a = low 0 in let b = low 1 in let d = low 2 in let f = low 3 in let v = g.value in omega arith);
    }

pub record Whole (s : Front) (z : ℤ) (t : Front) : Type 0 where
  pub took : Took s t (sixteen z) []
  pub fits : FitsSigned w128 z

pub whole_gave : (s : Front) (z : ℤ) (t : Front) → AreBytes s.rest → r.whole_number s ≡ Ok (z, t) → Whole s z t
unfolding sixteen
whole_gave s z t small e =
    let w = went (bytes 16 s) (λ bs. give (cast_signed w128 (from_be_bytes w128 bs))) z t e in
    let c = bytes_gave 16 s w.value w.front w.first in
    let g = gave (cast_signed w128 (from_be_bytes w128 w.value)) z w.front t w.second in
    let low = small_at w.value (bytes_before w.value w.front.rest (subst AreBytes c.took.rest small)) in
    let q = to_sixteen w.value c.size low in
    record {
      took = subst (λ u. Took s u (sixteen z) []) g.front
          (took_as s w.front w.value (sixteen z) [] (sym (ap sixteen (sym g.value)
          ∙ ap (to_be_bytes w128) (unsigned_back (from_be_bytes w128 w.value) q.1) ∙ q.0)) c.took);
      fits = subst (λ x. FitsSigned w128 x) g.value (signed_fits (from_be_bytes w128 w.value) q.1);
    }

-- bytes that are the text of the code points which they spell
utf8_is : (bs : List ℕ) → is_utf8 bs ≡ true → (all_scalars (chars bs) ≡ true) × (encode_utf8_all (chars bs) ≡ bs)
utf8_is bs t = (let k = and_parts (all_scalars (chars bs)) (bytes_eq (encode_utf8_all (chars bs)) bs) t in
    (k.0, (bytes_decides (encode_utf8_all (chars bs)) bs).0 k.1))

pub record Text (s : Front) (cs : List ℕ) (t : Front) : Type 0 where
  pub took : Took s t (long (encode_utf8_all cs)) []
  pub spells : Spells cs

pub spelled_gave : (s : Front) (cs : List ℕ) (t : Front) → AreBytes s.rest → r.spelled s ≡ Ok (cs, t) → Text s cs t
spelled_gave s cs t small e =
    let w = went (r.number s) (λ n. keeping is_utf8 (bytes n) >>= λ bs. give (chars bs)) cs t e in
    let n = number_gave s w.value w.front small w.first in
    let v = went (keeping is_utf8 (bytes w.value) w.front) (λ bs. give (chars bs)) cs t w.second in
    let q = kept is_utf8 (bytes w.value) w.front v.value v.front v.first in
    let c = bytes_gave w.value w.front v.value v.front q.given in
    let g = gave (chars v.value) cs v.front t v.second in
    let u = utf8_is v.value q.keeps in
    let same : encode_utf8_all cs ≡ v.value = ap encode_utf8_all (sym g.value) ∙ u.1 in
    let size : length (encode_utf8_all cs) ≡ w.value = ap length same ∙ c.size in
    record {
      took = subst (λ y. Took s y (long (encode_utf8_all cs)) []) g.front
          (took_as s v.front (in_four w.value ++ v.value) (long (encode_utf8_all cs)) []
          (ap (λ x. in_four x ++ v.value) (sym size) ∙ ap (λ x. in_four (length (encode_utf8_all cs)) ++ x) (sym same))
          (took_on s w.front v.front (in_four w.value) v.value [] [] n.took c.took));
      spells = (ap all_scalars (sym g.value) ∙ u.0, (let l = n.small in omega arith));
    }

pub record Name (rule : List ℕ → Bool) (s : Front) (x : List ℕ) (t : Front) : Type 0 where
  pub took : Took s t (short x) []
  pub keeps : rule x ≡ true
  pub some : not (length x == 0) ≡ true

pub name_gave : (rule : List ℕ → Bool) (s : Front) (x : List ℕ) (t : Front) → short_name rule s ≡ Ok (x, t) → Name rule s x t
name_gave rule s x t e =
    let w = went (keeping (λ n. not (n == 0)) byte s) (λ n. keeping rule (bytes n)) x t e in
    let q = kept (λ n. not (n == 0)) byte s w.value w.front w.first in
    let b = byte_gave s w.value w.front q.given in
    let v = kept rule (bytes w.value) w.front x t w.second in
    let c = bytes_gave w.value w.front x t v.given in
    record {
      took = took_as s t (w.value ∷ x) (short x) [] (ap (λ n. n ∷ x) (sym c.size)) (took_on s w.front t (w.value ∷ []) x [] [] b c.took);
      keeps = v.keeps;
      some = ap (λ n. not (n == 0)) c.size ∙ q.keeps;
    }

-- ---- values

-- what holds where reading gives something holds of what it gave
pub made_of : {A : Type 0} (P : A → Front → Type 0) (a b : A) (s t : Front) → give a s ≡ Ok (b, t) → P a s → P b t
made_of P a b s t e h = (let g = gave a b s t e in subst (λ x. P x t) g.value (subst (λ u. P a u) g.front h))

pub record Behind (there : ℕ → Bool) (kind : ℕ) (s : Front) (v : Value) (t : Front) : Type 0 where
  pub bytes : List ℕ
  pub is : kind ∷ bytes ≡ value_bytes v
  pub took : Took s t bytes (number v)
  pub read : IsRead there v

module _ (there : ℕ → Bool) where
  node_gave : (s : Front) (v : Value) (t : Front) → AreBytes s.rest → node_number there s ≡ Ok (v, t) → Behind there 8 s v t
  node_gave s v t small e =
      let rule : ℕ → Bool = λ i. nat_le i s.met && there i in
      let w = went (keeping rule r.number s) meets v t e in
      let q = kept rule r.number s w.value w.front w.first in
      let n = number_gave s w.value w.front small q.given in
      let i = w.value in
      let m = w.front.met in
      let h = ok_is (node i, record { rest = w.front.rest; met = if i == m then suc m else m }) (v, t) w.second in
      let same : Some s.met ≡ Some m = n.took.met in
      let k = and_parts (nat_le i s.met) (there i) q.keeps in
      let low = leb-true i s.met k.0 in
      subst (λ x. Behind there 8 s x t) (ap (λ z. z.0) h) (record {
        bytes = in_four i;
        is = refl;
        took = record {
          rest = n.took.rest ∙ ap (λ z. in_four i ++ z.rest) (ap (λ z. z.1) h);
          met = met_so i s.met m (one s.met m same) low
              ∙ ap (λ z. Some z.met) (ap (λ z. z.1) h);
        };
        read = (n.small, k.1);
      })
    where
      one : (a b : ℕ) → Some a ≡ Some b → a ≡ b
      one a b f = cc

      met_so : (i a b : ℕ) → a ≡ b → i ≤ a → counted a (i ∷ []) ≡ Some (if i == b then suc b else b)
      met_so i a b f l = elim (cases_lt i a) [
        | inl g ↦ (
            let x : nat_lt i a ≡ true = lt-ltb i a g in
            elim (same_or_not i b) [
              | inl y ↦ absurd (let z : i ≡ b = y.0 in omega arith)
              | inr y ↦ (rw x (ap Some f ∙ ap (λ c. Some (if c then suc b else b)) (sym y.1)))
            ]
            )
        | inr g ↦ (
            let x : nat_lt i a ≡ false = le-ltb i a g in
            let y : i ≡ a = omega arith in
            elim (same_or_not i a) [
              | inl z ↦ elim (same_or_not i b) [
                | inl u ↦ (rw (x, z.1) (ap (λ c. Some (suc c)) f ∙ ap (λ c. Some (if c then suc b else b)) (sym u.1)))
                | inr u ↦ absurd (u.0 (y ∙ f))
              ]
              | inr z ↦ absurd (z.0 y)
            ]
            )
      ]

  range_gave : (s : Front) (v : Value) (t : Front) → AreBytes s.rest → value_behind there 5 s ≡ Ok (v, t) → Behind there 5 s v t
  range_gave s v t small e =
      let last : ℤ → ℤ → Reader Value = λ x y. keeping (λ z. not (int_eq z (pos 0))) r.whole_number >>= λ z. give (range x y z) in
      let w = went (r.whole_number s) (λ x. r.whole_number >>= last x) v t e in
      let a = whole_gave s w.value w.front small w.first in
      let small_2 = left_bytes s w.front (sixteen w.value) [] a.took small in
      let u = went (r.whole_number w.front) (last w.value) v t w.second in
      let b = whole_gave w.front u.value u.front small_2 u.first in
      let small_3 = left_bytes w.front u.front (sixteen u.value) [] b.took small_2 in
      let x = went (keeping (λ z. not (int_eq z (pos 0))) r.whole_number u.front) (λ z. give (range w.value u.value z)) v t u.second in
      let q = kept (λ z. not (int_eq z (pos 0))) r.whole_number u.front x.value x.front x.first in
      let c = whole_gave u.front x.value x.front small_3 q.given in
      made_of (λ y f. Behind there 5 s y f) (range w.value u.value x.value) v x.front t x.second (record {
        bytes = sixteen w.value ++ (sixteen u.value ++ sixteen x.value);
        is = refl;
        took = took_on s w.front x.front (sixteen w.value) (sixteen u.value ++ sixteen x.value) [] [] a.took
            (took_on w.front u.front x.front (sixteen u.value) (sixteen x.value) [] [] b.took c.took);
        read = (a.fits, b.fits, c.fits, q.keeps);
      })

  behind_gave : (kind : ℕ) → nat_le kind 8 ≡ true → (s : Front) (v : Value) (t : Front) → AreBytes s.rest → value_behind there kind s ≡ Ok (v, t)
      → Behind there kind s v t
  behind_gave zero l s v t small e =
      made_of (λ y f. Behind there 0 s y f) none v s t e (record { bytes = []; is = refl; took = took_none s; read = tt })
  behind_gave (suc zero) l s v t small e =
      made_of (λ y f. Behind there 1 s y f) (bool false) v s t e (record { bytes = []; is = refl; took = took_none s; read = tt })
  behind_gave (suc (suc zero)) l s v t small e =
      made_of (λ y f. Behind there 2 s y f) (bool true) v s t e (record { bytes = []; is = refl; took = took_none s; read = tt })
  behind_gave (suc (suc (suc zero))) l s v t small e =
      let w = went (r.whole_number s) (λ z. give (integer z)) v t e in
      let n = whole_gave s w.value w.front small w.first in
      made_of (λ y f. Behind there 3 s y f) (integer w.value) v w.front t w.second
      (record { bytes = sixteen w.value; is = refl; took = n.took; read = n.fits })
  behind_gave (suc (suc (suc (suc zero)))) l s v t small e =
      let w = went (r.spelled s) (λ cs. give (text cs)) v t e in
      let n = spelled_gave s w.value w.front small w.first in
      made_of (λ y f. Behind there 4 s y f) (text w.value) v w.front t w.second
      (record { bytes = long (encode_utf8_all w.value); is = refl; took = n.took; read = n.spells })
  behind_gave (suc (suc (suc (suc (suc zero))))) l s v t small e = range_gave s v t small e
  behind_gave (suc (suc (suc (suc (suc (suc zero)))))) l s v t small e =
      let w = went (keeping (λ n. nat_lt n builtins) byte s) (λ n. give (builtin n)) v t e in
      let q = kept (λ n. nat_lt n builtins) byte s w.value w.front w.first in
      made_of (λ y f. Behind there 6 s y f) (builtin w.value) v w.front t w.second
      (record { bytes = w.value ∷ []; is = refl; took = byte_gave s w.value w.front q.given; read = q.keeps })
  behind_gave (suc (suc (suc (suc (suc (suc (suc zero))))))) l s v t small e =
      let w = went (keeping (λ n. nat_lt n classes) byte s) (λ n. give (class n)) v t e in
      let q = kept (λ n. nat_lt n classes) byte s w.value w.front w.first in
      made_of (λ y f. Behind there 7 s y f) (class w.value) v w.front t w.second
      (record { bytes = w.value ∷ []; is = refl; took = byte_gave s w.value w.front q.given; read = q.keeps })
  behind_gave (suc (suc (suc (suc (suc (suc (suc (suc zero)))))))) l s v t small e = node_gave s v t small e
  behind_gave (suc (suc (suc (suc (suc (suc (suc (suc (suc n))))))))) l s v t small e =
      absurd (let m = leb-true (suc (suc (suc (suc (suc (suc (suc (suc (suc n))))))))) 8 l in omega arith)

pub record Valued (there : ℕ → Bool) (s : Front) (v : Value) (t : Front) : Type 0 where
  pub took : Took s t (value_bytes v) (number v)
  pub read : IsRead there v

pub value_gave : (there : ℕ → Bool) (s : Front) (v : Value) (t : Front) → AreBytes s.rest → value there s ≡ Ok (v, t) → Valued there s v t
value_gave there s v t small e =
    let w = went (keeping (λ n. nat_le n 8) byte s) (value_behind there) v t e in
    let q = kept (λ n. nat_le n 8) byte s w.value w.front w.first in
    let b = byte_gave s w.value w.front q.given in
    let h = behind_gave there w.value q.keeps w.front v t (left_bytes s w.front (w.value ∷ []) [] b small) w.second in
    record {
      took = took_as s t (w.value ∷ h.bytes) (value_bytes v) (number v) h.is
          (took_on s w.front t (w.value ∷ []) h.bytes [] (number v) b h.took);
      read = h.read;
    }

-- ---- many

-- what one reading gives
pub record Gives {A : Type 0} (w num : A → List ℕ) (C : A → Type 0) (s : Front) (a : A) (t : Front) : Type 0 where
  pub took : Took s t (w a) (num a)
  pub holds : C a

pub record GivesMany {A : Type 0} (w num : A → List ℕ) (C : A → Type 0) (n : ℕ) (s : Front) (as' : List A) (t : Front) : Type 0 where
  pub size : length as' ≡ n
  pub took : Took s t (flat_map w as') (flat_map num as')
  pub all : AllByRecursion C as'

module _ {A : Type 0} (p : Reader A) (w num : A → List ℕ) (C : A → Type 0)
    (one : (s : Front) (a : A) (t : Front) → AreBytes s.rest → p s ≡ Ok (a, t) → Gives w num C s a t) where
  pub repeated_gave : (n : ℕ) (s : Front) (as' : List A) (t : Front) → AreBytes s.rest → repeated n p s ≡ Ok (as', t) → GivesMany w num C n s as' t
  repeated_gave zero s as' t small e =
      made_of (λ (y : List A) (f : Front). GivesMany w num C 0 s y f) [] as' s t e (record { size = refl; took = took_none s; all = tt })
  repeated_gave (suc n) s as' t small e =
      let x = went (p s) (λ a. repeated n p >>= λ bs. give (a ∷ bs)) as' t e in
      let a = one s x.value x.front small x.first in
      let y = went (repeated n p x.front) (λ bs. give (x.value ∷ bs)) as' t x.second in
      let b = repeated_gave n x.front y.value y.front (left_bytes s x.front (w x.value) (num x.value) a.took small) y.first in
      made_of (λ (z : List A) (f : Front). GivesMany w num C (suc n) s z f) (x.value ∷ y.value) as' y.front t y.second (record {
        size = (let k = b.size in omega arith);
        took = took_on s x.front y.front (w x.value) (flat_map w y.value) (num x.value) (flat_map num y.value) a.took b.took;
        all = (a.holds, b.all);
      })

pub one_value : (there : ℕ → Bool) (s : Front) (v : Value) (t : Front) → AreBytes s.rest → value there s ≡ Ok (v, t)
    → Gives value_bytes number (IsRead there) s v t
one_value there s v t small e = (let h = value_gave there s v t small e in record { took = h.took; holds = h.read })

pub record Values (there : ℕ → Bool) (s : Front) (vs : List Value) (t : Front) : Type 0 where
  pub took : Took s t (many value_bytes vs) (numbers vs)
  pub read : AreRead there vs

-- behind their number
counted_gave : (there : ℕ → Bool) (n : ℕ) (s u : Front) (vs : List Value) (t : Front) → Number s n u → AreBytes u.rest
    → repeated n (value there) u ≡ Ok (vs, t) → Values there s vs t
counted_gave there n s u vs t h small e =
    let m = repeated_gave (value there) value_bytes number (IsRead there) (one_value there) n u vs t small e in
    record {
      took = took_as s t (in_four n ++ flat_map value_bytes vs) (many value_bytes vs) (numbers vs)
          (ap (λ x. in_four x ++ flat_map value_bytes vs) (sym m.size))
          (took_on s u t (in_four n) (flat_map value_bytes vs) [] (numbers vs) h.took m.took);
      read = ((let l = h.small in let k = m.size in omega arith), m.all);
    }

pub values_gave : (there : ℕ → Bool) (s : Front) (vs : List Value) (t : Front) → AreBytes s.rest → r.values there s ≡ Ok (vs, t) → Values there s vs t
values_gave there s vs t small e =
    let w = went (r.number s) (λ n. repeated n (value there)) vs t e in
    let n = number_gave s w.value w.front small w.first in
    counted_gave there w.value s w.front vs t n (left_bytes s w.front (in_four w.value) [] n.took small) w.second
