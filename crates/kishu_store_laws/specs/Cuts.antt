-- Bytes that tell where they end: two of them at the front of equal bytes are one.
use Rattle.std.specs.Prelude.{◌≡◌, ◌<◌, ◌≤◌, ◌^◌, ℕ, List, [], ◌∷◌, ◌++◌, length, flat_map, refl}
use Rattle.std.specs.Int.{w64, from_be_bytes}
use Rattle.std.specs.List.{AllByRecursion}
use Rattle.std.proofs.Common.{sym, ◌∙◌, ap, arith, length-append, append_assoc}
use Rattle.std.proofs.lemmas.Nat.{from_be_bytes-to_be_bytes_8}
use Rattle.kishu_bytes.specs.Numbers.{four}
use Rattle.kishu_bytes_laws.specs.NumberLaws.{append-unique, four-unique}
use Rattle.kishu_store.specs.Groups.{Group, IsName, IsGroup, IsStored}
use Rattle.kishu_store.specs.EntryBytes.{eight, text_bytes, name_bytes, many, group_bytes, stored_bytes}
use Rattle.kishu_store.specs.Rules.{IsCell}

-- what may stand behind one another in fewer than 2^32 bytes
abbrev pub Cuts : {A : Type 0} → (A → List ℕ) → (A → Type 0) → Type 0
Cuts {A} bytes fits = (a b : A) (x y : List ℕ) → fits a → fits b → length (bytes a) < 2 ^ 32 → length (bytes b) < 2 ^ 32 → bytes a ++ x ≡ bytes b ++ y → (a ≡ b) × (x ≡ y)

pub eight-unique : (m n : ℕ) (x y : List ℕ) → m < 2 ^ 64 → n < 2 ^ 64 → eight m ++ x ≡ eight n ++ y → (m ≡ n) × (x ≡ y)
eight-unique m n x y hm hn e =
    let both = append-unique (eight m) (eight n) x y refl e in (
      sym (from_be_bytes-to_be_bytes_8 m hm) ∙ ap (λ (l : List ℕ). from_be_bytes w64 l) both.0 ∙ from_be_bytes-to_be_bytes_8 n hn,
      both.1,
    )

-- ---- lists

module _ {A : Type 0} (bytes : A → List ℕ) (fits : A → Type 0) (cuts : Cuts bytes fits) where
  -- as many items
  pub items-cut : (ss ts : List A) (x y : List ℕ) → length ss ≡ length ts → AllByRecursion fits ss → AllByRecursion fits ts → length (flat_map bytes ss) < 2 ^ 32 → length (flat_map bytes ts) < 2 ^ 32
      → flat_map bytes ss ++ x ≡ flat_map bytes ts ++ y → (ss ≡ ts) × (x ≡ y)
  items-cut [] [] x y size fs ft ls lt e = (refl, e)
  items-cut [] (t ∷ ts) x y size fs ft ls lt e = absurd (omega arith)
  items-cut (s ∷ ss) [] x y size fs ft ls lt e = absurd (omega arith)
  items-cut (s ∷ ss) (t ∷ ts) x y size fs ft ls lt e =
      let long_s = length-append (bytes s) (flat_map bytes ss) in
      let long_t = length-append (bytes t) (flat_map bytes ts) in
      let moved = sym (append_assoc (bytes s) (flat_map bytes ss) x) ∙ e ∙ append_assoc (bytes t) (flat_map bytes ts) y in
      let first = cuts s t (flat_map bytes ss ++ x) (flat_map bytes ts ++ y) fs.0 ft.0 (omega (arith, ls, long_s)) (omega (arith, lt, long_t)) moved in
      let rest = items-cut ss ts x y (omega (arith, size)) fs.1 ft.1 (omega (arith, ls, long_s)) (omega (arith, lt, long_t)) first.1 in
      (cc (first.0, rest.0), rest.1)

  -- what is left begins with an item, where fewer were cut off than there are
  pub items-follow : (ss ts : List A) (x y : List ℕ) → length ss < length ts → AllByRecursion fits ss → AllByRecursion fits ts → length (flat_map bytes ss) < 2 ^ 32 → length (flat_map bytes ts) < 2 ^ 32
      → flat_map bytes ss ++ x ≡ flat_map bytes ts ++ y → (t : A) × (rest : List ℕ) × fits t × (x ≡ bytes t ++ rest)
  items-follow ss [] x y size fs ft ls lt e = absurd (omega arith)
  items-follow [] (t ∷ ts) x y size fs ft ls lt e = (t, flat_map bytes ts ++ y, ft.0, e ∙ append_assoc (bytes t) (flat_map bytes ts) y)
  items-follow (s ∷ ss) (t ∷ ts) x y size fs ft ls lt e =
      let long_s = length-append (bytes s) (flat_map bytes ss) in
      let long_t = length-append (bytes t) (flat_map bytes ts) in
      let moved = sym (append_assoc (bytes s) (flat_map bytes ss) x) ∙ e ∙ append_assoc (bytes t) (flat_map bytes ts) y in
      let first = cuts s t (flat_map bytes ss ++ x) (flat_map bytes ts ++ y) fs.0 ft.0 (omega (arith, ls, long_s)) (omega (arith, lt, long_t)) moved in
      items-follow ss ts x y (omega (arith, size)) fs.1 ft.1 (omega (arith, ls, long_s)) (omega (arith, lt, long_t)) first.1

  -- where each item has a byte
  module _ (full : (a : A) → 0 < length (bytes a)) where
    pub items-long : (ss : List A) → length ss ≤ length (flat_map bytes ss)
    items-long [] = omega arith
    items-long (s ∷ ss) = omega (arith, length-append (bytes s) (flat_map bytes ss), full s, items-long ss)

    -- a list behind its length tells where it ends, too
    pub many-cut : Cuts (many bytes) (AllByRecursion fits)
    many-cut ss ts x y fs ft ls lt e =
        let moved = sym (append_assoc (four (length ss)) (flat_map bytes ss) x) ∙ e ∙ append_assoc (four (length ts)) (flat_map bytes ts) y in
        let counts = four-unique (length ss) (length ts) (flat_map bytes ss ++ x) (flat_map bytes ts ++ y) (omega (arith, ls, items-long ss)) (omega (arith, lt, items-long ts)) moved in
        items-cut ss ts x y counts.0 fs ft (omega (arith, ls)) (omega (arith, lt)) counts.1

-- ---- texts, names, groups

pub text-cut : Cuts text_bytes IsCell
text-cut s t x y fs ft ls lt e =
    let moved = sym (append_assoc (four (length s)) s x) ∙ e ∙ append_assoc (four (length t)) t y in
    let sizes = four-unique (length s) (length t) (s ++ x) (t ++ y) (omega (arith, ls)) (omega (arith, lt)) moved in
    append-unique s t x y sizes.0 sizes.1

pub name-unique : (s t x y : List ℕ) → name_bytes s ++ x ≡ name_bytes t ++ y → (s ≡ t) × (x ≡ y)
name-unique s t x y e =
    let size : length s ≡ length t = cc (e) in
    let rest : s ++ x ≡ t ++ y = cc (e) in
    append-unique s t x y size rest

pub name-cut : Cuts name_bytes IsName
name-cut s t x y fs ft ls lt e = name-unique s t x y e

pub group-cut : Cuts group_bytes IsGroup
group-cut s t x y fs ft ls lt e = many-cut name_bytes IsName name-cut (λ a. omega arith) s t x y fs.names ft.names ls lt e

pub stored-cut : Cuts stored_bytes IsStored
stored-cut s t x y fs ft ls lt e =
    let moved = sym (append_assoc (group_bytes s.0) (eight s.1) x) ∙ e ∙ append_assoc (group_bytes t.0) (eight t.1) y in
    let long_s = length-append (group_bytes s.0) (eight s.1) in
    let long_t = length-append (group_bytes t.0) (eight t.1) in
    let groups = group-cut s.0 t.0 (eight s.1 ++ x) (eight t.1 ++ y) fs.0 ft.0 (omega (arith, ls, long_s)) (omega (arith, lt, long_t)) moved in
    let lengths = eight-unique s.1 t.1 x y fs.1 ft.1 groups.1 in
    (ap {B = Group × ℕ} (λ g. (g, s.1)) groups.0 ∙ ap {B = Group × ℕ} (λ n. (t.0, n)) lengths.0, lengths.1)

pub texts-cut : Cuts (many text_bytes) (AllByRecursion IsCell)
texts-cut = many-cut text_bytes IsCell text-cut (λ a. omega (arith, length-append (four (length a)) a))

pub groups-cut : Cuts (many group_bytes) (AllByRecursion IsGroup)
groups-cut = many-cut group_bytes IsGroup group-cut (λ a. omega arith)

pub all_stored-cut : Cuts (many stored_bytes) (AllByRecursion IsStored)
all_stored-cut = many-cut stored_bytes IsStored stored-cut (λ a. omega (arith, length-append (group_bytes a.0) (eight a.1)))
