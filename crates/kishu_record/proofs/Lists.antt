-- Lists that are read item by item.
use Rattle.std.proofs.Common.{◌≡◌, ◌<◌, ◌+◌, ◌^◌, ℕ, List, [], ◌∷◌, ◌++◌, length, map, flat_map, get_or, zero, suc, refl, sym, ap, ◌∙◌, arith, length-append, append_assoc}
use Rattle.std.specs.List.{AllByRecursion}
use Rattle.std.proofs.lemmas.List.{flat_map_more, map_push, length-map}
use Rattle.std.proofs.lemmas.List.Folds.{flat_map-map}
use Rattle.kishu_bytes.specs.Numbers.{four}
use Rattle.kishu_bytes_laws.specs.NumberLaws.{four-unique}
use Rattle.kishu_store.specs.Groups.{Group}
use Rattle.kishu_store.specs.EntryBytes.{eight, text_bytes, name_bytes, many, group_bytes, stored_bytes}
use Rattle.kishu_store_laws.specs.Cuts.{Cuts, items-follow, items-long}
use Rattle.kishu_record.specs.Readings.{Begins}

-- ---- each has a byte at least

pub text_full : (a : List ℕ) → 0 < length (text_bytes a)
text_full a = omega (arith, length-append (four (length a)) a)

pub name_full : (a : List ℕ) → 0 < length (name_bytes a)
name_full a = omega arith

pub group_full : (a : Group) → 0 < length (group_bytes a)
group_full a = omega arith

pub stored_full : (a : Group × ℕ) → 0 < length (stored_bytes a)
stored_full a = omega (arith, length-append (group_bytes a.0) (eight a.1))

-- ---- what bytes begin with

-- two things with which the same bytes begin are one
pub same_item : {A : Type 0} (bytes : A → List ℕ) (fits : A → Type 0) (cuts : Cuts bytes fits) (list x y : List ℕ) (a b : A) → length list < 2 ^ 32 → fits a → fits b → list ≡ bytes a ++ x → list ≡ bytes b ++ y → (a ≡ b) × (x ≡ y)
same_item bytes fits cuts list x y a b short fa fb ea eb =
    cuts a b x y fa fb (omega (arith, short, ap length ea, length-append (bytes a) x)) (omega (arith, short, ap length eb, length-append (bytes b) y)) (sym ea ∙ eb)

-- what is left isn't longer
pub left_short : (list a x : List ℕ) → length list < 2 ^ 32 → list ≡ a ++ x → length x < 2 ^ 32
left_short list a x short e = omega (arith, short, ap length e, length-append a x)

pub map_twice : {A B C : Type 0} (f : B → C) (g : A → B) (xs : List A) → map f (map g xs) ≡ map (λ x. f (g x)) xs
map_twice f g [] = refl
map_twice f g (x ∷ xs) = ap (λ l. f (g x) ∷ l) (map_twice f g xs)

-- fewer than four bytes aren't a list behind its length
pub no_count : {A : Type 0} (bytes : A → List ℕ) (fits : List A → Type 0) (list : List ℕ) → length list < 4 → Begins (many bytes) fits list → ⊥
no_count bytes fits list few b = omega (arith, few, ap length b.is, length-append (many bytes b.item) b.rest)

pub all_push : {A : Type 0} (P : A → Type 0) (ss : List A) (s : A) → AllByRecursion P ss → P s → AllByRecursion P (ss ++ s ∷ [])
all_push P [] s h p = (p, tt)
all_push P (t ∷ ss) s h p = (h.0, all_push P ss s h.1 p)

-- what holds of each holds of the one at a place
pub all_at : {R A : Type 0} (of : R → A) (P : A → Type 0) (items : List R) (i : ℕ) (d : R) → i < length items → AllByRecursion P (map of items) → P (of (get_or items i d))
all_at of P [] i d small h = absurd (omega arith)
all_at of P (r ∷ items) zero d small h = h.0
all_at of P (r ∷ items) (suc i) d small h = all_at of P items i d (omega (arith, small)) h.1

-- its bytes are among all
pub short_at : {R A : Type 0} (of : R → A) (bytes : A → List ℕ) (items : List R) (i : ℕ) (d : R) → i < length items → length (flat_map bytes (map of items)) < 2 ^ 32 → length (bytes (of (get_or items i d))) < 2 ^ 32
short_at of bytes [] i d small h = absurd (omega arith)
short_at of bytes (r ∷ items) zero d small h = omega (arith, h, length-append (bytes (of r)) (flat_map bytes (map of items)))
short_at of bytes (r ∷ items) (suc i) d small h = short_at of bytes items i d (omega (arith, small)) (omega (arith, h, length-append (bytes (of r)) (flat_map bytes (map of items))))

-- Items behind their number.
module _ {A : Type 0} (bytes : A → List ℕ) (fits : A → Type 0) (cuts : Cuts bytes fits) (full : (a : A) → 0 < length (bytes a)) where
  -- as many items follow as are told
  pub counts_told : (P : List A → Type 0) (n : ℕ) (list x : List ℕ) → length list < 2 ^ 32 → n < 2 ^ 32 → list ≡ four n ++ x → (b : Begins (many bytes) P list) → (n ≡ length b.item) × (x ≡ flat_map bytes b.item ++ b.rest)
  counts_told P n list x short small e b =
      let many_short : length (flat_map bytes b.item) < 2 ^ 32 = omega (arith, short, ap length b.is, length-append (many bytes b.item) b.rest) in
      four-unique n (length b.item) x (flat_map bytes b.item ++ b.rest) small (omega (arith, many_short, items-long bytes fits cuts full b.item)) (sym e ∙ b.is ∙ append_assoc (four (length b.item)) (flat_map bytes b.item) b.rest)

  -- where fewer were read and none follows, no such list stands there
  pub none_behind : (read : List A) (n : ℕ) (list x y : List ℕ) → length list < 2 ^ 32 → n < 2 ^ 32 → list ≡ four n ++ x → x ≡ flat_map bytes read ++ y → length read < n → AllByRecursion fits read
      → (Begins bytes fits y → ⊥) → Begins (many bytes) (AllByRecursion fits) list → ⊥
  none_behind read n list x y short small e f fewer h none b =
      let many_short : length (flat_map bytes b.item) < 2 ^ 32 = omega (arith, short, ap length b.is, length-append (many bytes b.item) b.rest) in
      let counts = counts_told (AllByRecursion fits) n list x short small e b in
      let read_short : length (flat_map bytes read) < 2 ^ 32 = omega (arith, short, ap length e, length-append (four n) x, ap length f, length-append (flat_map bytes read) y) in
      let next = items-follow bytes fits cuts read b.item y b.rest (omega (arith, counts.0, fewer)) h b.is_fit read_short many_short (sym f ∙ counts.1) in
      none (record { item = next.0; rest = next.1; is_fit = next.2; is = next.3 })

-- as many as were told
pub all_told : {A : Type 0} (bytes : A → List ℕ) (read : List A) (n : ℕ) (list x y : List ℕ) → length read ≡ n → list ≡ four n ++ x → x ≡ flat_map bytes read ++ y → list ≡ many bytes read ++ y
all_told bytes read n list x y size e f =
    e ∙ ap (λ (l : List ℕ). four n ++ l) f ∙ ap (λ (k : ℕ). four k ++ (flat_map bytes read ++ y)) (sym size) ∙ sym (append_assoc (four (length read)) (flat_map bytes read) y)

-- Items of the program, each of which spells one of the list.
module _ {R A : Type 0} (of : R → A) (bytes : A → List ℕ) (fits : A → Type 0) where
  -- one item more
  pub read_more : (items more : List R) (r : R) (x y z : List ℕ) → more ≡ items ++ r ∷ [] → x ≡ flat_map bytes (map of items) ++ y → y ≡ bytes (of r) ++ z → x ≡ flat_map bytes (map of more) ++ z
  read_more items more r x y z is e f =
      let before = map of items in
      let now : map of more ≡ before ++ of r ∷ [] = ap (map of) is ∙ map_push of items r in
      let joined : flat_map bytes before ++ bytes (of r) ≡ flat_map bytes (before ++ of r ∷ []) = flat_map_more bytes [] before (of r) in
      e ∙ ap (λ (l : List ℕ). flat_map bytes before ++ l) f ∙ sym (append_assoc (flat_map bytes before) (bytes (of r)) z) ∙ ap (λ (l : List ℕ). l ++ z) joined
      ∙ ap (λ (l : List A). flat_map bytes l ++ z) (sym now)

  pub fit_more : (items more : List R) (r : R) → more ≡ items ++ r ∷ [] → AllByRecursion fits (map of items) → fits (of r) → AllByRecursion fits (map of more)
  fit_more items more r is h p = (let now : map of more ≡ map of items ++ of r ∷ [] = ap (map of) is ∙ map_push of items r in rw now (all_push fits (map of items) (of r) h p))

  pub count_more : (items more : List R) (r : R) (n : ℕ) → more ≡ items ++ r ∷ [] → length items ≡ n → length more ≡ n + 1
  count_more items more r n is size = ap length is ∙ length-append items (r ∷ []) ∙ omega (arith, size)

  -- as many as were told
  pub all_read : (items : List R) (n : ℕ) (list x y : List ℕ) → length items ≡ n → list ≡ four n ++ x → x ≡ flat_map bytes (map of items) ++ y → list ≡ many bytes (map of items) ++ y
  all_read items n list x y size e f = all_told bytes (map of items) n list x y (length-map items of ∙ size) e f

  -- the same, where they are written
  pub all_put : (items : List R) (old start now : List ℕ) → start ≡ old ++ four (length items) → now ≡ start ++ flat_map (λ r. bytes (of r)) items → now ≡ old ++ many bytes (map of items)
  all_put items old start now e f =
      f ∙ ap (λ (l : List ℕ). l ++ flat_map (λ r. bytes (of r)) items) e ∙ append_assoc old (four (length items)) (flat_map (λ r. bytes (of r)) items)
      ∙ ap (λ (l : List ℕ). old ++ (four (length items) ++ l)) (sym (flat_map-map bytes of items)) ∙ ap (λ (k : ℕ). old ++ (four k ++ flat_map bytes (map of items))) (sym (length-map items of))

  -- Where fewer were read and none follows, no such list stands there.
  module _ (cuts : Cuts bytes fits) (full : (a : A) → 0 < length (bytes a)) where
    pub none_follows : (items : List R) (n : ℕ) (list x y : List ℕ) → length list < 2 ^ 32 → n < 2 ^ 32 → list ≡ four n ++ x → x ≡ flat_map bytes (map of items) ++ y → length items < n → AllByRecursion fits (map of items)
        → (Begins bytes fits y → ⊥) → Begins (many bytes) (AllByRecursion fits) list → ⊥
    none_follows items n list x y short small e f fewer h none b = none_behind bytes fits cuts full (map of items) n list x y short small e f (omega (arith, fewer, length-map items of)) h none b

    -- there are fewer than 2^32, where their bytes are fewer
    pub few_items : (items : List R) → length (many bytes (map of items)) < 2 ^ 32 → length items < 2 ^ 32
    few_items items short = omega (arith, short, items-long bytes fits cuts full (map of items), length-map items of)
