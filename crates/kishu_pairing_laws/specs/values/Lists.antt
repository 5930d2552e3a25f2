-- Lists, options and entries that correspond.
use Rattle.std.specs.Prelude.{List, length, suc, ◌≡◌, ℕ, slice_get, zero, ◌++◌, slice_set, take, drop, reverse, slice_index_or, flat_map, replicate, ℤ, pos, negsuc, Option, filter_map, [], ◌∷◌, is_some, Bool, cond, true, false, map, option_and_then, option_map, None, Some, if◌then◌else◌}
use Rattle.std.specs.List.{cons_option}
use mathlib.Core.List.{reverse_aux}
use Rattle.std.proofs.Common.{refl, ap, ◌∙◌, subst}
use Rattle.kishu_meaning.specs.items.Subscripts.{at_place}
use Rattle.kishu_meaning.specs.values.Nodes.{last_of, without_last, value_at, with_entry, without_entry}
use Rattle.kishu_meaning.specs.values.Values.{Value}
use Rattle.kishu_pairing_laws.specs.World.{Zip, nil, cons, BothOrNeither, neither, both, World, SameEntries, SameValue}

module _ {A B : Type 0} {R : A → B → Type 0} where
  pub zip_length : {as' : List A} {bs : List B} → Zip R as' bs → length as' ≡ length bs
  zip_length nil = refl
  zip_length (cons h z) = ap suc (zip_length z)

  pub zip_get : (i : ℕ) {as' : List A} {bs : List B} → Zip R as' bs → BothOrNeither R (slice_get as' i) (slice_get bs i)
  zip_get i nil = neither
  zip_get zero (cons h z) = both h
  zip_get (suc i) (cons h z) = zip_get i z

  pub zip_append : {as' cs : List A} {bs ds : List B} → Zip R as' bs → Zip R cs ds → Zip R (as' ++ cs) (bs ++ ds)
  zip_append nil k = k
  zip_append (cons h z) k = cons h (zip_append z k)

  pub zip_set : (i : ℕ) (a : A) (b : B) {as' : List A} {bs : List B} → R a b → Zip R as' bs → Zip R (slice_set as' i a) (slice_set bs i b)
  zip_set i a b r nil = nil
  zip_set zero a b r (cons h z) = cons r z
  zip_set (suc i) a b r (cons h z) = cons h (zip_set i a b r z)

  pub zip_take : (i : ℕ) {as' : List A} {bs : List B} → Zip R as' bs → Zip R (take i as') (take i bs)
  zip_take zero z = nil
  zip_take (suc i) nil = nil
  zip_take (suc i) (cons h z) = cons h (zip_take i z)

  pub zip_drop : (i : ℕ) {as' : List A} {bs : List B} → Zip R as' bs → Zip R (drop i as') (drop i bs)
  zip_drop zero z = z
  zip_drop (suc i) nil = nil
  zip_drop (suc i) (cons h z) = zip_drop i z

  zip_reverse_aux : {as' cs : List A} {bs ds : List B} → Zip R as' bs → Zip R cs ds → Zip R (reverse_aux as' cs) (reverse_aux bs ds)
  zip_reverse_aux nil k = k
  zip_reverse_aux (cons h z) k = zip_reverse_aux z (cons h k)

  pub zip_reverse : {as' : List A} {bs : List B} → Zip R as' bs → Zip R (reverse as') (reverse bs)
  zip_reverse z = zip_reverse_aux z nil

  pub zip_index : (i : ℕ) (a : A) (b : B) {as' : List A} {bs : List B} → R a b → Zip R as' bs → R (slice_index_or as' i a) (slice_index_or bs i b)
  zip_index i a b r nil = r
  zip_index zero a b r (cons h z) = h
  zip_index (suc i) a b r (cons h z) = zip_index i a b r z

  pub zip_many : (n : ℕ) {as' : List A} {bs : List B} → Zip R as' bs → Zip R (flat_map (λ part. part) (replicate n as')) (flat_map (λ part. part) (replicate n bs))
  zip_many zero z = nil
  zip_many (suc n) z = zip_append z (zip_many n z)

  pub zip_last : {as' : List A} {bs : List B} → Zip R as' bs → BothOrNeither R (last_of as') (last_of bs)
  zip_last nil = neither
  zip_last (cons h nil) = both h
  zip_last (cons h (cons k z)) = zip_last (cons k z)

  pub zip_without_last : {as' : List A} {bs : List B} → Zip R as' bs → Zip R (without_last as') (without_last bs)
  zip_without_last nil = nil
  zip_without_last (cons h nil) = nil
  zip_without_last (cons h (cons k z)) = cons h (zip_without_last (cons k z))

  pub zip_at_place : (z : ℤ) {as' : List A} {bs : List B} → Zip R as' bs → BothOrNeither R (at_place as' z) (at_place bs z)
  zip_at_place (pos i) h = zip_get i h
  zip_at_place (negsuc i) h = neither

  zip_cons_option : {o : Option A} {p : Option B} {as' : List A} {bs : List B} → BothOrNeither R o p → Zip R as' bs → Zip R (cons_option o as') (cons_option p bs)
  zip_cons_option neither z = z
  zip_cons_option (both h) z = cons h z

  pub zip_picked : (zs : List ℤ) {as' : List A} {bs : List B} → Zip R as' bs → Zip R (filter_map (at_place as') zs) (filter_map (at_place bs) zs)
  zip_picked [] h = nil
  zip_picked (z ∷ zs) h = zip_cons_option (zip_at_place z h) (zip_picked zs h)

  pub zip_is_some : {o : Option A} {p : Option B} → BothOrNeither R o p → is_some o ≡ is_some p
  zip_is_some neither = refl
  zip_is_some (both h) = refl

  pub zip_conds : (b : Bool) {as' cs : List A} {bs ds : List B} → Zip R as' bs → Zip R cs ds → Zip R (cond b as' cs) (cond b bs ds)
  zip_conds true h k = h
  zip_conds false h k = k

  pub opt_conds : (b : Bool) {o q : Option A} {p r : Option B} → BothOrNeither R o p → BothOrNeither R q r → BothOrNeither R (cond b o q) (cond b p r)
  opt_conds true h k = h
  opt_conds false h k = k

pub zip_each : {A C D : Type 0} (S : C → D → Type 0) (f : A → C) (g : A → D) → ((a : A) → S (f a) (g a)) → (as' : List A) → Zip S (map f as') (map g as')
zip_each S f g h [] = nil
zip_each S f g h (a ∷ as') = cons (h a) (zip_each S f g h as')

pub zip_map : {A B C D : Type 0} {R : A → B → Type 0} (S : C → D → Type 0) (f : A → C) (g : B → D) → ((a : A) (b : B) → R a b → S (f a) (g b)) → {as' : List A} {bs : List B} → Zip R as' bs → Zip S (map f as') (map g bs)
zip_map S f g h nil = nil
zip_map S f g h (cons {a = a} {b = b} r z) = cons (h a b r) (zip_map S f g h z)

pub zip_equal : {A B C : Type 0} {R : A → B → Type 0} (f : A → C) (g : B → C) → ((a : A) (b : B) → R a b → f a ≡ g b) → {as' : List A} {bs : List B} → Zip R as' bs → map f as' ≡ map g bs
zip_equal f g h nil = refl
zip_equal f g h (cons {a = a} {b = b} {as' = as'} r z) = ap (λ c. c ∷ map f as') (h a b r) ∙ ap (λ cs. g b ∷ cs) (zip_equal f g h z)

pub zip_itself : {A : Type 0} (R : A → A → Type 0) → ((a : A) → R a a) → (as' : List A) → Zip R as' as'
zip_itself R h [] = nil
zip_itself R h (a ∷ as') = cons (h a) (zip_itself R h as')

pub opt_then : {A B C D : Type 0} {R : A → B → Type 0} (S : C → D → Type 0) (f : A → Option C) (g : B → Option D) → ((a : A) (b : B) → R a b → BothOrNeither S (f a) (g b)) → {o : Option A} {p : Option B} → BothOrNeither R o p → BothOrNeither S (option_and_then f o) (option_and_then g p)
opt_then S f g h neither = neither
opt_then S f g h (both {a = a} {b = b} r) = h a b r

pub opt_map : {A B C D : Type 0} {R : A → B → Type 0} (S : C → D → Type 0) (f : A → C) (g : B → D) → ((a : A) (b : B) → R a b → S (f a) (g b)) → {o : Option A} {p : Option B} → BothOrNeither R o p → BothOrNeither S (option_map f o) (option_map g p)
opt_map S f g h neither = neither
opt_map S f g h (both {a = a} {b = b} r) = both (h a b r)

pub opt_itself : {A : Type 0} (R : A → A → Type 0) → ((a : A) → R a a) → (o : Option A) → BothOrNeither R o o
opt_itself R h None = neither
opt_itself R h (Some a) = both (h a)

module _ (W : World) {K : Type 0} (is_key : K → K → Bool) (k : K) where
  pub entry_at : {es fs : List (K × Value)} → SameEntries W es fs → BothOrNeither (SameValue W) (value_at is_key k es) (value_at is_key k fs)
  entry_at nil = neither
  entry_at (cons {a = e} {b = f} {as' = es} {bs = fs} h z) =
      subst (λ x. BothOrNeither (SameValue W) (value_at is_key k (e ∷ es)) (if is_key k x then Some f.1 else value_at is_key k fs)) h.0 (opt_conds (is_key k e.0) (both h.1) (entry_at z))

  pub entries_with : {v w : Value} {es fs : List (K × Value)} → SameValue W v w → SameEntries W es fs → SameEntries W (with_entry is_key k v es) (with_entry is_key k w fs)
  entries_with vw nil = cons (refl, vw) nil
  entries_with {v = v} {w = w} vw (cons {a = e} {b = f} {as' = es} {bs = fs} h z) =
      subst (λ x. SameEntries W (with_entry is_key k v (e ∷ es)) (if is_key k x then (f.0, w) ∷ fs else f ∷ with_entry is_key k w fs)) h.0 (zip_conds (is_key k e.0) (cons (h.0, vw) z) (cons h (entries_with vw z)))

  pub entries_without : {es fs : List (K × Value)} → SameEntries W es fs → SameEntries W (without_entry is_key k es) (without_entry is_key k fs)
  entries_without nil = nil
  entries_without (cons {a = e} {b = f} {as' = es} {bs = fs} h z) =
      subst (λ x. SameEntries W (without_entry is_key k (e ∷ es)) (if is_key k x then fs else f ∷ without_entry is_key k fs)) h.0 (zip_conds (is_key k e.0) z (cons h (entries_without z)))
