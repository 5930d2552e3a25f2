-- Parts of lists and of entries have what each item has.
use Rattle.std.specs.Prelude.{List, ℕ, slice_set, zero, suc, [], ◌∷◌, take, drop, reverse, slice_index_or, flat_map, replicate, Option, None, Some, ℤ, pos, negsuc, filter_map, Bool, true, false, if◌then◌else◌}
use Rattle.std.specs.List.{cons_option}
use mathlib.Core.List.{reverse_aux}
use Rattle.kishu_meaning.specs.items.Sorting.{placed, sorted}
use Rattle.kishu_meaning.specs.items.Subscripts.{at_place}
use Rattle.kishu_meaning.specs.values.Nodes.{last_of, without_last, value_at, with_entry, without_entry}
use Rattle.kishu_meaning.specs.values.Values.{Value}
use Rattle.kishu_soundness_laws.specs.Below.{Each, Maybe, EntriesBelow, Below}
use Rattle.kishu_soundness_laws.specs.BelowLaws.{each_append, each_get}

module _ {A : Type 0} (P : A → Type 0) where
  pub each_set : (as' : List A) (i : ℕ) (a : A) → P a → Each P as' → Each P (slice_set as' i a)
  each_set [] i a p h = tt
  each_set (b ∷ as') zero a p h = (p, h.1)
  each_set (b ∷ as') (suc i) a p h = (h.0, each_set as' i a p h.1)

  pub each_take : (i : ℕ) (as' : List A) → Each P as' → Each P (take i as')
  each_take zero as' h = tt
  each_take (suc i) [] h = tt
  each_take (suc i) (a ∷ as') h = (h.0, each_take i as' h.1)

  pub each_drop : (i : ℕ) (as' : List A) → Each P as' → Each P (drop i as')
  each_drop zero as' h = h
  each_drop (suc i) [] h = tt
  each_drop (suc i) (a ∷ as') h = each_drop i as' h.1

  each_aux : (as' bs : List A) → Each P as' → Each P bs → Each P (reverse_aux as' bs)
  each_aux [] bs h k = k
  each_aux (a ∷ as') bs h k = each_aux as' (a ∷ bs) h.1 (h.0, k)

  pub each_reverse : (as' : List A) → Each P as' → Each P (reverse as')
  each_reverse as' h = each_aux as' [] h tt

  pub each_index : (as' : List A) (i : ℕ) (a : A) → P a → Each P as' → P (slice_index_or as' i a)
  each_index [] i a p h = p
  each_index (b ∷ as') zero a p h = h.0
  each_index (b ∷ as') (suc i) a p h = each_index as' i a p h.1

  pub each_many : (n : ℕ) (as' : List A) → Each P as' → Each P (flat_map (λ part. part) (replicate n as'))
  each_many zero as' h = tt
  each_many (suc n) as' h = each_append P as' (flat_map (λ part. part) (replicate n as')) h (each_many n as' h)

  pub each_last : (as' : List A) → Each P as' → Maybe P (last_of as')
  each_last [] h = tt
  each_last (a ∷ []) h = h.0
  each_last (a ∷ (b ∷ as')) h = each_last (b ∷ as') h.1

  pub each_without_last : (as' : List A) → Each P as' → Each P (without_last as')
  each_without_last [] h = tt
  each_without_last (a ∷ []) h = tt
  each_without_last (a ∷ (b ∷ as')) h = (h.0, each_without_last (b ∷ as') h.1)

  each_option : (o : Option A) (as' : List A) → Maybe P o → Each P as' → Each P (cons_option o as')
  each_option None as' p h = h
  each_option (Some a) as' p h = (p, h)

  each_at_place : (z : ℤ) (as' : List A) → Each P as' → Maybe P (at_place as' z)
  each_at_place (pos i) as' h = each_get P as' i h
  each_at_place (negsuc i) as' h = tt

  pub each_picked : (zs : List ℤ) (as' : List A) → Each P as' → Each P (filter_map (at_place as') zs)
  each_picked [] as' h = tt
  each_picked (z ∷ zs) as' h = each_option (at_place as' z) (filter_map (at_place as') zs) (each_at_place z as' h) (each_picked zs as' h)

  pub each_if : (b : Bool) (as' bs : List A) → Each P as' → Each P bs → Each P (if b then as' else bs)
  each_if true as' bs h k = h
  each_if false as' bs h k = k

  each_placed : (less : A → A → Bool) (a : A) (as' : List A) → P a → Each P as' → Each P (placed less a as')
  each_placed less a [] p h = (p, tt)
  each_placed less a (b ∷ as') p h = each_if (less b a) (b ∷ placed less a as') (a ∷ b ∷ as') (h.0, each_placed less a as' p h.1) (p, h)

  pub each_sorted : (less : A → A → Bool) (as' : List A) → Each P as' → Each P (sorted less as')
  each_sorted less [] h = tt
  each_sorted less (a ∷ as') h = each_placed less a (sorted less as') h.0 (each_sorted less as' h.1)

  pub maybe_if : (b : Bool) (o p : Option A) → Maybe P o → Maybe P p → Maybe P (if b then o else p)
  maybe_if true o p h k = h
  maybe_if false o p h k = k

module _ (k : ℕ) {K : Type 0} where
  pub entries_if : (b : Bool) (es fs : List (K × Value)) → EntriesBelow k es → EntriesBelow k fs → EntriesBelow k (if b then es else fs)
  entries_if true es fs h g = h
  entries_if false es fs h g = g

  module _ (is_key : K → K → Bool) (key : K) where
    pub at_below : (es : List (K × Value)) → EntriesBelow k es → Maybe (Below k) (value_at is_key key es)
    at_below [] h = tt
    at_below (e ∷ es) h = maybe_if (Below k) (is_key key e.0) (Some e.1) (value_at is_key key es) h.0 (at_below es h.1)

    pub with_below : (v : Value) (es : List (K × Value)) → Below k v → EntriesBelow k es → EntriesBelow k (with_entry is_key key v es)
    with_below v [] p h = (p, tt)
    with_below v (e ∷ es) p h = entries_if (is_key key e.0) ((e.0, v) ∷ es) (e ∷ with_entry is_key key v es) (p, h.1) (h.0, with_below v es p h.1)

    pub without_below : (es : List (K × Value)) → EntriesBelow k es → EntriesBelow k (without_entry is_key key es)
    without_below [] h = tt
    without_below (e ∷ es) h = entries_if (is_key key e.0) es (e ∷ without_entry is_key key es) h.1 (h.0, without_below es h.1)
