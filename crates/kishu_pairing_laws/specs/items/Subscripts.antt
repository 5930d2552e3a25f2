-- Items, slices and attributes go alike: as they are read, stored and deleted.
use Rattle.std.specs.Prelude.{Option, Some, ℤ, None, pos, ℕ, ◌≡◌, List, length, ◌∷◌, codes, suc}
use Rattle.std.specs.Ordering.{int_eq}
use Rattle.std.specs.Str.{bytes_eq}
use Rattle.std.proofs.Common.{refl, subst, ap, ◌∙◌}
use Rattle.kishu_meaning.specs.items.Indexes.{index_of}
use Rattle.kishu_meaning.specs.items.Subscripts.{node_item, item, bound_of, step_from, slice_places, picked, node_slice, slice, node_attribute, attribute, store_in_node, store_item, store_on_node, store_attribute, where_found, delete_in_node, delete_item, delete_on_node, delete_attribute}
use Rattle.kishu_meaning.specs.moments.Moment.{give, ◌>>=◌, M}
use Rattle.kishu_meaning.specs.values.Keys.{is_one}
use Rattle.kishu_meaning.specs.values.Values.{Value, Node, text, range, node, none}
use Rattle.kishu_pairing_laws.specs.World.{World, SameValue, BothOrNeither, SameNode, GoQuietly, neither, both, lists, tuples, dicts, objects, functions, exceptions, IsPlain, Is, plain, paired, Zip, nil, cons, Paired, Any}
use Rattle.kishu_pairing_laws.specs.moments.Steps.{bind_is, or_else_quiet, give_quiet, bind_quiet, cond_quiet, raise_quiet, then_quiet, spend_quiet}
use Rattle.kishu_pairing_laws.specs.values.Lists.{entry_at, zip_itself, zip_length, zip_picked, zip_set, entries_with, zip_append, zip_take, zip_drop, entries_without}
use Rattle.kishu_pairing_laws.specs.moments.Heap.{node_now_quiet, change_quiet}
use Rattle.kishu_pairing_laws.specs.values.Nodes.{on_list_same, on_dict_same, on_object_same}
use Rattle.kishu_pairing_laws.specs.values.Kinds.{no_key_quiet, no_attribute_quiet}
use Rattle.kishu_pairing_laws.specs.calls.Operators.{new_list_quiet, new_tuple_quiet}
use Rattle.kishu_pairing_laws.specs.items.KeyOf.{key_quiet}
use Rattle.kishu_pairing_laws.specs.items.Indexes.{not_subscriptable_quiet, taken_quiet, position_quiet, index_quiet}

module _ (W : World) where
  -- ---- items

  node_item_quiet : {v w i j : Value} {o p : Option Node} → SameValue W v w → SameValue W i j → BothOrNeither (SameNode W) o p → GoQuietly W (SameValue W) (node_item v i o) (node_item w j p)
  node_item_quiet vw ij neither = not_subscriptable_quiet W vw
  node_item_quiet vw ij (both (lists z)) = taken_quiet W z ij
  node_item_quiet vw ij (both (tuples z)) = taken_quiet W z ij
  node_item_quiet vw ij (both (dicts z)) = bind_is W (key_quiet W ij) (λ k. or_else_quiet W (no_key_quiet W ij) (entry_at W is_one k z))
  node_item_quiet vw ij (both (objects z)) = not_subscriptable_quiet W vw
  node_item_quiet vw ij (both (functions profile code z)) = not_subscriptable_quiet W vw
  node_item_quiet vw ij (both (exceptions kind z)) = not_subscriptable_quiet W vw

  item_plain : (v : Value) → IsPlain v → {i j : Value} → SameValue W i j → GoQuietly W (SameValue W) (item v i) (item v j)
  item_plain (text cs) p ij = bind_is W (taken_quiet W (zip_itself Is (λ a. refl) cs) ij) (λ c. give_quiet W (plain _ tt))
  item_plain (range a b c) p ij = bind_is W (position_quiet W refl ij) (λ k. give_quiet W (plain _ tt))
  item_plain (node n) p ij = absurd p
  item_plain v p ij = not_subscriptable_quiet W (plain v p)

  pub item_quiet : {v w i j : Value} → SameValue W v w → SameValue W i j → GoQuietly W (SameValue W) (item v i) (item w j)
  item_quiet (plain v p) ij = item_plain v p ij
  item_quiet (paired m n p) ij = bind_quiet W (node_now_quiet W (paired m n p)) (λ o q oq. node_item_quiet (paired m n p) ij oq)

  -- ---- slices

  bound_number : {v w : Value} → SameValue W v w → GoQuietly W Is (index_of v >>= λ z. give (Some z)) (index_of w >>= λ z. give (Some z))
  bound_number vw = bind_is W (index_quiet W vw) (λ z. give_quiet W refl)

  bound_plain : (v : Value) → IsPlain v → GoQuietly W Is (bound_of v) (bound_of v)
  bound_plain none p = give_quiet W refl
  bound_plain (node i) p = absurd p
  bound_plain v p = bound_number (plain v p)

  bound_quiet : {v w : Value} → SameValue W v w → GoQuietly W Is (bound_of v) (bound_of w)
  bound_quiet (plain v p) = bound_plain v p
  bound_quiet (paired i j p) = bound_number (paired i j p)

  step_quiet : (o : Option ℤ) → GoQuietly W Is (step_from o) (step_from o)
  step_quiet None = give_quiet W refl
  step_quiet (Some z) = cond_quiet W (int_eq z (pos 0)) (raise_quiet W _ _) (give_quiet W refl)

  slice_places_quiet : {n m : ℕ} {a b c a' b' c' : Value} → n ≡ m → SameValue W a a' → SameValue W b b' → SameValue W c c' → GoQuietly W Is (slice_places n a b c) (slice_places m a' b' c')
  slice_places_quiet {n = n} {a = a} {b = b} {c = c} {a' = a'} {b' = b'} {c' = c'} e aa bb cc' =
      subst (λ k. GoQuietly W Is (slice_places n a b c) (slice_places k a' b' c')) e
      (bind_is W (bound_quiet aa) (λ x. bind_is W (bound_quiet bb) (λ y. bind_is W (bind_is W (bound_quiet cc') (λ o. step_quiet o)) (λ z. give_quiet W refl))))

  pub picked_quiet : {A B : Type 0} {R : A → B → Type 0} {as' : List A} {bs : List B} {a b c a' b' c' : Value} → Zip R as' bs → SameValue W a a' → SameValue W b b' → SameValue W c c' → GoQuietly W (Zip R) (picked as' a b c) (picked bs a' b' c')
  picked_quiet z aa bb cc' = bind_is W (slice_places_quiet (zip_length z) aa bb cc') (λ zs. then_quiet W (spend_quiet W (length zs)) (give_quiet W (zip_picked zs z)))

  node_slice_quiet : {v w a b c a' b' c' : Value} {o p : Option Node} → SameValue W v w → SameValue W a a' → SameValue W b b' → SameValue W c c' → BothOrNeither (SameNode W) o p → GoQuietly W (SameValue W) (node_slice v a b c o) (node_slice w a' b' c' p)
  node_slice_quiet vw aa bb cc' neither = not_subscriptable_quiet W vw
  node_slice_quiet vw aa bb cc' (both (lists z)) = bind_quiet W (picked_quiet z aa bb cc') (λ vs ws h. new_list_quiet W h)
  node_slice_quiet vw aa bb cc' (both (tuples z)) = bind_quiet W (picked_quiet z aa bb cc') (λ vs ws h. new_tuple_quiet W h)
  node_slice_quiet vw aa bb cc' (both (dicts z)) = not_subscriptable_quiet W vw
  node_slice_quiet vw aa bb cc' (both (objects z)) = not_subscriptable_quiet W vw
  node_slice_quiet vw aa bb cc' (both (functions profile code z)) = not_subscriptable_quiet W vw
  node_slice_quiet vw aa bb cc' (both (exceptions kind z)) = not_subscriptable_quiet W vw

  texts_are : {cs ds : List ℕ} → Zip Is cs ds → SameValue W (text cs) (text ds)
  texts_are {cs = cs} z = subst (λ ds. SameValue W (text cs) (text ds)) (equal_lists z) (plain (text cs) tt)
    where
      equal_lists : {as' bs : List ℕ} → Zip Is as' bs → as' ≡ bs
      equal_lists nil = refl
      equal_lists (cons {b = b} {as' = xs} e z) = ap (λ x. x ∷ xs) e ∙ ap (λ l. b ∷ l) (equal_lists z)

  slice_plain : (v : Value) → IsPlain v → {a b c a' b' c' : Value} → SameValue W a a' → SameValue W b b' → SameValue W c c' → GoQuietly W (SameValue W) (slice v a b c) (slice v a' b' c')
  slice_plain (text cs) p aa bb cc' = bind_quiet W (picked_quiet (zip_itself Is (λ a. refl) cs) aa bb cc') (λ ds es h. give_quiet W (texts_are h))
  slice_plain (node n) p aa bb cc' = absurd p
  slice_plain v p aa bb cc' = not_subscriptable_quiet W (plain v p)

  pub slice_quiet : {v w a b c a' b' c' : Value} → SameValue W v w → SameValue W a a' → SameValue W b b' → SameValue W c c' → GoQuietly W (SameValue W) (slice v a b c) (slice w a' b' c')
  slice_quiet (plain v p) aa bb cc' = slice_plain v p aa bb cc'
  slice_quiet (paired m n p) aa bb cc' = bind_quiet W (node_now_quiet W (paired m n p)) (λ o q oq. node_slice_quiet (paired m n p) aa bb cc' oq)

  -- ---- attributes

  node_attribute_quiet : {v w : Value} (x : List ℕ) {o p : Option Node} → SameValue W v w → BothOrNeither (SameNode W) o p → GoQuietly W (SameValue W) (node_attribute v x o) (node_attribute w x p)
  node_attribute_quiet x vw neither = no_attribute_quiet W x vw
  node_attribute_quiet x vw (both (lists z)) = no_attribute_quiet W x vw
  node_attribute_quiet x vw (both (tuples z)) = no_attribute_quiet W x vw
  node_attribute_quiet x vw (both (dicts z)) = no_attribute_quiet W x vw
  node_attribute_quiet x vw (both (objects z)) = or_else_quiet W (no_attribute_quiet W x vw) (entry_at W bytes_eq x z)
  node_attribute_quiet x vw (both (functions profile code z)) = no_attribute_quiet W x vw
  node_attribute_quiet x vw (both (exceptions kind z)) = cond_quiet W (bytes_eq x (codes "args")) (new_tuple_quiet W z) (no_attribute_quiet W x vw)

  pub attribute_quiet : {v w : Value} (x : List ℕ) → SameValue W v w → GoQuietly W (SameValue W) (attribute v x) (attribute w x)
  attribute_quiet x vw = bind_quiet W (node_now_quiet W vw) (λ o p op. node_attribute_quiet x vw op)

  -- ---- stores

  store_in_node_quiet : {m n : ℕ} {i j v w : Value} {o p : Option Node} → Paired W m n → SameValue W i j → SameValue W v w → BothOrNeither (SameNode W) o p → GoQuietly W Any (store_in_node m i v o) (store_in_node n j w p)
  store_in_node_quiet q ij vw neither = not_subscriptable_quiet W (paired _ _ q)
  store_in_node_quiet q ij vw (both (lists z)) = bind_is W (position_quiet W (zip_length z) ij) (λ k. change_quiet W _ _ q (on_list_same W _ _ (λ a b h. zip_set k _ _ vw h)))
  store_in_node_quiet q ij vw (both (tuples z)) = not_subscriptable_quiet W (paired _ _ q)
  store_in_node_quiet q ij vw (both (dicts z)) = bind_is W (key_quiet W ij) (λ k. change_quiet W _ _ q (on_dict_same W _ _ (λ a b h. entries_with W is_one k vw h)))
  store_in_node_quiet q ij vw (both (objects z)) = not_subscriptable_quiet W (paired _ _ q)
  store_in_node_quiet q ij vw (both (functions profile code z)) = not_subscriptable_quiet W (paired _ _ q)
  store_in_node_quiet q ij vw (both (exceptions kind z)) = not_subscriptable_quiet W (paired _ _ q)

  store_item_plain : (v : Value) → IsPlain v → (i j x y : Value) → GoQuietly W Any (store_item v i x) (store_item v j y)
  store_item_plain (node n) p i j x y = absurd p
  store_item_plain v p i j x y = not_subscriptable_quiet W (plain v p)

  pub store_item_quiet : {v w i j x y : Value} → SameValue W v w → SameValue W i j → SameValue W x y → GoQuietly W Any (store_item v i x) (store_item w j y)
  store_item_quiet (plain v p) ij xy = store_item_plain v p _ _ _ _
  store_item_quiet (paired m n p) ij xy = bind_quiet W (node_now_quiet W (paired m n p)) (λ o q oq. store_in_node_quiet p ij xy oq)

  store_on_node_quiet : {m n : ℕ} (x : List ℕ) {v w : Value} {o p : Option Node} → Paired W m n → SameValue W v w → BothOrNeither (SameNode W) o p → GoQuietly W Any (store_on_node m x v o) (store_on_node n x w p)
  store_on_node_quiet x q vw neither = no_attribute_quiet W x (paired _ _ q)
  store_on_node_quiet x q vw (both (lists z)) = no_attribute_quiet W x (paired _ _ q)
  store_on_node_quiet x q vw (both (tuples z)) = no_attribute_quiet W x (paired _ _ q)
  store_on_node_quiet x q vw (both (dicts z)) = no_attribute_quiet W x (paired _ _ q)
  store_on_node_quiet x q vw (both (objects z)) = change_quiet W _ _ q (on_object_same W _ _ (λ a b h. entries_with W bytes_eq x vw h))
  store_on_node_quiet x q vw (both (functions profile code z)) = no_attribute_quiet W x (paired _ _ q)
  store_on_node_quiet x q vw (both (exceptions kind z)) = no_attribute_quiet W x (paired _ _ q)

  store_attribute_plain : (v : Value) → IsPlain v → (x : List ℕ) (u w : Value) → GoQuietly W Any (store_attribute v x u) (store_attribute v x w)
  store_attribute_plain (node n) p x u w = absurd p
  store_attribute_plain v p x u w = no_attribute_quiet W x (plain v p)

  pub store_attribute_quiet : {v w u y : Value} (x : List ℕ) → SameValue W v w → SameValue W u y → GoQuietly W Any (store_attribute v x u) (store_attribute w x y)
  store_attribute_quiet x (plain v p) uy = store_attribute_plain v p x _ _
  store_attribute_quiet x (paired m n p) uy = bind_quiet W (node_now_quiet W (paired m n p)) (λ o q oq. store_on_node_quiet x p uy oq)

  -- ---- deletions

  pub found_quiet : {A B : Type 0} {R : A → B → Type 0} {m n : M (Unit {0})} {m' n' : M (Unit {0})} {o : Option A} {p : Option B} → GoQuietly W Any m n → BothOrNeither R o p → GoQuietly W Any m' n' → GoQuietly W Any (where_found m o m') (where_found n p n')
  found_quiet h neither k = h
  found_quiet h (both r) k = k

  delete_in_node_quiet : {m n : ℕ} {i j : Value} {o p : Option Node} → Paired W m n → SameValue W i j → BothOrNeither (SameNode W) o p → GoQuietly W Any (delete_in_node m i o) (delete_in_node n j p)
  delete_in_node_quiet q ij neither = not_subscriptable_quiet W (paired _ _ q)
  delete_in_node_quiet q ij (both (lists z)) = bind_is W (position_quiet W (zip_length z) ij) (λ k. change_quiet W _ _ q (on_list_same W _ _ (λ a b h. zip_append (zip_take k h) (zip_drop (suc k) h))))
  delete_in_node_quiet q ij (both (tuples z)) = not_subscriptable_quiet W (paired _ _ q)
  delete_in_node_quiet q ij (both (dicts z)) = bind_is W (key_quiet W ij) (λ k. found_quiet (no_key_quiet W ij) (entry_at W is_one k z) (change_quiet W _ _ q (on_dict_same W _ _ (λ a b h. entries_without W is_one k h))))
  delete_in_node_quiet q ij (both (objects z)) = not_subscriptable_quiet W (paired _ _ q)
  delete_in_node_quiet q ij (both (functions profile code z)) = not_subscriptable_quiet W (paired _ _ q)
  delete_in_node_quiet q ij (both (exceptions kind z)) = not_subscriptable_quiet W (paired _ _ q)

  delete_item_plain : (v : Value) → IsPlain v → (i j : Value) → GoQuietly W Any (delete_item v i) (delete_item v j)
  delete_item_plain (node n) p i j = absurd p
  delete_item_plain v p i j = not_subscriptable_quiet W (plain v p)

  pub delete_item_quiet : {v w i j : Value} → SameValue W v w → SameValue W i j → GoQuietly W Any (delete_item v i) (delete_item w j)
  delete_item_quiet (plain v p) ij = delete_item_plain v p _ _
  delete_item_quiet (paired m n p) ij = bind_quiet W (node_now_quiet W (paired m n p)) (λ o q oq. delete_in_node_quiet p ij oq)

  delete_on_node_quiet : {m n : ℕ} (x : List ℕ) {o p : Option Node} → Paired W m n → BothOrNeither (SameNode W) o p → GoQuietly W Any (delete_on_node m x o) (delete_on_node n x p)
  delete_on_node_quiet x q neither = no_attribute_quiet W x (paired _ _ q)
  delete_on_node_quiet x q (both (lists z)) = no_attribute_quiet W x (paired _ _ q)
  delete_on_node_quiet x q (both (tuples z)) = no_attribute_quiet W x (paired _ _ q)
  delete_on_node_quiet x q (both (dicts z)) = no_attribute_quiet W x (paired _ _ q)
  delete_on_node_quiet x q (both (objects z)) = found_quiet (no_attribute_quiet W x (paired _ _ q)) (entry_at W bytes_eq x z) (change_quiet W _ _ q (on_object_same W _ _ (λ a b h. entries_without W bytes_eq x h)))
  delete_on_node_quiet x q (both (functions profile code z)) = no_attribute_quiet W x (paired _ _ q)
  delete_on_node_quiet x q (both (exceptions kind z)) = no_attribute_quiet W x (paired _ _ q)

  delete_attribute_plain : (v : Value) → IsPlain v → (x : List ℕ) → GoQuietly W Any (delete_attribute v x) (delete_attribute v x)
  delete_attribute_plain (node n) p x = absurd p
  delete_attribute_plain v p x = no_attribute_quiet W x (plain v p)

  pub delete_attribute_quiet : {v w : Value} (x : List ℕ) → SameValue W v w → GoQuietly W Any (delete_attribute v x) (delete_attribute w x)
  delete_attribute_quiet x (plain v p) = delete_attribute_plain v p x
  delete_attribute_quiet x (paired m n p) = bind_quiet W (node_now_quiet W (paired m n p)) (λ o q oq. delete_on_node_quiet x p oq)
