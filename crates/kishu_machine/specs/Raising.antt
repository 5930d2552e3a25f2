-- What computations raise is sound among so many nodes.
use Rattle.std.proofs.Common.{◌≡◌, refl, ap, sym, subst, ℕ, ◌-◌, Bool, true, false, IsTrue, if◌then◌else◌, List, [], ◌∷◌, length, map, Option, Some, None, Result, Ok, Err, IfOk}
use Rattle.std.specs.Prelude.{nat_le, slice_get}
use Rattle.kishu_meaning.specs.values.Keys as k
use Rattle.kishu_meaning.specs.values.Keys.{KeyPart, Key}
use Rattle.kishu_meaning.specs.values.Values.{Value, text, node, range, Node, list, tuple, dict}
use Rattle.kishu_meaning.specs.values.Sound.{is_sound, is_exception_class}
use Rattle.kishu_meaning.specs.moments.Moment.{Moment, Ends, fine, raised, stopped, M, and_then, ◌>>=◌, ◌>>◌, give, or_else, raise, raise_with, spend, look, make, change, Thrown}
use Rattle.kishu_meaning.specs.moments.Counting.{Counted, Count, answer, too_deep, spent, counted, ended_in}
use Rattle.kishu_meaning.specs.values.Kinds.{not_iterable, unhashable}
use Rattle.kishu_meaning.specs.items.KeyOf.{part_in, parts_of, tuple_key, key_by, key_of_value, value_of_key, values_of_keys}
use Rattle.kishu_meaning.specs.items.Sequences.{count_of, node_items, items_of, walked}
use Rattle.kishu_meaning.specs.comparing.Show.{repr_in, repr_of, show_in, show}
use Rattle.kishu_items.specs.Holding.{both}
use Rattle.kishu_items.specs.Called as called
use Rattle.kishu_heap.specs.declared.fault.CallFault.{CallFault}
use Rattle.kishu_heap.specs.declared.fault.CallFault.TheVariants as calls
use Rattle.kishu_machine.specs.declared.fault.Fault.{Fault}
use Rattle.kishu_machine.specs.declared.fault.Fault.TheVariants as faults
use Rattle.kishu_machine.specs.Machine.{is_sound_thrown, IsSound, Gives, IsRaised, IsRaisedWith}
use Rattle.kishu_machine.specs.Lifted.{passed}

abbrev pub is_sound_end : {A : Type 0} → ℕ → Ends A → Bool
is_sound_end n (fine a t) = true
is_sound_end n (raised x t) = is_sound_thrown n x
is_sound_end n (stopped t) = true

pub record RaisesSound {A : Type 0} (n : ℕ) (m : M A) : Type 0 where
  pub raises : (s : Moment) → IsTrue (is_sound_end n (m s))

-- ---- how such computations are put together

module _ (n : ℕ) where
  behind : {A B : Type 0} (f : A → M B) → ((a : A) → RaisesSound n (f a)) → (e : Ends A) → IsTrue (is_sound_end n e) → IsTrue (is_sound_end n (and_then e f))
  behind f h (fine a t) w = (h a).raises t
  behind f h (raised x t) w = w
  behind f h (stopped t) w = w

  pub then_raises : {A B : Type 0} (m : M A) (f : A → M B) → RaisesSound n m → ((a : A) → RaisesSound n (f a)) → RaisesSound n (m >>= f)
  then_raises m f hm hf = record { raises = λ s. behind f hf (m s) (hm.raises s) }

  pub both_raise : {A B : Type 0} (m : M A) (o : M B) → RaisesSound n m → RaisesSound n o → RaisesSound n (m >> o)
  both_raise m o hm ho = then_raises m (λ _. o) hm (λ _. ho)

  pub give_raises : {A : Type 0} (a : A) → RaisesSound n (give a)
  give_raises a = record { raises = λ s. refl }

  pub look_raises : {A : Type 0} (f : List Node → A) → RaisesSound n (look f)
  look_raises f = record { raises = λ s. refl }

  pub make_raises : (x : Node) → RaisesSound n (make x)
  make_raises x = record { raises = λ s. refl }

  either_spent : (enough : Bool) (k : ℕ) (s : Moment) → IsTrue (is_sound_end n (if enough then fine (tt {0}) (record s { left = s.left - k }) else stopped (record s { left = 0 })))
  either_spent true k s = refl
  either_spent false k s = refl

  pub spend_raises : (k : ℕ) → RaisesSound n (spend k)
  spend_raises k = record { raises = λ s. either_spent (nat_le k s.left) k s }

  pub or_else_raises : {A : Type 0} (other : M A) (o : Option A) → RaisesSound n other → RaisesSound n (or_else other o)
  or_else_raises other (Some a) h = give_raises a
  or_else_raises other None h = h

  ended_sound : {A : Type 0} (s : Moment) (e : Counted A) → IsTrue (is_sound_end n (ended_in s e))
  ended_sound s (answer a left) = refl
  ended_sound s (too_deep left) = refl
  ended_sound s (spent left) = refl

  pub counted_raises : {A : Type 0} (m : List Node → ℕ → Count A) → RaisesSound n (λ s. counted (m s.nodes s.depth) s)
  counted_raises m = record { raises = λ s. ended_sound s (m s.nodes s.depth s.left) }

  -- ---- texts, keys and items

  pub not_iterable_raises : {A : Type 0} (v : Value) → RaisesSound n (not_iterable {A = A} v)
  not_iterable_raises v = record { raises = λ s. refl }

  pub unhashable_raises : {A : Type 0} (v : Value) → RaisesSound n (unhashable {A = A} v)
  unhashable_raises v = record { raises = λ s. refl }

  parts_raise : (vs : List Value) → RaisesSound n (parts_of vs)
  parts_raise [] = give_raises []
  parts_raise (v ∷ vs) =
      then_raises (or_else (unhashable v) (part_in v)) _ (or_else_raises (unhashable v) (part_in v) (unhashable_raises v))
      (λ p. then_raises (parts_of vs) _ (parts_raise vs) (λ ps. give_raises (p ∷ ps)))

  tuple_key_raises : (v : Value) (o : Option (List Value)) → RaisesSound n (tuple_key v o)
  tuple_key_raises v (Some vs) = then_raises (spend (length vs) >> parts_of vs) _ (both_raise (spend (length vs)) (parts_of vs) (spend_raises (length vs)) (parts_raise vs)) (λ ps. give_raises (k.tuple ps))
  tuple_key_raises v None = unhashable_raises v

  key_by_raises : (v : Value) (o : Option KeyPart) → RaisesSound n (key_by v o)
  key_by_raises v (Some p) = give_raises (k.single p)
  key_by_raises v None = then_raises (look _) (tuple_key v) (look_raises _) (tuple_key_raises v)

  pub key_raises : (v : Value) → RaisesSound n (key_of_value v)
  key_raises v = key_by_raises v (part_in v)

  pub value_raises : (key : Key) → RaisesSound n (value_of_key key)
  value_raises (k.single p) = give_raises _
  value_raises (k.tuple ps) = both_raise (spend (length ps)) (make _) (spend_raises (length ps)) (make_raises _)

  values_raise : (keys : List Key) → RaisesSound n (values_of_keys keys)
  values_raise [] = give_raises []
  values_raise (key ∷ keys) = then_raises (value_of_key key) _ (value_raises key) (λ v. then_raises (values_of_keys keys) _ (values_raise keys) (λ vs. give_raises (v ∷ vs)))

  pub count_raises : (v : Value) → RaisesSound n (count_of v)
  count_raises v = then_raises (look _) (or_else (not_iterable v)) (look_raises _) (λ o. or_else_raises (not_iterable v) o (not_iterable_raises v))

  node_items_raise : (v : Value) (o : Option Node) → RaisesSound n (node_items v o)
  node_items_raise v (Some (list vs)) = give_raises vs
  node_items_raise v (Some (tuple vs)) = give_raises vs
  node_items_raise v (Some (dict es)) = values_raise (map (λ e. e.0) es)
  node_items_raise v _ = not_iterable_raises v

  pub items_raise : (v : Value) → RaisesSound n (items_of v)
  items_raise (text cs) = give_raises _
  items_raise (range a b c) = give_raises _
  items_raise (node i) = then_raises (look (λ ns. slice_get ns i)) (node_items (node i)) (look_raises (λ ns. slice_get ns i)) (node_items_raise (node i))
  items_raise v = not_iterable_raises v

  pub walked_raises : (v : Value) → RaisesSound n (walked v)
  walked_raises v = then_raises (count_of v >>= spend) _ (then_raises (count_of v) spend (count_raises v) spend_raises) (λ _. items_raise v)

  -- ---- what a call over a heap and a budget raised

  ended_by : {A : Type 0} (e : Ends A) (x : Thrown) (t : Moment) → IsTrue (is_sound_end n e) → e ≡ raised x t → IsTrue (is_sound_thrown n x)
  ended_by {A = A} e x t h q = subst (λ (y : Ends A). IsTrue (is_sound_end n y)) q h

  pub passed_sound : {X A : Type 0} (view : X → A) (holds : X → Bool) (m : M A) (s t : Moment) (r : Result X CallFault)
      → RaisesSound n m → IfOk r (λ x. IsTrue (holds x)) → called.Gives view r t (m s) → IsSound holds n (passed r)
  passed_sound view holds m s t (Ok x) b h e = h
  passed_sound view holds m s t (Err (calls.Raise class message)) b h e = ended_by (m s) _ t (b.raises s) e
  passed_sound view holds m s t (Err (calls.RaiseWith class v)) b h e = ended_by (m s) _ t (b.raises s) e
  passed_sound view holds m s t (Err calls.Spent) b h e = tt
  passed_sound view holds m s t (Err calls.NoMemory) b h e = tt

  -- the same, where what is returned is nothing that leads to nodes
  pub passed_raised : {X A : Type 0} (view : X → A) (m : M A) (s t : Moment) (r : Result X CallFault) → RaisesSound n m → called.Gives view r t (m s) → IsSound (λ _. true) n (passed r)
  passed_raised view m s t (Ok x) b e = refl
  passed_raised view m s t (Err f) b e = passed_sound view (λ _. true) m s t (Err f) b tt e

-- what a function that only raises raised
module _ {X : Type 0} where
  pub raises_with : {A : Type 0} (view : X → A) (kind : ℕ) (v : Value) (r : Result X Fault) (s : Moment) → IsRaisedWith r kind v → Gives view r s (raise_with kind v s)
  raises_with view kind v (Ok x) s h = absurd h
  raises_with view kind v (Err (faults.Raised x)) s h = ap (λ (y : Thrown). raised y s) (sym h)
  raises_with view kind v (Err faults.Stopped) s h = absurd h
  raises_with view kind v (Err faults.NoMemory) s h = tt

  pub raises_text : {A : Type 0} (view : X → A) (kind : ℕ) (message : List ℕ) (r : Result X Fault) (s : Moment) → IsRaised r kind message → Gives view r s (raise kind message s)
  raises_text view kind message r s h = raises_with view kind (text message) r s h

  pub sound_with : (holds : X → Bool) (n kind : ℕ) (v : Value) (r : Result X Fault) → IsRaisedWith r kind v → IsTrue (is_exception_class kind) → IsTrue (is_sound n v) → IsSound holds n r
  sound_with holds n kind v (Ok x) h k w = absurd h
  sound_with holds n kind v (Err (faults.Raised x)) h k w = subst (λ (y : Thrown). IsTrue (is_sound_thrown n y)) (sym h) (both (is_exception_class kind) _ k (both (is_sound n v) true w refl))
  sound_with holds n kind v (Err faults.Stopped) h k w = tt
  sound_with holds n kind v (Err faults.NoMemory) h k w = tt

  pub sound_text : (holds : X → Bool) (n kind : ℕ) (message : List ℕ) (r : Result X Fault) → IsRaised r kind message → IsTrue (is_exception_class kind) → IsSound holds n r
  sound_text holds n kind message r h k = sound_with holds n kind (text message) r h k refl
