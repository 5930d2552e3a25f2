-- Changes keep nodes sound.
use Rattle.std.proofs.Common.{refl, arith, ℕ, zero, suc, ◌≤◌, Bool, true, false, ◌&&◌, IsTrue, List, [], ◌∷◌, ◌++◌}
use Rattle.std.specs.Prelude.{slice_set, nat_lt, if◌then◌else◌}
use Rattle.std.specs.List.{list_all}
use Rattle.std.specs.Str.{bytes_eq}
use Rattle.std.proofs.lemmas.Bool.{false≢true}
use Rattle.std.proofs.lemmas.Bool.Decides.{nat_tests}
use Rattle.kishu_meaning.specs.values.Keys.{Key, is_one}
use Rattle.kishu_language.specs.tokens.Names.{is_name}
use Rattle.kishu_meaning.specs.values.Values.{Value, none, bool, integer, text, range, builtin, class, node, Node, list, tuple, dict, object, function, exception}
use Rattle.kishu_meaning.specs.values.Nodes.{on_dict, with_entry, without_entry, changed, set_item, push, pop, replace_list, insert, remove, set_attr, remove_attr, without_last}
use Rattle.kishu_meaning.specs.values.Sound.{is_sound, are_sound, is_sound_node, are_sound_nodes, is_exception_class}

pub both : (a b : Bool) → IsTrue a → IsTrue b → IsTrue (a && b)
both true b p q = q
both false b p q = p

pub first : (a b : Bool) → IsTrue (a && b) → IsTrue a
first true b p = refl
first false b p = p

pub second : (a b : Bool) → IsTrue (a && b) → IsTrue b
second true b p = p
second false b p = absurd (false≢true p)

-- ---- lists

module _ {X : Type 0} (p : X → Bool) where
  pub all_push : (xs : List X) (x : X) → IsTrue (list_all p xs) → IsTrue (p x) → IsTrue (list_all p (xs ++ x ∷ []))
  all_push [] x a h = both (p x) true h refl
  all_push (y ∷ ys) x a h = both (p y) _ (first (p y) _ a) (all_push ys x (second (p y) _ a) h)

  pub all_append : (xs ys : List X) → IsTrue (list_all p xs) → IsTrue (list_all p ys) → IsTrue (list_all p (xs ++ ys))
  all_append [] ys a b = b
  all_append (x ∷ xs) ys a b = both (p x) _ (first (p x) _ a) (all_append xs ys (second (p x) _ a) b)

  pub all_set : (xs : List X) (i : ℕ) (x : X) → IsTrue (list_all p xs) → IsTrue (p x) → IsTrue (list_all p (slice_set xs i x))
  all_set [] i x a h = a
  all_set (y ∷ ys) zero x a h = both (p x) _ h (second (p y) _ a)
  all_set (y ∷ ys) (suc i) x a h = both (p y) _ (first (p y) _ a) (all_set ys i x (second (p y) _ a) h)

  pub all_but_last : (xs : List X) → IsTrue (list_all p xs) → IsTrue (list_all p (without_last xs))
  all_but_last [] a = a
  all_but_last (x ∷ []) a = refl
  all_but_last (x ∷ (y ∷ ys)) a = both (p x) _ (first (p x) _ a) (all_but_last (y ∷ ys) (second (p x) _ a))

  pub all_weaker : (q : X → Bool) → ((x : X) → IsTrue (p x) → IsTrue (q x)) → (xs : List X) → IsTrue (list_all p xs) → IsTrue (list_all q xs)
  all_weaker q f [] a = refl
  all_weaker q f (x ∷ xs) a = both (q x) _ (f x (first (p x) _ a)) (all_weaker q f xs (second (p x) _ a))

-- ---- entries

module _ {K : Type 0} (is_key : K → K → Bool) (p : K × Value → Bool) (k : K) (v : Value) (new : (j : K) (w : Value) → IsTrue (p (j, w)) → IsTrue (p (j, v))) (here : IsTrue (p (k, v))) where
  set_one : (e : K × Value) (es rest : List (K × Value)) (b : Bool) → IsTrue (p e) → IsTrue (list_all p es) → IsTrue (list_all p rest) → IsTrue (list_all p (if b then (e.0, v) ∷ es else e ∷ rest))
  set_one e es rest true h a r = both (p (e.0, v)) _ (new e.0 e.1 h) a
  set_one e es rest false h a r = both (p e) _ h r

  pub all_with : (es : List (K × Value)) → IsTrue (list_all p es) → IsTrue (list_all p (with_entry is_key k v es))
  all_with [] a = both (p (k, v)) true here refl
  all_with (e ∷ es) a = set_one e es _ (is_key k e.0) (first (p e) _ a) (second (p e) _ a) (all_with es (second (p e) _ a))

module _ {K : Type 0} (is_key : K → K → Bool) (p : K × Value → Bool) (k : K) where
  take_one : (e : K × Value) (es rest : List (K × Value)) (b : Bool) → IsTrue (p e) → IsTrue (list_all p es) → IsTrue (list_all p rest) → IsTrue (list_all p (if b then es else e ∷ rest))
  take_one e es rest true h a r = a
  take_one e es rest false h a r = both (p e) _ h r

  pub all_without : (es : List (K × Value)) → IsTrue (list_all p es) → IsTrue (list_all p (without_entry is_key k es))
  all_without [] a = a
  all_without (e ∷ es) a = take_one e es _ (is_key k e.0) (first (p e) _ a) (second (p e) _ a) (all_without es (second (p e) _ a))

-- ---- nodes

abbrev pub Keeps : ℕ → (Node → Node) → Type 0
Keeps n f = (x : Node) → IsTrue (is_sound_node n x) → IsTrue (is_sound_node n (f x))

module _ (n : ℕ) where
  pub keeps_set_item : (at : ℕ) (v : Value) → IsTrue (is_sound n v) → Keeps n (set_item at v)
  keeps_set_item at v h (list vs) a = all_set (is_sound n) vs at v a h
  keeps_set_item at v h (tuple vs) a = a
  keeps_set_item at v h (dict es) a = a
  keeps_set_item at v h (object as') a = a
  keeps_set_item at v h (function profile code vs) a = a
  keeps_set_item at v h (exception kind vs) a = a

  pub keeps_push : (v : Value) → IsTrue (is_sound n v) → Keeps n (push v)
  keeps_push v h (list vs) a = all_push (is_sound n) vs v a h
  keeps_push v h (tuple vs) a = a
  keeps_push v h (dict es) a = a
  keeps_push v h (object as') a = a
  keeps_push v h (function profile code vs) a = a
  keeps_push v h (exception kind vs) a = a

  pub keeps_pop : Keeps n pop
  keeps_pop (list vs) a = all_but_last (is_sound n) vs a
  keeps_pop (tuple vs) a = a
  keeps_pop (dict es) a = a
  keeps_pop (object as') a = a
  keeps_pop (function profile code vs) a = a
  keeps_pop (exception kind vs) a = a

  pub keeps_replace_list : (items : List Value) → IsTrue (are_sound n items) → Keeps n (replace_list items)
  keeps_replace_list items h (list vs) a = h
  keeps_replace_list items h (tuple vs) a = a
  keeps_replace_list items h (dict es) a = a
  keeps_replace_list items h (object as') a = a
  keeps_replace_list items h (function profile code vs) a = a
  keeps_replace_list items h (exception kind vs) a = a

  pub keeps_clear : Keeps n (on_dict (λ entries. []))
  keeps_clear (list vs) a = a
  keeps_clear (tuple vs) a = a
  keeps_clear (dict es) a = refl
  keeps_clear (object as') a = a
  keeps_clear (function profile code vs) a = a
  keeps_clear (exception kind vs) a = a

  pub keeps_insert : (k : Key) (v : Value) → IsTrue (is_sound n v) → Keeps n (insert k v)
  keeps_insert k v h (list vs) a = a
  keeps_insert k v h (tuple vs) a = a
  keeps_insert k v h (dict es) a = all_with is_one (λ e. is_sound n e.1) k v (λ j w _. h) h es a
  keeps_insert k v h (object as') a = a
  keeps_insert k v h (function profile code vs) a = a
  keeps_insert k v h (exception kind vs) a = a

  pub keeps_remove : (k : Key) → Keeps n (remove k)
  keeps_remove k (list vs) a = a
  keeps_remove k (tuple vs) a = a
  keeps_remove k (dict es) a = all_without is_one (λ e. is_sound n e.1) k es a
  keeps_remove k (object as') a = a
  keeps_remove k (function profile code vs) a = a
  keeps_remove k (exception kind vs) a = a

  pub keeps_set_attr : (x : List ℕ) (v : Value) → IsTrue (is_name x) → IsTrue (is_sound n v) → Keeps n (set_attr x v)
  keeps_set_attr x v i h (list vs) a = a
  keeps_set_attr x v i h (tuple vs) a = a
  keeps_set_attr x v i h (dict es) a = a
  keeps_set_attr x v i h (object as') a =
      all_with bytes_eq (λ e. is_name e.0 && is_sound n e.1) x v (λ j w s. both (is_name j) _ (first (is_name j) _ s) h) (both (is_name x) _ i h) as' a
  keeps_set_attr x v i h (function profile code vs) a = a
  keeps_set_attr x v i h (exception kind vs) a = a

  pub keeps_remove_attr : (x : List ℕ) → Keeps n (remove_attr x)
  keeps_remove_attr x (list vs) a = a
  keeps_remove_attr x (tuple vs) a = a
  keeps_remove_attr x (dict es) a = a
  keeps_remove_attr x (object as') a = all_without bytes_eq (λ e. is_name e.0 && is_sound n e.1) x as' a
  keeps_remove_attr x (function profile code vs) a = a
  keeps_remove_attr x (exception kind vs) a = a

  pub changed_sound : (f : Node → Node) → Keeps n f → (i : ℕ) (ns : List Node) → IsTrue (are_sound_nodes n ns) → IsTrue (are_sound_nodes n (changed f i ns))
  changed_sound f k i [] a = a
  changed_sound f k zero (x ∷ xs) a = both (is_sound_node n (f x)) _ (k x (first (is_sound_node n x) _ a)) (second (is_sound_node n x) _ a)
  changed_sound f k (suc i) (x ∷ xs) a = both (is_sound_node n x) _ (first (is_sound_node n x) _ a) (changed_sound f k i xs (second (is_sound_node n x) _ a))

-- ---- more nodes

less_true : (i n m : ℕ) → n ≤ m → IsTrue (nat_lt i n) → IsTrue (nat_lt i m)
less_true i n m p h = grind (arith, nat_tests)

pub value_more : (n m : ℕ) → n ≤ m → (v : Value) → IsTrue (is_sound n v) → IsTrue (is_sound m v)
value_more n m p none h = h
value_more n m p (bool b) h = h
value_more n m p (integer z) h = h
value_more n m p (text cs) h = h
value_more n m p (range a b c) h = h
value_more n m p (builtin k) h = h
value_more n m p (class k) h = h
value_more n m p (node i) h = less_true i n m p h

pub node_more : (n m : ℕ) → n ≤ m → (x : Node) → IsTrue (is_sound_node n x) → IsTrue (is_sound_node m x)
node_more n m p (list vs) a = all_weaker (is_sound n) (is_sound m) (value_more n m p) vs a
node_more n m p (tuple vs) a = all_weaker (is_sound n) (is_sound m) (value_more n m p) vs a
node_more n m p (dict es) a = all_weaker (λ e. is_sound n e.1) (λ e. is_sound m e.1) (λ e. value_more n m p e.1) es a
node_more n m p (object as') a =
    all_weaker (λ e. is_name e.0 && is_sound n e.1) (λ e. is_name e.0 && is_sound m e.1) (λ e s. both (is_name e.0) _ (first (is_name e.0) _ s) (value_more n m p e.1 (second (is_name e.0) _ s))) as' a
node_more n m p (function profile code vs) a = all_weaker (is_sound n) (is_sound m) (value_more n m p) vs a
node_more n m p (exception kind vs) a =
    both (is_exception_class kind) _ (first (is_exception_class kind) _ a) (all_weaker (is_sound n) (is_sound m) (value_more n m p) vs (second (is_exception_class kind) _ a))

pub nodes_more : (n m : ℕ) → n ≤ m → (ns : List Node) → IsTrue (are_sound_nodes n ns) → IsTrue (are_sound_nodes m ns)
nodes_more n m p ns a = all_weaker (is_sound_node n) (is_sound_node m) (node_more n m p) ns a
