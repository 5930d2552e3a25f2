-- What a computation leaves: no fewer nodes, and what it gives or raises leads to nodes that are there.
use Rattle.std.proofs.Common.{◌≡◌, refl, ap, arith, ℕ, zero, suc, ◌+◌, ◌-◌, ◌<◌, ◌≤◌, Bool, true, false, IsTrue, List, [], ◌∷◌, ◌++◌, length, length-append, Option, Some, None}
use Rattle.std.specs.Prelude.{nat_le, nat_lt, if◌then◌else◌}
use Rattle.std.proofs.lemmas.Bool.Decides.{nat_tests}
use Rattle.kishu_meaning.specs.values.Values.{Value, Node}
use Rattle.kishu_meaning.specs.values.Nodes.{changed}
use Rattle.kishu_meaning.specs.values.Sound.{is_sound, are_sound, is_sound_node, are_sound_nodes, is_sound_heap, is_exception_class}
use Rattle.kishu_meaning.specs.moments.Moment.{Moment, Ends, fine, raised, stopped, M, and_then, ◌>>=◌, ◌>>◌, give, or_else, raise, raise_with, spend, look, make, change}
use Rattle.kishu_meaning.specs.moments.Counting.{Counted, Count, answer, too_deep, spent, counted, ended_in}
use Rattle.kishu_meaning.specs.values.Kinds.{not_iterable, bad_index, unhashable, no_attribute, bad_arguments}
use Rattle.kishu_meaning_laws.specs.MakingLaws.{end_of}
use Rattle.kishu_items.specs.Holding.{both, first, second}
use Rattle.kishu_machine.specs.Machine.{is_sound_thrown}
use Rattle.kishu_machine.specs.SoundMore.{sound_more, sound_more_all, sound_more_node}

-- what is sound at the end, among the nodes that are there then
abbrev pub is_fit : {A : Type 0} → (ℕ → A → Bool) → Ends A → Bool
is_fit holds (fine a t) = holds (length t.nodes) a
is_fit holds (raised x t) = is_sound_thrown (length t.nodes) x
is_fit holds (stopped t) = true

abbrev pub Kept : {A : Type 0} → (ℕ → A → Bool) → ℕ → Ends A → Type 0
Kept holds least e = (least ≤ length (end_of e).nodes) × IsTrue (is_fit holds e)

-- From what is sound among n nodes it goes on to what is sound.
pub record Leaves {A : Type 0} (n : ℕ) (holds : ℕ → A → Bool) (m : M A) : Type 0 where
  pub leaves : (s : Moment) → n ≤ length s.nodes → IsTrue (is_sound_heap s.nodes) → Kept holds (length s.nodes) (m s)

-- And each node is sound.
pub record Keeps {A : Type 0} (n : ℕ) (holds : ℕ → A → Bool) (m : M A) : Type 0 where
  pub kept : (s : Moment) → n ≤ length s.nodes → IsTrue (is_sound_heap s.nodes) → Kept holds (length s.nodes) (m s)
  pub sound : (s : Moment) → n ≤ length s.nodes → IsTrue (is_sound_heap s.nodes) → IsTrue (is_sound_heap (end_of (m s)).nodes)

-- nothing is asked
abbrev pub anything : {A : Type 0} → ℕ → A → Bool
anything n a = true

abbrev pub holds_in : {A : Type 0} → (ℕ → A → Bool) → ℕ → Option A → Bool
holds_in holds n None = true
holds_in holds n (Some a) = holds n a

pub as_leaves : {A : Type 0} (n : ℕ) (holds : ℕ → A → Bool) (m : M A) → Keeps n holds m → Leaves n holds m
as_leaves n holds m h = record { leaves = h.kept }

pub keeps_on : {A : Type 0} (n k : ℕ) (holds : ℕ → A → Bool) (m : M A) → n ≤ k → Keeps n holds m → Keeps k holds m
keeps_on n k holds m le h = record {
  kept = λ s i g. h.kept s (omega (arith, le, i)) g;
  sound = λ s i g. h.sound s (omega (arith, le, i)) g;
}

pub leaves_on : {A : Type 0} (n k : ℕ) (holds : ℕ → A → Bool) (m : M A) → n ≤ k → Leaves n holds m → Leaves k holds m
leaves_on n k holds m le h = record { leaves = λ s i g. h.leaves s (omega (arith, le, i)) g }

-- ---- how such computations are put together

module _ {A B : Type 0} (n : ℕ) (holds : ℕ → A → Bool) (goes : ℕ → B → Bool) (m : M A) (f : A → M B) where
  behind : ((k : ℕ) (a : A) → n ≤ k → IsTrue (holds k a) → Leaves k goes (f a)) → (least : ℕ) (e : Ends A) → n ≤ least → Kept holds least e → IsTrue (is_sound_heap (end_of e).nodes) → Kept goes least (and_then e f)
  behind h least (fine a t) i w g =
      let v = (h (length t.nodes) a (omega (arith, i, w.0)) w.1).leaves t (omega arith) g in
      (omega (arith, w.0, v.0), v.1)
  behind h least (raised x t) i w g = w
  behind h least (stopped t) i w g = w

  behind_sound : ((k : ℕ) (a : A) → n ≤ k → IsTrue (holds k a) → Keeps k goes (f a)) → (least : ℕ) (e : Ends A) → n ≤ least → Kept holds least e → IsTrue (is_sound_heap (end_of e).nodes) → IsTrue (is_sound_heap (end_of (and_then e f)).nodes)
  behind_sound h least (fine a t) i w g = (h (length t.nodes) a (omega (arith, i, w.0)) w.1).sound t (omega arith) g
  behind_sound h least (raised x t) i w g = g
  behind_sound h least (stopped t) i w g = g

  pub then_leaves : Keeps n holds m → ((k : ℕ) (a : A) → n ≤ k → IsTrue (holds k a) → Leaves k goes (f a)) → Leaves n goes (m >>= f)
  then_leaves hm hf = record { leaves = λ s i g. behind hf (length s.nodes) (m s) i (hm.kept s i g) (hm.sound s i g) }

  pub then_keeps : Keeps n holds m → ((k : ℕ) (a : A) → n ≤ k → IsTrue (holds k a) → Keeps k goes (f a)) → Keeps n goes (m >>= f)
  then_keeps hm hf = record {
    kept = λ s i g. behind (λ k a le w. as_leaves k goes (f a) (hf k a le w)) (length s.nodes) (m s) i (hm.kept s i g) (hm.sound s i g);
    sound = λ s i g. behind_sound hf (length s.nodes) (m s) i (hm.kept s i g) (hm.sound s i g);
  }

  -- whatever the first gives
  pub any_leaves : Keeps n holds m → ((a : A) → Leaves n goes (f a)) → Leaves n goes (m >>= f)
  any_leaves hm hf = then_leaves hm (λ k a le w. leaves_on n k goes (f a) le (hf a))

  pub any_keeps : Keeps n holds m → ((a : A) → Keeps n goes (f a)) → Keeps n goes (m >>= f)
  any_keeps hm hf = then_keeps hm (λ k a le w. keeps_on n k goes (f a) le (hf a))

module _ {A B : Type 0} (n : ℕ) (goes : ℕ → B → Bool) (m : M A) (o : M B) where
  pub both_leave : Keeps n anything m → Leaves n goes o → Leaves n goes (m >> o)
  both_leave hm ho = any_leaves n anything goes m (λ _. o) hm (λ _. ho)

  pub both_keep : Keeps n anything m → Keeps n goes o → Keeps n goes (m >> o)
  both_keep hm ho = any_keeps n anything goes m (λ _. o) hm (λ _. ho)

module _ (n : ℕ) where
  pub give_keeps : {A : Type 0} (holds : ℕ → A → Bool) (a : A) → ((k : ℕ) → n ≤ k → IsTrue (holds k a)) → Keeps n holds (give a)
  give_keeps holds a h = record { kept = λ s i g. (omega arith, h (length s.nodes) i); sound = λ s i g. g }

  pub plain_keeps : {A : Type 0} (a : A) → Keeps n anything (give a)
  plain_keeps a = give_keeps anything a (λ k i. refl)

  pub value_keeps : (v : Value) → IsTrue (is_sound n v) → Keeps n is_sound (give v)
  value_keeps v h = give_keeps is_sound v (λ k i. sound_more n k i v h)

  pub items_keep : (vs : List Value) → IsTrue (are_sound n vs) → Keeps n are_sound (give vs)
  items_keep vs h = give_keeps are_sound vs (λ k i. sound_more_all n k i vs h)

  pub raise_keeps : {A : Type 0} (holds : ℕ → A → Bool) (kind : ℕ) (message : List ℕ) → IsTrue (is_exception_class kind) → Keeps n holds (raise {A = A} kind message)
  raise_keeps holds kind message h = record { kept = λ s i g. (omega arith, both (is_exception_class kind) true h refl); sound = λ s i g. g }

  pub raise_with_keeps : {A : Type 0} (holds : ℕ → A → Bool) (kind : ℕ) (v : Value) → IsTrue (is_exception_class kind) → IsTrue (is_sound n v) → Keeps n holds (raise_with {A = A} kind v)
  raise_with_keeps holds kind v h w = record {
    kept = λ s i g. (omega arith, both (is_exception_class kind) _ h (both (is_sound (length s.nodes) v) true (sound_more n (length s.nodes) i v w) refl));
    sound = λ s i g. g;
  }

  pub look_keeps : {A : Type 0} (holds : ℕ → A → Bool) (f : List Node → A) → ((ns : List Node) → n ≤ length ns → IsTrue (is_sound_heap ns) → IsTrue (holds (length ns) (f ns))) → Keeps n holds (look f)
  look_keeps holds f h = record { kept = λ s i g. (omega arith, h s.nodes i g); sound = λ s i g. g }

  pub looked_keeps : {A : Type 0} (f : List Node → A) → Keeps n anything (look f)
  looked_keeps f = look_keeps anything f (λ ns i g. refl)

  either_spent : (enough : Bool) (k : ℕ) (s : Moment) → Kept anything (length s.nodes) (if enough then fine (tt {0}) (record s { left = s.left - k }) else stopped (record s { left = 0 }))
  either_spent true k s = (omega arith, refl)
  either_spent false k s = (omega arith, refl)

  either_sound : (enough : Bool) (k : ℕ) (s : Moment) → IsTrue (is_sound_heap s.nodes) → IsTrue (is_sound_heap (end_of (if enough then fine (tt {0}) (record s { left = s.left - k }) else stopped (record s { left = 0 }))).nodes)
  either_sound true k s g = g
  either_sound false k s g = g

  pub spend_keeps : (k : ℕ) → Keeps n anything (spend k)
  spend_keeps k = record { kept = λ s i g. either_spent (nat_le k s.left) k s; sound = λ s i g. either_sound (nat_le k s.left) k s g }

  pub given_keeps : (k : ℕ) (v : Value) → IsTrue (is_sound n v) → Keeps n is_sound (spend k >> give v)
  given_keeps k v h = both_keep n is_sound (spend k) (give v) (spend_keeps k) (value_keeps v h)

  pub or_else_keeps : {A : Type 0} (holds : ℕ → A → Bool) (other : M A) (o : Option A) → Keeps n holds other → ((k : ℕ) → n ≤ k → IsTrue (holds_in holds k o)) → Keeps n holds (or_else other o)
  or_else_keeps holds other (Some a) h w = give_keeps holds a w
  or_else_keeps holds other None h w = h

  pub or_other_keeps : {A : Type 0} (other : M A) (o : Option A) → Keeps n anything other → Keeps n anything (or_else other o)
  or_other_keeps other (Some a) h = plain_keeps a
  or_other_keeps other None h = h

  -- ---- what counts alone

  ended_kept : {A : Type 0} (s : Moment) (e : Counted A) → Kept anything (length s.nodes) (ended_in s e)
  ended_kept s (answer a left) = (omega arith, refl)
  ended_kept s (too_deep left) = (omega arith, refl)
  ended_kept s (spent left) = (omega arith, refl)

  ended_sound : {A : Type 0} (s : Moment) (e : Counted A) → IsTrue (is_sound_heap s.nodes) → IsTrue (is_sound_heap (end_of (ended_in s e)).nodes)
  ended_sound s (answer a left) g = g
  ended_sound s (too_deep left) g = g
  ended_sound s (spent left) g = g

  pub counted_keeps : {A : Type 0} (m : List Node → ℕ → Count A) → Keeps n anything (λ s. counted (m s.nodes s.depth) s)
  counted_keeps m = record { kept = λ s i g. ended_kept s (m s.nodes s.depth s.left); sound = λ s i g. ended_sound s (m s.nodes s.depth s.left) g }

  -- ---- a new node

  less_test : (i k : ℕ) → i < k → IsTrue (nat_lt i k)
  less_test i k h = grind (arith, nat_tests)

  nodes_more : (j k : ℕ) (p : j ≤ k) (ns : List Node) → IsTrue (are_sound_nodes j ns) → IsTrue (are_sound_nodes k ns)
  nodes_more j k p [] h = refl
  nodes_more j k p (x ∷ ns) h = both (is_sound_node k x) _ (sound_more_node j k p x (first (is_sound_node j x) _ h)) (nodes_more j k p ns (second (is_sound_node j x) _ h))

  nodes_on : (k : ℕ) (ns : List Node) (x : Node) → IsTrue (are_sound_nodes k ns) → IsTrue (is_sound_node k x) → IsTrue (are_sound_nodes k (ns ++ x ∷ []))
  nodes_on k [] x a h = both (is_sound_node k x) true h refl
  nodes_on k (y ∷ ns) x a h = both (is_sound_node k y) _ (first (is_sound_node k y) _ a) (nodes_on k ns x (second (is_sound_node k y) _ a) h)

  pub make_keeps : (x : Node) → IsTrue (is_sound_node n x) → Keeps n is_sound (make x)
  make_keeps x h = record {
    kept = λ s i g.
        (let l : length (s.nodes ++ x ∷ []) ≡ length s.nodes + 1 = length-append s.nodes (x ∷ []) in
        (omega (arith, l), less_test (length s.nodes) (length (s.nodes ++ x ∷ [])) (omega (arith, l))));
    sound = λ s i g.
        (let l : length (s.nodes ++ x ∷ []) ≡ length s.nodes + 1 = length-append s.nodes (x ∷ []) in
        let k = length (s.nodes ++ x ∷ []) in
        nodes_on k s.nodes x (nodes_more (length s.nodes) k (omega (arith, l)) s.nodes g) (sound_more_node n k (omega (arith, l, i)) x h));
  }

  -- ---- a node that is changed

  length_changed : (f : Node → Node) (i : ℕ) (ns : List Node) → length (changed f i ns) ≡ length ns
  length_changed f i [] = refl
  length_changed f zero (x ∷ ns) = refl
  length_changed f (suc i) (x ∷ ns) = ap suc (length_changed f i ns)

  pub change_leaves : (i : ℕ) (f : Node → Node) → Leaves n anything (change i f)
  change_leaves i f = record { leaves = λ s le g. (omega (arith, length_changed f i s.nodes), refl) }

  given_after : {A : Type 0} (holds : ℕ → A → Bool) (v : Value) → IsTrue (is_sound n v) → (least : ℕ) (e : Ends A) → n ≤ least → Kept holds least e → Kept is_sound least (and_then e (λ _. give v))
  given_after holds v h least (fine a t) le w = (w.0, sound_more n (length t.nodes) (omega (arith, le, w.0)) v h)
  given_after holds v h least (raised x t) le w = w
  given_after holds v h least (stopped t) le w = w

  -- what is given last
  pub give_leaves : {A : Type 0} (holds : ℕ → A → Bool) (m : M A) (v : Value) → Leaves n holds m → IsTrue (is_sound n v) → Leaves n is_sound (m >> give v)
  give_leaves holds m v hm h = record { leaves = λ s i g. given_after holds v h (length s.nodes) (m s) i (hm.leaves s i g) }

  -- ---- the exceptions that tell kinds

  pub not_iterable_keeps : {A : Type 0} (holds : ℕ → A → Bool) (v : Value) → Keeps n holds (not_iterable {A = A} v)
  not_iterable_keeps holds v = record { kept = λ s i g. (omega arith, refl); sound = λ s i g. g }

  pub bad_index_keeps : {A : Type 0} (holds : ℕ → A → Bool) (v : Value) → Keeps n holds (bad_index {A = A} v)
  bad_index_keeps holds v = record { kept = λ s i g. (omega arith, refl); sound = λ s i g. g }

  pub unhashable_keeps : {A : Type 0} (holds : ℕ → A → Bool) (v : Value) → Keeps n holds (unhashable {A = A} v)
  unhashable_keeps holds v = record { kept = λ s i g. (omega arith, refl); sound = λ s i g. g }

  pub no_attribute_keeps : {A : Type 0} (holds : ℕ → A → Bool) (v : Value) (name : List ℕ) → Keeps n holds (no_attribute {A = A} v name)
  no_attribute_keeps holds v name = record { kept = λ s i g. (omega arith, refl); sound = λ s i g. g }

  pub bad_arguments_keeps : {A : Type 0} (holds : ℕ → A → Bool) (name : List ℕ) → Keeps n holds (bad_arguments {A = A} name)
  bad_arguments_keeps holds name = record { kept = λ s i g. (omega arith, refl); sound = λ s i g. g }
