-- Builtin functions and classes keep what holds of every state.
use Rattle.std.specs.Prelude.{◌≡◌, ℕ, suc, ◌≤◌, ℤ, pos, negsuc, unsigned_abs, Bool, true, false, not, if◌then◌else◌, List, [], ◌∷◌, length, map, codes, Option, Some, None, is_some}
use Rattle.std.specs.Bool.{beq}
use Rattle.std.specs.List.{AllByRecursion as Each, list_all, list_any}
use Rattle.std.specs.Ordering.{int_eq}
use Rattle.std.proofs.Common.{refl, arith}
use Rattle.std.proofs.lemmas.Bool.Decides.{nat_tests}
use lib.Utf8.{scalar}
use Rattle.kishu_language.specs.declared.tree.Operator.TheVariants as operators
use Rattle.kishu_language.specs.declared.tree.Comparison.{Comparison}
use Rattle.kishu_language.specs.declared.tree.Comparison.TheVariants as comparisons
use Rattle.kishu_meaning.specs.values.Numbers.{number_read}
use Rattle.kishu_meaning.specs.values.Values.{Value, bool, integer, text, range, class, node, Node, list, tuple, dict}
use Rattle.kishu_meaning.specs.moments.Moment.{M, ◌>>=◌, give, make, node_now}
use Rattle.kishu_meaning.specs.comparing.Equal.{number_in, range_length}
use Rattle.kishu_meaning.specs.comparing.Show.{repr_of, show}
use Rattle.kishu_meaning.specs.calls.Operators.{truth, whole, new_list, new_tuple}
use Rattle.kishu_meaning.specs.items.Sorting.{in_order, sort_steps}
use Rattle.kishu_meaning.specs.items.Walks.{Walk, along_tuple, walk_of}
use Rattle.kishu_meaning.specs.values.BuiltinNames as builtins
use Rattle.kishu_meaning.specs.values.BuiltinNames.{BuiltinFunction, all_builtins}
use Rattle.kishu_meaning.specs.values.PlainClasses as plains
use Rattle.kishu_meaning.specs.values.PlainClasses.{PlainClass, plain_classes}
use Rattle.kishu_meaning.specs.calls.Builtins.{Call, of_one, of_two, by_number, of_number, and_next, decided, decide, folded, fold, better, or_empty_argument, best_of, best, added, is_character, character, code_point, divided_by, node_length, length_of, is_of_one, is_of_tuple, is_instance, is_of_class, class_in, sorted, builtin_call, builtin_calls, of_none_or_one, copied_dict, or_no_number, number_from, tuple_of, all_items, range_from, class_call, class_calls}
use Rattle.kishu_objects.specs.State.{IsValue, AreValues, IsNode}
use Rattle.kishu_state_laws.specs.Moments.{IsWalk}
use Rattle.kishu_state_laws.specs.keeping.Logic.{each_map, Maybe, IsText, Safe, bind_s, with_s, plain_s, then_s, give_s, value_s, raise_s, if_s, when_s, or_else_s, node_now_s, spend_s, make_s, value_later, values_later, optional_later}
use Rattle.kishu_state_laws.specs.keeping.Texts.{one_text, each_scalar}
use Rattle.kishu_state_laws.specs.keeping.Numbers.{IsWhole, whole_number, whole_read, whole_scalar}
use Rattle.kishu_state_laws.specs.keeping.Counting.{repr_s, show_s}
use Rattle.kishu_state_laws.specs.keeping.Loops.{Both, both_safe, if_both, bind_both, tick_both, loop_s}
use Rattle.kishu_state_laws.specs.keeping.Leaves.{MaybeValue, bad_arguments_s, truth_s, count_of_s, items_of_s, walked_s}
use Rattle.kishu_state_laws.specs.keeping.Operating.{whole_s, operate_s, compare_s, walk_later, walk_of_s, item_for_s}
use Rattle.kishu_state_laws.specs.keeping.Methods.{order_values}

-- ---- builtin functions

abbrev pub CallSafe : Call → Type 0
CallSafe f = (k : ℕ) (vs : List Value) → AreValues k vs → Safe k IsValue (f vs)

one_s : (name : List ℕ) (f : Value → M Value) → IsText name → ((k : ℕ) (v : Value) → IsValue k v → Safe k IsValue (f v)) → CallSafe (of_one name f)
one_s name f t h k [] a = bad_arguments_s name t
one_s name f t h k (v ∷ []) a = h k v a.0
one_s name f t h k (v ∷ (w ∷ vs)) a = bad_arguments_s name t

two_s : (name : List ℕ) (f : Value → Value → M Value) → IsText name → ((k : ℕ) (v w : Value) → IsValue k v → IsValue k w → Safe k IsValue (f v w)) → CallSafe (of_two name f)
two_s name f t h k [] a = bad_arguments_s name t
two_s name f t h k (v ∷ []) a = bad_arguments_s name t
two_s name f t h k (v ∷ (w ∷ [])) a = h k v w a.0 a.1.0
two_s name f t h k (v ∷ (w ∷ (x ∷ vs))) a = bad_arguments_s name t

by_number_s : (k : ℕ) (name : List ℕ) (o : Option ℤ) (f : ℤ → M Value) → IsText name → Maybe IsWhole o → ((z : ℤ) → IsWhole z → Safe k IsValue (f z)) → Safe k IsValue (by_number name o f)
by_number_s k name (Some z) f t p h = h z p
by_number_s k name None f t p h = bad_arguments_s name t

number_s : (name : List ℕ) (f : ℤ → M Value) → IsText name → ((k : ℕ) (z : ℤ) → Safe k IsValue (f z)) → CallSafe (of_number name f)
number_s name f t h = one_s name _ t (λ k v p. by_number_s k name (number_in v) f t (whole_number k v p) (λ z q. h k z))

next_both : {A : Type 0} {k n n' : ℕ} {Q : ℕ → A → Type 0} (o : Option Value) {m : M A} {f f' : Value → M A} → MaybeValue k o → Safe k Q m → ((v : Value) → IsValue k v → Both n n' k Q (f v) (f' v)) → Both (suc n) (suc n') k Q (and_next o m f) (and_next o m f')
next_both (Some v) p h g = tick_both (g v p)
next_both None p h g = both_safe h

decide_s : (which : Bool) (k : ℕ) (v : Value) → IsValue k v → Safe k IsValue (decide which v)
decide_s which k v p =
    bind_s (walk_of_s v p) (λ l le u q. loop_s IsValue (λ j i. IsWalk j u) (λ n i. decided which n u i) (λ n n' j rest i w.
    bind_both (both_safe (item_for_s u i w)) (λ a la o r. next_both o r (value_s (bool (not which)) tt) (λ v t. bind_both (both_safe (truth_s v)) (λ b lb test y. if_both (beq test which) (both_safe (value_s (bool which) tt)) (rest b (omega (arith, la, lb)) (suc i) (walk_later j b (omega (arith, la, lb)) u w)))))) l 0 q)

module _ {A : Type 0} (Q : ℕ → A → Type 0) (later : (k l : ℕ) → k ≤ l → (a : A) → Q k a → Q l a) (f : A → Value → M A) (h : (k : ℕ) (a : A) (v : Value) → Q k a → IsValue k v → Safe k Q (f a v)) where
  fold_s : (k : ℕ) (a : A) (u : Walk) → IsWalk k u → Q k a → Safe k Q (fold f a u)
  fold_s k a u p q =
      loop_s {I = ℕ × A} Q (λ j i. IsWalk j u × Q j i.1) (λ n i. folded f n u i.0 i.1) (λ n n' j rest i w.
      bind_both (both_safe (item_for_s u i.0 w.0)) (λ b lb o r. next_both o r (give_s Q (λ c lc. later j c (omega (arith, lb, lc)) i.1 w.1)) (λ v t. bind_both (both_safe (h b i.1 v (later j b lb i.1 w.1) t)) (λ c lc x y. rest c (omega (arith, lb, lc)) (suc i.0, x) (walk_later j c (omega (arith, lb, lc)) u w.0, y))))) k (0, a) (p, q)

chosen_s : {k : ℕ} (b : Bool) (v w : Value) → IsValue k v → IsValue k w → Safe k MaybeValue (give (Some (if b then v else w)))
chosen_s {k = k} true v w p q = give_s MaybeValue (λ l le. value_later k l le v p)
chosen_s {k = k} false v w p q = give_s MaybeValue (λ l le. value_later k l le w q)

pub better_s : (comparison : Comparison) (k : ℕ) (o : Option Value) (v : Value) → MaybeValue k o → IsValue k v → Safe k MaybeValue (better comparison o v)
better_s comparison k None v p q = give_s MaybeValue (λ l le. value_later k l le v q)
better_s comparison k (Some w) v p q = plain_s (compare_s comparison v w q) (λ b. chosen_s b v w q p)

or_empty_s : {k : ℕ} (o : Option Value) → MaybeValue k o → Safe k IsValue (or_empty_argument o)
or_empty_s (Some v) p = value_s v p
or_empty_s None p = raise_s _ (codes "empty argument") refl refl

best_of_s : (k : ℕ) (comparison : Comparison) (u : Walk) → IsWalk k u → Safe k IsValue (best_of comparison u)
best_of_s k comparison u p = bind_s (fold_s MaybeValue optional_later (better comparison) (better_s comparison) k None u p tt) (λ l le o q. or_empty_s o q)

best_s : (name : List ℕ) (comparison : Comparison) → IsText name → CallSafe (best name comparison)
best_s name comparison t k [] a = bad_arguments_s name t
best_s name comparison t k (v ∷ []) a = bind_s (walk_of_s v a.0) (λ l le u q. best_of_s l comparison u q)
best_s name comparison t k (v ∷ (w ∷ vs)) a = best_of_s k comparison (along_tuple (v ∷ w ∷ vs)) a

pub added_s : (k : ℕ) (a v : Value) → IsValue k a → IsValue k v → Safe k IsValue (added a v)
added_s k a v p q = by_number_s k (codes "sum") (number_in v) _ refl (whole_number k v q) (λ z r. operate_s operators.Add a (integer z) p r)

-- The characters are the Unicode scalar values.
character_scalar : (m : ℕ) → is_character m ≡ true → scalar m ≡ true
character_scalar m h = grind (arith, nat_tests)

character_s : (k : ℕ) (z : ℤ) → Safe k IsValue (character z)
character_s k (pos m) = when_s (is_character m) (λ e. value_s (text (m ∷ [])) (one_text m (character_scalar m e))) (λ e. raise_s _ (codes "not a character") refl refl)
character_s k (negsuc m) = raise_s _ (codes "not a character") refl refl

code_point_s : (k : ℕ) (v : Value) → IsValue k v → Safe k IsValue (code_point v)
code_point_s k (text (c ∷ [])) p = value_s (integer (pos c)) (whole_scalar c (each_scalar (c ∷ []) p).0)
code_point_s k v p = bad_arguments_s (codes "ord") refl

divided_by_s : (k : ℕ) (v w : Value) → IsValue k v → IsValue k w → Safe k IsValue (divided_by v w)
divided_by_s k v w h g = by_number_s k (codes "divmod") (number_in v) _ refl (whole_number k v h) (λ a p. by_number_s k (codes "divmod") (number_in w) _ refl (whole_number k w g) (λ b q.
    bind_s (operate_s operators.FloorDivide (integer a) (integer b) p q) (λ l le x r. bind_s (operate_s operators.Modulo (integer a) (integer b) p q) (λ l' le' y u. make_s (tuple (x ∷ y ∷ [])) (value_later l l' le' x r, (u, tt)) (λ p. tt)))))

node_length_s : {k : ℕ} (o : Option Node) → Safe k IsValue (node_length o)
node_length_s (Some (list vs)) = whole_s (pos (length vs))
node_length_s (Some (tuple vs)) = whole_s (pos (length vs))
node_length_s (Some (dict es)) = whole_s (pos (length es))
node_length_s o = bad_arguments_s (codes "len") refl

length_of_s : (k : ℕ) (v : Value) → IsValue k v → Safe k IsValue (length_of v)
length_of_s k (text cs) p = whole_s (pos (length cs))
length_of_s k (range a b c) p = whole_s (pos (range_length a b c))
length_of_s k (node i) p = bind_s (node_now_s (node i)) (λ l le o q. node_length_s o)
length_of_s k v p = bad_arguments_s (codes "len") refl

one_class_s : {k : ℕ} (v : Value) (cs : List Value) → Safe k IsValue (is_of_one v cs)
one_class_s v cs = if_s (list_all (λ c. is_some (class_in c)) cs) (bind_s (node_now_s v) (λ l le o q. value_s (bool (list_any (is_of_class v o) cs)) tt)) (bad_arguments_s (codes "isinstance") refl)

tuple_class_s : {k : ℕ} (v : Value) (o : Option Node) → Safe k IsValue (is_of_tuple v o)
tuple_class_s v (Some (tuple cs)) = one_class_s v cs
tuple_class_s v o = bad_arguments_s (codes "isinstance") refl

instance_s : (k : ℕ) (v c : Value) → Safe k IsValue (is_instance v c)
instance_s k v (class m) = one_class_s v (class m ∷ [])
instance_s k v c = instance_rest k v c
  where
    instance_rest : (k : ℕ) (v c : Value) → Safe k IsValue (node_now c >>= is_of_tuple v)
    instance_rest k v c = bind_s (node_now_s c) (λ l le o q. tuple_class_s v o)

sorted_s : (k : ℕ) (v : Value) → IsValue k v → Safe k IsValue (sorted v)
sorted_s k v p = plain_s (count_of_s v) (λ m. bind_s (then_s (spend_s (sort_steps m)) (items_of_s v p)) (λ l le vs q. bind_s (or_else_s AreValues (in_order vs) (bad_arguments_s (codes "sorted") refl) (λ l' le'. order_values l' vs (values_later l l' le' vs q))) (λ l' le' ws r. make_s (list ws) r (λ p. tt))))

text_of_s : {k : ℕ} {m : M (List ℕ)} → Safe k (λ l. IsText) m → Safe k IsValue (m >>= λ cs. give (text cs))
text_of_s h = with_s h (λ cs q. value_s (text cs) q)

builtin_s : (f : Call) → CallSafe f → (which : BuiltinFunction) → CallSafe (builtin_call f which)
builtin_s f h builtins.abs = number_s (codes "abs") (λ z. whole (pos (unsigned_abs z))) refl (λ k z. whole_s (pos (unsigned_abs z)))
builtin_s f h builtins.all = one_s (codes "all") (decide false) refl (decide_s false)
builtin_s f h builtins.any = one_s (codes "any") (decide true) refl (decide_s true)
builtin_s f h builtins.chr = number_s (codes "chr") character refl character_s
builtin_s f h builtins.divmod = two_s (codes "divmod") divided_by refl divided_by_s
builtin_s f h builtins.isinstance = two_s (codes "isinstance") is_instance refl (λ k v w p q. instance_s k v w)
builtin_s f h builtins.len = one_s (codes "len") length_of refl length_of_s
builtin_s f h builtins.max = best_s (codes "max") comparisons.Greater refl
builtin_s f h builtins.min = best_s (codes "min") comparisons.Less refl
builtin_s f h builtins.ord = one_s (codes "ord") code_point refl code_point_s
builtin_s f h builtins.print = h
builtin_s f h builtins.repr = one_s (codes "repr") (λ v. repr_of v >>= λ cs. give (text cs)) refl (λ k v p. text_of_s (repr_s v p))
builtin_s f h builtins.sorted = one_s (codes "sorted") sorted refl sorted_s
builtin_s f h builtins.sum = one_s (codes "sum") (λ v. walk_of v >>= fold added (integer (pos 0))) refl (λ k v p. bind_s (walk_of_s v p) (λ l le u q. fold_s IsValue value_later added added_s l (integer (pos 0)) u q refl))

pub builtins_safe : (f : Call) → CallSafe f → Each CallSafe (builtin_calls f)
builtins_safe f h = each_map CallSafe (builtin_call f) (builtin_s f h) all_builtins

-- ---- classes

none_or_one_s : (name : List ℕ) (m : M Value) (f : Value → M Value) → IsText name → ((k : ℕ) → Safe k IsValue m) → ((k : ℕ) (v : Value) → IsValue k v → Safe k IsValue (f v)) → CallSafe (of_none_or_one name m f)
none_or_one_s name m f t e h k [] a = e k
none_or_one_s name m f t e h k (v ∷ []) a = h k v a.0
none_or_one_s name m f t e h k (v ∷ (w ∷ vs)) a = bad_arguments_s name t

copied_s : {k : ℕ} (o : Option Node) → Maybe (IsNode k) o → Safe k IsValue (copied_dict o)
copied_s (Some (dict es)) h = then_s (spend_s (length es)) (make_s (dict es) h (λ p. tt))
copied_s o h = bad_arguments_s (codes "dict") refl

no_number_s : {k : ℕ} (o : Option ℤ) → Maybe IsWhole o → Safe k IsValue (or_no_number o)
no_number_s (Some z) h = value_s (integer z) h
no_number_s None h = raise_s _ (codes "not a whole number") refl refl

number_rest : (k : ℕ) (v : Value) → IsValue k v → Safe k IsValue (by_number (codes "int") (number_in v) (λ z. give (integer z)))
number_rest k v p = by_number_s k (codes "int") (number_in v) (λ z. give (integer z)) refl (whole_number k v p) (λ z q. value_s (integer z) q)

number_from_s : (k : ℕ) (v : Value) → IsValue k v → Safe k IsValue (number_from v)
number_from_s k (text cs) p = then_s (spend_s (length cs)) (no_number_s (number_read cs) (whole_read cs))
number_from_s k v p = number_rest k v p

tuple_of_s : {k : ℕ} (v : Value) (o : Option Node) → IsValue k v → Safe k IsValue (tuple_of v o)
tuple_of_s v (Some (tuple vs)) p = value_s v p
tuple_of_s v o p = tuple_rest v p
  where
    tuple_rest : {k : ℕ} (v : Value) → IsValue k v → Safe k IsValue (all_items v >>= new_tuple)
    tuple_rest v p = bind_s (walked_s v p) (λ l le vs q. make_s (tuple vs) q (λ p. tt))

range_from_s : {k : ℕ} (os : List (Option ℤ)) → Each (Maybe IsWhole) os → Safe k IsValue (range_from os)
range_from_s (Some c ∷ []) h = value_s (range (pos 0) c (pos 1)) (refl, h.0, refl, refl)
range_from_s (Some a ∷ (Some b ∷ [])) h = value_s (range a b (pos 1)) (h.0, h.1.0, refl, refl)
range_from_s (Some a ∷ (Some b ∷ (Some c ∷ []))) h = when_s (int_eq c (pos 0)) (λ e. raise_s _ (codes "step is zero") refl refl) (λ e. value_s (range a b c) (h.0, h.1.0, h.1.1.0, e))
range_from_s os h = bad_arguments_s (codes "range") refl

numbers_whole : (k : ℕ) (vs : List Value) → AreValues k vs → Each (Maybe IsWhole) (map number_in vs)
numbers_whole k [] h = tt
numbers_whole k (v ∷ vs) h = (whole_number k v h.0, numbers_whole k vs h.1)

class_s : (f : Call) → CallSafe f → (which : PlainClass) → CallSafe (class_call f which)
class_s f h plains.bool = none_or_one_s (codes "bool") (give (bool false)) (λ v. truth v >>= λ b. give (bool b)) refl (λ k. value_s (bool false) tt) (λ k v p. plain_s (truth_s v) (λ b. value_s (bool b) tt))
class_s f h plains.dict = none_or_one_s (codes "dict") (make (dict [])) (λ v. node_now v >>= copied_dict) refl (λ k. make_s (dict []) (tt, tt, tt) (λ p. tt)) (λ k v p. bind_s (node_now_s v) (λ l le o q. copied_s o q))
class_s f h plains.int = none_or_one_s (codes "int") (give (integer (pos 0))) number_from refl (λ k. value_s (integer (pos 0)) refl) number_from_s
class_s f h plains.list = none_or_one_s (codes "list") (new_list []) (λ v. all_items v >>= new_list) refl (λ k. make_s (list []) tt (λ p. tt)) (λ k v p. bind_s (walked_s v p) (λ l le vs q. make_s (list vs) q (λ p. tt)))
class_s f h plains.range = λ k vs a. range_from_s (map number_in vs) (numbers_whole k vs a)
class_s f h plains.namespace = h
class_s f h plains.str = none_or_one_s (codes "str") (give (text [])) (λ v. show v >>= λ cs. give (text cs)) refl (λ k. value_s (text []) refl) (λ k v p. text_of_s (show_s v p))
class_s f h plains.tuple = none_or_one_s (codes "tuple") (new_tuple []) (λ v. node_now v >>= tuple_of v) refl (λ k. make_s (tuple []) tt (λ p. tt)) (λ k v p. bind_s (node_now_s v) (λ l le o q. tuple_of_s v o (value_later k l le v p)))

pub classes_safe : (f : Call) → CallSafe f → Each CallSafe (class_calls f)
classes_safe f h = each_map CallSafe (class_call f) (class_s f h) plain_classes
