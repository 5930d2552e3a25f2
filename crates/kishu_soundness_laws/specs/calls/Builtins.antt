-- Builtin functions and classes keep node numbers those of nodes: one line a builtin.
use Rattle.std.specs.Prelude.{ℕ, List, [], ◌∷◌, Option, ℤ, Some, None, Bool, zero, suc, not, ◌≤◌, true, false, if◌then◌else◌, codes, pos, negsuc, length, is_some, unsigned_abs, map}
use Rattle.std.specs.Bool.{beq}
use Rattle.std.specs.List.{list_all, list_any}
use Rattle.std.specs.Ordering.{int_eq}
use Rattle.kishu_language.specs.declared.tree.Comparison.{Comparison}
use Rattle.kishu_language.specs.declared.tree.Comparison.TheVariants as comparisons
use Rattle.kishu_language.specs.declared.tree.Operator.TheVariants as operators
use Rattle.kishu_meaning.specs.calls.Builtins.{Call, of_one, of_two, by_number, of_number, and_next, decided, decide, folded, fold, better, or_empty_argument, best_of, best, added, character, is_character, code_point, divided_by, node_length, length_of, is_of_one, class_in, is_of_class, is_of_tuple, is_instance, sorted, builtin_call, builtin_calls, of_none_or_one, copied_dict, or_no_number, number_from, tuple_of, all_items, range_from, class_call, class_calls}
use Rattle.kishu_meaning.specs.calls.Operators.{whole, new_tuple, truth, new_list}
use Rattle.kishu_meaning.specs.comparing.Equal.{number_in, range_length}
use Rattle.kishu_meaning.specs.comparing.Show.{repr_of, repr_in, show, show_in}
use Rattle.kishu_meaning.specs.items.Sorting.{sort_steps, in_order}
use Rattle.kishu_meaning.specs.items.Walks.{Walk, along_tuple, walk_of}
use Rattle.kishu_meaning.specs.moments.Moment.{M, give, node_now, ◌>>=◌, make}
use Rattle.kishu_meaning.specs.values.BuiltinNames as builtins
use Rattle.kishu_meaning.specs.values.BuiltinNames.{BuiltinFunction, all_builtins}
use Rattle.kishu_meaning.specs.values.PlainClasses as plains
use Rattle.kishu_meaning.specs.values.PlainClasses.{PlainClass, plain_classes}
use Rattle.kishu_meaning.specs.values.Numbers.{number_read}
use Rattle.kishu_meaning.specs.values.Values.{Value, bool, integer, text, tuple, Node, list, dict, range, node, class}
use Rattle.kishu_soundness_laws.specs.Below.{AllBelow, Below, Any, Each, Maybe, NodeBelow}
use Rattle.kishu_soundness_laws.specs.BelowLaws.{each_map, maybe_later, below_later, all_later}
use Rattle.kishu_soundness_laws.specs.moments.Steps.{IsSafe, then_safe, tick_safe, exhausted_safe, bind_safe, value_safe, plain_safe, if_safe, by_left_safe, give_safe, raise_safe, node_now_safe, spend_safe, or_else_safe, counted_safe}
use Rattle.kishu_soundness_laws.specs.moments.Heap.{make_safe}
use Rattle.kishu_soundness_laws.specs.values.Nodes.{MaybeBelow}
use Rattle.kishu_soundness_laws.specs.values.Kinds.{bad_arguments_safe}
use Rattle.kishu_soundness_laws.specs.calls.Operators.{truth_safe, operate_safe, whole_safe}
use Rattle.kishu_soundness_laws.specs.items.Sequences.{count_of_safe, items_of_safe, walked_safe}
use Rattle.kishu_soundness_laws.specs.comparing.Comparing.{compare_safe}
use Rattle.kishu_soundness_laws.specs.items.Walks.{WalkBelow, item_for_safe, walk_later, walk_of_safe}
use Rattle.kishu_soundness_laws.specs.items.Sorting.{order_below}

-- ---- builtin functions

abbrev pub CallIsSafe : Call → Type 0
CallIsSafe f = (k : ℕ) (vs : List Value) → AllBelow k vs → IsSafe k Below (f vs)

one_safe : (name : List ℕ) (f : Value → M Value) → ((k : ℕ) (v : Value) → Below k v → IsSafe k Below (f v)) → CallIsSafe (of_one name f)
one_safe name f h k [] a = bad_arguments_safe name
one_safe name f h k (v ∷ []) a = h k v a.0
one_safe name f h k (v ∷ (w ∷ vs)) a = bad_arguments_safe name

two_safe : (name : List ℕ) (f : Value → Value → M Value) → ((k : ℕ) (v w : Value) → IsSafe k Below (f v w)) → CallIsSafe (of_two name f)
two_safe name f h k [] a = bad_arguments_safe name
two_safe name f h k (v ∷ []) a = bad_arguments_safe name
two_safe name f h k (v ∷ (w ∷ [])) a = h k v w
two_safe name f h k (v ∷ (w ∷ (x ∷ vs))) a = bad_arguments_safe name

by_number_safe : (k : ℕ) (name : List ℕ) (o : Option ℤ) (f : ℤ → M Value) → ((z : ℤ) → IsSafe k Below (f z)) → IsSafe k Below (by_number name o f)
by_number_safe k name (Some z) f h = h z
by_number_safe k name None f h = bad_arguments_safe name

number_safe : (name : List ℕ) (f : ℤ → M Value) → ((k : ℕ) (z : ℤ) → IsSafe k Below (f z)) → CallIsSafe (of_number name f)
number_safe name f h = one_safe name _ (λ k v p. by_number_safe k name (number_in v) f (h k))

next_safe : {A : Type 0} {k : ℕ} {Q : ℕ → A → Type 0} (o : Option Value) {m : M A} {f : Value → M A} → MaybeBelow k o → IsSafe k Q m → ((v : Value) → Below k v → IsSafe k Q (f v)) → IsSafe k Q (and_next o m f)
next_safe (Some v) p h g = then_safe tick_safe (g v p)
next_safe None p h g = h

decided_safe : (k : ℕ) (which : Bool) (m : ℕ) (u : Walk) (i : ℕ) → WalkBelow k u → IsSafe k Below (decided which m u i)
decided_safe k which zero u i h = exhausted_safe
decided_safe k which (suc m) u i h = bind_safe (item_for_safe u i h) (λ l le o q. next_safe o q (value_safe (bool (not which)) tt) (λ v p. plain_safe (truth_safe v) (λ b. if_safe (beq b which) (value_safe (bool which) tt) (decided_safe l which m u (suc i) (walk_later k l le u h)))))

decide_safe : (which : Bool) (k : ℕ) (v : Value) → Below k v → IsSafe k Below (decide which v)
decide_safe which k v p = bind_safe (walk_of_safe v) (λ l le u q. by_left_safe (λ m. decided which m u 0) (λ m. decided_safe l which m u 0 q))

module _ {A : Type 0} (Q : ℕ → A → Type 0) (later : (k l : ℕ) → k ≤ l → (a : A) → Q k a → Q l a) (f : A → Value → M A) (h : (k : ℕ) (a : A) (v : Value) → Q k a → Below k v → IsSafe k Q (f a v)) where
  folded_safe : (k m : ℕ) (u : Walk) (i : ℕ) (a : A) → WalkBelow k u → Q k a → IsSafe k Q (folded f m u i a)
  folded_safe k zero u i a p q = exhausted_safe
  folded_safe k (suc m) u i a p q = bind_safe (item_for_safe u i p) (λ l le o r. next_safe o r (give_safe Q (λ l' le'. later l l' le' a (later k l le a q))) (λ v w. bind_safe (h l a v (later k l le a q) w) (λ l' le' b t. folded_safe l' m u (suc i) b (walk_later l l' le' u (walk_later k l le u p)) t)))

  fold_safe : (k : ℕ) (a : A) (u : Walk) → WalkBelow k u → Q k a → IsSafe k Q (fold f a u)
  fold_safe k a u p q = by_left_safe (λ m. folded f m u 0 a) (λ m. folded_safe k m u 0 a p q)

opt_later : (k l : ℕ) → k ≤ l → (o : Option Value) → MaybeBelow k o → MaybeBelow l o
opt_later k l h o p = maybe_later (Below k) (Below l) (below_later k l h) o p

chosen_safe : {k : ℕ} (b : Bool) (v w : Value) → Below k v → Below k w → IsSafe k MaybeBelow (give (Some (if b then v else w)))
chosen_safe {k = k} true v w p q = give_safe MaybeBelow (λ l le. below_later k l le v p)
chosen_safe {k = k} false v w p q = give_safe MaybeBelow (λ l le. below_later k l le w q)

better_safe : (comparison : Comparison) (k : ℕ) (o : Option Value) (v : Value) → MaybeBelow k o → Below k v → IsSafe k MaybeBelow (better comparison o v)
better_safe comparison k None v p q = give_safe MaybeBelow (λ l le. below_later k l le v q)
better_safe comparison k (Some w) v p q = plain_safe (compare_safe comparison v w) (λ b. chosen_safe b v w q p)

or_empty_safe : {k : ℕ} (o : Option Value) → MaybeBelow k o → IsSafe k Below (or_empty_argument o)
or_empty_safe (Some v) p = value_safe v p
or_empty_safe None p = raise_safe _ (codes "empty argument")

best_of_safe : (k : ℕ) (comparison : Comparison) (u : Walk) → WalkBelow k u → IsSafe k Below (best_of comparison u)
best_of_safe k comparison u p = bind_safe (fold_safe MaybeBelow opt_later (better comparison) (better_safe comparison) k None u p tt) (λ l le o q. or_empty_safe o q)

best_safe : (name : List ℕ) (comparison : Comparison) → CallIsSafe (best name comparison)
best_safe name comparison k [] a = bad_arguments_safe name
best_safe name comparison k (v ∷ []) a = bind_safe (walk_of_safe v) (λ l le u q. best_of_safe l comparison u q)
best_safe name comparison k (v ∷ (w ∷ vs)) a = best_of_safe k comparison (along_tuple (v ∷ w ∷ vs)) a

added_safe : (k : ℕ) (a v : Value) → Below k a → Below k v → IsSafe k Below (added a v)
added_safe k a v p q = by_number_safe k (codes "sum") (number_in v) _ (λ z. operate_safe operators.Add a (integer z))

character_safe : (k : ℕ) (z : ℤ) → IsSafe k Below (character z)
character_safe k (pos m) = if_safe (is_character m) (value_safe (text (m ∷ [])) tt) (raise_safe _ (codes "not a character"))
character_safe k (negsuc m) = raise_safe _ (codes "not a character")

code_point_safe : (k : ℕ) (v : Value) → Below k v → IsSafe k Below (code_point v)
code_point_safe k (text (c ∷ [])) p = value_safe (integer (pos c)) tt
code_point_safe k v p = bad_arguments_safe (codes "ord")

divided_by_safe : (k : ℕ) (v w : Value) → IsSafe k Below (divided_by v w)
divided_by_safe k v w = by_number_safe k (codes "divmod") (number_in v) _ (λ a. by_number_safe k (codes "divmod") (number_in w) _ (λ b. bind_safe (operate_safe operators.FloorDivide (integer a) (integer b)) (λ l le x p. bind_safe (operate_safe operators.Modulo (integer a) (integer b)) (λ l' le' y q. make_safe (tuple (x ∷ y ∷ [])) (below_later l l' le' x p, (q, tt))))))

node_length_safe : {k : ℕ} (o : Option Node) → IsSafe k Below (node_length o)
node_length_safe (Some (list vs)) = whole_safe (pos (length vs))
node_length_safe (Some (tuple vs)) = whole_safe (pos (length vs))
node_length_safe (Some (dict es)) = whole_safe (pos (length es))
node_length_safe o = bad_arguments_safe (codes "len")

length_of_safe : (k : ℕ) (v : Value) → Below k v → IsSafe k Below (length_of v)
length_of_safe k (text cs) p = whole_safe (pos (length cs))
length_of_safe k (range a b c) p = whole_safe (pos (range_length a b c))
length_of_safe k (node i) p = bind_safe (node_now_safe (node i)) (λ l le o q. node_length_safe o)
length_of_safe k v p = bad_arguments_safe (codes "len")

one_class_safe : {k : ℕ} (v : Value) (cs : List Value) → IsSafe k Below (is_of_one v cs)
one_class_safe v cs = if_safe (list_all (λ c. is_some (class_in c)) cs) (bind_safe (node_now_safe v) (λ l le o q. value_safe (bool (list_any (is_of_class v o) cs)) tt)) (bad_arguments_safe (codes "isinstance"))

tuple_class_safe : {k : ℕ} (v : Value) (o : Option Node) → IsSafe k Below (is_of_tuple v o)
tuple_class_safe v (Some (tuple cs)) = one_class_safe v cs
tuple_class_safe v o = bad_arguments_safe (codes "isinstance")

instance_safe : (k : ℕ) (v c : Value) → IsSafe k Below (is_instance v c)
instance_safe k v (class m) = one_class_safe v (class m ∷ [])
instance_safe k v c = instance_rest k v c
  where
    instance_rest : (k : ℕ) (v c : Value) → IsSafe k Below (node_now c >>= is_of_tuple v)
    instance_rest k v c = bind_safe (node_now_safe c) (λ l le o q. tuple_class_safe v o)

sorted_safe : (k : ℕ) (v : Value) → Below k v → IsSafe k Below (sorted v)
sorted_safe k v p = plain_safe (count_of_safe v) (λ m. bind_safe (then_safe (spend_safe (sort_steps m)) (items_of_safe v)) (λ l le vs q. bind_safe (or_else_safe AllBelow (in_order vs) (bad_arguments_safe (codes "sorted")) (λ l' le'. order_below l' vs (all_later l l' le' vs q))) (λ l' le' ws r. make_safe (list ws) r)))

text_of_safe : {k : ℕ} {m : M (List ℕ)} → IsSafe k Any m → IsSafe k Below (m >>= λ cs. give (text cs))
text_of_safe h = plain_safe h (λ cs. value_safe (text cs) tt)

builtin_safe : (f : Call) → CallIsSafe f → (which : BuiltinFunction) → CallIsSafe (builtin_call f which)
builtin_safe f h builtins.abs = number_safe (codes "abs") (λ z. whole (pos (unsigned_abs z))) (λ k z. whole_safe (pos (unsigned_abs z)))
builtin_safe f h builtins.all = one_safe (codes "all") (decide false) (decide_safe false)
builtin_safe f h builtins.any = one_safe (codes "any") (decide true) (decide_safe true)
builtin_safe f h builtins.chr = number_safe (codes "chr") character character_safe
builtin_safe f h builtins.divmod = two_safe (codes "divmod") divided_by divided_by_safe
builtin_safe f h builtins.isinstance = two_safe (codes "isinstance") is_instance instance_safe
builtin_safe f h builtins.len = one_safe (codes "len") length_of length_of_safe
builtin_safe f h builtins.max = best_safe (codes "max") comparisons.Greater
builtin_safe f h builtins.min = best_safe (codes "min") comparisons.Less
builtin_safe f h builtins.ord = one_safe (codes "ord") code_point code_point_safe
builtin_safe f h builtins.print = h
builtin_safe f h builtins.repr = one_safe (codes "repr") (λ v. repr_of v >>= λ cs. give (text cs)) (λ k v p. text_of_safe (counted_safe (λ s. repr_in s.nodes s.depth v)))
builtin_safe f h builtins.sorted = one_safe (codes "sorted") sorted sorted_safe
builtin_safe f h builtins.sum = one_safe (codes "sum") (λ v. walk_of v >>= fold added (integer (pos 0))) (λ k v p. bind_safe (walk_of_safe v) (λ l le u q. fold_safe Below below_later added added_safe l (integer (pos 0)) u q tt))

pub builtins_safe : (f : Call) → CallIsSafe f → Each CallIsSafe (builtin_calls f)
builtins_safe f h = each_map CallIsSafe (builtin_call f) (builtin_safe f h) all_builtins

-- ---- classes

none_or_one_safe : (name : List ℕ) (m : M Value) (f : Value → M Value) → ((k : ℕ) → IsSafe k Below m) → ((k : ℕ) (v : Value) → Below k v → IsSafe k Below (f v)) → CallIsSafe (of_none_or_one name m f)
none_or_one_safe name m f e h k [] a = e k
none_or_one_safe name m f e h k (v ∷ []) a = h k v a.0
none_or_one_safe name m f e h k (v ∷ (w ∷ vs)) a = bad_arguments_safe name

copied_safe : {k : ℕ} (o : Option Node) → Maybe (NodeBelow k) o → IsSafe k Below (copied_dict o)
copied_safe (Some (dict es)) h = then_safe (spend_safe (length es)) (make_safe (dict es) h)
copied_safe o h = bad_arguments_safe (codes "dict")

no_number_safe : {k : ℕ} (o : Option ℤ) → IsSafe k Below (or_no_number o)
no_number_safe (Some z) = value_safe (integer z) tt
no_number_safe None = raise_safe _ (codes "not a whole number")

number_from_safe : (k : ℕ) (v : Value) → Below k v → IsSafe k Below (number_from v)
number_from_safe k (text cs) p = then_safe (spend_safe (length cs)) (no_number_safe (number_read cs))
number_from_safe k (bool b) p = value_safe _ tt
number_from_safe k (integer z) p = value_safe (integer z) tt
number_from_safe k v p = bad_arguments_safe (codes "int")

tuple_of_safe : {k : ℕ} (v : Value) (o : Option Node) → Below k v → IsSafe k Below (tuple_of v o)
tuple_of_safe v (Some (tuple vs)) p = value_safe v p
tuple_of_safe v o p = tuple_rest v
  where
    tuple_rest : {k : ℕ} (v : Value) → IsSafe k Below (all_items v >>= new_tuple)
    tuple_rest v = bind_safe (walked_safe v) (λ l le vs q. make_safe (tuple vs) q)

range_from_safe : {k : ℕ} (os : List (Option ℤ)) → IsSafe k Below (range_from os)
range_from_safe (Some c ∷ []) = value_safe (range (pos 0) c (pos 1)) tt
range_from_safe (Some a ∷ (Some b ∷ [])) = value_safe (range a b (pos 1)) tt
range_from_safe (Some a ∷ (Some b ∷ (Some c ∷ []))) = if_safe (int_eq c (pos 0)) (raise_safe _ (codes "step is zero")) (value_safe (range a b c) tt)
range_from_safe os = bad_arguments_safe (codes "range")

class_safe : (f : Call) → CallIsSafe f → (which : PlainClass) → CallIsSafe (class_call f which)
class_safe f h plains.bool = none_or_one_safe (codes "bool") (give (bool false)) (λ v. truth v >>= λ b. give (bool b)) (λ k. value_safe (bool false) tt) (λ k v p. plain_safe (truth_safe v) (λ b. value_safe (bool b) tt))
class_safe f h plains.dict = none_or_one_safe (codes "dict") (make (dict [])) (λ v. node_now v >>= copied_dict) (λ k. make_safe (dict []) tt) (λ k v p. bind_safe (node_now_safe v) (λ l le o q. copied_safe o q))
class_safe f h plains.int = none_or_one_safe (codes "int") (give (integer (pos 0))) number_from (λ k. value_safe (integer (pos 0)) tt) number_from_safe
class_safe f h plains.list = none_or_one_safe (codes "list") (new_list []) (λ v. all_items v >>= new_list) (λ k. make_safe (list []) tt) (λ k v p. bind_safe (walked_safe v) (λ l le vs q. make_safe (list vs) q))
class_safe f h plains.range = λ k vs a. range_from_safe (map number_in vs)
class_safe f h plains.namespace = h
class_safe f h plains.str = none_or_one_safe (codes "str") (give (text [])) (λ v. show v >>= λ cs. give (text cs)) (λ k. value_safe (text []) tt) (λ k v p. text_of_safe (counted_safe (λ s. show_in s.nodes s.depth v)))
class_safe f h plains.tuple = none_or_one_safe (codes "tuple") (new_tuple []) (λ v. node_now v >>= tuple_of v) (λ k. make_safe (tuple []) tt) (λ k v p. bind_safe (node_now_safe v) (λ l le o q. tuple_of_safe v o (below_later k l le v p)))

pub classes_safe : (f : Call) → CallIsSafe f → Each CallIsSafe (class_calls f)
classes_safe f h = each_map CallIsSafe (class_call f) (class_safe f h) plain_classes
