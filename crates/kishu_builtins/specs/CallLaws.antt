-- Builtin functions and classes but `print` are worked out from the nodes, the steps and the depth alone. They only add nodes, give no step back, and raise exceptions with texts, of classes of exceptions.
use Rattle.std.specs.Prelude.{◌≡◌, ◌≢◌, ℕ, zero, suc, ◌==◌, ℤ, pos, negsuc, ◌+ℤ◌, unsigned_abs, Bool, true, false, not, if◌then◌else◌, List, [], ◌∷◌, ◌++◌, length, map, take, drop, codes, Option, Some, None, slice_get, option_and_then}
use Rattle.std.proofs.Common.{refl, arith, ap, sym, ◌∙◌, ◌-◌, ◌≤◌, nat_le, IsTrue, append_assoc}
use Rattle.std.proofs.lemmas.List.{append-nil}
use Rattle.std.proofs.lemmas.Bool.Decides.{nat_tests}
use Rattle.std.specs.Bool.{beq}
use Rattle.std.specs.List.{list_any}
use Rattle.std.specs.Ordering.{int_eq}
use Rattle.kishu_language.specs.declared.tree.Operator.TheVariants as operators
use Rattle.kishu_language.specs.declared.tree.Comparison.{Comparison}
use Rattle.kishu_language.specs.declared.tree.Comparison.TheVariants as comparisons
use Rattle.kishu_meaning.specs.values.Keys as ks
use Rattle.kishu_meaning.specs.values.Keys.{Key}
use Rattle.kishu_meaning.specs.values.Nodes.{dict_in}
use Rattle.kishu_meaning.specs.values.Numbers.{is_whole, number_read, floor_quotient, floor_remainder}
use Rattle.kishu_meaning.specs.values.Values.{Value, none, bool, integer, text, range, builtin, class, node, Node, list, tuple, dict, object, exception}
use Rattle.kishu_meaning.specs.moments.Moment.{Moment, Ends, fine, raised, stopped, Thrown, fresh, M, and_then, ◌>>=◌, ◌>>◌, give, or_else, spend, tick, look, make, node_now, raise, exhausted}
use Rattle.kishu_meaning.specs.values.Kinds.{not_iterable}
use Rattle.kishu_meaning.specs.comparing.Equal.{number_in, range_length, less, less_in, greater, greater_in}
use Rattle.kishu_meaning.specs.calls.Operators.{bad_arguments, bad_operands, list_from, truth, whole, divided, operate, new_list, new_tuple}
use Rattle.kishu_meaning.specs.comparing.Comparing.{compare, or_unordered, comparison_sign}
use Rattle.kishu_meaning.specs.items.Walks as walks
use Rattle.kishu_meaning.specs.items.Walks.{Walk, along_list, along_dict, along_tuple, along_text, along_range, View, keys, values, items, walk_of, item_for, seen, entry_seen, items_now, entries_now}
use Rattle.kishu_meaning.specs.items.Sequences.{count_in, count_of, node_items, items_of, walked}
use Rattle.kishu_meaning.specs.items.Sorting.{in_order, sort_steps}
use Rattle.kishu_meaning.specs.comparing.Show.{repr_in, repr_of, show_in, show}
use Rattle.kishu_meaning.specs.calls.Builtins as builtins
use Rattle.kishu_meaning.specs.calls.Builtins.{Call, of_one, of_two, of_none_or_one, of_number, by_number, and_next, decided, decide, folded, fold, better, best_of, best, added, builtin_call, builtin_calls, class_call, class_calls, class_in, is_of_one}
use Rattle.kishu_meaning.specs.values.BuiltinNames as functions
use Rattle.kishu_meaning.specs.values.BuiltinNames.{BuiltinFunction, all_builtins}
use Rattle.kishu_meaning.specs.values.PlainClasses as plain
use Rattle.kishu_meaning.specs.values.PlainClasses.{PlainClass, plain_classes}
use Rattle.kishu_meaning.specs.values.Classes.{namespace_class, overflow_error_class, runtime_error_class, value_error_class, zero_division_error_class}
use Rattle.kishu_meaning.specs.values.Sound.{is_exception_class}
use Rattle.kishu_meaning.specs.calls.Callees as callees
use Rattle.kishu_meaning.specs.items.KeyOf.{value_of_key, values_of_keys}
use Rattle.kishu_meaning_laws.specs.Bare.{IsBare}
use Rattle.kishu_builtins.specs.Called.{plainly}
use Rattle.kishu_meaning_laws.specs.BareLaws.{then_bare, give_bare, look_bare, make_bare, raise_bare, spend_bare, counted_bare}
use Rattle.kishu_meaning_laws.specs.MakingLaws.{end_of}
use Rattle.kishu_meaning.specs.moments.Counting.{Count, Counted, answer, too_deep, spent, ended_in, counted}
use Rattle.kishu_meaning_laws.specs.CountingLaws.{left_of, Falls, less_in_falls, greater_in_falls, repr_falls, show_falls}

-- an exception of a class of exceptions, with a text
abbrev pub is_text_thrown : Thrown → Bool
is_text_thrown (fresh kind (text cs ∷ [])) = is_exception_class kind
is_text_thrown x = false

abbrev pub raises_text : {A : Type 0} → Ends A → Bool
raises_text (raised x t) = is_text_thrown x
raises_text e = true

-- How it ends, from a moment: nodes were only added, no step was given back, and an exception has a text.
pub record Kept {A : Type 0} (s : Moment) (e : Ends A) : Type 0 where
  pub more : List Node
  pub is : (end_of e).nodes ≡ s.nodes ++ more
  pub falls : (end_of e).left ≤ s.left
  pub texts : IsTrue (raises_text e)

pub record Keeps {A : Type 0} (m : M A) : Type 0 where
  pub bare : IsBare m
  pub keeps : (s : Moment) → Kept s (m s)

-- ---- how such computations are put together

nothing_more : (ns : List Node) → ns ≡ ns ++ []
nothing_more ns = sym (append-nil ns)

still : {A : Type 0} (e : Ends A) (s : Moment) → end_of e ≡ s → IsTrue (raises_text e) → Kept s e
still e s p t = record { more = []; is = ap (λ u. u.nodes) p ∙ nothing_more s.nodes; falls = omega (arith, ap (λ u. u.left) p); texts = t }

after : {A B : Type 0} (f : A → M B) → ((a : A) → Keeps (f a)) → (s : Moment) (e : Ends A) → Kept s e → Kept s (and_then e f)
after f h s (fine a t) w = (let v = (h a).keeps t in record {
  more = w.more ++ v.more;
  is = v.is ∙ (ap (λ ns. ns ++ v.more) w.is ∙ append_assoc s.nodes w.more v.more);
  falls = omega (arith, w.falls, v.falls);
  texts = v.texts;
})
after f h s (raised x t) w = record { more = w.more; is = w.is; falls = w.falls; texts = w.texts }
after f h s (stopped t) w = record { more = w.more; is = w.is; falls = w.falls; texts = refl }

then_kept : {A B : Type 0} (m : M A) (f : A → M B) → Keeps m → ((a : A) → Keeps (f a)) → Keeps (m >>= f)
then_kept m f hm hf = record { bare = then_bare m f hm.bare (λ a. (hf a).bare); keeps = λ s. after f hf s (m s) (hm.keeps s) }

both_kept : {A B : Type 0} (m : M A) (n : M B) → Keeps m → Keeps n → Keeps (m >> n)
both_kept m n hm hn = then_kept m (λ _. n) hm (λ _. hn)

give_kept : {A : Type 0} (a : A) → Keeps (give a)
give_kept a = record { bare = give_bare a; keeps = λ s. still _ s refl refl }

look_kept : {A : Type 0} (f : List Node → A) → Keeps (look f)
look_kept f = record { bare = look_bare f; keeps = λ s. still _ s refl refl }

make_kept : (n : Node) → Keeps (make n)
make_kept n = record { bare = make_bare n; keeps = λ s. record { more = n ∷ []; is = refl; falls = omega arith; texts = refl } }

raise_kept : {A : Type 0} (kind : ℕ) (message : List ℕ) → IsTrue (is_exception_class kind) → Keeps (raise {A = A} kind message)
raise_kept kind message h = record { bare = raise_bare kind message; keeps = λ s. still _ s refl h }

either_spent : (enough : Bool) (n : ℕ) (s : Moment) → Kept {A = Unit {0}} s (if enough then fine tt (record s { left = s.left - n }) else stopped (record s { left = 0 }))
either_spent true n s = record { more = []; is = nothing_more s.nodes; falls = omega arith; texts = refl }
either_spent false n s = record { more = []; is = nothing_more s.nodes; falls = omega arith; texts = refl }

spend_kept : (n : ℕ) → Keeps (spend n)
spend_kept n = record { bare = spend_bare n; keeps = λ s. either_spent (nat_le n s.left) n s }

or_else_kept : {A : Type 0} (other : M A) (o : Option A) → Keeps other → Keeps (or_else other o)
or_else_kept other (Some a) h = give_kept a
or_else_kept other None h = h

ended_kept : {A : Type 0} (s : Moment) (e : Counted A) → left_of e ≤ s.left → Kept s (ended_in s e)
ended_kept s (answer a n) fits = record { more = []; is = nothing_more s.nodes; falls = fits; texts = refl }
ended_kept s (too_deep n) fits = record { more = []; is = nothing_more s.nodes; falls = fits; texts = refl }
ended_kept s (spent n) fits = record { more = []; is = nothing_more s.nodes; falls = fits; texts = refl }

counted_kept : {A : Type 0} (m : List Node → ℕ → Count A) → ((ns : List Node) (depth : ℕ) → Falls (m ns depth)) → Keeps (λ s. counted (m s.nodes s.depth) s)
counted_kept m h = record { bare = counted_bare m; keeps = λ s. ended_kept s (m s.nodes s.depth s.left) ((h s.nodes s.depth).falls s.left) }

-- more turns than steps
exhausted_kept : {A : Type 0} → Keeps (exhausted {A = A})
exhausted_kept = record { bare = record { ends = λ s. refl }; keeps = λ s. record { more = []; is = nothing_more s.nodes; falls = omega arith; texts = refl } }

if_kept : {A : Type 0} (c : Bool) (m n : M A) → Keeps m → Keeps n → Keeps (if c then m else n)
if_kept true m n hm hn = hm
if_kept false m n hm hn = hn

not_iterable_kept : {A : Type 0} (v : Value) → Keeps (not_iterable {A = A} v)
not_iterable_kept v = record { bare = record { ends = λ s. refl }; keeps = λ s. still _ s refl refl }

bad_arguments_kept : {A : Type 0} (name : List ℕ) → Keeps (bad_arguments {A = A} name)
bad_arguments_kept name = record { bare = record { ends = λ s. refl }; keeps = λ s. still _ s refl refl }

bad_operands_kept : {A : Type 0} (sign : List ℕ) (v w : Value) → Keeps (bad_operands {A = A} sign v w)
bad_operands_kept sign v w = record { bare = record { ends = λ s. refl }; keeps = λ s. still _ s refl refl }

node_kept : (v : Value) → Keeps (node_now v)
node_kept v = record { bare = record { ends = λ s. refl }; keeps = λ s. still _ s refl refl }

truth_kept : (v : Value) → Keeps (truth v)
truth_kept none = record { bare = record { ends = λ s. refl }; keeps = λ s. still _ s refl refl }
truth_kept (bool c) = record { bare = record { ends = λ s. refl }; keeps = λ s. still _ s refl refl }
truth_kept (integer z) = record { bare = record { ends = λ s. refl }; keeps = λ s. still _ s refl refl }
truth_kept (text cs) = record { bare = record { ends = λ s. refl }; keeps = λ s. still _ s refl refl }
truth_kept (range x y z) = record { bare = record { ends = λ s. refl }; keeps = λ s. still _ s refl refl }
truth_kept (builtin n) = record { bare = record { ends = λ s. refl }; keeps = λ s. still _ s refl refl }
truth_kept (class n) = record { bare = record { ends = λ s. refl }; keeps = λ s. still _ s refl refl }
truth_kept (node i) = record { bare = record { ends = λ s. refl }; keeps = λ s. still _ s refl refl }

whole_kept : (z : ℤ) → Keeps (whole z)
whole_kept z = if_kept (is_whole z) (give (integer z)) _ (give_kept (integer z)) (raise_kept overflow_error_class _ refl)

divided_kept : (d z : ℤ) → Keeps (divided d z)
divided_kept d z = if_kept (int_eq d (pos 0)) _ (whole z) (raise_kept zero_division_error_class _ refl) (whole_kept z)

-- ---- texts, keys and items

repr_kept : (v : Value) → Keeps (repr_of v)
repr_kept v = counted_kept (λ ns depth. repr_in ns depth v) (λ ns depth. repr_falls ns depth v)

show_kept : (v : Value) → Keeps (show v)
show_kept v = counted_kept (λ ns depth. show_in ns depth v) (λ ns depth. show_falls ns depth v)

value_kept : (key : Key) → Keeps (value_of_key key)
value_kept (ks.single p) = give_kept _
value_kept (ks.tuple ps) = both_kept (spend (length ps)) (make _) (spend_kept (length ps)) (make_kept _)

values_kept : (all : List Key) → Keeps (values_of_keys all)
values_kept [] = give_kept []
values_kept (key ∷ rest) = then_kept (value_of_key key) _ (value_kept key) (λ v. then_kept (values_of_keys rest) _ (values_kept rest) (λ vs. give_kept (v ∷ vs)))

count_kept : (v : Value) → Keeps (count_of v)
count_kept v = then_kept (look (λ ns. count_in ns v)) (or_else (not_iterable v)) (look_kept _) (λ o. or_else_kept (not_iterable v) o (not_iterable_kept v))

node_items_kept : (v : Value) (o : Option Node) → Keeps (node_items v o)
node_items_kept v (Some (list vs)) = give_kept vs
node_items_kept v (Some (tuple vs)) = give_kept vs
node_items_kept v (Some (dict es)) = values_kept (map (λ e. e.0) es)
node_items_kept v _ = not_iterable_kept v

items_kept : (v : Value) → Keeps (items_of v)
items_kept (text cs) = give_kept _
items_kept (range x y z) = give_kept _
items_kept (node i) = then_kept (look (λ ns. slice_get ns i)) (node_items (node i)) (look_kept (λ ns. slice_get ns i)) (node_items_kept (node i))
items_kept v = not_iterable_kept v

walked_kept : (v : Value) → Keeps (walked v)
walked_kept v = then_kept (count_of v >>= spend) _ (then_kept (count_of v) spend (count_kept v) spend_kept) (λ _. items_kept v)

-- ---- walks

node_walk_kept : (n : ℕ) (o : Option Node) → Keeps (walks.node_walk n o)
node_walk_kept n (Some (list vs)) = give_kept _
node_walk_kept n (Some (tuple vs)) = give_kept _
node_walk_kept n (Some (dict es)) = give_kept _
node_walk_kept n _ = not_iterable_kept (node n)

walk_kept : (v : Value) → Keeps (walk_of v)
walk_kept (text cs) = give_kept _
walk_kept (range x y z) = give_kept _
walk_kept (node n) = then_kept (node_now (node n)) _ (node_kept (node n)) (node_walk_kept n)
walk_kept v = not_iterable_kept v

seen_kept : (view : View) (e : Key × Value) → Keeps (seen view e)
seen_kept keys e = value_kept e.0
seen_kept values e = give_kept e.1
seen_kept items e = then_kept (value_of_key e.0) (λ k. new_tuple (k ∷ e.1 ∷ [])) (value_kept e.0) (λ k. make_kept (tuple (k ∷ e.1 ∷ [])))

entry_kept : (view : View) (o : Option (Key × Value)) → Keeps (entry_seen view o)
entry_kept view None = give_kept None
entry_kept view (Some e) = then_kept (seen view e) _ (seen_kept view e) (λ v. give_kept (Some v))

entries_kept : (n : ℕ) → Keeps (entries_now n)
entries_kept n = then_kept (node_now (node n)) _ (node_kept (node n)) (λ found. give_kept (walks.or_none_there (option_and_then dict_in found)))

list_kept : (n : ℕ) → Keeps (items_now n)
list_kept n = then_kept (node_now (node n)) _ (node_kept (node n)) (λ found. give_kept (walks.or_none_there (list_from found)))

item_kept : (walk : Walk) (k : ℕ) → Keeps (item_for walk k)
item_kept (along_list n) k = then_kept (items_now n) _ (list_kept n) (λ vs. give_kept (slice_get vs k))
item_kept (along_dict n start view) k = then_kept (entries_now n) _ (entries_kept n) (λ es. if_kept (length es == start) (entry_seen view (slice_get es k)) _ (entry_kept view (slice_get es k)) (raise_kept runtime_error_class (codes "dictionary changed size during iteration") refl))
item_kept (along_tuple vs) k = give_kept _
item_kept (along_text cs) k = give_kept _
item_kept (along_range start stop step) k = give_kept _

next_kept : {A : Type 0} (found : Option Value) (end : M A) (f : Value → M A) → Keeps end → ((v : Value) → Keeps (f v)) → Keeps (and_next found end f)
next_kept (Some v) end f he hf = both_kept tick (f v) (spend_kept 1) (hf v)
next_kept None end f he hf = he

decided_kept : (which : Bool) (n : ℕ) (walk : Walk) (k : ℕ) → Keeps (decided which n walk k)
decided_kept which zero walk k = exhausted_kept
decided_kept which (suc n) walk k =
    then_kept (item_for walk k) _ (item_kept walk k)
    (λ found. next_kept found (give (bool (not which))) (λ v. truth v >>= λ c. if beq c which then give (bool which) else decided which n walk (suc k)) (give_kept _)
    (λ v. then_kept (truth v) _ (truth_kept v) (λ c. if_kept (beq c which) (give (bool which)) (decided which n walk (suc k)) (give_kept _) (decided_kept which n walk (suc k)))))

decide_kept : (which : Bool) (v : Value) → Keeps (decide which v)
decide_kept which v = then_kept (walk_of v) (λ walk. λ s. decided which (suc s.left) walk 0 s) (walk_kept v) (λ walk. record { bare = record { ends = λ s. (decided_kept which (suc s.left) walk 0).bare.ends s }; keeps = λ s. (decided_kept which (suc s.left) walk 0).keeps s })

module _ {A : Type 0} (f : A → Value → M A) (h : (a : A) (v : Value) → Keeps (f a v)) where
  folded_kept : (n : ℕ) (walk : Walk) (k : ℕ) (a : A) → Keeps (folded f n walk k a)
  folded_kept zero walk k a = exhausted_kept
  folded_kept (suc n) walk k a =
      then_kept (item_for walk k) _ (item_kept walk k)
      (λ found. next_kept found (give a) (λ v. f a v >>= λ c. folded f n walk (suc k) c) (give_kept a) (λ v. then_kept (f a v) _ (h a v) (λ c. folded_kept n walk (suc k) c)))

  fold_kept : (a : A) (walk : Walk) → Keeps (fold f a walk)
  fold_kept a walk = record { bare = record { ends = λ s. (folded_kept (suc s.left) walk 0 a).bare.ends s }; keeps = λ s. (folded_kept (suc s.left) walk 0 a).keeps s }

-- ---- the functions

or_unordered_kept : (comparison : Comparison) (v u : Value) (o : Option Bool) → Keeps (or_unordered comparison v u o)
or_unordered_kept comparison v u (Some found) = give_kept found
or_unordered_kept comparison v u None = bad_operands_kept (comparison_sign comparison) v u

less_kept : (v u : Value) → Keeps (less v u)
less_kept v u = counted_kept (λ ns depth. less_in ns depth v u) (λ ns depth. less_in_falls ns depth v u)

greater_kept : (v u : Value) → Keeps (greater v u)
greater_kept v u = counted_kept (λ ns depth. greater_in ns depth v u) (λ ns depth. greater_in_falls ns depth v u)

-- `max` and `min` compare by these two.
pub data Extreme : Comparison → Type 0 where
  greatest : Extreme comparisons.Greater
  least : Extreme comparisons.Less

compare_kept : (comparison : Comparison) → Extreme comparison → (v u : Value) → Keeps (compare comparison v u)
compare_kept _ greatest v u = then_kept (greater v u) (or_unordered comparisons.Greater v u) (greater_kept v u) (or_unordered_kept comparisons.Greater v u)
compare_kept _ least v u = then_kept (less v u) (or_unordered comparisons.Less v u) (less_kept v u) (or_unordered_kept comparisons.Less v u)

better_kept : (comparison : Comparison) → Extreme comparison → (o : Option Value) (v : Value) → Keeps (better comparison o v)
better_kept comparison x None v = give_kept (Some v)
better_kept comparison x (Some u) v = then_kept (compare comparison v u) _ (compare_kept comparison x v u) (λ c. give_kept _)

or_empty_kept : (o : Option Value) → Keeps (builtins.or_empty_argument o)
or_empty_kept (Some v) = give_kept v
or_empty_kept None = raise_kept value_error_class _ refl

best_of_kept : (comparison : Comparison) → Extreme comparison → (walk : Walk) → Keeps (best_of comparison walk)
best_of_kept comparison x walk = then_kept (fold (better comparison) None walk) builtins.or_empty_argument (fold_kept (better comparison) (better_kept comparison x) None walk) or_empty_kept

best_kept : (name : List ℕ) (comparison : Comparison) → Extreme comparison → (vs : List Value) → Keeps (best name comparison vs)
best_kept name comparison x [] = bad_arguments_kept name
best_kept name comparison x (v ∷ []) = then_kept (walk_of v) (best_of comparison) (walk_kept v) (best_of_kept comparison x)
best_kept name comparison x (v ∷ (u ∷ vs)) = best_of_kept comparison x (along_tuple (v ∷ (u ∷ vs)))

by_number_kept : (name : List ℕ) (o : Option ℤ) (f : ℤ → M Value) → ((z : ℤ) → Keeps (f z)) → Keeps (by_number name o f)
by_number_kept name (Some z) f h = h z
by_number_kept name None f h = bad_arguments_kept name

-- A sum stays a whole number.
whole_then_kept : (c : Bool) (x : ℤ) (f : Value → M Value) → Keeps (f (integer x)) → Keeps ((if c then give (integer x) else raise overflow_error_class (codes "whole number too large")) >>= f)
whole_then_kept true x f h = record { bare = record { ends = λ s. h.bare.ends s }; keeps = λ s. h.keeps s }
whole_then_kept false x f h = record { bare = record { ends = λ s. refl }; keeps = λ s. still _ s refl refl }

added_then_kept : (z : ℤ) (v : Value) (f : Value → M Value) → ((x : ℤ) → Keeps (f (integer x))) → Keeps (added (integer z) v >>= f)
added_then_kept z v f h = by_addend (number_in v)
  where
    by_addend : (o : Option ℤ) → Keeps (by_number (codes "sum") o (λ y. operate operators.Add (integer z) (integer y)) >>= f)
    by_addend (Some y) = whole_then_kept (is_whole (z +ℤ y)) (z +ℤ y) f (h (z +ℤ y))
    by_addend None = record { bare = record { ends = λ s. refl }; keeps = λ s. still _ s refl refl }

sums_kept : (n : ℕ) (walk : Walk) (k : ℕ) (z : ℤ) → Keeps (folded added n walk k (integer z))
sums_kept zero walk k z = exhausted_kept
sums_kept (suc n) walk k z =
    then_kept (item_for walk k) _ (item_kept walk k)
    (λ found. next_kept found (give (integer z)) (λ v. added (integer z) v >>= λ c. folded added n walk (suc k) c) (give_kept (integer z))
    (λ v. added_then_kept z v (λ c. folded added n walk (suc k) c) (λ x. sums_kept n walk (suc k) x)))

sum_kept : (walk : Walk) → Keeps (fold added (integer (pos 0)) walk)
sum_kept walk = record { bare = record { ends = λ s. (sums_kept (suc s.left) walk 0 (pos 0)).bare.ends s }; keeps = λ s. (sums_kept (suc s.left) walk 0 (pos 0)).keeps s }

character_kept : (z : ℤ) → Keeps (builtins.character z)
character_kept (pos n) = if_kept (builtins.is_character n) (give (text (n ∷ []))) _ (give_kept _) (raise_kept value_error_class _ refl)
character_kept (negsuc n) = raise_kept value_error_class _ refl

code_point_kept : (v : Value) → Keeps (builtins.code_point v)
code_point_kept (text (c ∷ [])) = give_kept _
code_point_kept v = bad_arguments_kept (codes "ord")

both_numbers_kept : (x y : ℤ) → Keeps (builtins.quotient_and_remainder x y)
both_numbers_kept x y =
    then_kept (divided y (floor_quotient x y)) _ (divided_kept y (floor_quotient x y))
    (λ q. then_kept (divided y (floor_remainder x y)) (λ r. new_tuple (q ∷ r ∷ [])) (divided_kept y (floor_remainder x y)) (λ r. make_kept (tuple (q ∷ r ∷ []))))

divided_by_kept : (v u : Value) → Keeps (builtins.divided_by v u)
divided_by_kept v u =
    by_number_kept (codes "divmod") (number_in v) (λ x. by_number (codes "divmod") (number_in u) (builtins.quotient_and_remainder x))
    (λ x. by_number_kept (codes "divmod") (number_in u) (builtins.quotient_and_remainder x) (both_numbers_kept x))

node_length_kept : (o : Option Node) → Keeps (builtins.node_length o)
node_length_kept (Some (list vs)) = whole_kept (pos (length vs))
node_length_kept (Some (tuple vs)) = whole_kept (pos (length vs))
node_length_kept (Some (dict es)) = whole_kept (pos (length es))
node_length_kept _ = bad_arguments_kept (codes "len")

length_kept : (v : Value) → Keeps (builtins.length_of v)
length_kept (text cs) = whole_kept (pos (length cs))
length_kept (range x y z) = whole_kept (pos (range_length x y z))
length_kept (node n) = then_kept (node_now (node n)) builtins.node_length (node_kept (node n)) node_length_kept
length_kept v = bad_arguments_kept (codes "len")

is_of_one_kept : (v : Value) (cs : List Value) → Keeps (is_of_one v cs)
is_of_one_kept v cs =
    if_kept _ (node_now v >>= λ found. give (bool (list_any (builtins.is_of_class v found) cs))) _
    (then_kept (node_now v) (λ found. give (bool (list_any (builtins.is_of_class v found) cs))) (node_kept v) (λ found. give_kept (bool (list_any (builtins.is_of_class v found) cs))))
    (bad_arguments_kept (codes "isinstance"))

is_of_tuple_kept : (v : Value) (o : Option Node) → Keeps (builtins.is_of_tuple v o)
is_of_tuple_kept v (Some (tuple cs)) = is_of_one_kept v cs
is_of_tuple_kept v _ = bad_arguments_kept (codes "isinstance")

is_instance_kept : (v c : Value) → Keeps (builtins.is_instance v c)
is_instance_kept v (class n) = is_of_one_kept v (class n ∷ [])
is_instance_kept v c = then_kept (node_now c) (builtins.is_of_tuple v) (node_kept c) (is_of_tuple_kept v)

sorted_kept : (v : Value) → Keeps (builtins.sorted v)
sorted_kept v =
    then_kept (count_of v) _ (count_kept v)
    (λ n. then_kept (spend (sort_steps n) >> items_of v) _ (both_kept (spend (sort_steps n)) (items_of v) (spend_kept (sort_steps n)) (items_kept v))
    (λ vs. then_kept (or_else (bad_arguments (codes "sorted")) (in_order vs)) new_list (or_else_kept _ (in_order vs) (bad_arguments_kept (codes "sorted"))) (λ us. make_kept (list us))))

-- ---- the rows

one_kept : (name : List ℕ) (f : Value → M Value) → ((v : Value) → Keeps (f v)) → (vs : List Value) → Keeps (of_one name f vs)
one_kept name f h [] = bad_arguments_kept name
one_kept name f h (v ∷ []) = h v
one_kept name f h (v ∷ (u ∷ vs)) = bad_arguments_kept name

two_kept : (name : List ℕ) (f : Value → Value → M Value) → ((v u : Value) → Keeps (f v u)) → (vs : List Value) → Keeps (of_two name f vs)
two_kept name f h [] = bad_arguments_kept name
two_kept name f h (v ∷ []) = bad_arguments_kept name
two_kept name f h (v ∷ (u ∷ [])) = h v u
two_kept name f h (v ∷ (u ∷ (t ∷ vs))) = bad_arguments_kept name

none_or_one_kept : (name : List ℕ) (empty : M Value) (f : Value → M Value) → Keeps empty → ((v : Value) → Keeps (f v)) → (vs : List Value) → Keeps (of_none_or_one name empty f vs)
none_or_one_kept name empty f he h [] = he
none_or_one_kept name empty f he h (v ∷ []) = h v
none_or_one_kept name empty f he h (v ∷ (u ∷ vs)) = bad_arguments_kept name

number_row_kept : (name : List ℕ) (f : ℤ → M Value) → ((z : ℤ) → Keeps (f z)) → (vs : List Value) → Keeps (of_number name f vs)
number_row_kept name f h vs = one_kept name (λ v. by_number name (number_in v) f) (λ v. by_number_kept name (number_in v) f h) vs

abbrev Each : (Call → Type 0) → List Call → Type 0
Each P [] = Unit {0}
Each P (f ∷ fs) = P f × Each P fs

abbrev IsKeeping : Call → Type 0
IsKeeping f = (vs : List Value) → Keeps (f vs)

-- Whatever stands at a place of the table.
call_kept : (fs : List Call) → Each IsKeeping fs → (n : ℕ) (vs : List Value) → Keeps (callees.or_no_call (slice_get fs n) vs)
call_kept [] h n vs = bad_arguments_kept []
call_kept (f ∷ fs) h zero vs = h.0 vs
call_kept (f ∷ fs) h (suc n) vs = call_kept fs h.1 n vs

-- Only the row of `print` depends on what prints.
other_row : (front back : List Call) (f g : Call) (n : ℕ) → n ≢ length front → slice_get (front ++ f ∷ back) n ≡ slice_get (front ++ g ∷ back) n
other_row [] back f g zero h = absurd (h refl)
other_row [] back f g (suc n) h = refl
other_row (e ∷ front) back f g zero h = refl
other_row (e ∷ front) back f g (suc n) h = other_row front back f g n (λ p. h (ap suc p))

abbrev nothing_printed : Call
nothing_printed vs = exhausted

builtin_row : (f : BuiltinFunction) → IsKeeping (builtin_call nothing_printed f)
builtin_row functions.abs = number_row_kept (codes "abs") (λ z. whole (pos (unsigned_abs z))) (λ z. whole_kept (pos (unsigned_abs z)))
builtin_row functions.all = one_kept (codes "all") (decide false) (decide_kept false)
builtin_row functions.any = one_kept (codes "any") (decide true) (decide_kept true)
builtin_row functions.chr = number_row_kept (codes "chr") builtins.character character_kept
builtin_row functions.divmod = two_kept (codes "divmod") builtins.divided_by divided_by_kept
builtin_row functions.isinstance = two_kept (codes "isinstance") builtins.is_instance is_instance_kept
builtin_row functions.len = one_kept (codes "len") builtins.length_of length_kept
builtin_row functions.max = best_kept (codes "max") comparisons.Greater greatest
builtin_row functions.min = best_kept (codes "min") comparisons.Less least
builtin_row functions.ord = one_kept (codes "ord") builtins.code_point code_point_kept
builtin_row functions.print = λ vs. exhausted_kept
builtin_row functions.repr = one_kept (codes "repr") (λ v. repr_of v >>= λ cs. give (text cs)) (λ v. then_kept (repr_of v) (λ cs. give (text cs)) (repr_kept v) (λ cs. give_kept (text cs)))
builtin_row functions.sorted = one_kept (codes "sorted") builtins.sorted sorted_kept
builtin_row functions.sum = one_kept (codes "sum") (λ v. walk_of v >>= fold added (integer (pos 0))) (λ v. then_kept (walk_of v) (fold added (integer (pos 0))) (walk_kept v) sum_kept)

builtin_rows : (fs : List BuiltinFunction) → Each IsKeeping (map (builtin_call nothing_printed) fs)
builtin_rows [] = tt
builtin_rows (f ∷ fs) = (builtin_row f, builtin_rows fs)

same_row : (n : ℕ) → n ≢ callees.print_number → slice_get (builtin_calls callees.print_plain) n ≡ slice_get (builtin_calls nothing_printed) n
same_row n h =
    other_row (map (builtin_call callees.print_plain) (take 10 all_builtins)) (map (builtin_call callees.print_plain) (drop 11 all_builtins)) callees.print_plain nothing_printed n h

not_print : (n : ℕ) → n ≢ callees.print_number → (n == callees.print_number) ≡ false
not_print n h = grind (arith, nat_tests)

other_branch : {A : Type 0} (x : Bool) (m n : M A) → x ≡ false → Keeps n → Keeps (if x then m else n)
other_branch x m n e h = rw e h

pub builtin_kept : (n : ℕ) → n ≢ callees.print_number → (vs : List Value) → Keeps (callees.call_builtin n (plainly vs))
builtin_kept n h vs =
    other_branch (n == callees.print_number) _ (callees.or_no_call (slice_get (builtin_calls callees.print_plain) n) vs) (not_print n h)
    (rw (same_row n h) (call_kept (builtin_calls nothing_printed) (builtin_rows all_builtins) n vs))

-- ---- classes

copied_kept : (o : Option Node) → Keeps (builtins.copied_dict o)
copied_kept (Some (dict es)) = both_kept (spend (length es)) (make (dict es)) (spend_kept (length es)) (make_kept (dict es))
copied_kept _ = bad_arguments_kept (codes "dict")

or_no_number_kept : (o : Option ℤ) → Keeps (builtins.or_no_number o)
or_no_number_kept (Some z) = give_kept _
or_no_number_kept None = raise_kept value_error_class _ refl

number_from_kept : (v : Value) → Keeps (builtins.number_from v)
number_from_kept (text cs) = both_kept (spend (length cs)) (builtins.or_no_number (number_read cs)) (spend_kept (length cs)) (or_no_number_kept (number_read cs))
number_from_kept v = by_number_kept (codes "int") (number_in v) (λ z. give (integer z)) (λ z. give_kept (integer z))

tuple_of_kept : (v : Value) (o : Option Node) → Keeps (builtins.tuple_of v o)
tuple_of_kept v (Some (tuple vs)) = give_kept v
tuple_of_kept v _ = then_kept (walked v) new_tuple (walked_kept v) (λ vs. make_kept (tuple vs))

range_kept : (os : List (Option ℤ)) → Keeps (builtins.range_from os)
range_kept [] = bad_arguments_kept (codes "range")
range_kept (Some stop ∷ []) = give_kept _
range_kept (Some start ∷ (Some stop ∷ [])) = give_kept _
range_kept (Some start ∷ (Some stop ∷ (Some step ∷ []))) = if_kept (int_eq step (pos 0)) _ (give (range start stop step)) (raise_kept value_error_class _ refl) (give_kept _)
range_kept os = bad_arguments_kept (codes "range")

object_kept : (vs : List Value) → Keeps (callees.empty_object vs)
object_kept vs = if_kept (length vs == 0) (make (object [])) _ (make_kept (object [])) (bad_arguments_kept _)

class_row : (c : PlainClass) → IsKeeping (class_call callees.empty_object c)
class_row plain.bool = none_or_one_kept (codes "bool") (give (bool false)) (λ v. truth v >>= λ x. give (bool x)) (give_kept (bool false)) (λ v. then_kept (truth v) (λ x. give (bool x)) (truth_kept v) (λ x. give_kept (bool x)))
class_row plain.dict = none_or_one_kept (codes "dict") (make (dict [])) (λ v. node_now v >>= builtins.copied_dict) (make_kept (dict [])) (λ v. then_kept (node_now v) builtins.copied_dict (node_kept v) copied_kept)
class_row plain.int = none_or_one_kept (codes "int") (give (integer (pos 0))) builtins.number_from (give_kept (integer (pos 0))) number_from_kept
class_row plain.list = none_or_one_kept (codes "list") (new_list []) (λ v. builtins.all_items v >>= new_list) (make_kept (list [])) (λ v. then_kept (walked v) new_list (walked_kept v) (λ vs. make_kept (list vs)))
class_row plain.range = λ vs. range_kept (map number_in vs)
class_row plain.namespace = object_kept
class_row plain.str = none_or_one_kept (codes "str") (give (text [])) (λ v. show v >>= λ cs. give (text cs)) (give_kept (text [])) (λ v. then_kept (show v) (λ cs. give (text cs)) (show_kept v) (λ cs. give_kept (text cs)))
class_row plain.tuple = none_or_one_kept (codes "tuple") (new_tuple []) (λ v. node_now v >>= builtins.tuple_of v) (make_kept (tuple [])) (λ v. then_kept (node_now v) (builtins.tuple_of v) (node_kept v) (tuple_of_kept v))

class_rows : (cs : List PlainClass) → Each IsKeeping (map (class_call callees.empty_object) cs)
class_rows [] = tt
class_rows (c ∷ cs) = (class_row c, class_rows cs)

pub class_kept : (n : ℕ) (vs : List Value) → Keeps (callees.construct n (plainly vs))
class_kept n vs =
    if_kept (n == namespace_class) (callees.empty_object vs) _ (object_kept vs)
    (if_kept (is_exception_class n) (make (exception n vs)) _ (make_kept (exception n vs)) (call_kept (class_calls callees.empty_object) (class_rows plain_classes) n vs))
