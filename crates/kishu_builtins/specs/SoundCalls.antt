-- What builtin functions and classes give lies among the nodes then.
use Rattle.std.specs.Prelude.{◌≡◌, ◌≢◌, ◌<◌, ℕ, zero, suc, ◌==◌, nat_lt, ℤ, pos, negsuc, ◌+ℤ◌, unsigned_abs, Bool, true, false, not, if◌then◌else◌, List, [], ◌∷◌, ◌++◌, length, map, codes, Option, Some, None, slice_get, IsTrue}
use Rattle.std.proofs.Common.{refl, arith, length-append}
use Rattle.std.proofs.lemmas.Bool.Decides.{nat_tests}
use Rattle.std.specs.Bool.{beq}
use Rattle.std.specs.List.{list_any}
use Rattle.std.specs.Ordering.{int_eq}
use Rattle.kishu_language.specs.declared.tree.Operator.TheVariants as operators
use Rattle.kishu_meaning.specs.values.Numbers.{is_whole, number_read, floor_quotient, floor_remainder}
use Rattle.kishu_meaning.specs.values.Values.{Value, bool, integer, text, range, class, node, Node, list, tuple, dict, object, exception}
use Rattle.kishu_meaning.specs.moments.Moment.{Moment, Ends, fine, raised, stopped, M, and_then, ◌>>=◌, ◌>>◌, give, or_else, spend, tick, make, node_at, node_now, raise}
use Rattle.kishu_meaning.specs.comparing.Equal.{number_in, range_length}
use Rattle.kishu_meaning.specs.calls.Operators.{bad_arguments, value_error, truth, whole, divided, operate, new_list, new_tuple}
use Rattle.kishu_meaning.specs.items.Walks.{Walk, walk_of, item_for}
use Rattle.kishu_meaning.specs.items.Sequences.{count_of, items_of, walked}
use Rattle.kishu_meaning.specs.items.Sorting.{in_order, sort_steps}
use Rattle.kishu_meaning.specs.comparing.Show.{repr_of, show}
use Rattle.kishu_meaning.specs.values.Classes.{namespace_class, overflow_error_class}
use Rattle.kishu_meaning.specs.values.Sound.{is_sound, are_sound, is_exception_class}
use Rattle.kishu_meaning.specs.calls.Builtins as builtins
use Rattle.kishu_meaning.specs.calls.Builtins.{of_one, of_two, of_none_or_one, of_number, by_number, and_next, decided, decide, folded, fold, added, builtin_calls, class_calls, is_of_one}
use Rattle.kishu_meaning.specs.calls.Callees as callees
use Rattle.kishu_items.specs.Holding.{first}
use Rattle.kishu_builtins.specs.Called.{plainly}

abbrev pub is_sound_end : Ends Value → Bool
is_sound_end (fine v t) = is_sound (length t.nodes) v
is_sound_end e = true

pub record Sounds (m : M Value) : Type 0 where
  pub sound : (s : Moment) → IsTrue (is_sound_end (m s))

after : {A : Type 0} (f : A → M Value) → ((a : A) → Sounds (f a)) → (e : Ends A) → IsTrue (is_sound_end (and_then e f))
after f h (fine a t) = (h a).sound t
after f h (raised x t) = refl
after f h (stopped t) = refl

then_sounds : {A : Type 0} (m : M A) (f : A → M Value) → ((a : A) → Sounds (f a)) → Sounds (m >>= f)
then_sounds m f h = record { sound = λ s. after f h (m s) }

both_sound : {A : Type 0} (m : M A) (n : M Value) → Sounds n → Sounds (m >> n)
both_sound m n h = then_sounds m (λ _. n) (λ _. h)

plain_sounds : (v : Value) → ((n : ℕ) → IsTrue (is_sound n v)) → Sounds (give v)
plain_sounds v h = record { sound = λ s. h (length s.nodes) }

raise_sounds : (kind : ℕ) (message : List ℕ) → Sounds (raise kind message)
raise_sounds kind message = record { sound = λ s. refl }

bad_arguments_sound : (name : List ℕ) → Sounds (bad_arguments name)
bad_arguments_sound name = record { sound = λ s. refl }

if_sounds : (c : Bool) (m n : M Value) → Sounds m → Sounds n → Sounds (if c then m else n)
if_sounds true m n hm hn = hm
if_sounds false m n hm hn = hn

is_less : (i n : ℕ) → i < n → IsTrue (nat_lt i n)
is_less i n h = grind (arith, nat_tests)

make_sounds : (n : Node) → Sounds (make n)
make_sounds n = record { sound = λ s. is_less (length s.nodes) (length (s.nodes ++ n ∷ [])) (omega (arith, length-append s.nodes (n ∷ []))) }

-- ---- the functions

whole_sounds : (z : ℤ) → Sounds (whole z)
whole_sounds z = if_sounds (is_whole z) (give (integer z)) _ (plain_sounds (integer z) (λ n. refl)) (raise_sounds _ _)

next_sounds : (found : Option Value) (end : M Value) (f : Value → M Value) → Sounds end → ((v : Value) → Sounds (f v)) → Sounds (and_next found end f)
next_sounds (Some v) end f he hf = both_sound tick (f v) (hf v)
next_sounds None end f he hf = he

decided_sounds : (which : Bool) (n : ℕ) (walk : Walk) (k : ℕ) → Sounds (decided which n walk k)
decided_sounds which zero walk k = record { sound = λ s. refl }
decided_sounds which (suc n) walk k =
    then_sounds (item_for walk k) _
    (λ found. next_sounds found (give (bool (not which))) (λ v. truth v >>= λ x. if beq x which then give (bool which) else decided which n walk (suc k)) (plain_sounds (bool (not which)) (λ m. refl))
    (λ v. then_sounds (truth v) _ (λ x. if_sounds (beq x which) (give (bool which)) (decided which n walk (suc k)) (plain_sounds (bool which) (λ m. refl)) (decided_sounds which n walk (suc k)))))

decide_sounds : (which : Bool) (v : Value) → Sounds (decide which v)
decide_sounds which v = then_sounds (walk_of v) (λ walk. λ s. decided which (suc s.left) walk 0 s) (λ walk. record { sound = λ s. (decided_sounds which (suc s.left) walk 0).sound s })

by_number_sounds : (name : List ℕ) (o : Option ℤ) (f : ℤ → M Value) → ((z : ℤ) → Sounds (f z)) → Sounds (by_number name o f)
by_number_sounds name (Some z) f h = h z
by_number_sounds name None f h = bad_arguments_sound name

-- A sum stays a whole number.
whole_then_sounds : (x : Bool) (z : ℤ) (f : Value → M Value) → Sounds (f (integer z)) → Sounds ((if x then give (integer z) else raise overflow_error_class (codes "whole number too large")) >>= f)
whole_then_sounds true z f h = record { sound = λ s. h.sound s }
whole_then_sounds false z f h = record { sound = λ s. refl }

added_by : (z : ℤ) (o : Option ℤ) (f : Value → M Value) → ((x : ℤ) → Sounds (f (integer x))) → Sounds (by_number (codes "sum") o (λ y. operate operators.Add (integer z) (integer y)) >>= f)
added_by z (Some y) f h = whole_then_sounds (is_whole (z +ℤ y)) (z +ℤ y) f (h (z +ℤ y))
added_by z None f h = record { sound = λ s. refl }

sums_sound : (n : ℕ) (walk : Walk) (k : ℕ) (z : ℤ) → Sounds (folded added n walk k (integer z))
sums_sound zero walk k z = record { sound = λ s. refl }
sums_sound (suc n) walk k z =
    then_sounds (item_for walk k) _
    (λ found. next_sounds found (give (integer z)) (λ v. added (integer z) v >>= λ x. folded added n walk (suc k) x) (plain_sounds (integer z) (λ m. refl))
    (λ v. added_by z (number_in v) (λ x. folded added n walk (suc k) x) (λ x. sums_sound n walk (suc k) x)))

sum_sounds : (walk : Walk) → Sounds (fold added (integer (pos 0)) walk)
sum_sounds walk = record { sound = λ s. (sums_sound (suc s.left) walk 0 (pos 0)).sound s }

character_sounds : (z : ℤ) → Sounds (builtins.character z)
character_sounds (pos n) = if_sounds (builtins.is_character n) (give (text (n ∷ []))) _ (plain_sounds (text (n ∷ [])) (λ m. refl)) (raise_sounds _ _)
character_sounds (negsuc n) = raise_sounds _ _

code_point_sounds : (v : Value) → Sounds (builtins.code_point v)
code_point_sounds (text (c ∷ [])) = plain_sounds (integer (pos c)) (λ m. refl)
code_point_sounds v = bad_arguments_sound (codes "ord")

both_numbers_sound : (x y : ℤ) → Sounds (builtins.quotient_and_remainder x y)
both_numbers_sound x y =
    then_sounds (divided y (floor_quotient x y)) _
    (λ q. then_sounds (divided y (floor_remainder x y)) (λ r. new_tuple (q ∷ (r ∷ []))) (λ r. make_sounds (tuple (q ∷ (r ∷ [])))))

divided_by_sounds : (v u : Value) → Sounds (builtins.divided_by v u)
divided_by_sounds v u =
    by_number_sounds (codes "divmod") (number_in v) (λ x. by_number (codes "divmod") (number_in u) (builtins.quotient_and_remainder x))
    (λ x. by_number_sounds (codes "divmod") (number_in u) (builtins.quotient_and_remainder x) (both_numbers_sound x))

node_length_sounds : (o : Option Node) → Sounds (builtins.node_length o)
node_length_sounds (Some (list vs)) = whole_sounds (pos (length vs))
node_length_sounds (Some (tuple vs)) = whole_sounds (pos (length vs))
node_length_sounds (Some (dict es)) = whole_sounds (pos (length es))
node_length_sounds _ = bad_arguments_sound (codes "len")

length_sounds : (v : Value) → Sounds (builtins.length_of v)
length_sounds (text cs) = whole_sounds (pos (length cs))
length_sounds (range x y z) = whole_sounds (pos (range_length x y z))
length_sounds (node n) = then_sounds (node_now (node n)) builtins.node_length node_length_sounds
length_sounds v = bad_arguments_sound (codes "len")

is_of_one_sounds : (v : Value) (cs : List Value) → Sounds (is_of_one v cs)
is_of_one_sounds v cs =
    if_sounds _ (node_now v >>= λ found. give (bool (list_any (builtins.is_of_class v found) cs))) _
    (then_sounds (node_now v) (λ found. give (bool (list_any (builtins.is_of_class v found) cs))) (λ found. plain_sounds (bool (list_any (builtins.is_of_class v found) cs)) (λ m. refl)))
    (bad_arguments_sound (codes "isinstance"))

is_of_tuple_sounds : (v : Value) (o : Option Node) → Sounds (builtins.is_of_tuple v o)
is_of_tuple_sounds v (Some (tuple cs)) = is_of_one_sounds v cs
is_of_tuple_sounds v _ = bad_arguments_sound (codes "isinstance")

is_instance_sounds : (v c : Value) → Sounds (builtins.is_instance v c)
is_instance_sounds v (class n) = is_of_one_sounds v (class n ∷ [])
is_instance_sounds v c = then_sounds (node_now c) (builtins.is_of_tuple v) (is_of_tuple_sounds v)

sorted_sounds : (v : Value) → Sounds (builtins.sorted v)
sorted_sounds v =
    then_sounds (count_of v) _
    (λ n. then_sounds (spend (sort_steps n) >> items_of v) _ (λ vs. then_sounds (or_else (bad_arguments (codes "sorted")) (in_order vs)) new_list (λ us. make_sounds (list us))))

-- ---- the rows

one_sounds : (name : List ℕ) (f : Value → M Value) → ((v : Value) → Sounds (f v)) → (vs : List Value) → Sounds (of_one name f vs)
one_sounds name f h [] = bad_arguments_sound name
one_sounds name f h (v ∷ []) = h v
one_sounds name f h (v ∷ (u ∷ vs)) = bad_arguments_sound name

two_sounds : (name : List ℕ) (f : Value → Value → M Value) → ((v u : Value) → Sounds (f v u)) → (vs : List Value) → Sounds (of_two name f vs)
two_sounds name f h [] = bad_arguments_sound name
two_sounds name f h (v ∷ []) = bad_arguments_sound name
two_sounds name f h (v ∷ (u ∷ [])) = h v u
two_sounds name f h (v ∷ (u ∷ (t ∷ vs))) = bad_arguments_sound name

none_or_one_sounds : (name : List ℕ) (empty : M Value) (f : Value → M Value) → Sounds empty → ((v : Value) → Sounds (f v)) → (vs : List Value) → Sounds (of_none_or_one name empty f vs)
none_or_one_sounds name empty f he h [] = he
none_or_one_sounds name empty f he h (v ∷ []) = h v
none_or_one_sounds name empty f he h (v ∷ (u ∷ vs)) = bad_arguments_sound name

number_row_sounds : (name : List ℕ) (f : ℤ → M Value) → ((z : ℤ) → Sounds (f z)) → (vs : List Value) → Sounds (of_number name f vs)
number_row_sounds name f h vs = one_sounds name (λ v. by_number name (number_in v) f) (λ v. by_number_sounds name (number_in v) f h) vs

row_sounds : (n : ℕ) → n ≢ 7 → n ≢ 8 → n ≢ 10 → (vs : List Value) → Sounds (callees.or_no_call (slice_get (builtin_calls callees.print_plain) n) vs)
row_sounds zero p q r vs = number_row_sounds (codes "abs") (λ z. whole (pos (unsigned_abs z))) (λ z. whole_sounds (pos (unsigned_abs z))) vs
row_sounds (suc zero) p q r vs = one_sounds (codes "all") (decide false) (decide_sounds false) vs
row_sounds (suc (suc zero)) p q r vs = one_sounds (codes "any") (decide true) (decide_sounds true) vs
row_sounds (suc (suc (suc zero))) p q r vs = number_row_sounds (codes "chr") builtins.character character_sounds vs
row_sounds (suc (suc (suc (suc zero)))) p q r vs = two_sounds (codes "divmod") builtins.divided_by divided_by_sounds vs
row_sounds (suc (suc (suc (suc (suc zero))))) p q r vs = two_sounds (codes "isinstance") builtins.is_instance is_instance_sounds vs
row_sounds (suc (suc (suc (suc (suc (suc zero)))))) p q r vs = one_sounds (codes "len") builtins.length_of length_sounds vs
row_sounds (suc (suc (suc (suc (suc (suc (suc zero))))))) p q r vs = absurd (p refl)
row_sounds (suc (suc (suc (suc (suc (suc (suc (suc zero)))))))) p q r vs = absurd (q refl)
row_sounds (suc (suc (suc (suc (suc (suc (suc (suc (suc zero))))))))) p q r vs = one_sounds (codes "ord") builtins.code_point code_point_sounds vs
row_sounds (suc (suc (suc (suc (suc (suc (suc (suc (suc (suc zero)))))))))) p q r vs = absurd (r refl)
row_sounds (suc (suc (suc (suc (suc (suc (suc (suc (suc (suc (suc zero))))))))))) p q r vs = one_sounds (codes "repr") (λ v. repr_of v >>= λ cs. give (text cs)) (λ v. then_sounds (repr_of v) (λ cs. give (text cs)) (λ cs. plain_sounds (text cs) (λ n. refl))) vs
row_sounds (suc (suc (suc (suc (suc (suc (suc (suc (suc (suc (suc (suc zero)))))))))))) p q r vs = one_sounds (codes "sorted") builtins.sorted sorted_sounds vs
row_sounds (suc (suc (suc (suc (suc (suc (suc (suc (suc (suc (suc (suc (suc zero))))))))))))) p q r vs = one_sounds (codes "sum") (λ v. walk_of v >>= fold added (integer (pos 0))) (λ v. then_sounds (walk_of v) (fold added (integer (pos 0))) sum_sounds) vs
row_sounds (suc (suc (suc (suc (suc (suc (suc (suc (suc (suc (suc (suc (suc (suc n)))))))))))))) p q r vs = record { sound = λ s. refl }

not_print : (n : ℕ) → n ≢ 10 → (n == 10) ≡ false
not_print n h = grind (arith, nat_tests)

other_branch : (x : Bool) (m n : M Value) → x ≡ false → Sounds n → Sounds (if x then m else n)
other_branch x m n e h = rw e h

-- all but `max`, `min` and `print`
pub builtin_sounds : (n : ℕ) → n ≢ 7 → n ≢ 8 → n ≢ 10 → (vs : List Value) → Sounds (callees.call_builtin n (plainly vs))
builtin_sounds n p q r vs = other_branch (n == callees.print_number) _ (callees.or_no_call (slice_get (builtin_calls callees.print_plain) n) vs) (not_print n r) (row_sounds n p q r vs)

-- ---- classes

copied_sounds : (o : Option Node) → Sounds (builtins.copied_dict o)
copied_sounds (Some (dict es)) = both_sound (spend (length es)) (make (dict es)) (make_sounds (dict es))
copied_sounds _ = bad_arguments_sound (codes "dict")

or_no_number_sounds : (o : Option ℤ) → Sounds (builtins.or_no_number o)
or_no_number_sounds (Some z) = plain_sounds (integer z) (λ m. refl)
or_no_number_sounds None = raise_sounds _ _

number_from_sounds : (v : Value) → Sounds (builtins.number_from v)
number_from_sounds (text cs) = both_sound (spend (length cs)) (builtins.or_no_number (number_read cs)) (or_no_number_sounds (number_read cs))
number_from_sounds v = by_number_sounds (codes "int") (number_in v) (λ z. give (integer z)) (λ z. plain_sounds (integer z) (λ m. refl))

range_if_sounds : (x : Bool) (start stop step : ℤ) → int_eq step (pos 0) ≡ x → (s : Moment) → IsTrue (is_sound_end ((if x then value_error (codes "step is zero") else give (range start stop step)) s))
range_if_sounds true start stop step e s = refl
range_if_sounds false start stop step e s = rw e refl

range_sounds : (os : List (Option ℤ)) → Sounds (builtins.range_from os)
range_sounds [] = bad_arguments_sound (codes "range")
range_sounds (Some stop ∷ []) = plain_sounds (range (pos 0) stop (pos 1)) (λ m. refl)
range_sounds (Some start ∷ (Some stop ∷ [])) = plain_sounds (range start stop (pos 1)) (λ m. refl)
range_sounds (Some start ∷ (Some stop ∷ (Some step ∷ []))) = record { sound = λ s. range_if_sounds (int_eq step (pos 0)) start stop step refl s }
range_sounds os = bad_arguments_sound (codes "range")

object_sounds : (vs : List Value) → Sounds (callees.empty_object vs)
object_sounds vs = if_sounds (length vs == 0) (make (object [])) _ (make_sounds (object [])) (bad_arguments_sound _)

-- A tuple gives itself.
tuple_of_sounds : (v : Value) (s : Moment) (o : Option Node) → IsTrue (is_sound (length s.nodes) v) → IsTrue (is_sound_end (builtins.tuple_of v o s))
tuple_of_sounds v s (Some (tuple vs)) h = h
tuple_of_sounds v s _ h = (then_sounds (walked v) new_tuple (λ vs. make_sounds (tuple vs))).sound s

tuple_row_sounds : (vs : List Value) (s : Moment) → IsTrue (are_sound (length s.nodes) vs) → IsTrue (is_sound_end (of_none_or_one (codes "tuple") (new_tuple []) (λ v. node_now v >>= builtins.tuple_of v) vs s))
tuple_row_sounds [] s h = (make_sounds (tuple [])).sound s
tuple_row_sounds (v ∷ []) s h = tuple_of_sounds v s (node_at s.nodes v) (first (is_sound (length s.nodes) v) true h)
tuple_row_sounds (v ∷ (u ∷ vs)) s h = refl

class_row_sounds : (n : ℕ) (vs : List Value) (s : Moment) → IsTrue (are_sound (length s.nodes) vs) → IsTrue (is_sound_end (callees.or_no_call (slice_get (class_calls callees.empty_object) n) vs s))
class_row_sounds zero vs s h = (none_or_one_sounds (codes "bool") (give (bool false)) (λ v. truth v >>= λ x. give (bool x)) (plain_sounds (bool false) (λ m. refl)) (λ v. then_sounds (truth v) (λ x. give (bool x)) (λ x. plain_sounds (bool x) (λ m. refl))) vs).sound s
class_row_sounds (suc zero) vs s h = (none_or_one_sounds (codes "dict") (make (dict [])) (λ v. node_now v >>= builtins.copied_dict) (make_sounds (dict [])) (λ v. then_sounds (node_now v) builtins.copied_dict copied_sounds) vs).sound s
class_row_sounds (suc (suc zero)) vs s h = (none_or_one_sounds (codes "int") (give (integer (pos 0))) builtins.number_from (plain_sounds (integer (pos 0)) (λ m. refl)) number_from_sounds vs).sound s
class_row_sounds (suc (suc (suc zero))) vs s h = (none_or_one_sounds (codes "list") (new_list []) (λ v. walked v >>= new_list) (make_sounds (list [])) (λ v. then_sounds (walked v) new_list (λ us. make_sounds (list us))) vs).sound s
class_row_sounds (suc (suc (suc (suc zero)))) vs s h = (range_sounds (map number_in vs)).sound s
class_row_sounds (suc (suc (suc (suc (suc zero))))) vs s h = (object_sounds vs).sound s
class_row_sounds (suc (suc (suc (suc (suc (suc zero)))))) vs s h = (none_or_one_sounds (codes "str") (give (text [])) (λ v. show v >>= λ cs. give (text cs)) (plain_sounds (text []) (λ m. refl)) (λ v. then_sounds (show v) (λ cs. give (text cs)) (λ cs. plain_sounds (text cs) (λ m. refl))) vs).sound s
class_row_sounds (suc (suc (suc (suc (suc (suc (suc zero))))))) vs s h = tuple_row_sounds vs s h
class_row_sounds (suc (suc (suc (suc (suc (suc (suc (suc n)))))))) vs s h = refl

either_sound : (x : Bool) (m n : M Value) (s : Moment) → Sounds m → IsTrue (is_sound_end (n s)) → IsTrue (is_sound_end ((if x then m else n) s))
either_sound true m n s hm hn = hm.sound s
either_sound false m n s hm hn = hn

pub class_sounds : (n : ℕ) (vs : List Value) (s : Moment) → IsTrue (are_sound (length s.nodes) vs) → IsTrue (is_sound_end (callees.construct n (plainly vs) s))
class_sounds n vs s h =
    either_sound (n == namespace_class) (callees.empty_object vs) _ s (object_sounds vs)
    (either_sound (is_exception_class n) (make (exception n vs)) _ s (make_sounds (exception n vs)) (class_row_sounds n vs s h))
