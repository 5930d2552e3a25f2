-- Builtin functions and classes go alike: one line a builtin.
use Rattle.std.specs.Prelude.{List, ℕ, Option, ℤ, Some, None, suc, Bool, zero, true, false, if◌then◌else◌, codes, pos, negsuc, [], ◌∷◌, length, ◌≡◌, ◌||◌, is_some, ◌&&◌, unsigned_abs, map}
use Rattle.std.specs.Bool.{beq}
use Rattle.std.specs.List.{list_any, list_all}
use Rattle.std.specs.Ordering.{int_eq}
use Rattle.std.proofs.Common.{subst, ap, refl, ◌∙◌}
use Rattle.kishu_language.specs.declared.tree.Comparison.{Comparison}
use Rattle.kishu_language.specs.declared.tree.Comparison.TheVariants as comparisons
use Rattle.kishu_language.specs.declared.tree.Operator.TheVariants as operators
use Rattle.kishu_meaning.specs.calls.Builtins.{Call, of_one, of_two, by_number, of_number, and_next, decided, decide, folded, fold, better, or_empty_argument, best_of, best, added, character, is_character, code_point, quotient_and_remainder, divided_by, node_length, length_of, node_is_of, is_of, is_of_class, class_in, is_of_one, is_of_tuple, is_instance, sorted, builtin_call, builtin_calls, of_none_or_one, copied_dict, or_no_number, number_from, tuple_of, range_from, class_call, class_calls, all_items}
use Rattle.kishu_meaning.specs.calls.Operators.{whole, truth, new_list, new_tuple}
use Rattle.kishu_meaning.specs.comparing.Equal.{number_in, range_length}
use Rattle.kishu_meaning.specs.comparing.Show.{repr_of, show}
use Rattle.kishu_meaning.specs.items.Sorting.{sort_steps}
use Rattle.kishu_meaning.specs.items.Walks.{Walk, walk_of}
use Rattle.kishu_meaning.specs.moments.Moment.{M, node_now, give, ◌>>=◌, make}
use Rattle.kishu_meaning.specs.values.Kinds.{bad_arguments}
use Rattle.kishu_meaning.specs.values.BuiltinNames as builtins
use Rattle.kishu_meaning.specs.values.BuiltinNames.{BuiltinFunction, all_builtins}
use Rattle.kishu_meaning.specs.values.PlainClasses as plains
use Rattle.kishu_meaning.specs.values.PlainClasses.{PlainClass, plain_classes}
use Rattle.kishu_meaning.specs.values.Numbers.{number_read}
use Rattle.kishu_meaning.specs.values.Values.{Value, integer, text, node, Node, range, class, bool, dict}
use Rattle.kishu_pairing_laws.specs.World.{World, SameValues, GoQuietly, SameValue, nil, cons, BothOrNeither, neither, both, plain, IsPlain, paired, SameNode, lists, tuples, dicts, objects, functions, exceptions, Is, Zip}
use Rattle.kishu_pairing_laws.specs.moments.Steps.{then_quiet, tick_quiet, exhausted_quiet, bind_quiet, give_quiet, bind_is, cond_quiet, raise_quiet, spend_quiet, or_else_quiet, spend_is, by_left_quiet}
use Rattle.kishu_pairing_laws.specs.values.Lists.{zip_each, zip_length, zip_equal}
use Rattle.kishu_pairing_laws.specs.moments.Heap.{node_now_quiet, make_quiet}
use Rattle.kishu_pairing_laws.specs.values.Kinds.{bad_arguments_quiet}
use Rattle.kishu_pairing_laws.specs.comparing.Equal.{number_same}
use Rattle.kishu_pairing_laws.specs.calls.Operators.{truth_quiet, operate_quiet, new_tuple_quiet, whole_is, whole_quiet, new_list_quiet}
use Rattle.kishu_pairing_laws.specs.comparing.Comparing.{compare_quiet}
use Rattle.kishu_pairing_laws.specs.comparing.Show.{repr_quiet, show_quiet}
use Rattle.kishu_pairing_laws.specs.items.Sequences.{count_of_quiet, items_of_quiet, walked_quiet}
use Rattle.kishu_pairing_laws.specs.items.Walks.{SameWalk, item_for_quiet, walk_of_quiet, tuple_walks}
use Rattle.kishu_pairing_laws.specs.items.Sorting.{in_order_same}

module _ (W : World) where
  abbrev pub SameCall : Call → Call → Type 0
  SameCall f g = (vs ws : List Value) → SameValues W vs ws → GoQuietly W (SameValue W) (f vs) (g ws)

  -- ---- shapes of arguments

  one_quiet : (name : List ℕ) (f g : Value → M Value) → ((v w : Value) → SameValue W v w → GoQuietly W (SameValue W) (f v) (g w)) → SameCall (of_one name f) (of_one name g)
  one_quiet name f g h _ _ nil = bad_arguments_quiet W name
  one_quiet name f g h _ _ (cons vw nil) = h _ _ vw
  one_quiet name f g h _ _ (cons vw (cons xy z)) = bad_arguments_quiet W name

  two_quiet : (name : List ℕ) (f g : Value → Value → M Value) → ((v w x y : Value) → SameValue W v w → SameValue W x y → GoQuietly W (SameValue W) (f v x) (g w y)) → SameCall (of_two name f) (of_two name g)
  two_quiet name f g h _ _ nil = bad_arguments_quiet W name
  two_quiet name f g h _ _ (cons vw nil) = bad_arguments_quiet W name
  two_quiet name f g h _ _ (cons vw (cons xy nil)) = h _ _ _ _ vw xy
  two_quiet name f g h _ _ (cons vw (cons xy (cons ab z))) = bad_arguments_quiet W name

  by_option : (name : List ℕ) (o : Option ℤ) (f g : ℤ → M Value) → ((z : ℤ) → GoQuietly W (SameValue W) (f z) (g z)) → GoQuietly W (SameValue W) (by_number name o f) (by_number name o g)
  by_option name (Some z) f g h = h z
  by_option name None f g h = bad_arguments_quiet W name

  by_number_quiet : (name : List ℕ) (v w : Value) (f g : ℤ → M Value) → SameValue W v w → ((z : ℤ) → GoQuietly W (SameValue W) (f z) (g z)) → GoQuietly W (SameValue W) (by_number name (number_in v) f) (by_number name (number_in w) g)
  by_number_quiet name v w f g vw h = subst (λ o. GoQuietly W (SameValue W) (by_number name (number_in v) f) (by_number name o g)) (number_same W vw) (by_option name (number_in v) f g h)

  number_call : (name : List ℕ) (f : ℤ → M Value) → ((z : ℤ) → GoQuietly W (SameValue W) (f z) (f z)) → SameCall (of_number name f) (of_number name f)
  number_call name f h = one_quiet name _ _ (λ v w vw. by_number_quiet name v w f f vw h)

  -- ---- what visits a sequence

  next_quiet : {A B : Type 0} {R : A → B → Type 0} {o p : Option Value} {m : M A} {n : M B} {f : Value → M A} {g : Value → M B} → BothOrNeither (SameValue W) o p → GoQuietly W R m n → ((v w : Value) → SameValue W v w → GoQuietly W R (f v) (g w)) → GoQuietly W R (and_next o m f) (and_next p n g)
  next_quiet neither mn h = mn
  next_quiet (both vw) mn h = then_quiet W (tick_quiet W) (h _ _ vw)

  decided_quiet : (which : Bool) (n : ℕ) {u v : Walk} (k : ℕ) → SameWalk W u v → GoQuietly W (SameValue W) (decided which n u k) (decided which n v k)
  decided_quiet which zero k uv = exhausted_quiet W
  decided_quiet which (suc n) k uv = bind_quiet W (item_for_quiet W k uv) (λ o p op. next_quiet op (give_quiet W (plain _ tt)) (λ v w vw. bind_is W (truth_quiet W vw) (λ b. cond_quiet W (beq b which) (give_quiet W (plain _ tt)) (decided_quiet which n (suc k) uv))))

  decide_quiet : (which : Bool) (v w : Value) → SameValue W v w → GoQuietly W (SameValue W) (decide which v) (decide which w)
  decide_quiet which v w vw = bind_quiet W (walk_of_quiet W vw) (λ a b ab. by_left_quiet W (SameValue W) (λ n. decided which n a 0) (λ n. decided which n b 0) (λ n. decided_quiet which n 0 ab))

  module _ {A : Type 0} (R : A → A → Type 0) (f g : A → Value → M A) (fg : (a b : A) (v w : Value) → R a b → SameValue W v w → GoQuietly W R (f a v) (g b w)) where
    folded_quiet : (n : ℕ) {u v : Walk} (k : ℕ) (a b : A) → SameWalk W u v → R a b → GoQuietly W R (folded f n u k a) (folded g n v k b)
    folded_quiet zero k a b uv ab = exhausted_quiet W
    folded_quiet (suc n) k a b uv ab = bind_quiet W (item_for_quiet W k uv) (λ o p op. next_quiet op (give_quiet W ab) (λ v w vw. bind_quiet W (fg a b v w ab vw) (λ c d cd. folded_quiet n (suc k) c d uv cd)))

    fold_quiet : (a b : A) (u v : Walk) → R a b → SameWalk W u v → GoQuietly W R (fold f a u) (fold g b v)
    fold_quiet a b u v ab uv = by_left_quiet W R (λ n. folded f n u 0 a) (λ n. folded g n v 0 b) (λ n. folded_quiet n 0 a b uv ab)

  chosen : (b : Bool) {v w x y : Value} → SameValue W v w → SameValue W x y → BothOrNeither (SameValue W) (Some (if b then v else x)) (Some (if b then w else y))
  chosen true vw xy = both vw
  chosen false vw xy = both xy

  better_quiet : (comparison : Comparison) (o p : Option Value) (v w : Value) → BothOrNeither (SameValue W) o p → SameValue W v w → GoQuietly W (BothOrNeither (SameValue W)) (better comparison o v) (better comparison p w)
  better_quiet comparison _ _ v w neither vw = give_quiet W (both vw)
  better_quiet comparison _ _ v w (both xy) vw = bind_is W (compare_quiet W comparison vw xy) (λ b. give_quiet W (chosen b vw xy))

  or_empty_quiet : (o p : Option Value) → BothOrNeither (SameValue W) o p → GoQuietly W (SameValue W) (or_empty_argument o) (or_empty_argument p)
  or_empty_quiet _ _ neither = raise_quiet W _ _
  or_empty_quiet _ _ (both vw) = give_quiet W vw

  best_of_quiet : (comparison : Comparison) (u v : Walk) → SameWalk W u v → GoQuietly W (SameValue W) (best_of comparison u) (best_of comparison v)
  best_of_quiet comparison u v uv = bind_quiet W (fold_quiet (BothOrNeither (SameValue W)) (better comparison) (better comparison) (better_quiet comparison) None None u v neither uv) or_empty_quiet

  best_quiet : (name : List ℕ) (comparison : Comparison) → SameCall (best name comparison) (best name comparison)
  best_quiet name comparison _ _ nil = bad_arguments_quiet W name
  best_quiet name comparison _ _ (cons vw nil) = bind_quiet W (walk_of_quiet W vw) (best_of_quiet comparison)
  best_quiet name comparison _ _ (cons vw (cons xy z)) = best_of_quiet comparison _ _ (tuple_walks (cons vw (cons xy z)))

  added_quiet : (a b v w : Value) → SameValue W a b → SameValue W v w → GoQuietly W (SameValue W) (added a v) (added b w)
  added_quiet a b v w ab vw = by_number_quiet (codes "sum") v w _ _ vw (λ z. operate_quiet W operators.Add ab (plain (integer z) tt))

  -- ---- characters, numbers and lengths

  character_quiet : (z : ℤ) → GoQuietly W (SameValue W) (character z) (character z)
  character_quiet (pos n) = cond_quiet W (is_character n) (give_quiet W (plain _ tt)) (raise_quiet W _ _)
  character_quiet (negsuc n) = raise_quiet W _ _

  code_plain : (v : Value) → IsPlain v → GoQuietly W (SameValue W) (code_point v) (code_point v)
  code_plain (text (c ∷ [])) p = give_quiet W (plain _ tt)
  code_plain (node i) p = absurd p
  code_plain v p = bad_arguments_quiet W (codes "ord")

  code_point_quiet : (v w : Value) → SameValue W v w → GoQuietly W (SameValue W) (code_point v) (code_point w)
  code_point_quiet _ _ (plain v p) = code_plain v p
  code_point_quiet _ _ (paired i j p) = bad_arguments_quiet W (codes "ord")

  quotient_quiet : (a b : ℤ) → GoQuietly W (SameValue W) (quotient_and_remainder a b) (quotient_and_remainder a b)
  quotient_quiet a b = bind_quiet W (operate_quiet W operators.FloorDivide (plain (integer a) tt) (plain (integer b) tt)) (λ v w vw. bind_quiet W (operate_quiet W operators.Modulo (plain (integer a) tt) (plain (integer b) tt)) (λ x y xy. new_tuple_quiet W (cons vw (cons xy nil))))

  divided_by_quiet : (v w x y : Value) → SameValue W v w → SameValue W x y → GoQuietly W (SameValue W) (divided_by v x) (divided_by w y)
  divided_by_quiet v w x y vw xy = by_number_quiet (codes "divmod") v w _ _ vw (λ a. by_number_quiet (codes "divmod") x y _ _ xy (λ b. quotient_quiet a b))

  node_length_quiet : {o p : Option Node} → BothOrNeither (SameNode W) o p → GoQuietly W (SameValue W) (node_length o) (node_length p)
  node_length_quiet neither = bad_arguments_quiet W (codes "len")
  node_length_quiet (both (lists z)) = whole_is W (ap pos (zip_length z))
  node_length_quiet (both (tuples z)) = whole_is W (ap pos (zip_length z))
  node_length_quiet (both (dicts z)) = whole_is W (ap pos (zip_length z))
  node_length_quiet (both (objects z)) = bad_arguments_quiet W (codes "len")
  node_length_quiet (both (functions profile code z)) = bad_arguments_quiet W (codes "len")
  node_length_quiet (both (exceptions kind z)) = bad_arguments_quiet W (codes "len")

  length_plain : (v : Value) → IsPlain v → GoQuietly W (SameValue W) (length_of v) (length_of v)
  length_plain (text cs) p = whole_quiet W (pos (length cs))
  length_plain (range a b c) p = whole_quiet W (pos (range_length a b c))
  length_plain (node i) p = absurd p
  length_plain v p = bad_arguments_quiet W (codes "len")

  length_of_quiet : (v w : Value) → SameValue W v w → GoQuietly W (SameValue W) (length_of v) (length_of w)
  length_of_quiet _ _ (plain v p) = length_plain v p
  length_of_quiet _ _ (paired i j p) = bind_quiet W (node_now_quiet W (paired i j p)) (λ o q oq. node_length_quiet oq)

  -- ---- classes of values

  node_is : (n : ℕ) {o p : Option Node} → BothOrNeither (SameNode W) o p → node_is_of n o ≡ node_is_of n p
  node_is n neither = refl
  node_is n (both (lists z)) = refl
  node_is n (both (tuples z)) = refl
  node_is n (both (dicts z)) = refl
  node_is n (both (objects z)) = refl
  node_is n (both (functions profile code z)) = refl
  node_is n (both (exceptions kind z)) = refl

  plain_is_of : (v : Value) → IsPlain v → (o p : Option Node) (n : ℕ) → is_of v o n ≡ is_of v p n
  plain_is_of (node i) q o p n = absurd q
  plain_is_of v q o p n = refl

  is_of_is : {v w : Value} {o p : Option Node} (n : ℕ) → SameValue W v w → BothOrNeither (SameNode W) o p → is_of v o n ≡ is_of w p n
  is_of_is {o = o} {p = p} n (plain v q) op = plain_is_of v q o p n
  is_of_is n (paired i j q) op = node_is n op

  class_plain : {v w : Value} {o p : Option Node} (c : Value) → IsPlain c → SameValue W v w → BothOrNeither (SameNode W) o p → is_of_class v o c ≡ is_of_class w p c
  class_plain (class n) q vw op = is_of_is n vw op
  class_plain (node i) q vw op = absurd q
  class_plain c q vw op = refl

  of_class_is : {v w c d : Value} {o p : Option Node} → SameValue W v w → BothOrNeither (SameNode W) o p → SameValue W c d → is_of_class v o c ≡ is_of_class w p d
  of_class_is vw op (plain c q) = class_plain c q vw op
  of_class_is vw op (paired i j q) = refl

  any_class : {v w : Value} {o p : Option Node} {cs ds : List Value} → SameValue W v w → BothOrNeither (SameNode W) o p → SameValues W cs ds → list_any (is_of_class v o) cs ≡ list_any (is_of_class w p) ds
  any_class vw op nil = refl
  any_class {v = v} {w = w} {o = o} {p = p} vw op (cons {b = d} {as' = cs} cd z) = ap (λ b. b || list_any (is_of_class v o) cs) (of_class_is vw op cd) ∙ ap (λ b. is_of_class w p d || b) (any_class vw op z)

  class_in_is : {v w : Value} → SameValue W v w → class_in v ≡ class_in w
  class_in_is (plain v p) = refl
  class_in_is (paired i j p) = refl

  abbrev is_class : Value → Bool
  is_class c = is_some (class_in c)

  classes_is : {cs ds : List Value} → SameValues W cs ds → list_all is_class cs ≡ list_all is_class ds
  classes_is nil = refl
  classes_is (cons {b = d} {as' = cs} cd z) = ap (λ o. is_some o && list_all is_class cs) (class_in_is cd) ∙ ap (λ b. is_class d && b) (classes_is z)

  one_class_quiet : {v w : Value} {cs ds : List Value} → SameValue W v w → SameValues W cs ds → GoQuietly W (SameValue W) (is_of_one v cs) (is_of_one w ds)
  one_class_quiet {v = v} {w = w} {cs = cs} {ds = ds} vw z =
      subst (λ b. GoQuietly W (SameValue W) (is_of_one v cs) (if b then (node_now w >>= λ found. give (bool (list_any (is_of_class w found) ds))) else bad_arguments (codes "isinstance"))) (classes_is z)
      (cond_quiet W (list_all is_class cs) (bind_quiet W (node_now_quiet W vw) (λ o p op. give_quiet W (subst (λ b. SameValue W (bool (list_any (is_of_class v o) cs)) (bool b)) (any_class vw op z) (plain _ tt)))) (bad_arguments_quiet W (codes "isinstance")))

  tuple_class_quiet : {v w : Value} {o p : Option Node} → SameValue W v w → BothOrNeither (SameNode W) o p → GoQuietly W (SameValue W) (is_of_tuple v o) (is_of_tuple w p)
  tuple_class_quiet vw neither = bad_arguments_quiet W (codes "isinstance")
  tuple_class_quiet vw (both (lists z)) = bad_arguments_quiet W (codes "isinstance")
  tuple_class_quiet vw (both (tuples z)) = one_class_quiet vw z
  tuple_class_quiet vw (both (dicts z)) = bad_arguments_quiet W (codes "isinstance")
  tuple_class_quiet vw (both (objects z)) = bad_arguments_quiet W (codes "isinstance")
  tuple_class_quiet vw (both (functions profile code z)) = bad_arguments_quiet W (codes "isinstance")
  tuple_class_quiet vw (both (exceptions kind z)) = bad_arguments_quiet W (codes "isinstance")

  instance_plain : (c : Value) → IsPlain c → (v w : Value) → SameValue W v w → GoQuietly W (SameValue W) (is_instance v c) (is_instance w c)
  instance_plain (class n) p v w vw = one_class_quiet vw (cons (plain (class n) tt) nil)
  instance_plain (node i) p v w vw = absurd p
  instance_plain c p v w vw = bad_arguments_quiet W (codes "isinstance")

  instance_quiet : (v w c d : Value) → SameValue W v w → SameValue W c d → GoQuietly W (SameValue W) (is_instance v c) (is_instance w d)
  instance_quiet v w _ _ vw (plain c p) = instance_plain c p v w vw
  instance_quiet v w _ _ vw (paired i j p) = bind_quiet W (node_now_quiet W (paired i j p)) (λ o q oq. tuple_class_quiet vw oq)

  sorted_quiet : (v w : Value) → SameValue W v w → GoQuietly W (SameValue W) (sorted v) (sorted w)
  sorted_quiet v w vw = bind_is W (count_of_quiet W vw) (λ n. bind_quiet W (then_quiet W (spend_quiet W (sort_steps n)) (items_of_quiet W vw)) (λ vs ws z. bind_quiet W (or_else_quiet W (bad_arguments_quiet W (codes "sorted")) (in_order_same W z)) (λ xs ys h. new_list_quiet W h)))

  text_of : {m n : M (List ℕ)} → GoQuietly W Is m n → GoQuietly W (SameValue W) (m >>= λ cs. give (text cs)) (n >>= λ cs. give (text cs))
  text_of mn = bind_is W mn (λ cs. give_quiet W (plain _ tt))

  builtin_same : (f g : Call) → SameCall f g → (which : BuiltinFunction) → SameCall (builtin_call f which) (builtin_call g which)
  builtin_same f g fg builtins.abs = number_call (codes "abs") (λ z. whole (pos (unsigned_abs z))) (λ z. whole_quiet W (pos (unsigned_abs z)))
  builtin_same f g fg builtins.all = one_quiet (codes "all") (decide false) (decide false) (decide_quiet false)
  builtin_same f g fg builtins.any = one_quiet (codes "any") (decide true) (decide true) (decide_quiet true)
  builtin_same f g fg builtins.chr = number_call (codes "chr") character character_quiet
  builtin_same f g fg builtins.divmod = two_quiet (codes "divmod") divided_by divided_by divided_by_quiet
  builtin_same f g fg builtins.isinstance = two_quiet (codes "isinstance") is_instance is_instance instance_quiet
  builtin_same f g fg builtins.len = one_quiet (codes "len") length_of length_of length_of_quiet
  builtin_same f g fg builtins.max = best_quiet (codes "max") comparisons.Greater
  builtin_same f g fg builtins.min = best_quiet (codes "min") comparisons.Less
  builtin_same f g fg builtins.ord = one_quiet (codes "ord") code_point code_point code_point_quiet
  builtin_same f g fg builtins.print = fg
  builtin_same f g fg builtins.repr = one_quiet (codes "repr") (λ v. repr_of v >>= λ cs. give (text cs)) (λ v. repr_of v >>= λ cs. give (text cs)) (λ v w vw. text_of (repr_quiet W vw))
  builtin_same f g fg builtins.sorted = one_quiet (codes "sorted") sorted sorted sorted_quiet
  builtin_same f g fg builtins.sum = one_quiet (codes "sum") (λ v. walk_of v >>= fold added (integer (pos 0))) (λ v. walk_of v >>= fold added (integer (pos 0))) (λ v w vw. bind_quiet W (walk_of_quiet W vw) (λ a b ab. fold_quiet (SameValue W) added added added_quiet (integer (pos 0)) (integer (pos 0)) a b (plain _ tt) ab))

  pub builtin_calls_same : (f g : Call) → SameCall f g → Zip SameCall (builtin_calls f) (builtin_calls g)
  builtin_calls_same f g fg = zip_each SameCall (builtin_call f) (builtin_call g) (builtin_same f g fg) all_builtins

  -- ---- classes

  none_or_one_quiet : (name : List ℕ) (m n : M Value) (f g : Value → M Value) → GoQuietly W (SameValue W) m n → ((v w : Value) → SameValue W v w → GoQuietly W (SameValue W) (f v) (g w)) → SameCall (of_none_or_one name m f) (of_none_or_one name n g)
  none_or_one_quiet name m n f g mn h _ _ nil = mn
  none_or_one_quiet name m n f g mn h _ _ (cons vw nil) = h _ _ vw
  none_or_one_quiet name m n f g mn h _ _ (cons vw (cons xy z)) = bad_arguments_quiet W name

  copied_quiet : {o p : Option Node} → BothOrNeither (SameNode W) o p → GoQuietly W (SameValue W) (copied_dict o) (copied_dict p)
  copied_quiet neither = bad_arguments_quiet W (codes "dict")
  copied_quiet (both (lists z)) = bad_arguments_quiet W (codes "dict")
  copied_quiet (both (tuples z)) = bad_arguments_quiet W (codes "dict")
  copied_quiet (both (dicts z)) = then_quiet W (spend_is W (zip_length z)) (make_quiet W (dicts z))
  copied_quiet (both (objects z)) = bad_arguments_quiet W (codes "dict")
  copied_quiet (both (functions profile code z)) = bad_arguments_quiet W (codes "dict")
  copied_quiet (both (exceptions kind z)) = bad_arguments_quiet W (codes "dict")

  or_no_number_quiet : (o : Option ℤ) → GoQuietly W (SameValue W) (or_no_number o) (or_no_number o)
  or_no_number_quiet (Some z) = give_quiet W (plain _ tt)
  or_no_number_quiet None = raise_quiet W _ _

  number_plain : (v : Value) → IsPlain v → GoQuietly W (SameValue W) (number_from v) (number_from v)
  number_plain (text cs) p = then_quiet W (spend_quiet W (length cs)) (or_no_number_quiet (number_read cs))
  number_plain (node i) p = absurd p
  number_plain (bool b) p = give_quiet W (plain _ tt)
  number_plain (integer z) p = give_quiet W (plain _ tt)
  number_plain v p = bad_arguments_quiet W (codes "int")

  number_from_quiet : (v w : Value) → SameValue W v w → GoQuietly W (SameValue W) (number_from v) (number_from w)
  number_from_quiet _ _ (plain v p) = number_plain v p
  number_from_quiet _ _ (paired i j p) = bad_arguments_quiet W (codes "int")

  tuple_of_quiet : {v w : Value} {o p : Option Node} → SameValue W v w → BothOrNeither (SameNode W) o p → GoQuietly W (SameValue W) (tuple_of v o) (tuple_of w p)
  tuple_of_quiet vw (both (tuples z)) = give_quiet W vw
  tuple_of_quiet vw neither = bind_quiet W (walked_quiet W vw) (λ vs ws h. new_tuple_quiet W h)
  tuple_of_quiet vw (both (lists z)) = bind_quiet W (walked_quiet W vw) (λ vs ws h. new_tuple_quiet W h)
  tuple_of_quiet vw (both (dicts z)) = bind_quiet W (walked_quiet W vw) (λ vs ws h. new_tuple_quiet W h)
  tuple_of_quiet vw (both (objects z)) = bind_quiet W (walked_quiet W vw) (λ vs ws h. new_tuple_quiet W h)
  tuple_of_quiet vw (both (functions profile code z)) = bind_quiet W (walked_quiet W vw) (λ vs ws h. new_tuple_quiet W h)
  tuple_of_quiet vw (both (exceptions kind z)) = bind_quiet W (walked_quiet W vw) (λ vs ws h. new_tuple_quiet W h)

  range_from_quiet : (os : List (Option ℤ)) → GoQuietly W (SameValue W) (range_from os) (range_from os)
  range_from_quiet (Some stop ∷ []) = give_quiet W (plain _ tt)
  range_from_quiet (Some start ∷ Some stop ∷ []) = give_quiet W (plain _ tt)
  range_from_quiet (Some start ∷ Some stop ∷ Some step ∷ []) = cond_quiet W (int_eq step (pos 0)) (raise_quiet W _ _) (give_quiet W (plain _ tt))
  range_from_quiet os = bad_arguments_quiet W (codes "range")

  range_call : SameCall (λ vs. range_from (map number_in vs)) (λ vs. range_from (map number_in vs))
  range_call vs ws z = subst (λ os. GoQuietly W (SameValue W) (range_from (map number_in vs)) (range_from os)) (zip_equal number_in number_in (λ a b ab. number_same W ab) z) (range_from_quiet (map number_in vs))

  class_same : (f g : Call) → SameCall f g → (which : PlainClass) → SameCall (class_call f which) (class_call g which)
  class_same f g fg plains.bool = none_or_one_quiet (codes "bool") (give (bool false)) (give (bool false)) (λ v. truth v >>= λ b. give (bool b)) (λ v. truth v >>= λ b. give (bool b)) (give_quiet W (plain _ tt)) (λ v w vw. bind_is W (truth_quiet W vw) (λ b. give_quiet W (plain _ tt)))
  class_same f g fg plains.dict = none_or_one_quiet (codes "dict") (make (dict [])) (make (dict [])) (λ v. node_now v >>= copied_dict) (λ v. node_now v >>= copied_dict) (make_quiet W (dicts nil)) (λ v w vw. bind_quiet W (node_now_quiet W vw) (λ o p op. copied_quiet op))
  class_same f g fg plains.int = none_or_one_quiet (codes "int") (give (integer (pos 0))) (give (integer (pos 0))) number_from number_from (give_quiet W (plain _ tt)) number_from_quiet
  class_same f g fg plains.list = none_or_one_quiet (codes "list") (new_list []) (new_list []) (λ v. all_items v >>= new_list) (λ v. all_items v >>= new_list) (new_list_quiet W nil) (λ v w vw. bind_quiet W (walked_quiet W vw) (λ vs ws z. new_list_quiet W z))
  class_same f g fg plains.range = range_call
  class_same f g fg plains.namespace = fg
  class_same f g fg plains.str = none_or_one_quiet (codes "str") (give (text [])) (give (text [])) (λ v. show v >>= λ cs. give (text cs)) (λ v. show v >>= λ cs. give (text cs)) (give_quiet W (plain _ tt)) (λ v w vw. text_of (show_quiet W vw))
  class_same f g fg plains.tuple = none_or_one_quiet (codes "tuple") (new_tuple []) (new_tuple []) (λ v. node_now v >>= tuple_of v) (λ v. node_now v >>= tuple_of v) (new_tuple_quiet W nil) (λ v w vw. bind_quiet W (node_now_quiet W vw) (λ o p op. tuple_of_quiet vw op))

  pub class_calls_same : (f g : Call) → SameCall f g → Zip SameCall (class_calls f) (class_calls g)
  class_calls_same f g fg = zip_each SameCall (class_call f) (class_call g) (class_same f g fg) plain_classes
