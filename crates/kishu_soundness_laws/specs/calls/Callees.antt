-- What is called, and what it is given, keep node numbers those of nodes.
use Rattle.std.specs.Prelude.{ℕ, ◌≤◌, List, [], ◌∷◌, length, ◌+◌, ◌*◌, ◌-◌, ◌++◌, codes, Option, Some, None, slice_get, ◌==◌}
use Rattle.std.specs.Str.{bytes_eq}
use Rattle.kishu_language.specs.tokens.Lines.{line_feed}
use Rattle.kishu_language.specs.trees.Tree.{Arguments}
use Rattle.kishu_meaning.specs.calls.Builtins.{Call, builtin_calls, class_calls}
use Rattle.kishu_meaning.specs.calls.Callees.{Given, Part, whole as whole_part, dotted, viewed, Callee, function as function_callee, method, view, by_plain, print, print_by, or_no_call, call_builtin, print_number, print_plain, new_object, construct, empty_object, not_callable, settled, method_of, dict_callee, node_callee, dotted_callee, callee, view_in}
use Rattle.kishu_meaning.specs.calls.Methods.{has_method}
use Rattle.kishu_meaning.specs.comparing.Show.{show_all_in, builtin_name, class_name}
use Rattle.kishu_meaning.specs.items.Walks.{view_name, View}
use Rattle.kishu_meaning.specs.moments.Moment.{give, M}
use Rattle.kishu_meaning.specs.values.Classes.{namespace_class}
use Rattle.kishu_meaning.specs.values.Kinds.{in_quotes}
use Rattle.kishu_meaning.specs.values.Sound.{is_exception_class}
use Rattle.kishu_meaning.specs.values.Texts.{joined}
use Rattle.kishu_meaning.specs.values.Values.{Value, none, text, object, exception, node, Node, dict}
use Rattle.kishu_soundness_laws.specs.Below.{AllBelow, EntriesBelow, Below, Maybe, values_in}
use Rattle.kishu_soundness_laws.specs.BelowLaws.{below_later, each_get, all_later}
use Rattle.kishu_soundness_laws.specs.moments.Steps.{IsSafe, give_safe, plain_safe, counted_safe, then_safe, spend_safe, out_safe, value_safe, if_safe, look_any, bind_safe, node_now_safe}
use Rattle.kishu_soundness_laws.specs.moments.Heap.{make_safe}
use Rattle.kishu_soundness_laws.specs.values.Kinds.{bad_arguments_safe, kind_raise, no_attribute_safe}
use Rattle.kishu_soundness_laws.specs.items.Subscripts.{attribute_safe}
use Rattle.kishu_soundness_laws.specs.calls.Builtins.{CallIsSafe, builtins_safe, classes_safe}

pub record GivenBelow (k : ℕ) (g : Given) : Type 0 where
  pub plain : AllBelow k g.plain
  pub named : EntriesBelow k g.named

abbrev pub PartBelow : ℕ → Part → Type 0
PartBelow k (whole_part v) = Below k v
PartBelow k (dotted v x) = Below k v
PartBelow k (viewed i found) = Unit {0}

abbrev pub CalleeBelow : ℕ → Callee → Type 0
CalleeBelow k (function_callee v) = Below k v
CalleeBelow k (method v x) = Below k v
CalleeBelow k (view i found) = Unit {0}

pub part_later : (k l : ℕ) → k ≤ l → (p : Part) → PartBelow k p → PartBelow l p
part_later k l h (whole_part v) q = below_later k l h v q
part_later k l h (dotted v x) q = below_later k l h v q
part_later k l h (viewed i found) q = tt

pub callee_later : (k l : ℕ) → k ≤ l → (f : Callee) → CalleeBelow k f → CalleeBelow l f
callee_later k l h (function_callee v) q = below_later k l h v q
callee_later k l h (method v x) q = below_later k l h v q
callee_later k l h (view i found) q = tt

pub give_part_safe : {k : ℕ} (p : Part) → PartBelow k p → IsSafe k PartBelow (give p)
give_part_safe {k = k} p h = give_safe PartBelow (λ l le. part_later k l le p h)

give_callee_safe : {k : ℕ} (f : Callee) → CalleeBelow k f → IsSafe k CalleeBelow (give f)
give_callee_safe {k = k} f h = give_safe CalleeBelow (λ l le. callee_later k l le f h)

pub by_plain_safe : {k : ℕ} (name : List ℕ) (ks : List (List ℕ × Value)) {m : M Value} → IsSafe k Below m → IsSafe k Below (by_plain name ks m)
by_plain_safe name [] h = h
by_plain_safe name (x ∷ ks) h = bad_arguments_safe name

print_safe : {k : ℕ} (separator end : List ℕ) (vs : List Value) → IsSafe k Below (print separator end vs)
print_safe separator end vs = plain_safe (counted_safe (λ s. show_all_in s.nodes s.depth vs)) (λ texts. then_safe (spend_safe (length separator * (length texts - 1) + length end)) (then_safe (out_safe (joined separator texts ++ end)) (value_safe none tt)))

print_by_safe : {k : ℕ} (ks : List (List ℕ × Value)) (separator end : List ℕ) (vs : List Value) → IsSafe k Below (print_by ks separator end vs)
print_by_safe [] separator end vs = print_safe separator end vs
print_by_safe ((x, text cs) ∷ ks) separator end vs = if_safe (bytes_eq x (codes "sep")) (print_by_safe ks cs end vs) (if_safe (bytes_eq x (codes "end")) (print_by_safe ks separator cs vs) (bad_arguments_safe (codes "print")))
print_by_safe (x ∷ ks) separator end vs = bad_arguments_safe (codes "print")

no_call_safe : {k : ℕ} (o : Option Call) (vs : List Value) → Maybe CallIsSafe o → AllBelow k vs → IsSafe k Below (or_no_call o vs)
no_call_safe {k = k} (Some f) vs h a = h k vs a
no_call_safe None vs h a = bad_arguments_safe []

pub call_builtin_safe : {k : ℕ} (m : ℕ) (g : Given) → GivenBelow k g → IsSafe k Below (call_builtin m g)
call_builtin_safe m g h = if_safe (m == print_number) (print_by_safe g.named (codes " ") (line_feed ∷ []) g.plain)
    (by_plain_safe (builtin_name m) g.named (no_call_safe (slice_get (builtin_calls print_plain) m) g.plain (each_get CallIsSafe (builtin_calls print_plain) m (builtins_safe print_plain (λ k vs a. print_safe (codes " ") (line_feed ∷ []) vs))) h.plain))

new_object_safe : {k : ℕ} (g : Given) → EntriesBelow k g.named → IsSafe k Below (new_object g)
new_object_safe g h = if_safe (length g.plain == 0) (make_safe (object g.named) h) (bad_arguments_safe (class_name namespace_class))

pub construct_safe : {k : ℕ} (m : ℕ) (g : Given) → GivenBelow k g → IsSafe k Below (construct m g)
construct_safe m g h = if_safe (m == namespace_class) (new_object_safe g h.named)
    (by_plain_safe (class_name m) g.named (if_safe (is_exception_class m) (make_safe (exception m g.plain) h.plain) (no_call_safe (slice_get (class_calls empty_object) m) g.plain (each_get CallIsSafe (class_calls empty_object) m (classes_safe empty_object (λ k vs a. new_object_safe (record { plain = vs; named = [] }) tt))) h.plain)))

pub not_callable_safe : {A : Type 0} {k : ℕ} {Q : ℕ → A → Type 0} (v : Value) → IsSafe k Q (not_callable v)
not_callable_safe v = kind_raise v _ (λ c. in_quotes c ++ codes " object is not callable")

pub settled_safe : {k : ℕ} (p : Part) → PartBelow k p → IsSafe k Below (settled p)
settled_safe (whole_part v) h = value_safe v h
settled_safe (dotted v x) h = attribute_safe v x
settled_safe (viewed i found) h = no_attribute_safe (node i) (view_name found)

method_of_safe : {k : ℕ} (v : Value) (x : List ℕ) → Below k v → IsSafe k CalleeBelow (method_of v x)
method_of_safe v x h = plain_safe (look_any (λ ns. has_method ns v x)) (λ b. if_safe b (give_callee_safe (method v x) h) (no_attribute_safe v x))

dict_callee_safe : {k : ℕ} (i : ℕ) (x : List ℕ) (o : Option View) → Below k (node i) → IsSafe k CalleeBelow (dict_callee i x o)
dict_callee_safe i x (Some found) h = give_callee_safe (view i found) tt
dict_callee_safe i x None h = method_of_safe (node i) x h

node_callee_safe : {k : ℕ} (i : ℕ) (x : List ℕ) (found : Option View) (o : Option Node) → Below k (node i) → IsSafe k CalleeBelow (node_callee i x found o)
node_callee_safe i x found (Some (object es)) h = bind_safe (attribute_safe (node i) x) (λ l le v q. give_callee_safe (function_callee v) q)
node_callee_safe i x found (Some (dict es)) h = dict_callee_safe i x found h
node_callee_safe i x found o h = method_of_safe (node i) x h

dotted_callee_safe : {k : ℕ} (v : Value) (x : List ℕ) (found : Option View) → Below k v → IsSafe k CalleeBelow (dotted_callee v x found)
dotted_callee_safe {k = k} (node i) x found h = bind_safe (node_now_safe (node i)) (λ l le o q. node_callee_safe i x found o (below_later k l le (node i) h))
dotted_callee_safe v x found h = method_of_safe v x h

pub callee_safe : {k : ℕ} (p : Part) (es : Arguments) → PartBelow k p → IsSafe k CalleeBelow (callee p es)
callee_safe (dotted v x) es h = dotted_callee_safe v x (view_in x es) h
callee_safe (whole_part v) es h = give_callee_safe (function_callee v) h
callee_safe (viewed i found) es h = no_attribute_safe (node i) (view_name found)

pub given_later : (k l : ℕ) → k ≤ l → (g : Given) → GivenBelow k g → GivenBelow l g
given_later k l h g p = record { plain = all_later k l h g.plain p.plain; named = all_later k l h (values_in g.named) p.named }

pub given_safe : {k : ℕ} (g : Given) → GivenBelow k g → IsSafe k GivenBelow (give g)
given_safe {k = k} g h = give_safe GivenBelow (λ l le. given_later k l le g h)
