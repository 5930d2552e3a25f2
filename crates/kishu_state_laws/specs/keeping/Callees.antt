-- What is called keeps what holds of every state, and is given values under names that differ.
use Rattle.std.specs.Prelude.{ℕ, ◌+◌, ◌*◌, ◌-◌, ◌≤◌, ◌==◌, List, [], ◌∷◌, ◌++◌, length, codes, Option, Some, None, slice_get}
use Rattle.std.specs.Str.{bytes_eq}
use Rattle.std.proofs.Common.{refl}
use Rattle.kishu_language.specs.tokens.Lines.{line_feed}
use Rattle.kishu_language.specs.tokens.Names.{reserved_words}
use Rattle.kishu_language.specs.trees.Tree.{Arguments}
use Rattle.kishu_meaning.specs.values.Classes.{namespace_class}
use Rattle.kishu_meaning.specs.values.Kinds.{in_quotes}
use Rattle.kishu_meaning.specs.values.Sound.{is_exception_class}
use Rattle.kishu_meaning.specs.values.Texts.{joined}
use Rattle.kishu_meaning.specs.values.Values.{Value, none, text, node, Node, dict, object, exception}
use Rattle.kishu_meaning.specs.moments.Moment.{M, give}
use Rattle.kishu_meaning.specs.comparing.Show.{builtin_name, class_name}
use Rattle.kishu_meaning.specs.items.Walks.{View, keys, values, items, view_name}
use Rattle.kishu_meaning.specs.calls.Methods.{has_method}
use Rattle.kishu_meaning.specs.calls.Builtins.{Call, builtin_calls, class_calls}
use Rattle.kishu_meaning.specs.calls.Callees.{Given, by_plain, print, print_by, print_plain, print_number, or_no_call, call_builtin, new_object, empty_object, construct, not_callable, Part, whole as whole_part, dotted, viewed, settled, Callee, function as function_callee, method, view, view_in, method_of, dict_callee, node_callee, dotted_callee, callee}
use Rattle.kishu_objects.specs.State.{IsValue, AreValues, IsName, values_in}
use Rattle.kishu_state_laws.specs.keeping.Logic.{Maybe, IsText, Safe, bind_s, with_s, plain_s, then_s, give_s, value_s, if_s, when_s, look_any, node_now_s, spend_s, out_s, make_s, value_later, values_later, each_get}
use Rattle.kishu_state_laws.specs.keeping.Lists.{AreAttributes, object_node}
use Rattle.kishu_state_laws.specs.keeping.Texts.{scalars_append, text_in_quotes, text_class, text_builtin}
use Rattle.kishu_state_laws.specs.keeping.Counting.{show_all_s}
use Rattle.kishu_state_laws.specs.keeping.Leaves.{kind_raise, bad_arguments_s, no_attribute_s}
use Rattle.kishu_state_laws.specs.keeping.Subscripts.{attribute_s}
use Rattle.kishu_state_laws.specs.keeping.Calling.{CallSafe, builtins_safe, classes_safe}

pub record IsGiven (k : ℕ) (g : Given) : Type 0 where
  pub plain : AreValues k g.plain
  pub named : AreAttributes k g.named

abbrev pub IsPart : ℕ → Part → Type 0
IsPart k (whole_part v) = IsValue k v
IsPart k (dotted v x) = IsValue k v × IsName x
IsPart k (viewed i found) = Unit {0}

abbrev pub IsCallee : ℕ → Callee → Type 0
IsCallee k (function_callee v) = IsValue k v
IsCallee k (method v x) = IsValue k v × IsName x
IsCallee k (view i found) = Unit {0}

pub part_later : (k l : ℕ) → k ≤ l → (p : Part) → IsPart k p → IsPart l p
part_later k l h (whole_part v) q = value_later k l h v q
part_later k l h (dotted v x) q = (value_later k l h v q.0, q.1)
part_later k l h (viewed i found) q = tt

pub callee_later : (k l : ℕ) → k ≤ l → (f : Callee) → IsCallee k f → IsCallee l f
callee_later k l h (function_callee v) q = value_later k l h v q
callee_later k l h (method v x) q = (value_later k l h v q.0, q.1)
callee_later k l h (view i found) q = tt

pub given_later : (k l : ℕ) → k ≤ l → (g : Given) → IsGiven k g → IsGiven l g
given_later k l h g p = record { plain = values_later k l h g.plain p.plain; named = record { keys = p.named.keys; values = values_later k l h (values_in g.named) p.named.values } }

pub part_s : {k : ℕ} (p : Part) → IsPart k p → Safe k IsPart (give p)
part_s {k = k} p h = give_s IsPart (λ l le. part_later k l le p h)

callee_give : {k : ℕ} (f : Callee) → IsCallee k f → Safe k IsCallee (give f)
callee_give {k = k} f h = give_s IsCallee (λ l le. callee_later k l le f h)

pub by_plain_s : {k : ℕ} (name : List ℕ) (ks : List (List ℕ × Value)) {m : M Value} → IsText name → Safe k IsValue m → Safe k IsValue (by_plain name ks m)
by_plain_s name [] t h = h
by_plain_s name (x ∷ ks) t h = bad_arguments_s name t

-- ---- `print`

print_s : {k : ℕ} (separator end : List ℕ) (vs : List Value) → AreValues k vs → Safe k IsValue (print separator end vs)
print_s separator end vs h = with_s (show_all_s vs h) (λ texts q. then_s (spend_s (length separator * (length texts - 1) + length end)) (then_s (out_s (joined separator texts ++ end)) (value_s none tt)))

print_by_s : {k : ℕ} (ks : List (List ℕ × Value)) (separator end : List ℕ) (vs : List Value) → AreValues k vs → Safe k IsValue (print_by ks separator end vs)
print_by_s [] separator end vs h = print_s separator end vs h
print_by_s ((x, text cs) ∷ ks) separator end vs h = if_s (bytes_eq x (codes "sep")) (print_by_s ks cs end vs h) (if_s (bytes_eq x (codes "end")) (print_by_s ks separator cs vs h) (bad_arguments_s (codes "print") refl))
print_by_s (x ∷ ks) separator end vs h = bad_arguments_s (codes "print") refl

-- ---- builtin functions and classes

no_call_s : {k : ℕ} (o : Option Call) (vs : List Value) → Maybe CallSafe o → AreValues k vs → Safe k IsValue (or_no_call o vs)
no_call_s {k = k} (Some f) vs h a = h k vs a
no_call_s None vs h a = bad_arguments_s [] refl

pub call_builtin_s : {k : ℕ} (m : ℕ) (g : Given) → IsGiven k g → Safe k IsValue (call_builtin m g)
call_builtin_s m g h = if_s (m == print_number) (print_by_s g.named (codes " ") (line_feed ∷ []) g.plain h.plain)
    (by_plain_s (builtin_name m) g.named (text_builtin m) (no_call_s (slice_get (builtin_calls print_plain) m) g.plain (each_get CallSafe (builtin_calls print_plain) m (builtins_safe print_plain (λ k vs a. print_s (codes " ") (line_feed ∷ []) vs a))) h.plain))

new_object_s : {k : ℕ} (g : Given) → AreAttributes k g.named → Safe k IsValue (new_object g)
new_object_s {k = k} g h = if_s (length g.plain == 0) (make_s (object g.named) (object_node k g.named h) (λ p. tt)) (bad_arguments_s (class_name namespace_class) (text_class namespace_class))

pub construct_s : {k : ℕ} (m : ℕ) (g : Given) → IsGiven k g → Safe k IsValue (construct m g)
construct_s m g h = if_s (m == namespace_class) (new_object_s g h.named)
    (by_plain_s (class_name m) g.named (text_class m) (when_s (is_exception_class m) (λ e. make_s (exception m g.plain) (e, h.plain) (λ p. tt)) (λ e. no_call_s (slice_get (class_calls empty_object) m) g.plain (each_get CallSafe (class_calls empty_object) m (classes_safe empty_object (λ k vs a. new_object_s (record { plain = vs; named = [] }) (record { keys = record { each = tt; apart = tt }; values = tt })))) h.plain)))

pub not_callable_s : {A : Type 0} {k : ℕ} {Q : ℕ → A → Type 0} (v : Value) → Safe k Q (not_callable v)
not_callable_s v = kind_raise v _ (λ c. in_quotes c ++ codes " object is not callable") refl (λ c q. scalars_append (in_quotes c) (codes " object is not callable") (text_in_quotes c q) refl)

-- ---- before the call

view_is_name : (found : View) → IsName (view_name found)
unfolding reserved_words
view_is_name keys = refl
view_is_name values = refl
view_is_name items = refl

pub settled_s : {k : ℕ} (p : Part) → IsPart k p → Safe k IsValue (settled p)
settled_s (whole_part v) h = value_s v h
settled_s (dotted v x) h = attribute_s v x h.1
settled_s (viewed i found) h = no_attribute_s (node i) (view_name found) (view_is_name found)

method_of_s : {k : ℕ} (v : Value) (x : List ℕ) → IsValue k v → IsName x → Safe k IsCallee (method_of v x)
method_of_s v x h n = plain_s (look_any (λ ns. has_method ns v x)) (λ b. if_s b (callee_give (method v x) (h, n)) (no_attribute_s v x n))

dict_callee_s : {k : ℕ} (i : ℕ) (x : List ℕ) (o : Option View) → IsValue k (node i) → IsName x → Safe k IsCallee (dict_callee i x o)
dict_callee_s i x (Some found) h n = callee_give (view i found) tt
dict_callee_s i x None h n = method_of_s (node i) x h n

node_callee_s : {k : ℕ} (i : ℕ) (x : List ℕ) (found : Option View) (o : Option Node) → IsValue k (node i) → IsName x → Safe k IsCallee (node_callee i x found o)
node_callee_s i x found (Some (object es)) h n = bind_s (attribute_s (node i) x n) (λ l le v q. callee_give (function_callee v) q)
node_callee_s i x found (Some (dict es)) h n = dict_callee_s i x found h n
node_callee_s i x found o h n = method_of_s (node i) x h n

dotted_callee_s : {k : ℕ} (v : Value) (x : List ℕ) (found : Option View) → IsValue k v → IsName x → Safe k IsCallee (dotted_callee v x found)
dotted_callee_s {k = k} (node i) x found h n = bind_s (node_now_s (node i)) (λ l le o q. node_callee_s i x found o (value_later k l le (node i) h) n)
dotted_callee_s v x found h n = method_of_s v x h n

pub callee_s : {k : ℕ} (p : Part) (es : Arguments) → IsPart k p → Safe k IsCallee (callee p es)
callee_s (dotted v x) es h = dotted_callee_s v x (view_in x es) h.0 h.1
callee_s (whole_part v) es h = callee_give (function_callee v) h
callee_s (viewed i found) es h = no_attribute_s (node i) (view_name found) (view_is_name found)
