-- What is called by a name behind a value, and the names of methods.
use Rattle.std.proofs.Common.{arith, ◌≡◌, refl, subst, sym, ℕ, Bool, true, false, cond, IsTrue, List, [], ◌∷◌, length, Option, Some, None}
use Rattle.std.specs.Prelude.{is_some, slice_get, ◌==◌}
use Rattle.std.specs.Rc.{rc_str_bytes}
use Rattle.std.specs.declared.alloc.Global.{Global}
use Rattle.std.specs.declared.rc.RcStr.{RcStr}
use Rattle.std.proofs.lemmas.Bool.Decides.{nat_tests}
use Rattle.std.proofs.lemmas.List.{length-map}
use Rattle.std.specs.Str.{bytes_eq}
use Rattle.std.proofs.lemmas.Slice.Eq.{bytes_eq-Decides}
use Rattle.kishu_meaning.specs.calls.Callees.{Callee, function, method, dict_callee, node_callee, dotted_callee, method_of, by_plain, view_in}
use Rattle.kishu_meaning.specs.values.Kinds.{bad_arguments, no_attribute}
use Rattle.kishu_meaning.specs.calls.Methods as m
use Rattle.kishu_meaning.specs.calls.Methods.{Method, method_name, method_named, methods_in, has_method, call_method}
use Rattle.kishu_meaning.specs.moments.Moment.{Moment, M, fine, ◌>>=◌, give, or_else, node_at}
use Rattle.kishu_meaning.specs.items.Subscripts.{attribute}
use Rattle.kishu_meaning.specs.values.Values.{Value, none, bool, integer, text, range, builtin, class, node, Node, list, tuple, dict, object, exception}
use Rattle.kishu_meaning.specs.values.Values as v
use Rattle.kishu_meaning.specs.values.Values.{value_of}
use Rattle.kishu_language.specs.declared.tree.Argument as rust_argument
use Rattle.kishu_meaning.specs.declared.value.Value as rust
use Rattle.kishu_meaning.specs.items.Walks.{View}
use Rattle.kishu_items.specs.Messages.{is_plain}
use Rattle.kishu_calls.specs.Calls.{named_of}
use Rattle.kishu_calls.specs.Forms.{view_at, viewed_or}
use Rattle.kishu_language.specs.trees.Parts.{arguments_of}
use Rattle.kishu_access.specs.Forms.{is_object, number_if_dict, dict_number}

-- ---- an attribute, a view or a method

module _ (i : ℕ) (x : List ℕ) (found : Option View) (s : Moment) where
  object_node : (o : Option Node) → is_object o ≡ true → node_callee i x found o s ≡ (attribute (node i) x >>= λ w. give (function w)) s
  object_node (Some (object as')) h = refl
  object_node (Some (list vs)) h = absurd cc
  object_node (Some (tuple vs)) h = absurd cc
  object_node (Some (dict es)) h = absurd cc
  object_node (Some (v.function profile code vs)) h = absurd cc
  object_node (Some (exception kind vs)) h = absurd cc
  object_node None h = absurd cc

pub object_called : (w : Value) (x : List ℕ) (found : Option View) (s : Moment) → is_object (node_at s.nodes w) ≡ true → dotted_callee w x found s ≡ (attribute w x >>= λ w. give (function w)) s
object_called (node i) x found s h = object_node i x found s (slice_get s.nodes i) h
object_called none x found s h = absurd cc
object_called (bool b) x found s h = absurd cc
object_called (integer z) x found s h = absurd cc
object_called (text cs) x found s h = absurd cc
object_called (range a b c) x found s h = absurd cc
object_called (builtin n) x found s h = absurd cc
object_called (class n) x found s h = absurd cc

dict_node : (i : ℕ) (x : List ℕ) (found : Option View) (s : Moment) → dict_callee i x found s ≡ viewed_or (view_at (Some i) found) (method_of (node i) x) s
dict_node i x (Some w) s = refl
dict_node i x None s = refl

module _ (i : ℕ) (x : List ℕ) (found : Option View) (s : Moment) where
  other_node : (o : Option Node) → is_object o ≡ false → node_callee i x found o s ≡ viewed_or (view_at (number_if_dict i o) found) (method_of (node i) x) s
  other_node (Some (object as')) h = absurd cc
  other_node (Some (list vs)) h = refl
  other_node (Some (tuple vs)) h = refl
  other_node (Some (dict es)) h = dict_node i x found s
  other_node (Some (v.function profile code vs)) h = refl
  other_node (Some (exception kind vs)) h = refl
  other_node None h = refl

pub other_called : (w : Value) (x : List ℕ) (found : Option View) (s : Moment) → is_object (node_at s.nodes w) ≡ false → dotted_callee w x found s ≡ viewed_or (view_at (dict_number s.nodes w) found) (method_of w x) s
other_called (node i) x found s h = other_node i x found s (slice_get s.nodes i) h
other_called none x found s h = refl
other_called (bool b) x found s h = refl
other_called (integer z) x found s h = refl
other_called (text cs) x found s h = refl
other_called (range a b c) x found s h = refl
other_called (builtin n) x found s h = refl
other_called (class n) x found s h = refl

-- ---- the names of methods

name_plain : (method : Method) → IsTrue (is_plain (method_name method))
name_plain m.append = refl
name_plain m.clear = refl
name_plain m.copy = refl
name_plain m.count = refl
name_plain m.endswith = refl
name_plain m.extend = refl
name_plain m.find = refl
name_plain m.get = refl
name_plain m.index = refl
name_plain m.insert = refl
name_plain m.isdigit = refl
name_plain m.join = refl
name_plain m.pop = refl
name_plain m.remove = refl
name_plain m.replace = refl
name_plain m.reverse = refl
name_plain m.setdefault = refl
name_plain m.sort = refl
name_plain m.split = refl
name_plain m.startswith = refl
name_plain m.strip = refl
name_plain m.update = refl

either_plain : (x : List ℕ) (method : Method) (rest : Option Method) (b : Bool) → bytes_eq x (method_name method) ≡ b → (is_some rest ≡ true → IsTrue (is_plain x)) → is_some (cond b (Some method) rest) ≡ true → IsTrue (is_plain x)
either_plain x which rest true e h k = subst (λ (y : List ℕ). IsTrue (is_plain y)) (sym ((bytes_eq-Decides x (method_name which)).0 e)) (name_plain which)
either_plain x which rest false e h k = h k

named_plain : (x : List ℕ) (methods : List Method) → is_some (method_named x methods) ≡ true → IsTrue (is_plain x)
named_plain x [] h = absurd cc
named_plain x (which ∷ methods) h = either_plain x which (method_named x methods) (bytes_eq x (method_name which)) refl (named_plain x methods) h

pub method_plain : (ns : List Node) (w : Value) (x : List ℕ) → has_method ns w x ≡ true → IsTrue (is_plain x)
method_plain ns w x h = named_plain x (methods_in ns w) h

-- ---- methods that aren't there

without : (w : Value) (x : List ℕ) (args : List Value) (s : Moment) (o : Option Method) → is_some o ≡ false → (or_else (no_attribute w x) o >>= λ method. m.value_row method w args) s ≡ no_attribute {A = Value} w x s
without w x args s (Some which) h = absurd cc
without w x args s None h = refl

pub no_method : (w : Value) (x : List ℕ) (args : List Value) (s : Moment) → has_method s.nodes w x ≡ false → call_method w x args s ≡ no_attribute {A = Value} w x s
no_method w x args s h = without w x args s (method_named x (methods_in s.nodes w)) h

-- ---- keywords where none are taken

pub some_named : (name : List ℕ) (named : List (List ℕ × Value)) (o : M Value) (s : Moment) → (length named ≡ 0 → ⊥) → by_plain name named o s ≡ bad_arguments {A = Value} name s
some_named name [] o s h = absurd (h refl)
some_named name (k ∷ ks) o s h = refl

pub none_named : (name : List ℕ) (named : List (List ℕ × Value)) (o : M Value) (s : Moment) → length named ≡ 0 → by_plain name named o s ≡ o s
none_named name [] o s h = refl
none_named name (k ∷ ks) o s h = absurd (omega arith)

module _ (items : List (RcStr Global × rust.Value)) (many : ℕ) (b : Bool) (l : many ≡ length items) (e : b ≡ (many == 0)) where
  same_many : length (named_of items) ≡ length items
  same_many = length-map items (λ k. (rc_str_bytes k.0, value_of k.1))

  pub named_there : b ≡ false → length (named_of items) ≡ 0 → ⊥
  named_there h z = (let m : many ≡ 0 = omega (arith, l, z, same_many) in grind (arith, nat_tests))

  pub named_gone : b ≡ true → length (named_of items) ≡ 0
  named_gone h = (let m : many ≡ 0 = grind (arith, nat_tests) in omega (arith, l, m, same_many))

-- ---- a method before it is called

pub has_called : (w : Value) (x : List ℕ) (s : Moment) → has_method s.nodes w x ≡ true → method_of w x s ≡ fine (method w x) s
has_called w x s h = rw h refl

pub not_called : (w : Value) (x : List ℕ) (s : Moment) → has_method s.nodes w x ≡ false → method_of w x s ≡ no_attribute {A = Callee} w x s
not_called w x s h = rw h refl

-- ---- a view takes no arguments

pub no_view : (x : List ℕ) (given : List rust_argument.Argument) (b : Bool) → b ≡ (length given == 0) → b ≡ false → None ≡ view_in x (arguments_of given)
no_view x [] b e h = absurd (cc)
no_view x (a ∷ given) b e h = refl

-- ---- what `grind` takes

pub ruleset dotted_rules = (object_called, other_called)

pub ruleset keyword_rules = (some_named, none_named)
