-- What is called, and what it is given, on both sides.
use Rattle.std.specs.Prelude.{List, ℕ, length, ◌+◌, ◌*◌, ◌-◌, ◌++◌, codes, ◌∷◌, Option, ◌==◌, [], if◌then◌else◌, Some, None}
use Rattle.std.specs.Str.{bytes_eq}
use Rattle.std.proofs.Common.{subst}
use Rattle.kishu_language.specs.tokens.Lines.{line_feed}
use Rattle.kishu_language.specs.trees.Tree.{Arguments}
use Rattle.kishu_meaning.specs.calls.Builtins.{Call}
use Rattle.kishu_meaning.specs.calls.Callees as c
use Rattle.kishu_meaning.specs.calls.Callees.{Given, Part, whole as whole_part, dotted, view, viewed, Callee, function as function_callee, method, by_plain, print, print_by, or_no_call, call_builtin, print_number, print_plain, new_object, construct, empty_object, not_callable, settled, method_of, dict_callee, node_callee, dotted_callee, callee, view_in, whole}
use Rattle.kishu_meaning.specs.comparing.Show.{builtin_name, class_name}
use Rattle.kishu_meaning.specs.items.Walks.{View, view_name}
use Rattle.kishu_meaning.specs.moments.Moment.{M, make}
use Rattle.kishu_meaning.specs.values.Classes.{namespace_class}
use Rattle.kishu_meaning.specs.values.Kinds.{bad_arguments, in_quotes}
use Rattle.kishu_meaning.specs.values.Sound.{is_exception_class}
use Rattle.kishu_meaning.specs.values.Texts.{joined}
use Rattle.kishu_meaning.specs.values.Values.{Value, none, text, node, object, Node}
use Rattle.kishu_pairing_laws.specs.World.{World, plain, SameValues, SameEntries, SameValue, Paired, GoQuietly, nil, cons, paired, BothOrNeither, neither, both, objects, exceptions, SameNode, lists, tuples, dicts, functions, IsPlain}
use Rattle.kishu_pairing_laws.specs.moments.Steps.{bind_is, then_quiet, spend_quiet, put_out_quiet, give_quiet, cond_quiet, bind_quiet}
use Rattle.kishu_pairing_laws.specs.values.Lists.{zip_get, zip_length}
use Rattle.kishu_pairing_laws.specs.moments.Heap.{make_quiet, node_now_quiet}
use Rattle.kishu_pairing_laws.specs.values.Kinds.{bad_arguments_quiet, by_kind, no_attribute_quiet}
use Rattle.kishu_pairing_laws.specs.comparing.Show.{show_all_quiet}
use Rattle.kishu_pairing_laws.specs.items.Subscripts.{attribute_quiet}
use Rattle.kishu_pairing_laws.specs.Itself.{itself, one_list, one_entries, one_value, one_pair}
use Rattle.kishu_pairing_laws.specs.calls.Methods.{has_method_quiet}
use Rattle.kishu_pairing_laws.specs.calls.Builtins.{SameCall, builtin_calls_same, class_calls_same}

pub record SameGiven (W : World) (g h : Given) : Type 0 where
  pub plain : SameValues W g.plain h.plain
  pub named : SameEntries W g.named h.named

pub data SamePart (W : World) : Part → Part → Type 0 where
  both_whole : {v w : Value} → SameValue W v w → SamePart W (whole_part v) (whole_part w)
  both_dotted : {v w : Value} (x : List ℕ) → SameValue W v w → SamePart W (dotted v x) (dotted w x)
  both_viewed : {i j : ℕ} (view : View) → Paired W i j → SamePart W (viewed i view) (viewed j view)

pub data SameCallee (W : World) : Callee → Callee → Type 0 where
  function_callees : {v w : Value} → SameValue W v w → SameCallee W (function_callee v) (function_callee w)
  methods : {v w : Value} (x : List ℕ) → SameValue W v w → SameCallee W (method v x) (method w x)
  views : {i j : ℕ} (found : View) → Paired W i j → SameCallee W (view i found) (view j found)

module _ (W : World) where
  pub by_plain_quiet : (name : List ℕ) {ks ls : List (List ℕ × Value)} {m n : M Value} → SameEntries W ks ls → GoQuietly W (SameValue W) m n → GoQuietly W (SameValue W) (by_plain name ks m) (by_plain name ls n)
  by_plain_quiet name nil mn = mn
  by_plain_quiet name (cons h z) mn = bad_arguments_quiet W name

  -- ---- `print`

  print_quiet : (separator end : List ℕ) {vs ws : List Value} → SameValues W vs ws → GoQuietly W (SameValue W) (print separator end vs) (print separator end ws)
  print_quiet separator end z = bind_is W (show_all_quiet W z) (λ texts. then_quiet W (spend_quiet W (length separator * (length texts - 1) + length end)) (then_quiet W (put_out_quiet W (joined separator texts ++ end)) (give_quiet W (plain none tt))))

  -- by one keyword, where the further ones are done by what is given
  print_first : (x separator end : List ℕ) (ks ls : List (List ℕ × Value)) (vs ws : List Value) {v w : Value} → SameValue W v w → ((a b : List ℕ) → GoQuietly W (SameValue W) (print_by ks a b vs) (print_by ls a b ws)) → GoQuietly W (SameValue W) (print_by ((x, v) ∷ ks) separator end vs) (print_by ((x, w) ∷ ls) separator end ws)
  print_first x separator end ks ls vs ws (plain (text cs) p) h = cond_quiet W (bytes_eq x (codes "sep")) (h cs end) (cond_quiet W (bytes_eq x (codes "end")) (h separator cs) (bad_arguments_quiet W (codes "print")))
  print_first x separator end ks ls vs ws (plain (node i) p) h = absurd p
  print_first x separator end ks ls vs ws (plain v p) h = bad_arguments_quiet W (codes "print")
  print_first x separator end ks ls vs ws (paired i j p) h = bad_arguments_quiet W (codes "print")

  print_by_quiet : {ks ls : List (List ℕ × Value)} {vs ws : List Value} → SameEntries W ks ls → SameValues W vs ws → (separator end : List ℕ) → GoQuietly W (SameValue W) (print_by ks separator end vs) (print_by ls separator end ws)
  print_by_quiet nil z separator end = print_quiet separator end z
  print_by_quiet {vs = vs} {ws = ws} (cons {a = k} {b = l} {as' = ks} {bs = ls} h n) z separator end =
      subst (λ y. GoQuietly W (SameValue W) (print_by (k ∷ ks) separator end vs) (print_by ((y, l.1) ∷ ls) separator end ws)) h.0 (print_first k.0 separator end ks ls vs ws h.1 (λ a b. print_by_quiet n z a b))

  -- ---- builtin functions and classes

  no_call_quiet : {o p : Option Call} {vs ws : List Value} → BothOrNeither (SameCall W) o p → SameValues W vs ws → GoQuietly W (SameValue W) (or_no_call o vs) (or_no_call p ws)
  no_call_quiet neither z = bad_arguments_quiet W []
  no_call_quiet (both h) z = h _ _ z

  pub call_builtin_quiet : (n : ℕ) {g h : Given} → SameGiven W g h → GoQuietly W (SameValue W) (call_builtin n g) (call_builtin n h)
  call_builtin_quiet n gh = cond_quiet W (n == print_number) (print_by_quiet gh.named gh.plain (codes " ") (line_feed ∷ []))
      (by_plain_quiet (builtin_name n) gh.named (no_call_quiet (zip_get n (builtin_calls_same W print_plain print_plain (λ vs ws z. print_quiet (codes " ") (line_feed ∷ []) z))) gh.plain))

  new_object_quiet : {g h : Given} → SameGiven W g h → GoQuietly W (SameValue W) (new_object g) (new_object h)
  new_object_quiet {g = g} {h = h} gh =
      subst (λ n. GoQuietly W (SameValue W) (new_object g) (if n == 0 then make (object h.named) else bad_arguments (class_name namespace_class))) (zip_length gh.plain)
      (cond_quiet W (length g.plain == 0) (make_quiet W (objects gh.named)) (bad_arguments_quiet W (class_name namespace_class)))

  pub construct_quiet : (n : ℕ) {g h : Given} → SameGiven W g h → GoQuietly W (SameValue W) (construct n g) (construct n h)
  construct_quiet n gh = cond_quiet W (n == namespace_class) (new_object_quiet gh)
      (by_plain_quiet (class_name n) gh.named (cond_quiet W (is_exception_class n) (make_quiet W (exceptions n gh.plain)) (no_call_quiet (zip_get n (class_calls_same W empty_object empty_object (λ vs ws z. new_object_quiet (record { plain = z; named = nil })))) gh.plain)))

  pub not_callable_quiet : {A B : Type 0} {R : A → B → Type 0} {v w : Value} → SameValue W v w → GoQuietly W R (not_callable v) (not_callable w)
  not_callable_quiet vw = by_kind W _ (λ k. in_quotes k ++ codes " object is not callable") vw

  -- ---- before the call

  pub settled_quiet : {p q : Part} → SamePart W p q → GoQuietly W (SameValue W) (settled p) (settled q)
  settled_quiet (both_whole vw) = give_quiet W vw
  settled_quiet (both_dotted x vw) = attribute_quiet W x vw
  settled_quiet (both_viewed found p) = no_attribute_quiet W (view_name found) (paired _ _ p)

  method_of_quiet : {v w : Value} (x : List ℕ) → SameValue W v w → GoQuietly W (SameCallee W) (method_of v x) (method_of w x)
  method_of_quiet x vw = bind_is W (has_method_quiet W x vw) (λ b. cond_quiet W b (give_quiet W (methods x vw)) (no_attribute_quiet W x vw))

  dict_callee_quiet : {i j : ℕ} (x : List ℕ) (found : Option View) → Paired W i j → GoQuietly W (SameCallee W) (dict_callee i x found) (dict_callee j x found)
  dict_callee_quiet x (Some found) p = give_quiet W (views found p)
  dict_callee_quiet x None p = method_of_quiet x (paired _ _ p)

  node_callee_quiet : {i j : ℕ} (x : List ℕ) (found : Option View) {o q : Option Node} → Paired W i j → BothOrNeither (SameNode W) o q → GoQuietly W (SameCallee W) (node_callee i x found o) (node_callee j x found q)
  node_callee_quiet x found p neither = method_of_quiet x (paired _ _ p)
  node_callee_quiet x found p (both (lists z)) = method_of_quiet x (paired _ _ p)
  node_callee_quiet x found p (both (tuples z)) = method_of_quiet x (paired _ _ p)
  node_callee_quiet x found p (both (dicts z)) = dict_callee_quiet x found p
  node_callee_quiet x found p (both (objects z)) = bind_quiet W (attribute_quiet W x (paired _ _ p)) (λ v w vw. give_quiet W (function_callees vw))
  node_callee_quiet x found p (both (functions profile code z)) = method_of_quiet x (paired _ _ p)
  node_callee_quiet x found p (both (exceptions kind z)) = method_of_quiet x (paired _ _ p)

  dotted_plain : (v : Value) → IsPlain v → (x : List ℕ) (found : Option View) → GoQuietly W (SameCallee W) (dotted_callee v x found) (dotted_callee v x found)
  dotted_plain (node i) p x found = absurd p
  dotted_plain v p x found = method_of_quiet x (plain v p)

  dotted_callee_quiet : {v w : Value} (x : List ℕ) (found : Option View) → SameValue W v w → GoQuietly W (SameCallee W) (dotted_callee v x found) (dotted_callee w x found)
  dotted_callee_quiet x found (plain v p) = dotted_plain v p x found
  dotted_callee_quiet x found (paired i j p) = bind_quiet W (node_now_quiet W (paired i j p)) (λ o q oq. node_callee_quiet x found p oq)

  pub callee_quiet : {p q : Part} (es : Arguments) → SamePart W p q → GoQuietly W (SameCallee W) (callee p es) (callee q es)
  callee_quiet es (both_dotted x vw) = dotted_callee_quiet x (view_in x es) vw
  callee_quiet es (both_whole vw) = give_quiet W (function_callees vw)
  callee_quiet es (both_viewed found p) = bind_quiet W (settled_quiet (both_viewed found p)) (λ v w vw. give_quiet W (function_callees vw))

pub one_given : (g : Given) → SameGiven itself g g
one_given g = record { plain = one_list g.plain; named = one_entries g.named }

pub one_part : (p : Part) → SamePart itself p p
one_part (whole v) = both_whole (one_value v)
one_part (dotted v x) = both_dotted x (one_value v)
one_part (viewed i found) = both_viewed found (one_pair i)

pub one_callee : (f : Callee) → SameCallee itself f f
one_callee (c.function v) = function_callees (one_value v)
one_callee (c.method v x) = methods x (one_value v)
one_callee (c.view i found) = views found (one_pair i)
