-- What is left of the lists of a tree: the first, and the rest.
use Rattle.std.proofs.Common.{◌≡◌, ◌∙◌, refl, ap, sym, subst, arith, ℕ, zero, suc, ◌+◌, ◌≤◌, ◌<◌, List, [], ◌∷◌, ◌++◌, map, length, drop, get_or, add-one, Option, Some, None, Result, IsTrue}
use Rattle.std.proofs.Math.Nat.{le-max_left, le-max_right}
use Rattle.std.proofs.lemmas.List.{append-nil, drop_all}
use Rattle.std.specs.Prelude.{if◌then◌else◌, is_some}
use Rattle.std.specs.declared.alloc.Global.{Global}
use Rattle.std.specs.declared.rc.RcStr.{RcStr}
use Rattle.std.specs.Rc.{rc_str_bytes}
use Rattle.kishu_language.specs.declared.tree.Expr.{Expr}
use Rattle.kishu_language.specs.declared.tree.Trailer as rust_trailer
use Rattle.kishu_language.specs.trees.Tree.{Expression, Expressions, no_expressions, more_expressions, Parameter, Text, expression_of, parameter_of, value_of as tree_value}
use Rattle.kishu_language.specs.trees.Tree as tree
use Rattle.kishu_meaning.specs.items.Walks.{unpacked}
use Rattle.kishu_language.specs.trees.Height.{of_expression, of_expressions, of_optional, of_parameters}
use Rattle.kishu_language.specs.trees.Fits.{ExpressionFits, ExpressionsFit, OptionalFits, ParametersFit}
use Rattle.std.specs.List.{list_all}
use Rattle.kishu_language.specs.grammar.Targets.{is_target, are_targets}
use Rattle.kishu_items.specs.Holding.{both, first, second}
use Rattle.kishu_meaning.specs.values.Sound.{with_default}
use Rattle.kishu_meaning.specs.values.Values.{Value, value_of}
use Rattle.kishu_meaning.specs.declared.value.Value as rust
use Rattle.kishu_meaning.specs.moments.Moment.{Moment, Ends, fine, raised, stopped, M, and_then, give, tick, deeper, ◌>>=◌}
use Rattle.kishu_meaning.specs.cells.Meaning.{Calls, expr, store, store_each, defaults, nodes, nodes_before_last}
use Rattle.kishu_language.specs.trees.Parts.{expressions_of, trailers_of}
use Rattle.kishu_items.specs.Gathering.{dropped}
use Rattle.kishu_machine.specs.declared.fault.Fault.{Fault}
use Rattle.kishu_machine.specs.Machine.{Fails, Gives}
use Rattle.kishu_machine.specs.Composing.{fails_on, gives_on}
use Rattle.kishu_statements.proofs.Lists.{behind}
use Rattle.kishu_statements.proofs.Chains.{count_is}

-- ---- trailers

nodes_on : (ts : List rust_trailer.Trailer) (i : ℕ) (s u : Moment) → i < length ts → tick s ≡ fine tt u → nodes (trailers_of (drop i ts)) s ≡ nodes (trailers_of (drop (suc i) ts)) u
nodes_on [] i s u h g = absurd (omega (arith, h))
nodes_on (t ∷ ts) zero s u h g = ap (λ (x : Ends (Unit {0})). and_then x (λ _. nodes (trailers_of ts))) g
nodes_on (t ∷ ts) (suc i) s u h g = nodes_on ts i s u (omega (arith, h)) g

pub nodes_next : (ts : List rust_trailer.Trailer) (i : ℕ) (s u : Moment) → i < length ts → tick s ≡ fine tt u → nodes (trailers_of (drop i ts)) s ≡ nodes (trailers_of (drop (i + 1) ts)) u
nodes_next ts i s u h g = rw add-one (nodes_on ts i s u h g)

pub nodes_fail : (ts : List rust_trailer.Trailer) (i : ℕ) (f : Fault) (s u : Moment) → i < length ts → Fails f u (tick s) → Fails f u (nodes (trailers_of (drop i ts)) s)
nodes_fail [] i f s u h g = absurd (omega (arith, h))
nodes_fail (t ∷ ts) zero f s u h g = fails_on (λ (_ : Unit {0}). nodes (trailers_of ts)) f u (tick s) g
nodes_fail (t ∷ ts) (suc i) f s u h g = nodes_fail ts i f s u (omega (arith, h)) g

-- ---- expressions, each with its value

module _ (calls : Calls) (es : List Expr) (v : Value) (s : Moment) where
  abbrev after_unpacked : List Value → M (Unit {0})
  after_unpacked vs = store_each calls (expressions_of es) vs

  pattern_is : store calls (tree.tuple (expressions_of es)) v s ≡ and_then (unpacked (length es) v s) after_unpacked
  pattern_is = ap (λ (n : ℕ). and_then (unpacked n v s) after_unpacked) (count_is es)

  pub pattern_fails : (f : Fault) (t : Moment) → Fails f t (unpacked (length es) v s) → Fails f t (store calls (tree.tuple (expressions_of es)) v s)
  pattern_fails f t h = subst (λ (x : Ends (Unit {0})). Fails f t x) (sym pattern_is) (fails_on after_unpacked f t (unpacked (length es) v s) h)

  pub pattern_gives : (r : Result (Unit {0}) Fault) (vs : List Value) (t u : Moment) → unpacked (length es) v s ≡ fine vs t → Gives (λ (u : Unit {0}). u) r u (store_each calls (expressions_of es) vs t) → Gives (λ (u : Unit {0}). u) r u (store calls (tree.tuple (expressions_of es)) v s)
  pattern_gives r vs t u h k = subst (λ (x : Ends (Unit {0})). Gives (λ (u : Unit {0}). u) r u x) (sym pattern_is) (gives_on after_unpacked (λ (u : Unit {0}). u) r vs t u (unpacked (length es) v s) h k)

module _ (es : List Expr) (i : ℕ) (e : Expr) (h : i < length es) (is : e ≡ get_or es i e) where
  expressions_next : expressions_of (drop i es) ≡ more_expressions (expression_of e) (expressions_of (drop (i + 1) es))
  expressions_next = ap expressions_of (dropped es i e h is)

  pub expressions_low : (of_expression (expression_of e) ≤ of_expressions (expressions_of (drop i es))) × (of_expressions (expressions_of (drop (i + 1) es)) ≤ of_expressions (expressions_of (drop i es)))
  expressions_low =
      let a = of_expression (expression_of e) in
      let b = of_expressions (expressions_of (drop (i + 1) es)) in
      subst (λ (x : Expressions). (a ≤ of_expressions x) × (b ≤ of_expressions x)) (sym expressions_next) (le-max_left a b, le-max_right a b)

  pub expressions_fit : ExpressionsFit (expressions_of (drop i es)) → ExpressionFits (expression_of e) × ExpressionsFit (expressions_of (drop (i + 1) es))
  expressions_fit f = subst (λ (x : Expressions). ExpressionsFit x) expressions_next f

  module _ (vs : List rust.Value) (calls : Calls) (s : Moment) where
    module _ (v : rust.Value) (k : i < length vs) (at : v ≡ get_or vs i v) where
      stores : store_each calls (expressions_of (drop i es)) (map value_of (drop i vs)) s ≡ and_then (store calls (expression_of e) (value_of v) s) (λ _. store_each calls (expressions_of (drop (i + 1) es)) (map value_of (drop (i + 1) vs)))
      stores =
          ap (λ (x : Expressions). store_each calls x (map value_of (drop i vs)) s) expressions_next
          ∙ ap (λ (x : List rust.Value). store_each calls (more_expressions (expression_of e) (expressions_of (drop (i + 1) es))) (map value_of x) s) (dropped vs i v k at)

      pub stored : (t : Moment) → store calls (expression_of e) (value_of v) s ≡ fine tt t → store_each calls (expressions_of (drop i es)) (map value_of (drop i vs)) s ≡ store_each calls (expressions_of (drop (i + 1) es)) (map value_of (drop (i + 1) vs)) t
      stored t g = stores ∙ ap (λ (x : Ends (Unit {0})). and_then x (λ _. store_each calls (expressions_of (drop (i + 1) es)) (map value_of (drop (i + 1) vs)))) g

      pub store_fails : (f : Fault) (t : Moment) → Fails f t (store calls (expression_of e) (value_of v) s) → Fails f t (store_each calls (expressions_of (drop i es)) (map value_of (drop i vs)) s)
      store_fails f t g = subst (λ (x : Ends (Unit {0})). Fails f t x) (sym stores) (fails_on (λ (_ : Unit {0}). store_each calls (expressions_of (drop (i + 1) es)) (map value_of (drop (i + 1) vs))) f t (store calls (expression_of e) (value_of v) s) g)

none_stored : (calls : Calls) (es : Expressions) (s : Moment) → store_each calls es [] s ≡ fine tt s
none_stored calls no_expressions s = refl
none_stored calls (more_expressions e es) s = refl

pub store_ends : (calls : Calls) (es : Expressions) (vs : List rust.Value) (i : ℕ) (s : Moment) → length vs ≤ i → store_each calls es (map value_of (drop i vs)) s ≡ fine tt s
store_ends calls es vs i s h = ap (λ (x : List rust.Value). store_each calls es (map value_of x) s) (drop_all i vs h) ∙ none_stored calls es s

none_left : (calls : Calls) (vs : List Value) (s : Moment) → store_each calls no_expressions vs s ≡ fine tt s
none_left calls [] s = refl
none_left calls (v ∷ vs) s = refl

pub targets_end : (calls : Calls) (es : List Expr) (i : ℕ) (vs : List Value) (s : Moment) → length es ≤ i → store_each calls (expressions_of (drop i es)) vs s ≡ fine tt s
targets_end calls es i vs s h = ap (λ (x : List Expr). store_each calls (expressions_of x) vs s) (drop_all i es h) ∙ none_left calls vs s

down : (es : List Expr) (i : ℕ) → of_expressions (expressions_of (drop (suc i) es)) ≤ of_expressions (expressions_of (drop i es))
down [] zero = omega arith
down [] (suc i) = omega arith
down (e ∷ es) zero = le-max_right (of_expression (expression_of e)) (of_expressions (expressions_of es))
down (e ∷ es) (suc i) = down es i

fit_down : (es : List Expr) (i : ℕ) → ExpressionsFit (expressions_of (drop i es)) → ExpressionsFit (expressions_of (drop (suc i) es))
fit_down [] zero f = f
fit_down [] (suc i) f = f
fit_down (e ∷ es) zero f = f.1
fit_down (e ∷ es) (suc i) f = fit_down es i f

pub rest_low : (es : List Expr) (i : ℕ) → of_expressions (expressions_of (drop (i + 1) es)) ≤ of_expressions (expressions_of (drop i es))
rest_low es i = rw add-one (down es i)

pub rest_fits : (es : List Expr) (i : ℕ) → ExpressionsFit (expressions_of (drop i es)) → ExpressionsFit (expressions_of (drop (i + 1) es))
rest_fits es i f = rw add-one (fit_down es i f)

-- ---- targets

module _ (es : List Expr) (i : ℕ) (e : Expr) (h : i < length es) (is : e ≡ get_or es i e) where
  pub targets_here : IsTrue (list_all is_target (map expression_of (drop i es))) → IsTrue (is_target (expression_of e)) × IsTrue (list_all is_target (map expression_of (drop (i + 1) es)))
  targets_here f = let found = subst (λ (x : List Expr). IsTrue (list_all is_target (map expression_of x))) (dropped es i e h is) f in (first (is_target (expression_of e)) _ found, second (is_target (expression_of e)) _ found)

targets_down : (es : List Expr) (i : ℕ) → IsTrue (list_all is_target (map expression_of (drop i es))) → IsTrue (list_all is_target (map expression_of (drop (suc i) es)))
targets_down [] zero f = f
targets_down [] (suc i) f = f
targets_down (e ∷ es) zero f = second (is_target (expression_of e)) _ f
targets_down (e ∷ es) (suc i) f = targets_down es i f

pub targets_rest : (es : List Expr) (i : ℕ) → IsTrue (list_all is_target (map expression_of (drop i es))) → IsTrue (list_all is_target (map expression_of (drop (i + 1) es)))
targets_rest es i f = rw add-one (targets_down es i f)

-- each of several targets is one, and there is one
pub targets_are : (es : List Expr) → IsTrue (are_targets (expressions_of es)) → IsTrue (list_all is_target (map expression_of es)) × (1 ≤ length es)
targets_are [] f = absurd cc
targets_are (e ∷ []) f = (both (is_target (expression_of e)) _ f refl, omega arith)
targets_are (e ∷ d ∷ es) f = let rest = targets_are (d ∷ es) (second (is_target (expression_of e)) _ f) in (both (is_target (expression_of e)) _ (first (is_target (expression_of e)) _ f) rest.0, omega arith)

-- ---- parameters

module _ (ps : List (RcStr Global × Option Expr)) (i : ℕ) (p : RcStr Global × Option Expr) (h : i < length ps) (is : p ≡ get_or ps i p) where
  parameters_next : map parameter_of (drop i ps) ≡ parameter_of p ∷ map parameter_of (drop (i + 1) ps)
  parameters_next = ap (map parameter_of) (dropped ps i p h is)

  pub parameters_low : (of_optional (tree_value p.1) ≤ of_parameters (map parameter_of (drop i ps))) × (of_parameters (map parameter_of (drop (i + 1) ps)) ≤ of_parameters (map parameter_of (drop i ps)))
  parameters_low =
      let a = of_optional (tree_value p.1) in
      let b = of_parameters (map parameter_of (drop (i + 1) ps)) in
      subst (λ (x : List Parameter). (a ≤ of_parameters x) × (b ≤ of_parameters x)) (sym parameters_next) (le-max_left a b, le-max_right a b)

  pub parameters_fit : ParametersFit (map parameter_of (drop i ps)) → OptionalFits (tree_value p.1) × ParametersFit (map parameter_of (drop (i + 1) ps))
  parameters_fit f = let found = subst (λ (x : List Parameter). ParametersFit x) parameters_next f in (found.1, found.2)

module _ (calls : Calls) (x : Text) (e : Expression) (ps : List Parameter) (before : List Value) (s : Moment) where
  pub defaults_on : (v : Value) (t : Moment) → deeper (expr calls e) s ≡ fine v t → and_then (defaults calls ((x, Some e) ∷ ps) s) (λ vs. give (before ++ vs)) ≡ and_then (defaults calls ps t) (λ vs. give ((before ++ v ∷ []) ++ vs))
  defaults_on v t h = ap (λ (y : Ends Value). and_then (and_then y (λ w s1. and_then (defaults calls ps s1) (λ vs. give (w ∷ vs)))) (λ vs. give (before ++ vs))) h ∙ behind before v (defaults calls ps t)

module _ (ps : List (RcStr Global × Option Expr)) (i : ℕ) (p : RcStr Global × Option Expr) (h : i < length ps) (is : p ≡ get_or ps i p) where
  module _ (none : p.1 ≡ None) where
    without_next : map parameter_of (drop i ps) ≡ (rc_str_bytes p.0, None) ∷ map parameter_of (drop (i + 1) ps)
    without_next = parameters_next ps i p h is ∙ ap (λ (o : Option Expr). (rc_str_bytes p.0, tree_value o) ∷ map parameter_of (drop (i + 1) ps)) none

    pub without_default : (calls : Calls) (before : List Value) (s : Moment) → and_then (defaults calls (map parameter_of (drop i ps)) s) (λ vs. give (before ++ vs)) ≡ and_then (defaults calls (map parameter_of (drop (i + 1) ps)) s) (λ vs. give (before ++ vs))
    without_default calls before s = ap (λ (x : List Parameter). and_then (defaults calls x s) (λ vs. give (before ++ vs))) without_next

    pub without_count : with_default (map parameter_of (drop i ps)) ≡ with_default (map parameter_of (drop (i + 1) ps))
    without_count = let same = ap with_default without_next in omega (arith, same)

  module _ (e : Expr) (some : p.1 ≡ Some e) where
    with_next : map parameter_of (drop i ps) ≡ (rc_str_bytes p.0, Some (expression_of e)) ∷ map parameter_of (drop (i + 1) ps)
    with_next = parameters_next ps i p h is ∙ ap (λ (o : Option Expr). (rc_str_bytes p.0, tree_value o) ∷ map parameter_of (drop (i + 1) ps)) some

    pub with_count : with_default (map parameter_of (drop i ps)) ≡ 1 + with_default (map parameter_of (drop (i + 1) ps))
    with_count = ap with_default with_next

    module _ (calls : Calls) (before : List Value) (s t : Moment) where
      abbrev after_these : List Value → M (List Value)
      after_these vs = give (before ++ vs)

      pub with_value : (v : Value) → deeper (expr calls (expression_of e)) s ≡ fine v t → and_then (defaults calls (map parameter_of (drop i ps)) s) after_these ≡ and_then (defaults calls (map parameter_of (drop (i + 1) ps)) t) (λ vs. give ((before ++ v ∷ []) ++ vs))
      with_value v g = ap (λ (x : List Parameter). and_then (defaults calls x s) after_these) with_next ∙ defaults_on calls (rc_str_bytes p.0) (expression_of e) (map parameter_of (drop (i + 1) ps)) before s v t g
