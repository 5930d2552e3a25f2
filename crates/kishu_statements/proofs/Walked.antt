-- A `for` and a `def`, part by part.
use Rattle.std.proofs.Common.{◌≡◌, ◌∙◌, ap, sym, subst, List, Result}
use Rattle.kishu_meaning.specs.values.Values.{Value, function}
use Rattle.kishu_language.specs.trees.Tree.{Text, Expression, Parameter, Statements}
use Rattle.kishu_language.specs.trees.Tree as tree
use Rattle.kishu_meaning.specs.moments.Moment.{Moment, Ends, fine, M, and_then, give, make, assign, ◌>>=◌, ◌>>◌}
use Rattle.kishu_meaning.specs.calls.Callees.{Part}
use Rattle.kishu_meaning.specs.items.Walks.{Walk}
use Rattle.kishu_meaning.specs.cells.Meaning.{Calls, expr, part, walked_by, store, act, acts, in_block, defaults, new_function}
use Rattle.kishu_meaning.specs.cells.Ways.{Flow, onward, walk_along}
use Rattle.kishu_machine.specs.declared.fault.Fault.{Fault}
use Rattle.kishu_machine.specs.Machine.{Fails, Gives}
use Rattle.kishu_machine.specs.Composing.{fails_on, gives_on}

module _ (calls : Calls) (e walked : Expression) (body : Statements) (s : Moment) where
  abbrev along : Walk → M Flow
  along walk = walk_along walk (λ v. store calls e v >> in_block body (acts calls body))

  abbrev found : Ends Part
  found = part calls walked (expr calls walked) s

  pub for_part_fails : (f : Fault) (t : Moment) → Fails f t (part calls walked (expr calls walked) s) → Fails f t (act calls (tree.for e walked body) s)
  for_part_fails f t h = fails_on along f t (and_then found (walked_by calls)) (fails_on (walked_by calls) f t found h)

  module _ (p : Part) (s1 : Moment) (h : part calls walked (expr calls walked) s ≡ fine p s1) where
    pub for_walk_fails : (f : Fault) (t : Moment) → Fails f t (walked_by calls p s1) → Fails f t (act calls (tree.for e walked body) s)
    for_walk_fails f t k = fails_on along f t (and_then found (walked_by calls)) (subst (λ (x : Ends Part). Fails f t (and_then x (walked_by calls))) (sym h) k)

    pub for_gives : {X : Type 0} (view : X → Flow) (r : Result X Fault) (walk : Walk) (s2 t : Moment) → walked_by calls p s1 ≡ fine walk s2 → Gives view r t (walk_along walk (λ v. store calls e v >> in_block body (acts calls body)) s2) → Gives view r t (act calls (tree.for e walked body) s)
    for_gives view r walk s2 t k j = gives_on along view r walk s2 t (and_then found (walked_by calls)) (ap (λ (x : Ends Part). and_then x (walked_by calls)) h ∙ k) j

module _ (calls : Calls) (x : Text) (ps : List Parameter) (body : Statements) (code : Text) (s : Moment) where
  abbrev after : List Value → M Flow
  after vs = new_function code vs >>= assign x >> give onward

  pub def_defaults_fail : (f : Fault) (t : Moment) → Fails f t (defaults calls ps s) → Fails f t (act calls (tree.define x ps body code) s)
  def_defaults_fail f t h = fails_on after f t (defaults calls ps s) h

  module _ (vs : List Value) (s1 : Moment) (h : defaults calls ps s ≡ fine vs s1) where
    made : act calls (tree.define x ps body code) s ≡ and_then (and_then (new_function code vs s1) (assign x)) (λ _. give onward)
    made = ap (λ (y : Ends (List Value)). and_then y after) h

    module _ (v : Value) (s2 : Moment) (k : make (function s1.profile code vs) s1 ≡ fine v s2) where
      bound : act calls (tree.define x ps body code) s ≡ and_then (assign x v s2) (λ _. give onward)
      bound = made ∙ ap (λ (y : Ends Value). and_then (and_then y (assign x)) (λ _. give onward)) k

      pub def_ends : (s3 : Moment) → assign x v s2 ≡ fine tt s3 → act calls (tree.define x ps body code) s ≡ fine onward s3
      def_ends s3 j = bound ∙ ap (λ (y : Ends (Unit {0})). and_then y (λ _. give onward)) j
