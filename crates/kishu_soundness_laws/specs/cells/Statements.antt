-- Statements keep node numbers those of nodes: one line a form.
use Rattle.std.specs.Prelude.{ℕ, Option, None, Some, [], ◌∷◌, List}
use Rattle.std.proofs.Common.{arith}
use Rattle.kishu_language.specs.trees.Tree as t
use Rattle.kishu_language.specs.trees.Tree.{Statements, no_statements, more_statements, Expression, Parameter, Statement, Arms, no_arms, more_arms, Handlers, no_handlers, more_handlers}
use Rattle.kishu_meaning.specs.calls.Callees.{Part, viewed, whole, dotted}
use Rattle.kishu_meaning.specs.cells.Meaning.{in_block, Calls, returned_by, raise_by, failed, walked_by, defaults, is_for, act, arms, handlers, acts}
use Rattle.kishu_meaning.specs.cells.Ways.{Flow, returned, broke, continued}
use Rattle.kishu_meaning.specs.moments.Moment.{M, fresh, Thrown}
use Rattle.kishu_meaning.specs.values.Classes.{assertion_error_class}
use Rattle.kishu_meaning.specs.values.Values.{none}
use Rattle.kishu_soundness_laws.specs.Below.{AllBelow, Any, ThrownBelow}
use Rattle.kishu_soundness_laws.specs.BelowLaws.{below_later}
use Rattle.kishu_soundness_laws.specs.moments.Steps.{IsSafe, deeper_safe, bind_safe, throw_safe, list_safe, any_safe, plain_safe, if_safe, then_safe, safe_later, tick_safe}
use Rattle.kishu_soundness_laws.specs.items.Subscripts.{attribute_safe}
use Rattle.kishu_soundness_laws.specs.calls.Operators.{truth_safe}
use Rattle.kishu_soundness_laws.specs.items.Walks.{WalkBelow, walk_view_safe, walk_of_safe}
use Rattle.kishu_soundness_laws.specs.calls.Callees.{PartBelow}
use Rattle.kishu_soundness_laws.specs.moments.Names.{assign_safe}
use Rattle.kishu_soundness_laws.specs.cells.Ways.{FlowBelow, onward_safe, give_flow_safe, throw_again_safe, throw_value_safe, is_caught_safe, repeat_safe, walk_along_safe, finally_safe, attempt_safe, handle_safe, go_on_safe}
use Rattle.kishu_soundness_laws.specs.cells.Parts.{new_function_safe}
use Rattle.kishu_soundness_laws.specs.cells.Expressions.{CallsAreSafe, expr_safe, part_safe}
use Rattle.kishu_soundness_laws.specs.cells.Places.{delete_all_safe, update_safe, store_all_safe, store_safe}

pub in_block_safe : {k : ℕ} (ss : Statements) {m : M Flow} → IsSafe k FlowBelow m → IsSafe k FlowBelow (in_block ss m)
in_block_safe no_statements h = onward_safe
in_block_safe (more_statements s ss) h = deeper_safe h

module _ (calls : Calls) (safe : CallsAreSafe calls) where
  returned_by_safe : (k : ℕ) (o : Option Expression) → IsSafe k FlowBelow (returned_by calls o)
  returned_by_safe k None = give_flow_safe (returned none) tt
  returned_by_safe k (Some e) = bind_safe (expr_safe calls safe k e) (λ l le v q. give_flow_safe (returned v) q)

  raise_by_safe : (k : ℕ) (o : Option Expression) → IsSafe k FlowBelow (raise_by calls o)
  raise_by_safe k None = throw_again_safe
  raise_by_safe k (Some e) = bind_safe (expr_safe calls safe k e) (λ l le v q. throw_value_safe v q)

  failed_safe : (k : ℕ) (o : Option Expression) → IsSafe k FlowBelow (failed calls o)
  failed_safe k None = throw_safe (fresh assertion_error_class []) tt
  failed_safe k (Some e) = bind_safe (expr_safe calls safe k e) (λ l le v q. throw_safe (fresh assertion_error_class (v ∷ [])) (q, tt))

  walked_by_safe : (k : ℕ) (p : Part) → PartBelow k p → IsSafe k WalkBelow (walked_by calls p)
  walked_by_safe k (viewed i found) h = walk_view_safe i found
  walked_by_safe k (whole v) h = walk_of_safe v
  walked_by_safe k (dotted v x) h = bind_safe (attribute_safe v x) (λ l le w q. walk_of_safe w)

  defaults_safe : (k : ℕ) (ps : List Parameter) → IsSafe k AllBelow (defaults calls ps)
  defaults_safe k [] = list_safe [] tt
  defaults_safe k ((x, None) ∷ ps) = defaults_safe k ps
  defaults_safe k ((x, Some e) ∷ ps) = bind_safe (deeper_safe (expr_safe calls safe k e)) (λ l le v q. bind_safe (defaults_safe l ps) (λ l' le' vs r. list_safe (v ∷ vs) (below_later l l' le' v q, r)))

  is_for_safe : (k : ℕ) (o : Option Expression) (x : Thrown) → IsSafe k Any (is_for calls o x)
  is_for_safe k None x = any_safe
  is_for_safe k (Some e) x = bind_safe (expr_safe calls safe k e) (λ l le v q. is_caught_safe x v)

  mutual
    pub act_safe : (k : ℕ) (s : Statement) → IsSafe k FlowBelow (act calls s)
    act_safe k t.pass = onward_safe
    act_safe k t.break = give_flow_safe broke tt
    act_safe k t.continue = give_flow_safe continued tt
    act_safe k (t.return e) = returned_by_safe k e
    act_safe k (t.raise e) = raise_by_safe k e
    act_safe k (t.assert e message) = bind_safe (expr_safe calls safe k e) (λ l le v q. plain_safe (truth_safe v) (λ b. if_safe b onward_safe (failed_safe l message)))
    act_safe k (t.delete es) = then_safe (delete_all_safe calls safe k es) onward_safe
    act_safe k (t.global xs) = onward_safe
    act_safe k (t.import x) = then_safe (assign_safe _ _ tt) onward_safe
    act_safe k (t.update e operator operand) = then_safe (update_safe calls safe k e operator operand) onward_safe
    act_safe k (t.assign es e) = bind_safe (expr_safe calls safe k e) (λ l le v q. then_safe (store_all_safe calls safe l es v q) onward_safe)
    act_safe k (t.choose as' other) = arms_safe k as' (in_block_safe other (acts_safe k other))
    act_safe k (t.while e body) = repeat_safe (expr_safe calls safe k e) (in_block_safe body (acts_safe k body))
    act_safe k (t.for e walked body) = bind_safe (bind_safe (part_safe calls safe k walked (expr_safe calls safe k walked)) (λ l le p q. walked_by_safe l p q)) (λ l le u q. walk_along_safe l u q (λ l' le' v r. then_safe (store_safe calls safe l' e v r) (in_block_safe body (acts_safe l' body))))
    act_safe k (t.try body hs other last) = finally_safe (attempt_safe (in_block_safe body (acts_safe k body)) (λ l le x p. handlers_safe l hs x p) (in_block_safe other (acts_safe k other))) (in_block_safe last (acts_safe k last))
    act_safe k (t.finally body last) = finally_safe (in_block_safe body (acts_safe k body)) (in_block_safe last (acts_safe k last))
    act_safe k (t.define x ps body code) = bind_safe (defaults_safe k ps) (λ l le vs q. then_safe (bind_safe (new_function_safe code vs q) (λ l' le' v r. assign_safe x v r)) onward_safe)

    arms_safe : (k : ℕ) (as' : Arms) {other : M Flow} → IsSafe k FlowBelow other → IsSafe k FlowBelow (arms calls as' other)
    arms_safe k no_arms h = h
    arms_safe k (more_arms e body as') h = bind_safe (expr_safe calls safe k e) (λ l le v q. plain_safe (truth_safe v) (λ b. if_safe b (in_block_safe body (acts_safe l body)) (arms_safe l as' (safe_later le h))))

    handlers_safe : (k : ℕ) (hs : Handlers) (x : Thrown) → ThrownBelow k x → IsSafe k FlowBelow (handlers calls hs x)
    handlers_safe k no_handlers x p = throw_safe x p
    handlers_safe k (more_handlers kind caught body hs) x p = plain_safe (is_for_safe k kind x) (λ b. if_safe b (handle_safe caught (in_block_safe body (acts_safe k body)) k (omega arith) x p) (handlers_safe k hs x p))

    pub acts_safe : (k : ℕ) (ss : Statements) → IsSafe k FlowBelow (acts calls ss)
    acts_safe k no_statements = onward_safe
    acts_safe k (more_statements s ss) = bind_safe (then_safe tick_safe (act_safe k s)) (λ l le f q. go_on_safe f q (acts_safe l ss))
