-- What a statement has accessed stays recorded: one line a form.
use Rattle.std.specs.Prelude.{Option, None, Some, List, [], ◌∷◌}
use Rattle.kishu_language.specs.trees.Tree as t
use Rattle.kishu_language.specs.trees.Tree.{Statements, no_statements, more_statements, Expression, Parameter, Statement, Arms, no_arms, more_arms, Handlers, no_handlers, more_handlers}
use Rattle.kishu_meaning.specs.calls.Callees.{Part, viewed, whole, dotted}
use Rattle.kishu_meaning.specs.cells.Meaning.{in_block, Calls, returned_by, raise_by, failed, walked_by, defaults, is_for, act, arms, handlers, acts}
use Rattle.kishu_meaning.specs.cells.Ways.{Flow}
use Rattle.kishu_meaning.specs.moments.Moment.{M, Thrown}
use Rattle.kishu_pairing_laws.specs.World.{Grows}
use Rattle.kishu_pairing_laws.specs.moments.Steps.{give_grows, deeper_grows, bind_grows, throw_grows, cond_grows, then_grows}
use Rattle.kishu_pairing_laws.specs.moments.Names.{assign_grows}
use Rattle.kishu_pairing_laws.specs.growing.Parts.{truth_grows, tick_grows, throw_again_grows, throw_value_grows, walk_view_grows, walk_of_grows, attribute_grows, is_caught_grows, new_function_grows}
use Rattle.kishu_pairing_laws.specs.growing.Ways.{repeat_grows, walk_along_grows, finally_grows, attempt_grows, handle_grows, go_on_grows}
use Rattle.kishu_pairing_laws.specs.growing.Expressions.{CallsGrow, expr_grows, part_grows}
use Rattle.kishu_pairing_laws.specs.growing.Places.{delete_all_grows, update_grows, store_all_grows, store_grows}

pub in_block_grows : (ss : Statements) {m : M Flow} → Grows m → Grows (in_block ss m)
in_block_grows no_statements h = give_grows _
in_block_grows (more_statements s ss) h = deeper_grows h

module _ (calls : Calls) (grow : CallsGrow calls) where
  pub returned_by_grows : (o : Option Expression) → Grows (returned_by calls o)
  returned_by_grows None = give_grows _
  returned_by_grows (Some e) = bind_grows (expr_grows calls grow e) (λ v. give_grows _)

  pub raise_by_grows : (o : Option Expression) → Grows (raise_by calls o)
  raise_by_grows None = throw_again_grows
  raise_by_grows (Some e) = bind_grows (expr_grows calls grow e) throw_value_grows

  pub failed_grows : (o : Option Expression) → Grows (failed calls o)
  failed_grows None = throw_grows _
  failed_grows (Some e) = bind_grows (expr_grows calls grow e) (λ v. throw_grows _)

  pub walked_by_grows : (p : Part) → Grows (walked_by calls p)
  walked_by_grows (viewed n found) = walk_view_grows n found
  walked_by_grows (whole v) = walk_of_grows v
  walked_by_grows (dotted v x) = bind_grows (attribute_grows v x) walk_of_grows

  pub defaults_grows : (ps : List Parameter) → Grows (defaults calls ps)
  defaults_grows [] = give_grows _
  defaults_grows ((x, None) ∷ ps) = defaults_grows ps
  defaults_grows ((x, Some e) ∷ ps) = bind_grows (deeper_grows (expr_grows calls grow e)) (λ v. bind_grows (defaults_grows ps) (λ vs. give_grows _))

  pub is_for_grows : (o : Option Expression) (x : Thrown) → Grows (is_for calls o x)
  is_for_grows None x = give_grows _
  is_for_grows (Some e) x = bind_grows (expr_grows calls grow e) (is_caught_grows x)

  mutual
    pub act_grows : (s : Statement) → Grows (act calls s)
    act_grows t.pass = give_grows _
    act_grows t.break = give_grows _
    act_grows t.continue = give_grows _
    act_grows (t.return e) = returned_by_grows e
    act_grows (t.raise e) = raise_by_grows e
    act_grows (t.assert e message) = bind_grows (expr_grows calls grow e) (λ v. bind_grows (truth_grows v) (λ b. cond_grows b (give_grows _) (failed_grows message)))
    act_grows (t.delete es) = then_grows (delete_all_grows calls grow es) (give_grows _)
    act_grows (t.global xs) = give_grows _
    act_grows (t.import x) = then_grows (assign_grows _ _) (give_grows _)
    act_grows (t.update e operator operand) = then_grows (update_grows calls grow e operator operand) (give_grows _)
    act_grows (t.assign es e) = bind_grows (expr_grows calls grow e) (λ v. then_grows (store_all_grows calls grow es v) (give_grows _))
    act_grows (t.choose as' other) = arms_grows as' (in_block_grows other (acts_grows other))
    act_grows (t.while e body) = repeat_grows (expr_grows calls grow e) (in_block_grows body (acts_grows body))
    act_grows (t.for e walked body) = bind_grows (bind_grows (part_grows calls grow walked (expr_grows calls grow walked)) walked_by_grows) (λ walk. walk_along_grows walk (λ v. then_grows (store_grows calls grow e v) (in_block_grows body (acts_grows body))))
    act_grows (t.try body hs other last) = finally_grows (attempt_grows (in_block_grows body (acts_grows body)) (handlers_grows hs) (in_block_grows other (acts_grows other))) (in_block_grows last (acts_grows last))
    act_grows (t.finally body last) = finally_grows (in_block_grows body (acts_grows body)) (in_block_grows last (acts_grows last))
    act_grows (t.define x ps body code) = bind_grows (defaults_grows ps) (λ vs. then_grows (bind_grows (new_function_grows code vs) (assign_grows x)) (give_grows _))

    pub arms_grows : (as' : Arms) {other : M Flow} → Grows other → Grows (arms calls as' other)
    arms_grows no_arms h = h
    arms_grows (more_arms e body as') h = bind_grows (expr_grows calls grow e) (λ v. bind_grows (truth_grows v) (λ b. cond_grows b (in_block_grows body (acts_grows body)) (arms_grows as' h)))

    pub handlers_grows : (hs : Handlers) (x : Thrown) → Grows (handlers calls hs x)
    handlers_grows no_handlers x = throw_grows x
    handlers_grows (more_handlers kind caught body hs) x = bind_grows (is_for_grows kind x) (λ b. cond_grows b (handle_grows caught (in_block_grows body (acts_grows body)) x) (handlers_grows hs x))

    pub acts_grows : (ss : Statements) → Grows (acts calls ss)
    acts_grows no_statements = give_grows _
    acts_grows (more_statements s ss) = bind_grows (then_grows tick_grows (act_grows s)) (λ f. go_on_grows f (acts_grows ss))
