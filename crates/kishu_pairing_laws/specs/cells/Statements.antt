-- Statements go alike: one line a form.
use Rattle.std.specs.Prelude.{Option, None, Some, List, [], ◌∷◌}
use Rattle.std.proofs.Common.{refl}
use Rattle.kishu_language.specs.trees.Tree as t
use Rattle.kishu_language.specs.trees.Tree.{Statements, no_statements, more_statements, Expression, Parameter, Statement, Arms, no_arms, more_arms, Handlers, no_handlers, more_handlers}
use Rattle.kishu_meaning.specs.calls.Callees.{Part}
use Rattle.kishu_meaning.specs.cells.Meaning.{in_block, Calls, returned_by, raise_by, failed, walked_by, defaults, is_for, act, arms, handlers, acts}
use Rattle.kishu_meaning.specs.cells.Ways.{Flow}
use Rattle.kishu_meaning.specs.moments.Moment.{M, Thrown}
use Rattle.kishu_meaning.specs.values.Classes.{assertion_error_class}
use Rattle.kishu_meaning.specs.values.Values.{none}
use Rattle.kishu_pairing_laws.specs.World.{World, GoAlike, plain, both_fresh, nil, cons, SameValues, SameThrown, Is, Grows}
use Rattle.kishu_pairing_laws.specs.moments.Steps.{quiet, give_quiet, deeper_alike, bind_alike, give_grows, throw_quiet, throw_grows, bind_quiet, bind_grows, cond_grows, choose_first, then_alike, then_grows, bind_first, tick_alike, choose_alike}
use Rattle.kishu_pairing_laws.specs.calls.Operators.{truth_quiet}
use Rattle.kishu_pairing_laws.specs.items.Subscripts.{attribute_quiet}
use Rattle.kishu_pairing_laws.specs.items.Walks.{SameWalk, walk_view_quiet, walk_of_quiet}
use Rattle.kishu_pairing_laws.specs.calls.Callees.{SamePart, both_viewed, both_whole, both_dotted}
use Rattle.kishu_pairing_laws.specs.moments.Names.{assign_alike, assign_grows}
use Rattle.kishu_pairing_laws.specs.cells.Ways.{SameFlow, both_onward, both_returned, both_broke, both_continued, repeat_alike, walk_along_alike, finally_alike, attempt_alike, handle_alike, go_on_alike}
use Rattle.kishu_pairing_laws.specs.cells.Raising.{throw_again_quiet, throw_value_quiet, is_caught_quiet}
use Rattle.kishu_pairing_laws.specs.growing.Parts.{truth_grows, throw_value_grows, is_caught_grows, new_function_grows}
use Rattle.kishu_pairing_laws.specs.growing.Ways.{walk_along_grows, handle_grows, go_on_grows}
use Rattle.kishu_pairing_laws.specs.cells.Parts.{new_function_quiet}
use Rattle.kishu_pairing_laws.specs.growing.Expressions.{CallsGrow, expr_grows}
use Rattle.kishu_pairing_laws.specs.growing.Places.{store_all_grows, store_grows}
use Rattle.kishu_pairing_laws.specs.growing.Statements.{defaults_grows, failed_grows, in_block_grows, acts_grows, walked_by_grows, handlers_grows, arms_grows}
use Rattle.kishu_pairing_laws.specs.cells.Expressions.{CallsAlike, expr_alike, part_alike}
use Rattle.kishu_pairing_laws.specs.cells.Places.{delete_all_alike, update_alike, store_all_alike, store_alike}

module _ (W : World) (sorted : W.Sorted) where
  pub in_block_alike : (ss : Statements) {m n : M Flow} → GoAlike W (SameFlow W) m n → GoAlike W (SameFlow W) (in_block ss m) (in_block ss n)
  in_block_alike no_statements h = quiet W (give_quiet W both_onward)
  in_block_alike (more_statements s ss) h = deeper_alike W h

  module _ (calls : Calls) (grow : CallsGrow calls) (alike : CallsAlike W calls) where
    returned_by_alike : (o : Option Expression) → GoAlike W (SameFlow W) (returned_by calls o) (returned_by calls o)
    returned_by_alike None = quiet W (give_quiet W (both_returned (plain none tt)))
    returned_by_alike (Some e) = bind_alike W (expr_alike W sorted calls grow alike e) (λ v. give_grows _) (λ v w vw. quiet W (give_quiet W (both_returned vw)))

    raise_by_alike : (o : Option Expression) → GoAlike W (SameFlow W) (raise_by calls o) (raise_by calls o)
    raise_by_alike None = quiet W (throw_again_quiet W)
    raise_by_alike (Some e) = bind_alike W (expr_alike W sorted calls grow alike e) throw_value_grows (λ v w vw. quiet W (throw_value_quiet W vw))

    failed_alike : (o : Option Expression) → GoAlike W (SameFlow W) (failed calls o) (failed calls o)
    failed_alike None = quiet W (throw_quiet W (both_fresh assertion_error_class nil))
    failed_alike (Some e) = bind_alike W (expr_alike W sorted calls grow alike e) (λ v. throw_grows _) (λ v w vw. quiet W (throw_quiet W (both_fresh assertion_error_class (cons vw nil))))

    walked_by_alike : {p q : Part} → SamePart W p q → GoAlike W (SameWalk W) (walked_by calls p) (walked_by calls q)
    walked_by_alike (both_viewed found p) = quiet W (walk_view_quiet W found p)
    walked_by_alike (both_whole vw) = quiet W (walk_of_quiet W vw)
    walked_by_alike (both_dotted x vw) = quiet W (bind_quiet W (attribute_quiet W x vw) (λ v w vw. walk_of_quiet W vw))

    defaults_alike : (ps : List Parameter) → GoAlike W (SameValues W) (defaults calls ps) (defaults calls ps)
    defaults_alike [] = quiet W (give_quiet W nil)
    defaults_alike ((x, None) ∷ ps) = defaults_alike ps
    defaults_alike ((x, Some e) ∷ ps) =
        bind_alike W (deeper_alike W (expr_alike W sorted calls grow alike e)) (λ v. bind_grows (defaults_grows calls grow ps) (λ vs. give_grows _)) (λ v w vw.
        bind_alike W (defaults_alike ps) (λ vs. give_grows _) (λ vs ws z. quiet W (give_quiet W (cons vw z))))

    is_for_alike : (o : Option Expression) {x y : Thrown} → SameThrown W x y → GoAlike W Is (is_for calls o x) (is_for calls o y)
    is_for_alike None xy = quiet W (give_quiet W refl)
    is_for_alike (Some e) {x = x} xy = bind_alike W (expr_alike W sorted calls grow alike e) (is_caught_grows x) (λ v w vw. quiet W (is_caught_quiet W xy vw))

    mutual
      pub act_alike : (s : Statement) → GoAlike W (SameFlow W) (act calls s) (act calls s)
      act_alike t.pass = quiet W (give_quiet W both_onward)
      act_alike t.break = quiet W (give_quiet W both_broke)
      act_alike t.continue = quiet W (give_quiet W both_continued)
      act_alike (t.return e) = returned_by_alike e
      act_alike (t.raise e) = raise_by_alike e
      act_alike (t.assert e message) =
          bind_alike W (expr_alike W sorted calls grow alike e) (λ v. bind_grows (truth_grows v) (λ b. cond_grows b (give_grows _) (failed_grows calls grow message))) (λ v w vw.
          choose_first W (λ b. b) (truth_quiet W vw) (quiet W (give_quiet W both_onward)) (failed_alike message))
      act_alike (t.delete es) = then_alike W (delete_all_alike W sorted calls grow alike es) (give_grows _) (quiet W (give_quiet W both_onward))
      act_alike (t.global xs) = quiet W (give_quiet W both_onward)
      act_alike (t.import x) = then_alike W (assign_alike W _ (plain _ tt)) (give_grows _) (quiet W (give_quiet W both_onward))
      act_alike (t.update e operator operand) = then_alike W (update_alike W sorted calls grow alike e operator operand) (give_grows _) (quiet W (give_quiet W both_onward))
      act_alike (t.assign es e) = bind_alike W (expr_alike W sorted calls grow alike e) (λ v. then_grows (store_all_grows calls grow es v) (give_grows _)) (λ v w vw. then_alike W (store_all_alike W sorted calls grow alike es vw) (give_grows _) (quiet W (give_quiet W both_onward)))
      act_alike (t.choose as' other) = arms_alike as' (in_block_grows other (acts_grows calls grow other)) (in_block_alike other (acts_alike other))
      act_alike (t.while e body) = repeat_alike W (expr_alike W sorted calls grow alike e) (in_block_alike body (acts_alike body)) (expr_grows calls grow e) (in_block_grows body (acts_grows calls grow body))
      act_alike (t.for e walked body) =
          bind_alike W (bind_alike W (part_alike W sorted calls grow alike walked (expr_alike W sorted calls grow alike walked)) (walked_by_grows calls grow) (λ p q pq. walked_by_alike pq)) (λ walk. walk_along_grows walk (λ v. then_grows (store_grows calls grow e v) (in_block_grows body (acts_grows calls grow body)))) (λ u v uv.
          walk_along_alike W uv (λ v. then_grows (store_grows calls grow e v) (in_block_grows body (acts_grows calls grow body))) (λ v w vw. then_alike W (store_alike W sorted calls grow alike e vw) (in_block_grows body (acts_grows calls grow body)) (in_block_alike body (acts_alike body))))
      act_alike (t.try body hs other last) =
          finally_alike W (attempt_alike W (in_block_alike body (acts_alike body)) (λ x y xy. handlers_alike hs xy) (in_block_alike other (acts_alike other)) (handlers_grows calls grow hs) (in_block_grows other (acts_grows calls grow other)))
          (in_block_alike last (acts_alike last)) (in_block_grows last (acts_grows calls grow last))
      act_alike (t.finally body last) = finally_alike W (in_block_alike body (acts_alike body)) (in_block_alike last (acts_alike last)) (in_block_grows last (acts_grows calls grow last))
      act_alike (t.define x ps body code) =
          bind_alike W (defaults_alike ps) (λ vs. then_grows (bind_grows (new_function_grows code vs) (assign_grows x)) (give_grows _)) (λ vs ws z.
          then_alike W (bind_first W (new_function_quiet W code z) (λ v w vw. assign_alike W x vw)) (give_grows _) (quiet W (give_quiet W both_onward)))

      pub arms_alike : (as' : Arms) {other other' : M Flow} → Grows other → GoAlike W (SameFlow W) other other' → GoAlike W (SameFlow W) (arms calls as' other) (arms calls as' other')
      arms_alike no_arms g h = h
      arms_alike (more_arms e body as') g h =
          bind_alike W (expr_alike W sorted calls grow alike e) (λ v. bind_grows (truth_grows v) (λ b. cond_grows b (in_block_grows body (acts_grows calls grow body)) (arms_grows calls grow as' g))) (λ v w vw.
          choose_first W (λ b. b) (truth_quiet W vw) (in_block_alike body (acts_alike body)) (arms_alike as' g h))

      pub handlers_alike : (hs : Handlers) {x y : Thrown} → SameThrown W x y → GoAlike W (SameFlow W) (handlers calls hs x) (handlers calls hs y)
      handlers_alike no_handlers xy = quiet W (throw_quiet W xy)
      handlers_alike (more_handlers kind caught body hs) {x = x} xy =
          choose_alike W (is_for_alike kind xy) (handle_grows caught (in_block_grows body (acts_grows calls grow body)) x) (handlers_grows calls grow hs x)
          (handle_alike W sorted caught (in_block_alike body (acts_alike body)) (in_block_grows body (acts_grows calls grow body)) xy) (handlers_alike hs xy)

      pub acts_alike : (ss : Statements) → GoAlike W (SameFlow W) (acts calls ss) (acts calls ss)
      acts_alike no_statements = quiet W (give_quiet W both_onward)
      acts_alike (more_statements s ss) = bind_alike W (tick_alike W (act_alike s)) (λ f. go_on_grows f (acts_grows calls grow ss)) (λ f g fg. go_on_alike W fg (acts_alike ss))
