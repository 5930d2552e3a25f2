-- Statements keep what holds of every state, where their trees are sound, and go the same way where the calls do.
use Rattle.std.specs.Prelude.{◌≡◌, ℕ, suc, ◌+◌, List, [], ◌∷◌, length, Option, Some, None}
use Rattle.std.proofs.Common.{refl, arith}
use Rattle.kishu_language.specs.tokens.Names.{reserved_words}
use Rattle.kishu_language.specs.trees.Tree.{Text, Expression, Parameter, Statement, Statements, Arms, Handlers, simple_namespace, no_statements, more_statements, no_arms, more_arms, no_handlers, more_handlers}
use Rattle.kishu_language.specs.trees.Tree as t
use Rattle.kishu_meaning.specs.values.Classes.{assertion_error_class, namespace_class}
use Rattle.kishu_meaning.specs.values.Sound.{with_default}
use Rattle.kishu_meaning.specs.values.Values.{Value, none, class}
use Rattle.kishu_meaning.specs.moments.Moment.{Thrown, fresh, M}
use Rattle.kishu_meaning.specs.calls.Callees.{Part, whole, dotted, viewed}
use Rattle.kishu_meaning.specs.calls.Functions.{or_class_name}
use Rattle.kishu_meaning.specs.cells.Ways.{Flow, broke, continued, returned}
use Rattle.kishu_meaning.specs.cells.Meaning.{Calls, returned_by, raise_by, failed, walked_by, defaults, is_for, act, arms, handlers, acts}
use Rattle.kishu_objects.specs.State.{AreValues, IsName}
use Rattle.kishu_state_laws.specs.trees.Sound.{OptionalSound, TitleSound, ParametersSound, StatementSound, StatementsSound, ArmsSound, HandlersSound}
use Rattle.kishu_state_laws.specs.Moments.{IsWalk}
use Rattle.kishu_state_laws.specs.keeping.Logic.{Maybe, Any, IsThrown, Safe, give_s, any_s, throw_s, tick_s, value_later, values_later}
use Rattle.kishu_state_laws.specs.keeping.Leaves.{truth_s}
use Rattle.kishu_state_laws.specs.keeping.Subscripts.{attribute_s}
use Rattle.kishu_state_laws.specs.keeping.Operating.{walk_of_s, walk_view_s}
use Rattle.kishu_state_laws.specs.keeping.Callees.{IsPart}
use Rattle.kishu_state_laws.specs.keeping.Names.{assign_s}
use Rattle.kishu_state_laws.specs.keeping.Flows.{IsFlow, flow_s, onward_s, throw_value_s, throw_again_s, is_caught_s}
use Rattle.kishu_state_laws.specs.keeping.Parts.{new_function_s, CallsSafe}
use Rattle.kishu_state_laws.specs.keeping.Agreeing.{Agree, one, agree_later, bind_a, plain_a, then_a, if_a, so_a, deeper_a, in_block_a, go_on_a, repeat_a, walk_along_a, attempt_a, finally_a, handle_a}
use Rattle.kishu_state_laws.specs.keeping.CallsAgreeing.{CallsAgree, one_calls}
use Rattle.kishu_state_laws.specs.keeping.Expressions.{expr_a, part_a, store_a, store_all_a, delete_all_a, update_a}

imported_name : (o : Option Text) → TitleSound o → IsName (or_class_name o)
unfolding reserved_words
imported_name (Some x) h = h
imported_name None h = refl

caught_name : (o : Option Text) → TitleSound o → Maybe IsName o
caught_name (Some x) h = h
caught_name None h = tt

-- the values of the defaults, as many as there are
abbrev FilledBy : List Parameter → ℕ → List Value → Type 0
FilledBy ps k vs = AreValues k vs × (length vs ≡ with_default ps)

one_more : (n m : ℕ) → n ≡ m → suc n ≡ 1 + m
one_more n m e = omega (arith, e)

none_more : (n m : ℕ) → n ≡ m → n ≡ 0 + m
none_more n m e = omega (arith, e)

module _ (d : ℕ) (calls calls' : Calls) (cs : CallsAgree d calls calls') where
  returned_by_a : (k : ℕ) (o : Option Expression) → OptionalSound o → Agree d k IsFlow (returned_by calls o) (returned_by calls' o)
  returned_by_a k None h = one (flow_s (returned none) tt)
  returned_by_a k (Some e) h = bind_a (expr_a d calls calls' cs k e h) (λ l le v q. one (flow_s (returned v) q))

  raise_by_a : (k : ℕ) (o : Option Expression) → OptionalSound o → Agree d k IsFlow (raise_by calls o) (raise_by calls' o)
  raise_by_a k None h = one throw_again_s
  raise_by_a k (Some e) h = bind_a (expr_a d calls calls' cs k e h) (λ l le v q. one (throw_value_s v q))

  failed_a : (k : ℕ) (o : Option Expression) → OptionalSound o → Agree d k IsFlow (failed calls o) (failed calls' o)
  failed_a k None h = one (throw_s (fresh assertion_error_class []) (refl, tt))
  failed_a k (Some e) h = bind_a (expr_a d calls calls' cs k e h) (λ l le v q. one (throw_s (fresh assertion_error_class (v ∷ [])) (refl, (q, tt))))

  pub walked_by_a : (k : ℕ) (p : Part) → IsPart k p → Agree d k IsWalk (walked_by calls p) (walked_by calls' p)
  walked_by_a k (viewed i found) h = one (walk_view_s i found)
  walked_by_a k (whole v) h = one (walk_of_s v h)
  walked_by_a k (dotted v x) h = bind_a (one (attribute_s v x h.1)) (λ l le w q. one (walk_of_s w q))

  defaults_a : (k : ℕ) (ps : List Parameter) → ParametersSound ps → Agree d k (FilledBy ps) (defaults calls ps) (defaults calls' ps)
  defaults_a k [] h = one (give_s (FilledBy []) (λ l le. (tt, refl)))
  defaults_a k ((x, None) ∷ ps) h = bind_rest (defaults_a k ps h.2)
    where
      bind_rest : Agree d k (FilledBy ps) (defaults calls ps) (defaults calls' ps) → Agree d k (FilledBy ((x, None) ∷ ps)) (defaults calls ps) (defaults calls' ps)
      bind_rest g = so_a g (λ l vs q. (q.0, none_more (length vs) (with_default ps) q.1))
  defaults_a k ((x, Some e) ∷ ps) h = bind_a (deeper_a (expr_a d calls calls' cs k e h.1)) (λ l le v q. bind_a (defaults_a l ps h.2) (λ l' le' vs r.
      one (give_s (FilledBy ((x, Some e) ∷ ps)) (λ m le2. ((value_later l m (omega (arith, le', le2)) v q, values_later l' m le2 vs r.0), one_more (length vs) (with_default ps) r.1)))))

  is_for_a : (k : ℕ) (o : Option Expression) (x : Thrown) → OptionalSound o → Agree d k Any (is_for calls o x) (is_for calls' o x)
  is_for_a k None x h = one any_s
  is_for_a k (Some e) x h = bind_a (expr_a d calls calls' cs k e h) (λ l le v q. one (is_caught_s x v))

  mutual
    pub act_a : (k : ℕ) (s : Statement) → StatementSound s → Agree d k IsFlow (act calls s) (act calls' s)
    act_a k t.pass h = one onward_s
    act_a k t.break h = one (flow_s broke tt)
    act_a k t.continue h = one (flow_s continued tt)
    act_a k (t.return e) h = returned_by_a k e h
    act_a k (t.raise e) h = raise_by_a k e h
    act_a k (t.assert e message) h = bind_a (expr_a d calls calls' cs k e h.0) (λ l le v q. plain_a (one (truth_s v)) (λ b. if_a b (one onward_s) (failed_a l message h.1)))
    act_a k (t.delete es) h = then_a (delete_all_a d calls calls' cs k es h) (one onward_s)
    act_a k (t.global xs) h = one onward_s
    act_a k (t.import x) h = then_a (one (assign_s (or_class_name x) (class namespace_class) (imported_name x h) (omega arith))) (one onward_s)
    act_a k (t.update e operator operand) h = then_a (update_a d calls calls' cs k e operator operand h.0 h.1) (one onward_s)
    act_a k (t.assign es e) h = bind_a (expr_a d calls calls' cs k e h.1) (λ l le v q. then_a (store_all_a d calls calls' cs l es v h.0 q) (one onward_s))
    act_a k (t.choose as' other) h = arms_a k as' h.0 (in_block_a other (acts_a k other h.1))
    act_a k (t.while e body) h = repeat_a (expr_a d calls calls' cs k e h.0) (in_block_a body (acts_a k body h.1))
    act_a k (t.for e walked body) h = bind_a (bind_a (part_a d calls calls' cs k walked h.1 (expr_a d calls calls' cs k walked h.1)) (λ l le p q. walked_by_a l p q)) (λ l le u q. walk_along_a l u q (λ l' le' v r. then_a (store_a d calls calls' cs l' e v h.0 r) (in_block_a body (acts_a l' body h.2))))
    act_a k (t.try body hs other last) h = finally_a (attempt_a (in_block_a body (acts_a k body h.0)) (λ l le x p. handlers_a l hs x h.1 p) (in_block_a other (acts_a k other h.2))) (in_block_a last (acts_a k last h.3))
    act_a k (t.finally body last) h = finally_a (in_block_a body (acts_a k body h.0)) (in_block_a last (acts_a k last h.1))
    act_a k (t.define x ps body code) h = bind_a (defaults_a k ps h.1) (λ l le vs q. then_a (bind_a (one (new_function_s code ps vs h.3 q.1 q.0)) (λ l' le' v r. one (assign_s x v h.0 r))) (one onward_s))

    arms_a : (k : ℕ) (as' : Arms) {other other' : M Flow} → ArmsSound as' → Agree d k IsFlow other other' → Agree d k IsFlow (arms calls as' other) (arms calls' as' other')
    arms_a k no_arms g h = h
    arms_a k (more_arms e body as') g h = bind_a (expr_a d calls calls' cs k e g.0) (λ l le v q. plain_a (one (truth_s v)) (λ b. if_a b (in_block_a body (acts_a l body g.1)) (arms_a l as' g.2 (agree_later le h))))

    handlers_a : (k : ℕ) (hs : Handlers) (x : Thrown) → HandlersSound hs → IsThrown k x → Agree d k IsFlow (handlers calls hs x) (handlers calls' hs x)
    handlers_a k no_handlers x h p = one (throw_s x p)
    handlers_a k (more_handlers kind caught body hs) x h p = plain_a (is_for_a k kind x h.0) (λ b. if_a b (handle_a caught (caught_name caught h.1) (in_block_a body (acts_a k body h.2)) k (omega arith) x p) (handlers_a k hs x h.3 p))

    pub acts_a : (k : ℕ) (ss : Statements) → StatementsSound ss → Agree d k IsFlow (acts calls ss) (acts calls' ss)
    acts_a k no_statements h = one onward_s
    acts_a k (more_statements s ss) h = bind_a (then_a (one tick_s) (act_a k s h.0)) (λ l le f q. go_on_a f q (acts_a l ss h.1))

-- ---- each by itself

module _ (calls : Calls) (cs : CallsSafe calls) where
  pub act_s : (k : ℕ) (s : Statement) → StatementSound s → Safe k IsFlow (act calls s)
  act_s k s h = (act_a 0 calls calls (one_calls calls cs) k s h).safe

  pub acts_s : (k : ℕ) (ss : Statements) → StatementsSound ss → Safe k IsFlow (acts calls ss)
  acts_s k ss h = (acts_a 0 calls calls (one_calls calls cs) k ss h).safe
