-- Handlers, one after the other.
use Rattle.std.proofs.Common.{◌≡◌, ◌∙◌, ap, sym, subst, arith, ℕ, ◌+◌, ◌≤◌, ◌<◌, Bool, true, false, List, length, drop, get_or, max, Result}
use Rattle.std.specs.Prelude.{if◌then◌else◌}
use Rattle.std.proofs.Math.Nat.{le-max_left, le-max_right}
use Rattle.kishu_language.specs.declared.tree.Stmt.{Stmt}
use Rattle.kishu_language.specs.declared.tree.Stmt.TheFolds.{fold-roll-Handler}
use Rattle.kishu_language.specs.declared.tree.Handler as rust
use Rattle.kishu_language.specs.trees.Fits.{OptionalFits, TitleFits, StatementsFit, HandlersFit}
use Rattle.kishu_language.specs.trees.Height.{of_optional, of_statements, of_handlers}
use Rattle.kishu_meaning.specs.cells.Meaning.{Calls, acts, in_block, is_for, handlers}
use Rattle.kishu_meaning.specs.moments.Moment.{Moment, Thrown, Ends, fine, M, and_then}
use Rattle.kishu_language.specs.trees.Tree.{Statement, Arm, Handler, Definition, Handlers, more_handlers, statement_step, arm_step, definition_step, handler_step, statement_of, text_of, value_of as tree_value}
use Rattle.kishu_meaning.specs.cells.Ways.{Flow, handle}
use Rattle.kishu_items.specs.Gathering.{dropped}
use Rattle.kishu_machine.specs.declared.fault.Fault.{Fault}
use Rattle.kishu_machine.specs.Composing.{fails_on}
use Rattle.kishu_machine.specs.Machine.{Fails, Gives}
use Rattle.kishu_calls.specs.declared.ways.Flow as rust_flow
use Rattle.kishu_calls.specs.Calls.{flow_of}
use Rattle.kishu_language.specs.trees.Parts.{handler_of, handlers_of, statements_of}

handler_at : (h : rust.Handler) → handler_of h ≡ record { class = tree_value h.class; caught = text_of h.name; body = statements_of h.body.items }
unfolding handler_of statement_of
handler_at h = fold-roll-Handler Statement Arm Definition Handler statement_step arm_step definition_step handler_step (record { class = h.class; name = h.name; body = h.body })

module _ (hs : List rust.Handler) (i : ℕ) (h : rust.Handler) (p : i < length hs) (is : h ≡ get_or hs i h) where
  abbrev rest : Handlers
  rest = handlers_of (drop (i + 1) hs)

  abbrev class : ℕ
  class = of_optional (tree_value h.class)

  abbrev body : ℕ
  body = of_statements (statements_of h.body.items)

  handlers_next : handlers_of (drop i hs) ≡ more_handlers (tree_value h.class) (text_of h.name) (statements_of h.body.items) rest
  handlers_next = ap handlers_of (dropped hs i h p is) ∙ ap (λ (k : Handler). more_handlers k.class k.caught k.body rest) (handler_at h)

  pub handlers_low : (class ≤ of_handlers (handlers_of (drop i hs))) × (body ≤ of_handlers (handlers_of (drop i hs))) × (of_handlers rest ≤ of_handlers (handlers_of (drop i hs)))
  handlers_low =
      let d = of_handlers rest in
      let both = le-max_right class (max body d) in
      let first = le-max_left body d in
      let last = le-max_right body d in
      subst (λ (x : Handlers). (class ≤ of_handlers x) × (body ≤ of_handlers x) × (d ≤ of_handlers x)) (sym handlers_next)
      (le-max_left class (max body d), omega (arith, both, first), omega (arith, both, last))

  pub handlers_fit : HandlersFit (handlers_of (drop i hs)) → OptionalFits (tree_value h.class) × TitleFits (text_of h.name) × StatementsFit (statements_of h.body.items) × HandlersFit rest
  handlers_fit f = subst (λ (x : Handlers). HandlersFit x) handlers_next f

  module _ (calls : Calls) (x : Thrown) (s t : Moment) where
    abbrev found : List Stmt → Bool → M Flow
    found ss b = if b then handle (text_of h.name) (in_block (statements_of ss) (acts calls (statements_of ss))) x else handlers calls rest x

    handlers_is : handlers calls (handlers_of (drop i hs)) x s ≡ and_then (is_for calls (tree_value h.class) x s) (found h.body.items)
    handlers_is = ap (λ (k : Handlers). handlers calls k x s) handlers_next

    pub not_told : (f : Fault) → Fails f t (is_for calls (tree_value h.class) x s) → Fails f t (handlers calls (handlers_of (drop i hs)) x s)
    not_told f k = subst (λ (e : Ends Flow). Fails f t e) (sym handlers_is) (fails_on (found h.body.items) f t (is_for calls (tree_value h.class) x s) k)

    pub not_this : (b : Bool) → b ≡ false → is_for calls (tree_value h.class) x s ≡ fine b t → handlers calls (handlers_of (drop i hs)) x s ≡ handlers calls rest x t
    not_this b q k = handlers_is ∙ ap (λ (e : Ends Bool). and_then e (found h.body.items)) k ∙ ap (λ (c : Bool). found h.body.items c t) q

    pub this_one : (b : Bool) → b ≡ true → is_for calls (tree_value h.class) x s ≡ fine b t → (ss : List Stmt) → ss ≡ h.body.items → (r : Result rust_flow.Flow Fault) (u : Moment)
        → Gives flow_of r u (handle (text_of h.name) (in_block (statements_of ss) (acts calls (statements_of ss))) x t) → Gives flow_of r u (handlers calls (handlers_of (drop i hs)) x s)
    this_one b q k ss same r u g =
        subst (λ (e : Ends Flow). Gives flow_of r u e)
        (sym (handlers_is ∙ ap (λ (e : Ends Bool). and_then e (found h.body.items)) k ∙ ap (λ (c : Bool). found h.body.items c t) q ∙ ap (λ (ss : List Stmt). found ss true t) (sym same)))
        g
