-- Calls never run out: each lies a level deeper, so with any number of calls above the levels that are left a run goes the same way.
use Rattle.std.specs.Prelude.{◌≡◌, ℕ, zero, suc, ◌+◌, ◌<◌, ◌≤◌, nat_lt, Bool, true, false, if◌then◌else◌, List, [], ◌∷◌, length, Option, Some, None, Result}
use Rattle.std.proofs.Common.{refl, ap, sym, subst, arith, ltb-true}
use Rattle.kishu_language.specs.trees.Tree.{Expression, Statement, Statements, Definition}
use Rattle.kishu_language.specs.trees.Tree as t
use Rattle.kishu_meaning.specs.values.Values.{Names}
use Rattle.kishu_meaning.specs.moments.Moment.{Moment, Ends, M, most_depth, back_at, recursion_error, deeper}
use Rattle.kishu_meaning.specs.calls.Functions.{own_names, bound_values, function_in, in_frame}
use Rattle.kishu_meaning.specs.cells.Meaning.{Calls, in_block, expr, acts, result_of, enter, enter_code, call, all_calls}
use Rattle.kishu_objects.specs.State.{IsValue, IsName}
use Rattle.kishu_state_laws.specs.Moments.{Holds}
use Rattle.kishu_state_laws.specs.trees.Sound.{ExpressionSound, StatementsSound}
use Rattle.kishu_state_laws.specs.trees.Read.{tree_sound}
use Rattle.kishu_state_laws.specs.keeping.Logic.{Safe, deeper_s, value_s, at_depth}
use Rattle.kishu_state_laws.specs.keeping.Texts.{text_title}
use Rattle.kishu_state_laws.specs.keeping.Leaves.{bad_arguments_s}
use Rattle.kishu_state_laws.specs.keeping.Names.{frame_s}
use Rattle.kishu_state_laws.specs.keeping.Flows.{IsFlow}
use Rattle.kishu_state_laws.specs.keeping.Parts.{in_block_s, CallsSafe}
use Rattle.kishu_state_laws.specs.keeping.Agreeing.{Agree, one, bind_a, in_block_a, frame_a}
use Rattle.kishu_state_laws.specs.keeping.CallsAgreeing.{CallsAgree}
use Rattle.kishu_state_laws.specs.keeping.Expressions.{expr_a}
use Rattle.kishu_state_laws.specs.keeping.Acts.{acts_s, acts_a}
use Rattle.kishu_state_laws.specs.keeping.Running.{MaybeNames, bound_names, result_value, call_s}

-- ---- a level deeper, and at the deepest level

level_up : {A : Type 0} (b : Bool) (n : ℕ) (e e' r : Ends A) → e ≡ e' → (if b then back_at n e else r) ≡ (if b then back_at n e' else r)
level_up true n e e' r h = ap (λ x. back_at n x) h
level_up false n e e' r h = refl

no_level : {A : Type 0} (b : Bool) (n : ℕ) (e e' r : Ends A) → (b ≡ true → ⊥) → (if b then back_at n e else r) ≡ (if b then back_at n e' else r)
no_level true n e e' r h = absurd (h refl)
no_level false n e e' r h = refl

deeper_up : {A : Type 0} {d k : ℕ} {Q : ℕ → A → Type 0} {m m' : M A} → Agree (suc d) k Q m m' → Agree d k Q (deeper m) (deeper m')
deeper_up {m = m} {m' = m'} h = record {
  safe = deeper_s h.safe;
  same = record { go = λ l le s g enough. level_up (nat_lt s.depth most_depth) s.depth (m (record s { depth = suc s.depth })) (m' (record s { depth = suc s.depth })) (recursion_error s) (h.same.go l le (record s { depth = suc s.depth }) (at_depth (suc s.depth) g) (omega (arith, enough))) };
}

too_deep : (d n : ℕ) → most_depth ≤ d → d ≤ n → nat_lt n most_depth ≡ true → ⊥
too_deep d n top le e = let less : n < most_depth = ltb-true n most_depth e in omega (arith, top, le, less)

deeper_top : {A : Type 0} {d k : ℕ} {Q : ℕ → A → Type 0} {m : M A} (m' : M A) → most_depth ≤ d → Safe k Q m → Agree d k Q (deeper m) (deeper m')
deeper_top {d = d} {m = m} m' top h = record {
  safe = deeper_s h;
  same = record { go = λ l le s g enough. no_level (nat_lt s.depth most_depth) s.depth (m (record s { depth = suc s.depth })) (m' (record s { depth = suc s.depth })) (recursion_error s) (too_deep d s.depth top enough) };
}

-- ---- a function's body

enter_up : (d : ℕ) (calls calls' : Calls) (cs : CallsAgree (suc d) calls calls') (k : ℕ) (f : Definition) (o : Option Names) → IsName f.title → StatementsSound f.body → MaybeNames k o → Agree d k IsValue (enter calls f o) (enter calls' f o)
enter_up d calls calls' cs k f (Some values) n b h =
    bind_a (deeper_up (frame_a IsFlow (record { own = own_names f; values = values }) h (in_block_a f.body (acts_a (suc d) calls calls' cs k f.body b)))) (λ l le x q. one (value_s (result_of x) (result_value l x q)))
enter_up d calls calls' cs k f None n b h = one (bad_arguments_s f.title (text_title f.title n))

enter_top : (d : ℕ) (calls calls' : Calls) (cs : CallsSafe calls) → most_depth ≤ d → (k : ℕ) (f : Definition) (o : Option Names) → IsName f.title → StatementsSound f.body → MaybeNames k o → Agree d k IsValue (enter calls f o) (enter calls' f o)
enter_top d calls calls' cs top k f (Some values) n b h =
    bind_a (deeper_top (in_frame (record { own = own_names f; values = values }) (in_block f.body (acts calls' f.body))) top (frame_s IsFlow (record { own = own_names f; values = values }) h (in_block_s f.body (acts_s calls cs k f.body b)))) (λ l le x q. one (value_s (result_of x) (result_value l x q)))
enter_top d calls calls' cs top k f None n b h = one (bad_arguments_s f.title (text_title f.title n))

-- calls of which n and m may lie in one another
pub call_a : (n m d : ℕ) → most_depth ≤ n + d → most_depth ≤ m + d → CallsAgree d (call (suc n)) (call (suc m))
unfolding call
call_a zero m d p p' k profile code vs g c h e =
    let f = c.function in
    let tree = tree_sound profile code c.utf8 c.short (t.define f.title f.parameters f.body code ∷ []) c.reads in
    subst (λ (r : Result (List Statement) ℕ). Agree d k IsValue (enter_code (call zero) vs g (function_in r)) (enter_code (call m) vs g (function_in r))) (sym c.reads)
    (enter_top d (call zero) (call m) (call_s zero) (omega (arith, p)) k f (bound_values f vs g) tree.0.0 tree.0.2 (bound_names k f vs g h e))
call_a (suc n) zero d p p' k profile code vs g c h e =
    let f = c.function in
    let tree = tree_sound profile code c.utf8 c.short (t.define f.title f.parameters f.body code ∷ []) c.reads in
    subst (λ (r : Result (List Statement) ℕ). Agree d k IsValue (enter_code (call (suc n)) vs g (function_in r)) (enter_code (call zero) vs g (function_in r))) (sym c.reads)
    (enter_top d (call (suc n)) (call zero) (call_s (suc n)) (omega (arith, p')) k f (bound_values f vs g) tree.0.0 tree.0.2 (bound_names k f vs g h e))
call_a (suc n) (suc m) d p p' k profile code vs g c h e =
    let f = c.function in
    let tree = tree_sound profile code c.utf8 c.short (t.define f.title f.parameters f.body code ∷ []) c.reads in
    subst (λ (r : Result (List Statement) ℕ). Agree d k IsValue (enter_code (call (suc n)) vs g (function_in r)) (enter_code (call (suc m)) vs g (function_in r))) (sym c.reads)
    (enter_up d (call (suc n)) (call (suc m)) (call_a n m (suc d) (omega (arith, p)) (omega (arith, p'))) k f (bound_values f vs g) tree.0.0 tree.0.2 (bound_names k f vs g h e))

-- ---- what a run does

all_agree : (n : ℕ) (s : Moment) → most_depth ≤ n + s.depth → CallsAgree s.depth (call (suc n)) all_calls
all_agree n s p = call_a n most_depth s.depth p (omega arith)

pub expressions_call_on : (n : ℕ) (e : Expression) (s : Moment) → ExpressionSound e → Holds s → most_depth ≤ n + s.depth → expr (call (suc n)) e s ≡ expr all_calls e s
expressions_call_on n e s h g p = (expr_a s.depth (call (suc n)) all_calls (all_agree n s p) (length s.nodes) e h).same.go (length s.nodes) (omega arith) s g (omega arith)

pub statements_call_on : (n : ℕ) (ss : Statements) (s : Moment) → StatementsSound ss → Holds s → most_depth ≤ n + s.depth → acts (call (suc n)) ss s ≡ acts all_calls ss s
statements_call_on n ss s h g p = (acts_a s.depth (call (suc n)) all_calls (all_agree n s p) (length s.nodes) ss h).same.go (length s.nodes) (omega arith) s g (omega arith)
