-- Calls of functions, cells and runs keep what holds of every state.
use Rattle.std.specs.Prelude.{◌≡◌, ℕ, zero, suc, ◌≤◌, Bool, true, false, if◌then◌else◌, List, [], ◌∷◌, length, codes, Option, Some, None, Ok, Err, Result}
use Rattle.std.specs.List.{AllByRecursion as Each}
use Rattle.std.specs.List.Sorted.{IsStrictlySortedBy}
use Rattle.std.specs.Str.{IsUtf8, chars}
use Rattle.std.proofs.Common.{refl, sym, subst, arith}
use Rattle.kishu_language.specs.Limits.{longest_text}
use Rattle.kishu_language.specs.declared.profile.Profile.{Profile}
use Rattle.kishu_language.specs.grammar.Refusals.{titles as parameter_titles}
use Rattle.kishu_language.specs.trees.Tree.{Text, Parameter, Statement, Statements, Definition, no_statements, more_statements, statements}
use Rattle.kishu_language.specs.trees.Tree as t
use Rattle.kishu_language.specs.reading.ReadText.{read_chars}
use Rattle.kishu_meaning.specs.values.Values.{Value, none, Node, Names, find, State, empty}
use Rattle.kishu_meaning.specs.moments.Moment.{Moment, Thrown, Ends, ◌>>=◌, ◌>>◌, give, most_depth}
use Rattle.kishu_meaning.specs.comparing.Show.{repr_of}
use Rattle.kishu_meaning.specs.calls.Callees.{Given}
use Rattle.kishu_meaning.specs.calls.Functions.{own_names, with_defaults, arguments_fit, or_default, with_value, values_for, bound_values, function_in}
use Rattle.kishu_meaning.specs.cells.Ways.{Flow, onward, broke, continued, returned}
use Rattle.kishu_meaning.specs.cells.Meaning.{Calls, act, result_of, enter, enter_code, call, all_calls, shown_text, last_act, cell, begun, uncaught, finished, run_tree, run}
use Rattle.kishu_objects.specs.State.{IsValue, AreValues, IsName, IsNode, values_in, AreNames, IsState, Grown}
use Rattle.kishu_state_laws.specs.trees.Sound.{StatementSound, StatementsSound}
use Rattle.kishu_state_laws.specs.trees.Read.{tree_sound}
use Rattle.kishu_state_laws.specs.keeping.Logic.{Maybe, Any, IsMoment, AreUnder, After, SafeEnds, fines, raiseds, stoppeds, Safe, ends_later, bind_s, with_s, then_s, so_s, any_s, value_s, raise_s, tick_s, deeper_s, grown_self}
use Rattle.kishu_state_laws.specs.keeping.Texts.{text_title}
use Rattle.kishu_state_laws.specs.keeping.Counting.{repr_s, show_thrown_s}
use Rattle.kishu_state_laws.specs.keeping.Leaves.{MaybeValue, bad_arguments_s}
use Rattle.kishu_state_laws.specs.keeping.Callees.{IsGiven}
use Rattle.kishu_state_laws.specs.keeping.Names.{value_of_name, bound_values_in, frame_s}
use Rattle.kishu_state_laws.specs.keeping.Flows.{IsFlow}
use Rattle.kishu_state_laws.specs.keeping.Parts.{in_block_s, CallsSafe}
use Rattle.kishu_state_laws.specs.keeping.Expressions.{expr_s}
use Rattle.kishu_state_laws.specs.keeping.Acts.{act_s, acts_s}

-- ---- what a call binds

abbrev AreDefaults : ℕ → List (Text × Option Value) → Type 0
AreDefaults k = Each (λ (p : Text × Option Value). MaybeValue k p.1)

defaults_values : (k : ℕ) (ps : List Parameter) (vs : List Value) → AreValues k vs → AreDefaults k (with_defaults ps vs)
defaults_values k [] vs h = tt
defaults_values k ((x, None) ∷ ps) vs h = (tt, defaults_values k ps vs h)
defaults_values k ((x, Some e) ∷ ps) [] h = (tt, defaults_values k ps [] h)
defaults_values k ((x, Some e) ∷ ps) (v ∷ vs) h = (h.0, defaults_values k ps vs h.1)

or_default_value : (k : ℕ) (o p : Option Value) → MaybeValue k o → MaybeValue k p → MaybeValue k (or_default o p)
or_default_value k (Some v) p h g = h
or_default_value k None p h g = g

abbrev pub MaybeNames : ℕ → Option Names → Type 0
MaybeNames k = Maybe (λ (f : Names). AreValues k (values_in f))

with_value_names : (k : ℕ) (x : Text) (o : Option Value) (f : Option Names) → MaybeValue k o → MaybeNames k f → MaybeNames k (with_value x o f)
with_value_names k x (Some v) (Some f) h g = bound_values_in k x v f h g
with_value_names k x (Some v) None h g = tt
with_value_names k x None f h g = tt

values_names : (k : ℕ) (ps : List (Text × Option Value)) (vs : List Value) (f : Names) → AreDefaults k ps → AreValues k vs → AreValues k (values_in f) → MaybeNames k (values_for ps vs f)
values_names k [] vs f d h g = tt
values_names k (p ∷ ps) (v ∷ vs) f d h g = with_value_names k p.0 (Some v) (values_for ps vs f) h.0 (values_names k ps vs f d.1 h.1 g)
values_names k (p ∷ ps) [] f d h g = with_value_names k p.0 (or_default (find p.0 f) p.1) (values_for ps [] f) (or_default_value k (find p.0 f) p.1 (value_of_name k p.0 f g) d.0) (values_names k ps [] f d.1 tt g)

if_names : (k : ℕ) (b : Bool) (o : Option Names) → MaybeNames k o → MaybeNames k (if b then o else None)
if_names k true o h = h
if_names k false o h = tt

pub bound_names : (k : ℕ) (d : Definition) (vs : List Value) (g : Given) → AreValues k vs → IsGiven k g → MaybeNames k (bound_values d vs g)
bound_names k d vs g h e = if_names k (arguments_fit (parameter_titles d.parameters) g) (values_for (with_defaults d.parameters vs) g.plain g.named) (values_names k (with_defaults d.parameters vs) g.plain g.named (defaults_values k d.parameters vs h) e.plain e.named.values)

-- ---- calls

pub result_value : (k : ℕ) (f : Flow) → IsFlow k f → IsValue k (result_of f)
result_value k (returned v) h = h
result_value k onward h = tt
result_value k broke h = tt
result_value k continued h = tt

enter_s : (calls : Calls) (cs : CallsSafe calls) (k : ℕ) (d : Definition) (o : Option Names) → IsName d.title → StatementsSound d.body → MaybeNames k o → Safe k IsValue (enter calls d o)
enter_s calls cs k d (Some f) n b h = bind_s (deeper_s (frame_s IsFlow (record { own = own_names d; values = f }) h (in_block_s d.body (acts_s calls cs k d.body b)))) (λ l le x q. value_s (result_of x) (result_value l x q))
enter_s calls cs k d None n b h = bad_arguments_s d.title (text_title d.title n)

pub call_s : (n : ℕ) → CallsSafe (call n)
unfolding call
call_s zero k profile code vs g c h e = raise_s _ (codes "depth limit reached") refl refl
call_s (suc n) k profile code vs g c h e =
    let d = c.function in
    let tree = tree_sound profile code c.utf8 c.short (t.define d.title d.parameters d.body code ∷ []) c.reads in
    subst (λ (r : Result (List Statement) ℕ). Safe k IsValue (enter_code (call n) vs g (function_in r))) (sym c.reads) (enter_s (call n) (call_s n) k d (bound_values d vs g) tree.0.0 tree.0.2 (bound_names k d vs g h e))

pub all_safe : CallsSafe all_calls
all_safe = call_s (suc most_depth)

-- ---- cells

shown_rest : {k : ℕ} (v : Value) → IsValue k v → Safe k Any (repr_of v >>= λ cs. give (Some cs))
shown_rest v h = with_s (repr_s v h) (λ cs q. any_s)

shown_s : {k : ℕ} (v : Value) → IsValue k v → Safe k Any (shown_text v)
shown_s none h = any_s
shown_s v h = shown_rest v h

last_act_s : (k : ℕ) (s : Statement) → StatementSound s → Safe k Any (last_act s)
last_act_s k (t.assign [] e) h = bind_s (expr_s all_calls all_safe k e h.1) (λ l le v q. shown_s v q)
last_act_s k s h = last_rest k s h
  where
    last_rest : (k : ℕ) (s : Statement) → StatementSound s → Safe k Any (act all_calls s >> give {A = Option (List ℕ)} None)
    last_rest k s h = then_s (act_s all_calls all_safe k s h) any_s

pub cell_s : (k : ℕ) (ss : List Statement) → StatementsSound (statements ss) → Safe k Any (cell ss)
cell_s k [] h = any_s
cell_s k (s ∷ []) h = then_s tick_s (last_act_s k s h.0)
cell_s k (s ∷ (r ∷ ss)) h = then_s (then_s tick_s (act_s all_calls all_safe k s h.0)) (cell_s k (r ∷ ss) h.1)

-- ---- runs

-- A state, whose nodes are those from before and new ones behind them; where those were all under the profile, so are all.
pub record Follows (profile : Profile) (ns : List Node) (s : State) : Type 0 where
  pub state : IsState s
  pub grown : Grown ns s.nodes
  pub under : AreUnder profile ns → AreUnder profile s.nodes

abbrev state_at : Moment → State
state_at s = record { names = s.names; nodes = s.nodes }

follows : {n : ℕ} {ns : List Node} {deep : ℕ} {profile : Profile} (l : ℕ) (s : Moment) → After n ns deep profile s → IsMoment l s → Follows profile ns (state_at s)
follows l s after g = record {
  state = record { names = subst (λ k. AreNames k s.names) g.many g.names; nodes = subst (λ k. Each (IsNode k) s.nodes) g.many g.nodes };
  grown = after.1;
  under = after.4;
}

uncaught_follows : (x : Thrown) {k n : ℕ} {ns : List Node} {deep : ℕ} {profile : Profile} {e : Ends (List ℕ)} → SafeEnds k n ns deep profile Any e → Follows profile ns (uncaught x e).state
uncaught_follows x (fines l {s = s} le after q g) = follows l s after g
uncaught_follows x (raiseds l {s = s} le after q g) = follows l s after g
uncaught_follows x (stoppeds l {s = s} le after g) = follows l s after g

finished_follows : {k n : ℕ} {ns : List Node} {deep : ℕ} {profile : Profile} {e : Ends (Option (List ℕ))} → SafeEnds k n ns deep profile Any e → Follows profile ns (finished e).state
finished_follows (fines l {s = s} le after q g) = follows l s after g
finished_follows (raiseds l {x = x} {s = s} le after q g) = uncaught_follows x (ends_later s le after ((so_s (show_thrown_s {k = l} x q) (λ m cs r. tt)).go l (omega arith) s g))
finished_follows (stoppeds l {s = s} le after g) = follows l s after g

begun_is_moment : (profile : Profile) (s : State) → IsState s → IsMoment (length s.nodes) (begun profile s)
begun_is_moment profile s h = record { many = refl; nodes = h.nodes; names = h.names; locals = tt; handled = tt; budget = omega arith }

tree_follows : (profile : Profile) (o : Result (List Statement) ℕ) (s : State) → ((tree : List Statement) → o ≡ Ok tree → StatementsSound (statements tree)) → IsState s → Follows profile s.nodes (run_tree profile o s).state
tree_follows profile (Ok tree) s sound h = finished_follows ((cell_s (length s.nodes) tree (sound tree refl)).go (length s.nodes) (omega arith) (begun profile s) (begun_is_moment profile s h))
tree_follows profile (Err line) s sound h = record { state = h; grown = grown_self s.nodes; under = λ u. u }

pub run_follows : (profile : Profile) (source : List ℕ) (s : State) → IsUtf8 source → length source ≤ longest_text → IsState s → Follows profile s.nodes (run profile source s).state
unfolding run
run_follows profile source s utf8 small h = tree_follows profile (read_chars profile (chars source)) s (tree_sound profile source utf8 small) h

-- The empty state is one.
pub empty_is_state : IsState empty
unfolding IsStrictlySortedBy
empty_is_state = record { names = record { titles = tt; rise = tt; values = tt }; nodes = tt }
