-- Calls of functions, cells and whole runs keep node numbers those of nodes.
use Rattle.std.specs.Prelude.{ℕ, Option, Some, None, List, zero, codes, suc, [], ◌∷◌, Result, Ok, length, Err}
use Rattle.std.specs.Str.{chars}
use Rattle.std.proofs.Common.{subst, arith, refl}
use Rattle.kishu_language.specs.declared.profile.Profile.{Profile}
use Rattle.kishu_language.specs.reading.ReadText.{read_chars}
use Rattle.kishu_language.specs.trees.Tree as t
use Rattle.kishu_language.specs.trees.Tree.{Definition, Statement}
use Rattle.kishu_meaning.specs.calls.Callees.{Given}
use Rattle.kishu_meaning.specs.calls.Functions.{own_names, bound_values, function_in}
use Rattle.kishu_meaning.specs.cells.Meaning.{result_of, Calls, enter, enter_code, call, all_calls, last_act, act, cell, uncaught, finished, run_tree, begun, run}
use Rattle.kishu_meaning.specs.cells.Ways.{Flow, returned, onward, broke, continued}
use Rattle.kishu_meaning.specs.moments.Moment.{most_depth, give, ◌>>◌, Moment, Thrown, Ends}
use Rattle.kishu_meaning.specs.values.Values.{Names, Value, State}
use Rattle.kishu_soundness_laws.specs.Below.{Below, AllBelow, Any, StateBelow, Each, NodeBelow, EntriesBelow}
use Rattle.kishu_soundness_laws.specs.moments.Steps.{IsSafe, bind_safe, deeper_safe, value_safe, raise_safe, then_safe, any_safe, tick_safe, IsGood, EndsSafe, ends_fine, ends_raised, ends_stopped}
use Rattle.kishu_soundness_laws.specs.values.Kinds.{bad_arguments_safe}
use Rattle.kishu_soundness_laws.specs.calls.Callees.{GivenBelow}
use Rattle.kishu_soundness_laws.specs.cells.Ways.{FlowBelow}
use Rattle.kishu_soundness_laws.specs.calls.Functions.{NamesMaybe, frame_safe, bound_names}
use Rattle.kishu_soundness_laws.specs.cells.Parts.{no_place_safe, shown_safe}
use Rattle.kishu_soundness_laws.specs.cells.Expressions.{CallsAreSafe, expr_safe}
use Rattle.kishu_soundness_laws.specs.cells.Statements.{in_block_safe, acts_safe, act_safe}
use Rattle.kishu_soundness_laws.specs.comparing.Show.{show_thrown_safe}

result_below : (k : ℕ) (f : Flow) → FlowBelow k f → Below k (result_of f)
result_below k (returned v) h = h
result_below k onward h = tt
result_below k broke h = tt
result_below k continued h = tt

enter_safe : (calls : Calls) (safe : CallsAreSafe calls) (k : ℕ) (d : Definition) (o : Option Names) → NamesMaybe k o → IsSafe k Below (enter calls d o)
enter_safe calls safe k d (Some f) h = bind_safe (deeper_safe (frame_safe FlowBelow (record { own = own_names d; values = f }) h (in_block_safe d.body (acts_safe calls safe k d.body)))) (λ l le x q. value_safe (result_of x) (result_below l x q))
enter_safe calls safe k d None h = bad_arguments_safe d.title

enter_code_safe : (calls : Calls) (safe : CallsAreSafe calls) (k : ℕ) (vs : List Value) (g : Given) (o : Option Definition) → AllBelow k vs → GivenBelow k g → IsSafe k Below (enter_code calls vs g o)
enter_code_safe calls safe k vs g (Some d) h e = enter_safe calls safe k d (bound_values d vs g) (bound_names k d vs g h e)
enter_code_safe calls safe k vs g None h e = no_place_safe

call_safe : (n : ℕ) → CallsAreSafe (call n)
unfolding call
call_safe zero k profile code vs g h e = raise_safe _ (codes "depth limit reached")
call_safe (suc n) k profile code vs g h e = enter_code_safe (call n) (call_safe n) k vs g (function_in (read_chars profile (chars code))) h e

all_safe : CallsAreSafe all_calls
all_safe = call_safe (suc most_depth)

last_act_safe : (k : ℕ) (s : Statement) → IsSafe k Any (last_act s)
last_act_safe k (t.assign [] e) = bind_safe (expr_safe all_calls all_safe k e) (λ l le v q. shown_safe v)
last_act_safe k s = last_rest k s
  where
    last_rest : (k : ℕ) (s : Statement) → IsSafe k Any (act all_calls s >> give {A = Option (List ℕ)} None)
    last_rest k s = then_safe (act_safe all_calls all_safe k s) any_safe

cell_safe : (k : ℕ) (ss : List Statement) → IsSafe k Any (cell ss)
cell_safe k [] = any_safe
cell_safe k (s ∷ []) = then_safe tick_safe (last_act_safe k s)
cell_safe k (s ∷ (r ∷ ss)) = then_safe (then_safe tick_safe (act_safe all_calls all_safe k s)) (cell_safe k (r ∷ ss))

abbrev state_at : Moment → State
state_at s = record { names = s.names; nodes = s.nodes }

good_state : (l : ℕ) (s : Moment) → IsGood l s → StateBelow (state_at s)
good_state l s g = record { nodes = subst (λ k. Each (NodeBelow k) s.nodes) g.many g.nodes; names = subst (λ k. EntriesBelow k s.names) g.many g.names }

uncaught_below : (x : Thrown) {k : ℕ} {e : Ends (List ℕ)} → EndsSafe k Any e → StateBelow (uncaught x e).state
uncaught_below x (ends_fine l {s = s} le q g) = good_state l s g
uncaught_below x (ends_raised l {s = s} le q g) = good_state l s g
uncaught_below x (ends_stopped l {s = s} le g) = good_state l s g

finished_below : {k : ℕ} {e : Ends (Option (List ℕ))} → EndsSafe k Any e → StateBelow (finished e).state
finished_below (ends_fine l {s = s} le q g) = good_state l s g
finished_below (ends_raised l {x = x} {s = s} le q g) = uncaught_below x ((show_thrown_safe {k = l} x).go l (omega arith) s g)
finished_below (ends_stopped l {s = s} le g) = good_state l s g

tree_below : (profile : Profile) (tree : Result (List Statement) ℕ) (s : State) → StateBelow s → StateBelow (run_tree profile tree s).state
tree_below profile (Ok tree) s h = finished_below ((cell_safe (length s.nodes) tree).go (length s.nodes) (omega arith) (begun profile s) (record { many = refl; nodes = h.nodes; names = h.names; locals = tt; handled = tt }))
tree_below profile (Err line) s h = h

pub run_below : (profile : Profile) (source : List ℕ) (s : State) → StateBelow s → StateBelow (run profile source s).state
unfolding run
run_below profile source s h = tree_below profile (read_chars profile (chars source)) s h
