-- What calls of functions and cells have accessed stays recorded.
use Rattle.std.specs.Prelude.{Option, Some, None, List, ℕ, zero, suc, [], ◌∷◌}
use Rattle.std.specs.Str.{chars}
use Rattle.kishu_language.specs.reading.ReadText.{read_chars}
use Rattle.kishu_language.specs.trees.Tree as t
use Rattle.kishu_language.specs.trees.Tree.{Definition, Statement}
use Rattle.kishu_meaning.specs.calls.Callees.{Given}
use Rattle.kishu_meaning.specs.calls.Functions.{bound_values, function_in}
use Rattle.kishu_meaning.specs.cells.Meaning.{Calls, enter, enter_code, call, all_calls, last_act, cell}
use Rattle.kishu_meaning.specs.moments.Moment.{most_depth}
use Rattle.kishu_meaning.specs.values.Values.{Names, Value}
use Rattle.kishu_pairing_laws.specs.World.{Grows}
use Rattle.kishu_pairing_laws.specs.moments.Steps.{bind_grows, deeper_grows, give_grows, throw_grows, then_grows}
use Rattle.kishu_pairing_laws.specs.growing.Parts.{no_place_grows, tick_grows, shown_grows}
use Rattle.kishu_pairing_laws.specs.calls.Functions.{frame_grows}
use Rattle.kishu_pairing_laws.specs.growing.Expressions.{CallsGrow, expr_grows}
use Rattle.kishu_pairing_laws.specs.growing.Statements.{in_block_grows, acts_grows, act_grows}

module _ (calls : Calls) (grow : CallsGrow calls) where
  enter_grows : (d : Definition) (o : Option Names) → Grows (enter calls d o)
  enter_grows d (Some vs) = bind_grows (deeper_grows (frame_grows _ (in_block_grows d.body (acts_grows calls grow d.body)))) (λ f. give_grows _)
  enter_grows d None = throw_grows _

  pub enter_code_grows : (vs : List Value) (given : Given) (o : Option Definition) → Grows (enter_code calls vs given o)
  enter_code_grows vs given (Some d) = enter_grows d (bound_values d vs given)
  enter_code_grows vs given None = no_place_grows

pub call_grows : (n : ℕ) → CallsGrow (call n)
unfolding call
call_grows zero profile code vs given = throw_grows _
call_grows (suc n) profile code vs given = enter_code_grows (call n) (call_grows n) vs given (function_in (read_chars profile (chars code)))

pub all_grow : CallsGrow all_calls
all_grow = call_grows (suc most_depth)

pub last_act_grows : (s : Statement) → Grows (last_act s)
last_act_grows (t.assign [] e) = bind_grows (expr_grows all_calls all_grow e) shown_grows
last_act_grows s = then_grows (act_grows all_calls all_grow s) (give_grows _)

pub cell_grows : (ss : List Statement) → Grows (cell ss)
cell_grows [] = give_grows _
cell_grows (s ∷ []) = then_grows tick_grows (last_act_grows s)
cell_grows (s ∷ r ∷ ss) = then_grows (then_grows tick_grows (act_grows all_calls all_grow s)) (cell_grows (r ∷ ss))
