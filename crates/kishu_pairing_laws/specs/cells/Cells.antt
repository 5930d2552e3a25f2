-- Calls of functions and cells go alike.
use Rattle.std.specs.Prelude.{Option, List, Some, None, ℕ, zero, codes, suc, [], ◌∷◌}
use Rattle.std.specs.Str.{chars}
use Rattle.std.proofs.Common.{refl}
use Rattle.kishu_language.specs.reading.ReadText.{read_chars}
use Rattle.kishu_language.specs.trees.Tree as t
use Rattle.kishu_language.specs.trees.Tree.{Definition, Statement}
use Rattle.kishu_meaning.specs.calls.Callees.{Given}
use Rattle.kishu_meaning.specs.calls.Functions.{function_in}
use Rattle.kishu_meaning.specs.cells.Meaning.{result_of, Calls, enter, enter_code, call, all_calls, last_act, cell}
use Rattle.kishu_meaning.specs.cells.Ways.{Flow}
use Rattle.kishu_meaning.specs.moments.Moment.{most_depth}
use Rattle.kishu_meaning.specs.values.Values.{none, Names, Value}
use Rattle.kishu_pairing_laws.specs.World.{World, SameValue, plain, BothOrNeither, SameEntries, GoAlike, both, neither, SameValues, Is}
use Rattle.kishu_pairing_laws.specs.moments.Steps.{bind_alike, deeper_alike, give_grows, quiet, give_quiet, raise_quiet, then_alike, tick_alike}
use Rattle.kishu_pairing_laws.specs.values.Kinds.{bad_arguments_quiet}
use Rattle.kishu_pairing_laws.specs.calls.Callees.{SameGiven}
use Rattle.kishu_pairing_laws.specs.cells.Ways.{SameFlow, both_onward, both_broke, both_continued, both_returned}
use Rattle.kishu_pairing_laws.specs.calls.Functions.{frame_alike, bound_same}
use Rattle.kishu_pairing_laws.specs.cells.Parts.{no_place_quiet, shown_text_quiet}
use Rattle.kishu_pairing_laws.specs.growing.Parts.{shown_grows}
use Rattle.kishu_pairing_laws.specs.growing.Expressions.{CallsGrow}
use Rattle.kishu_pairing_laws.specs.growing.Cells.{call_grows, all_grow, cell_grows}
use Rattle.kishu_pairing_laws.specs.cells.Expressions.{CallsAlike, expr_alike}
use Rattle.kishu_pairing_laws.specs.cells.Statements.{in_block_alike, acts_alike, act_alike}

module _ (W : World) where
  -- ---- calls

  result_same : {f g : Flow} → SameFlow W f g → SameValue W (result_of f) (result_of g)
  result_same both_onward = plain none tt
  result_same both_broke = plain none tt
  result_same both_continued = plain none tt
  result_same (both_returned vw) = vw

  module _ (sorted : W.Sorted) where
    enter_alike : (calls : Calls) (grow : CallsGrow calls) (alike : CallsAlike W calls) (d : Definition) {o p : Option Names} → BothOrNeither (SameEntries W) o p → GoAlike W (SameValue W) (enter calls d o) (enter calls d p)
    enter_alike calls grow alike d (both z) = bind_alike W (deeper_alike W (frame_alike W (record { own = refl; values = z }) (in_block_alike W sorted d.body (acts_alike W sorted calls grow alike d.body)))) (λ f. give_grows _) (λ f g fg. quiet W (give_quiet W (result_same fg)))
    enter_alike calls grow alike d neither = quiet W (bad_arguments_quiet W d.title)

    enter_code_alike : (calls : Calls) (grow : CallsGrow calls) (alike : CallsAlike W calls) (o : Option Definition) {vs ws : List Value} {g h : Given} → SameValues W vs ws → SameGiven W g h → GoAlike W (SameValue W) (enter_code calls vs g o) (enter_code calls ws h o)
    enter_code_alike calls grow alike (Some d) z gh = enter_alike calls grow alike d (bound_same W d z gh)
    enter_code_alike calls grow alike None z gh = quiet W (no_place_quiet W)

    pub call_alike : (n : ℕ) → CallsAlike W (call n)
    unfolding call
    call_alike zero profile code vs ws g h z gh = quiet W (raise_quiet W _ (codes "depth limit reached"))
    call_alike (suc n) profile code vs ws g h z gh = enter_code_alike (call n) (call_grows n) (call_alike n) (function_in (read_chars profile (chars code))) z gh

    pub all_alike : CallsAlike W all_calls
    all_alike = call_alike (suc most_depth)

    -- ---- a cell

    last_act_alike : (s : Statement) → GoAlike W Is (last_act s) (last_act s)
    last_act_alike (t.assign [] e) = bind_alike W (expr_alike W sorted all_calls all_grow all_alike e) shown_grows (λ v w vw. quiet W (shown_text_quiet W vw))
    last_act_alike s = then_alike W (act_alike W sorted all_calls all_grow all_alike s) (give_grows _) (quiet W (give_quiet W refl))

    pub cell_alike : (ss : List Statement) → GoAlike W Is (cell ss) (cell ss)
    cell_alike [] = quiet W (give_quiet W refl)
    cell_alike (s ∷ []) = tick_alike W (last_act_alike s)
    cell_alike (s ∷ r ∷ ss) = then_alike W (tick_alike W (act_alike W sorted all_calls all_grow all_alike s)) (cell_grows (r ∷ ss)) (cell_alike (r ∷ ss))
