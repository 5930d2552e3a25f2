-- What the functions of the cycle promise.
use Rattle.kishu_language.specs.Limits.{height_limit, longest_text}
use Rattle.std.proofs.Common.{◌≡◌, ◌∙◌, ◌+◌, ◌++◌, ◌∷◌, [], ap, sym, subst, arith, map, max, drop, length, length-append, IsTrue, ℕ, rules, not, Option, ◌*◌, ◌≢◌, true, false, false-eqb, ◌<◌, List, length-drop, refl, ◌≤◌, ◌-◌, Some, None, suc, ◌^◌}
use Rattle.std.proofs.lemmas.List.{map-append, drop_all, length_push, nil_from_length}
use Rattle.std.proofs.lemmas.Result.{err_from_is_err_and}
use Rattle.std.specs.Prelude.{MatchOption, codes, slice_get, option_map}
use Rattle.std.specs.Rc.{rc_str_bytes}
use Rattle.std.specs.declared.alloc.Global.{Global}
use Rattle.std.specs.declared.rc.RcStr.{RcStr}
use Rattle.std.specs.declared.vec.Vec.{Vec}
use Rattle.kishu_meaning.specs.calls.Callees.{Given, Part, settled}
use Rattle.kishu_language.specs.trees.Fits.{ArgumentsFit, keywords, OperandsFit, LinksFit, ExpressionsFit, PairsFit, StatementsFit, ParametersFit}
use Rattle.kishu_meaning.specs.calls.Functions.{bound_values, own_names}
use Rattle.kishu_language.specs.trees.Height.{of_expression, of_arguments, of_operands, of_links, of_expressions, of_pairs, of_bound, of_trailers, of_statements, of_parameters}
use Rattle.kishu_meaning.specs.cells.Meaning.{call, arguments, operands, first_that, inner_values, pairs, expr, part, trailer, trailers, nodes, values, Place, no_place, place, place_by, store_each, acts, defaults, in_block, store, act}
use Rattle.kishu_meaning.specs.moments.Moment.{Ends, and_then, give, ◌>>=◌, fine, Locals, assign, make, ◌>>◌}
use Rattle.kishu_language.specs.tokens.Names.{is_name}
use Rattle.kishu_language.specs.trees.Fits.{IsCodeOf}
use Rattle.kishu_language.specs.grammar.Refusals.{all_differ}
use Rattle.kishu_meaning.specs.values.Classes.{syntax_error_class}
use Rattle.kishu_meaning.specs.values.Sound.{are_sound, with_default, is_sound}
use Rattle.kishu_language.specs.trees.Tree.{Text, Arguments, expression_of, Operands, Links, Expressions, more_expressions, Pairs, Trailer, bound_of, value_of as tree_value, Definition, definition_of, Statements, parameter_of, Parameter}
use Rattle.kishu_meaning.specs.values.Values.{Value, value_of, Names, function, node, Node}
use Rattle.kishu_meaning.specs.cells.Ways.{Flow, broke, continued, onward, returned, walk_along, walk_on, turns}
use Rattle.kishu_language.specs.declared.tree.Def.{Def}
use Rattle.kishu_language.specs.declared.tree.Expr.{Expr}
use Rattle.kishu_language.specs.declared.tree.Pair.{Pair}
use Rattle.kishu_access.specs.Access.{place_of, is_sound_maybe}
use Rattle.kishu_items.specs.Walks.{walk_of, walk_more}
use Rattle.kishu_calls.specs.Calls.{given_of, named_of, is_sound_given, IsFunction, owed, part_of, flow_of}
use Rattle.kishu_calls.specs.Forms.{is_function}
use Rattle.kishu_language.specs.trees.Rows.{primary_is, attribute_is, call_is, index_is, slice_is}
use Rattle.kishu_language.specs.trees.Parts.{arguments_of, operands_of, links_of, expressions_of, pairs_of, trailer_of, trailers_of, statements_of}
use Rattle.kishu_statements.proofs.+run.Goals.{calls::arguments_given-in-Plain+in_ok-deeper_value-in-Plain+in_ok-push-in-Plain, calls::arguments_given-in-Keyword+in_ok-value-in-Keyword+in_ok-clone-in-Keyword+in_ok-push-in-Keyword, expressions::deciding_value-then-i-operands-via-then-i-operands, expressions::deciding_value-then-i-operands-via-else-i-operands+then-truth-which, primaries::part_behind-in-Attribute, primaries::part_behind-in-Call, primaries::part_behind-in-Index, primaries::part_behind-in-Slice, targets::store_each-then-i-items+in_ok-store, targets::store_each-else-i-items, statements::default_values-in-Some+in_ok-deeper_value+in_ok-push, statements::default_values-in_default, loops::run_turns-in-Onward, loops::run_turns-in-Continued, loops::run_while-in-Onward, loops::run_while-in-Continued}
use Rattle.kishu_statements.proofs.Arguments.{plain_here, keyword_here, plain_on, keyword_on, plain_fails, keyword_fails, plain_pushed, named_pushed, differ_on, differ_now, with_plain, with_named, given_as}
use Rattle.kishu_statements.proofs.Arms.{arm_fails, arms_fit, arms_low, next_arm, no_arm, this_arm}
use Rattle.kishu_statements.proofs.Bodies.{title_is, called_bound, called_refused, body_is, sound_left, entered_fine, entered_fails}
use Rattle.kishu_statements.proofs.Calling.{AreSoundNames, bound_sound}
use Rattle.kishu_statements.proofs.Defining.{parameters_are}
use Rattle.kishu_statements.proofs.Displaying.{pairs_on, pair_pushed, seen_pairs}
use Rattle.kishu_statements.proofs.Functions.{function_holds, called_node, defined_code}
use Rattle.kishu_statements.proofs.Handlers.{handlers_fit, handlers_low, not_this, not_told, this_one}
use Rattle.kishu_statements.proofs.Joined.{joined}
use Rattle.kishu_statements.proofs.Leaving.{block_is}
use Rattle.kishu_statements.proofs.Lists.{pushed_values, compared_linked, pushed_sound, inner_values_on, values_on}
use Rattle.kishu_statements.proofs.Looping.{operands_on, operand_fails, operand_tick_fails, operator_fails, paid_on, links_on, link_fails, link_tick_fails, comparison_fails, first_fails, first_decided, first_open, begun, all_made, pairs_fail, pairs_fail_behind}
use Rattle.kishu_statements.proofs.Nested.{nested_gives}
use Rattle.kishu_statements.proofs.Places.{before_fits, before_low, last_fits, last_low, place_none, place_split, split_trailers}
use Rattle.kishu_statements.proofs.Trailing.{owes_reads_on, Found, found_ends, found_fails, found_on, leaves_more, moved, owing_more, room_found, sound_found, trailer_fits, trailer_here, trailer_low, primary_fails, primary_gives}
use Rattle.kishu_statements.proofs.Remaining.{expressions_fit, expressions_low, rest_fits, rest_low, store_ends, store_fails, stored, targets_end, targets_here, targets_rest, pattern_fails, pattern_gives, targets_are, parameters_fit, parameters_low, with_count, with_value, without_count, without_default}
use Rattle.kishu_statements.proofs.Rests.{operands_here, links_here, expressions_here, pairs_here}
use Rattle.kishu_statements.proofs.Turns.{for_told, item_fails, put_fails, step_fails, walk_ends, walk_fails, walked, body_fails, no_turn, test_fails, tick_fails, turned, while_told}
use Rattle.kishu_statements.proofs.Walked.{def_defaults_fail, def_ends, for_gives, for_part_fails, for_walk_fails}
use Rattle.kishu_statements.specs.Forms.{linked}
use Rattle.kishu_items.specs.Gathering.{sound_at}
use Rattle.kishu_machine.specs.Composing.{grown_on, grown_none, grown_by_more, fails_on, gives_on}
use Rattle.kishu_machine.specs.Frames.{frame_of, names_of, locals_of, is_sound_run}
use Rattle.kishu_machine.specs.Lists.{value_pairs, values_in}
use Rattle.kishu_machine.specs.Machine.{Fails, moment_of, GrownBy, Gives, ReadsBy}
use Rattle.kishu_machine.specs.Raising.{raises_text}
use Rattle.kishu_machine.specs.SoundMore.{sound_more, sound_more_pairs, handled_in_run, run_with_handled, sound_more_handled, sound_more_thrown}
use Rattle.kishu_machine.specs.declared.frame.Frame.{Frame}
use Rattle.kishu_machine.specs.declared.machine.Machine.{Machine}
use Rattle.kishu_meaning.specs.declared.value.Value as rust
use Rattle.kishu_language.specs.declared.tree.Argument as rust_argument
use Rattle.kishu_calls.specs.declared.ways.Flow as rust_flow
use Rattle.kishu_calls.specs.declared.callees.Given as rust_given
use Rattle.kishu_language.specs.declared.tree.Trailer as rust_trailer
use Rattle.kishu_language.specs.trees.Tree as t
use Rattle.kishu_statements.proofs.+run.Goals as goal

-- ---- arguments_given

pub calls::arguments_given-deeper_value-requires : goal.calls::arguments_given-deeper_value-requires
calls::arguments_given-deeper_value-requires g falls c κs within = (
  (let i = c.loop-argument.argument-index in
      let here = plain_here c.args.arguments.now i c.argument-item.result (omega arith) c.argument-item.is c.in-Plain.e c.in-Plain.is in
      let k : of_arguments (arguments_of (drop i c.args.arguments.now)) ≡ max (of_expression (expression_of c.in-Plain.e)) (of_arguments (arguments_of (drop (i + 1) c.args.arguments.now))) = ap of_arguments here in
      omega arith),
  (
    search rules,
    (
      (let i = c.loop-argument.argument-index in
          let here = plain_here c.args.arguments.now i c.argument-item.result (omega arith) c.argument-item.is c.in-Plain.e c.in-Plain.is in
          let k : of_arguments (arguments_of (drop i c.args.arguments.now)) ≡ max (of_expression (expression_of c.in-Plain.e)) (of_arguments (arguments_of (drop (i + 1) c.args.arguments.now))) = ap of_arguments here in
          omega arith),
      (
        (let here = plain_here c.args.arguments.now c.loop-argument.argument-index c.argument-item.result (omega arith) c.argument-item.is c.in-Plain.e c.in-Plain.is in
            (subst ArgumentsFit here c.loop-argument.invariant.fits).0),
        search rules,
      ),
    ),
  ),
)

pub calls::arguments_given-returns-in_err-deeper_value-in-Plain-clause-gives : goal.calls::arguments_given-returns-in_err-deeper_value-in-Plain-clause-gives
calls::arguments_given-returns-in_err-deeper_value-in-Plain-clause-gives g falls c =
    let i = c.loop-argument.argument-index in
    let calls = call c.args.calls_left in
    let rest = arguments_of (drop (i + 1) c.args.arguments.now) in
    let done = given_of (record { plain = c.loop-argument.plain; named = c.loop-argument.named }) in
    let s = moment_of c.loop-argument.machine in
    let u = moment_of c.deeper_value.new.machine in
    let f = c.in_err-deeper_value-in-Plain.field-0.0 in
    let p = err_from_is_err_and c.from_residual.result c.from_residual.ensures.1 in
    let here = plain_here c.args.arguments.now i c.argument-item.result (omega arith) c.argument-item.is c.in-Plain.e c.in-Plain.is in
    let is = c.loop-argument.invariant.told ∙ ap (λ (es : Arguments). and_then (arguments calls es s) (λ h. give (joined done h))) here in
    rw (p.1, p.2) (subst (λ (x : Ends Given). Fails {A = Given} f u x) (sym is)
    (plain_fails calls done (expression_of c.in-Plain.e) rest s f u c.in_err-deeper_value-in-Plain.ensures.gives))

pub calls::arguments_given-deeper_value-requires-in-Keyword : goal.calls::arguments_given-deeper_value-requires-in-Keyword
calls::arguments_given-deeper_value-requires-in-Keyword g falls c κs within = (
  (let i = c.loop-argument.argument-index in
      let here = keyword_here c.args.arguments.now i c.argument-item.result (omega arith) c.argument-item.is c.in-Keyword.name c.in-Keyword.e c.in-Keyword.is in
      let k : of_arguments (arguments_of (drop i c.args.arguments.now)) ≡ max (of_expression (expression_of c.in-Keyword.e)) (of_arguments (arguments_of (drop (i + 1) c.args.arguments.now))) = ap of_arguments here in
      omega arith),
  (
    search rules,
    (
      (let i = c.loop-argument.argument-index in
          let here = keyword_here c.args.arguments.now i c.argument-item.result (omega arith) c.argument-item.is c.in-Keyword.name c.in-Keyword.e c.in-Keyword.is in
          let k : of_arguments (arguments_of (drop i c.args.arguments.now)) ≡ max (of_expression (expression_of c.in-Keyword.e)) (of_arguments (arguments_of (drop (i + 1) c.args.arguments.now))) = ap of_arguments here in
          omega arith),
      (
        (let here = keyword_here c.args.arguments.now c.loop-argument.argument-index c.argument-item.result (omega arith) c.argument-item.is c.in-Keyword.name c.in-Keyword.e c.in-Keyword.is in
            (subst ArgumentsFit here c.loop-argument.invariant.fits).0.1),
        search rules,
      ),
    ),
  ),
)

pub calls::arguments_given-returns-in_err-value-in-Keyword-clause-gives : goal.calls::arguments_given-returns-in_err-value-in-Keyword-clause-gives
calls::arguments_given-returns-in_err-value-in-Keyword-clause-gives g falls c =
    let i = c.loop-argument.argument-index in
    let calls = call c.args.calls_left in
    let rest = arguments_of (drop (i + 1) c.args.arguments.now) in
    let done = given_of (record { plain = c.loop-argument.plain; named = c.loop-argument.named }) in
    let s = moment_of c.loop-argument.machine in
    let u = moment_of c.deeper_value-in-Keyword.new.machine in
    let f = c.in_err-value-in-Keyword.field-0.0 in
    let p = err_from_is_err_and c.from_residual-in_err-value-in-Keyword.result c.from_residual-in_err-value-in-Keyword.ensures.1 in
    let here = keyword_here c.args.arguments.now i c.argument-item.result (omega arith) c.argument-item.is c.in-Keyword.name c.in-Keyword.e c.in-Keyword.is in
    let is = c.loop-argument.invariant.told ∙ ap (λ (es : Arguments). and_then (arguments calls es s) (λ h. give (joined done h))) here in
    rw (p.1, p.2) (subst (λ (x : Ends Given). Fails {A = Given} f u x) (sym is)
    (keyword_fails calls done (expression_of c.in-Keyword.e) rest s (rc_str_bytes c.in-Keyword.name) f u c.in_err-value-in-Keyword.ensures.gives))

pub calls::arguments_given-loop-argument-preserved : goal.calls::arguments_given-loop-argument-preserved
calls::arguments_given-loop-argument-preserved g falls c =
    let i = c.loop-argument.argument-index in
    let calls = call c.args.calls_left in
    let rest = arguments_of (drop (i + 1) c.args.arguments.now) in
    let old = c.loop-argument in
    let new = c.match-argument in
    let done = given_of (record { plain = old.plain; named = old.named }) in
    let s = moment_of old.machine in
    let inv = old.invariant in
    let given : rust_given.Given = record { plain = new.plain; named = new.named } in
    elim c.match-argument.branch [
      | calls::arguments_given-in-Plain+in_ok-deeper_value-in-Plain+in_ok-push-in-Plain w ↦ (
          let e = expression_of w.in-Plain.e in
          let v = w.in_ok-deeper_value-in-Plain.field-0 in
          let m2 = w.deeper_value.new.machine in
          let b2 = w.deeper_value.new.steps in
          let gave = w.in_ok-deeper_value-in-Plain.ensures in
          let here = plain_here c.args.arguments.now i c.argument-item.result (omega arith) c.argument-item.is w.in-Plain.e w.in-Plain.is in
          let k : of_arguments (arguments_of (drop i c.args.arguments.now)) ≡ max (of_expression e) (of_arguments rest) = ap of_arguments here in
          let plain_is : map value_of new.plain.items ≡ map value_of old.plain.items ++ value_of v ∷ [] =
          ap (λ (p : Vec rust.Value Global). map value_of p.items) w.plain-is ∙ ap (map value_of) w.in_ok-push-in-Plain.ensures.items ∙ pushed_values old.plain.items v in
          let named_is : named_of new.named.items ≡ named_of old.named.items = ap (λ (p : Vec (RcStr Global × rust.Value) Global). named_of p.items) w.named-is in
          let now : given_of given ≡ with_plain done (value_of v) = given_as plain_is named_is in
          record {
            told =
                inv.told ∙ ap (λ (es : Arguments). and_then (arguments calls es s) (λ h. give (joined done h))) here
                ∙ plain_on calls done e rest s (value_of v) (moment_of m2) gave.gives
                ∙ ap (λ (m : Machine). and_then (arguments calls rest (moment_of m)) (λ k. give (joined (with_plain done (value_of v)) k))) (sym w.machine-is)
                ∙ ap (λ (h : Given). and_then (arguments calls rest (moment_of new.machine)) (λ k. give (joined h k))) (sym now);
            height = omega arith;
            fits = (subst ArgumentsFit here inv.fits).1;
            differ =
                subst (λ (h : Given). IsTrue (all_differ (map (λ k. k.0) h.named ++ keywords rest))) (sym now)
                (subst (λ (es : Arguments). IsTrue (all_differ (map (λ k. k.0) done.named ++ keywords es))) here inv.differ);
            kept =
                subst (λ (m : Machine). GrownBy 0 c.args.machine.now c.args.steps.now m new.steps) (sym w.machine-is)
                (subst (λ (b : ℕ). GrownBy 0 c.args.machine.now c.args.steps.now m2 b) (sym w.steps-is)
                (grown_on 0 0 c.args.machine.now old.machine m2 c.args.steps.now old.steps b2 inv.kept gave.kept));
            reads =
                (let left : new.machine.budget.left ≡ m2.budget.left = ap (λ (m : Machine). m.budget.left) w.machine-is in
                let count : length new.plain.items ≡ length old.plain.items + 1 = ap (λ (p : Vec rust.Value Global). length p.items) w.plain-is ∙ ap length w.in_ok-push-in-Plain.ensures.items ∙ length-append old.plain.items (v ∷ []) in
                omega (arith, inv.reads, gave.reads, left, w.steps-is, count));
            sound =
                subst (λ (m : Machine). IsTrue (is_sound_given (length m.heap) (given_of given))) (sym w.machine-is)
                (subst (λ (h : Given). IsTrue (is_sound_given (length m2.heap) h)) (sym now)
                (plain_pushed (length old.machine.heap) (length m2.heap) gave.kept.0 done inv.sound (value_of v) gave.sound));
          })
      | calls::arguments_given-in-Keyword+in_ok-value-in-Keyword+in_ok-clone-in-Keyword+in_ok-push-in-Keyword w ↦ (
          let x = rc_str_bytes w.in-Keyword.name in
          let e = expression_of w.in-Keyword.e in
          let v = w.in_ok-value-in-Keyword.value in
          let m2 = w.deeper_value-in-Keyword.new.machine in
          let b2 = w.deeper_value-in-Keyword.new.steps in
          let gave = w.in_ok-value-in-Keyword.ensures in
          let here = keyword_here c.args.arguments.now i c.argument-item.result (omega arith) c.argument-item.is w.in-Keyword.name w.in-Keyword.e w.in-Keyword.is in
          let k : of_arguments (arguments_of (drop i c.args.arguments.now)) ≡ max (of_expression e) (of_arguments rest) = ap of_arguments here in
          let fit = subst ArgumentsFit here inv.fits in
          let differ = subst (λ (es : Arguments). IsTrue (all_differ (map (λ k. k.0) done.named ++ keywords es))) here inv.differ in
          let copy = w.in_ok-clone-in-Keyword.field-0 in
          let same : rc_str_bytes copy ≡ x = search rules in
          let plain_is : map value_of new.plain.items ≡ map value_of old.plain.items = ap (λ (p : Vec rust.Value Global). map value_of p.items) w.plain-is in
          let named_is : named_of new.named.items ≡ named_of old.named.items ++ (x, value_of v) ∷ [] =
          ap (λ (p : Vec (RcStr Global × rust.Value) Global). named_of p.items) w.named-is ∙ ap named_of w.in_ok-push-in-Keyword.ensures.items
          ∙ map-append (λ (q : RcStr Global × rust.Value). (rc_str_bytes q.0, value_of q.1)) old.named.items ((copy, v) ∷ [])
          ∙ ap (λ (y : Text). named_of old.named.items ++ (y, value_of v) ∷ []) same in
          let now : given_of given ≡ with_named done x (value_of v) = given_as plain_is named_is in
          record {
            told =
                inv.told ∙ ap (λ (es : Arguments). and_then (arguments calls es s) (λ h. give (joined done h))) here
                ∙ keyword_on calls done e rest s x (value_of v) (moment_of m2) gave.gives
                ∙ ap (λ (m : Machine). and_then (arguments calls rest (moment_of m)) (λ k. give (joined (with_named done x (value_of v)) k))) (sym w.machine-is)
                ∙ ap (λ (h : Given). and_then (arguments calls rest (moment_of new.machine)) (λ k. give (joined h k))) (sym now);
            height = omega arith;
            fits = fit.1;
            differ = subst (λ (h : Given). IsTrue (all_differ (map (λ k. k.0) h.named ++ keywords rest))) (sym now) (differ_on done.named x (value_of v) (keywords rest) differ);
            kept =
                subst (λ (m : Machine). GrownBy 0 c.args.machine.now c.args.steps.now m new.steps) (sym w.machine-is)
                (subst (λ (b : ℕ). GrownBy 0 c.args.machine.now c.args.steps.now m2 b) (sym w.steps-is)
                (grown_on 0 0 c.args.machine.now old.machine m2 c.args.steps.now old.steps b2 inv.kept gave.kept));
            reads =
                (let left : new.machine.budget.left ≡ m2.budget.left = ap (λ (m : Machine). m.budget.left) w.machine-is in
                let count : length new.plain.items ≡ length old.plain.items = ap (λ (p : Vec rust.Value Global). length p.items) w.plain-is in
                omega (arith, inv.reads, gave.reads, left, w.steps-is, count));
            sound =
                subst (λ (m : Machine). IsTrue (is_sound_given (length m.heap) (given_of given))) (sym w.machine-is)
                (subst (λ (h : Given). IsTrue (is_sound_given (length m2.heap) h)) (sym now)
                (named_pushed (length old.machine.heap) (length m2.heap) gave.kept.0 done inv.sound x (value_of v) fit.0.0 gave.sound (differ_now done.named x (value_of v) (keywords rest) differ)));
          })
    ]

-- ---- call_node

pub calls::call_node-called-requires : goal.calls::call_node-called-requires
calls::call_node-called-requires g falls c κs within =
    let o = slice_get c.args.machine.now.heap c.args.id.0 in
    let found : IsFunction o c.in-Some.function = search rules in (
      omega arith,
      (
        search rules,
        (
          ((function_holds o c.in-Some.function found).2),
          (
            ((function_holds o c.in-Some.function found).0),
            (
              ((function_holds o c.in-Some.function found).1),
              (
                search rules,
                (
                  search rules,
                  search rules,
                ),
              ),
            ),
          ),
        ),
      ),
    )

pub calls::call_node-returns-in-Some-clause-gives : goal.calls::call_node-returns-in-Some-clause-gives
calls::call_node-returns-in-Some-clause-gives g falls c =
    let o = slice_get c.args.machine.now.heap c.args.id.0 in
    let found : IsFunction o c.in-Some.function = search rules in
    called_node value_of c.called.result c.args.calls_left c.args.id.0 (given_of c.args.given.now) (moment_of c.args.machine.now) (moment_of c.called.new.machine) o c.in-Some.function found c.called.ensures.gives

-- ---- called_part

pub primaries::called_part-returns-in-Ok-arguments_given-clause-reads : goal.primaries::called_part-returns-in-Ok-arguments_given-clause-reads
primaries::called_part-returns-in-Ok-arguments_given-clause-reads g falls c =
    owes_reads_on 64 40 (2 * length c.in-Ok-arguments_given.given.plain.items) c.args.machine.now c.arguments_given.new.machine c.apply.new.machine c.args.steps.now c.arguments_given.new.steps c.apply.new.steps c.apply.result
    (omega (arith, c.in-Ok.ensures.costs.reads, c.in-Ok-arguments_given.ensures.paid)) c.apply.ensures.reads

-- ---- combined_value

pub operators::combined_value-evaluate-requires-in-loop-other : goal.operators::combined_value-evaluate-requires-in-loop-other
operators::combined_value-evaluate-requires-in-loop-other g falls c κs within =
    let i = c.loop-other.other-index in
    let o = c.other-item.result in
    let here = operands_here c.args.others.now i o (omega arith) c.other-item.is in
    let k : of_operands (operands_of (drop i c.args.others.now)) ≡ max (of_expression (expression_of o.value)) (of_operands (operands_of (drop (i + 1) c.args.others.now))) = ap of_operands here in (
      (omega arith),
      (
        search rules,
        (
          (omega arith),
          (
            ((subst (λ (os : Operands). OperandsFit os) here c.loop-other.invariant.fits).0),
            search rules,
          ),
        ),
      ),
    )

pub operators::combined_value-returns-in-Err-evaluate-clause-gives : goal.operators::combined_value-returns-in-Err-evaluate-clause-gives
operators::combined_value-returns-in-Err-evaluate-clause-gives g falls c =
    let i = c.loop-other.other-index in
    let o = c.other-item.result in
    let rest = operands_of (drop (i + 1) c.args.others.now) in
    let calls = call c.args.calls_left in
    let v = value_of c.loop-other.value in
    let s = moment_of c.loop-other.machine in
    let here = operands_here c.args.others.now i o (omega arith) c.other-item.is in
    let told = c.loop-other.invariant.told ∙ ap (λ (os : Operands). operands calls v os s) here in
    subst (λ (x : Ends Value). Fails c.in-Err-evaluate.fault (moment_of c.evaluate-in-loop-other.new.machine) x) (sym told) (operand_fails calls o.operator v (expression_of o.value) rest s c.in-Err-evaluate.fault (moment_of c.evaluate-in-loop-other.new.machine) c.in-Err-evaluate.ensures.gives)

pub operators::combined_value-returns-in_err-tick-clause-gives : goal.operators::combined_value-returns-in_err-tick-clause-gives
operators::combined_value-returns-in_err-tick-clause-gives g falls c =
    let p = err_from_is_err_and c.from_residual.result c.from_residual.ensures.1 in
    let i = c.loop-other.other-index in
    let o = c.other-item.result in
    let rest = operands_of (drop (i + 1) c.args.others.now) in
    let calls = call c.args.calls_left in
    let v = value_of c.loop-other.value in
    let s = moment_of c.loop-other.machine in
    let here = operands_here c.args.others.now i o (omega arith) c.other-item.is in
    let told = c.loop-other.invariant.told ∙ ap (λ (os : Operands). operands calls v os s) here in
    rw (p.1, p.2) (subst (λ (x : Ends Value). Fails c.in_err-tick.field-0.0 (moment_of c.tick.new.machine) x) (sym told) (operand_tick_fails calls o.operator v (expression_of o.value) rest s (value_of c.in-Ok-evaluate.right) c.in_err-tick.field-0.0 (moment_of c.evaluate-in-loop-other.new.machine) (moment_of c.tick.new.machine) c.in-Ok-evaluate.ensures.gives c.in_err-tick.ensures.gives))

pub operators::combined_value-returns-in-Err-operate-clause-gives : goal.operators::combined_value-returns-in-Err-operate-clause-gives
operators::combined_value-returns-in-Err-operate-clause-gives g falls c =
    let i = c.loop-other.other-index in
    let o = c.other-item.result in
    let rest = operands_of (drop (i + 1) c.args.others.now) in
    let calls = call c.args.calls_left in
    let v = value_of c.loop-other.value in
    let s = moment_of c.loop-other.machine in
    let here = operands_here c.args.others.now i o (omega arith) c.other-item.is in
    let told = c.loop-other.invariant.told ∙ ap (λ (os : Operands). operands calls v os s) here in
    subst (λ (x : Ends Value). Fails c.in-Err-operate.fault (moment_of c.operate.new.machine) x) (sym told) (operator_fails calls o.operator v (expression_of o.value) rest s (value_of c.in-Ok-evaluate.right) _ c.in-Err-operate.fault (moment_of c.evaluate-in-loop-other.new.machine) (moment_of c.tick.new.machine) (moment_of c.operate.new.machine) c.in-Ok-evaluate.ensures.gives c.in_ok-tick.ensures.gives c.in-Err-operate.ensures.gives)

pub operators::combined_value-loop-other-preserved : goal.operators::combined_value-loop-other-preserved
operators::combined_value-loop-other-preserved g falls c =
    let i = c.loop-other.other-index in
    let o = c.other-item.result in
    let rest = operands_of (drop (i + 1) c.args.others.now) in
    let calls = call c.args.calls_left in
    let m1 = c.loop-other.machine in
    let m2 = c.evaluate-in-loop-other.new.machine in
    let m3 = c.tick.new.machine in
    let m4 = c.operate.new.machine in
    let b1 = c.loop-other.steps in
    let b2 = c.evaluate-in-loop-other.new.steps in
    let b3 = c.tick.new.steps in
    let b4 = c.operate.new.steps in
    let right = c.in-Ok-evaluate.ensures in
    let step = c.in_ok-tick.ensures in
    let all = c.in-Ok-operate.ensures in
    let here = operands_here c.args.others.now i o (omega arith) c.other-item.is in
    let k : of_operands (operands_of (drop i c.args.others.now)) ≡ max (of_expression (expression_of o.value)) (of_operands rest) = ap of_operands here in
    record {
      told =
          c.loop-other.invariant.told
          ∙ ap (λ (os : Operands). operands calls (value_of c.loop-other.value) os (moment_of m1)) here
          ∙ operands_on calls o.operator (value_of c.loop-other.value) (expression_of o.value) rest (moment_of m1) (value_of c.in-Ok-evaluate.right) (value_of c.in-Ok-operate.result) _ (moment_of m2) (moment_of m3) (moment_of m4) right.gives step.gives all.gives;
      height = omega arith;
      fits = (subst (λ (os : Operands). OperandsFit os) here c.loop-other.invariant.fits).1;
      kept =
          grown_on 0 0 c.args.machine.now m1 m4 c.args.steps.now b1 b4 c.loop-other.invariant.kept
          (grown_on 0 0 m1 m2 m4 b1 b2 b4 right.kept (paid_on m2 m3 m4 b2 b3 b4 step.heap step.taken step.kept all.costs.kept));
      reads = omega (arith, c.loop-other.invariant.reads, right.reads, step.counted, step.taken, all.costs.reads);
      sound = all.sound;
    }

-- ---- compared_value

pub operators::compared_value-loop-link-init : goal.operators::compared_value-loop-link-init
operators::compared_value-loop-link-init g falls c =
    let some : length c.args.links.now ≢ 0 = λ e. false-eqb _ 0 (sym (sym c.is_empty.ensures ∙ c.if-is_empty.false)) e in
    record {
      told = compared_linked (call c.args.calls_left) (expression_of c.args.first.now) c.args.links.now (value_of c.in-Ok.value) (moment_of c.args.machine.now) (moment_of c.evaluate.new.machine) (omega arith) c.in-Ok.ensures.gives;
      height = omega arith;
      fits = c.requires.fit_links;
      kept = c.in-Ok.ensures.kept;
      reads = omega (arith, c.in-Ok.ensures.reads);
      sound = c.in-Ok.ensures.sound;
    }

pub operators::compared_value-evaluate-requires-in-loop-link : goal.operators::compared_value-evaluate-requires-in-loop-link
operators::compared_value-evaluate-requires-in-loop-link g falls c κs within = (
  (let i = c.loop-link.link-index in
      let l = c.link-item.result in
      let here = links_here c.args.links.now i l (omega arith) c.link-item.is in
      let k : of_links (links_of (drop i c.args.links.now)) ≡ max (of_expression (expression_of l.value)) (of_links (links_of (drop (i + 1) c.args.links.now))) = ap of_links here in
      omega arith),
  (
    search rules,
    (
      (let i = c.loop-link.link-index in
          let l = c.link-item.result in
          let here = links_here c.args.links.now i l (omega arith) c.link-item.is in
          let k : of_links (links_of (drop i c.args.links.now)) ≡ max (of_expression (expression_of l.value)) (of_links (links_of (drop (i + 1) c.args.links.now))) = ap of_links here in
          omega arith),
      (
        (let here = links_here c.args.links.now c.loop-link.link-index c.link-item.result (omega arith) c.link-item.is in
            (subst (λ (ls : Links). LinksFit ls) here c.loop-link.invariant.fits).0),
        search rules,
      ),
    ),
  ),
)

pub operators::compared_value-returns-in-Err-evaluate-clause-gives : goal.operators::compared_value-returns-in-Err-evaluate-clause-gives
operators::compared_value-returns-in-Err-evaluate-clause-gives g falls c =
    let i = c.loop-link.link-index in
    let l = c.link-item.result in
    let rest = links_of (drop (i + 1) c.args.links.now) in
    let calls = call c.args.calls_left in
    let left = value_of c.loop-link.left in
    let s = moment_of c.loop-link.machine in
    let here = links_here c.args.links.now i l (omega arith) c.link-item.is in
    let told = c.loop-link.invariant.told ∙ ap (λ (ls : Links). linked calls left ls s) here in
    subst (λ (x : Ends Value). Fails c.in-Err-evaluate.fault (moment_of c.evaluate-in-loop-link.new.machine) x) (sym told) (link_fails calls l.comparison left (expression_of l.value) rest s c.in-Err-evaluate.fault (moment_of c.evaluate-in-loop-link.new.machine) c.in-Err-evaluate.ensures.gives)

pub operators::compared_value-returns-in_err-tick-clause-gives : goal.operators::compared_value-returns-in_err-tick-clause-gives
operators::compared_value-returns-in_err-tick-clause-gives g falls c =
    let p = err_from_is_err_and c.from_residual.result c.from_residual.ensures.1 in
    let i = c.loop-link.link-index in
    let l = c.link-item.result in
    let rest = links_of (drop (i + 1) c.args.links.now) in
    let calls = call c.args.calls_left in
    let left = value_of c.loop-link.left in
    let s = moment_of c.loop-link.machine in
    let here = links_here c.args.links.now i l (omega arith) c.link-item.is in
    let told = c.loop-link.invariant.told ∙ ap (λ (ls : Links). linked calls left ls s) here in
    rw (p.1, p.2) (subst (λ (x : Ends Value). Fails c.in_err-tick.field-0.0 (moment_of c.tick.new.machine) x) (sym told) (link_tick_fails calls l.comparison left (expression_of l.value) rest s (value_of c.in-Ok-evaluate.right) c.in_err-tick.field-0.0 (moment_of c.evaluate-in-loop-link.new.machine) (moment_of c.tick.new.machine) c.in-Ok-evaluate.ensures.gives c.in_err-tick.ensures.gives))

pub operators::compared_value-returns-in-Err-compare-clause-gives : goal.operators::compared_value-returns-in-Err-compare-clause-gives
operators::compared_value-returns-in-Err-compare-clause-gives g falls c =
    let i = c.loop-link.link-index in
    let l = c.link-item.result in
    let rest = links_of (drop (i + 1) c.args.links.now) in
    let calls = call c.args.calls_left in
    let left = value_of c.loop-link.left in
    let s = moment_of c.loop-link.machine in
    let here = links_here c.args.links.now i l (omega arith) c.link-item.is in
    let told = c.loop-link.invariant.told ∙ ap (λ (ls : Links). linked calls left ls s) here in
    subst (λ (x : Ends Value). Fails c.in-Err-compare.fault (moment_of c.compare.new.machine) x) (sym told) (comparison_fails calls l.comparison left (expression_of l.value) rest s (value_of c.in-Ok-evaluate.right) _ c.in-Err-compare.fault (moment_of c.evaluate-in-loop-link.new.machine) (moment_of c.tick.new.machine) (moment_of c.compare.new.machine) c.in-Ok-evaluate.ensures.gives c.in_ok-tick.ensures.gives c.in-Err-compare.ensures.gives)

pub operators::compared_value-loop-link-preserved : goal.operators::compared_value-loop-link-preserved
operators::compared_value-loop-link-preserved g falls c =
    let i = c.loop-link.link-index in
    let l = c.link-item.result in
    let rest = links_of (drop (i + 1) c.args.links.now) in
    let calls = call c.args.calls_left in
    let m1 = c.loop-link.machine in
    let m2 = c.evaluate-in-loop-link.new.machine in
    let m3 = c.tick.new.machine in
    let m4 = c.compare.new.machine in
    let b1 = c.loop-link.steps in
    let b2 = c.evaluate-in-loop-link.new.steps in
    let b3 = c.tick.new.steps in
    let b4 = c.compare.new.steps in
    let left = value_of c.loop-link.left in
    let w = value_of c.in-Ok-evaluate.right in
    let right = c.in-Ok-evaluate.ensures in
    let step = c.in_ok-tick.ensures in
    let all = c.in-Ok-true.ensures in
    let here = links_here c.args.links.now i l (omega arith) c.link-item.is in
    let k : of_links (links_of (drop i c.args.links.now)) ≡ max (of_expression (expression_of l.value)) (of_links rest) = ap of_links here in
    let n2 = length m2.heap in
    let n4 = length m4.heap in
    let same : n4 ≡ n2 = ap length all.heap ∙ ap length step.heap in
    record {
      told =
          c.loop-link.invariant.told
          ∙ ap (λ (ls : Links). linked calls left ls (moment_of m1)) here
          ∙ links_on calls l.comparison left (expression_of l.value) rest (moment_of m1) w true _ (moment_of m2) (moment_of m3) (moment_of m4) right.gives step.gives (rw c.in-Ok-true.field-0-test at all.gives);
      height = omega arith;
      fits = (subst (λ (ls : Links). LinksFit ls) here c.loop-link.invariant.fits).1;
      kept =
          grown_on 0 0 c.args.machine.now m1 m4 c.args.steps.now b1 b4 c.loop-link.invariant.kept
          (grown_on 0 0 m1 m2 m4 b1 b2 b4 right.kept (grown_on 0 0 m2 m3 m4 b2 b3 b4 step.kept all.costs.kept));
      reads = omega (arith, c.loop-link.invariant.reads, right.reads, step.counted, step.taken, all.costs.reads);
      sound = sound_more n2 n4 (omega (arith, same)) w right.sound;
    }

pub operators::compared_value-returns-in-Ok-false-clause-gives : goal.operators::compared_value-returns-in-Ok-false-clause-gives
operators::compared_value-returns-in-Ok-false-clause-gives g falls c =
    let i = c.loop-link.link-index in
    let l = c.link-item.result in
    let rest = links_of (drop (i + 1) c.args.links.now) in
    let calls = call c.args.calls_left in
    let s1 = moment_of c.loop-link.machine in
    let left = value_of c.loop-link.left in
    let w = value_of c.in-Ok-evaluate.right in
    let here = links_here c.args.links.now i l (omega arith) c.link-item.is in
    c.loop-link.invariant.told
    ∙ ap (λ (ls : Links). linked calls left ls s1) here
    ∙ links_on calls l.comparison left (expression_of l.value) rest s1 w false _ (moment_of c.evaluate-in-loop-link.new.machine) (moment_of c.tick.new.machine) (moment_of c.compare.new.machine) c.in-Ok-evaluate.ensures.gives c.in_ok-tick.ensures.gives (rw c.in-Ok-false.field-0-test at c.in-Ok-false.ensures.gives)

-- ---- deciding_value

pub expressions::deciding_value-returns-in-Err-clause-gives : goal.expressions::deciding_value-returns-in-Err-clause-gives
expressions::deciding_value-returns-in-Err-clause-gives g falls c =
    let i = c.loop-i.i in
    let e = c.index-operands-i.result in
    let rest = expressions_of (drop (i + 1) c.args.operands.now) in
    let calls = call c.args.calls_left in
    let s = moment_of c.loop-i.machine in
    let t = moment_of c.evaluate.new.machine in
    let here = expressions_here c.args.operands.now i e (omega arith) c.index-operands-i.is in
    let told = c.loop-i.invariant.told ∙ ap (λ (es : Expressions). first_that calls c.args.which es s) here in
    subst (λ (x : Ends Value). Fails c.in-Err.fault t x) (sym told) (first_fails calls c.args.which (expression_of e) s c.in-Err.fault t rest c.in-Err.ensures.gives)

pub expressions::deciding_value-returns-then-i-operands-clause-gives : goal.expressions::deciding_value-returns-then-i-operands-clause-gives
expressions::deciding_value-returns-then-i-operands-clause-gives g falls c =
    let i = c.loop-i.i in
    let e = c.index-operands-i.result in
    let os = drop (i + 1) c.args.operands.now in
    let calls = call c.args.calls_left in
    let which = c.args.which in
    let s = moment_of c.loop-i.machine in
    let t = moment_of c.evaluate.new.machine in
    let v = value_of c.in-Ok.value in
    let here = expressions_here c.args.operands.now i e (omega arith) c.index-operands-i.is in
    let told = c.loop-i.invariant.told ∙ ap (λ (es : Expressions). first_that calls which es s) here in
    elim c.then-i-operands.branch [
      | expressions::deciding_value-then-i-operands-via-then-i-operands w ↦
          told
          ∙ ap (λ (os : List Expr). first_that calls which (more_expressions (expression_of e) (expressions_of os)) s) (drop_all (i + 1) c.args.operands.now (omega (arith, w.if-i-operands.true)))
          ∙ c.in-Ok.ensures.gives
      | expressions::deciding_value-then-i-operands-via-else-i-operands+then-truth-which w ↦
          told ∙ first_decided calls which (expression_of e) s v w.truth.result t (expressions_of os) c.in-Ok.ensures.gives w.truth.ensures.is w.if-truth-which.true
    ]

pub expressions::deciding_value-loop-i-preserved : goal.expressions::deciding_value-loop-i-preserved
expressions::deciding_value-loop-i-preserved g falls c =
    let i = c.loop-i.i in
    let e = c.index-operands-i.result in
    let os = drop (i + 1) c.args.operands.now in
    let calls = call c.args.calls_left in
    let which = c.args.which in
    let s = moment_of c.loop-i.machine in
    let t = moment_of c.evaluate.new.machine in
    let v = value_of c.in-Ok.value in
    let kept = c.in-Ok.ensures.kept in
    let before = c.loop-i.invariant.kept in
    let here = expressions_here c.args.operands.now i e (omega arith) c.index-operands-i.is in
    let k : of_expressions (expressions_of (drop i c.args.operands.now)) ≡ max (of_expression (expression_of e)) (of_expressions (expressions_of os)) = ap of_expressions here in
    let more : 0 < length os = omega (arith, length-drop (i + 1) c.args.operands.now, c.if-i-operands.false, c.loop-i-test.true) in
    record {
      told =
          c.loop-i.invariant.told
          ∙ ap (λ (es : Expressions). first_that calls which es s) here
          ∙ first_open calls which (expression_of e) s v c.truth.result t os more c.in-Ok.ensures.gives c.truth.ensures.is c.if-truth-which.false;
      height = omega arith;
      fits = (subst (λ (es : Expressions). ExpressionsFit es) here c.loop-i.invariant.fits).1;
      kept = (omega (arith, kept.0, before.0), omega (arith, kept.1, before.1), omega (arith, kept.2, before.2, c.truth.ensures.reads.0));
      reads = omega (arith, c.loop-i.invariant.reads, c.in-Ok.ensures.reads, c.truth.ensures.reads.1);
    }

-- ---- inner_values

pub displays::inner_values-loop-item-init : goal.displays::inner_values-loop-item-init
displays::inner_values-loop-item-init g falls c = record {
  told = rw c.new-values.ensures.items (begun (inner_values (call c.args.calls_left) (expressions_of c.args.items.now) (moment_of c.args.machine.now)));
  height = omega arith;
  fits = c.requires.fit_items;
  kept = grown_none 0 c.args.machine.now c.args.steps.now;
  reads = omega arith;
  sound = rw c.new-values.ensures.items (search rules);
}

pub displays::inner_values-deeper_value-requires : goal.displays::inner_values-deeper_value-requires
displays::inner_values-deeper_value-requires g falls c κs within =
    let here = expressions_here c.args.items.now c.loop-item.item-index c.item-item.result (omega arith) c.item-item.is in
    let k : of_expressions (expressions_of (drop c.loop-item.item-index c.args.items.now)) ≡ max (of_expression (expression_of c.item-item.result)) (of_expressions (expressions_of (drop (c.loop-item.item-index + 1) c.args.items.now))) = ap of_expressions here in (
      omega arith,
      (
        search rules,
        (
          omega arith,
          (
            (subst (λ (es : Expressions). ExpressionsFit es) here c.loop-item.invariant.fits).0,
            omega (arith, c.requires.room, c.loop-item.invariant.kept.1),
          ),
        ),
      ),
    )

pub displays::inner_values-loop-item-preserved : goal.displays::inner_values-loop-item-preserved
displays::inner_values-loop-item-preserved g falls c =
    let i = c.loop-item.item-index in
    let rest = expressions_of (drop (i + 1) c.args.items.now) in
    let e = expression_of c.item-item.result in
    let v = c.in_ok-deeper_value.field-0 in
    let done = c.loop-item.values.items in
    let calls = call c.args.calls_left in
    let s = moment_of c.loop-item.machine in
    let t = moment_of c.deeper_value.new.machine in
    let kept = c.in_ok-deeper_value.ensures.kept in
    let here = expressions_here c.args.items.now i c.item-item.result (omega arith) c.item-item.is in
    let k : of_expressions (expressions_of (drop i c.args.items.now)) ≡ max (of_expression e) (of_expressions rest) = ap of_expressions here in
    record {
      told =
          rw (c.in_ok-push.ensures.items, pushed_values done v) (
          c.loop-item.invariant.told
          ∙ ap (λ (es : Expressions). and_then (inner_values calls es s) (λ vs. give (map value_of done ++ vs))) here
          ∙ inner_values_on calls (map value_of done) (value_of v) s t e rest c.in_ok-deeper_value.ensures.gives);
      height = omega arith;
      fits = (subst (λ (es : Expressions). ExpressionsFit es) here c.loop-item.invariant.fits).1;
      kept = grown_on 0 0 c.args.machine.now c.loop-item.machine c.deeper_value.new.machine c.args.steps.now c.loop-item.steps c.deeper_value.new.steps c.loop-item.invariant.kept kept;
      reads = omega (arith, c.loop-item.invariant.reads, c.in_ok-deeper_value.ensures.reads);
      sound = rw c.in_ok-push.ensures.items (pushed_sound (length c.loop-item.machine.heap) (length c.deeper_value.new.machine.heap) done v kept.0 c.loop-item.invariant.sound c.in_ok-deeper_value.ensures.sound);
    }

pub displays::inner_values-returns-clause-gives : goal.displays::inner_values-returns-clause-gives
displays::inner_values-returns-clause-gives g falls c =
    let done = map value_of c.loop-item.values.items in
    let calls = call c.args.calls_left in
    let s = moment_of c.loop-item.machine in
    all_made (inner_values calls (expressions_of c.args.items.now) (moment_of c.args.machine.now)) done s
    (c.loop-item.invariant.told ∙ ap (λ (es : List Expr). and_then (inner_values calls (expressions_of es) s) (λ vs. give (done ++ vs))) (drop_all c.loop-item.item-index c.args.items.now (omega arith)))

-- ---- pair_values

pair_seen : (ps : List (rust.Value × rust.Value)) (v w : rust.Value) → seen_pairs (ps ++ (v, w) ∷ []) ≡ seen_pairs ps ++ (value_of v, value_of w) ∷ []
pair_seen [] v w = refl
pair_seen (p ∷ ps) v w = ap (λ (qs : List (Value × Value)). (value_of p.0, value_of p.1) ∷ qs) (pair_seen ps v w)

pub displays::pair_values-loop-pair-init : goal.displays::pair_values-loop-pair-init
displays::pair_values-loop-pair-init g falls c = record {
  told = rw c.new-entries.ensures.items (begun (pairs (call c.args.calls_left) (pairs_of c.args.pairs.now) (moment_of c.args.machine.now)));
  height = omega arith;
  fits = c.requires.fits;
  kept = grown_none 0 c.args.machine.now c.args.steps.now;
  reads = rw c.new-entries.ensures.items (omega arith);
  sound = rw c.new-entries.ensures.items (search rules);
}

pub displays::pair_values-deeper_value-requires : goal.displays::pair_values-deeper_value-requires
displays::pair_values-deeper_value-requires g falls c κs within =
    let i = c.loop-pair.pair-index in
    let p = c.pair-item.result in
    let here = pairs_here c.args.pairs.now i p (omega arith) c.pair-item.is in
    let k : of_pairs (pairs_of (drop i c.args.pairs.now)) ≡ max (of_expression (expression_of p.key)) (max (of_expression (expression_of p.value)) (of_pairs (pairs_of (drop (i + 1) c.args.pairs.now)))) = ap of_pairs here in (
      (omega arith),
      (
        search rules,
        (
          (omega arith),
          (
            ((subst (λ (ps : Pairs). PairsFit ps) here c.loop-pair.invariant.fits).0),
            search rules,
          ),
        ),
      ),
    )

pub displays::pair_values-deeper_value-requires-in-loop-pair : goal.displays::pair_values-deeper_value-requires-in-loop-pair
displays::pair_values-deeper_value-requires-in-loop-pair g falls c κs within =
    let i = c.loop-pair.pair-index in
    let p = c.pair-item.result in
    let here = pairs_here c.args.pairs.now i p (omega arith) c.pair-item.is in
    let k : of_pairs (pairs_of (drop i c.args.pairs.now)) ≡ max (of_expression (expression_of p.key)) (max (of_expression (expression_of p.value)) (of_pairs (pairs_of (drop (i + 1) c.args.pairs.now)))) = ap of_pairs here in (
      (omega arith),
      (
        search rules,
        (
          (omega arith),
          (
            ((subst (λ (ps : Pairs). PairsFit ps) here c.loop-pair.invariant.fits).1),
            search rules,
          ),
        ),
      ),
    )

pub displays::pair_values-returns-in_err-key-clause-gives : goal.displays::pair_values-returns-in_err-key-clause-gives
displays::pair_values-returns-in_err-key-clause-gives g falls c =
    let r = err_from_is_err_and c.from_residual.result c.from_residual.ensures.1 in
    let i = c.loop-pair.pair-index in
    let p = c.pair-item.result in
    let rest = pairs_of (drop (i + 1) c.args.pairs.now) in
    let calls = call c.args.calls_left in
    let done = value_pairs c.loop-pair.entries in
    let s = moment_of c.loop-pair.machine in
    let here = pairs_here c.args.pairs.now i p (omega arith) c.pair-item.is in
    let told = c.loop-pair.invariant.told ∙ ap (λ (ps : Pairs). and_then (pairs calls ps s) (λ vs. give (done ++ vs))) here in
    rw (r.1, r.2) (subst (λ (x : Ends (List (Value × Value))). Fails c.in_err-key.field-0.0 (moment_of c.deeper_value.new.machine) x) (sym told) (pairs_fail calls c.in_err-key.field-0.0 s (moment_of c.deeper_value.new.machine) done (expression_of p.key) (expression_of p.value) rest c.in_err-key.ensures.gives))

pub displays::pair_values-returns-in_err-value-clause-gives : goal.displays::pair_values-returns-in_err-value-clause-gives
displays::pair_values-returns-in_err-value-clause-gives g falls c =
    let r = err_from_is_err_and c.from_residual-in_err-value.result c.from_residual-in_err-value.ensures.1 in
    let i = c.loop-pair.pair-index in
    let p = c.pair-item.result in
    let rest = pairs_of (drop (i + 1) c.args.pairs.now) in
    let calls = call c.args.calls_left in
    let done = value_pairs c.loop-pair.entries in
    let s = moment_of c.loop-pair.machine in
    let here = pairs_here c.args.pairs.now i p (omega arith) c.pair-item.is in
    let told = c.loop-pair.invariant.told ∙ ap (λ (ps : Pairs). and_then (pairs calls ps s) (λ vs. give (done ++ vs))) here in
    rw (r.1, r.2) (subst (λ (x : Ends (List (Value × Value))). Fails c.in_err-value.field-0.0 (moment_of c.deeper_value-in-loop-pair.new.machine) x) (sym told) (pairs_fail_behind calls c.in_err-value.field-0.0 s (moment_of c.deeper_value.new.machine) (moment_of c.deeper_value-in-loop-pair.new.machine) done (value_of c.in_ok-key.key) (expression_of p.key) (expression_of p.value) rest c.in_ok-key.ensures.gives c.in_err-value.ensures.gives))

pub displays::pair_values-loop-pair-preserved : goal.displays::pair_values-loop-pair-preserved
displays::pair_values-loop-pair-preserved g falls c =
    let i = c.loop-pair.pair-index in
    let p = c.pair-item.result in
    let rest = pairs_of (drop (i + 1) c.args.pairs.now) in
    let calls = call c.args.calls_left in
    let m1 = c.loop-pair.machine in
    let m2 = c.deeper_value.new.machine in
    let m3 = c.deeper_value-in-loop-pair.new.machine in
    let b1 = c.loop-pair.steps in
    let b2 = c.deeper_value.new.steps in
    let b3 = c.deeper_value-in-loop-pair.new.steps in
    let key = c.in_ok-key.ensures in
    let value = c.in_ok-value.ensures in
    let v = c.in_ok-key.key in
    let w = c.in_ok-value.value in
    let done = c.loop-pair.entries.items in
    let n1 = length m1.heap in
    let n2 = length m2.heap in
    let n3 = length m3.heap in
    let here = pairs_here c.args.pairs.now i p (omega arith) c.pair-item.is in
    let k : of_pairs (pairs_of (drop i c.args.pairs.now)) ≡ max (of_expression (expression_of p.key)) (max (of_expression (expression_of p.value)) (of_pairs rest)) = ap of_pairs here in
    let kept = grown_on 0 0 m1 m2 m3 b1 b2 b3 key.kept value.kept in
    record {
      told =
          rw (c.in_ok-push.ensures.items, pair_seen done v w) (
          c.loop-pair.invariant.told
          ∙ ap (λ (ps : Pairs). and_then (pairs calls ps (moment_of m1)) (λ vs. give (value_pairs c.loop-pair.entries ++ vs))) here
          ∙ pairs_on calls (value_pairs c.loop-pair.entries) (value_of v) (value_of w) (moment_of m1) (moment_of m2) (moment_of m3) (expression_of p.key) (expression_of p.value) rest key.gives value.gives);
      height = omega arith;
      fits = (subst (λ (ps : Pairs). PairsFit ps) here c.loop-pair.invariant.fits).2;
      kept = grown_on 0 0 c.args.machine.now m1 m3 c.args.steps.now b1 b3 c.loop-pair.invariant.kept kept;
      reads = let one : length c.push.new.self.items ≡ length done + 1 = ap length c.in_ok-push.ensures.items ∙ length_push done (v, w) in omega (arith, one, c.loop-pair.invariant.reads, key.reads, value.reads);
      sound =
          rw (c.in_ok-push.ensures.items, pair_seen done v w) (
          pair_pushed n3 (value_pairs c.loop-pair.entries) (value_of v, value_of w)
          (sound_more_pairs n1 n3 kept.0 (value_pairs c.loop-pair.entries) c.loop-pair.invariant.sound)
          (sound_more n2 n3 value.kept.0 (value_of v) key.sound)
          value.sound);
    }

pub displays::pair_values-returns-clause-gives : goal.displays::pair_values-returns-clause-gives
displays::pair_values-returns-clause-gives g falls c =
    let done = value_pairs c.loop-pair.entries in
    let calls = call c.args.calls_left in
    let s = moment_of c.loop-pair.machine in
    all_made (pairs calls (pairs_of c.args.pairs.now) (moment_of c.args.machine.now)) done s
    (c.loop-pair.invariant.told ∙ ap (λ (ps : List Pair). and_then (pairs calls (pairs_of ps) s) (λ vs. give (done ++ vs))) (drop_all c.loop-pair.pair-index c.args.pairs.now (omega arith)))

-- ---- part

pub primaries::part-returns-in-Primary-clause-gives : goal.primaries::part-returns-in-Primary-clause-gives
primaries::part-returns-in-Primary-clause-gives g falls c =
    rw (c.in-Primary.is, primary_is) (rw (c.deref-in-Primary.ensures, c.deref-in-Primary-2.ensures.value) at c.primary_part.ensures.gives)

-- ---- part_behind

pub primaries::part_behind-loop-trailer-init : goal.primaries::part_behind-loop-trailer-init
primaries::part_behind-loop-trailer-init g falls c = record {
  told = (part (call c.args.calls_left) (expression_of c.args.atom.now) (expr (call c.args.calls_left) (expression_of c.args.atom.now)) (moment_of c.args.machine.now), c.part-found.ensures.gives, refl);
  height = omega arith;
  fits = c.requires.fit_trailers;
  kept = c.part-found.ensures.kept;
  reads = c.part-found.ensures.reads;
  owes = c.part-found.ensures.owes;
  sound = c.part-found.ensures.sound;
}

pub primaries::part_behind-dotted_part-requires : goal.primaries::part_behind-dotted_part-requires
primaries::part_behind-dotted_part-requires g falls c = record {
  sound_part = sound_found (length c.loop-trailer.machine.heap) c.loop-trailer.found c.in-Ok.part c.in-Ok.is c.loop-trailer.invariant.sound;
  room = room_found (length c.loop-trailer.machine.heap) c.loop-trailer.found c.in-Ok.part c.in-Ok.is c.loop-trailer.trailer-index (length c.args.trailers.now) c.args.machine.now c.loop-trailer.machine c.loop-trailer-test.true c.requires.room c.loop-trailer.invariant.owes;
}

pub primaries::part_behind-called_part-requires : goal.primaries::part_behind-called_part-requires
primaries::part_behind-called_part-requires g falls c κs within =
    let i = c.loop-trailer.trailer-index in
    let ts = c.args.trailers.now in
    let x = c.trailer-item.result in
    let es = arguments_of c.deref.result.now in
    let is : trailer_of x ≡ t.call es = ap trailer_of c.in-Call.is ∙ call_is c.in-Call.arguments ∙ ap (λ (as' : List rust_argument.Argument). t.call (arguments_of as')) (sym c.deref.ensures.value) in
    let low : of_arguments es ≤ of_trailers (trailers_of (drop i ts)) = (trailer_low ts i x c.loop-trailer-test.true c.trailer-item.is (t.call es) is).0 in
    let fit = (trailer_fits ts i x c.loop-trailer-test.true c.trailer-item.is (t.call es) is c.loop-trailer.invariant.fits).0 in (
      omega (arith, low, c.loop-trailer.invariant.height, c.requires.small_trailers),
      (
        search rules,
        (
          sound_found (length c.loop-trailer.machine.heap) c.loop-trailer.found c.in-Ok.part c.in-Ok.is c.loop-trailer.invariant.sound,
          (
            omega (arith, low, c.loop-trailer.invariant.height, c.requires.small_trailers),
            (
              fit.0,
              (
                fit.1,
                room_found (length c.loop-trailer.machine.heap) c.loop-trailer.found c.in-Ok.part c.in-Ok.is i (length ts) c.args.machine.now c.loop-trailer.machine c.loop-trailer-test.true c.requires.room c.loop-trailer.invariant.owes,
              ),
            ),
          ),
        ),
      ),
    )

pub primaries::part_behind-item_part-requires : goal.primaries::part_behind-item_part-requires
primaries::part_behind-item_part-requires g falls c κs within =
    let i = c.loop-trailer.trailer-index in
    let ts = c.args.trailers.now in
    let x = c.trailer-item.result in
    let e = expression_of c.in-Index.index in
    let is : trailer_of x ≡ t.index e = ap trailer_of c.in-Index.is ∙ index_is c.in-Index.index in
    let low : of_expression e ≤ of_trailers (trailers_of (drop i ts)) = (trailer_low ts i x c.loop-trailer-test.true c.trailer-item.is (t.index e) is).0 in (
      omega (arith, low, c.loop-trailer.invariant.height, c.requires.small_trailers),
      (
        search rules,
        (
          sound_found (length c.loop-trailer.machine.heap) c.loop-trailer.found c.in-Ok.part c.in-Ok.is c.loop-trailer.invariant.sound,
          (
            omega (arith, low, c.loop-trailer.invariant.height, c.requires.small_trailers),
            (
              (trailer_fits ts i x c.loop-trailer-test.true c.trailer-item.is (t.index e) is c.loop-trailer.invariant.fits).0,
              room_found (length c.loop-trailer.machine.heap) c.loop-trailer.found c.in-Ok.part c.in-Ok.is i (length ts) c.args.machine.now c.loop-trailer.machine c.loop-trailer-test.true c.requires.room c.loop-trailer.invariant.owes,
            ),
          ),
        ),
      ),
    )

pub primaries::part_behind-sliced_part-requires : goal.primaries::part_behind-sliced_part-requires
primaries::part_behind-sliced_part-requires g falls c κs within =
    let i = c.loop-trailer.trailer-index in
    let ts = c.args.trailers.now in
    let x = c.trailer-item.result in
    let start = bound_of (tree_value c.in-Slice.start) in
    let stop = bound_of (tree_value c.in-Slice.stop) in
    let step = bound_of (tree_value c.in-Slice.step) in
    let is : trailer_of x ≡ t.slice start stop step = ap trailer_of c.in-Slice.is ∙ slice_is c.in-Slice.start c.in-Slice.stop c.in-Slice.step in
    let low : max (of_bound start) (max (of_bound stop) (of_bound step)) ≤ of_trailers (trailers_of (drop i ts)) = (trailer_low ts i x c.loop-trailer-test.true c.trailer-item.is (t.slice start stop step) is).0 in
    let fit = (trailer_fits ts i x c.loop-trailer-test.true c.trailer-item.is (t.slice start stop step) is c.loop-trailer.invariant.fits).0 in (
      omega (arith, low, c.loop-trailer.invariant.height, c.requires.small_trailers),
      (
        search rules,
        (
          sound_found (length c.loop-trailer.machine.heap) c.loop-trailer.found c.in-Ok.part c.in-Ok.is c.loop-trailer.invariant.sound,
          (
            omega (arith, low, c.loop-trailer.invariant.height, c.requires.small_trailers),
            (
              fit.0,
              (
                omega (arith, low, c.loop-trailer.invariant.height, c.requires.small_trailers),
                (
                  fit.1,
                  (
                    omega (arith, low, c.loop-trailer.invariant.height, c.requires.small_trailers),
                    (
                      fit.2,
                      room_found (length c.loop-trailer.machine.heap) c.loop-trailer.found c.in-Ok.part c.in-Ok.is i (length ts) c.args.machine.now c.loop-trailer.machine c.loop-trailer-test.true c.requires.room c.loop-trailer.invariant.owes,
                    ),
                  ),
                ),
              ),
            ),
          ),
        ),
      ),
    )

pub primaries::part_behind-returns-in-Err-clause-gives : goal.primaries::part_behind-returns-in-Err-clause-gives
primaries::part_behind-returns-in-Err-clause-gives g falls c =
    let calls = call c.args.calls_left in
    let e = expression_of c.args.atom.now in
    let ts = trailers_of c.args.trailers.now in
    let told = c.loop-trailer.invariant.told in
    found_fails calls ((part calls e (expr calls e) >>= λ p. trailers calls p ts) (moment_of c.args.machine.now)) c.loop-trailer.found (moment_of c.loop-trailer.machine) told.0 told.1 (trailers_of (drop c.loop-trailer.trailer-index c.args.trailers.now)) told.2 c.in-Err.fault c.in-Err.is

pub primaries::part_behind-returns-in-Err-clause-sound : goal.primaries::part_behind-returns-in-Err-clause-sound
primaries::part_behind-returns-in-Err-clause-sound g falls c = rw c.in-Err.is at c.loop-trailer.invariant.sound

pub primaries::part_behind-returns-in-Err-clause-kept : goal.primaries::part_behind-returns-in-Err-clause-kept
primaries::part_behind-returns-in-Err-clause-kept g falls c = grown_by_more c.loop-trailer.trailer-index (length c.args.trailers.now) c.args.machine.now c.loop-trailer.machine c.args.steps.now c.loop-trailer.steps c.loop-trailer.auto.trailer-index-end c.loop-trailer.invariant.kept

pub primaries::part_behind-returns-in-Err-clause-reads : goal.primaries::part_behind-returns-in-Err-clause-reads
primaries::part_behind-returns-in-Err-clause-reads g falls c =
    rw c.in-Err.is at (leaves_more (120 * c.loop-trailer.trailer-index) (120 * length c.args.trailers.now) (omega (arith, c.loop-trailer.auto.trailer-index-end)) c.args.machine.now c.args.steps.now c.loop-trailer.found c.loop-trailer.machine c.loop-trailer.steps c.loop-trailer.invariant.reads)

pub primaries::part_behind-returns-in-Err-clause-owes : goal.primaries::part_behind-returns-in-Err-clause-owes
primaries::part_behind-returns-in-Err-clause-owes g falls c =
    rw c.in-Err.is at (owing_more c.loop-trailer.trailer-index (length c.args.trailers.now) c.loop-trailer.auto.trailer-index-end c.args.machine.now c.loop-trailer.found c.loop-trailer.machine c.loop-trailer.invariant.owes)

pub primaries::part_behind-loop-trailer-preserved : goal.primaries::part_behind-loop-trailer-preserved
primaries::part_behind-loop-trailer-preserved g falls c =
    let i = c.loop-trailer.trailer-index in
    let ts = c.args.trailers.now in
    let x = c.trailer-item.result in
    let rest = trailers_of (drop (i + 1) ts) in
    let calls = call c.args.calls_left in
    let e = expression_of c.args.atom.now in
    let m0 = c.args.machine.now in
    let m1 = c.loop-trailer.machine in
    let a = c.args.steps.now in
    let b = c.loop-trailer.steps in
    let p = c.in-Ok.part in
    let inv = c.loop-trailer.invariant in
    let new = c.match-trailer in
    let whole = (part calls e (expr calls e) >>= λ p. trailers calls p (trailers_of ts)) (moment_of m0) in
    let here = trailer_here ts i x c.loop-trailer-test.true c.trailer-item.is (trailer_of x) refl in
    let low = (trailer_low ts i x c.loop-trailer-test.true c.trailer-item.is (trailer_of x) refl).1 in
    let had : Found calls whole (t.more_trailers (trailer_of x) rest) i m0 a c.loop-trailer.found m1 b =
    ((inv.told.0, inv.told.1, inv.told.2 ∙ ap (λ (us : t.Trailers). and_then inv.told.0 (λ p. trailers calls p us)) here), inv.kept, inv.reads, inv.owes, inv.sound) in
    let found : Found calls whole rest (i + 1) m0 a new.found new.machine new.steps =
    elim new.branch [
      | primaries::part_behind-in-Attribute w ↦ (
          let r = w.dotted_part.result in
          let m2 = w.dotted_part.new.machine in
          let b2 = w.dotted_part.new.steps in
          let is : trailer_of x ≡ t.attribute (rc_str_bytes w.in-Attribute.name) = ap trailer_of w.in-Attribute.is ∙ attribute_is w.in-Attribute.name in
          let gave = subst (λ (y : Trailer). Gives part_of r (moment_of m2) (trailer calls (part_of p) y (moment_of m1))) (sym is) w.dotted_part.ensures.gives in
          moved (Found calls whole rest (i + 1) m0 a) new.found r new.machine m2 new.steps b2 w.found-is w.machine-is w.steps-is
          (found_on calls whole (trailer_of x) rest i (8 + 8 * owed (part_of p)) m0 m1 m2 a b b2 p c.loop-trailer.found r c.in-Ok.is (omega arith) had gave w.dotted_part.ensures.kept w.dotted_part.ensures.reads w.dotted_part.ensures.owes w.dotted_part.ensures.sound))
      | primaries::part_behind-in-Call w ↦ (
          let r = w.called_part.result in
          let m2 = w.called_part.new.machine in
          let b2 = w.called_part.new.steps in
          let is : trailer_of x ≡ t.call (arguments_of w.deref.result.now) = ap trailer_of w.in-Call.is ∙ call_is w.in-Call.arguments ∙ ap (λ (as' : List rust_argument.Argument). t.call (arguments_of as')) (sym w.deref.ensures.value) in
          let gave = subst (λ (y : Trailer). Gives part_of r (moment_of m2) (trailer calls (part_of p) y (moment_of m1))) (sym is) w.called_part.ensures.gives in
          moved (Found calls whole rest (i + 1) m0 a) new.found r new.machine m2 new.steps b2 w.found-is w.machine-is w.steps-is
          (found_on calls whole (trailer_of x) rest i 104 m0 m1 m2 a b b2 p c.loop-trailer.found r c.in-Ok.is (omega arith) had gave w.called_part.ensures.kept w.called_part.ensures.reads w.called_part.ensures.owes w.called_part.ensures.sound))
      | primaries::part_behind-in-Index w ↦ (
          let r = w.item_part.result in
          let m2 = w.item_part.new.machine in
          let b2 = w.item_part.new.steps in
          let is : trailer_of x ≡ t.index (expression_of w.in-Index.index) = ap trailer_of w.in-Index.is ∙ index_is w.in-Index.index in
          let gave = subst (λ (y : Trailer). Gives part_of r (moment_of m2) (trailer calls (part_of p) y (moment_of m1))) (sym is) w.item_part.ensures.gives in
          moved (Found calls whole rest (i + 1) m0 a) new.found r new.machine m2 new.steps b2 w.found-is w.machine-is w.steps-is
          (found_on calls whole (trailer_of x) rest i (16 + 8 * owed (part_of p)) m0 m1 m2 a b b2 p c.loop-trailer.found r c.in-Ok.is (omega arith) had gave w.item_part.ensures.kept w.item_part.ensures.reads w.item_part.ensures.owes w.item_part.ensures.sound))
      | primaries::part_behind-in-Slice w ↦ (
          let r = w.sliced_part.result in
          let m2 = w.sliced_part.new.machine in
          let b2 = w.sliced_part.new.steps in
          let is : trailer_of x ≡ t.slice (bound_of (tree_value w.in-Slice.start)) (bound_of (tree_value w.in-Slice.stop)) (bound_of (tree_value w.in-Slice.step)) = ap trailer_of w.in-Slice.is ∙ slice_is w.in-Slice.start w.in-Slice.stop w.in-Slice.step in
          let gave = subst (λ (y : Trailer). Gives part_of r (moment_of m2) (trailer calls (part_of p) y (moment_of m1))) (sym is) w.sliced_part.ensures.gives in
          moved (Found calls whole rest (i + 1) m0 a) new.found r new.machine m2 new.steps b2 w.found-is w.machine-is w.steps-is
          (found_on calls whole (trailer_of x) rest i (16 + 8 * owed (part_of p)) m0 m1 m2 a b b2 p c.loop-trailer.found r c.in-Ok.is (omega arith) had gave w.sliced_part.ensures.kept w.sliced_part.ensures.reads w.sliced_part.ensures.owes w.sliced_part.ensures.sound))
    ] in
    record {
      told = found.0;
      height = omega (arith, low, inv.height);
      fits = (trailer_fits ts i x c.loop-trailer-test.true c.trailer-item.is (trailer_of x) refl inv.fits).1;
      kept = found.1;
      reads = found.2;
      owes = found.3;
      sound = found.4;
    }

pub primaries::part_behind-returns-clause-gives : goal.primaries::part_behind-returns-clause-gives
primaries::part_behind-returns-clause-gives g falls c =
    let calls = call c.args.calls_left in
    let e = expression_of c.args.atom.now in
    let ts = trailers_of c.args.trailers.now in
    let told = c.loop-trailer.invariant.told in
    let none = ap (λ (us : List rust_trailer.Trailer). and_then told.0 (λ p. trailers calls p (trailers_of us))) (drop_all c.loop-trailer.trailer-index c.args.trailers.now (omega (arith, c.loop-trailer-test.false))) in
    found_ends calls ((part calls e (expr calls e) >>= λ p. trailers calls p ts) (moment_of c.args.machine.now)) c.loop-trailer.found (moment_of c.loop-trailer.machine) told.0 told.1 (told.2 ∙ none)

pub primaries::part_behind-returns-clause-sound : goal.primaries::part_behind-returns-clause-sound
primaries::part_behind-returns-clause-sound g falls c = c.loop-trailer.invariant.sound

pub primaries::part_behind-returns-clause-kept : goal.primaries::part_behind-returns-clause-kept
primaries::part_behind-returns-clause-kept g falls c = grown_by_more c.loop-trailer.trailer-index (length c.args.trailers.now) c.args.machine.now c.loop-trailer.machine c.args.steps.now c.loop-trailer.steps c.loop-trailer.auto.trailer-index-end c.loop-trailer.invariant.kept

pub primaries::part_behind-returns-clause-reads : goal.primaries::part_behind-returns-clause-reads
primaries::part_behind-returns-clause-reads g falls c =
    leaves_more (120 * c.loop-trailer.trailer-index) (120 * length c.args.trailers.now) (omega (arith, c.loop-trailer.auto.trailer-index-end)) c.args.machine.now c.args.steps.now c.loop-trailer.found c.loop-trailer.machine c.loop-trailer.steps c.loop-trailer.invariant.reads

pub primaries::part_behind-returns-clause-owes : goal.primaries::part_behind-returns-clause-owes
primaries::part_behind-returns-clause-owes g falls c =
    owing_more c.loop-trailer.trailer-index (length c.args.trailers.now) c.loop-trailer.auto.trailer-index-end c.args.machine.now c.loop-trailer.found c.loop-trailer.machine c.loop-trailer.invariant.owes

-- ---- primary_part

pub primaries::primary_part-returns-clause-gives : goal.primaries::primary_part-returns-clause-gives
primaries::primary_part-returns-clause-gives g falls c =
    let calls = call c.args.calls_left in
    let e = expression_of c.args.atom.now in
    let ts = trailers_of c.args.trailers.now in
    subst (λ (x : Ends (Unit {0})). Gives part_of c.part_behind.result (moment_of c.part_behind.new.machine) (and_then (and_then x (λ _. part calls e (expr calls e))) (λ p. trailers calls p ts)))
    (sym c.in_ok-take_nodes.ensures.gives) c.part_behind.ensures.gives

-- ---- primary_value

pub primaries::primary_value-returns-in-Ok-clause-gives : goal.primaries::primary_value-returns-in-Ok-clause-gives
primaries::primary_value-returns-in-Ok-clause-gives g falls c =
    let calls = call c.args.calls_left in
    let e = expression_of c.args.atom.now in
    let ts = trailers_of c.args.trailers.now in
    let p = part_of c.in-Ok.part in
    let u = moment_of c.part_behind.new.machine in
    primary_gives calls e ts (moment_of c.args.machine.now) value_of c.settled.result p u (moment_of c.settled.new.machine)
    (subst (λ (x : Ends (Unit {0})). and_then (and_then x (λ _. part calls e (expr calls e))) (λ q. trailers calls q ts) ≡ fine p u) (sym c.in_ok-take_nodes.ensures.gives) c.in-Ok.ensures.gives)
    c.settled.ensures.gives

pub primaries::primary_value-returns-in-Err-clause-gives : goal.primaries::primary_value-returns-in-Err-clause-gives
primaries::primary_value-returns-in-Err-clause-gives g falls c =
    let calls = call c.args.calls_left in
    let e = expression_of c.args.atom.now in
    let ts = trailers_of c.args.trailers.now in
    let f = c.in-Err.fault in
    let u = moment_of c.part_behind.new.machine in
    primary_fails calls e ts (moment_of c.args.machine.now) f u
    (subst (λ (x : Ends (Unit {0})). Fails {A = Part} f u (and_then (and_then x (λ _. part calls e (expr calls e))) (λ q. trailers calls q ts))) (sym c.in_ok-take_nodes.ensures.gives) c.in-Err.ensures.gives)

-- ---- value_with_sign

pub operators::value_with_sign-returns-clause-sound : goal.operators::value_with_sign-returns-clause-sound
operators::value_with_sign-returns-clause-sound g falls c = c.signed_value.ensures.sound (length c.tick.new.machine.heap)

-- ---- values_of

pub displays::values_of-loop-item-init : goal.displays::values_of-loop-item-init
displays::values_of-loop-item-init g falls c = record {
  told = rw c.new-values.ensures.items (begun (values (call c.args.calls_left) (expressions_of c.args.items.now) (moment_of c.args.machine.now)));
  height = omega arith;
  fits = c.requires.fit_items;
  kept = grown_none 0 c.args.machine.now c.args.steps.now;
  reads = omega arith;
  sound = rw c.new-values.ensures.items (search rules);
}

pub displays::values_of-evaluate-requires : goal.displays::values_of-evaluate-requires
displays::values_of-evaluate-requires g falls c κs within =
    let here = expressions_here c.args.items.now c.loop-item.item-index c.item-item.result (omega arith) c.item-item.is in
    let k : of_expressions (expressions_of (drop c.loop-item.item-index c.args.items.now)) ≡ max (of_expression (expression_of c.item-item.result)) (of_expressions (expressions_of (drop (c.loop-item.item-index + 1) c.args.items.now))) = ap of_expressions here in (
      omega arith,
      (
        search rules,
        (
          omega arith,
          (
            (subst (λ (es : Expressions). ExpressionsFit es) here c.loop-item.invariant.fits).0,
            omega (arith, c.requires.room, c.loop-item.invariant.kept.1),
          ),
        ),
      ),
    )

pub displays::values_of-loop-item-preserved : goal.displays::values_of-loop-item-preserved
displays::values_of-loop-item-preserved g falls c =
    let i = c.loop-item.item-index in
    let rest = expressions_of (drop (i + 1) c.args.items.now) in
    let e = expression_of c.item-item.result in
    let v = c.in_ok-evaluate.field-0 in
    let done = c.loop-item.values.items in
    let calls = call c.args.calls_left in
    let s = moment_of c.loop-item.machine in
    let t = moment_of c.evaluate.new.machine in
    let kept = c.in_ok-evaluate.ensures.kept in
    let here = expressions_here c.args.items.now i c.item-item.result (omega arith) c.item-item.is in
    let k : of_expressions (expressions_of (drop i c.args.items.now)) ≡ max (of_expression e) (of_expressions rest) = ap of_expressions here in
    record {
      told =
          rw (c.in_ok-push.ensures.items, pushed_values done v) (
          c.loop-item.invariant.told
          ∙ ap (λ (es : Expressions). and_then (values calls es s) (λ vs. give (map value_of done ++ vs))) here
          ∙ values_on calls (map value_of done) (value_of v) s t e rest c.in_ok-evaluate.ensures.gives);
      height = omega arith;
      fits = (subst (λ (es : Expressions). ExpressionsFit es) here c.loop-item.invariant.fits).1;
      kept = grown_on 0 0 c.args.machine.now c.loop-item.machine c.evaluate.new.machine c.args.steps.now c.loop-item.steps c.evaluate.new.steps c.loop-item.invariant.kept kept;
      reads = omega (arith, c.loop-item.invariant.reads, c.in_ok-evaluate.ensures.reads);
      sound = rw c.in_ok-push.ensures.items (pushed_sound (length c.loop-item.machine.heap) (length c.evaluate.new.machine.heap) done v kept.0 c.loop-item.invariant.sound c.in_ok-evaluate.ensures.sound);
    }

pub displays::values_of-returns-clause-gives : goal.displays::values_of-returns-clause-gives
displays::values_of-returns-clause-gives g falls c =
    let done = map value_of c.loop-item.values.items in
    let calls = call c.args.calls_left in
    let s = moment_of c.loop-item.machine in
    all_made (values calls (expressions_of c.args.items.now) (moment_of c.args.machine.now)) done s
    (c.loop-item.invariant.told ∙ ap (λ (es : List Expr). and_then (values calls (expressions_of es) s) (λ vs. give (done ++ vs))) (drop_all c.loop-item.item-index c.args.items.now (omega arith)))

-- ---- called

pub calls::called-entered-requires : goal.calls::called-entered-requires
calls::called-entered-requires g falls c κs within = (
  omega (arith, ap (λ (d : Def). of_statements (definition_of d).body) c.deref-in-Some-2.ensures, c.requires.small),
  (
    search rules,
    (
      search rules,
      (
        search rules,
        (
          (let n = length c.args.machine.now.heap in
              let d = definition_of c.args.function.now.def.value in
              let vs = map value_of c.args.function.now.defaults.items in
              let given = given_of c.args.given.now in
              let there : Some (names_of c.in-Some.values.entries) ≡ bound_values d vs given = search rules in
              subst (AreSoundNames n) (sym there) (bound_sound n d vs given c.requires.fits.0 c.requires.sound_defaults c.requires.sound_given)),
          search rules,
        ),
      ),
    ),
  ),
)

pub calls::called-returns-in_ok-own-in-Some-clause-gives : goal.calls::called-returns-in_ok-own-in-Some-clause-gives
calls::called-returns-in_ok-own-in-Some-clause-gives g falls c =
    let d = definition_of c.args.function.now.def.value in
    let vs = map value_of c.args.function.now.defaults.items in
    let given = given_of c.args.given.now in
    let there : Some (names_of c.in-Some.values.entries) ≡ bound_values d vs given = search rules in
    let some : 0 < c.args.calls_left = search rules in
    let here : frame_of (record { own = c.in_ok-own-in-Some.own; values = c.in-Some.values }) ≡ record { own = own_names d; values = names_of c.in-Some.values.entries } = search rules in
    called_bound value_of c.entered.result c.args.calls_left d vs given (moment_of c.args.machine.now) (moment_of c.entered.new.machine) some
    (c.args.calls_left - 1) (definition_of c.deref-in-Some-2.result.now) (frame_of (record { own = c.in_ok-own-in-Some.own; values = c.in-Some.values })) (names_of c.in-Some.values.entries) refl (ap definition_of c.deref-in-Some-2.ensures) here there c.entered.ensures.gives

pub calls::called-returns-in-None-clause-gives : goal.calls::called-returns-in-None-clause-gives
calls::called-returns-in-None-clause-gives g falls c =
    let d = definition_of c.args.function.now.def.value in
    let vs = map value_of c.args.function.now.defaults.items in
    let given = given_of c.args.given.now in
    let there : None ≡ bound_values d vs given = search rules in
    let some : 0 < c.args.calls_left = search rules in
    let title : c.as_str.result.now ≡ d.title = search (rules, title_is) in
    called_refused value_of c.bad_arguments.result c.args.calls_left d vs given (moment_of c.args.machine.now) (moment_of c.args.machine.now) some c.as_str.result.now there title c.requires.title c.bad_arguments.ensures

-- ---- entered

pub calls::entered-block-flow-requires : goal.calls::entered-block-flow-requires
calls::entered-block-flow-requires g falls c κs within = (
  omega (arith, ap of_statements (body_is c.args.def.now ∙ ap statements_of (sym c.deref.ensures.value))),
  (
    search rules,
    (
      subst (λ (b : Statements). of_statements b < height_limit) (body_is c.args.def.now ∙ ap statements_of (sym c.deref.ensures.value)) c.requires.small,
      (
        subst StatementsFit (body_is c.args.def.now ∙ ap statements_of (sym c.deref.ensures.value)) c.requires.fits,
        search rules,
      ),
    ),
  ),
)

pub calls::entered-invariant_of-machine-2 : goal.calls::entered-invariant_of-machine-2
calls::entered-invariant_of-machine-2 g falls c =
    let old = c.args.machine.now in
    let new = c.block-flow.new.machine in
    record {
      sound = subst (λ (f : Option Frame). IsTrue (is_sound_run new.heap new.names.bound (locals_of f) (option_map value_of new.handled))) (sym c.replace-outer.ensures.value)
          (sound_left old.heap new.heap old.names.bound new.names.bound (locals_of old.locals) (locals_of new.locals) (option_map value_of old.handled) (option_map value_of new.handled) c.block-flow.ensures.kept.0 old.sound new.sound);
    }

pub calls::entered-returns-in_err-flow-clause-gives : goal.calls::entered-returns-in_err-flow-clause-gives
calls::entered-returns-in_err-flow-clause-gives g falls c =
    let s = moment_of c.args.machine.now in
    let t = moment_of c.block-flow.new.machine in
    let p = err_from_is_err_and c.from_residual.result c.from_residual.ensures.1 in
    let low : s.depth < 1000 = search rules in
    let deep : suc s.depth ≡ c.args.machine.now.budget.depth + 1 = omega arith in
    rw (p.1, p.2) (entered_fails (call c.args.calls_left) (frame_of c.args.frame) (definition_of c.args.def.now) (statements_of c.deref.result.now) s t (c.args.machine.now.budget.depth + 1) (locals_of c.replace-outer.new.dest) (locals_of c.replace-outer.result)
    low deep (ap locals_of (sym c.replace-outer.ensures.after)) (ap locals_of (sym c.replace-outer.ensures.value)) (body_is c.args.def.now ∙ ap statements_of (sym c.deref.ensures.value)) c.in_err-flow.field-0.0 c.in_err-flow.ensures.gives)

pub calls::entered-returns-clause-gives : goal.calls::entered-returns-clause-gives
calls::entered-returns-clause-gives g falls c =
    let s = moment_of c.args.machine.now in
    let t = moment_of c.block-flow.new.machine in
    let low : s.depth < 1000 = search rules in
    let deep : suc s.depth ≡ c.args.machine.now.budget.depth + 1 = omega arith in
    rw c.returned.ensures (entered_fine (call c.args.calls_left) (frame_of c.args.frame) (definition_of c.args.def.now) (statements_of c.deref.result.now) s t (c.args.machine.now.budget.depth + 1) (locals_of c.replace-outer.new.dest) (locals_of c.replace-outer.result)
    low deep (ap locals_of (sym c.replace-outer.ensures.after)) (ap locals_of (sym c.replace-outer.ensures.value)) (body_is c.args.def.now ∙ ap statements_of (sym c.deref.ensures.value)) (flow_of c.in_ok-flow.field-0) c.in_ok-flow.ensures.gives)

-- ---- place_at

pub targets::place_at-returns-in-Primary-clause-gives : goal.targets::place_at-returns-in-Primary-clause-gives
targets::place_at-returns-in-Primary-clause-gives g falls c = rw (c.in-Primary.is, primary_is c.in-Primary.atom c.in-Primary.trailers) (search rules)

-- ---- primary_place

pub targets::primary_place-part_behind-requires-2 : goal.targets::primary_place-part_behind-requires-2
targets::primary_place-part_behind-requires-2 g falls c κs within = (
  omega (arith, before_low c.args.trailers.now c.in-Some.before.now (c.in-Some.last.now) c.in-Some.ensures.cases.0, c.requires.small_trailers),
  (
    search rules,
    (
      search rules,
      (
        search rules,
        (
          omega (arith, before_low c.args.trailers.now c.in-Some.before.now (c.in-Some.last.now) c.in-Some.ensures.cases.0, c.requires.small_trailers),
          (
            before_fits c.args.trailers.now c.in-Some.before.now c.in-Some.last.now c.in-Some.ensures.cases.0 c.requires.fit_trailers,
            search rules,
          ),
        ),
      ),
    ),
  ),
)

pub targets::primary_place-last_place-requires : goal.targets::primary_place-last_place-requires
targets::primary_place-last_place-requires g falls c κs within = (
  omega (arith, last_low c.args.trailers.now c.in-Some.before.now c.in-Some.last.now c.in-Some.ensures.cases.0, c.requires.small_trailers),
  (
    search rules,
    (
      search rules,
      (
        omega (arith, last_low c.args.trailers.now c.in-Some.before.now c.in-Some.last.now c.in-Some.ensures.cases.0, c.requires.small_trailers),
        (
          last_fits c.args.trailers.now c.in-Some.before.now c.in-Some.last.now c.in-Some.ensures.cases.0 c.requires.fit_trailers,
          search rules,
        ),
      ),
    ),
  ),
)

pub targets::primary_place-returns-clause-gives : goal.targets::primary_place-returns-clause-gives
targets::primary_place-returns-clause-gives g falls c =
    let calls = call c.args.calls_left in
    let before = c.in-Some.before.now in
    let last = c.in-Some.last.now in
    let split = place_split calls (expression_of c.args.atom.now) (trailers_of c.args.trailers.now) (moment_of c.args.machine.now) (moment_of c.take_container_nodes.new.machine) c.in_ok-take_container_nodes.ensures.gives (map trailer_of before) (trailer_of last) (split_trailers c.args.trailers.now before last c.in-Some.ensures.cases.0) in
    subst (λ (x : Ends Place). Gives place_of c.last_place.result (moment_of c.last_place.new.machine) x) (sym split)
    (gives_on (λ q. settled q >>= λ v. place_by calls v (trailer_of last)) place_of c.last_place.result (part_of c.in_ok-part.part) (moment_of c.part_behind-2.new.machine) (moment_of c.last_place.new.machine) _ c.in_ok-part.ensures.gives c.last_place.ensures.gives)

pub targets::primary_place-returns-in_err-part-clause-gives : goal.targets::primary_place-returns-in_err-part-clause-gives
targets::primary_place-returns-in_err-part-clause-gives g falls c =
    let p = err_from_is_err_and c.from_residual-in_err-part.result c.from_residual-in_err-part.ensures.1 in
    let f = c.in_err-part.field-0.0 in
    let end = moment_of c.part_behind-2.new.machine in
    let calls = call c.args.calls_left in
    let before = c.in-Some.before.now in
    let last = c.in-Some.last.now in
    let split = place_split calls (expression_of c.args.atom.now) (trailers_of c.args.trailers.now) (moment_of c.args.machine.now) (moment_of c.take_container_nodes.new.machine) c.in_ok-take_container_nodes.ensures.gives (map trailer_of before) (trailer_of last) (split_trailers c.args.trailers.now before last c.in-Some.ensures.cases.0) in
    rw (p.1, p.2) (subst (λ (x : Ends Place). Fails f end x) (sym split) (fails_on (λ q. settled q >>= λ v. place_by calls v (trailer_of last)) f end _ c.in_err-part.ensures.gives))

pub targets::primary_place-returns-in_err-_part-clause-gives : goal.targets::primary_place-returns-in_err-_part-clause-gives
targets::primary_place-returns-in_err-_part-clause-gives g falls c =
    let p = err_from_is_err_and c.from_residual-in_err-_part.result c.from_residual-in_err-_part.ensures.1 in
    let f = c.in_err-_part.field-0.0 in
    let end = moment_of c.part_behind.new.machine in
    let none = place_none (call c.args.calls_left) (expression_of c.args.atom.now) (trailers_of c.args.trailers.now) (moment_of c.args.machine.now) (moment_of c.take_container_nodes.new.machine) c.in_ok-take_container_nodes.ensures.gives (ap trailers_of (nil_from_length c.args.trailers.now c.in_default.ensures.cases)) in
    rw (p.1, p.2) (subst (λ (x : Ends Place). Fails f end x) (sym none) (fails_on (λ q. no_place) f end _ c.in_err-_part.ensures.gives))

pub targets::primary_place-returns-in_default-clause-gives : goal.targets::primary_place-returns-in_default-clause-gives
targets::primary_place-returns-in_default-clause-gives g falls c =
    let none = place_none (call c.args.calls_left) (expression_of c.args.atom.now) (trailers_of c.args.trailers.now) (moment_of c.args.machine.now) (moment_of c.take_container_nodes.new.machine) c.in_ok-take_container_nodes.ensures.gives (ap trailers_of (nil_from_length c.args.trailers.now c.in_default.ensures.cases)) in
    let end = moment_of c.part_behind.new.machine in
    subst (λ (x : Ends Place). Gives place_of c.no_place.result end x) (sym (none ∙ ap (λ (x : Ends Part). and_then x (λ q. no_place)) c.in_ok-_part.ensures.gives))
    (raises_text place_of syntax_error_class (codes "invalid syntax") c.no_place.result end c.no_place.ensures)

-- ---- store_deeper_pattern

pub targets::store_deeper_pattern-returns-clause-gives : goal.targets::store_deeper_pattern-returns-clause-gives
targets::store_deeper_pattern-returns-clause-gives g falls c =
    let done = c.store_pattern-result in
    nested_gives (call c.args.calls_left) (expressions_of c.args.targets.now) (value_of c.args.value.now) (λ u. u) done.result (moment_of c.args.machine.now) (moment_of done.new.machine) c.if-depth-ge-MOST_DEPTH.false done.ensures.gives

-- ---- store_each

pub targets::store_each-store-requires : goal.targets::store_each-store-requires
targets::store_each-store-requires g falls c κs within =
    let low = expressions_low c.args.targets.now c.loop-i.i c.index-targets-i.result c.loop-i-test.true c.index-targets-i.is in
    let n = length c.args.machine.now.heap in (
      (omega (arith, low.0, c.loop-i.invariant.height, c.requires.small_targets)),
      (
        search rules,
        (
          (omega (arith, low.0, c.loop-i.invariant.height, c.requires.small_targets)),
          (
            (expressions_fit c.args.targets.now c.loop-i.i c.index-targets-i.result c.loop-i-test.true c.index-targets-i.is c.loop-i.invariant.fits).0,
            (
              (sound_more n (length c.loop-i.machine.heap) c.loop-i.invariant.kept.0 (value_of c.index-items-i.result) (sound_at n c.args.items.now c.loop-i.i c.index-items-i.result c.if-i-items.true c.index-items-i.is c.requires.sound_items)),
              (
                search rules,
                (targets_here c.args.targets.now c.loop-i.i c.index-targets-i.result c.loop-i-test.true c.index-targets-i.is c.loop-i.invariant.targets).0,
              ),
            ),
          ),
        ),
      ),
    )

pub targets::store_each-returns-in_err-store-clause-gives : goal.targets::store_each-returns-in_err-store-clause-gives
targets::store_each-returns-in_err-store-clause-gives g falls c =
    let p = err_from_is_err_and c.from_residual.result c.from_residual.ensures.1 in
    let f = c.in_err-store.field-0.0 in
    let t = moment_of c.store.new.machine in
    rw (p.1, p.2) (subst (λ (x : Ends (Unit {0})). Fails f t x) (sym c.loop-i.invariant.told)
    (store_fails c.args.targets.now c.loop-i.i c.index-targets-i.result c.loop-i-test.true c.index-targets-i.is c.args.items.now (call c.args.calls_left) (moment_of c.loop-i.machine) c.index-items-i.result c.if-i-items.true c.index-items-i.is f t c.in_err-store.ensures.gives))

pub targets::store_each-loop-i-preserved : goal.targets::store_each-loop-i-preserved
targets::store_each-loop-i-preserved g falls c =
    let now = c.loop-i.invariant in
    let i = c.loop-i.i in
    let es = c.args.targets.now in
    let vs = c.args.items.now in
    let calls = call c.args.calls_left in
    let s = moment_of c.loop-i.machine in
    record {
      told =
          now.told ∙ elim c.if-i-items.branch [
            | targets::store_each-then-i-items+in_ok-store w ↦
                stored es i w.index-targets-i.result c.loop-i-test.true w.index-targets-i.is vs calls s w.index-items-i.result w.if-i-items.true w.index-items-i.is (moment_of w.store.new.machine) w.in_ok-store.ensures.gives
                ∙ ap (λ (m : Machine). store_each calls (expressions_of (drop (i + 1) es)) (map value_of (drop (i + 1) vs)) (moment_of m)) (sym w.machine-is)
            | targets::store_each-else-i-items w ↦
                store_ends calls (expressions_of (drop i es)) vs i s (omega (arith, w.if-i-items.false))
                ∙ sym (store_ends calls (expressions_of (drop (i + 1) es)) vs (i + 1) s (omega (arith, w.if-i-items.false)))
                ∙ ap (λ (m : Machine). store_each calls (expressions_of (drop (i + 1) es)) (map value_of (drop (i + 1) vs)) (moment_of m)) (sym w.machine-is)
          ];
      height = omega (arith, rest_low es i, now.height);
      fits = rest_fits es i now.fits;
      kept = elim c.if-i-items.branch [
        | targets::store_each-then-i-items+in_ok-store w ↦ rw (w.machine-is, w.steps-is) (grown_on 0 0 c.args.machine.now c.loop-i.machine w.store.new.machine c.args.steps.now c.loop-i.steps w.store.new.steps now.kept w.in_ok-store.ensures.kept)
        | targets::store_each-else-i-items w ↦ rw (w.machine-is, w.steps-is) now.kept
      ];
      reads = elim c.if-i-items.branch [
        | targets::store_each-then-i-items+in_ok-store w ↦ rw (w.machine-is, w.steps-is) (omega (arith, now.reads, w.in_ok-store.ensures.stored))
        | targets::store_each-else-i-items w ↦ rw (w.machine-is, w.steps-is) now.reads
      ];
      targets = targets_rest es i now.targets;
    }

pub targets::store_each-returns-clause-gives : goal.targets::store_each-returns-clause-gives
targets::store_each-returns-clause-gives g falls c =
    c.loop-i.invariant.told ∙ targets_end (call c.args.calls_left) c.args.targets.now c.loop-i.i (map value_of (drop c.loop-i.i c.args.items.now)) (moment_of c.loop-i.machine) (omega (arith, c.loop-i-test.false))

-- ---- store_pattern

pub targets::store_pattern-returns-in_err-items-clause-gives : goal.targets::store_pattern-returns-in_err-items-clause-gives
targets::store_pattern-returns-in_err-items-clause-gives g falls c =
    let p = err_from_is_err_and c.from_residual.result c.from_residual.ensures.1 in
    rw (p.1, p.2) (pattern_fails (call c.args.calls_left) c.args.targets.now (value_of c.args.value.now) (moment_of c.args.machine.now) c.in_err-items.field-0.0 (moment_of c.unpacked.new.machine) c.in_err-items.ensures.gives)

pub targets::store_pattern-store_each-requires : goal.targets::store_pattern-store_each-requires
targets::store_pattern-store_each-requires g falls c κs within = (
  omega arith,
  (
    search rules,
    (
      c.requires.small_targets,
      (
        c.requires.fit_targets,
        (
          search rules,
          (
            search rules,
            (targets_are c.args.targets.now c.requires.targets).0,
          ),
        ),
      ),
    ),
  ),
)

pub targets::store_pattern-returns-clause-gives : goal.targets::store_pattern-returns-clause-gives
targets::store_pattern-returns-clause-gives g falls c =
    let t = moment_of c.unpacked.new.machine in
    let same = ap (λ (vs : List rust.Value). fine (map value_of vs) t) (sym c.as_slice.ensures.value) in
    pattern_gives (call c.args.calls_left) c.args.targets.now (value_of c.args.value.now) (moment_of c.args.machine.now) c.store_each.result (map value_of c.as_slice.result.now) t (moment_of c.store_each.new.machine) (c.in_ok-items.ensures.gives ∙ same) c.store_each.ensures.gives

pub targets::store_pattern-returns-clause-reads : goal.targets::store_pattern-returns-clause-reads
targets::store_pattern-returns-clause-reads g falls c =
    let some = (targets_are c.args.targets.now c.requires.targets).1 in
    omega (arith, some, c.in_ok-items.ensures.taken, c.store_each.ensures.reads)

-- ---- block

pub statements::block-returns-then-depth-ge-MOST_DEPTH-clause-gives : goal.statements::block-returns-then-depth-ge-MOST_DEPTH-clause-gives
statements::block-returns-then-depth-ge-MOST_DEPTH-clause-gives g falls c =
    let none : length c.args.body.now ≢ 0 = λ e. false-eqb _ 0 (sym (sym c.is_empty.ensures ∙ c.if-is_empty.false)) e in
    let some : 0 < length c.args.body.now = omega (arith, none) in
    rw (block_is c.args.body.now (acts (call c.args.calls_left) (statements_of c.args.body.now)) some) (search rules)

pub statements::block-returns-clause-gives : goal.statements::block-returns-clause-gives
statements::block-returns-clause-gives g falls c =
    let none : length c.args.body.now ≢ 0 = λ e. false-eqb _ 0 (sym (sym c.is_empty.ensures ∙ c.if-is_empty.false)) e in
    let some : 0 < length c.args.body.now = omega (arith, none) in
    rw (block_is c.args.body.now (acts (call c.args.calls_left) (statements_of c.args.body.now)) some) (search rules)

-- ---- default_values

pub statements::default_values-loop-default-preserved : goal.statements::default_values-loop-default-preserved
statements::default_values-loop-default-preserved g falls c =
    let ps = c.args.params.now in
    let i = c.loop-default.default-index in
    let p = c.loop-default-item.result in
    let less = c.loop-default-test.true in
    let at = c.loop-default-item.is in
    let old = c.loop-default in
    let new = c.match-default in
    let inv = old.invariant in
    let calls = call c.args.calls_left in
    let vs = old.values.items in
    let s = moment_of old.machine in
    let low = parameters_low ps i p less at in
    let fit = parameters_fit ps i p less at inv.fits in
    elim c.match-default.branch [
      | statements::default_values-in-Some+in_ok-deeper_value+in_ok-push w ↦ (
          let v = w.in_ok-deeper_value.field-0 in
          let m2 = w.deeper_value.new.machine in
          let b2 = w.deeper_value.new.steps in
          let gave = w.in_ok-deeper_value.ensures in
          let items_are : new.values.items ≡ vs ++ v ∷ [] = ap (λ (p : Vec rust.Value Global). p.items) w.values-is ∙ w.in_ok-push.ensures.items in
          let now : map value_of new.values.items ≡ map value_of vs ++ value_of v ∷ [] = ap (map value_of) items_are ∙ pushed_values vs v in
          record {
            told =
                inv.told
                ∙ with_value ps i p less at w.in-Some.e w.in-Some.is calls (map value_of vs) s (moment_of m2) (value_of v) gave.gives
                ∙ ap (λ (m : Machine). and_then (defaults calls (map parameter_of (drop (i + 1) ps)) (moment_of m)) (λ xs. give ((map value_of vs ++ value_of v ∷ []) ++ xs))) (sym w.machine-is)
                ∙ ap (λ (ys : List Value). and_then (defaults calls (map parameter_of (drop (i + 1) ps)) (moment_of new.machine)) (λ xs. give (ys ++ xs))) (sym now);
            height = omega (arith, low.1, inv.height);
            fits = fit.1;
            kept =
                subst (λ (m : Machine). GrownBy 0 c.args.machine.now c.args.steps.now m new.steps) (sym w.machine-is)
                (subst (λ (b : ℕ). GrownBy 0 c.args.machine.now c.args.steps.now m2 b) (sym w.steps-is)
                (grown_on 0 0 c.args.machine.now old.machine m2 c.args.steps.now old.steps b2 inv.kept gave.kept));
            reads = subst (λ (m : Machine). ReadsBy 0 c.args.machine.now c.args.steps.now m new.steps) (sym w.machine-is)
                (subst (λ (b : ℕ). ReadsBy 0 c.args.machine.now c.args.steps.now m2 b) (sym w.steps-is)
                (omega (arith, inv.reads, gave.reads)));
            count = let many : length new.values.items ≡ length vs + 1 = ap length items_are ∙ length_push vs v in let step = with_count ps i p less at w.in-Some.e w.in-Some.is in let all = inv.count in omega (arith, many, step, all);
            sound =
                subst (λ (m : Machine). IsTrue (are_sound (length m.heap) (map value_of new.values.items))) (sym w.machine-is)
                (subst (λ (xs : List rust.Value). IsTrue (are_sound (length m2.heap) (map value_of xs))) (sym items_are)
                (pushed_sound (length old.machine.heap) (length m2.heap) vs v gave.kept.0 inv.sound gave.sound));
          })
      | statements::default_values-in_default w ↦ record {
        told =
            inv.told
            ∙ without_default ps i p less at w.in_default.is calls (map value_of vs) s
            ∙ ap (λ (m : Machine). and_then (defaults calls (map parameter_of (drop (i + 1) ps)) (moment_of m)) (λ xs. give (map value_of vs ++ xs))) (sym w.machine-is)
            ∙ ap (λ (p : Vec rust.Value Global). and_then (defaults calls (map parameter_of (drop (i + 1) ps)) (moment_of new.machine)) (λ xs. give (map value_of p.items ++ xs))) (sym w.values-is);
        height = omega (arith, low.1, inv.height);
        fits = fit.1;
        kept =
            subst (λ (m : Machine). GrownBy 0 c.args.machine.now c.args.steps.now m new.steps) (sym w.machine-is)
            (subst (λ (b : ℕ). GrownBy 0 c.args.machine.now c.args.steps.now old.machine b) (sym w.steps-is) inv.kept);
        reads = subst (λ (m : Machine). ReadsBy 0 c.args.machine.now c.args.steps.now m new.steps) (sym w.machine-is)
            (subst (λ (b : ℕ). ReadsBy 0 c.args.machine.now c.args.steps.now old.machine b) (sym w.steps-is) inv.reads);
        count = let many : length new.values.items ≡ length vs = ap (λ (p : Vec rust.Value Global). length p.items) w.values-is in let step = without_count ps i p less at w.in_default.is in let all = inv.count in omega (arith, many, step, all);
        sound =
            subst (λ (m : Machine). IsTrue (are_sound (length m.heap) (map value_of new.values.items))) (sym w.machine-is)
            (subst (λ (p : Vec rust.Value Global). IsTrue (are_sound (length old.machine.heap) (map value_of p.items))) (sym w.values-is) inv.sound);
      }
    ]

-- ---- handling

pub tries::handling-invariant_of-machine-2 : goal.tries::handling-invariant_of-machine-2
tries::handling-invariant_of-machine-2 g falls c =
    (let old = c.args.machine.now in
    let now = c.block-way.new.machine in
    let outer = option_map value_of c.replace-outer.result in
    let before = handled_in_run old.heap old.names.bound (locals_of old.locals) (option_map value_of old.handled) old.sound in
    let after = sound_more_handled (length old.heap) (length now.heap) c.block-way.ensures.kept.0 outer (rw c.replace-outer.ensures.value before) in
    record { sound = run_with_handled now.heap now.names.bound (locals_of now.locals) (option_map value_of now.handled) outer after now.sound })

-- ---- run_choice

pub statements::run_choice-evaluate-requires : goal.statements::run_choice-evaluate-requires
statements::run_choice-evaluate-requires g falls c κs within =
    let low = arms_low c.args.arms.now c.loop-arm.arm-index c.arm-item.result c.loop-arm-test.true c.arm-item.is in (
      (omega (arith, low.0, c.loop-arm.invariant.height, c.requires.small_arms)),
      (
        search rules,
        (
          (omega (arith, low.0, c.loop-arm.invariant.height, c.requires.small_arms)),
          (
            (arms_fit c.args.arms.now c.loop-arm.arm-index c.arm-item.result c.loop-arm-test.true c.arm-item.is c.loop-arm.invariant.fits).0,
            search rules,
          ),
        ),
      ),
    )

pub statements::run_choice-returns-in_err-value-clause-gives : goal.statements::run_choice-returns-in_err-value-clause-gives
statements::run_choice-returns-in_err-value-clause-gives g falls c =
    let p = err_from_is_err_and c.from_residual.result c.from_residual.ensures.1 in
    let f = c.in_err-value.field-0.0 in
    let s = moment_of c.loop-arm.machine in
    let t = moment_of c.evaluate.new.machine in
    rw (p.1, p.2) (subst (λ (x : Ends Flow). Fails f t x) (sym c.loop-arm.invariant.told)
    (arm_fails c.args.arms.now c.loop-arm.arm-index c.arm-item.result c.loop-arm-test.true c.arm-item.is (call c.args.calls_left) (statements_of c.args.other.now) s f t c.in_err-value.ensures.gives))

pub statements::run_choice-block-requires : goal.statements::run_choice-block-requires
statements::run_choice-block-requires g falls c κs within =
    let low = arms_low c.args.arms.now c.loop-arm.arm-index c.arm-item.result c.loop-arm-test.true c.arm-item.is in (
      (omega (arith, ap (λ b. of_statements (statements_of b)) c.deref.ensures.value, low.1, c.loop-arm.invariant.height, c.requires.small_arms)),
      (
        search rules,
        (
          (rw c.deref.ensures.value (omega (arith, low.1, c.loop-arm.invariant.height, c.requires.small_arms))),
          (
            rw c.deref.ensures.value (arms_fit c.args.arms.now c.loop-arm.arm-index c.arm-item.result c.loop-arm-test.true c.arm-item.is c.loop-arm.invariant.fits).1,
            search rules,
          ),
        ),
      ),
    )

pub statements::run_choice-returns-then-truth-clause-gives : goal.statements::run_choice-returns-then-truth-clause-gives
statements::run_choice-returns-then-truth-clause-gives g falls c =
    let s = moment_of c.loop-arm.machine in
    let s1 = moment_of c.evaluate.new.machine in
    let u = moment_of c.block.new.machine in
    subst (λ (x : Ends Flow). Gives flow_of c.block.result u x) (sym c.loop-arm.invariant.told)
    (this_arm c.args.arms.now c.loop-arm.arm-index c.arm-item.result c.loop-arm-test.true c.arm-item.is (call c.args.calls_left) (statements_of c.args.other.now) s (value_of c.in_ok-value.value) s1 c.truth.result c.in_ok-value.ensures.gives c.truth.ensures.is c.if-truth.true c.deref.result.now c.deref.ensures.value c.block.result u c.block.ensures.gives)

pub statements::run_choice-loop-arm-preserved : goal.statements::run_choice-loop-arm-preserved
statements::run_choice-loop-arm-preserved g falls c =
    let now = c.loop-arm.invariant in
    let arms = c.args.arms.now in
    let i = c.loop-arm.arm-index in
    let arm = c.arm-item.result in
    let s = moment_of c.loop-arm.machine in
    let s1 = moment_of c.evaluate.new.machine in
    let low = arms_low arms i arm c.loop-arm-test.true c.arm-item.is in
    let kept = c.in_ok-value.ensures.kept in
    record {
      told = now.told ∙ next_arm arms i arm c.loop-arm-test.true c.arm-item.is (call c.args.calls_left) (statements_of c.args.other.now) s (value_of c.in_ok-value.value) s1 c.truth.result c.in_ok-value.ensures.gives c.truth.ensures.is c.if-truth.false;
      height = omega (arith, low.2, now.height);
      fits = (arms_fit arms i arm c.loop-arm-test.true c.arm-item.is now.fits).2;
      kept = (omega (arith, now.kept.0, kept.0), omega (arith, now.kept.1, kept.1), omega (arith, now.kept.2, kept.2, c.truth.ensures.reads.0));
      reads = omega (arith, now.reads, c.in_ok-value.ensures.reads, c.truth.ensures.reads.1);
    }

pub statements::run_choice-returns-clause-gives : goal.statements::run_choice-returns-clause-gives
statements::run_choice-returns-clause-gives g falls c =
    let s = moment_of c.loop-arm.machine in
    let u = moment_of c.block-2.new.machine in
    subst (λ (x : Ends Flow). Gives flow_of c.block-2.result u x) (sym (c.loop-arm.invariant.told ∙ no_arm c.args.arms.now c.loop-arm.arm-index c.loop-arm-test.false (call c.args.calls_left) (statements_of c.args.other.now) s)) c.block-2.ensures.gives

-- ---- run_def

pub statements::run_def-default_values-requires : goal.statements::run_def-default_values-requires
statements::run_def-default_values-requires g falls c κs within =
    let is : map parameter_of c.as_slice.result.now ≡ (definition_of c.args.def.now.value).parameters = ap (map parameter_of) (c.as_slice.ensures.value ∙ ap (λ (d : Def). d.params.items) c.deref.ensures) ∙ sym (parameters_are c.args.def.now.value) in (
      (let is : map parameter_of c.as_slice.result.now ≡ (definition_of c.args.def.now.value).parameters = ap (map parameter_of) (c.as_slice.ensures.value ∙ ap (λ (d : Def). d.params.items) c.deref.ensures) ∙ sym (parameters_are c.args.def.now.value) in omega (arith, ap of_parameters is)),
      (
        search rules,
        (
          (subst (λ (ps : List Parameter). of_parameters ps < 2 ^ 20) (sym is) c.requires.small),
          (
            (subst (λ (ps : List Parameter). ParametersFit ps) (sym is) c.requires.fits),
            search rules,
          ),
        ),
      ),
    )

pub statements::run_def-returns-in_err-defaults-clause-gives : goal.statements::run_def-returns-in_err-defaults-clause-gives
statements::run_def-returns-in_err-defaults-clause-gives g falls c =
    let p = err_from_is_err_and c.from_residual.result c.from_residual.ensures.1 in
    let calls = call c.args.calls_left in
    let d = definition_of c.args.def.now.value in
    let s = moment_of c.args.machine.now in
    let t = moment_of c.default_values.new.machine in
    let f = c.in_err-defaults.field-0.0 in
    let is : map parameter_of c.as_slice.result.now ≡ d.parameters = ap (map parameter_of) (c.as_slice.ensures.value ∙ ap (λ (d : Def). d.params.items) c.deref.ensures) ∙ sym (parameters_are c.args.def.now.value) in
    rw (p.1, p.2) (def_defaults_fail calls d.title d.parameters d.body (rc_str_bytes c.args.code.now) s f t
    (subst (λ (ps : List Parameter). Fails f t (defaults calls ps s)) is c.in_err-defaults.ensures.gives))

pub statements::run_def-invariant_of-function : goal.statements::run_def-invariant_of-function
statements::run_def-invariant_of-function g falls c =
    let d = c.args.def.now.value in
    let profile = c.default_values.new.machine.profile in
    let code_is : rc_str_bytes c.in_ok-clone.field-0 ≡ rc_str_bytes c.args.code.now = c.in_ok-clone.ensures.cases in
    let def_is : c.in_ok-clone-2.field-0.value ≡ d = c.in_ok-clone-2.ensures.cases in
    let is : map parameter_of c.as_slice.result.now ≡ (definition_of d).parameters = ap (map parameter_of) (c.as_slice.ensures.value ∙ ap (λ (d : Def). d.params.items) c.deref.ensures) ∙ sym (parameters_are d) in
    record {
      short = subst (λ (x : Text). length x ≤ longest_text) (sym code_is) c.requires.code.0;
      read =
          subst (λ (x : Text). ∥ IsCodeOf profile x (definition_of c.in_ok-clone-2.field-0.value) ∥₁) (sym code_is)
          (subst (λ (k : Def). ∥ IsCodeOf profile (rc_str_bytes c.args.code.now) (definition_of k) ∥₁) (sym def_is)
          (defined_code profile (rc_str_bytes c.args.code.now) (definition_of d) c.requires.name c.requires.fits c.requires.body c.requires.low (c.requires.code.1 profile)));
      filled = c.in_ok-defaults.ensures.count ∙ ap with_default is ∙ ap (λ (k : Def). with_default (definition_of k).parameters) (sym def_is);
    }

pub statements::run_def-assign-requires-clause-name : goal.statements::run_def-assign-requires-clause-name
statements::run_def-assign-requires-clause-name g falls c =
    let is : rc_str_bytes c.deref-2.result.now.name ≡ (definition_of c.args.def.now.value).title = ap (λ (d : Def). rc_str_bytes d.name) c.deref-2.ensures ∙ sym (title_is c.args.def.now.value) in
    subst (λ (x : Text). IsTrue (is_name x)) (sym is) c.requires.name

pub statements::run_def-returns-clause-gives : goal.statements::run_def-returns-clause-gives
statements::run_def-returns-clause-gives g falls c =
    let calls = call c.args.calls_left in
    let d = definition_of c.args.def.now.value in
    let code = rc_str_bytes c.args.code.now in
    let s = moment_of c.args.machine.now in
    let s1 = moment_of c.default_values.new.machine in
    let s2 = moment_of c.make.new.machine in
    let vs = map value_of c.in_ok-defaults.defaults.items in
    let v = node c.in_ok-id.id.0 in
    let code_is : rc_str_bytes c.in_ok-clone.field-0 ≡ code = c.in_ok-clone.ensures.cases in
    let is : map parameter_of c.as_slice.result.now ≡ d.parameters = ap (map parameter_of) (c.as_slice.ensures.value ∙ ap (λ (d : Def). d.params.items) c.deref.ensures) ∙ sym (parameters_are c.args.def.now.value) in
    let named : rc_str_bytes c.deref-2.result.now.name ≡ d.title = ap (λ (d : Def). rc_str_bytes d.name) c.deref-2.ensures ∙ sym (title_is c.args.def.now.value) in
    def_ends calls d.title d.parameters d.body code s vs s1
    (subst (λ (ps : List Parameter). defaults calls ps s ≡ fine vs s1) is c.in_ok-defaults.ensures.gives)
    v s2
    (subst (λ (x : Text). make (function s1.profile x vs) s1 ≡ fine v s2) code_is c.in_ok-id.ensures.gives)
    (moment_of c.assign.new.machine)
    (subst (λ (x : Text). assign x v s2 ≡ fine tt (moment_of c.assign.new.machine)) named c.in_ok-assign.ensures.gives)

-- ---- run_for

pub loops::run_for-returns-in_err-walked-clause-gives : goal.loops::run_for-returns-in_err-walked-clause-gives
loops::run_for-returns-in_err-walked-clause-gives g falls c =
    let p = err_from_is_err_and c.from_residual.result c.from_residual.ensures.1 in
    let calls = call c.args.calls_left in
    let e = expression_of c.args.target.now in
    let walked = expression_of c.args.walked.now in
    let body = statements_of c.args.body.now in
    let s = moment_of c.args.machine.now in
    rw (p.1, p.2) (for_part_fails calls e walked body s c.in_err-walked.field-0.0 (moment_of c.part.new.machine) c.in_err-walked.ensures.gives)

pub loops::run_for-returns-in_err-walk-clause-gives : goal.loops::run_for-returns-in_err-walk-clause-gives
loops::run_for-returns-in_err-walk-clause-gives g falls c =
    let p = err_from_is_err_and c.from_residual-in_err-walk.result c.from_residual-in_err-walk.ensures.1 in
    let calls = call c.args.calls_left in
    let e = expression_of c.args.target.now in
    let walked = expression_of c.args.walked.now in
    let body = statements_of c.args.body.now in
    let s = moment_of c.args.machine.now in
    rw (p.1, p.2) (for_walk_fails calls e walked body s (part_of c.in_ok-walked.walked) (moment_of c.part.new.machine) c.in_ok-walked.ensures.gives c.in_err-walk.field-0.0 (moment_of c.walked_by.new.machine) (c.in_err-walk.ensures.gives calls))

pub loops::run_for-returns-clause-gives : goal.loops::run_for-returns-clause-gives
loops::run_for-returns-clause-gives g falls c =
    let calls = call c.args.calls_left in
    let e = expression_of c.args.target.now in
    let walked = expression_of c.args.walked.now in
    let body = statements_of c.args.body.now in
    let s = moment_of c.args.machine.now in
    for_gives calls e walked body s (part_of c.in_ok-walked.walked) (moment_of c.part.new.machine) c.in_ok-walked.ensures.gives flow_of c.run_turns.result (walk_of c.in_ok-walk.walk) (moment_of c.walked_by.new.machine) (moment_of c.run_turns.new.machine) (c.in_ok-walk.ensures.gives calls) c.run_turns.ensures.gives

-- ---- run_handlers

pub tries::run_handlers-is_for-requires : goal.tries::run_handlers-is_for-requires
tries::run_handlers-is_for-requires g falls c κs within =
    let low = handlers_low c.args.handlers.now c.loop-handler.handler-index c.handler-item.result c.loop-handler-test.true c.handler-item.is in (
      (omega (arith, low.0, c.loop-handler.invariant.height, c.requires.small)),
      (
        search rules,
        (
          (omega (arith, low.0, c.loop-handler.invariant.height, c.requires.small)),
          (
            (handlers_fit c.args.handlers.now c.loop-handler.handler-index c.handler-item.result c.loop-handler-test.true c.handler-item.is c.loop-handler.invariant.fits).0,
            search rules,
          ),
        ),
      ),
    )

pub tries::run_handlers-returns-in_err-is_for-clause-gives : goal.tries::run_handlers-returns-in_err-is_for-clause-gives
tries::run_handlers-returns-in_err-is_for-clause-gives g falls c =
    let p = err_from_is_err_and c.from_residual.result c.from_residual.ensures.1 in
    let f = c.in_err-is_for.field-0.0 in
    let s = moment_of c.loop-handler.machine in
    let t = moment_of c.is_for.new.machine in
    rw (p.1, p.2) (subst (λ (x : Ends Flow). Fails f t x) (sym c.loop-handler.invariant.told)
    (not_told c.args.handlers.now c.loop-handler.handler-index c.handler-item.result c.loop-handler-test.true c.handler-item.is (call c.args.calls_left) _ s t f c.in_err-is_for.ensures.gives))

pub tries::run_handlers-handle-requires : goal.tries::run_handlers-handle-requires
tries::run_handlers-handle-requires g falls c κs within =
    let low = handlers_low c.args.handlers.now c.loop-handler.handler-index c.handler-item.result c.loop-handler-test.true c.handler-item.is in (
      (omega (arith, ap (λ b. of_statements (statements_of b)) c.deref.ensures.value, low.1, c.loop-handler.invariant.height, c.requires.small)),
      (
        search rules,
        (
          (handlers_fit c.args.handlers.now c.loop-handler.handler-index c.handler-item.result c.loop-handler-test.true c.handler-item.is c.loop-handler.invariant.fits).1,
          (
            (rw c.deref.ensures.value (omega (arith, low.1, c.loop-handler.invariant.height, c.requires.small))),
            (
              rw c.deref.ensures.value (handlers_fit c.args.handlers.now c.loop-handler.handler-index c.handler-item.result c.loop-handler-test.true c.handler-item.is c.loop-handler.invariant.fits).2,
              (
                search rules,
                search rules,
              ),
            ),
          ),
        ),
      ),
    )

pub tries::run_handlers-returns-then-branch-clause-gives : goal.tries::run_handlers-returns-then-branch-clause-gives
tries::run_handlers-returns-then-branch-clause-gives g falls c =
    let s = moment_of c.loop-handler.machine in
    let t = moment_of c.is_for.new.machine in
    let u = moment_of c.handle.new.machine in
    subst (λ (x : Ends Flow). Gives flow_of c.handle.result u x) (sym c.loop-handler.invariant.told)
    (this_one c.args.handlers.now c.loop-handler.handler-index c.handler-item.result c.loop-handler-test.true c.handler-item.is (call c.args.calls_left) _ s t c.in_ok-is_for.field-0 c.if-branch.true c.in_ok-is_for.ensures.gives c.deref.result.now c.deref.ensures.value c.handle.result u c.handle.ensures.gives)

pub tries::run_handlers-loop-handler-preserved : goal.tries::run_handlers-loop-handler-preserved
tries::run_handlers-loop-handler-preserved g falls c =
    let now = c.loop-handler.invariant in
    let hs = c.args.handlers.now in
    let i = c.loop-handler.handler-index in
    let h = c.handler-item.result in
    let s = moment_of c.loop-handler.machine in
    let t = moment_of c.is_for.new.machine in
    let low = handlers_low hs i h c.loop-handler-test.true c.handler-item.is in
    let kept = c.is_for.ensures.kept in
    record {
      told = now.told ∙ not_this hs i h c.loop-handler-test.true c.handler-item.is (call c.args.calls_left) _ s t c.in_ok-is_for.field-0 c.if-branch.false c.in_ok-is_for.ensures.gives;
      height = omega (arith, low.2, now.height);
      fits = (handlers_fit hs i h c.loop-handler-test.true c.handler-item.is now.fits).3;
      kept = grown_on 0 0 c.args.machine.now c.loop-handler.machine c.is_for.new.machine c.args.steps.now c.loop-handler.steps c.is_for.new.steps now.kept kept;
      reads = omega (arith, now.reads, c.is_for.ensures.reads);
      sound = search (now.sound, kept.0, sound_more_thrown);
    }

-- ---- run_turns

pub loops::run_turns-loop-item-init : goal.loops::run_turns-loop-item-init
loops::run_turns-loop-item-init g falls c = record {
  told = (suc c.args.machine.now.budget.left, omega arith, refl);
  place = omega arith;
  kept = grown_none 0 c.args.machine.now c.args.steps.now;
  reads = omega arith;
}

pub loops::run_turns-item_for-requires-clause-sound_walk : goal.loops::run_turns-item_for-requires-clause-sound_walk
loops::run_turns-item_for-requires-clause-sound_walk g falls c = walk_more (length c.args.machine.now.heap) (length c.loop-item.machine.heap) c.loop-item.invariant.kept.0 (walk_of c.args.walk.now) c.requires.sound_walk

pub loops::run_turns-returns-in_err-item-clause-gives : goal.loops::run_turns-returns-in_err-item-clause-gives
loops::run_turns-returns-in_err-item-clause-gives g falls c =
    let p = err_from_is_err_and c.from_residual.result c.from_residual.ensures.1 in
    let put = store (call c.args.calls_left) (expression_of c.args.target.now) in
    let body = in_block (statements_of c.args.body.now) (acts (call c.args.calls_left) (statements_of c.args.body.now)) in
    let walk = walk_of c.args.walk.now in
    let k = c.loop-item.place in
    let s = moment_of c.loop-item.machine in
    let start = walk_along walk (λ v. put v >> body) (moment_of c.args.machine.now) in
    let told = c.loop-item.invariant.told in
    let w = for_told told.0 c.loop-item.machine.budget.left walk k (λ v. put v >> body) s start told.1 told.2 in
    let f = c.in_err-item.field-0.0 in
    let end = moment_of c.item_for.new.machine in
    rw (p.1, p.2) (subst (λ (x : Ends Flow). Fails f end x) (sym w.2) (item_fails w.0 walk k put body f s end c.in_err-item.ensures.gives))

pub loops::run_turns-returns-in_default-clause-gives : goal.loops::run_turns-returns-in_default-clause-gives
loops::run_turns-returns-in_default-clause-gives g falls c =
    let put = store (call c.args.calls_left) (expression_of c.args.target.now) in
    let body = in_block (statements_of c.args.body.now) (acts (call c.args.calls_left) (statements_of c.args.body.now)) in
    let walk = walk_of c.args.walk.now in
    let k = c.loop-item.place in
    let s = moment_of c.loop-item.machine in
    let start = walk_along walk (λ v. put v >> body) (moment_of c.args.machine.now) in
    let told = c.loop-item.invariant.told in
    let w = for_told told.0 c.loop-item.machine.budget.left walk k (λ v. put v >> body) s start told.1 told.2 in
    let s1 = moment_of c.item_for.new.machine in
    w.2 ∙ walk_ends w.0 walk k put body s s1 (c.in_ok-item.ensures.gives ∙ ap (λ found. fine (values_in found) s1) c.in_default.is)

pub loops::run_turns-returns-in_err-tick-clause-gives : goal.loops::run_turns-returns-in_err-tick-clause-gives
loops::run_turns-returns-in_err-tick-clause-gives g falls c =
    let p = err_from_is_err_and c.from_residual-in_err-tick.result c.from_residual-in_err-tick.ensures.1 in
    let put = store (call c.args.calls_left) (expression_of c.args.target.now) in
    let body = in_block (statements_of c.args.body.now) (acts (call c.args.calls_left) (statements_of c.args.body.now)) in
    let walk = walk_of c.args.walk.now in
    let k = c.loop-item.place in
    let s = moment_of c.loop-item.machine in
    let start = walk_along walk (λ v. put v >> body) (moment_of c.args.machine.now) in
    let told = c.loop-item.invariant.told in
    let w = for_told told.0 c.loop-item.machine.budget.left walk k (λ v. put v >> body) s start told.1 told.2 in
    let s1 = moment_of c.item_for.new.machine in
    let v = value_of c.in-Some.item in
    let here = c.in_ok-item.ensures.gives ∙ ap (λ found. fine (values_in found) s1) c.in-Some.is in
    let f = c.in_err-tick.field-0.0 in
    let end = moment_of c.tick.new.machine in
    rw (p.1, p.2) (subst (λ (x : Ends Flow). Fails f end x) (sym w.2) (step_fails w.0 walk k put body s s1 v here f end c.in_err-tick.ensures.gives))

pub loops::run_turns-store-requires : goal.loops::run_turns-store-requires
loops::run_turns-store-requires g falls c κs within = (
  omega arith,
  (
    search rules,
    (
      search rules,
      (
        search rules,
        (
          subst (λ (ns : List Node). IsTrue (is_sound (length ns) (value_of c.in-Some.item))) (sym c.in_ok-tick.ensures.heap) (subst (λ found. IsTrue (is_sound_maybe (length c.item_for.new.machine.heap) found)) c.in-Some.is c.in_ok-item.ensures.sound),
          (
            search rules,
            c.requires.target,
          ),
        ),
      ),
    ),
  ),
)

pub loops::run_turns-returns-in_err-store-clause-gives : goal.loops::run_turns-returns-in_err-store-clause-gives
loops::run_turns-returns-in_err-store-clause-gives g falls c =
    let p = err_from_is_err_and c.from_residual-in_err-store.result c.from_residual-in_err-store.ensures.1 in
    let put = store (call c.args.calls_left) (expression_of c.args.target.now) in
    let body = in_block (statements_of c.args.body.now) (acts (call c.args.calls_left) (statements_of c.args.body.now)) in
    let walk = walk_of c.args.walk.now in
    let k = c.loop-item.place in
    let s = moment_of c.loop-item.machine in
    let start = walk_along walk (λ v. put v >> body) (moment_of c.args.machine.now) in
    let told = c.loop-item.invariant.told in
    let w = for_told told.0 c.loop-item.machine.budget.left walk k (λ v. put v >> body) s start told.1 told.2 in
    let s1 = moment_of c.item_for.new.machine in
    let v = value_of c.in-Some.item in
    let here = c.in_ok-item.ensures.gives ∙ ap (λ found. fine (values_in found) s1) c.in-Some.is in
    let f = c.in_err-store.field-0.0 in
    let end = moment_of c.store.new.machine in
    rw (p.1, p.2) (subst (λ (x : Ends Flow). Fails f end x) (sym w.2) (put_fails w.0 walk k put body s s1 v here (moment_of c.tick.new.machine) c.in_ok-tick.ensures.gives f end c.in_err-store.ensures.gives))

pub loops::run_turns-returns-in_err-block-clause-gives : goal.loops::run_turns-returns-in_err-block-clause-gives
loops::run_turns-returns-in_err-block-clause-gives g falls c =
    let p = err_from_is_err_and c.from_residual-in_err-block.result c.from_residual-in_err-block.ensures.1 in
    let put = store (call c.args.calls_left) (expression_of c.args.target.now) in
    let body = in_block (statements_of c.args.body.now) (acts (call c.args.calls_left) (statements_of c.args.body.now)) in
    let walk = walk_of c.args.walk.now in
    let k = c.loop-item.place in
    let s = moment_of c.loop-item.machine in
    let start = walk_along walk (λ v. put v >> body) (moment_of c.args.machine.now) in
    let told = c.loop-item.invariant.told in
    let w = for_told told.0 c.loop-item.machine.budget.left walk k (λ v. put v >> body) s start told.1 told.2 in
    let s1 = moment_of c.item_for.new.machine in
    let v = value_of c.in-Some.item in
    let here = c.in_ok-item.ensures.gives ∙ ap (λ found. fine (values_in found) s1) c.in-Some.is in
    let f = c.in_err-block.field-0.0 in
    let end = moment_of c.block.new.machine in
    rw (p.1, p.2) (subst (λ (x : Ends Flow). Fails f end x) (sym w.2) (walk_fails w.0 walk k put body s s1 v here (moment_of c.tick.new.machine) c.in_ok-tick.ensures.gives (moment_of c.store.new.machine) c.in_ok-store.ensures.gives f end c.in_err-block.ensures.gives))

pub loops::run_turns-returns-in-Broke-clause-gives : goal.loops::run_turns-returns-in-Broke-clause-gives
loops::run_turns-returns-in-Broke-clause-gives g falls c =
    let put = store (call c.args.calls_left) (expression_of c.args.target.now) in
    let body = in_block (statements_of c.args.body.now) (acts (call c.args.calls_left) (statements_of c.args.body.now)) in
    let walk = walk_of c.args.walk.now in
    let k = c.loop-item.place in
    let s = moment_of c.loop-item.machine in
    let start = walk_along walk (λ v. put v >> body) (moment_of c.args.machine.now) in
    let told = c.loop-item.invariant.told in
    let w = for_told told.0 c.loop-item.machine.budget.left walk k (λ v. put v >> body) s start told.1 told.2 in
    let s1 = moment_of c.item_for.new.machine in
    let v = value_of c.in-Some.item in
    let here = c.in_ok-item.ensures.gives ∙ ap (λ found. fine (values_in found) s1) c.in-Some.is in
    let s2 = moment_of c.tick.new.machine in
    let s3 = moment_of c.store.new.machine in
    let s4 = moment_of c.block.new.machine in
    let leads = c.in_ok-block.ensures.gives ∙ ap (λ (f : rust_flow.Flow). fine (flow_of f) s4) c.in-Broke.is in
    let there = w.2 ∙ walked w.0 walk k put body s s1 v here s2 c.in_ok-tick.ensures.gives s3 c.in_ok-store.ensures.gives s4 broke leads in
    there

pub loops::run_turns-returns-in-Returned-clause-gives : goal.loops::run_turns-returns-in-Returned-clause-gives
loops::run_turns-returns-in-Returned-clause-gives g falls c =
    let put = store (call c.args.calls_left) (expression_of c.args.target.now) in
    let body = in_block (statements_of c.args.body.now) (acts (call c.args.calls_left) (statements_of c.args.body.now)) in
    let walk = walk_of c.args.walk.now in
    let k = c.loop-item.place in
    let s = moment_of c.loop-item.machine in
    let start = walk_along walk (λ v. put v >> body) (moment_of c.args.machine.now) in
    let told = c.loop-item.invariant.told in
    let w = for_told told.0 c.loop-item.machine.budget.left walk k (λ v. put v >> body) s start told.1 told.2 in
    let s1 = moment_of c.item_for.new.machine in
    let v = value_of c.in-Some.item in
    let here = c.in_ok-item.ensures.gives ∙ ap (λ found. fine (values_in found) s1) c.in-Some.is in
    let s2 = moment_of c.tick.new.machine in
    let s3 = moment_of c.store.new.machine in
    let s4 = moment_of c.block.new.machine in
    let leads = c.in_ok-block.ensures.gives ∙ ap (λ (f : rust_flow.Flow). fine (flow_of f) s4) c.in-Returned.is in
    let there = w.2 ∙ walked w.0 walk k put body s s1 v here s2 c.in_ok-tick.ensures.gives s3 c.in_ok-store.ensures.gives s4 (returned (value_of c.in-Returned.value)) leads in
    there

pub loops::run_turns-loop-item-smaller-after-branch-6 : goal.loops::run_turns-loop-item-smaller-after-branch-6
loops::run_turns-loop-item-smaller-after-branch-6 g falls c =
    omega (arith, c.in_ok-item.ensures.costs.kept.0, c.in_ok-item.ensures.costs.kept.1, c.in_ok-tick.ensures.taken, c.in_ok-tick.ensures.kept.0, c.in_ok-tick.ensures.kept.1, c.in_ok-store.ensures.kept.0, c.in_ok-store.ensures.kept.1, c.in_ok-block.ensures.kept.0, c.in_ok-block.ensures.kept.1)

pub loops::run_turns-loop-item-preserved-after-branch-6 : goal.loops::run_turns-loop-item-preserved-after-branch-6
loops::run_turns-loop-item-preserved-after-branch-6 g falls c =
    let put = store (call c.args.calls_left) (expression_of c.args.target.now) in
    let body = in_block (statements_of c.args.body.now) (acts (call c.args.calls_left) (statements_of c.args.body.now)) in
    let walk = walk_of c.args.walk.now in
    let k = c.loop-item.place in
    let s = moment_of c.loop-item.machine in
    let start = walk_along walk (λ v. put v >> body) (moment_of c.args.machine.now) in
    let told = c.loop-item.invariant.told in
    let w = for_told told.0 c.loop-item.machine.budget.left walk k (λ v. put v >> body) s start told.1 told.2 in
    let s1 = moment_of c.item_for.new.machine in
    let v = value_of c.in-Some.item in
    let here = c.in_ok-item.ensures.gives ∙ ap (λ found. fine (values_in found) s1) c.in-Some.is in
    let s2 = moment_of c.tick.new.machine in
    let s3 = moment_of c.store.new.machine in
    let s4 = moment_of c.block.new.machine in
    let turn = walked w.0 walk k put body s s1 v here s2 c.in_ok-tick.ensures.gives s3 c.in_ok-store.ensures.gives s4 in
    let there : start ≡ walk_on w.0 walk (suc k) (λ v. put v >> body) s4 = elim c.match-branch-6.branch [
      | loops::run_turns-in-Onward x ↦ w.2 ∙ turn onward (c.in_ok-block.ensures.gives ∙ ap (λ (f : rust_flow.Flow). fine (flow_of f) s4) x.in-Onward.is)
      | loops::run_turns-in-Continued x ↦ w.2 ∙ turn continued (c.in_ok-block.ensures.gives ∙ ap (λ (f : rust_flow.Flow). fine (flow_of f) s4) x.in-Continued.is)
    ] in
    let next : suc k ≡ k + 1 = omega arith in
    record {
      told = (w.0, omega (arith, w.1, told.1, c.in_ok-item.ensures.costs.kept.0, c.in_ok-item.ensures.costs.kept.1, c.in_ok-tick.ensures.taken, c.in_ok-tick.ensures.kept.0, c.in_ok-tick.ensures.kept.1, c.in_ok-store.ensures.kept.0, c.in_ok-store.ensures.kept.1, c.in_ok-block.ensures.kept.0, c.in_ok-block.ensures.kept.1), there ∙ ap (λ n. walk_on w.0 walk n (λ v. put v >> body) s4) next);
      place = omega (arith, c.loop-item.invariant.place, c.in_ok-item.ensures.costs.kept.0, c.in_ok-item.ensures.costs.kept.1, c.in_ok-tick.ensures.taken, c.in_ok-tick.ensures.kept.0, c.in_ok-tick.ensures.kept.1, c.in_ok-store.ensures.kept.0, c.in_ok-store.ensures.kept.1, c.in_ok-block.ensures.kept.0, c.in_ok-block.ensures.kept.1);
      kept =
          (let then = c.loop-item.invariant.kept in
          (omega (arith, then.0, c.in_ok-item.ensures.costs.kept.0, c.in_ok-item.ensures.costs.kept.1, c.in_ok-tick.ensures.taken, c.in_ok-tick.ensures.kept.0, c.in_ok-tick.ensures.kept.1, c.in_ok-store.ensures.kept.0, c.in_ok-store.ensures.kept.1, c.in_ok-block.ensures.kept.0, c.in_ok-block.ensures.kept.1), omega (arith, then.1, ap length c.in_ok-tick.ensures.heap, c.in_ok-item.ensures.costs.kept.0, c.in_ok-item.ensures.costs.kept.1, c.in_ok-tick.ensures.taken, c.in_ok-tick.ensures.kept.0, c.in_ok-tick.ensures.kept.1, c.in_ok-store.ensures.kept.0, c.in_ok-store.ensures.kept.1, c.in_ok-block.ensures.kept.0, c.in_ok-block.ensures.kept.1), omega (arith, then.2, c.in_ok-item.ensures.costs.kept.2, c.in_ok-tick.ensures.kept.2, c.in_ok-store.ensures.kept.2, c.in_ok-block.ensures.kept.2)));
      reads = omega (arith, c.loop-item.invariant.reads, c.in_ok-item.ensures.costs.reads, c.in_ok-tick.ensures.counted, c.in_ok-tick.ensures.taken, c.in_ok-store.ensures.reads, c.in_ok-block.ensures.reads);
    }

pub loops::run_turns-loop-item-smaller : goal.loops::run_turns-loop-item-smaller
loops::run_turns-loop-item-smaller g falls c =
    omega (arith, c.in_ok-item.ensures.costs.kept.0, c.in_ok-item.ensures.costs.kept.1, c.in_ok-tick.ensures.taken, c.in_ok-tick.ensures.kept.0, c.in_ok-tick.ensures.kept.1, c.in_ok-store.ensures.kept.0, c.in_ok-store.ensures.kept.1, c.in_ok-block.ensures.kept.0, c.in_ok-block.ensures.kept.1)

pub loops::run_turns-loop-item-preserved : goal.loops::run_turns-loop-item-preserved
loops::run_turns-loop-item-preserved g falls c =
    let put = store (call c.args.calls_left) (expression_of c.args.target.now) in
    let body = in_block (statements_of c.args.body.now) (acts (call c.args.calls_left) (statements_of c.args.body.now)) in
    let walk = walk_of c.args.walk.now in
    let k = c.loop-item.place in
    let s = moment_of c.loop-item.machine in
    let start = walk_along walk (λ v. put v >> body) (moment_of c.args.machine.now) in
    let told = c.loop-item.invariant.told in
    let w = for_told told.0 c.loop-item.machine.budget.left walk k (λ v. put v >> body) s start told.1 told.2 in
    let s1 = moment_of c.item_for.new.machine in
    let v = value_of c.in-Some.item in
    let here = c.in_ok-item.ensures.gives ∙ ap (λ found. fine (values_in found) s1) c.in-Some.is in
    let s2 = moment_of c.tick.new.machine in
    let s3 = moment_of c.store.new.machine in
    let s4 = moment_of c.block.new.machine in
    let turn = walked w.0 walk k put body s s1 v here s2 c.in_ok-tick.ensures.gives s3 c.in_ok-store.ensures.gives s4 in
    let there : start ≡ walk_on w.0 walk (suc k) (λ v. put v >> body) s4 = elim c.match-branch-6.branch [
      | loops::run_turns-in-Onward x ↦ w.2 ∙ turn onward (c.in_ok-block.ensures.gives ∙ ap (λ (f : rust_flow.Flow). fine (flow_of f) s4) x.in-Onward.is)
      | loops::run_turns-in-Continued x ↦ w.2 ∙ turn continued (c.in_ok-block.ensures.gives ∙ ap (λ (f : rust_flow.Flow). fine (flow_of f) s4) x.in-Continued.is)
    ] in
    let next : suc k ≡ k + 1 = omega arith in
    record {
      told = (w.0, omega (arith, w.1, told.1, c.in_ok-item.ensures.costs.kept.0, c.in_ok-item.ensures.costs.kept.1, c.in_ok-tick.ensures.taken, c.in_ok-tick.ensures.kept.0, c.in_ok-tick.ensures.kept.1, c.in_ok-store.ensures.kept.0, c.in_ok-store.ensures.kept.1, c.in_ok-block.ensures.kept.0, c.in_ok-block.ensures.kept.1), there ∙ ap (λ n. walk_on w.0 walk n (λ v. put v >> body) s4) next);
      place = omega (arith, c.loop-item.invariant.place, c.in_ok-item.ensures.costs.kept.0, c.in_ok-item.ensures.costs.kept.1, c.in_ok-tick.ensures.taken, c.in_ok-tick.ensures.kept.0, c.in_ok-tick.ensures.kept.1, c.in_ok-store.ensures.kept.0, c.in_ok-store.ensures.kept.1, c.in_ok-block.ensures.kept.0, c.in_ok-block.ensures.kept.1);
      kept =
          (let then = c.loop-item.invariant.kept in
          (omega (arith, then.0, c.in_ok-item.ensures.costs.kept.0, c.in_ok-item.ensures.costs.kept.1, c.in_ok-tick.ensures.taken, c.in_ok-tick.ensures.kept.0, c.in_ok-tick.ensures.kept.1, c.in_ok-store.ensures.kept.0, c.in_ok-store.ensures.kept.1, c.in_ok-block.ensures.kept.0, c.in_ok-block.ensures.kept.1), omega (arith, then.1, ap length c.in_ok-tick.ensures.heap, c.in_ok-item.ensures.costs.kept.0, c.in_ok-item.ensures.costs.kept.1, c.in_ok-tick.ensures.taken, c.in_ok-tick.ensures.kept.0, c.in_ok-tick.ensures.kept.1, c.in_ok-store.ensures.kept.0, c.in_ok-store.ensures.kept.1, c.in_ok-block.ensures.kept.0, c.in_ok-block.ensures.kept.1), omega (arith, then.2, c.in_ok-item.ensures.costs.kept.2, c.in_ok-tick.ensures.kept.2, c.in_ok-store.ensures.kept.2, c.in_ok-block.ensures.kept.2)));
      reads = omega (arith, c.loop-item.invariant.reads, c.in_ok-item.ensures.costs.reads, c.in_ok-tick.ensures.counted, c.in_ok-tick.ensures.taken, c.in_ok-store.ensures.reads, c.in_ok-block.ensures.reads);
    }

-- ---- run_while

pub loops::run_while-loop-value-init : goal.loops::run_while-loop-value-init
loops::run_while-loop-value-init g falls c = record {
  told = (suc c.args.machine.now.budget.left, omega arith, refl);
  kept = grown_none 0 c.args.machine.now c.args.steps.now;
  reads = omega arith;
}

pub loops::run_while-returns-in_err-value-clause-gives : goal.loops::run_while-returns-in_err-value-clause-gives
loops::run_while-returns-in_err-value-clause-gives g falls c =
    let p = err_from_is_err_and c.from_residual.result c.from_residual.ensures.1 in
    let test = expr (call c.args.calls_left) (expression_of c.args.test.now) in
    let body = in_block (statements_of c.args.body.now) (acts (call c.args.calls_left) (statements_of c.args.body.now)) in
    let s = moment_of c.loop-value.machine in
    let start = act (call c.args.calls_left) (t.while (expression_of c.args.test.now) (statements_of c.args.body.now)) (moment_of c.args.machine.now) in
    let told = c.loop-value.invariant.told in
    let w = while_told told.0 c.loop-value.machine.budget.left test body s start told.1 told.2 in
    let f = c.in_err-value.field-0.0 in
    let end = moment_of c.evaluate.new.machine in
    rw (p.1, p.2) (subst (λ (x : Ends Flow). Fails f end x) (sym w.2) (test_fails w.0 test body f s end c.in_err-value.ensures.gives))

pub loops::run_while-returns-then-not-truth-clause-gives : goal.loops::run_while-returns-then-not-truth-clause-gives
loops::run_while-returns-then-not-truth-clause-gives g falls c =
    let test = expr (call c.args.calls_left) (expression_of c.args.test.now) in
    let body = in_block (statements_of c.args.body.now) (acts (call c.args.calls_left) (statements_of c.args.body.now)) in
    let s = moment_of c.loop-value.machine in
    let start = act (call c.args.calls_left) (t.while (expression_of c.args.test.now) (statements_of c.args.body.now)) (moment_of c.args.machine.now) in
    let told = c.loop-value.invariant.told in
    let w = while_told told.0 c.loop-value.machine.budget.left test body s start told.1 told.2 in
    let s1 = moment_of c.evaluate.new.machine in
    let v = value_of c.in_ok-value.value in
    let here = c.in_ok-value.ensures.gives in
    w.2 ∙ no_turn w.0 test body s s1 v here (rw c.if-not-truth.true at c.truth.ensures.is)

pub loops::run_while-returns-in_err-tick-clause-gives : goal.loops::run_while-returns-in_err-tick-clause-gives
loops::run_while-returns-in_err-tick-clause-gives g falls c =
    let p = err_from_is_err_and c.from_residual-in_err-tick.result c.from_residual-in_err-tick.ensures.1 in
    let test = expr (call c.args.calls_left) (expression_of c.args.test.now) in
    let body = in_block (statements_of c.args.body.now) (acts (call c.args.calls_left) (statements_of c.args.body.now)) in
    let s = moment_of c.loop-value.machine in
    let start = act (call c.args.calls_left) (t.while (expression_of c.args.test.now) (statements_of c.args.body.now)) (moment_of c.args.machine.now) in
    let told = c.loop-value.invariant.told in
    let w = while_told told.0 c.loop-value.machine.budget.left test body s start told.1 told.2 in
    let s1 = moment_of c.evaluate.new.machine in
    let v = value_of c.in_ok-value.value in
    let here = c.in_ok-value.ensures.gives in
    let true_is = rw c.if-not-truth.false at c.truth.ensures.is in
    let f = c.in_err-tick.field-0.0 in
    let end = moment_of c.tick.new.machine in
    rw (p.1, p.2) (subst (λ (x : Ends Flow). Fails f end x) (sym w.2) (tick_fails w.0 test body s s1 v here true_is f end c.in_err-tick.ensures.gives))

pub loops::run_while-returns-in_err-block-clause-gives : goal.loops::run_while-returns-in_err-block-clause-gives
loops::run_while-returns-in_err-block-clause-gives g falls c =
    let p = err_from_is_err_and c.from_residual-in_err-block.result c.from_residual-in_err-block.ensures.1 in
    let test = expr (call c.args.calls_left) (expression_of c.args.test.now) in
    let body = in_block (statements_of c.args.body.now) (acts (call c.args.calls_left) (statements_of c.args.body.now)) in
    let s = moment_of c.loop-value.machine in
    let start = act (call c.args.calls_left) (t.while (expression_of c.args.test.now) (statements_of c.args.body.now)) (moment_of c.args.machine.now) in
    let told = c.loop-value.invariant.told in
    let w = while_told told.0 c.loop-value.machine.budget.left test body s start told.1 told.2 in
    let s1 = moment_of c.evaluate.new.machine in
    let v = value_of c.in_ok-value.value in
    let here = c.in_ok-value.ensures.gives in
    let true_is = rw c.if-not-truth.false at c.truth.ensures.is in
    let f = c.in_err-block.field-0.0 in
    let end = moment_of c.block.new.machine in
    rw (p.1, p.2) (subst (λ (x : Ends Flow). Fails f end x) (sym w.2) (body_fails w.0 test body s s1 v here true_is (moment_of c.tick.new.machine) c.in_ok-tick.ensures.gives f end c.in_err-block.ensures.gives))

pub loops::run_while-returns-in-Broke-clause-gives : goal.loops::run_while-returns-in-Broke-clause-gives
loops::run_while-returns-in-Broke-clause-gives g falls c =
    let test = expr (call c.args.calls_left) (expression_of c.args.test.now) in
    let body = in_block (statements_of c.args.body.now) (acts (call c.args.calls_left) (statements_of c.args.body.now)) in
    let s = moment_of c.loop-value.machine in
    let start = act (call c.args.calls_left) (t.while (expression_of c.args.test.now) (statements_of c.args.body.now)) (moment_of c.args.machine.now) in
    let told = c.loop-value.invariant.told in
    let w = while_told told.0 c.loop-value.machine.budget.left test body s start told.1 told.2 in
    let s1 = moment_of c.evaluate.new.machine in
    let v = value_of c.in_ok-value.value in
    let here = c.in_ok-value.ensures.gives in
    let true_is = rw c.if-not-truth.false at c.truth.ensures.is in
    let s2 = moment_of c.tick.new.machine in
    let s3 = moment_of c.block.new.machine in
    let leads = c.in_ok-block.ensures.gives ∙ ap (λ (f : rust_flow.Flow). fine (flow_of f) s3) c.in-Broke.is in
    let there = w.2 ∙ turned w.0 test body s s1 v here true_is s2 s3 broke c.in_ok-tick.ensures.gives leads in
    there

pub loops::run_while-returns-in-Returned-clause-gives : goal.loops::run_while-returns-in-Returned-clause-gives
loops::run_while-returns-in-Returned-clause-gives g falls c =
    let test = expr (call c.args.calls_left) (expression_of c.args.test.now) in
    let body = in_block (statements_of c.args.body.now) (acts (call c.args.calls_left) (statements_of c.args.body.now)) in
    let s = moment_of c.loop-value.machine in
    let start = act (call c.args.calls_left) (t.while (expression_of c.args.test.now) (statements_of c.args.body.now)) (moment_of c.args.machine.now) in
    let told = c.loop-value.invariant.told in
    let w = while_told told.0 c.loop-value.machine.budget.left test body s start told.1 told.2 in
    let s1 = moment_of c.evaluate.new.machine in
    let v = value_of c.in_ok-value.value in
    let here = c.in_ok-value.ensures.gives in
    let true_is = rw c.if-not-truth.false at c.truth.ensures.is in
    let s2 = moment_of c.tick.new.machine in
    let s3 = moment_of c.block.new.machine in
    let leads = c.in_ok-block.ensures.gives ∙ ap (λ (f : rust_flow.Flow). fine (flow_of f) s3) c.in-Returned.is in
    let there = w.2 ∙ turned w.0 test body s s1 v here true_is s2 s3 (returned (value_of c.in-Returned.value)) c.in_ok-tick.ensures.gives leads in
    there

pub loops::run_while-loop-value-smaller-after-branch-4 : goal.loops::run_while-loop-value-smaller-after-branch-4
loops::run_while-loop-value-smaller-after-branch-4 g falls c =
    omega (arith, c.in_ok-value.ensures.kept.0, c.in_ok-value.ensures.kept.1, c.in_ok-tick.ensures.taken, c.in_ok-block.ensures.kept.0, c.in_ok-block.ensures.kept.1)

pub loops::run_while-loop-value-preserved-after-branch-4 : goal.loops::run_while-loop-value-preserved-after-branch-4
loops::run_while-loop-value-preserved-after-branch-4 g falls c =
    let test = expr (call c.args.calls_left) (expression_of c.args.test.now) in
    let body = in_block (statements_of c.args.body.now) (acts (call c.args.calls_left) (statements_of c.args.body.now)) in
    let s = moment_of c.loop-value.machine in
    let start = act (call c.args.calls_left) (t.while (expression_of c.args.test.now) (statements_of c.args.body.now)) (moment_of c.args.machine.now) in
    let told = c.loop-value.invariant.told in
    let w = while_told told.0 c.loop-value.machine.budget.left test body s start told.1 told.2 in
    let s1 = moment_of c.evaluate.new.machine in
    let v = value_of c.in_ok-value.value in
    let here = c.in_ok-value.ensures.gives in
    let true_is = rw c.if-not-truth.false at c.truth.ensures.is in
    let s2 = moment_of c.tick.new.machine in
    let s3 = moment_of c.block.new.machine in
    let turn = turned w.0 test body s s1 v here true_is s2 s3 in
    let there : start ≡ turns w.0 test body s3 = elim c.match-branch-4.branch [
      | loops::run_while-in-Onward x ↦ w.2 ∙ turn onward c.in_ok-tick.ensures.gives (c.in_ok-block.ensures.gives ∙ ap (λ (f : rust_flow.Flow). fine (flow_of f) s3) x.in-Onward.is)
      | loops::run_while-in-Continued x ↦ w.2 ∙ turn continued c.in_ok-tick.ensures.gives (c.in_ok-block.ensures.gives ∙ ap (λ (f : rust_flow.Flow). fine (flow_of f) s3) x.in-Continued.is)
    ] in
    record {
      told = (w.0, omega (arith, w.1, told.1, c.in_ok-value.ensures.kept.0, c.in_ok-value.ensures.kept.1, c.in_ok-tick.ensures.taken, c.in_ok-block.ensures.kept.0, c.in_ok-block.ensures.kept.1), there);
      kept =
          (let m0 = c.args.machine.now in
          let m1 = c.loop-value.machine in
          let m2 = c.evaluate.new.machine in
          let m3 = c.tick.new.machine in
          let m4 = c.block.new.machine in
          let a0 = c.args.steps.now in
          let a1 = c.loop-value.steps in
          grown_on 0 0 m0 m3 m4 a0 c.tick.new.steps c.block.new.steps
          (grown_on 0 0 m0 m2 m3 a0 c.truth.new.steps c.tick.new.steps
          (grown_on 0 0 m0 m1 m2 a0 a1 c.truth.new.steps c.loop-value.invariant.kept (omega (arith, c.in_ok-value.ensures.kept.0), omega (arith, c.in_ok-value.ensures.kept.1), omega (arith, c.in_ok-value.ensures.kept.2, c.truth.ensures.reads.0)))
          c.in_ok-tick.ensures.kept)
          c.in_ok-block.ensures.kept);
      reads = omega (arith, c.loop-value.invariant.reads, c.in_ok-value.ensures.reads, c.in_ok-tick.ensures.counted, c.in_ok-tick.ensures.taken, c.in_ok-block.ensures.reads, c.truth.ensures.reads.1);
    }

pub loops::run_while-loop-value-smaller : goal.loops::run_while-loop-value-smaller
loops::run_while-loop-value-smaller g falls c =
    omega (arith, c.in_ok-value.ensures.kept.0, c.in_ok-value.ensures.kept.1, c.in_ok-tick.ensures.taken, c.in_ok-block.ensures.kept.0, c.in_ok-block.ensures.kept.1)

pub loops::run_while-loop-value-preserved : goal.loops::run_while-loop-value-preserved
loops::run_while-loop-value-preserved g falls c =
    let test = expr (call c.args.calls_left) (expression_of c.args.test.now) in
    let body = in_block (statements_of c.args.body.now) (acts (call c.args.calls_left) (statements_of c.args.body.now)) in
    let s = moment_of c.loop-value.machine in
    let start = act (call c.args.calls_left) (t.while (expression_of c.args.test.now) (statements_of c.args.body.now)) (moment_of c.args.machine.now) in
    let told = c.loop-value.invariant.told in
    let w = while_told told.0 c.loop-value.machine.budget.left test body s start told.1 told.2 in
    let s1 = moment_of c.evaluate.new.machine in
    let v = value_of c.in_ok-value.value in
    let here = c.in_ok-value.ensures.gives in
    let true_is = rw c.if-not-truth.false at c.truth.ensures.is in
    let s2 = moment_of c.tick.new.machine in
    let s3 = moment_of c.block.new.machine in
    let turn = turned w.0 test body s s1 v here true_is s2 s3 in
    let there : start ≡ turns w.0 test body s3 = elim c.match-branch-4.branch [
      | loops::run_while-in-Onward x ↦ w.2 ∙ turn onward c.in_ok-tick.ensures.gives (c.in_ok-block.ensures.gives ∙ ap (λ (f : rust_flow.Flow). fine (flow_of f) s3) x.in-Onward.is)
      | loops::run_while-in-Continued x ↦ w.2 ∙ turn continued c.in_ok-tick.ensures.gives (c.in_ok-block.ensures.gives ∙ ap (λ (f : rust_flow.Flow). fine (flow_of f) s3) x.in-Continued.is)
    ] in
    record {
      told = (w.0, omega (arith, w.1, told.1, c.in_ok-value.ensures.kept.0, c.in_ok-value.ensures.kept.1, c.in_ok-tick.ensures.taken, c.in_ok-block.ensures.kept.0, c.in_ok-block.ensures.kept.1), there);
      kept =
          (let m0 = c.args.machine.now in
          let m1 = c.loop-value.machine in
          let m2 = c.evaluate.new.machine in
          let m3 = c.tick.new.machine in
          let m4 = c.block.new.machine in
          let a0 = c.args.steps.now in
          let a1 = c.loop-value.steps in
          grown_on 0 0 m0 m3 m4 a0 c.tick.new.steps c.block.new.steps
          (grown_on 0 0 m0 m2 m3 a0 c.truth.new.steps c.tick.new.steps
          (grown_on 0 0 m0 m1 m2 a0 a1 c.truth.new.steps c.loop-value.invariant.kept (omega (arith, c.in_ok-value.ensures.kept.0), omega (arith, c.in_ok-value.ensures.kept.1), omega (arith, c.in_ok-value.ensures.kept.2, c.truth.ensures.reads.0)))
          c.in_ok-tick.ensures.kept)
          c.in_ok-block.ensures.kept);
      reads = omega (arith, c.loop-value.invariant.reads, c.in_ok-value.ensures.reads, c.in_ok-tick.ensures.counted, c.in_ok-tick.ensures.taken, c.in_ok-block.ensures.reads, c.truth.ensures.reads.1);
    }
