use Rattle.std.proofs.Common.{◌≡◌, ap, subst, refl, arith, false, ◌==◌, ◌∷◌, [], map, Err}
use Rattle.std.specs.Prelude.{slice_get}
use Rattle.std.proofs.lemmas.Result.{err_from_is_err_and}
use Rattle.std.specs.List.{list_any}
use Rattle.kishu_meaning.specs.moments.Counting.{answer}
use Rattle.kishu_meaning.specs.values.Values.{value_of}
use Rattle.kishu_meaning.specs.comparing.Show.{argument_text, exception_text, repr_at, repr_nodes, show_nodes, tuple_repr}
use Rattle.kishu_show.specs.Shown.{Makes, onto, text_of}
use Rattle.kishu_show.proofs.Ends.{nothing_around}
use Rattle.kishu_show.proofs.Exceptions.{plain_show, is_exception, either_way, as_other, one_argument, more_arguments, no_arguments, step_stops, after_step}
use Rattle.kishu_show.proofs.Joins.{empty_when}
use Rattle.kishu_show.proofs.Nodes.{within_show, too_deep_show}
use Rattle.kishu_show.proofs.Parts.{nothing_made}
use Rattle.kishu_show.proofs.shows.+show.Goals as goal

pub push_shown-returns-in_default-clause-gives : goal.push_shown-returns-in_default-clause-gives
push_shown-returns-in_default-clause-gives g t c =
    subst (λ m. Makes c.push_plain_shown.result c.push_plain_shown.new.draft (onto c.args.draft.now m)) (plain_show (show_nodes c.args.heap.now c.args.room) (value_of c.args.value.now) c.in_default.ensures) c.push_plain_shown.ensures.gives

pub push_shown-returns-then-room-eq0-clause-gives : goal.push_shown-returns-then-room-eq0-clause-gives
push_shown-returns-then-room-eq0-clause-gives g t c =
    rw c.if-room-eq0.true (too_deep_show c.args.heap.now c.args.draft.now (value_of c.args.value.now) c.in-Some.id.0 c.in-Some.ensures)

pub push_shown-returns-clause-gives : goal.push_shown-returns-clause-gives
push_shown-returns-clause-gives g t c =
    within_show c.args.heap.now c.push_shown_node.result c.args.draft.now c.push_shown_node.new.draft c.args.room (value_of c.args.value.now) c.in-Some.id.0 c.in-Some.ensures c.if-room-eq0.false c.push_shown_node.ensures.gives

pub push_exception_shown-returns-in_default-clause-gives : goal.push_exception_shown-returns-in_default-clause-gives
push_exception_shown-returns-in_default-clause-gives g t c =
    subst (λ m. onto c.args.draft.now m ≡ answer (text_of c.args.draft.now) c.args.draft.now.left) (no_arguments (repr_nodes c.args.heap.now c.args.room []) (show_nodes c.args.heap.now c.args.room) c.args.class.0 c.args.arguments.now (empty_when c.args.arguments.now c.in_default.ensures.cases)) (nothing_made c.args.draft.now)

pub push_exception_shown-returns-in_err-spend-clause-gives : goal.push_exception_shown-returns-in_err-spend-clause-gives
push_exception_shown-returns-in_err-spend-clause-gives g t c =
    let p = err_from_is_err_and c.from_residual.result c.from_residual.ensures.1 in
    let e = record c.args.draft.now { left = c.spend.new.left } in
    rw (p.1, p.2)
    (subst (λ m. Makes (Err c.in_err-spend.field-0.0) e (onto c.args.draft.now m)) (one_argument (repr_nodes c.args.heap.now c.args.room []) (show_nodes c.args.heap.now c.args.room) c.args.class.0 c.in-Some.argument.now c.in-Some.others.now c.args.arguments.now c.in-Some.ensures.cases.0 (omega arith))
    (step_stops c.in_err-spend.field-0.0 c.args.draft.now e 1 (argument_text (repr_nodes c.args.heap.now c.args.room []) (show_nodes c.args.heap.now c.args.room) c.args.class.0 (value_of c.in-Some.argument.now)) c.in_err-spend.ensures.gives))

pub push_exception_shown-returns-then-others-eq0-clause-gives : goal.push_exception_shown-returns-then-others-eq0-clause-gives
push_exception_shown-returns-then-others-eq0-clause-gives g t c =
    let e = record c.args.draft.now { left = c.spend.new.left } in
    subst (λ m. Makes c.push_argument.result c.push_argument.new.draft (onto c.args.draft.now m)) (one_argument (repr_nodes c.args.heap.now c.args.room []) (show_nodes c.args.heap.now c.args.room) c.args.class.0 c.in-Some.argument.now c.in-Some.others.now c.args.arguments.now c.in-Some.ensures.cases.0 (omega arith))
    (after_step c.push_argument.result c.args.draft.now e c.push_argument.new.draft 1 (argument_text (repr_nodes c.args.heap.now c.args.room []) (show_nodes c.args.heap.now c.args.room) c.args.class.0 (value_of c.in-Some.argument.now)) c.in_ok-spend.ensures.gives refl c.push_argument.ensures.gives)

pub push_exception_shown-returns-clause-gives : goal.push_exception_shown-returns-clause-gives
push_exception_shown-returns-clause-gives g t c =
    subst (λ m. Makes c.push_tuple.result c.push_tuple.new.draft (onto c.args.draft.now m)) (more_arguments (repr_nodes c.args.heap.now c.args.room []) (show_nodes c.args.heap.now c.args.room) c.args.class.0 c.in-Some.argument.now c.in-Some.others.now c.args.arguments.now c.in-Some.ensures.cases.0 (omega arith))
    (subst (λ a. Makes c.push_tuple.result c.push_tuple.new.draft (onto c.args.draft.now (tuple_repr (repr_nodes c.args.heap.now c.args.room a) (map value_of c.args.arguments.now)))) nothing_around c.push_tuple.ensures.gives)

pub push_shown_node-returns-in_default-clause-gives : goal.push_shown_node-returns-in_default-clause-gives
push_shown_node-returns-in_default-clause-gives g t c = rw (← c.in_default.ensures.node) (nothing_made c.args.draft.now)

pub push_shown_node-returns-in-List-clause-gives : goal.push_shown_node-returns-in-List-clause-gives
push_shown_node-returns-in-List-clause-gives g t c =
    let n = c.in-Some.node.now in
    let plain : is_exception n ≡ false =
    either_way c.in-List.is (λ p. ap is_exception p.1) (λ q.
    either_way q (λ p. ap is_exception p.1) (λ q.
    either_way q (λ p. ap is_exception p.1) (λ q.
    either_way q (λ p. ap is_exception p.1) (λ p. ap is_exception p.1)))) in
    as_other (exception_text (repr_nodes c.args.heap.now c.args.room []) (show_nodes c.args.heap.now c.args.room)) (repr_at (repr_nodes c.args.heap.now c.args.room (c.args.id.0 ∷ [])) false (slice_get c.args.heap.now c.args.id.0)) c.push_node.result c.args.draft.now c.push_node.new.draft (slice_get c.args.heap.now c.args.id.0) n plain c.in-Some.ensures.node
    (subst (λ a. Makes c.push_node.result c.push_node.new.draft (onto c.args.draft.now (repr_at (repr_nodes c.args.heap.now c.args.room (c.args.id.0 ∷ a)) (list_any (λ j. c.args.id.0 == j) a) (slice_get c.args.heap.now c.args.id.0)))) nothing_around c.push_node.ensures.gives)
