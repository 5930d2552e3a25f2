-- What an expression has accessed stays recorded: one line a form.
use Rattle.std.specs.Prelude.{List, ℕ, [], ◌∷◌, Option, Some, true, false, Bool}
use Rattle.std.specs.Bool.{beq}
use Rattle.kishu_language.specs.declared.profile.Profile.{Profile}
use Rattle.kishu_language.specs.declared.tree.Operator.TheVariants as operators
use Rattle.kishu_language.specs.trees.Tree as t
use Rattle.kishu_language.specs.trees.Tree.{Expression, Trailers, no_trailers, more_trailers, Trailer, Bound, absent, bound, Arguments, no_arguments, more_arguments, Expressions, no_expressions, more_expressions, Pairs, no_pairs, more_pairs, Operands, no_operands, more_operands, Links, no_links, more_links}
use Rattle.kishu_meaning.specs.calls.Callees as c
use Rattle.kishu_meaning.specs.calls.Callees.{Given, by_plain, Callee, method, view, Part}
use Rattle.kishu_meaning.specs.cells.Meaning.{Calls, call_node, call_value, apply, expr, part, trailers, trailer, bound_value, arguments, values, inner_values, pairs, first_that, operands, links}
use Rattle.kishu_meaning.specs.moments.Moment.{M}
use Rattle.kishu_meaning.specs.values.Values.{Value, Node, function, builtin, class, node}
use Rattle.kishu_pairing_laws.specs.World.{Grows}
use Rattle.kishu_pairing_laws.specs.moments.Steps.{throw_grows, bind_grows, give_grows, then_grows, deeper_grows, cond_grows}
use Rattle.kishu_pairing_laws.specs.moments.Names.{read_grows}
use Rattle.kishu_pairing_laws.specs.growing.Parts.{tick_grows, truth_grows, not_callable_grows, builtin_grows, construct_grows, node_now_grows, method_grows, new_tuple_grows, new_list_grows, new_dict_grows, signed_grows, operate_grows, nodes_grows, settled_grows, callee_grows, item_grows, slice_grows, compare_grows}

abbrev pub CallsGrow : Calls → Type 0
CallsGrow calls = (profile : Profile) (code : List ℕ) (vs : List Value) (given : Given) → Grows (calls profile code vs given)

by_plain_grows : (name : List ℕ) (ks : List (List ℕ × Value)) {m : M Value} → Grows m → Grows (by_plain name ks m)
by_plain_grows name [] h = h
by_plain_grows name (k ∷ ks) h = throw_grows _

module _ (calls : Calls) (grow : CallsGrow calls) where
  call_node_grows : (v : Value) (o : Option Node) (given : Given) → Grows (call_node calls v o given)
  call_node_grows v (Some (function profile code vs)) given = grow profile code vs given
  call_node_grows v o given = not_callable_grows v

  call_value_grows : (v : Value) (given : Given) → Grows (call_value calls v given)
  call_value_grows (builtin n) given = builtin_grows n given
  call_value_grows (class n) given = construct_grows n given
  call_value_grows (node i) given = bind_grows (node_now_grows (node i)) (λ o. call_node_grows (node i) o given)
  call_value_grows v given = not_callable_grows v

  pub apply_grows : (f : Callee) (given : Given) → Grows (apply calls f given)
  apply_grows (c.function v) given = bind_grows (call_value_grows v given) (λ w. give_grows _)
  apply_grows (method v x) given = bind_grows (by_plain_grows x given.named (method_grows v x given.plain)) (λ w. give_grows _)
  apply_grows (view n found) given = give_grows _

  mutual
    pub expr_grows : (e : Expression) → Grows (expr calls e)
    expr_grows (t.name x) = then_grows tick_grows (read_grows x)
    expr_grows (t.integer z) = then_grows tick_grows (give_grows _)
    expr_grows (t.text x) = then_grows tick_grows (give_grows _)
    expr_grows t.none = then_grows tick_grows (give_grows _)
    expr_grows t.true = then_grows tick_grows (give_grows _)
    expr_grows t.false = then_grows tick_grows (give_grows _)
    expr_grows (t.paren e) = deeper_grows (expr_grows e)
    expr_grows (t.tuple es) = bind_grows (then_grows tick_grows (values_grows es)) new_tuple_grows
    expr_grows (t.list es) = bind_grows (then_grows tick_grows (inner_values_grows es)) new_list_grows
    expr_grows (t.dict ps) = bind_grows (then_grows tick_grows (pairs_grows ps)) new_dict_grows
    expr_grows (t.conditional value test other) = bind_grows (bind_grows (then_grows tick_grows (expr_grows test)) truth_grows) (λ b. cond_grows b (expr_grows value) (deeper_grows (expr_grows other)))
    expr_grows (t.or es) = then_grows tick_grows (first_that_grows true es)
    expr_grows (t.and es) = then_grows tick_grows (first_that_grows false es)
    expr_grows (t.not e) = bind_grows (deeper_grows (expr_grows e)) (λ v. bind_grows (then_grows tick_grows (truth_grows v)) (λ b. give_grows _))
    expr_grows (t.signed sign e) = bind_grows (deeper_grows (expr_grows e)) (λ v. then_grows tick_grows (signed_grows sign v))
    expr_grows (t.power base exponent) = bind_grows (expr_grows base) (λ a. bind_grows (deeper_grows (expr_grows exponent)) (λ b. then_grows tick_grows (operate_grows operators.Power a b)))
    expr_grows (t.sum e os) = bind_grows (expr_grows e) (λ v. operands_grows v os)
    expr_grows (t.product e os) = bind_grows (expr_grows e) (λ v. operands_grows v os)
    expr_grows (t.compared e ls) = bind_grows (expr_grows e) (λ v. links_grows v ls)
    expr_grows (t.primary e ts) = bind_grows (then_grows (nodes_grows ts) (part_grows e (expr_grows e))) (λ p. bind_grows (trailers_grows p ts) settled_grows)

    pub part_grows : (e : Expression) {value : M Value} → Grows value → Grows (part calls e value)
    part_grows (t.paren e) h = deeper_grows (part_grows e (expr_grows e))
    part_grows (t.primary e ts) h = bind_grows (then_grows (nodes_grows ts) (part_grows e (expr_grows e))) (λ p. trailers_grows p ts)
    part_grows e h = bind_grows h (λ v. give_grows _)

    pub trailers_grows : (p : Part) (ts : Trailers) → Grows (trailers calls p ts)
    trailers_grows p no_trailers = give_grows p
    trailers_grows p (more_trailers first ts) = bind_grows (trailer_grows p first) (λ q. trailers_grows q ts)

    pub trailer_grows : (p : Part) (first : Trailer) → Grows (trailer calls p first)
    trailer_grows p (t.attribute x) = bind_grows (settled_grows p) (λ v. give_grows _)
    trailer_grows p (t.call es) = bind_grows (callee_grows p es) (λ f. bind_grows (arguments_grows es) (λ given. apply_grows f given))
    trailer_grows p (t.index e) = bind_grows (settled_grows p) (λ v. bind_grows (deeper_grows (expr_grows e)) (λ i. bind_grows (item_grows v i) (λ w. give_grows _)))
    trailer_grows p (t.slice start stop step) = bind_grows (settled_grows p) (λ v. bind_grows (bound_value_grows start) (λ a. bind_grows (bound_value_grows stop) (λ b. bind_grows (bound_value_grows step) (λ d. bind_grows (slice_grows v a b d) (λ w. give_grows _)))))

    pub bound_value_grows : (b : Bound) → Grows (bound_value calls b)
    bound_value_grows absent = give_grows _
    bound_value_grows (bound e) = deeper_grows (expr_grows e)

    pub arguments_grows : (es : Arguments) → Grows (arguments calls es)
    arguments_grows no_arguments = give_grows _
    arguments_grows (more_arguments (t.plain e) es) = bind_grows (deeper_grows (expr_grows e)) (λ v. bind_grows (arguments_grows es) (λ given. give_grows _))
    arguments_grows (more_arguments (t.keyword x e) es) = bind_grows (deeper_grows (expr_grows e)) (λ v. bind_grows (arguments_grows es) (λ given. give_grows _))

    pub values_grows : (es : Expressions) → Grows (values calls es)
    values_grows no_expressions = give_grows _
    values_grows (more_expressions e es) = bind_grows (expr_grows e) (λ v. bind_grows (values_grows es) (λ vs. give_grows _))

    pub inner_values_grows : (es : Expressions) → Grows (inner_values calls es)
    inner_values_grows no_expressions = give_grows _
    inner_values_grows (more_expressions e es) = bind_grows (deeper_grows (expr_grows e)) (λ v. bind_grows (inner_values_grows es) (λ vs. give_grows _))

    pub pairs_grows : (ps : Pairs) → Grows (pairs calls ps)
    pairs_grows no_pairs = give_grows _
    pairs_grows (more_pairs key e ps) = bind_grows (deeper_grows (expr_grows key)) (λ k. bind_grows (deeper_grows (expr_grows e)) (λ v. bind_grows (pairs_grows ps) (λ es. give_grows _)))

    pub first_that_grows : (which : Bool) (es : Expressions) → Grows (first_that calls which es)
    first_that_grows which no_expressions = give_grows _
    first_that_grows which (more_expressions e no_expressions) = expr_grows e
    first_that_grows which (more_expressions e (more_expressions f es)) = bind_grows (expr_grows e) (λ v. bind_grows (truth_grows v) (λ b. cond_grows (beq b which) (give_grows v) (first_that_grows which (more_expressions f es))))

    pub operands_grows : (v : Value) (os : Operands) → Grows (operands calls v os)
    operands_grows v no_operands = give_grows v
    operands_grows v (more_operands operator e os) = bind_grows (expr_grows e) (λ w. bind_grows (then_grows tick_grows (operate_grows operator v w)) (λ x. operands_grows x os))

    pub links_grows : (v : Value) (ls : Links) → Grows (links calls v ls)
    links_grows v no_links = give_grows v
    links_grows v (more_links comparison e no_links) = bind_grows (expr_grows e) (λ w. bind_grows (then_grows tick_grows (compare_grows comparison v w)) (λ b. give_grows _))
    links_grows v (more_links comparison e (more_links next f ls)) = bind_grows (expr_grows e) (λ w. bind_grows (then_grows tick_grows (compare_grows comparison v w)) (λ b. cond_grows b (links_grows w (more_links next f ls)) (give_grows _)))
