-- Expressions go alike: one line a form.
use Rattle.std.specs.Prelude.{List, ℕ, Option, true, false, Bool}
use Rattle.std.specs.Bool.{beq}
use Rattle.std.proofs.Common.{refl}
use Rattle.kishu_language.specs.declared.profile.Profile.{Profile}
use Rattle.kishu_language.specs.declared.tree.Operator.TheVariants as operators
use Rattle.kishu_language.specs.trees.Tree as t
use Rattle.kishu_language.specs.trees.Tree.{Expression, Trailers, no_trailers, more_trailers, Trailer, Bound, absent, bound, Arguments, no_arguments, more_arguments, Expressions, no_expressions, more_expressions, Pairs, no_pairs, more_pairs, Operands, no_operands, more_operands, Links, no_links, more_links}
use Rattle.kishu_meaning.specs.calls.Callees.{Given, Callee, Part}
use Rattle.kishu_meaning.specs.cells.Meaning.{Calls, call_node, call_value, apply, expr, part, trailers, trailer, bound_value, arguments, values, inner_values, pairs, first_that, operands, links}
use Rattle.kishu_meaning.specs.moments.Moment.{M}
use Rattle.kishu_meaning.specs.values.Values.{Value, Node, builtin, class, node, none}
use Rattle.kishu_pairing_laws.specs.World.{World, SameValues, GoAlike, SameValue, BothOrNeither, SameNode, neither, both, lists, tuples, dicts, objects, functions, exceptions, IsPlain, plain, paired, nil, cons, Zip}
use Rattle.kishu_pairing_laws.specs.moments.Steps.{quiet, bind_first, bind_alike, give_grows, give_quiet, bind_quiet, tick_alike, deeper_alike, deeper_grows, bind_grows, then_grows, bind_is, then_quiet, tick_quiet, cond_grows, choose_first, choose_alike}
use Rattle.kishu_pairing_laws.specs.moments.Heap.{node_now_quiet}
use Rattle.kishu_pairing_laws.specs.calls.Operators.{new_tuple_quiet, new_list_quiet, truth_quiet, signed_value_quiet, operate_quiet}
use Rattle.kishu_pairing_laws.specs.comparing.Comparing.{compare_quiet}
use Rattle.kishu_pairing_laws.specs.items.Subscripts.{item_quiet, slice_quiet}
use Rattle.kishu_pairing_laws.specs.calls.Methods.{call_method_quiet}
use Rattle.kishu_pairing_laws.specs.calls.Callees.{SameGiven, not_callable_quiet, call_builtin_quiet, construct_quiet, SameCallee, SamePart, function_callees, both_whole, methods, by_plain_quiet, views, both_viewed, settled_quiet, both_dotted, callee_quiet}
use Rattle.kishu_pairing_laws.specs.moments.Names.{read_alike}
use Rattle.kishu_pairing_laws.specs.growing.Parts.{truth_grows, tick_grows, new_tuple_grows, new_list_grows, new_dict_grows, signed_grows, operate_grows, settled_grows, item_grows, slice_grows, compare_grows}
use Rattle.kishu_pairing_laws.specs.cells.Parts.{new_dict_quiet, nodes_quiet, SamePair}
use Rattle.kishu_pairing_laws.specs.growing.Expressions.{CallsGrow, expr_grows, operands_grows, links_grows, trailers_grows, apply_grows, bound_value_grows, arguments_grows, values_grows, inner_values_grows, pairs_grows, first_that_grows}

abbrev pub CallsAlike : World → Calls → Type 0
CallsAlike W calls = (profile : Profile) (code : List ℕ) (vs ws : List Value) (g h : Given) → SameValues W vs ws → SameGiven W g h → GoAlike W (SameValue W) (calls profile code vs g) (calls profile code ws h)

module _ (W : World) (sorted : W.Sorted) where
  module _ (calls : Calls) (grow : CallsGrow calls) (alike : CallsAlike W calls) where
    -- ---- calls

    call_node_alike : {v w : Value} {o p : Option Node} {g h : Given} → SameValue W v w → BothOrNeither (SameNode W) o p → SameGiven W g h → GoAlike W (SameValue W) (call_node calls v o g) (call_node calls w p h)
    call_node_alike vw neither gh = quiet W (not_callable_quiet W vw)
    call_node_alike vw (both (lists z)) gh = quiet W (not_callable_quiet W vw)
    call_node_alike vw (both (tuples z)) gh = quiet W (not_callable_quiet W vw)
    call_node_alike vw (both (dicts z)) gh = quiet W (not_callable_quiet W vw)
    call_node_alike vw (both (objects z)) gh = quiet W (not_callable_quiet W vw)
    call_node_alike vw (both (functions profile code z)) gh = alike profile code _ _ _ _ z gh
    call_node_alike vw (both (exceptions kind z)) gh = quiet W (not_callable_quiet W vw)

    call_plain : (v : Value) → IsPlain v → (g h : Given) → SameGiven W g h → GoAlike W (SameValue W) (call_value calls v g) (call_value calls v h)
    call_plain (builtin n) p g h gh = quiet W (call_builtin_quiet W n gh)
    call_plain (class n) p g h gh = quiet W (construct_quiet W n gh)
    call_plain (node i) p g h gh = absurd p
    call_plain v p g h gh = quiet W (not_callable_quiet W (plain v p))

    call_value_alike : {v w : Value} {g h : Given} → SameValue W v w → SameGiven W g h → GoAlike W (SameValue W) (call_value calls v g) (call_value calls w h)
    call_value_alike (plain v p) gh = call_plain v p _ _ gh
    call_value_alike (paired i j p) gh = bind_first W (node_now_quiet W (paired i j p)) (λ o q oq. call_node_alike (paired i j p) oq gh)

    apply_alike : {f k : Callee} {g h : Given} → SameCallee W f k → SameGiven W g h → GoAlike W (SamePart W) (apply calls f g) (apply calls k h)
    apply_alike (function_callees vw) gh = bind_alike W (call_value_alike vw gh) (λ v. give_grows _) (λ v w vw. quiet W (give_quiet W (both_whole vw)))
    apply_alike (methods x vw) gh = quiet W (bind_quiet W (by_plain_quiet W x gh.named (call_method_quiet W x vw gh.plain)) (λ v w vw. give_quiet W (both_whole vw)))
    apply_alike (views found p) gh = quiet W (give_quiet W (both_viewed found p))

    -- ---- expressions

    mutual
      pub expr_alike : (e : Expression) → GoAlike W (SameValue W) (expr calls e) (expr calls e)
      expr_alike (t.name x) = tick_alike W (read_alike W x)
      expr_alike (t.integer z) = tick_alike W (quiet W (give_quiet W (plain _ tt)))
      expr_alike (t.text x) = tick_alike W (quiet W (give_quiet W (plain _ tt)))
      expr_alike t.none = tick_alike W (quiet W (give_quiet W (plain _ tt)))
      expr_alike t.true = tick_alike W (quiet W (give_quiet W (plain _ tt)))
      expr_alike t.false = tick_alike W (quiet W (give_quiet W (plain _ tt)))
      expr_alike (t.paren e) = deeper_alike W (expr_alike e)
      expr_alike (t.tuple es) = bind_alike W (tick_alike W (values_alike es)) new_tuple_grows (λ vs ws z. quiet W (new_tuple_quiet W z))
      expr_alike (t.list es) = bind_alike W (tick_alike W (inner_values_alike es)) new_list_grows (λ vs ws z. quiet W (new_list_quiet W z))
      expr_alike (t.dict ps) = bind_alike W (tick_alike W (pairs_alike ps)) new_dict_grows (λ ps qs z. quiet W (new_dict_quiet W z))
      expr_alike (t.conditional value test other) = choose_alike W (bind_alike W (tick_alike W (expr_alike test)) truth_grows (λ v w vw. quiet W (truth_quiet W vw))) (expr_grows calls grow value) (deeper_grows (expr_grows calls grow other)) (expr_alike value) (deeper_alike W (expr_alike other))
      expr_alike (t.or es) = tick_alike W (first_that_alike true es)
      expr_alike (t.and es) = tick_alike W (first_that_alike false es)
      expr_alike (t.not e) = bind_alike W (deeper_alike W (expr_alike e)) (λ v. bind_grows (then_grows tick_grows (truth_grows v)) (λ b. give_grows _)) (λ v w vw. quiet W (bind_is W (then_quiet W (tick_quiet W) (truth_quiet W vw)) (λ b. give_quiet W (plain _ tt))))
      expr_alike (t.signed sign e) = bind_alike W (deeper_alike W (expr_alike e)) (λ v. then_grows tick_grows (signed_grows sign v)) (λ v w vw. quiet W (then_quiet W (tick_quiet W) (signed_value_quiet W sign vw)))
      expr_alike (t.power base exponent) =
          bind_alike W (expr_alike base) (λ a. bind_grows (deeper_grows (expr_grows calls grow exponent)) (λ b. then_grows tick_grows (operate_grows operators.Power a b))) (λ v w vw.
          bind_alike W (deeper_alike W (expr_alike exponent)) (λ b. then_grows tick_grows (operate_grows operators.Power v b)) (λ x y xy.
          quiet W (then_quiet W (tick_quiet W) (operate_quiet W operators.Power vw xy))))
      expr_alike (t.sum e os) = bind_alike W (expr_alike e) (λ v. operands_grows calls grow v os) (λ v w vw. operands_alike vw os)
      expr_alike (t.product e os) = bind_alike W (expr_alike e) (λ v. operands_grows calls grow v os) (λ v w vw. operands_alike vw os)
      expr_alike (t.compared e ls) = bind_alike W (expr_alike e) (λ v. links_grows calls grow v ls) (λ v w vw. links_alike vw ls)
      expr_alike (t.primary e ts) =
          bind_alike W (bind_first W (nodes_quiet W ts) (λ _ _ _. part_alike e (expr_alike e))) (λ p. bind_grows (trailers_grows calls grow p ts) settled_grows) (λ p q pq.
          bind_alike W (trailers_alike pq ts) settled_grows (λ p q pq. quiet W (settled_quiet W pq)))

      pub part_alike : (e : Expression) {value value' : M Value} → GoAlike W (SameValue W) value value' → GoAlike W (SamePart W) (part calls e value) (part calls e value')
      part_alike (t.paren e) h = deeper_alike W (part_alike e (expr_alike e))
      part_alike (t.primary e ts) h = bind_alike W (bind_first W (nodes_quiet W ts) (λ _ _ _. part_alike e (expr_alike e))) (λ p. trailers_grows calls grow p ts) (λ p q pq. trailers_alike pq ts)
      part_alike e h = bind_alike W h (λ v. give_grows _) (λ v w vw. quiet W (give_quiet W (both_whole vw)))

      pub trailers_alike : {p q : Part} → SamePart W p q → (ts : Trailers) → GoAlike W (SamePart W) (trailers calls p ts) (trailers calls q ts)
      trailers_alike pq no_trailers = quiet W (give_quiet W pq)
      trailers_alike pq (more_trailers first ts) = bind_alike W (trailer_alike pq first) (λ p. trailers_grows calls grow p ts) (λ p q pq. trailers_alike pq ts)

      pub trailer_alike : {p q : Part} → SamePart W p q → (first : Trailer) → GoAlike W (SamePart W) (trailer calls p first) (trailer calls q first)
      trailer_alike pq (t.attribute x) = quiet W (bind_quiet W (settled_quiet W pq) (λ v w vw. give_quiet W (both_dotted x vw)))
      trailer_alike pq (t.call es) =
          bind_first W (callee_quiet W es pq) (λ f k fk.
          bind_alike W (arguments_alike es) (apply_grows calls grow f) (λ g h gh. apply_alike fk gh))
      trailer_alike pq (t.index e) =
          bind_first W (settled_quiet W pq) (λ v w vw.
          bind_alike W (deeper_alike W (expr_alike e)) (λ i. bind_grows (item_grows v i) (λ u. give_grows _)) (λ i j ij.
          quiet W (bind_quiet W (item_quiet W vw ij) (λ x y xy. give_quiet W (both_whole xy)))))
      trailer_alike pq (t.slice start stop step) =
          bind_first W (settled_quiet W pq) (λ v w vw.
          bind_alike W (bound_value_alike start) (λ a. bind_grows (bound_value_grows calls grow stop) (λ b. bind_grows (bound_value_grows calls grow step) (λ d. bind_grows (slice_grows v a b d) (λ u. give_grows _)))) (λ a a' aa.
          bind_alike W (bound_value_alike stop) (λ b. bind_grows (bound_value_grows calls grow step) (λ d. bind_grows (slice_grows v a b d) (λ u. give_grows _))) (λ b b' bb.
          bind_alike W (bound_value_alike step) (λ d. bind_grows (slice_grows v a b d) (λ u. give_grows _)) (λ d d' dd.
          quiet W (bind_quiet W (slice_quiet W vw aa bb dd) (λ x y xy. give_quiet W (both_whole xy)))))))

      pub bound_value_alike : (b : Bound) → GoAlike W (SameValue W) (bound_value calls b) (bound_value calls b)
      bound_value_alike absent = quiet W (give_quiet W (plain none tt))
      bound_value_alike (bound e) = deeper_alike W (expr_alike e)

      pub arguments_alike : (es : Arguments) → GoAlike W (SameGiven W) (arguments calls es) (arguments calls es)
      arguments_alike no_arguments = quiet W (give_quiet W (record { plain = nil; named = nil }))
      arguments_alike (more_arguments (t.plain e) es) =
          bind_alike W (deeper_alike W (expr_alike e)) (λ v. bind_grows (arguments_grows calls grow es) (λ given. give_grows _)) (λ v w vw.
          bind_alike W (arguments_alike es) (λ given. give_grows _) (λ g h gh. quiet W (give_quiet W (record { plain = cons vw gh.plain; named = gh.named }))))
      arguments_alike (more_arguments (t.keyword x e) es) =
          bind_alike W (deeper_alike W (expr_alike e)) (λ v. bind_grows (arguments_grows calls grow es) (λ given. give_grows _)) (λ v w vw.
          bind_alike W (arguments_alike es) (λ given. give_grows _) (λ g h gh. quiet W (give_quiet W (record { plain = gh.plain; named = cons (refl, vw) gh.named }))))

      pub values_alike : (es : Expressions) → GoAlike W (SameValues W) (values calls es) (values calls es)
      values_alike no_expressions = quiet W (give_quiet W nil)
      values_alike (more_expressions e es) =
          bind_alike W (expr_alike e) (λ v. bind_grows (values_grows calls grow es) (λ vs. give_grows _)) (λ v w vw.
          bind_alike W (values_alike es) (λ vs. give_grows _) (λ vs ws z. quiet W (give_quiet W (cons vw z))))

      pub inner_values_alike : (es : Expressions) → GoAlike W (SameValues W) (inner_values calls es) (inner_values calls es)
      inner_values_alike no_expressions = quiet W (give_quiet W nil)
      inner_values_alike (more_expressions e es) =
          bind_alike W (deeper_alike W (expr_alike e)) (λ v. bind_grows (inner_values_grows calls grow es) (λ vs. give_grows _)) (λ v w vw.
          bind_alike W (inner_values_alike es) (λ vs. give_grows _) (λ vs ws z. quiet W (give_quiet W (cons vw z))))

      pub pairs_alike : (ps : Pairs) → GoAlike W (Zip (SamePair W)) (pairs calls ps) (pairs calls ps)
      pairs_alike no_pairs = quiet W (give_quiet W nil)
      pairs_alike (more_pairs key e ps) =
          bind_alike W (deeper_alike W (expr_alike key)) (λ k. bind_grows (deeper_grows (expr_grows calls grow e)) (λ v. bind_grows (pairs_grows calls grow ps) (λ es. give_grows _))) (λ k l kl.
          bind_alike W (deeper_alike W (expr_alike e)) (λ v. bind_grows (pairs_grows calls grow ps) (λ es. give_grows _)) (λ v w vw.
          bind_alike W (pairs_alike ps) (λ es. give_grows _) (λ es fs z. quiet W (give_quiet W (cons (kl, vw) z)))))

      pub first_that_alike : (which : Bool) (es : Expressions) → GoAlike W (SameValue W) (first_that calls which es) (first_that calls which es)
      first_that_alike which no_expressions = quiet W (give_quiet W (plain none tt))
      first_that_alike which (more_expressions e no_expressions) = expr_alike e
      first_that_alike which (more_expressions e (more_expressions f es)) =
          bind_alike W (expr_alike e) (λ v. bind_grows (truth_grows v) (λ b. cond_grows (beq b which) (give_grows v) (first_that_grows calls grow which (more_expressions f es)))) (λ v w vw.
          choose_first W (λ b. beq b which) (truth_quiet W vw) (quiet W (give_quiet W vw)) (first_that_alike which (more_expressions f es)))

      pub operands_alike : {v w : Value} → SameValue W v w → (os : Operands) → GoAlike W (SameValue W) (operands calls v os) (operands calls w os)
      operands_alike vw no_operands = quiet W (give_quiet W vw)
      operands_alike {v = v} vw (more_operands operator e os) =
          bind_alike W (expr_alike e) (λ x. bind_grows (then_grows tick_grows (operate_grows operator v x)) (λ y. operands_grows calls grow y os)) (λ x y xy.
          bind_first W (then_quiet W (tick_quiet W) (operate_quiet W operator vw xy)) (λ a b ab. operands_alike ab os))

      pub links_alike : {v w : Value} → SameValue W v w → (ls : Links) → GoAlike W (SameValue W) (links calls v ls) (links calls w ls)
      links_alike vw no_links = quiet W (give_quiet W vw)
      links_alike {v = v} vw (more_links comparison e no_links) =
          bind_alike W (expr_alike e) (λ x. bind_grows (then_grows tick_grows (compare_grows comparison v x)) (λ b. give_grows _)) (λ x y xy.
          quiet W (bind_is W (then_quiet W (tick_quiet W) (compare_quiet W comparison vw xy)) (λ b. give_quiet W (plain _ tt))))
      links_alike {v = v} vw (more_links comparison e (more_links next f ls)) =
          bind_alike W (expr_alike e) (λ x. bind_grows (then_grows tick_grows (compare_grows comparison v x)) (λ b. cond_grows b (links_grows calls grow x (more_links next f ls)) (give_grows _))) (λ x y xy.
          choose_first W (λ b. b) (then_quiet W (tick_quiet W) (compare_quiet W comparison vw xy)) (links_alike xy (more_links next f ls)) (quiet W (give_quiet W (plain _ tt))))
