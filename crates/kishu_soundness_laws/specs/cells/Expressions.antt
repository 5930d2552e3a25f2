-- Expressions keep node numbers those of nodes: one line a form.
use Rattle.std.specs.Prelude.{ℕ, List, Option, Some, true, false, not, Bool, [], ◌∷◌}
use Rattle.std.specs.Bool.{beq}
use Rattle.std.specs.Str.{chars}
use Rattle.kishu_language.specs.declared.profile.Profile.{Profile}
use Rattle.kishu_language.specs.declared.tree.Operator.TheVariants as operators
use Rattle.kishu_language.specs.trees.Tree as t
use Rattle.kishu_language.specs.trees.Tree.{Expression, Trailers, no_trailers, more_trailers, Trailer, Bound, absent, bound, Arguments, no_arguments, more_arguments, Expressions, no_expressions, more_expressions, Pairs, no_pairs, more_pairs, Operands, no_operands, more_operands, Links, no_links, more_links}
use Rattle.kishu_meaning.specs.calls.Callees as c
use Rattle.kishu_meaning.specs.calls.Callees.{Given, whole, Callee, method, view, viewed, Part, dotted, nothing_given, and_plain, and_named}
use Rattle.kishu_meaning.specs.cells.Meaning.{Calls, call_node, call_value, apply, expr, part, trailers, trailer, bound_value, arguments, values, inner_values, pairs, first_that, operands, links}
use Rattle.kishu_meaning.specs.moments.Moment.{give, M}
use Rattle.kishu_meaning.specs.values.Values.{Value, Node, function, builtin, class, node, integer, text, none, bool, tuple, list}
use Rattle.kishu_soundness_laws.specs.Below.{AllBelow, Below, Maybe, NodeBelow}
use Rattle.kishu_soundness_laws.specs.BelowLaws.{below_later}
use Rattle.kishu_soundness_laws.specs.moments.Steps.{IsSafe, bind_safe, node_now_safe, then_safe, tick_safe, value_safe, deeper_safe, plain_safe, if_safe, list_safe, give_safe}
use Rattle.kishu_soundness_laws.specs.moments.Heap.{make_safe}
use Rattle.kishu_soundness_laws.specs.items.Subscripts.{item_safe, slice_safe}
use Rattle.kishu_soundness_laws.specs.calls.Operators.{truth_safe, signed_safe, operate_safe}
use Rattle.kishu_soundness_laws.specs.comparing.Comparing.{compare_safe}
use Rattle.kishu_soundness_laws.specs.calls.Methods.{call_method_safe}
use Rattle.kishu_soundness_laws.specs.calls.Callees.{GivenBelow, not_callable_safe, call_builtin_safe, construct_safe, given_later, PartBelow, give_part_safe, by_plain_safe, settled_safe, callee_safe, given_safe}
use Rattle.kishu_soundness_laws.specs.moments.Names.{read_safe}
use Rattle.kishu_soundness_laws.specs.cells.Parts.{new_dict_safe, nodes_safe, PairsBelow, pairs_later}

abbrev pub CallsAreSafe : Calls → Type 0
CallsAreSafe calls = (k : ℕ) (profile : Profile) (code : List ℕ) (vs : List Value) (g : Given) → AllBelow k vs → GivenBelow k g → IsSafe k Below (calls profile code vs g)

module _ (calls : Calls) (safe : CallsAreSafe calls) where
  call_node_safe : {k : ℕ} (v : Value) (o : Option Node) (g : Given) → Maybe (NodeBelow k) o → GivenBelow k g → IsSafe k Below (call_node calls v o g)
  call_node_safe {k = k} v (Some (function profile code vs)) g h e = safe k profile code vs g h e
  call_node_safe v o g h e = not_callable_safe v

  call_value_safe : {k : ℕ} (v : Value) (g : Given) → GivenBelow k g → IsSafe k Below (call_value calls v g)
  call_value_safe (builtin m) g h = call_builtin_safe m g h
  call_value_safe (class m) g h = construct_safe m g h
  call_value_safe {k = k} (node i) g h = bind_safe (node_now_safe (node i)) (λ l le o q. call_node_safe (node i) o g q (given_later k l le g h))
  call_value_safe v g h = not_callable_safe v

  whole_safe : {k : ℕ} (v : Value) → Below k v → IsSafe k PartBelow (give (whole v))
  whole_safe v h = give_part_safe (whole v) h

  apply_safe : {k : ℕ} (f : Callee) (g : Given) → GivenBelow k g → IsSafe k PartBelow (apply calls f g)
  apply_safe (c.function v) g h = bind_safe (call_value_safe v g h) (λ l le w q. whole_safe w q)
  apply_safe (method v x) g h = bind_safe (by_plain_safe x g.named (call_method_safe v x g.plain h.plain)) (λ l le w q. whole_safe w q)
  apply_safe (view i found) g h = give_part_safe (viewed i found) tt

  mutual
    pub expr_safe : (k : ℕ) (e : Expression) → IsSafe k Below (expr calls e)
    expr_safe k (t.name x) = then_safe tick_safe (read_safe x)
    expr_safe k (t.integer z) = then_safe tick_safe (value_safe (integer z) tt)
    expr_safe k (t.text x) = then_safe tick_safe (value_safe (text (chars x)) tt)
    expr_safe k t.none = then_safe tick_safe (value_safe none tt)
    expr_safe k t.true = then_safe tick_safe (value_safe (bool true) tt)
    expr_safe k t.false = then_safe tick_safe (value_safe (bool false) tt)
    expr_safe k (t.paren e) = deeper_safe (expr_safe k e)
    expr_safe k (t.tuple es) = bind_safe (then_safe tick_safe (values_safe k es)) (λ l le vs q. make_safe (tuple vs) q)
    expr_safe k (t.list es) = bind_safe (then_safe tick_safe (inner_values_safe k es)) (λ l le vs q. make_safe (list vs) q)
    expr_safe k (t.dict ps) = bind_safe (then_safe tick_safe (pairs_safe k ps)) (λ l le qs q. new_dict_safe qs q)
    expr_safe k (t.conditional value test other) = plain_safe (bind_safe (then_safe tick_safe (expr_safe k test)) (λ l le v q. truth_safe v)) (λ b. if_safe b (expr_safe k value) (deeper_safe (expr_safe k other)))
    expr_safe k (t.or es) = then_safe tick_safe (first_that_safe k true es)
    expr_safe k (t.and es) = then_safe tick_safe (first_that_safe k false es)
    expr_safe k (t.not e) = bind_safe (deeper_safe (expr_safe k e)) (λ l le v q. plain_safe (then_safe tick_safe (truth_safe v)) (λ b. value_safe (bool (not b)) tt))
    expr_safe k (t.signed sign e) = bind_safe (deeper_safe (expr_safe k e)) (λ l le v q. then_safe tick_safe (signed_safe sign v))
    expr_safe k (t.power base exponent) = bind_safe (expr_safe k base) (λ l le v q. bind_safe (deeper_safe (expr_safe l exponent)) (λ l' le' w r. then_safe tick_safe (operate_safe operators.Power v w)))
    expr_safe k (t.sum e os) = bind_safe (expr_safe k e) (λ l le v q. operands_safe l v q os)
    expr_safe k (t.product e os) = bind_safe (expr_safe k e) (λ l le v q. operands_safe l v q os)
    expr_safe k (t.compared e ls) = bind_safe (expr_safe k e) (λ l le v q. links_safe l v q ls)
    expr_safe k (t.primary e ts) = bind_safe (then_safe (nodes_safe ts) (part_safe k e (expr_safe k e))) (λ l le p q. bind_safe (trailers_safe l p q ts) (λ l' le' p' r. settled_safe p' r))

    pub part_safe : (k : ℕ) (e : Expression) {value : M Value} → IsSafe k Below value → IsSafe k PartBelow (part calls e value)
    part_safe k (t.paren e) h = deeper_safe (part_safe k e (expr_safe k e))
    part_safe k (t.primary e ts) h = bind_safe (then_safe (nodes_safe ts) (part_safe k e (expr_safe k e))) (λ l le p q. trailers_safe l p q ts)
    part_safe k e h = bind_safe h (λ l le v q. give_part_safe (whole v) q)

    trailers_safe : (k : ℕ) (p : Part) → PartBelow k p → (ts : Trailers) → IsSafe k PartBelow (trailers calls p ts)
    trailers_safe k p h no_trailers = give_part_safe p h
    trailers_safe k p h (more_trailers first ts) = bind_safe (trailer_safe k p h first) (λ l le p' q. trailers_safe l p' q ts)

    pub trailer_safe : (k : ℕ) (p : Part) → PartBelow k p → (first : Trailer) → IsSafe k PartBelow (trailer calls p first)
    trailer_safe k p h (t.attribute x) = bind_safe (settled_safe p h) (λ l le v q. give_part_safe (dotted v x) q)
    trailer_safe k p h (t.call es) = bind_safe (callee_safe p es h) (λ l le f q. bind_safe (arguments_safe l es) (λ l' le' g r. apply_safe f g r))
    trailer_safe k p h (t.index e) = bind_safe (settled_safe p h) (λ l le v q. bind_safe (deeper_safe (expr_safe l e)) (λ l' le' i r. bind_safe (item_safe v i r) (λ l'' le'' w z. give_part_safe (whole w) z)))
    trailer_safe k p h (t.slice start stop step) = bind_safe (settled_safe p h) (λ l le v q. bind_safe (bound_value_safe l start) (λ l1 le1 a qa. bind_safe (bound_value_safe l1 stop) (λ l2 le2 b qb. bind_safe (bound_value_safe l2 step) (λ l3 le3 d qd. bind_safe (slice_safe v a b d) (λ l4 le4 w z. give_part_safe (whole w) z)))))

    bound_value_safe : (k : ℕ) (b : Bound) → IsSafe k Below (bound_value calls b)
    bound_value_safe k absent = value_safe none tt
    bound_value_safe k (bound e) = deeper_safe (expr_safe k e)

    arguments_safe : (k : ℕ) (es : Arguments) → IsSafe k GivenBelow (arguments calls es)
    arguments_safe k no_arguments = given_safe nothing_given (record { plain = tt; named = tt })
    arguments_safe k (more_arguments (t.plain e) es) = bind_safe (deeper_safe (expr_safe k e)) (λ l le v q. bind_safe (arguments_safe l es) (λ l' le' g r. given_safe (and_plain v g) (record { plain = (below_later l l' le' v q, r.plain); named = r.named })))
    arguments_safe k (more_arguments (t.keyword x e) es) = bind_safe (deeper_safe (expr_safe k e)) (λ l le v q. bind_safe (arguments_safe l es) (λ l' le' g r. given_safe (and_named x v g) (record { plain = r.plain; named = (below_later l l' le' v q, r.named) })))

    values_safe : (k : ℕ) (es : Expressions) → IsSafe k AllBelow (values calls es)
    values_safe k no_expressions = list_safe [] tt
    values_safe k (more_expressions e es) = bind_safe (expr_safe k e) (λ l le v q. bind_safe (values_safe l es) (λ l' le' vs r. list_safe (v ∷ vs) (below_later l l' le' v q, r)))

    inner_values_safe : (k : ℕ) (es : Expressions) → IsSafe k AllBelow (inner_values calls es)
    inner_values_safe k no_expressions = list_safe [] tt
    inner_values_safe k (more_expressions e es) = bind_safe (deeper_safe (expr_safe k e)) (λ l le v q. bind_safe (inner_values_safe l es) (λ l' le' vs r. list_safe (v ∷ vs) (below_later l l' le' v q, r)))

    pairs_safe : (k : ℕ) (ps : Pairs) → IsSafe k PairsBelow (pairs calls ps)
    pairs_safe k no_pairs = give_safe PairsBelow (λ l le. tt)
    pairs_safe k (more_pairs key e ps) = bind_safe (deeper_safe (expr_safe k key)) (λ l le x q. bind_safe (deeper_safe (expr_safe l e)) (λ l' le' v r. bind_safe (pairs_safe l' ps) (λ l2 le2 es z. give_safe PairsBelow (λ l3 le3. pairs_later l2 l3 le3 ((x, v) ∷ es) ((below_later l' l2 le2 x (below_later l l' le' x q), below_later l' l2 le2 v r), z)))))

    first_that_safe : (k : ℕ) (which : Bool) (es : Expressions) → IsSafe k Below (first_that calls which es)
    first_that_safe k which no_expressions = value_safe none tt
    first_that_safe k which (more_expressions e no_expressions) = expr_safe k e
    first_that_safe k which (more_expressions e (more_expressions f es)) = bind_safe (expr_safe k e) (λ l le v q. plain_safe (truth_safe v) (λ b. if_safe (beq b which) (value_safe v q) (first_that_safe l which (more_expressions f es))))

    operands_safe : (k : ℕ) (v : Value) → Below k v → (os : Operands) → IsSafe k Below (operands calls v os)
    operands_safe k v p no_operands = value_safe v p
    operands_safe k v p (more_operands operator e os) = bind_safe (expr_safe k e) (λ l le w q. bind_safe (then_safe tick_safe (operate_safe operator v w)) (λ l' le' x r. operands_safe l' x r os))

    links_safe : (k : ℕ) (v : Value) → Below k v → (ls : Links) → IsSafe k Below (links calls v ls)
    links_safe k v p no_links = value_safe v p
    links_safe k v p (more_links comparison e no_links) = bind_safe (expr_safe k e) (λ l le w q. plain_safe (then_safe tick_safe (compare_safe comparison v w)) (λ b. value_safe (bool b) tt))
    links_safe k v p (more_links comparison e (more_links next f ls)) = bind_safe (expr_safe k e) (λ l le w q. plain_safe (then_safe tick_safe (compare_safe comparison v w)) (λ b. if_safe b (links_safe l w q (more_links next f ls)) (value_safe (bool false) tt)))
