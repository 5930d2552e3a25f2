-- Expressions, places and targets keep what holds of every state, where their trees are sound, and go the same way where the calls do.
use Rattle.std.specs.Prelude.{ℕ, Bool, true, false, not, List, [], ◌∷◌}
use Rattle.std.specs.Bool.{beq}
use Rattle.std.specs.Str.{chars}
use Rattle.std.proofs.Common.{refl, ap, arith}
use Rattle.kishu_language.specs.declared.tree.Operator.{Operator}
use Rattle.kishu_language.specs.declared.tree.Operator.TheVariants as operators
use Rattle.kishu_language.specs.trees.Tree.{Text, Expression, Expressions, Operands, Links, Pairs, Trailers, Trailer, Bound, Arguments, no_expressions, more_expressions, no_operands, more_operands, no_links, more_links, no_pairs, more_pairs, no_trailers, more_trailers, absent, bound, no_arguments, more_arguments}
use Rattle.kishu_language.specs.trees.Tree as t
use Rattle.kishu_meaning.specs.values.Values.{Value, none, bool, integer, text, list, tuple}
use Rattle.kishu_meaning.specs.moments.Moment.{M}
use Rattle.kishu_meaning.specs.calls.Callees.{nothing_given, and_plain, and_named, Part, whole, dotted}
use Rattle.kishu_meaning.specs.cells.Meaning.{Calls, nodes_before_last, named, attribute_of, item_of, count, expr, part, trailers, trailer, bound_value, arguments, values, inner_values, pairs, first_that, operands, links, place_by, place_after, place, store, store_each, store_all, delete_all, update}
use Rattle.kishu_objects.specs.State.{IsValue, AreValues}
use Rattle.kishu_state_laws.specs.trees.Sound.{ExpressionSound, ExpressionsSound, OperandsSound, LinksSound, PairsSound, TrailersSound, TrailerSound, BoundSound, ArgumentsSound, ListSound}
use Rattle.kishu_state_laws.specs.keeping.Logic.{Any, Safe, give_s, any_s, value_s, list_s, tick_s, make_s, value_later}
use Rattle.kishu_state_laws.specs.keeping.Leaves.{truth_s}
use Rattle.kishu_state_laws.specs.keeping.Subscripts.{item_s, slice_s}
use Rattle.kishu_state_laws.specs.keeping.Operating.{operate_s, signed_s, compare_s, unpacked_s}
use Rattle.kishu_state_laws.specs.keeping.Callees.{IsPart, part_s, callee_later, settled_s, callee_s}
use Rattle.kishu_state_laws.specs.keeping.Names.{read_s, assign_s}
use Rattle.kishu_state_laws.specs.keeping.Parts.{no_place_s, nodes_s, ArePairs, pairs_later, new_dict_s, updated_s, IsPlace, place_give, place_later, read_place_s, store_in_s, delete_place_s, GivenBy, given_by, given_sound, CallsSafe}
use Rattle.kishu_state_laws.specs.keeping.Agreeing.{Agree, one, bind_a, plain_a, then_a, if_a, deeper_a}
use Rattle.kishu_state_laws.specs.keeping.CallsAgreeing.{CallsAgree, one_calls, apply_a}

module _ (d : ℕ) (calls calls' : Calls) (cs : CallsAgree d calls calls') where
  mutual
    pub expr_a : (k : ℕ) (e : Expression) → ExpressionSound e → Agree d k IsValue (expr calls e) (expr calls' e)
    expr_a k (t.name x) h = then_a (one tick_s) (one (read_s x h))
    expr_a k (t.integer z) h = then_a (one tick_s) (one (value_s (integer z) h))
    expr_a k (t.text x) h = then_a (one tick_s) (one (value_s (text (chars x)) h))
    expr_a k t.none h = then_a (one tick_s) (one (value_s none tt))
    expr_a k t.true h = then_a (one tick_s) (one (value_s (bool true) tt))
    expr_a k t.false h = then_a (one tick_s) (one (value_s (bool false) tt))
    expr_a k (t.paren e) h = deeper_a (expr_a k e h)
    expr_a k (t.tuple es) h = bind_a (then_a (one tick_s) (values_a k es h)) (λ l le vs q. one (make_s (tuple vs) q (λ p. tt)))
    expr_a k (t.list es) h = bind_a (then_a (one tick_s) (inner_values_a k es h)) (λ l le vs q. one (make_s (list vs) q (λ p. tt)))
    expr_a k (t.dict ps) h = bind_a (then_a (one tick_s) (pairs_a k ps h)) (λ l le qs q. one (new_dict_s qs q))
    expr_a k (t.conditional value test other) h = plain_a (bind_a (then_a (one tick_s) (expr_a k test h.1)) (λ l le v q. one (truth_s v))) (λ b. if_a b (expr_a k value h.0) (deeper_a (expr_a k other h.2)))
    expr_a k (t.or es) h = then_a (one tick_s) (first_that_a k true es h)
    expr_a k (t.and es) h = then_a (one tick_s) (first_that_a k false es h)
    expr_a k (t.not e) h = bind_a (deeper_a (expr_a k e h)) (λ l le v q. plain_a (then_a (one tick_s) (one (truth_s v))) (λ b. one (value_s (bool (not b)) tt)))
    expr_a k (t.signed sign e) h = bind_a (deeper_a (expr_a k e h)) (λ l le v q. then_a (one tick_s) (one (signed_s sign v)))
    expr_a k (t.power base exponent) h = bind_a (expr_a k base h.0) (λ l le v q. bind_a (deeper_a (expr_a l exponent h.1)) (λ l' le' w r. then_a (one tick_s) (one (operate_s operators.Power v w (value_later l l' le' v q) r))))
    expr_a k (t.sum e os) h = bind_a (expr_a k e h.0) (λ l le v q. operands_a l v q os h.1)
    expr_a k (t.product e os) h = bind_a (expr_a k e h.0) (λ l le v q. operands_a l v q os h.1)
    expr_a k (t.compared e ls) h = bind_a (expr_a k e h.0) (λ l le v q. links_a l v q ls h.1)
    expr_a k (t.primary e ts) h = bind_a (then_a (one (nodes_s ts)) (part_a k e h.0 (expr_a k e h.0))) (λ l le p q. bind_a (trailers_a l p q ts h.1) (λ l' le' p' r. one (settled_s p' r)))

    pub part_a : (k : ℕ) (e : Expression) {value value' : M Value} → ExpressionSound e → Agree d k IsValue value value' → Agree d k IsPart (part calls e value) (part calls' e value')
    part_a k (t.paren e) g h = deeper_a (part_a k e g (expr_a k e g))
    part_a k (t.primary e ts) g h = bind_a (then_a (one (nodes_s ts)) (part_a k e g.0 (expr_a k e g.0))) (λ l le p q. trailers_a l p q ts g.1)
    part_a k e g h = bind_a h (λ l le v q. one (part_s (whole v) q))

    trailers_a : (k : ℕ) (p : Part) → IsPart k p → (ts : Trailers) → TrailersSound ts → Agree d k IsPart (trailers calls p ts) (trailers calls' p ts)
    trailers_a k p h no_trailers g = one (part_s p h)
    trailers_a k p h (more_trailers first ts) g = bind_a (trailer_a k p h first g.0) (λ l le p' q. trailers_a l p' q ts g.1)

    trailer_a : (k : ℕ) (p : Part) → IsPart k p → (first : Trailer) → TrailerSound first → Agree d k IsPart (trailer calls p first) (trailer calls' p first)
    trailer_a k p h (t.attribute x) g = bind_a (one (settled_s p h)) (λ l le v q. one (part_s (dotted v x) (q, g)))
    trailer_a k p h (t.call es) g = bind_a (one (callee_s p es h)) (λ l le f q. bind_a (arguments_a l es g.0) (λ l' le' given r. apply_a d calls calls' cs f given (callee_later l l' le' f q) (given_sound l' es given g.0 g.1 r)))
    trailer_a k p h (t.index e) g = bind_a (one (settled_s p h)) (λ l le v q. bind_a (deeper_a (expr_a l e g)) (λ l' le' i r. bind_a (one (item_s v i (value_later l l' le' v q) r)) (λ l'' le'' w z. one (part_s (whole w) z))))
    trailer_a k p h (t.slice start stop step) g = bind_a (one (settled_s p h)) (λ l le v q. bind_a (bound_value_a l start g.0) (λ l1 le1 a qa. bind_a (bound_value_a l1 stop g.1) (λ l2 le2 b qb. bind_a (bound_value_a l2 step g.2) (λ l3 le3 d qd.
        bind_a (one (slice_s v a b d (value_later l l3 (omega (arith, le1, le2, le3)) v q))) (λ l4 le4 w z. one (part_s (whole w) z))))))

    bound_value_a : (k : ℕ) (b : Bound) → BoundSound b → Agree d k IsValue (bound_value calls b) (bound_value calls' b)
    bound_value_a k absent g = one (value_s none tt)
    bound_value_a k (bound e) g = deeper_a (expr_a k e g)

    arguments_a : (k : ℕ) (es : Arguments) → ArgumentsSound es → Agree d k (GivenBy es) (arguments calls es) (arguments calls' es)
    arguments_a k no_arguments h = one (given_by no_arguments nothing_given (record { plain = tt; values = tt; keys = refl }))
    arguments_a k (more_arguments (t.plain e) es) h = bind_a (deeper_a (expr_a k e h.0)) (λ l le v q. bind_a (arguments_a l es h.1) (λ l' le' g r. one (given_by (more_arguments (t.plain e) es) (and_plain v g) (record { plain = (value_later l l' le' v q, r.plain); values = r.values; keys = r.keys }))))
    arguments_a k (more_arguments (t.keyword x e) es) h = bind_a (deeper_a (expr_a k e h.0.1)) (λ l le v q. bind_a (arguments_a l es h.1) (λ l' le' g r. one (given_by (more_arguments (t.keyword x e) es) (and_named x v g) (record { plain = r.plain; values = (value_later l l' le' v q, r.values); keys = ap (λ xs. x ∷ xs) r.keys }))))

    values_a : (k : ℕ) (es : Expressions) → ExpressionsSound es → Agree d k AreValues (values calls es) (values calls' es)
    values_a k no_expressions h = one (list_s [] tt)
    values_a k (more_expressions e es) h = bind_a (expr_a k e h.0) (λ l le v q. bind_a (values_a l es h.1) (λ l' le' vs r. one (list_s (v ∷ vs) (value_later l l' le' v q, r))))

    inner_values_a : (k : ℕ) (es : Expressions) → ExpressionsSound es → Agree d k AreValues (inner_values calls es) (inner_values calls' es)
    inner_values_a k no_expressions h = one (list_s [] tt)
    inner_values_a k (more_expressions e es) h = bind_a (deeper_a (expr_a k e h.0)) (λ l le v q. bind_a (inner_values_a l es h.1) (λ l' le' vs r. one (list_s (v ∷ vs) (value_later l l' le' v q, r))))

    pairs_a : (k : ℕ) (ps : Pairs) → PairsSound ps → Agree d k ArePairs (pairs calls ps) (pairs calls' ps)
    pairs_a k no_pairs h = one (give_s ArePairs (λ l le. tt))
    pairs_a k (more_pairs key e ps) h = bind_a (deeper_a (expr_a k key h.0)) (λ l le x q. bind_a (deeper_a (expr_a l e h.1)) (λ l' le' v r. bind_a (pairs_a l' ps h.2) (λ l2 le2 es z. one (give_s ArePairs (λ l3 le3. pairs_later l2 l3 le3 ((x, v) ∷ es) ((value_later l' l2 le2 x (value_later l l' le' x q), value_later l' l2 le2 v r), z))))))

    first_that_a : (k : ℕ) (which : Bool) (es : Expressions) → ExpressionsSound es → Agree d k IsValue (first_that calls which es) (first_that calls' which es)
    first_that_a k which no_expressions h = one (value_s none tt)
    first_that_a k which (more_expressions e no_expressions) h = expr_a k e h.0
    first_that_a k which (more_expressions e (more_expressions f es)) h = bind_a (expr_a k e h.0) (λ l le v q. plain_a (one (truth_s v)) (λ b. if_a (beq b which) (one (value_s v q)) (first_that_a l which (more_expressions f es) h.1)))

    operands_a : (k : ℕ) (v : Value) → IsValue k v → (os : Operands) → OperandsSound os → Agree d k IsValue (operands calls v os) (operands calls' v os)
    operands_a k v p no_operands h = one (value_s v p)
    operands_a k v p (more_operands operator e os) h = bind_a (expr_a k e h.0) (λ l le w q. bind_a (then_a (one tick_s) (one (operate_s operator v w (value_later k l le v p) q))) (λ l' le' x r. operands_a l' x r os h.1))

    links_a : (k : ℕ) (v : Value) → IsValue k v → (ls : Links) → LinksSound ls → Agree d k IsValue (links calls v ls) (links calls' v ls)
    links_a k v p no_links h = one (value_s v p)
    links_a k v p (more_links comparison e no_links) h = bind_a (expr_a k e h.0) (λ l le w q. plain_a (then_a (one tick_s) (one (compare_s comparison v w (value_later k l le v p)))) (λ b. one (value_s (bool b) tt)))
    links_a k v p (more_links comparison e (more_links next f ls)) h = bind_a (expr_a k e h.0) (λ l le w q. plain_a (then_a (one tick_s) (one (compare_s comparison v w (value_later k l le v p)))) (λ b. if_a b (links_a l w q (more_links next f ls) h.1) (one (value_s (bool false) tt))))

  -- ---- places

  place_by_a : (k : ℕ) (v : Value) → IsValue k v → (last : Trailer) → TrailerSound last → Agree d k IsPlace (place_by calls v last) (place_by calls' v last)
  place_by_a k v p (t.attribute x) h = one (place_give (attribute_of v x) (p, h))
  place_by_a k v p (t.index e) h = bind_a (deeper_a (expr_a k e h)) (λ l le i q. one (place_give (item_of v i) (value_later k l le v p, q)))
  place_by_a k v p (t.call es) h = one no_place_s
  place_by_a k v p (t.slice start stop step) h = one no_place_s

  place_after_a : (k : ℕ) (p : Part) → IsPart k p → (ts : Trailers) → TrailersSound ts → Agree d k IsPlace (place_after calls p ts) (place_after calls' p ts)
  place_after_a k p h no_trailers g = one no_place_s
  place_after_a k p h (more_trailers last no_trailers) g = bind_a (one (settled_s p h)) (λ l le v q. place_by_a l v q last g.0)
  place_after_a k p h (more_trailers first (more_trailers next ts)) g = bind_a (trailer_a k p h first g.0) (λ l le p' q. place_after_a l p' q (more_trailers next ts) g.1)

  before_s : (k : ℕ) (ts : Trailers) → Safe k Any (nodes_before_last ts)
  before_s k no_trailers = any_s
  before_s k (more_trailers first ts) = nodes_s ts

  pub place_a : (k : ℕ) (e : Expression) → ExpressionSound e → Agree d k IsPlace (place calls e) (place calls' e)
  place_a k (t.name x) h = one (place_give (named x) h)
  place_a k (t.primary e ts) h = bind_a (then_a (one (before_s k ts)) (part_a k e h.0 (expr_a k e h.0))) (λ l le p q. place_after_a l p q ts h.1)
  place_a k e h = one no_place_s

  mutual
    pub store_a : (k : ℕ) (e : Expression) (v : Value) → ExpressionSound e → IsValue k v → Agree d k Any (store calls e v) (store calls' e v)
    store_a k (t.paren e) v h p = deeper_a (store_a k e v h p)
    store_a k (t.tuple es) v h p = bind_a (one (unpacked_s (count es) v p)) (λ l le vs q. store_each_a l es vs h q)
    store_a k (t.list es) v h p = deeper_a (bind_a (one (unpacked_s (count es) v p)) (λ l le vs q. store_each_a l es vs h q))
    store_a k (t.name x) v h p = one (assign_s x v h p)
    store_a k (t.primary e ts) v h p = bind_a (place_a k (t.primary e ts) h) (λ l le x q. one (store_in_s x v q (value_later k l le v p)))
    store_a k e v h p = one no_place_s

    store_each_a : (k : ℕ) (es : Expressions) (vs : List Value) → ExpressionsSound es → AreValues k vs → Agree d k Any (store_each calls es vs) (store_each calls' es vs)
    store_each_a k (more_expressions e es) (v ∷ vs) g h = then_a (store_a k e v g.0 h.0) (store_each_a k es vs g.1 h.1)
    store_each_a k (more_expressions e es) [] g h = one any_s
    store_each_a k no_expressions vs g h = one any_s

  pub store_all_a : (k : ℕ) (es : List Expression) (v : Value) → ListSound es → IsValue k v → Agree d k Any (store_all calls es v) (store_all calls' es v)
  store_all_a k [] v h p = one any_s
  store_all_a k (e ∷ es) v h p = then_a (store_a k e v h.0 p) (store_all_a k es v h.1 p)

  pub delete_all_a : (k : ℕ) (es : List Expression) → ListSound es → Agree d k Any (delete_all calls es) (delete_all calls' es)
  delete_all_a k [] h = one any_s
  delete_all_a k (e ∷ es) h = bind_a (place_a k e h.0) (λ l le x q. then_a (one (delete_place_s x q)) (delete_all_a l es h.1))

  pub update_a : (k : ℕ) (e : Expression) (operator : Operator) (operand : Expression) → ExpressionSound e → ExpressionSound operand → Agree d k Any (update calls e operator operand) (update calls' e operator operand)
  update_a k e operator operand h g = bind_a (place_a k e h) (λ l le x q. bind_a (then_a (one tick_s) (one (read_place_s x q))) (λ l1 le1 v qv. bind_a (expr_a l1 operand g) (λ l2 le2 w qw.
      bind_a (then_a (one tick_s) (one (updated_s operator v w (value_later l1 l2 le2 v qv) qw))) (λ l3 le3 r qr. one (store_in_s x r (place_later l l3 (omega (arith, le1, le2, le3)) x q) qr)))))

-- ---- each by itself

module _ (calls : Calls) (cs : CallsSafe calls) where
  pub expr_s : (k : ℕ) (e : Expression) → ExpressionSound e → Safe k IsValue (expr calls e)
  expr_s k e h = (expr_a 0 calls calls (one_calls calls cs) k e h).safe
