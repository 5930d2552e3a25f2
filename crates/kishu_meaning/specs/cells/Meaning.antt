-- What a cell means: one line a form of the language (Python Language Reference 3, "Expressions", "Simple statements" and "Compound statements").
use Rattle.std.specs.Prelude.{ℕ, zero, suc, ◌-◌, Bool, true, false, not, if◌then◌else◌, List, [], ◌∷◌, ◌++◌, codes, decimal, Option, Some, None, Ok, Err, Result}
use Rattle.std.specs.Bool.{beq}
use Rattle.std.specs.Str.{chars, encode_utf8_all}
use Rattle.kishu_language.specs.declared.profile.Profile.{Profile}
use Rattle.kishu_meaning.specs.declared.result.Outcome.{Outcome}
use Rattle.kishu_meaning.specs.declared.result.Outcome.TheVariants.{Done, Raised, Stopped}
use Rattle.kishu_language.specs.declared.tree.Operator.{Operator}
use Rattle.kishu_language.specs.declared.tree.Operator.TheVariants as operators
use Rattle.kishu_language.specs.trees.Tree.{Text, Expression, Expressions, Operands, Links, Pairs, Trailers, Trailer, Bound, Arguments, Parameter, Statement, Statements, Arms, Handlers, Definition}
use Rattle.kishu_language.specs.trees.Tree.{no_expressions, more_expressions, no_operands, more_operands, no_links, more_links, no_pairs, more_pairs, no_trailers, more_trailers, absent, bound, no_arguments, more_arguments, no_statements, more_statements, no_arms, more_arms, no_handlers, more_handlers}
use Rattle.kishu_language.specs.trees.Tree as t
use Rattle.kishu_language.specs.reading.ReadText.{read_chars}
use Rattle.kishu_meaning.specs.values.Keys.{Key, is_one}
use Rattle.kishu_meaning.specs.values.Classes.{assertion_error_class, namespace_class, syntax_error_class}
use Rattle.kishu_meaning.specs.values.Values.{Value, none, bool, integer, text, builtin, class, node, Node, dict, function, Names, State, Output, stream, shown, fault, Ran}
use Rattle.kishu_meaning.specs.values.Nodes.{with_entry}
use Rattle.kishu_meaning.specs.moments.Moment.{Moment, Thrown, fresh, Ends, fine, raised, stopped, M, ◌>>=◌, ◌>>◌, give, throw, raise, raise_with, tick, most_steps, most_depth, recursion_error, deeper, read, assign, delete, make, node_now}
use Rattle.kishu_meaning.specs.calls.Operators.{truth, operate, signed_value, list_from, new_list, new_tuple, bad_arguments}
use Rattle.kishu_meaning.specs.comparing.Comparing.{compare}
use Rattle.kishu_meaning.specs.comparing.Show.{class_name}
use Rattle.kishu_meaning.specs.items.KeyOf.{key_of_value}
use Rattle.kishu_meaning.specs.items.Sequences.{extended}
use Rattle.kishu_meaning.specs.calls.Methods.{call_method}
use Rattle.kishu_meaning.specs.comparing.Show.{repr_of, show_thrown}
use Rattle.kishu_meaning.specs.items.Subscripts.{item, slice, attribute, store_item, store_attribute, delete_item, delete_attribute}
use Rattle.kishu_meaning.specs.items.Walks.{Walk, walk_of, walk_view, unpacked}
use Rattle.kishu_meaning.specs.calls.Callees.{Given, nothing_given, and_plain, and_named, by_plain, call_builtin, construct, not_callable, Part, whole, dotted, viewed, settled, Callee, method, view, callee}
use Rattle.kishu_meaning.specs.calls.Callees as c
use Rattle.kishu_meaning.specs.calls.Functions.{or_class_name, own_names, bound_values, function_in, in_frame}
use Rattle.kishu_meaning.specs.cells.Ways.{Flow, onward, broke, continued, returned, go_on, repeat, walk_along, kind_of_thrown, throw_value, throw_again, attempt, finally, is_caught, handle}

-- What calls of functions do: from a function's release, its code and its defaults, and the arguments.
abbrev pub Calls : Type 0
Calls = Profile → List ℕ → List Value → Given → M Value

-- A primary's nodes, the outermost first, take their steps before its atom.
abbrev pub nodes : Trailers → M (Unit {0})
nodes no_trailers = give tt
nodes (more_trailers first ts) = tick >> nodes ts

-- those of a place's container: what is done with it last has no node
abbrev pub nodes_before_last : Trailers → M (Unit {0})
nodes_before_last no_trailers = give tt
nodes_before_last (more_trailers first ts) = nodes ts

-- A later value under a key takes the place of an earlier one.
abbrev pub with_pairs : List (Value × Value) → List (Key × Value) → M (List (Key × Value))
with_pairs [] es = give es
with_pairs (p ∷ ps) es = key_of_value p.0 >>= λ k. with_pairs ps (with_entry is_one k p.1 es)

abbrev pub new_dict : List (Value × Value) → M Value
new_dict ps = with_pairs ps [] >>= λ es. make (dict es)

-- a place: a name, an attribute of a value, or an item of one
pub data Place : Type 0 where
  named : Text → Place
  attribute_of : Value → Text → Place
  item_of : Value → Value → Place

abbrev pub read_place : Place → M Value
read_place (named x) = read x
read_place (attribute_of v x) = attribute v x
read_place (item_of v i) = item v i

abbrev pub store_in : Place → Value → M (Unit {0})
store_in (named x) w = assign x w
store_in (attribute_of v x) w = store_attribute v x w
store_in (item_of v i) w = store_item v i w

abbrev pub delete_place : Place → M (Unit {0})
delete_place (named x) = delete x
delete_place (attribute_of v x) = delete_attribute v x
delete_place (item_of v i) = delete_item v i

-- what the tree of no text has there
abbrev pub no_place : {A : Type 0} → M A
no_place = raise syntax_error_class (codes "invalid syntax")

-- `+=` extends a list in place.
abbrev pub add_to : Value → Value → Option (List Value) → M Value
add_to (node n) w (Some vs) = extended n w >> give (node n)
add_to v w _ = operate operators.Add v w

abbrev pub updated : Operator → Value → Value → M Value
updated operators.Add v w = node_now v >>= λ found. add_to v w (list_from found)
updated operator v w = operate operator v w

abbrev pub new_function : List ℕ → List Value → M Value
new_function code vs = λ s. make (function s.profile code vs) s

-- A block lies one level deeper, and one that is absent does nothing.
abbrev pub in_block : Statements → M Flow → M Flow
in_block no_statements m = give onward
in_block (more_statements s ss) m = deeper m

abbrev pub count : Expressions → ℕ
count no_expressions = 0
count (more_expressions e es) = suc (count es)

module _ (calls : Calls) where
  -- ---- calls

  abbrev pub call_node : Value → Option Node → Given → M Value
  call_node v (Some (function profile code defaults)) given = calls profile code defaults given
  call_node v _ given = not_callable v

  abbrev pub call_value : Value → Given → M Value
  call_value (builtin n) given = call_builtin n given
  call_value (class n) given = construct n given
  call_value (node i) given = node_now (node i) >>= λ found. call_node (node i) found given
  call_value v given = not_callable v

  abbrev pub apply : Callee → Given → M Part
  apply (c.function f) given = call_value f given >>= λ v. give (whole v)
  apply (method v x) given = by_plain x given.named (call_method v x given.plain) >>= λ w. give (whole w)
  apply (view n found) given = give (viewed n found)

  -- ---- expressions

  abbrev mutual
    pub expr : Expression → M Value
    expr (t.name x) = tick >> read x
    expr (t.integer z) = tick >> give (integer z)
    expr (t.text x) = tick >> give (text (chars x))
    expr t.none = tick >> give none
    expr t.true = tick >> give (bool true)
    expr t.false = tick >> give (bool false)
    expr (t.paren e) = deeper (expr e)
    expr (t.tuple es) = tick >> values es >>= new_tuple
    expr (t.list es) = tick >> inner_values es >>= new_list
    expr (t.dict ps) = tick >> pairs ps >>= new_dict
    expr (t.conditional value test other) = tick >> expr test >>= truth >>= λ b. if b then expr value else deeper (expr other)
    expr (t.or es) = tick >> first_that true es
    expr (t.and es) = tick >> first_that false es
    expr (t.not e) = deeper (expr e) >>= λ v. tick >> truth v >>= λ b. give (bool (not b))
    expr (t.signed sign e) = deeper (expr e) >>= λ v. tick >> signed_value sign v
    expr (t.power base exponent) = expr base >>= λ a. deeper (expr exponent) >>= λ b. tick >> operate operators.Power a b
    expr (t.sum e os) = expr e >>= λ v. operands v os
    expr (t.product e os) = expr e >>= λ v. operands v os
    expr (t.compared e ls) = expr e >>= λ v. links v ls
    expr (t.primary e ts) = nodes ts >> part e (expr e) >>= λ p. trailers p ts >>= settled

    -- A primary, in parentheses too, may be what a call or a walk asks for, and all else is its value, which is given.
    pub part : Expression → M Value → M Part
    part (t.paren e) value = deeper (part e (expr e))
    part (t.primary e ts) value = nodes ts >> part e (expr e) >>= λ p. trailers p ts
    part _ value = value >>= λ v. give (whole v)

    pub trailers : Part → Trailers → M Part
    trailers p no_trailers = give p
    trailers p (more_trailers first ts) = trailer p first >>= λ q. trailers q ts

    -- A callee, or a method, is found before the arguments are evaluated.
    pub trailer : Part → Trailer → M Part
    trailer p (t.attribute x) = settled p >>= λ v. give (dotted v x)
    trailer p (t.call es) = callee p es >>= λ f. arguments es >>= λ given. apply f given
    trailer p (t.index e) = settled p >>= λ v. deeper (expr e) >>= λ i. item v i >>= λ w. give (whole w)
    trailer p (t.slice start stop step) = settled p >>= λ v. bound_value start >>= λ a. bound_value stop >>= λ b. bound_value step >>= λ c. slice v a b c >>= λ w. give (whole w)

    -- An absent bound is None.
    pub bound_value : Bound → M Value
    bound_value absent = give none
    bound_value (bound e) = deeper (expr e)

    pub arguments : Arguments → M Given
    arguments no_arguments = give nothing_given
    arguments (more_arguments (t.plain e) es) = deeper (expr e) >>= λ v. arguments es >>= λ given. give (and_plain v given)
    arguments (more_arguments (t.keyword x e) es) = deeper (expr e) >>= λ v. arguments es >>= λ given. give (and_named x v given)

    pub values : Expressions → M (List Value)
    values no_expressions = give []
    values (more_expressions e es) = expr e >>= λ v. values es >>= λ vs. give (v ∷ vs)

    -- in brackets
    pub inner_values : Expressions → M (List Value)
    inner_values no_expressions = give []
    inner_values (more_expressions e es) = deeper (expr e) >>= λ v. inner_values es >>= λ vs. give (v ∷ vs)

    pub pairs : Pairs → M (List (Value × Value))
    pairs no_pairs = give []
    pairs (more_pairs key e ps) = deeper (expr key) >>= λ k. deeper (expr e) >>= λ v. pairs ps >>= λ es. give ((k, v) ∷ es)

    -- the operand that decides: the first of this truth, or the last
    pub first_that : Bool → Expressions → M Value
    first_that which no_expressions = give none
    first_that which (more_expressions e no_expressions) = expr e
    first_that which (more_expressions e (more_expressions f es)) = expr e >>= λ v. truth v >>= λ b. if beq b which then give v else first_that which (more_expressions f es)

    -- each operator on what stands before it
    pub operands : Value → Operands → M Value
    operands v no_operands = give v
    operands v (more_operands operator e os) = expr e >>= λ w. tick >> operate operator v w >>= λ x. operands x os

    -- each operand once, up to the first comparison that is false
    pub links : Value → Links → M Value
    links v no_links = give v
    links v (more_links comparison e no_links) = expr e >>= λ w. tick >> compare comparison v w >>= λ b. give (bool b)
    links v (more_links comparison e (more_links next f ls)) = expr e >>= λ w. tick >> compare comparison v w >>= λ b. if b then links w (more_links next f ls) else give (bool false)

  -- ---- places and targets

  -- what is done with a container last
  abbrev pub place_by : Value → Trailer → M Place
  place_by v (t.attribute x) = give (attribute_of v x)
  place_by v (t.index e) = deeper (expr e) >>= λ i. give (item_of v i)
  place_by v (t.call es) = no_place
  place_by v (t.slice start stop step) = no_place

  abbrev pub place_after : Part → Trailers → M Place
  place_after p no_trailers = no_place
  place_after p (more_trailers last no_trailers) = settled p >>= λ v. place_by v last
  place_after p (more_trailers first (more_trailers next ts)) = trailer p first >>= λ q. place_after q (more_trailers next ts)

  -- The container is evaluated, and then the index.
  abbrev pub place : Expression → M Place
  place (t.name x) = give (named x)
  place (t.primary e ts) = nodes_before_last ts >> part e (expr e) >>= λ p. place_after p ts
  place _ = no_place

  abbrev mutual
    -- A pattern takes the items first.
    pub store : Expression → Value → M (Unit {0})
    store (t.paren e) v = deeper (store e v)
    store (t.tuple es) v = unpacked (count es) v >>= store_each es
    store (t.list es) v = deeper (unpacked (count es) v >>= store_each es)
    store (t.name x) v = place (t.name x) >>= λ p. store_in p v
    store (t.primary e ts) v = place (t.primary e ts) >>= λ p. store_in p v
    store _ v = no_place

    pub store_each : Expressions → List Value → M (Unit {0})
    store_each (more_expressions e es) (v ∷ vs) = store e v >> store_each es vs
    store_each _ _ = give tt

  abbrev pub store_all : List Expression → Value → M (Unit {0})
  store_all [] v = give tt
  store_all (e ∷ es) v = store e v >> store_all es v

  abbrev pub delete_all : List Expression → M (Unit {0})
  delete_all [] = give tt
  delete_all (e ∷ es) = place e >>= λ p. delete_place p >> delete_all es

  -- The place is found and read, the operand evaluated, and the result stored.
  abbrev pub update : Expression → Operator → Expression → M (Unit {0})
  update e operator operand = place e >>= λ p. tick >> read_place p >>= λ v. expr operand >>= λ w. tick >> updated operator v w >>= λ r. store_in p r

  -- ---- statements

  abbrev pub returned_by : Option Expression → M Flow
  returned_by None = give (returned none)
  returned_by (Some e) = expr e >>= λ v. give (returned v)

  abbrev pub raise_by : Option Expression → M Flow
  raise_by None = throw_again
  raise_by (Some e) = expr e >>= throw_value

  abbrev pub failed : Option Expression → M Flow
  failed None = throw (fresh assertion_error_class [])
  failed (Some e) = expr e >>= raise_with assertion_error_class

  -- what is walked: a sequence, or a view of a dict
  abbrev pub walked_by : Part → M Walk
  walked_by (viewed n found) = walk_view n found
  walked_by (whole v) = walk_of v
  walked_by (dotted v x) = attribute v x >>= walk_of

  -- the defaults of parameters, in parentheses
  abbrev pub defaults : List Parameter → M (List Value)
  defaults [] = give []
  defaults ((x, None) ∷ ps) = defaults ps
  defaults ((x, Some e) ∷ ps) = deeper (expr e) >>= λ v. defaults ps >>= λ vs. give (v ∷ vs)

  -- a handler without a class is for each exception
  abbrev pub is_for : Option Expression → Thrown → M Bool
  is_for None x = give true
  is_for (Some e) x = expr e >>= is_caught x

  abbrev mutual
    pub act : Statement → M Flow
    act t.pass = give onward
    act t.break = give broke
    act t.continue = give continued
    act (t.return e) = returned_by e
    act (t.raise e) = raise_by e
    act (t.assert e message) = expr e >>= λ v. truth v >>= λ b. if b then give onward else failed message
    act (t.delete es) = delete_all es >> give onward
    act (t.global xs) = give onward
    act (t.import x) = assign (or_class_name x) (class namespace_class) >> give onward
    act (t.update e operator operand) = update e operator operand >> give onward
    act (t.assign es e) = expr e >>= λ v. store_all es v >> give onward
    act (t.choose as' other) = arms as' (in_block other (acts other))
    act (t.while e body) = repeat (expr e) (in_block body (acts body))
    act (t.for e walked body) = part walked (expr walked) >>= walked_by >>= λ walk. walk_along walk (λ v. store e v >> in_block body (acts body))
    act (t.try body hs other last) = finally (attempt (in_block body (acts body)) (handlers hs) (in_block other (acts other))) (in_block last (acts last))
    act (t.finally body last) = finally (in_block body (acts body)) (in_block last (acts last))
    act (t.define x ps body code) = defaults ps >>= λ vs. new_function code vs >>= assign x >> give onward

    pub arms : Arms → M Flow → M Flow
    arms no_arms other = other
    arms (more_arms e body as') other = expr e >>= λ v. truth v >>= λ b. if b then in_block body (acts body) else arms as' other

    -- The handlers are tried in order.
    pub handlers : Handlers → Thrown → M Flow
    handlers no_handlers x = throw x
    handlers (more_handlers kind caught body hs) x = is_for kind x >>= λ b. if b then handle caught (in_block body (acts body)) x else handlers hs x

    pub acts : Statements → M Flow
    acts no_statements = give onward
    acts (more_statements s ss) = tick >> act s >>= λ f. go_on f (acts ss)

-- ---- a function's body

-- A body that isn't left by `return` gives None.
abbrev pub result_of : Flow → Value
result_of (returned v) = v
result_of _ = none

-- One level for the call, and one for the body's block.
abbrev pub enter : Calls → Definition → Option Names → M Value
enter calls d (Some values) = deeper (in_frame (record { own = own_names d; values = values }) (in_block d.body (acts calls d.body))) >>= λ f. give (result_of f)
enter calls d None = bad_arguments d.title

abbrev pub enter_code : Calls → List Value → Given → Option Definition → M Value
enter_code calls vs given (Some d) = enter calls d (bound_values d vs given)
enter_code calls vs given None = no_place

-- calls within at most so many calls
unfoldable pub call : ℕ → Calls
call zero profile code vs given = recursion_error
call (suc n) profile code vs given = enter_code (call n) vs given (function_in (read_chars profile (chars code)))

-- A call is one level deeper, so there are no more calls in one another than levels.
abbrev pub all_calls : Calls
all_calls = call (suc most_depth)

-- ---- a cell

abbrev pub shown_text : Value → M (Option (List ℕ))
shown_text none = give None
shown_text v = repr_of v >>= λ cs. give (Some cs)

-- An expression shows its value.
abbrev pub last_act : Statement → M (Option (List ℕ))
last_act (t.assign [] e) = expr all_calls e >>= shown_text
last_act s = act all_calls s >> give None

-- the statements of a cell, and the text that the last one shows
abbrev pub cell : List Statement → M (Option (List ℕ))
cell [] = give None
cell (s ∷ []) = tick >> last_act s
cell (s ∷ r ∷ ss) = tick >> act all_calls s >> cell (r ∷ ss)

abbrev pub begun : Profile → State → Moment
begun profile state = record {
  profile = profile;
  names = state.names;
  nodes = state.nodes;
  accessed = [];
  locals = None;
  handled = None;
  left = most_steps;
  depth = 0;
  out = [];
}

-- what was printed is one output, where it is anything
abbrev pub printed : List ℕ → List Output
printed [] = []
printed (c ∷ cs) = stream (encode_utf8_all (c ∷ cs)) ∷ []

abbrev pub ended : Outcome → List Output → Moment → Ran
ended outcome outputs s = record {
  state = record { names = s.names; nodes = s.nodes };
  report = record { outcome = outcome; outputs = printed s.out ++ outputs };
  accessed = s.accessed;
  charge = most_steps - s.left;
}

abbrev pub shown_output : Option (List ℕ) → List Output
shown_output None = []
shown_output (Some cs) = shown (encode_utf8_all cs) ∷ []

abbrev pub spent : Moment → Ran
spent s = ended Stopped (fault (codes "Stopped") (codes "step budget spent") ∷ []) s

abbrev pub fault_output : List Node → Thrown → List ℕ → Output
fault_output ns x cs = fault (class_name (kind_of_thrown ns x)) (encode_utf8_all cs)

-- The exception's text is made last; where that raises, it is empty.
abbrev pub uncaught : Thrown → Ends (List ℕ) → Ran
uncaught x (fine cs s) = ended Raised (fault_output s.nodes x cs ∷ []) s
uncaught x (raised y s) = ended Raised (fault_output s.nodes x [] ∷ []) s
uncaught x (stopped s) = spent s

abbrev pub finished : Ends (Option (List ℕ)) → Ran
finished (fine o s) = ended Done (shown_output o) s
finished (raised x s) = uncaught x (show_thrown x s)
finished (stopped s) = spent s

-- A text without a tree runs nothing.
abbrev pub unread : ℕ → State → Ran
unread line state = record {
  state = state;
  report = record { outcome = Raised; outputs = fault (codes "SyntaxError") (codes "invalid syntax, line " ++ decimal line) ∷ [] };
  accessed = [];
  charge = 0;
}

abbrev pub run_tree : Profile → Result (List Statement) ℕ → State → Ran
run_tree profile (Ok tree) state = finished (cell tree (begun profile state))
run_tree profile (Err line) state = unread line state

-- what a cell's run gives
unfoldable pub run : Profile → List ℕ → State → Ran
run profile source state = run_tree profile (read_chars profile (chars source)) state
