-- The function at a node: its tree fits, and a call of the node is one of it.
use Rattle.kishu_language.specs.Limits.{height_limit}
use Rattle.std.proofs.Common.{sym, subst, ℕ, ◌<◌, ◌≤◌, not, IsTrue, List, [], ◌∷◌, length, map, Option, Some, None, Result, Ok, Err}
use Rattle.std.proofs.Math.Bool.{Bool-set}
use Rattle.std.proofs.Math.Logic.{∥∥₁_elim, ∥∥₁_prop}
use Rattle.std.proofs.Props.{props}
use Rattle.std.specs.Coded.{×_prop, Π_prop, Unit-prop, le_prop}
use Rattle.std.specs.Str.{IsUtf8}
use Rattle.kishu_language.specs.declared.profile.Profile.{Profile}
use Rattle.kishu_meaning.specs.calls.Callees.{Given, not_callable}
use Rattle.kishu_language.specs.trees.Fits.{ExpressionFits, ExpressionsFit, OperandsFit, LinksFit, PairsFit, TrailersFit, TrailerFits, BoundFits, ArgumentsFit, ArgumentFits, OptionalFits, ListFits, TitleFits, ParametersFit, CodeFits, StatementFits, StatementsFit, ArmsFit, HandlersFit, FunctionFits, IsCodeOf}
use Rattle.kishu_language.specs.reading.ReadText.{ReadsDef}
use Rattle.kishu_language.specs.trees.Height.{of_statements}
use Rattle.kishu_meaning.specs.values.Keys.{KeyPart, Key}
use Rattle.kishu_meaning.specs.cells.Meaning.{call, call_node}
use Rattle.kishu_meaning.specs.moments.Moment.{Moment, Thrown, Ends, M}
use Rattle.kishu_language.specs.tokens.Names.{is_name}
use Rattle.kishu_language.specs.trees.Tree.{Text, Expression, Expressions, Operands, Links, Pairs, Trailers, Trailer, Bound, Arguments, Argument, Parameter, Statement, Statements, Arms, Handlers, Definition, definition_of}
use Rattle.kishu_language.specs.trees.Tree as t
use Rattle.kishu_meaning.specs.values.Values.{Value, node, Node, list, tuple, dict, object, function, exception, value_of}
use Rattle.kishu_calls.specs.Calls.{IsFunction}
use Rattle.kishu_calls.specs.Forms.{is_function}
use Rattle.kishu_calls.specs.declared.functions.Function as rust_function
use Rattle.kishu_machine.specs.declared.fault.Fault.{Fault}
use Rattle.kishu_machine.specs.declared.fault.Fault.TheVariants as faults
use Rattle.kishu_machine.specs.Machine.{Gives}
use Rattle.kishu_statements.specs.Forms.{called}
use Rattle.kishu_statements.proofs.Calling.{call_is}

-- ---- of what there is one proof at most

part_set : IsSet KeyPart
part_set = hlevel props

key_set : IsSet Key
key_set = hlevel (part_set, props)

value_set : IsSet Value
value_set = hlevel props

profile_set : IsSet Profile
profile_set = hlevel props

node_set : IsSet Node
node_set = hlevel (key_set, value_set, profile_set, props)

moment_set : IsSet Moment
moment_set = hlevel (node_set, value_set, profile_set, props)

thrown_set : IsSet Thrown
thrown_set = hlevel (value_set, props)

ends_set : IsSet (Ends Value)
ends_set = hlevel (moment_set, thrown_set, value_set, props)

pub gives_prop : {X : Type 0} (view : X → Value) (r : Result X Fault) (s : Moment) (e : Ends Value) → IsProp (Gives view r s e)
gives_prop view (Ok x) s e = ends_set _ _
gives_prop view (Err (faults.Raised x)) s e = ends_set _ _
gives_prop view (Err faults.Stopped) s e = ends_set _ _
gives_prop view (Err faults.NoMemory) s e = Unit-prop

module _ {A B C : Type 0} (h : IsProp A) (k : IsProp B) (l : IsProp C) where
  three_prop : IsProp (A × B × C)
  three_prop u v = λ i. (h u.0 v.0 i, k u.1 v.1 i, l u.2 v.2 i)

  four_prop : {D : Type 0} → IsProp D → IsProp (A × B × C × D)
  four_prop m u v = λ i. (h u.0 v.0 i, k u.1 v.1 i, l u.2 v.2 i, m u.3 v.3 i)

mutual
  expression_prop : (e : Expression) → IsProp (ExpressionFits e)
  expression_prop (t.name x) = Bool-set _ _
  expression_prop (t.integer z) = Unit-prop
  expression_prop (t.text x) = Unit-prop
  expression_prop t.none = Unit-prop
  expression_prop t.true = Unit-prop
  expression_prop t.false = Unit-prop
  expression_prop (t.tuple es) = expressions_prop es
  expression_prop (t.conditional e test other) = three_prop (expression_prop e) (expression_prop test) (expression_prop other)
  expression_prop (t.or es) = expressions_prop es
  expression_prop (t.and es) = expressions_prop es
  expression_prop (t.not e) = expression_prop e
  expression_prop (t.compared e ls) = ×_prop (expression_prop e) (links_prop ls)
  expression_prop (t.sum e os) = ×_prop (expression_prop e) (operands_prop os)
  expression_prop (t.product e os) = ×_prop (expression_prop e) (operands_prop os)
  expression_prop (t.signed sign e) = expression_prop e
  expression_prop (t.power base exponent) = ×_prop (expression_prop base) (expression_prop exponent)
  expression_prop (t.primary e ts) = ×_prop (expression_prop e) (trailers_prop ts)
  expression_prop (t.paren e) = expression_prop e
  expression_prop (t.list es) = expressions_prop es
  expression_prop (t.dict ps) = pairs_prop ps

  expressions_prop : (es : Expressions) → IsProp (ExpressionsFit es)
  expressions_prop t.no_expressions = Unit-prop
  expressions_prop (t.more_expressions e es) = ×_prop (expression_prop e) (expressions_prop es)

  operands_prop : (os : Operands) → IsProp (OperandsFit os)
  operands_prop t.no_operands = Unit-prop
  operands_prop (t.more_operands operator e os) = ×_prop (expression_prop e) (operands_prop os)

  links_prop : (ls : Links) → IsProp (LinksFit ls)
  links_prop t.no_links = Unit-prop
  links_prop (t.more_links comparison e ls) = ×_prop (expression_prop e) (links_prop ls)

  pairs_prop : (ps : Pairs) → IsProp (PairsFit ps)
  pairs_prop t.no_pairs = Unit-prop
  pairs_prop (t.more_pairs key e ps) = three_prop (expression_prop key) (expression_prop e) (pairs_prop ps)

  trailers_prop : (ts : Trailers) → IsProp (TrailersFit ts)
  trailers_prop t.no_trailers = Unit-prop
  trailers_prop (t.more_trailers first ts) = ×_prop (trailer_prop first) (trailers_prop ts)

  trailer_prop : (tr : Trailer) → IsProp (TrailerFits tr)
  trailer_prop (t.attribute x) = Bool-set _ _
  trailer_prop (t.call found) = ×_prop (arguments_prop found) (Bool-set _ _)
  trailer_prop (t.index e) = expression_prop e
  trailer_prop (t.slice start stop step) = three_prop (bound_prop start) (bound_prop stop) (bound_prop step)

  bound_prop : (b : Bound) → IsProp (BoundFits b)
  bound_prop t.absent = Unit-prop
  bound_prop (t.bound e) = expression_prop e

  arguments_prop : (as' : Arguments) → IsProp (ArgumentsFit as')
  arguments_prop t.no_arguments = Unit-prop
  arguments_prop (t.more_arguments first found) = ×_prop (argument_prop first) (arguments_prop found)

  argument_prop : (a : Argument) → IsProp (ArgumentFits a)
  argument_prop (t.plain e) = expression_prop e
  argument_prop (t.keyword x e) = ×_prop (Bool-set _ _) (expression_prop e)

optional_prop : (e : Option Expression) → IsProp (OptionalFits e)
optional_prop None = Unit-prop
optional_prop (Some e) = expression_prop e

list_prop : (es : List Expression) → IsProp (ListFits es)
list_prop [] = Unit-prop
list_prop (e ∷ es) = ×_prop (expression_prop e) (list_prop es)

title_prop : (x : Option Text) → IsProp (TitleFits x)
title_prop None = Unit-prop
title_prop (Some x) = Bool-set _ _

parameters_prop : (ps : List Parameter) → IsProp (ParametersFit ps)
parameters_prop [] = Unit-prop
parameters_prop (p ∷ ps) = three_prop (Bool-set _ _) (optional_prop p.1) (parameters_prop ps)

code_prop : (code : Text) (d : Definition) → IsProp (CodeFits code d)
code_prop code d = ×_prop le_prop (Π_prop (λ _. ∥∥₁_prop))

mutual
  statement_prop : (s : Statement) → IsProp (StatementFits s)
  statement_prop t.pass = Unit-prop
  statement_prop t.break = Unit-prop
  statement_prop t.continue = Unit-prop
  statement_prop (t.return e) = optional_prop e
  statement_prop (t.raise e) = optional_prop e
  statement_prop (t.assert e message) = ×_prop (expression_prop e) (optional_prop message)
  statement_prop (t.delete es) = list_prop es
  statement_prop (t.global xs) = Unit-prop
  statement_prop (t.import x) = title_prop x
  statement_prop (t.update e operator operand) = ×_prop (expression_prop e) (expression_prop operand)
  statement_prop (t.assign es e) = three_prop (list_prop es) (expression_prop e) (Bool-set _ _)
  statement_prop (t.choose as' other) = ×_prop (arms_prop as') (statements_prop other)
  statement_prop (t.while e body) = ×_prop (expression_prop e) (statements_prop body)
  statement_prop (t.for e walked body) = four_prop (expression_prop e) (expression_prop walked) (statements_prop body) (Bool-set _ _)
  statement_prop (t.try body hs other last) = four_prop (statements_prop body) (handlers_prop hs) (statements_prop other) (statements_prop last)
  statement_prop (t.finally body last) = ×_prop (statements_prop body) (statements_prop last)
  statement_prop (t.define x ps body code) = four_prop (Bool-set _ _) (parameters_prop ps) (statements_prop body) (code_prop code _)

  statements_prop : (ss : Statements) → IsProp (StatementsFit ss)
  statements_prop t.no_statements = Unit-prop
  statements_prop (t.more_statements first ss) = ×_prop (statement_prop first) (statements_prop ss)

  arms_prop : (as' : Arms) → IsProp (ArmsFit as')
  arms_prop t.no_arms = Unit-prop
  arms_prop (t.more_arms e body as') = three_prop (expression_prop e) (statements_prop body) (arms_prop as')

  handlers_prop : (hs : Handlers) → IsProp (HandlersFit hs)
  handlers_prop t.no_handlers = Unit-prop
  handlers_prop (t.more_handlers class caught body hs) = four_prop (optional_prop class) (title_prop caught) (statements_prop body) (handlers_prop hs)

-- ---- the function at a node

-- It fits, its title is a name, and its body is low.
abbrev pub FunctionHolds : Definition → Type 0
FunctionHolds d = FunctionFits d × IsTrue (is_name d.title) × (of_statements d.body < height_limit)

function_prop : (d : Definition) → IsProp (FunctionHolds d)
function_prop d = three_prop (×_prop (parameters_prop d.parameters) (statements_prop d.body)) (Bool-set _ _) le_prop

code_holds : (profile : Profile) (code : Text) (d : Definition) → IsCodeOf profile code d → FunctionHolds d
code_holds profile code d h = (h.fits, h.name, h.low)

pub function_holds : (o : Option Node) (f : rust_function.Function) → IsFunction o f → FunctionHolds (definition_of f.def.value)
function_holds (Some (function profile code vs)) f h = ∥∥₁_elim h.0 (function_prop (definition_of f.def.value)) (λ p. code_holds profile code (definition_of f.def.value) p)
function_holds (Some (list vs)) f h = absurd h
function_holds (Some (tuple vs)) f h = absurd h
function_holds (Some (dict es)) f h = absurd h
function_holds (Some (object as')) f h = absurd h
function_holds (Some (exception kind vs)) f h = absurd h
function_holds None f h = absurd h

module _ {X : Type 0} (view : X → Value) (r : Result X Fault) (room n : ℕ) (given : Given) (s u : Moment) where
  pub called_node : (o : Option Node) (f : rust_function.Function) → IsFunction o f → Gives view r u (called room (definition_of f.def.value) (map value_of f.defaults.items) given s) → Gives view r u (call_node (call room) (node n) o given s)
  called_node (Some (function profile code vs)) f h k =
      ∥∥₁_elim h.0 (gives_prop view r u _) (λ p. subst (λ (m : M Value). Gives view r u (m s)) (sym (call_is room profile code (definition_of f.def.value) vs given p.reads))
      (subst (λ (ws : List Value). Gives view r u (called room (definition_of f.def.value) ws given s)) (sym h.3) k))
  called_node (Some (list vs)) f h k = absurd h
  called_node (Some (tuple vs)) f h k = absurd h
  called_node (Some (dict es)) f h k = absurd h
  called_node (Some (object as')) f h k = absurd h
  called_node (Some (exception kind vs)) f h k = absurd h
  called_node None f h k = absurd h

-- ---- the code of a function that is made

pub defined_code : (profile : Profile) (code : Text) (d : Definition) → IsTrue (is_name d.title) → ParametersFit d.parameters → StatementsFit d.body → of_statements d.body < height_limit
    → ∥ ReadsDef profile code d ∥₁ → ∥ IsCodeOf profile code d ∥₁
defined_code profile code d name parameters body low h = ∥∥₁_elim h ∥∥₁_prop (λ p. ∣ record { reads = p; name = name; fits = (parameters, body); low = low } ∣₁)
