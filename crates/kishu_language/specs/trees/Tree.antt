-- The tree of a cell: expressions and statements (Python Language Reference 3, "Full Grammar specification"). Each repetition of the grammar is a list in it.
use Rattle.std.specs.Prelude.{ℕ, ℤ, List, [], ◌∷◌, map, codes, Option, Some, None}
use Rattle.std.specs.Rc.{rc_str_bytes}
use Rattle.std.specs.declared.alloc.Global.{Global}
use Rattle.std.specs.declared.rc.RcStr.{RcStr}
use Rattle.kishu_language.specs.declared.tree.Operator.{Operator}
use Rattle.kishu_language.specs.declared.tree.Sign.{Sign}
use Rattle.kishu_language.specs.declared.tree.Comparison.{Comparison}
use Rattle.kishu_language.specs.declared.tree.Argument.TheOpen.{Argument-F, Expr-F, Link-F, Operand-F, Pair-F, Trailer-F}
use Rattle.kishu_language.specs.declared.tree.Argument.TheFolds.{fold-Expr}
use Rattle.kishu_language.specs.declared.tree.Expr.{Expr}
use Rattle.kishu_language.specs.declared.tree.Stmt.TheOpen.{Arm-F, Def-F, Handler-F, Stmt-F}
use Rattle.kishu_language.specs.declared.tree.Stmt.TheFolds.{fold-Stmt, fold-Def}
use Rattle.kishu_language.specs.declared.tree.Stmt.{Stmt}
use Rattle.kishu_language.specs.declared.tree.Def.{Def}
use Rattle.kishu_language.specs.declared.tree.Program.{Program}

-- the bytes of a name or a text in UTF-8
abbrev pub Text : Type 0
Text = List ℕ

-- the one class that can be imported
abbrev pub simple_namespace : Text
simple_namespace = codes "SimpleNamespace"

mutual
  pub data Expression : Type 0 where
    -- with a comma, or `()`
    tuple : Expressions → Expression
    -- the value, the test, and the other value
    conditional : Expression → Expression → Expression → Expression
    or : Expressions → Expression
    and : Expressions → Expression
    not : Expression → Expression
    compared : Expression → Links → Expression
    sum : Expression → Operands → Expression
    product : Expression → Operands → Expression
    signed : Sign → Expression → Expression
    power : Expression → Expression → Expression
    -- an atom, and what is done with it from left to right
    primary : Expression → Trailers → Expression
    name : Text → Expression
    integer : ℤ → Expression
    text : Text → Expression
    none : Expression
    true : Expression
    false : Expression
    -- in parentheses
    paren : Expression → Expression
    list : Expressions → Expression
    dict : Pairs → Expression

  pub data Expressions : Type 0 where
    no_expressions : Expressions
    more_expressions : Expression → Expressions → Expressions

  -- operators with their right operands
  pub data Operands : Type 0 where
    no_operands : Operands
    more_operands : Operator → Expression → Operands → Operands

  -- comparisons with their right operands
  pub data Links : Type 0 where
    no_links : Links
    more_links : Comparison → Expression → Links → Links

  pub data Pairs : Type 0 where
    no_pairs : Pairs
    more_pairs : Expression → Expression → Pairs → Pairs

  pub data Trailers : Type 0 where
    no_trailers : Trailers
    more_trailers : Trailer → Trailers → Trailers

  pub data Trailer : Type 0 where
    attribute : Text → Trailer
    call : Arguments → Trailer
    index : Expression → Trailer
    slice : Bound → Bound → Bound → Trailer

  pub data Bound : Type 0 where
    absent : Bound
    bound : Expression → Bound

  pub data Arguments : Type 0 where
    no_arguments : Arguments
    more_arguments : Argument → Arguments → Arguments

  pub data Argument : Type 0 where
    plain : Expression → Argument
    keyword : Text → Expression → Argument

-- a parameter, and its default
abbrev pub Parameter : Type 0
Parameter = Text × Option Expression

mutual
  pub data Statement : Type 0 where
    pass : Statement
    break : Statement
    continue : Statement
    return : Option Expression → Statement
    raise : Option Expression → Statement
    assert : Expression → Option Expression → Statement
    -- places
    delete : List Expression → Statement
    global : List Text → Statement
    -- the class SimpleNamespace, under its own name or this one
    import : Option Text → Statement
    -- a place, the operator, and the operand
    update : Expression → Operator → Expression → Statement
    -- targets, none or more, and the value
    assign : List Expression → Expression → Statement
    -- `if` and `elif`, and what else is done
    choose : Arms → Statements → Statement
    while : Expression → Statements → Statement
    -- the targets, what is walked, and the body
    for : Expression → Expression → Statements → Statement
    -- the body, the handlers, and the blocks of `else` and `finally`
    try : Statements → Handlers → Statements → Statements → Statement
    finally : Statements → Statements → Statement
    -- the name, the parameters, the body, and the function's code
    define : Text → List Parameter → Statements → Text → Statement

  -- A block has one statement at least; none stand for a block that is absent.
  pub data Statements : Type 0 where
    no_statements : Statements
    more_statements : Statement → Statements → Statements

  -- conditions with their blocks
  pub data Arms : Type 0 where
    no_arms : Arms
    more_arms : Expression → Statements → Arms → Arms

  -- the class, the name after `as`, and the block
  pub data Handlers : Type 0 where
    no_handlers : Handlers
    more_handlers : Option Expression → Option Text → Statements → Handlers → Handlers

-- a function by itself
pub record Definition : Type 0 where
  pub title : Text
  pub parameters : List Parameter
  pub body : Statements

-- ---- from lists

abbrev pub expressions : List Expression → Expressions
expressions [] = no_expressions
expressions (e ∷ es) = more_expressions e (expressions es)

abbrev pub operands : List (Operator × Expression) → Operands
operands [] = no_operands
operands (o ∷ os) = more_operands o.0 o.1 (operands os)

abbrev pub links : List (Comparison × Expression) → Links
links [] = no_links
links (l ∷ ls) = more_links l.0 l.1 (links ls)

abbrev pub pairs : List (Expression × Expression) → Pairs
pairs [] = no_pairs
pairs (p ∷ ps) = more_pairs p.0 p.1 (pairs ps)

abbrev pub trailers : List Trailer → Trailers
trailers [] = no_trailers
trailers (t ∷ ts) = more_trailers t (trailers ts)

abbrev pub arguments : List Argument → Arguments
arguments [] = no_arguments
arguments (a ∷ as') = more_arguments a (arguments as')

abbrev pub bound_of : Option Expression → Bound
bound_of None = absent
bound_of (Some e) = bound e

abbrev pub statements : List Statement → Statements
statements [] = no_statements
statements (s ∷ ss) = more_statements s (statements ss)

abbrev pub Arm : Type 0
Arm = Expression × Statements

abbrev pub arms : List Arm → Arms
arms [] = no_arms
arms (a ∷ as') = more_arms a.0 a.1 (arms as')

pub record Handler : Type 0 where
  pub class : Option Expression
  pub caught : Option Text
  pub body : Statements

abbrev pub handlers : List Handler → Handlers
handlers [] = no_handlers
handlers (h ∷ hs) = more_handlers h.class h.caught h.body (handlers hs)

-- ---- of the code's trees

abbrev pub expression_step : Expr-F Argument Expression Trailer (Comparison × Expression) (Operator × Expression) (Expression × Expression) → Expression
expression_step (Expr-F.Tuple es) = tuple (expressions es.items)
expression_step (Expr-F.Conditional value test other) = conditional value.value test.value other.value
expression_step (Expr-F.Or es) = or (expressions es.items)
expression_step (Expr-F.And es) = and (expressions es.items)
expression_step (Expr-F.Not e) = not e.value
expression_step (Expr-F.Compared e ls) = compared e.value (links ls.items)
expression_step (Expr-F.Sum e os) = sum e.value (operands os.items)
expression_step (Expr-F.Product e os) = product e.value (operands os.items)
expression_step (Expr-F.Signed sign e) = signed sign e.value
expression_step (Expr-F.Power base exponent) = power base.value exponent.value
expression_step (Expr-F.Primary e ts) = primary e.value (trailers ts.items)
expression_step (Expr-F.Name x) = name (rc_str_bytes x)
expression_step (Expr-F.Int z) = integer z
expression_step (Expr-F.Text x) = text (rc_str_bytes x)
expression_step Expr-F.None = none
expression_step Expr-F.True = true
expression_step Expr-F.False = false
expression_step (Expr-F.Paren e) = paren e.value
expression_step (Expr-F.List es) = list (expressions es.items)
expression_step (Expr-F.Dict ps) = dict (pairs ps.items)

abbrev pub operand_step : Operand-F Argument Expression Trailer (Comparison × Expression) (Operator × Expression) (Expression × Expression) → Operator × Expression
operand_step o = (o.operator, o.value)

abbrev pub link_step : Link-F Argument Expression Trailer (Comparison × Expression) (Operator × Expression) (Expression × Expression) → Comparison × Expression
link_step l = (l.comparison, l.value)

abbrev pub pair_step : Pair-F Argument Expression Trailer (Comparison × Expression) (Operator × Expression) (Expression × Expression) → Expression × Expression
pair_step p = (p.key, p.value)

abbrev pub trailer_step : Trailer-F Argument Expression Trailer (Comparison × Expression) (Operator × Expression) (Expression × Expression) → Trailer
trailer_step (Trailer-F.Attribute x) = attribute (rc_str_bytes x)
trailer_step (Trailer-F.Call as') = call (arguments as'.items)
trailer_step (Trailer-F.Index e) = index e
trailer_step (Trailer-F.Slice start stop step) = slice (bound_of start) (bound_of stop) (bound_of step)

abbrev pub argument_step : Argument-F Argument Expression Trailer (Comparison × Expression) (Operator × Expression) (Expression × Expression) → Argument
argument_step (Argument-F.Plain e) = plain e
argument_step (Argument-F.Keyword x e) = keyword (rc_str_bytes x) e

unfoldable pub expression_of : Expr → Expression
expression_of = fold-Expr Argument Expression Trailer (Comparison × Expression) (Operator × Expression) (Expression × Expression) argument_step expression_step trailer_step link_step operand_step pair_step

abbrev pub text_of : Option (RcStr Global) → Option Text
text_of None = None
text_of (Some x) = Some (rc_str_bytes x)

abbrev pub value_of : Option Expr → Option Expression
value_of None = None
value_of (Some e) = Some (expression_of e)

abbrev pub parameter_of : RcStr Global × Option Expr → Parameter
parameter_of p = (rc_str_bytes p.0, value_of p.1)

abbrev pub arm_step : Arm-F Statement Arm Definition Handler → Arm
arm_step a = (expression_of a.test, statements a.body.items)

abbrev pub handler_step : Handler-F Statement Arm Definition Handler → Handler
handler_step h = record { class = value_of h.class; caught = text_of h.name; body = statements h.body.items }

abbrev pub definition_step : Def-F Statement Arm Definition Handler → Definition
definition_step d = record { title = rc_str_bytes d.name; parameters = map parameter_of d.params.items; body = statements d.body.items }

abbrev pub statement_step : Stmt-F Statement Arm Definition Handler → Statement
statement_step Stmt-F.Pass = pass
statement_step Stmt-F.Break = break
statement_step Stmt-F.Continue = continue
statement_step (Stmt-F.Return e) = return (value_of e)
statement_step (Stmt-F.Raise e) = raise (value_of e)
statement_step (Stmt-F.Assert e message) = assert (expression_of e) (value_of message)
statement_step (Stmt-F.Del es) = delete (map expression_of es.items)
statement_step (Stmt-F.Global xs) = global (map rc_str_bytes xs.items)
statement_step (Stmt-F.Import x) = import (text_of x)
statement_step (Stmt-F.Update e operator value) = update (expression_of e) operator (expression_of value)
statement_step (Stmt-F.Assign es e) = assign (map expression_of es.items) (expression_of e)
statement_step (Stmt-F.If as' ss) = choose (arms as'.items) (statements ss.items)
statement_step (Stmt-F.While e ss) = while (expression_of e) (statements ss.items)
statement_step (Stmt-F.For e walked ss) = for (expression_of e) (expression_of walked) (statements ss.items)
statement_step (Stmt-F.Try body hs other last) = try (statements body.items) (handlers hs.items) (statements other.items) (statements last.items)
statement_step (Stmt-F.Finally body last) = finally (statements body.items) (statements last.items)
statement_step (Stmt-F.Def d code) = define d.value.title d.value.parameters d.value.body (rc_str_bytes code)

unfoldable pub statement_of : Stmt → Statement
statement_of = fold-Stmt Statement Arm Definition Handler statement_step arm_step definition_step handler_step

unfoldable pub definition_of : Def → Definition
definition_of = fold-Def Statement Arm Definition Handler statement_step arm_step definition_step handler_step

abbrev pub program_of : Program → List Statement
program_of p = map statement_of p.statements.items
