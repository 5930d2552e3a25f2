-- The grammar of statements (Python Language Reference 3, "Full Grammar specification"). Each definition is one line of it.
use Rattle.std.specs.Prelude.{ℕ, zero, suc, not, List, [], ◌∷◌, codes, Option, Some, None}
use Rattle.std.specs.List.{flat_map}
use Rattle.kishu_language.specs.declared.token.Mark.{Mark}
use Rattle.kishu_language.specs.declared.token.Mark.TheVariants as m
use Rattle.kishu_language.specs.declared.tree.Operator.{Operator}
use Rattle.kishu_language.specs.declared.tree.Operator.TheVariants as operators
use Rattle.kishu_language.specs.tokens.Layout as kind
use Rattle.kishu_language.specs.trees.Tree.{Text, Expression, Parameter, Statement, Statements, Arm, Handler, Definition, statements, arms, handlers}
use Rattle.kishu_language.specs.trees.Tree as t
use Rattle.kishu_language.specs.grammar.Language.{Language, pure, ◌>>=◌, ◌>>◌, ◌or◌, none, where_true, token, newline, indent, dedent, mark, perhaps, word, one_of, Many, many, some, optional, one_more, spelled}
use Rattle.kishu_language.specs.grammar.Grammar.{exprs, expr, phrase, separated, any_listed, deepest}
use Rattle.kishu_language.specs.grammar.Targets.{place, targets}
use Rattle.kishu_language.specs.grammar.Refusals.{Around, top, in_function, in_loop, in_handler, parameters_fit, globals_fit, handlers_fit}
use Rattle.kishu_language.specs.trees.Code.{code_of}

-- ---- simple statements

abbrev pub update_operator : Mark → Option Operator
update_operator m.PlusAssign = Some operators.Add
update_operator m.MinusAssign = Some operators.Subtract
update_operator m.StarAssign = Some operators.Multiply
update_operator m.FloorDivideAssign = Some operators.FloorDivide
update_operator m.PercentAssign = Some operators.Modulo
update_operator m.PowerAssign = Some operators.Power
update_operator _ = None

-- A statement stands somewhere, with so many nestings, its own among them.
module _ (around : Around) (depth : ℕ) where
  -- "pass"
  unfoldable pub pass : Language Statement
  pass = mark m.Pass >> pure t.pass

  -- "break"
  unfoldable pub break : Language Statement
  break = do
    mark m.Break
    where_true around.loop
    pure t.break

  -- "continue"
  unfoldable pub continue : Language Statement
  continue = do
    mark m.Continue
    where_true around.loop
    pure t.continue

  -- "return" [ exprs ]
  unfoldable pub return : Language Statement
  return = do
    mark m.Return
    where_true around.function
    value ← optional (phrase depth exprs)
    pure (t.return value)

  -- "raise"
  unfoldable pub raise_again : Language Statement
  raise_again = do
    mark m.Raise
    where_true around.handler
    pure (t.raise None)

  -- "raise" expr
  unfoldable pub raise : Language Statement
  raise = do
    mark m.Raise
    value ← phrase depth expr
    pure (t.raise (Some value))

  -- "assert" expr [ "," expr ]
  unfoldable pub assertion : Language Statement
  assertion = do
    mark m.Assert
    test ← phrase depth expr
    message ← optional (mark m.Comma >> phrase depth expr)
    pure (t.assert test message)

  -- "del" place { "," place }
  unfoldable pub delete : Language Statement
  delete = do
    mark m.Del
    places ← separated m.Comma (place depth)
    pure (t.delete places)

  -- "global" NAME { "," NAME }
  unfoldable pub global : Language Statement
  global = do
    mark m.Global
    where_true around.function
    names ← separated m.Comma (token kind.name)
    pure (t.global names)

  -- "from" "types" "import" "SimpleNamespace" [ "as" NAME ]
  unfoldable pub import : Language Statement
  import = do
    mark m.From
    word (codes "types")
    mark m.Import
    word t.simple_namespace
    found ← optional (mark m.As >> token kind.name)
    pure (t.import found)

  -- place ("+="|"-="|"*="|"//="|"%="|"**=") exprs
  unfoldable pub update : Language Statement
  update = do
    at ← place depth
    operator ← one_of update_operator
    value ← phrase depth exprs
    pure (t.update at operator value)

  -- { targets "=" } exprs
  unfoldable pub assignment : Language Statement
  assignment = do
    all ← many (do
      found ← targets depth
      mark m.Assign
      pure found)
    value ← phrase depth exprs
    pure (t.assign all value)

  unfoldable pub simple : Language Statement
  simple = pass or break or continue or return or raise_again or raise or assertion or delete or global or import or update or assignment

  -- simple { ";" simple } [ ";" ] NEWLINE
  unfoldable pub simples : Language (List Statement)
  simples = do
    all ← separated m.Semicolon simple
    perhaps m.Semicolon
    newline
    pure all

-- A line may have so many nestings, its own among them.
unfoldable pub line : Around → ℕ → Language (List Statement)
line around zero = none
line around (suc depth) = simples around (suc depth)

-- ---- compound statements

abbrev pub in_order : List (List Statement) → Statements
in_order parts = statements (flat_map (λ part. part) parts)

abbrev pub handler_of : Option (Expression × Option Text) → Statements → Handler
handler_of None body = record { class = None; caught = None; body = body }
handler_of (Some c) body = record { class = Some c.0; caught = c.1; body = body }

-- Blocks may have so many nestings, their own among them.
module _ (source : Text) (depth : ℕ) (inner : Around → Language (List Statement)) where
  -- simples | NEWLINE INDENT chunk { chunk } DEDENT
  unfoldable pub block : Around → Language Statements
  block around = (do
    all ← line around depth
    pure (statements all)) or (do
      newline
      indent
      parts ← some (inner around)
      dedent
      pure (in_order parts))

  -- [ word ":" block ]
  unfoldable pub block_after : Mark → Around → Language Statements
  block_after before around = pure (statements []) or (do
    mark before
    mark m.Colon
    block around)

  -- expr ":" block
  unfoldable pub arm : Around → Language Arm
  arm around = do
    test ← phrase (suc depth) expr
    mark m.Colon
    body ← block around
    pure (test, body)

  -- "if" expr ":" block { "elif" expr ":" block } [ "else" ":" block ]
  unfoldable pub choice : Around → Language Statement
  choice around = do
    mark m.If
    first ← arm around
    all ← Many (one_more (mark m.Elif >> arm around)) (first ∷ [])
    other ← block_after m.Else around
    pure (t.choose (arms all) other)

  -- "while" expr ":" block
  unfoldable pub while : Around → Language Statement
  while around = do
    mark m.While
    found ← arm (in_loop around)
    pure (t.while found.0 found.1)

  -- "for" targets "in" exprs ":" block
  unfoldable pub for : Around → Language Statement
  for around = do
    mark m.For
    found ← targets (suc depth)
    mark m.In
    walked ← phrase (suc depth) exprs
    mark m.Colon
    body ← block (in_loop around)
    pure (t.for found walked body)

  -- expr [ "as" NAME ]
  unfoldable pub caught : Language (Expression × Option Text)
  caught = do
    class ← phrase (suc depth) expr
    found ← optional (mark m.As >> token kind.name)
    pure (class, found)

  -- "except" [ expr [ "as" NAME ] ] ":" block
  unfoldable pub handler : Around → Language Handler
  handler around = do
    mark m.Except
    found ← optional caught
    mark m.Colon
    body ← block (in_handler around)
    pure (handler_of found body)

  -- handler { handler } [ "else" ":" block ] [ "finally" ":" block ]
  unfoldable pub handled : Statements → Around → Language Statement
  handled body around = do
    found ← some (handler around)
    where_true (handlers_fit found)
    other ← block_after m.Else around
    last ← block_after m.Finally around
    pure (t.try body (handlers found) other last)

  -- "finally" ":" block
  unfoldable pub finished : Statements → Around → Language Statement
  finished body around = do
    mark m.Finally
    mark m.Colon
    last ← block around
    pure (t.finally body last)

  -- "try" ":" block (handled | finished)
  unfoldable pub try : Around → Language Statement
  try around = do
    mark m.Try
    mark m.Colon
    body ← block around
    handled body around or finished body around

  -- NAME [ "=" expr ]
  unfoldable pub parameter : Language Parameter
  parameter = do
    x ← token kind.name
    default ← optional (mark m.Assign >> phrase depth expr)
    pure (x, default)

  -- "def" NAME "(" [ param { "," param } [ "," ] ] ")" ":" block
  unfoldable pub definition : Language Definition
  definition = do
    mark m.Def
    x ← token kind.name
    mark m.LeftParenthesis
    all ← any_listed parameter
    mark m.RightParenthesis
    where_true (parameters_fit all)
    mark m.Colon
    body ← block in_function
    where_true (globals_fit all body)
    pure (record { title = x; parameters = all; body = body })

  unfoldable pub define : Around → Language Statement
  define around = do
    where_true (not around.function)
    found ← spelled definition
    pure (t.define found.0.title found.0.parameters found.0.body (code_of source found.1))

  unfoldable pub compound : Around → Language Statement
  compound around = choice around or while around or for around or try around or define around

-- ---- the whole

-- simples | compound, with so many nestings, its own among them
unfoldable pub chunk : Text → ℕ → Around → Language (List Statement)
chunk source zero around = none
chunk source (suc depth) around = simples around (suc depth) or (do
  found ← compound source depth (chunk source depth) around
  pure (found ∷ []))

-- { chunk }
unfoldable pub program : Text → Language (List Statement)
program source = do
  parts ← many (chunk source deepest top)
  pure (flat_map (λ part. part) parts)
