-- The grammar of statements, read from left to right.
use Rattle.std.specs.Prelude.{ℕ, zero, suc, Bool, true, false, not, List, [], ◌∷◌, ◌++◌, codes, Option, Some, None}
use Rattle.std.specs.List.{flat_map}
use Rattle.kishu_language.specs.declared.token.Mark.{Mark}
use Rattle.kishu_language.specs.declared.token.Mark.TheVariants as m
use Rattle.kishu_language.specs.trees.Tree.{Text, Expression, Parameter, Statement, Statements, Arm, Handler, Definition, statements, arms, handlers}
use Rattle.kishu_language.specs.trees.Tree as t
use Rattle.kishu_language.specs.grammar.Language.{Tokens}
use Rattle.kishu_language.specs.grammar.Grammar.{exprs, expr, alone, several, has_room, deepest}
use Rattle.kishu_language.specs.grammar.Targets.{is_place, is_target}
use Rattle.kishu_language.specs.grammar.Refusals.{Around, top, in_function, in_loop, in_handler, parameters_fit, globals_fit, handlers_fit}
use Rattle.kishu_language.specs.trees.Code.{code_of}
use Rattle.kishu_language.specs.grammar.Statements.{update_operator, in_order, handler_of}
use Rattle.kishu_language.specs.reading.Reader.{Reader, ◌>>=◌, ◌>>◌, pure, refuse, where_true, token, sees_some, is_newline, is_indent, is_dedent, is_word, a_name, mark, sees, one_of, sees_one, either, optional, turns, one_more, many, some, sees_more, spelled}
use Rattle.kishu_language.specs.reading.ReadExpressions.{expr_begins, separated, listed, any_listed, primary, phrase}

-- The targets so far, and what is one more where `=` follows it.
abbrev pub Assigned : Type 0
Assigned = List Expression × Expression

-- A primary at this depth; what is read of it is tested.
unfoldable pub primary_at : ℕ → Reader Expression
primary_at zero = refuse
primary_at (suc depth) = primary (has_room depth) (phrase depth)

abbrev pub where_place : Expression → Reader Expression
where_place e = where_true (is_place e) >> pure e

abbrev pub where_target : Expression → Reader Expression
where_target e = where_true (is_target e) >> pure e

-- a line goes on behind `;`
unfoldable pub another_simple : Tokens → Bool
another_simple = sees_more m.Semicolon (λ ts. not (sees_some is_newline ts))

module _ (around : Around) (depth : ℕ) where
  unfoldable pub raise : Reader Statement
  raise = do
    mark m.Raise
    either expr_begins (do
      value ← phrase depth expr
      pure (t.raise (Some value))) (where_true around.handler >> pure (t.raise None))

  unfoldable pub return : Reader Statement
  return = do
    mark m.Return
    where_true around.function
    value ← optional expr_begins (phrase depth exprs)
    pure (t.return value)

  unfoldable pub assertion : Reader Statement
  assertion = do
    mark m.Assert
    test ← phrase depth expr
    message ← optional (sees m.Comma) (mark m.Comma >> phrase depth expr)
    pure (t.assert test message)

  unfoldable pub delete : Reader Statement
  delete = do
    mark m.Del
    places ← separated m.Comma (primary_at depth >>= where_place)
    pure (t.delete places)

  unfoldable pub global : Reader Statement
  global = do
    mark m.Global
    where_true around.function
    names ← separated m.Comma (token a_name)
    pure (t.global names)

  unfoldable pub import : Reader Statement
  import = do
    mark m.From
    token (is_word (codes "types"))
    mark m.Import
    token (is_word t.simple_namespace)
    found ← optional (sees m.As) (mark m.As >> token a_name)
    pure (t.import found)

  unfoldable pub update_of : Expression → Reader Statement
  update_of at = do
    where_true (is_place at)
    operator ← one_of update_operator
    value ← phrase depth exprs
    pure (t.update at operator value)

  abbrev pub assign_turn : Assigned → Reader Assigned
  assign_turn a = do
    where_true (is_target a.1)
    mark m.Assign
    next ← phrase depth exprs
    pure (a.0 ++ a.1 ∷ [], next)

  unfoldable pub assignment_of : Expression → Reader Statement
  assignment_of first = do
    a ← turns (sees m.Assign) assign_turn ([], first)
    pure (t.assign a.0 a.1)

  unfoldable pub update_or_assignment : Reader Statement
  update_or_assignment = do
    first ← phrase depth exprs
    either (sees_one update_operator) (update_of first) (assignment_of first)

  unfoldable pub simple : Reader Statement
  simple =
      either (sees m.Pass) (mark m.Pass >> pure t.pass)
      (either (sees m.Break) (mark m.Break >> where_true around.loop >> pure t.break)
      (either (sees m.Continue) (mark m.Continue >> where_true around.loop >> pure t.continue)
      (either (sees m.Return) return
      (either (sees m.Raise) raise
      (either (sees m.Assert) assertion
      (either (sees m.Del) delete
      (either (sees m.Global) global
      (either (sees m.From) import update_or_assignment))))))))

  unfoldable pub simples : Reader (List Statement)
  simples = do
    first ← simple
    all ← turns another_simple (one_more (mark m.Semicolon >> simple)) (first ∷ [])
    either (sees m.Semicolon) (mark m.Semicolon) (pure tt)
    token is_newline
    pure all

unfoldable pub line : Around → ℕ → Reader (List Statement)
line around zero = refuse
line around (suc depth) = simples around (suc depth)

module _ (source : Text) (depth : ℕ) (inner : Around → Reader (List Statement)) where
  unfoldable pub block : Around → Reader Statements
  block around = either (sees_some is_newline) (do
    token is_newline
    token is_indent
    parts ← some (λ ts. not (sees_some is_dedent ts)) (inner around)
    token is_dedent
    pure (in_order parts)) (do
      all ← line around depth
      pure (statements all))

  unfoldable pub block_after : Mark → Around → Reader Statements
  block_after before around = either (sees before) (do
    mark before
    mark m.Colon
    block around) (pure (statements []))

  unfoldable pub arm : Around → Reader Arm
  arm around = do
    test ← phrase (suc depth) expr
    mark m.Colon
    body ← block around
    pure (test, body)

  unfoldable pub choice : Around → Reader Statement
  choice around = do
    mark m.If
    first ← arm around
    all ← turns (sees m.Elif) (one_more (mark m.Elif >> arm around)) (first ∷ [])
    other ← block_after m.Else around
    pure (t.choose (arms all) other)

  unfoldable pub while : Around → Reader Statement
  while around = do
    mark m.While
    found ← arm (in_loop around)
    pure (t.while found.0 found.1)

  unfoldable pub for : Around → Reader Statement
  for around = do
    mark m.For
    found ← listed (primary_at (suc depth) >>= where_target) alone several
    mark m.In
    walked ← phrase (suc depth) exprs
    mark m.Colon
    body ← block (in_loop around)
    pure (t.for found walked body)

  unfoldable pub caught : Reader (Expression × Option Text)
  caught = do
    class ← phrase (suc depth) expr
    found ← optional (sees m.As) (mark m.As >> token a_name)
    pure (class, found)

  unfoldable pub handler : Around → Reader Handler
  handler around = do
    mark m.Except
    found ← optional expr_begins caught
    mark m.Colon
    body ← block (in_handler around)
    pure (handler_of found body)

  unfoldable pub handled : Statements → Around → Reader Statement
  handled body around = do
    found ← some (sees m.Except) (handler around)
    where_true (handlers_fit found)
    other ← block_after m.Else around
    last ← block_after m.Finally around
    pure (t.try body (handlers found) other last)

  unfoldable pub finished : Statements → Around → Reader Statement
  finished body around = do
    mark m.Finally
    mark m.Colon
    last ← block around
    pure (t.finally body last)

  unfoldable pub try : Around → Reader Statement
  try around = do
    mark m.Try
    mark m.Colon
    body ← block around
    either (sees m.Except) (handled body around) (finished body around)

  unfoldable pub parameter : Reader Parameter
  parameter = do
    x ← token a_name
    default ← optional (sees m.Assign) (mark m.Assign >> phrase depth expr)
    pure (x, default)

  unfoldable pub definition : Reader Definition
  definition = do
    mark m.Def
    x ← token a_name
    mark m.LeftParenthesis
    all ← any_listed parameter
    mark m.RightParenthesis
    where_true (parameters_fit all)
    mark m.Colon
    body ← block in_function
    where_true (globals_fit all body)
    pure (record { title = x; parameters = all; body = body })

  unfoldable pub define : Around → Reader Statement
  define around = do
    where_true (not around.function)
    found ← spelled definition
    pure (t.define found.0.title found.0.parameters found.0.body (code_of source found.1))

  unfoldable pub compound : Around → Reader Statement
  compound around =
      either (sees m.If) (choice around)
      (either (sees m.While) (while around)
      (either (sees m.For) (for around)
      (either (sees m.Try) (try around) (define around))))

abbrev pub begins_compound : Mark → Option (Unit {0})
begins_compound m.If = Some tt
begins_compound m.While = Some tt
begins_compound m.For = Some tt
begins_compound m.Try = Some tt
begins_compound m.Def = Some tt
begins_compound _ = None

unfoldable pub chunk : Text → ℕ → Around → Reader (List Statement)
chunk source zero around = refuse
chunk source (suc depth) around = either (sees_one begins_compound) (do
  found ← compound source depth (chunk source depth) around
  pure (found ∷ [])) (simples around (suc depth))

abbrev pub is_empty : Tokens → Bool
is_empty [] = true
is_empty (u ∷ ts) = false

unfoldable pub program : Text → Reader (List Statement)
program source = do
  parts ← many (λ ts. not (is_empty ts)) (chunk source deepest top)
  pure (flat_map (λ part. part) parts)
