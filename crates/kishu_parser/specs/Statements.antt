-- What the parts of the code's statements stand for, and parts of their readers that are methods of their own.
use Rattle.std.specs.Prelude.{◌≡◌, ℕ, suc, ◌-◌, ◌+◌, Bool, true, false, not, List, [], ◌∷◌, ◌++◌, map, length, take, Option, Some, None, Result, Ok, Err}
use Rattle.std.specs.declared.alloc.Global.{Global}
use Rattle.std.specs.declared.vec.Vec.{Vec}
use Rattle.std.specs.declared.rc.RcStr.{RcStr}
use Rattle.kishu_language.specs.declared.token.Mark.TheVariants as m
use Rattle.kishu_language.specs.declared.tree.Expr.{Expr}
use Rattle.kishu_language.specs.declared.tree.Stmt.{Stmt}
use Rattle.kishu_language.specs.declared.tree.Def.{Def}
use Rattle.kishu_language.specs.declared.tree.Arm as rust_arm
use Rattle.kishu_language.specs.declared.tree.Handler as rust_handler
use Rattle.kishu_language.specs.grammar.Language.{Tokens}
use Rattle.kishu_language.specs.trees.Tree.{Text, Expression, Parameter, Statement, Statements, Arm, Handler, Definition, statements, expression_of, statement_of, definition_of, value_of, text_of, parameter_of}
use Rattle.kishu_language.specs.trees.Tree as t
use Rattle.kishu_language.specs.grammar.Grammar.{exprs, expr, alone, several}
use Rattle.kishu_language.specs.grammar.Refusals as refusals
use Rattle.kishu_language.specs.grammar.Refusals.{Around}
use Rattle.kishu_language.specs.reading.Reader.{Reader, Outcome, ◌>>=◌, ◌>>◌, pure, where_true, token, a_name, is_newline, is_indent, is_dedent, sees_some, mark, sees, either, optional, turns}
use Rattle.kishu_language.specs.reading.ReadExpressions.{expr_begins, listed, phrase}
use Rattle.kishu_language.specs.reading.ReadStatements as reads
use Rattle.kishu_parser.specs.declared.simple.Around as rust_around
pub use Rattle.kishu_lexer.specs.Edges.{Placed}
use Rattle.kishu_lexer.specs.declared.fault.SyntaxFault.{SyntaxFault}
use Rattle.kishu_lexer.specs.declared.fault.SyntaxFault.TheVariants as fault
use Rattle.kishu_language.specs.tokens.Layout.{Kind}
use Rattle.kishu_language.specs.tokens.Layout as kind
use Rattle.kishu_parser.specs.declared.cursor.Stop.{Stop}
use Rattle.kishu_parser.specs.declared.cursor.Stop.TheVariants as stop
use Rattle.kishu_parser.specs.Views.{Fails}
use Rattle.kishu_language.specs.trees.Parts.{arm_of, handler_of}

abbrev pub around_of : rust_around.Around → Around
around_of a = record { function = a.in_function; loop = a.in_loop; handler = a.in_handler }

abbrev pub top : Around
top = refusals.top

abbrev pub in_function : Around
in_function = refusals.in_function

abbrev pub in_loop : Around → Around
in_loop a = refusals.in_loop a

abbrev pub in_handler : Around → Around
in_handler a = refusals.in_handler a

-- for readers that don't ask where they stand
abbrev pub anywhere : Around
anywhere = refusals.top

abbrev pub statements_in : Vec Stmt Global → List Statement
statements_in v = map statement_of v.items

abbrev pub block_of : Vec Stmt Global → Statements
block_of v = statements (map statement_of v.items)

abbrev pub expressions_in : Vec Expr Global → List Expression
expressions_in v = map expression_of v.items

abbrev pub arms_in : Vec rust_arm.Arm Global → List Arm
arms_in v = map arm_of v.items

abbrev pub handlers_in : Vec rust_handler.Handler Global → List Handler
handlers_in v = map handler_of v.items

abbrev pub parameters_in : Vec (RcStr Global × Option Expr) Global → List Parameter
parameters_in v = map parameter_of v.items

abbrev pub assigned_of : Vec Expr Global × Expr → List Expression × Expression
assigned_of p = (map expression_of p.0.items, expression_of p.1)

-- ---- readers

abbrev pub place : ℕ → Reader Expression
place depth = reads.primary_at depth >>= reads.where_place

abbrev pub target : ℕ → Reader Expression
target depth = reads.primary_at depth >>= reads.where_target

abbrev pub targets : ℕ → Reader Expression
targets depth = listed (target depth) alone several

abbrev pub after_as : Reader (Option Text)
after_as = optional (sees m.As) (mark m.As >> token a_name)

abbrev pub pass : Reader Statement
pass = mark m.Pass >> pure t.pass

abbrev pub break : Around → Reader Statement
break around = mark m.Break >> where_true around.loop >> pure t.break

abbrev pub continue : Around → Reader Statement
continue around = mark m.Continue >> where_true around.loop >> pure t.continue

abbrev pub parameter : ℕ → Reader Parameter
parameter depth = do
  x ← token a_name
  default ← optional (sees m.Assign) (mark m.Assign >> phrase depth expr)
  pure (x, default)

abbrev pub sees_chunk : Tokens → Bool
sees_chunk ts = not (sees_some is_dedent ts)

-- the statements of one chunk more
abbrev pub chunk_turn : Reader (List Statement) → List Statement → Reader (List Statement)
chunk_turn chunk all = do
  next ← chunk
  pure (all ++ next)

-- the tokens from the first list to the second, its end
abbrev pub between : Tokens → Tokens → Tokens
between from to = take (length from - length to) from

-- ---- a handler's class and name

abbrev pub caught_parts : ℕ → Reader (Option Expression × Option Text)
caught_parts depth = either expr_begins (do
  class ← phrase (suc depth) expr
  name ← after_as
  pure (Some class, name)) (pure (None, None))

abbrev pub caught_of : Option Expr × Option (RcStr Global) → Option Expression × Option Text
caught_of p = (value_of p.0, text_of p.1)

-- a function and its code
abbrev pub defined : Definition → Text → Statement
defined d code = t.define d.title d.parameters d.body code

-- ---- the whole

-- The definition has that line too; want of memory says nothing.
abbrev pub FailsOn : {A : Type 0} → Result A ℕ → SyntaxFault → Type 0
FailsOn outcome (fault.Syntax line) = outcome ≡ Err line
FailsOn outcome fault.NoMemory = Unit {0}

-- what a call that answers a tree gives
abbrev pub Answers : {X A : Type 0} → (X → A) → Result A ℕ → Result X SyntaxFault → Type 0
Answers view outcome (Ok x) = outcome ≡ Ok (view x)
Answers view outcome (Err e) = FailsOn outcome e

-- a fault, where it has a line
abbrev pub FaultOf : (ℕ → Type 0) → SyntaxFault → Type 0
FaultOf P (fault.Syntax line) = P line
FaultOf P fault.NoMemory = Unit {0}

abbrev pub GivesPiece : Option (List Statement) → Result (Vec Stmt Global) Stop → Type 0
GivesPiece outcome (Ok v) = outcome ≡ Some (statements_in v)
GivesPiece outcome (Err stop.Refused) = outcome ≡ None
GivesPiece outcome (Err stop.NoMemory) = Unit {0}

-- the same with the line on which the piece begins
abbrev pub AnswersPiece : Option (List Statement) → ℕ → Result (Vec Stmt Global) SyntaxFault → Type 0
AnswersPiece outcome line (Ok v) = outcome ≡ Some (statements_in v)
AnswersPiece outcome line (Err (fault.Syntax at)) = (outcome ≡ None) × (at ≡ line)
AnswersPiece outcome line (Err fault.NoMemory) = Unit {0}

-- a function whose code is the text, where all the tokens are read as it
abbrev pub GivesFunction : Outcome Statement → Text → Result Def Stop → Type 0
GivesFunction outcome text (Ok d) = outcome ≡ Some (defined (definition_of d) text, [])
GivesFunction outcome text (Err stop.Refused) = (d : Definition) → outcome ≡ Some (defined d text, []) → ⊥
GivesFunction outcome text (Err stop.NoMemory) = Unit {0}

-- how many blocks are open behind a token, and whether a line or a block ends with it
abbrev pub after_kind : Option Kind → ℕ → ℕ × Bool
after_kind (Some kind.indent) blocks = (blocks + 1, false)
after_kind (Some kind.dedent) blocks = (blocks - 1, true)
after_kind (Some kind.newline) blocks = (blocks, true)
after_kind (Some (kind.name x)) blocks = (blocks, false)
after_kind (Some (kind.integer z)) blocks = (blocks, false)
after_kind (Some (kind.quoted x)) blocks = (blocks, false)
after_kind (Some (kind.mark m)) blocks = (blocks, false)
after_kind None blocks = (blocks, false)

-- ---- the bodies of readers that Rust's words name

abbrev pub return_body : Around → ℕ → Reader Statement
return_body around depth = do
  mark m.Return
  where_true around.function
  value ← optional expr_begins (phrase depth exprs)
  pure (t.return value)

module _ (source : Text) (depth : ℕ) (inner : Around → Reader (List Statement)) where
  abbrev pub while_body : Around → Reader Statement
  while_body around = do
    mark m.While
    found ← reads.arm source depth inner (in_loop around)
    pure (t.while found.0 found.1)

  abbrev pub for_body : Around → Reader Statement
  for_body around = do
    mark m.For
    found ← targets (suc depth)
    mark m.In
    walked ← phrase (suc depth) exprs
    mark m.Colon
    body ← reads.block source depth inner (in_loop around)
    pure (t.for found walked body)

  abbrev pub try_body : Around → Reader Statement
  try_body around = do
    mark m.Try
    mark m.Colon
    body ← reads.block source depth inner around
    either (sees m.Except) (reads.handled source depth inner body around) (reads.finished source depth inner body around)

  abbrev pub handler_body : Around → Reader Handler
  handler_body around = do
    mark m.Except
    found ← caught_parts depth
    mark m.Colon
    body ← reads.block source depth inner (in_handler around)
    pure (record { class = found.0; caught = found.1; body = body })

  -- a block, its statements in one list
  abbrev pub block_body : Around → Reader Statements
  block_body around = either (sees_some is_newline) (do
    token is_newline
    token is_indent
    first ← inner around
    all ← turns sees_chunk (chunk_turn (inner around)) first
    token is_dedent
    pure (statements all)) (do
      all ← reads.line around depth
      pure (statements all))
