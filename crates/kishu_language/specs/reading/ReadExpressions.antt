-- The grammar of expressions, read from left to right.
use Rattle.std.specs.Prelude.{ℕ, zero, suc, Bool, true, false, not, ◌&&◌, List, [], ◌∷◌, Option, Some, None}
use Rattle.kishu_language.specs.declared.token.Mark.{Mark}
use Rattle.kishu_language.specs.declared.token.Mark.TheVariants as m
use Rattle.kishu_language.specs.declared.tree.Comparison.{Comparison}
use Rattle.kishu_language.specs.declared.tree.Comparison.TheVariants as comparisons
use Rattle.kishu_language.specs.tokens.Layout.{Kind}
use Rattle.kishu_language.specs.tokens.Layout as kind
use Rattle.kishu_language.specs.trees.Tree.{Expression, Trailer, Argument, plain, keyword, expressions, pairs, arguments, bound_of}
use Rattle.kishu_language.specs.trees.Tree as t
use Rattle.kishu_language.specs.grammar.Language.{Tokens}
use Rattle.kishu_language.specs.grammar.Grammar.{Phrase, exprs, expr, negated, unary, alone, several, unless_alone, sum_operator, product_operator, sign, comparison_mark, any_of, all_of, compared_with, summed, multiplied, joined, constant_of, with_trailers, arguments_fit, has_room}
use Rattle.kishu_language.specs.reading.Reader.{Reader, ◌>>=◌, ◌>>◌, pure, refuse, where_true, rest, token, sees_some, a_name, an_integer, a_text, mark, sees, one_of, sees_one, either, optional, turns, one_more, many, some, sees_more}

-- ---- how things begin

abbrev pub begins_operand : Mark → Bool
begins_operand m.None = true
begins_operand m.True = true
begins_operand m.False = true
begins_operand m.LeftParenthesis = true
begins_operand m.LeftBracket = true
begins_operand m.LeftBrace = true
begins_operand _ = false

abbrev pub begins_unary : Mark → Bool
begins_unary m.Plus = true
begins_unary m.Minus = true
begins_unary k = begins_operand k

abbrev pub begins_expr : Mark → Bool
begins_expr m.Not = true
begins_expr k = begins_unary k

abbrev pub kind_begins : (Mark → Bool) → Kind → Bool
kind_begins test (kind.mark k) = test k
kind_begins test (kind.name x) = true
kind_begins test (kind.integer z) = true
kind_begins test (kind.quoted x) = true
kind_begins test kind.newline = false
kind_begins test kind.indent = false
kind_begins test kind.dedent = false

-- The tokens begin with a name, a number, a text, or such a mark.
abbrev pub starts_with : (Mark → Bool) → Tokens → Bool
starts_with test [] = false
starts_with test (u ∷ ts) = kind_begins test u.kind

-- The tokens begin with an expression.
abbrev pub expr_begins : Tokens → Bool
expr_begins ts = starts_with begins_expr ts

abbrev pub begins_trailer : Mark → Option (Unit {0})
begins_trailer m.Dot = Some tt
begins_trailer m.LeftParenthesis = Some tt
begins_trailer m.LeftBracket = Some tt
begins_trailer _ = None

abbrev pub begins_comparison : Mark → Option (Unit {0})
begins_comparison m.Not = Some tt
begins_comparison m.Is = Some tt
begins_comparison m.Less = Some tt
begins_comparison m.LessEqual = Some tt
begins_comparison m.Greater = Some tt
begins_comparison m.GreaterEqual = Some tt
begins_comparison m.Equal = Some tt
begins_comparison m.NotEqual = Some tt
begins_comparison m.In = Some tt
begins_comparison _ = None

-- a name and `=`
unfoldable pub keyword_begins : Tokens → Bool
keyword_begins ts = sees_some a_name ts && sees m.Assign (rest ts)

unfoldable pub another : Mark → Tokens → Bool
another by = sees_more by expr_begins

-- ---- repetitions

abbrev pub separated : {A : Type 0} → Mark → Reader A → Reader (List A)
separated by item = do
  first ← item
  turns (another by) (one_more (mark by >> item)) (first ∷ [])

abbrev pub listed : {A B : Type 0} → Reader A → (List A → B) → (List A → B) → Reader B
listed item open_end closed_end = do
  all ← separated m.Comma item
  either (sees m.Comma) (mark m.Comma >> pure (closed_end all)) (pure (open_end all))

abbrev pub any_listed : {A : Type 0} → Reader A → Reader (List A)
any_listed item = either expr_begins (listed item (λ all. all) (λ all. all)) (pure [])

-- operator item
abbrev pub operation : {A : Type 0} → Reader Expression → Reader A → Reader (A × Expression)
operation item operator = do
  by ← operator
  right ← item
  pure (by, right)

abbrev pub operated : {A : Type 0} → Reader Expression → (Tokens → Bool) → Reader A → (Expression → List (A × Expression) → Expression) → Reader Expression
operated item begins operator make = do
  first ← item
  following ← many begins (operation item operator)
  pure (unless_alone make first following)

abbrev pub comparison : Reader Comparison
comparison =
    either (sees m.Not) (mark m.Not >> mark m.In >> pure comparisons.NotIn)
    (either (sees m.Is) (mark m.Is >> either (sees m.Not) (mark m.Not >> pure comparisons.IsNot) (pure comparisons.Is))
    (one_of comparison_mark))

abbrev pub name : Reader Expression
name = do
  x ← token a_name
  pure (t.name x)

abbrev pub integer : Reader Expression
integer = do
  z ← token an_integer
  pure (t.integer z)

abbrev pub text : Reader Expression
text = do
  parts ← some (sees_some a_text) (token a_text)
  pure (t.text (joined parts))

-- several with a comma, which no bound of a slice is
abbrev pub is_several : Expression → Bool
is_several (t.tuple (t.more_expressions e es)) = true
is_several _ = false

-- what stands in brackets, where there is room for it
abbrev pub bracketed : {A : Type 0} → Bool → Reader A → Reader A
bracketed room p = where_true room >> p

module _ (inner : Phrase → Reader Expression) where
  unfoldable pub argument : Reader Argument
  argument = either keyword_begins (do
    x ← token a_name
    mark m.Assign
    value ← inner expr
    pure (keyword x value)) (do
      value ← inner expr
      pure (plain value))

  unfoldable pub attribute : Reader Trailer
  attribute = do
    mark m.Dot
    x ← token a_name
    pure (t.attribute x)

  unfoldable pub call : Reader Trailer
  call = do
    mark m.LeftParenthesis
    found ← any_listed argument
    mark m.RightParenthesis
    where_true (arguments_fit found)
    pure (t.call (arguments found))

  abbrev pub bound : Reader (Option Expression)
  bound = optional expr_begins (inner expr)

  -- behind the start of a slice
  unfoldable pub slice_after : Option Expression → Reader Trailer
  slice_after start = do
    mark m.Colon
    stop ← bound
    step ← either (sees m.Colon) (mark m.Colon >> bound) (pure None)
    pure (t.slice (bound_of start) (bound_of stop) (bound_of step))

  unfoldable pub item_or_slice : Reader Trailer
  item_or_slice = do
    mark m.LeftBracket
    found ← either (sees m.Colon) (slice_after None) (do
      index ← inner exprs
      either (sees m.Colon) (where_true (not (is_several index)) >> slice_after (Some index)) (pure (t.index index)))
    mark m.RightBracket
    pure found

  unfoldable pub parenthesised : Reader Expression
  parenthesised = do
    mark m.LeftParenthesis
    inside ← either expr_begins (do
      e ← inner exprs
      pure (t.paren e)) (pure (several []))
    mark m.RightParenthesis
    pure inside

  unfoldable pub list : Reader Expression
  list = do
    mark m.LeftBracket
    found ← any_listed (inner expr)
    mark m.RightBracket
    pure (t.list (expressions found))

  unfoldable pub pair : Reader (Expression × Expression)
  pair = do
    key ← inner expr
    mark m.Colon
    value ← inner expr
    pure (key, value)

  unfoldable pub dict : Reader Expression
  dict = do
    mark m.LeftBrace
    found ← any_listed pair
    mark m.RightBrace
    pure (t.dict (pairs found))

module _ (room : Bool) (inner : Phrase → Reader Expression) where
  unfoldable pub trailer : Reader Trailer
  trailer = either (sees m.Dot) (attribute inner) (bracketed room (either (sees m.LeftParenthesis) (call inner) (item_or_slice inner)))

  unfoldable pub atom : Reader Expression
  atom =
      either (sees_some a_name) name
      (either (sees_some an_integer) integer
      (either (sees_some a_text) text
      (either (sees m.LeftParenthesis) (bracketed room (parenthesised inner))
      (either (sees m.LeftBracket) (bracketed room (list inner))
      (either (sees m.LeftBrace) (bracketed room (dict inner)) (one_of constant_of))))))

  unfoldable pub primary_parts : Reader (Expression × List Trailer)
  primary_parts = do
    first ← atom
    found ← many (sees_one begins_trailer) trailer
    pure (first, found)

  unfoldable pub primary : Reader Expression
  primary = do
    parts ← primary_parts
    pure (with_trailers parts.0 parts.1)

  unfoldable pub power : Reader Expression
  power = do
    base ← primary
    either (sees m.Power) (do
      mark m.Power
      exponent ← inner unary
      pure (t.power base exponent)) (pure base)

  unfoldable pub unary_level : Reader Expression
  unary_level = either (sees_one sign) (do
    before ← one_of sign
    operand ← inner unary
    pure (t.signed before operand)) power

  unfoldable pub term : Reader Expression
  term = operated unary_level (sees_one product_operator) (one_of product_operator) multiplied

  unfoldable pub sum : Reader Expression
  sum = operated term (sees_one sum_operator) (one_of sum_operator) summed

  unfoldable pub compared : Reader Expression
  compared = operated sum (sees_one begins_comparison) comparison compared_with

  unfoldable pub negated_level : Reader Expression
  negated_level = either (sees m.Not) (do
    mark m.Not
    operand ← inner negated
    pure (t.not operand)) compared

  unfoldable pub conjunction : Reader Expression
  conjunction = operated negated_level (sees m.And) (mark m.And) all_of

  unfoldable pub disjunction : Reader Expression
  disjunction = operated conjunction (sees m.Or) (mark m.Or) any_of

  unfoldable pub expr_level : Reader Expression
  expr_level = do
    value ← disjunction
    either (sees m.If) (do
      mark m.If
      test ← disjunction
      mark m.Else
      other ← inner expr
      pure (t.conditional value test other)) (pure value)

  unfoldable pub exprs_level : Reader Expression
  exprs_level = listed expr_level alone several

abbrev pub level : Bool → (Phrase → Reader Expression) → Phrase → Reader Expression
level room inner exprs = exprs_level room inner
level room inner expr = expr_level room inner
level room inner negated = negated_level room inner
level room inner unary = unary_level room inner

unfoldable pub phrase : ℕ → Phrase → Reader Expression
phrase zero p = refuse
phrase (suc depth) p = level (has_room depth) (phrase depth) p
