-- The grammar of expressions (Python Language Reference 3, "Full Grammar specification"). Each definition is one line of it.
use Rattle.std.specs.Prelude.{ℕ, zero, suc, Bool, true, false, not, ◌&&◌, List, [], ◌∷◌, ◌++◌, map, Option, Some, None}
use Rattle.kishu_language.specs.declared.token.Mark.{Mark}
use Rattle.kishu_language.specs.declared.token.Mark.TheVariants as m
use Rattle.kishu_language.specs.declared.tree.Operator.{Operator}
use Rattle.kishu_language.specs.declared.tree.Operator.TheVariants as operators
use Rattle.kishu_language.specs.declared.tree.Sign.{Sign}
use Rattle.kishu_language.specs.declared.tree.Sign.TheVariants as signs
use Rattle.kishu_language.specs.declared.tree.Comparison.{Comparison}
use Rattle.kishu_language.specs.declared.tree.Comparison.TheVariants as comparisons
use Rattle.kishu_language.specs.tokens.Layout as kind
use Rattle.kishu_language.specs.tokens.Names.{is_among}
use Rattle.kishu_language.specs.trees.Tree.{Text, Expression, Trailer, Argument, plain, keyword, expressions, operands, links, pairs, trailers, arguments, bound_of}
use Rattle.kishu_language.specs.trees.Tree as t
use Rattle.kishu_language.specs.grammar.Language.{Language, pure, ◌>>=◌, ◌>>◌, ◌or◌, none, where_true, token, mark, one_of, Many, many, some, optional, one_more}

-- ---- repetitions

-- with a comma a tuple, and without one the thing itself
abbrev pub alone : List Expression → Expression
alone [] = t.tuple (expressions [])
alone (e ∷ []) = e
alone (e ∷ f ∷ es) = t.tuple (expressions (e ∷ f ∷ es))

abbrev pub several : List Expression → Expression
several es = t.tuple (expressions es)

-- item { mark item }
abbrev pub separated : {A : Type 0} → Mark → Language A → Language (List A)
separated by item = do
  first ← item
  Many (one_more (mark by >> item)) (first ∷ [])

-- item { "," item } [ "," ], with what there is without a comma at the end, and with one
abbrev pub listed : {A B : Type 0} → Language A → (List A → B) → (List A → B) → Language B
listed item open_end closed_end = do
  all ← separated m.Comma item
  pure (open_end all) or (mark m.Comma >> pure (closed_end all))

-- [ item { "," item } [ "," ] ]
abbrev pub any_listed : {A : Type 0} → Language A → Language (List A)
any_listed item = pure [] or listed item (λ all. all) (λ all. all)

-- An operand with nothing after it is itself.
abbrev pub unless_alone : {A : Type 0} → (Expression → List A → Expression) → Expression → List A → Expression
unless_alone make first [] = first
unless_alone make first (x ∷ xs) = make first (x ∷ xs)

-- operator item
abbrev pub operation : {A : Type 0} → Language Expression → Language A → Language (A × Expression)
operation item operator = do
  by ← operator
  right ← item
  pure (by, right)

-- item { operator item }
abbrev pub operated : {A : Type 0} → Language Expression → Language A → (Expression → List (A × Expression) → Expression) → Language Expression
operated item operator make = do
  first ← item
  following ← many (operation item operator)
  pure (unless_alone make first following)

-- ---- operators

abbrev pub sum_operator : Mark → Option Operator
sum_operator m.Plus = Some operators.Add
sum_operator m.Minus = Some operators.Subtract
sum_operator _ = None

abbrev pub product_operator : Mark → Option Operator
product_operator m.Star = Some operators.Multiply
product_operator m.FloorDivide = Some operators.FloorDivide
product_operator m.Percent = Some operators.Modulo
product_operator _ = None

abbrev pub sign : Mark → Option Sign
sign m.Plus = Some signs.Plus
sign m.Minus = Some signs.Minus
sign _ = None

abbrev pub comparison_mark : Mark → Option Comparison
comparison_mark m.Less = Some comparisons.Less
comparison_mark m.LessEqual = Some comparisons.LessEqual
comparison_mark m.Greater = Some comparisons.Greater
comparison_mark m.GreaterEqual = Some comparisons.GreaterEqual
comparison_mark m.Equal = Some comparisons.Equal
comparison_mark m.NotEqual = Some comparisons.NotEqual
comparison_mark m.In = Some comparisons.In
comparison_mark _ = None

-- "not" "in" | "is" [ "not" ] | "<"|"<="|">"|">="|"=="|"!="|"in"
abbrev pub comparison : Language Comparison
comparison =
    (mark m.Not >> mark m.In >> pure comparisons.NotIn)
    or (mark m.Is >> (pure comparisons.Is or (mark m.Not >> pure comparisons.IsNot)))
    or one_of comparison_mark

abbrev pub any_of : Expression → List (Unit {0} × Expression) → Expression
any_of first following = t.or (expressions (first ∷ map (λ p. p.1) following))

abbrev pub all_of : Expression → List (Unit {0} × Expression) → Expression
all_of first following = t.and (expressions (first ∷ map (λ p. p.1) following))

abbrev pub compared_with : Expression → List (Comparison × Expression) → Expression
compared_with first following = t.compared first (links following)

abbrev pub summed : Expression → List (Operator × Expression) → Expression
summed first following = t.sum first (operands following)

abbrev pub multiplied : Expression → List (Operator × Expression) → Expression
multiplied first following = t.product first (operands following)

-- ---- atoms and what stands behind them

abbrev pub name : Language Expression
name = do
  x ← token kind.name
  pure (t.name x)

abbrev pub integer : Language Expression
integer = do
  z ← token kind.integer
  pure (t.integer z)

abbrev pub joined : List Text → Text
joined [] = []
joined (x ∷ xs) = x ++ joined xs

-- Adjacent texts are joined.
abbrev pub text : Language Expression
text = do
  parts ← some (token kind.quoted)
  pure (t.text (joined parts))

abbrev pub constant_of : Mark → Option Expression
constant_of m.None = Some t.none
constant_of m.True = Some t.true
constant_of m.False = Some t.false
constant_of _ = None

-- An atom with nothing after it is itself.
abbrev pub with_trailers : Expression → List Trailer → Expression
with_trailers = unless_alone (λ atom found. t.primary atom (trailers found))

-- ---- arguments

-- No keyword stands twice, and none before a plain argument. The first are the keywords so far.
abbrev pub fits_after : List Text → List Argument → Bool
fits_after seen [] = true
fits_after [] (plain e ∷ as') = fits_after [] as'
fits_after (x ∷ xs) (plain e ∷ as') = false
fits_after seen (keyword x e ∷ as') = not (is_among x seen) && fits_after (x ∷ seen) as'

abbrev pub arguments_fit : List Argument → Bool
arguments_fit found = fits_after [] found

-- ---- the levels

-- what stands in brackets, where there is room for it
abbrev pub bracketed : {A : Type 0} → Bool → Language A → Language A
bracketed room p = where_true room >> p

-- what may stand one nesting deeper: in brackets, after `else`, after `not`, and after a sign or `**`
pub data Phrase : Type 0 where
  exprs : Phrase
  expr : Phrase
  negated : Phrase
  unary : Phrase

module _ (inner : Phrase → Language Expression) where
  -- NAME "=" expr
  unfoldable pub keyword_argument : Language Argument
  keyword_argument = do
    x ← token kind.name
    mark m.Assign
    value ← inner expr
    pure (keyword x value)

  -- expr | NAME "=" expr
  unfoldable pub argument : Language Argument
  argument = (do
    value ← inner expr
    pure (plain value)) or keyword_argument

  -- "." NAME
  unfoldable pub attribute : Language Trailer
  attribute = do
    mark m.Dot
    x ← token kind.name
    pure (t.attribute x)

  -- "(" [ arg { "," arg } [ "," ] ] ")"
  unfoldable pub call : Language Trailer
  call = do
    mark m.LeftParenthesis
    found ← any_listed argument
    mark m.RightParenthesis
    where_true (arguments_fit found)
    pure (t.call (arguments found))

  -- "[" exprs "]"
  unfoldable pub item : Language Trailer
  item = do
    mark m.LeftBracket
    index ← inner exprs
    mark m.RightBracket
    pure (t.index index)

  -- "[" [ expr ] ":" [ expr ] [ ":" [ expr ] ] "]"
  unfoldable pub slice : Language Trailer
  slice = do
    mark m.LeftBracket
    start ← optional (inner expr)
    mark m.Colon
    stop ← optional (inner expr)
    step ← pure None or (mark m.Colon >> optional (inner expr))
    mark m.RightBracket
    pure (t.slice (bound_of start) (bound_of stop) (bound_of step))

  -- "(" [ exprs ] ")"
  unfoldable pub parenthesised : Language Expression
  parenthesised = do
    mark m.LeftParenthesis
    inside ← pure (several []) or (do
      e ← inner exprs
      pure (t.paren e))
    mark m.RightParenthesis
    pure inside

  -- "[" [ exprs ] "]"
  unfoldable pub list : Language Expression
  list = do
    mark m.LeftBracket
    found ← any_listed (inner expr)
    mark m.RightBracket
    pure (t.list (expressions found))

  -- expr ":" expr
  unfoldable pub pair : Language (Expression × Expression)
  pair = do
    key ← inner expr
    mark m.Colon
    value ← inner expr
    pure (key, value)

  -- "{" [ pair { "," pair } [ "," ] ] "}"
  unfoldable pub dict : Language Expression
  dict = do
    mark m.LeftBrace
    found ← any_listed pair
    mark m.RightBrace
    pure (t.dict (pairs found))

-- Brackets need room for one more nesting, even where nothing stands in them.
module _ (room : Bool) (inner : Phrase → Language Expression) where
  unfoldable pub trailer : Language Trailer
  trailer = attribute inner or bracketed room (call inner or item inner or slice inner)

  -- NAME | INT | STR { STR } | "(" [ exprs ] ")" | "[" [ exprs ] "]" | "{" [ pair { "," pair } [ "," ] ] "}" | "None" | "True" | "False"
  unfoldable pub atom : Language Expression
  atom = name or integer or text or bracketed room (parenthesised inner) or bracketed room (list inner) or bracketed room (dict inner) or one_of constant_of

  -- atom { trailer }, in its parts
  unfoldable pub primary_parts : Language (Expression × List Trailer)
  primary_parts = do
    first ← atom
    found ← many trailer
    pure (first, found)

  unfoldable pub primary : Language Expression
  primary = do
    parts ← primary_parts
    pure (with_trailers parts.0 parts.1)

  -- primary [ "**" unary ]
  unfoldable pub power : Language Expression
  power = do
    base ← primary
    pure base or (do
      mark m.Power
      exponent ← inner unary
      pure (t.power base exponent))

  -- ("+"|"-") unary | power
  unfoldable pub unary_level : Language Expression
  unary_level = (do
    before ← one_of sign
    operand ← inner unary
    pure (t.signed before operand)) or power

  -- unary { ("*"|"//"|"%") unary }
  unfoldable pub term : Language Expression
  term = operated unary_level (one_of product_operator) multiplied

  -- term { ("+"|"-") term }
  unfoldable pub sum : Language Expression
  sum = operated term (one_of sum_operator) summed

  -- sum { cop sum }
  unfoldable pub compared : Language Expression
  compared = operated sum comparison compared_with

  -- "not" not | comp
  unfoldable pub negated_level : Language Expression
  negated_level = (do
    mark m.Not
    operand ← inner negated
    pure (t.not operand)) or compared

  -- not { "and" not }
  unfoldable pub conjunction : Language Expression
  conjunction = operated negated_level (mark m.And) all_of

  -- and { "or" and }
  unfoldable pub disjunction : Language Expression
  disjunction = operated conjunction (mark m.Or) any_of

  -- or [ "if" or "else" expr ]
  unfoldable pub expr_level : Language Expression
  expr_level = do
    value ← disjunction
    pure value or (do
      mark m.If
      test ← disjunction
      mark m.Else
      other ← inner expr
      pure (t.conditional value test other))

  -- expr { "," expr } [ "," ]
  unfoldable pub exprs_level : Language Expression
  exprs_level = listed expr_level alone several

abbrev pub level : Bool → (Phrase → Language Expression) → Phrase → Language Expression
level room inner exprs = exprs_level room inner
level room inner expr = expr_level room inner
level room inner negated = negated_level room inner
level room inner unary = unary_level room inner

-- one nesting more is left
abbrev pub has_room : ℕ → Bool
has_room zero = false
has_room (suc depth) = true

-- A phrase with so many levels, its own among them: each nesting in it is one level deeper.
unfoldable pub phrase : ℕ → Phrase → Language Expression
phrase zero p = none
phrase (suc depth) p = level (has_room depth) (phrase depth) p

-- at most 60 nestings around a point, and the level of the point itself
abbrev pub deepest : ℕ
deepest = 61
