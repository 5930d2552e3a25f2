-- What the functions of the cycle are handed: trees that are low, and that fit.
use Rattle.std.specs.Prelude.{◌<◌, List, map, Option}
use Rattle.kishu_language.specs.Limits.{height_limit}
use Rattle.kishu_language.specs.declared.tree.Argument.{Argument}
use Rattle.kishu_language.specs.declared.tree.Expr.{Expr}
use Rattle.kishu_language.specs.declared.tree.Handler.{Handler}
use Rattle.kishu_language.specs.declared.tree.Pair.{Pair}
use Rattle.kishu_language.specs.declared.tree.Stmt.{Stmt}
use Rattle.kishu_language.specs.declared.tree.Trailer.{Trailer}
use Rattle.kishu_language.specs.trees.Fits.{ArgumentsFit, BoundFits, ExpressionFits, ExpressionsFit, HandlersFit, ListFits, OptionalFits, PairsFit, StatementsFit, TrailersFit}
use Rattle.kishu_language.specs.trees.Height.{of_arguments, of_bound, of_expression, of_expressions, of_handlers, of_list, of_optional, of_pairs, of_statements, of_trailers}
use Rattle.kishu_language.specs.trees.Tree.{bound_of, expression_of, value_of}
use Rattle.kishu_language.specs.trees.Parts.{arguments_of, expressions_of, handlers_of, pairs_of, statements_of, trailers_of}

-- an expression, and one that may be left out
abbrev pub LowExpression : Expr → Type 0
LowExpression e = of_expression (expression_of e) < height_limit

abbrev pub FitExpression : Expr → Type 0
FitExpression e = ExpressionFits (expression_of e)

abbrev pub LowOptional : Option Expr → Type 0
LowOptional e = of_optional (value_of e) < height_limit

abbrev pub FitOptional : Option Expr → Type 0
FitOptional e = OptionalFits (value_of e)

-- a bound of a slice
abbrev pub LowBound : Option Expr → Type 0
LowBound e = of_bound (bound_of (value_of e)) < height_limit

abbrev pub FitBound : Option Expr → Type 0
FitBound e = BoundFits (bound_of (value_of e))

-- expressions, and targets
abbrev pub LowExpressions : List Expr → Type 0
LowExpressions es = of_expressions (expressions_of es) < height_limit

abbrev pub FitExpressions : List Expr → Type 0
FitExpressions es = ExpressionsFit (expressions_of es)

abbrev pub LowTargets : List Expr → Type 0
LowTargets es = of_list (map expression_of es) < height_limit

abbrev pub FitTargets : List Expr → Type 0
FitTargets es = ListFits (map expression_of es)

-- the pairs of a dict
abbrev pub LowPairs : List Pair → Type 0
LowPairs ps = of_pairs (pairs_of ps) < height_limit

abbrev pub FitPairs : List Pair → Type 0
FitPairs ps = PairsFit (pairs_of ps)

-- what stands behind an atom, and the arguments of a call
abbrev pub LowTrailers : List Trailer → Type 0
LowTrailers ts = of_trailers (trailers_of ts) < height_limit

abbrev pub FitTrailers : List Trailer → Type 0
FitTrailers ts = TrailersFit (trailers_of ts)

abbrev pub LowArguments : List Argument → Type 0
LowArguments as' = of_arguments (arguments_of as') < height_limit

abbrev pub FitArguments : List Argument → Type 0
FitArguments as' = ArgumentsFit (arguments_of as')

-- a block, and the handlers of a `try`
abbrev pub LowBlock : List Stmt → Type 0
LowBlock ss = of_statements (statements_of ss) < height_limit

abbrev pub FitBlock : List Stmt → Type 0
FitBlock ss = StatementsFit (statements_of ss)

abbrev pub LowHandlers : List Handler → Type 0
LowHandlers hs = of_handlers (handlers_of hs) < height_limit

abbrev pub FitHandlers : List Handler → Type 0
FitHandlers hs = HandlersFit (handlers_of hs)
