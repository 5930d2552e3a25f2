-- What lists of the code's trees stand for.
use Rattle.std.specs.Prelude.{List, map}
use Rattle.std.specs.declared.alloc.Global.{Global}
use Rattle.std.specs.declared.vec.Vec.{Vec}
use Rattle.std.specs.declared.rc.RcStr.{RcStr}
use Rattle.std.specs.Rc.{rc_str_bytes}
use Rattle.kishu_language.specs.declared.tree.Operator.{Operator}
use Rattle.kishu_language.specs.declared.tree.Comparison.{Comparison}
use Rattle.kishu_language.specs.declared.tree.Expr.{Expr}
use Rattle.kishu_language.specs.declared.tree.Link.{Link}
use Rattle.kishu_language.specs.declared.tree.Operand.{Operand}
use Rattle.kishu_language.specs.declared.tree.Pair.{Pair}
use Rattle.kishu_language.specs.declared.tree.Trailer as rust_trailer
use Rattle.kishu_language.specs.declared.tree.Argument as rust_argument
use Rattle.kishu_language.specs.grammar.Grammar.{Phrase, exprs, expr, negated, unary}
use Rattle.kishu_parser.specs.declared.expressions.Phrase as rust_phrase
use Rattle.kishu_parser.specs.declared.expressions.Phrase.TheVariants as phrases
use Rattle.kishu_language.specs.trees.Tree.{Text, Expression, Trailer, Argument, expression_of}
use Rattle.kishu_language.specs.trees.Parts.{link_of, operand_of, pair_of, trailer_of, argument_of}

abbrev pub expressions_in : Vec Expr Global → List Expression
expressions_in v = map expression_of v.items

abbrev pub links_in : Vec Link Global → List (Comparison × Expression)
links_in v = map link_of v.items

abbrev pub operands_in : Vec Operand Global → List (Operator × Expression)
operands_in v = map operand_of v.items

-- operands of one operator
abbrev pub joined_in : Vec Expr Global → List (Unit {0} × Expression)
joined_in v = map (λ e. (tt, expression_of e)) v.items

abbrev pub pairs_in : Vec Pair Global → List (Expression × Expression)
pairs_in v = map pair_of v.items

abbrev pub trailers_in : Vec rust_trailer.Trailer Global → List Trailer
trailers_in v = map trailer_of v.items

abbrev pub arguments_in : Vec rust_argument.Argument Global → List Argument
arguments_in v = map argument_of v.items

abbrev pub texts_in : Vec (RcStr Global) Global → List Text
texts_in v = map rc_str_bytes v.items

abbrev pub both_of : Expr × Expr → Expression × Expression
both_of p = (expression_of p.0, expression_of p.1)

abbrev pub phrase_of : rust_phrase.Phrase → Phrase
phrase_of phrases.Exprs = exprs
phrase_of phrases.Expr = expr
phrase_of phrases.Negated = negated
phrase_of phrases.Unary = unary
