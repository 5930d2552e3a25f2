-- What the parts of the code's trees stand for.
use Rattle.std.specs.Prelude.{List, map}
use Rattle.kishu_language.specs.declared.tree.Operator.{Operator}
use Rattle.kishu_language.specs.declared.tree.Comparison.{Comparison}
use Rattle.kishu_language.specs.declared.tree.Expr.{Expr}
use Rattle.kishu_language.specs.declared.tree.Arm as rust_arm
use Rattle.kishu_language.specs.declared.tree.Handler as rust_handler
use Rattle.kishu_language.specs.declared.tree.Stmt.{Stmt}
use Rattle.kishu_language.specs.declared.tree.Stmt.TheFolds.{fold-Arm, fold-Handler}
use Rattle.kishu_language.specs.declared.tree.Link.{Link}
use Rattle.kishu_language.specs.declared.tree.Operand.{Operand}
use Rattle.kishu_language.specs.declared.tree.Pair.{Pair}
use Rattle.kishu_language.specs.declared.tree.Trailer as rust_trailer
use Rattle.kishu_language.specs.declared.tree.Argument as rust_argument
use Rattle.kishu_language.specs.declared.tree.Argument.TheFolds.{fold-Argument, fold-Trailer, fold-Link, fold-Operand, fold-Pair}
use Rattle.kishu_language.specs.trees.Tree.{Expression, Expressions, Operands, Links, Trailer, Trailers, Argument, Arguments, Statement, Statements, Arm, Arms, Definition, Handler, Handlers, Pairs, expressions, operands, links, pairs, trailers, arguments, statements, arms, handlers, expression_of, statement_of, argument_step, expression_step, trailer_step, link_step, operand_step, pair_step, statement_step, arm_step, definition_step, handler_step}

unfoldable pub link_of : Link → Comparison × Expression
link_of = fold-Link Argument Expression Trailer (Comparison × Expression) (Operator × Expression) (Expression × Expression) argument_step expression_step trailer_step link_step operand_step pair_step

unfoldable pub operand_of : Operand → Operator × Expression
operand_of = fold-Operand Argument Expression Trailer (Comparison × Expression) (Operator × Expression) (Expression × Expression) argument_step expression_step trailer_step link_step operand_step pair_step

unfoldable pub pair_of : Pair → Expression × Expression
pair_of = fold-Pair Argument Expression Trailer (Comparison × Expression) (Operator × Expression) (Expression × Expression) argument_step expression_step trailer_step link_step operand_step pair_step

unfoldable pub trailer_of : rust_trailer.Trailer → Trailer
trailer_of = fold-Trailer Argument Expression Trailer (Comparison × Expression) (Operator × Expression) (Expression × Expression) argument_step expression_step trailer_step link_step operand_step pair_step

unfoldable pub argument_of : rust_argument.Argument → Argument
argument_of = fold-Argument Argument Expression Trailer (Comparison × Expression) (Operator × Expression) (Expression × Expression) argument_step expression_step trailer_step link_step operand_step pair_step

unfoldable pub arm_of : rust_arm.Arm → Arm
arm_of = fold-Arm Statement Arm Definition Handler statement_step arm_step definition_step handler_step

unfoldable pub handler_of : rust_handler.Handler → Handler
handler_of = fold-Handler Statement Arm Definition Handler statement_step arm_step definition_step handler_step

-- of lists

abbrev pub expressions_of : List Expr → Expressions
expressions_of es = expressions (map expression_of es)

abbrev pub operands_of : List Operand → Operands
operands_of os = operands (map operand_of os)

abbrev pub links_of : List Link → Links
links_of ls = links (map link_of ls)

abbrev pub trailers_of : List rust_trailer.Trailer → Trailers
trailers_of ts = trailers (map trailer_of ts)

abbrev pub arguments_of : List rust_argument.Argument → Arguments
arguments_of as' = arguments (map argument_of as')

abbrev pub statements_of : List Stmt → Statements
statements_of ss = statements (map statement_of ss)

abbrev pub arms_of : List rust_arm.Arm → Arms
arms_of as' = arms (map arm_of as')

abbrev pub pairs_of : List Pair → Pairs
pairs_of ps = pairs (map pair_of ps)

abbrev pub handlers_of : List rust_handler.Handler → Handlers
handlers_of hs = handlers (map handler_of hs)
