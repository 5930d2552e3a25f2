use Rattle.std.proofs.Common.{sym, subst, map}
use Rattle.std.proofs.lemmas.Result.{err_from_is_err_and}
use Rattle.kishu_language.specs.grammar.Parse.{Parse}
use Rattle.kishu_language_laws.specs.codes.CodeLaws.{codes_read}
use Rattle.kishu_language_laws.specs.reading.ExactText.{one_parse}
use Rattle.kishu_language_laws.specs.trees.HeightLaws.{tree_height}
use Rattle.kishu_parser.specs.TopLevel.{piece_of}
use Rattle.kishu_parser.specs.TopLaws.{pieces_tree}
use Rattle.kishu_parser.proofs.Whole.{no_fault}
use Rattle.kishu_parser.proofs.top.parse.Goals as goal

pub returns-in_err-all-clause-only : goal.returns-in_err-all-clause-only
returns-in_err-all-clause-only c tree h =
    let p = err_from_is_err_and c.from_residual.result c.from_residual.ensures.1 in
    rw (p.1, p.2) (no_fault c.args.profile c.args.text.now tree _ c.in_err-all.ensures.line h)

pub returns-clause-found : goal.returns-clause-found
returns-clause-found c = subst (λ t. Parse c.args.profile c.args.text.now t) (sym c.in_ok-statements.ensures) (pieces_tree c.args.profile c.args.text.now (map piece_of c.in_ok-all.all.items) c.in_ok-all.ensures.found)

pub returns-clause-only : goal.returns-clause-only
returns-clause-only c tree h = one_parse c.args.profile c.args.text.now _ tree
    (subst (λ t. Parse c.args.profile c.args.text.now t) (sym c.in_ok-statements.ensures) (pieces_tree c.args.profile c.args.text.now (map piece_of c.in_ok-all.all.items) c.in_ok-all.ensures.found)) h

pub returns-clause-height : goal.returns-clause-height
returns-clause-height c = tree_height c.args.profile c.args.text.now _
    (subst (λ t. Parse c.args.profile c.args.text.now t) (sym c.in_ok-statements.ensures) (pieces_tree c.args.profile c.args.text.now (map piece_of c.in_ok-all.all.items) c.in_ok-all.ensures.found))

pub returns-clause-codes : goal.returns-clause-codes
returns-clause-codes c = codes_read c.args.profile c.args.text.now c.utf8.text _
    (subst (λ t. Parse c.args.profile c.args.text.now t) (sym c.in_ok-statements.ensures) (pieces_tree c.args.profile c.args.text.now (map piece_of c.in_ok-all.all.items) c.in_ok-all.ensures.found))
