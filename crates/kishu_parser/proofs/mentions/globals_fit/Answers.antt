use Rattle.std.proofs.Common.{◌≡◌, [], map, sym, ap, ◌∙◌, subst}
use Rattle.kishu_language.specs.trees.Tree.{parameter_of, statements, statement_of}
use Rattle.kishu_language.specs.grammar.Refusals.{titles, in_statements}
use Rattle.kishu_parser.specs.Sets.{names_in, with_names}
use Rattle.kishu_parser.proofs.NameSets.{Same, parameters_seen}
use Rattle.kishu_parser.proofs.Walks.{fits_globals}
use Rattle.kishu_parser.proofs.mentions.globals_fit.Goals as goal

pub returns : goal.returns
returns c =
    let xs = titles (map parameter_of c.args.params.now) in
    let e = c.in_ok-add_titles.ensures ∙ ap (λ z. with_names z xs) c.new-seen.ensures in
    fits_globals c.statements_fit.result (names_in c.add_titles.new.seen) (names_in c.statements_fit.new.seen) xs (in_statements (statements (map statement_of c.args.body.now)))
    (subst (λ z. Same z xs) (sym e) (parameters_seen xs)) c.statements_fit.ensures
