use Rattle.std.proofs.Common.{◌∙◌, ap}
use Rattle.std.specs.Prelude.{not}
use Rattle.std.specs.Rc.{rc_str_bytes}
use Rattle.kishu_language.specs.tokens.Names.{is_among}
use Rattle.kishu_parser.specs.Sets.{names_in}
use Rattle.kishu_parser.proofs.NameSets.{among_keys, inserted}
use Rattle.kishu_parser.proofs.texts.Texts.insert.Goals as goal

pub returns-clause-new : goal.returns-clause-new
returns-clause-new c =
    c.in_ok-insert.ensures.added
    ∙ ap not (among_keys (rc_str_bytes c.in_ok-name.name) c.args.self.now.names.keys)
    ∙ ap (λ x. not (is_among x (names_in c.args.self.now))) c.in_ok-name.ensures.cases

pub returns-clause-names : goal.returns-clause-names
returns-clause-names c = inserted c.args.self.now.names.keys _ c.in_ok-name.name c.args.name.now c.in_ok-name.ensures.cases c.in_ok-insert.ensures.keys
