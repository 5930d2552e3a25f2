use Rattle.std.proofs.Common.{◌≡◌, [], ◌∷◌, map}
use Rattle.std.specs.Prelude.{flat_map}
use Rattle.std.specs.Rc.{rc_str_bytes}
use Rattle.kishu_language.specs.trees.Tree.{parameter_of}
use Rattle.kishu_language.specs.grammar.Refusals.{variable, in_parameter}
use Rattle.kishu_parser.specs.Sets.{names_in}
use Rattle.kishu_parser.proofs.Walks.{then_ok, title_is, parameters_are}
use Rattle.kishu_parser.proofs.mentions.add_head.Goals as goal

pub returns : goal.returns
returns c =
    rw (title_is c.args.definition.now, parameters_are c.args.definition.now)
    (then_ok c.add_defaults.result (names_in c.args.seen.now) (names_in c.add.new.seen) (names_in c.add_defaults.new.seen)
    (variable (rc_str_bytes c.args.definition.now.name) ∷ []) (flat_map in_parameter (map parameter_of c.args.definition.now.params.items))
    c.in_ok-add.ensures (rw c.deref.ensures.value at c.add_defaults.ensures))
