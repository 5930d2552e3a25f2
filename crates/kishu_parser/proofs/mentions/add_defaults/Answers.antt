use Rattle.std.proofs.Common.{◌≡◌, List, map, refl}
use Rattle.std.specs.Prelude.{flat_map, Option}
use Rattle.std.specs.declared.alloc.Global.{Global}
use Rattle.std.specs.declared.rc.RcStr.{RcStr}
use Rattle.kishu_language.specs.declared.tree.Expr.{Expr}
use Rattle.kishu_language.specs.trees.Tree.{parameter_of, value_of}
use Rattle.kishu_language.specs.grammar.Refusals.{in_optional, in_parameter}
use Rattle.kishu_parser.specs.Sets.{names_in, note}
use Rattle.kishu_parser.proofs.Walks.{told_more}
use Rattle.kishu_parser.proofs.mentions.add_defaults.Goals as goal

pub loop-default-preserved : goal.loop-default-preserved
loop-default-preserved c =
    told_more (λ (p : RcStr Global × Option Expr). in_optional (value_of p.1)) (λ (ys : List (RcStr Global × Option Expr)). flat_map in_parameter (map parameter_of ys)) (λ x xs. refl)
    (note (names_in c.args.seen.now) (flat_map in_parameter (map parameter_of c.args.params.now))) c.args.params.now c.loop-default.default-index c.loop-default-item.result
    (names_in c.loop-default.seen) (names_in c.add_optional.new.seen) c.loop-default.invariant c.loop-default-test.true c.loop-default-item.is c.in_ok-add_optional.ensures
