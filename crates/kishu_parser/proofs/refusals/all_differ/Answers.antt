use Rattle.std.proofs.Common.{map, sym, ap, ◌∙◌}
use Rattle.kishu_language.specs.trees.Tree.{parameter_of}
use Rattle.kishu_language.specs.grammar.Refusals.{titles}
use Rattle.kishu_parser.proofs.NameSets.{fresh, fresh_differ}
use Rattle.kishu_parser.proofs.refusals.all_differ.Goals as goal

pub loop-name-init : goal.loop-name-init
loop-name-init c = sym (fresh_differ (titles (map parameter_of c.args.params.now))) ∙ ap (λ s. fresh s (titles (map parameter_of c.args.params.now))) (sym c.new-seen.ensures)
