use Rattle.std.proofs.Common.{◌∙◌, ap}
use Rattle.std.specs.Prelude.{option_map}
use Rattle.kishu_meaning.specs.values.Values.{value_of}
use Rattle.kishu_names.specs.Namespace.{names_of}
use Rattle.kishu_names.proofs.Bound.{finds, unbinds}
use Rattle.kishu_names.proofs.bindings.take.Goals as goal

pub returns-clause-value : goal.returns-clause-value
returns-clause-value c = ap (option_map value_of) c.remove.ensures.value ∙ finds c.args.name.now c.args.bound.now.entries

pub returns-clause-names : goal.returns-clause-names
returns-clause-names c = ap names_of c.remove.ensures.entries ∙ unbinds c.args.name.now c.args.bound.now.entries
