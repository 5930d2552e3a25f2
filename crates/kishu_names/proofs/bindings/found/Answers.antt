use Rattle.std.proofs.Common.{◌∙◌, ap}
use Rattle.std.specs.Prelude.{option_map}
use Rattle.kishu_meaning.specs.values.Values.{value_of}
use Rattle.kishu_names.proofs.Bound.{copied_value, finds}
use Rattle.kishu_names.proofs.bindings.found.Goals as goal

pub returns : goal.returns
returns c = copied_value c.get.result ∙ ap (option_map value_of) c.get.ensures.value ∙ finds c.args.name.now c.args.bound.now.entries
