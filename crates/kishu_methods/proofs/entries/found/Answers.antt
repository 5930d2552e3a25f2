use Rattle.std.proofs.Common.{◌∙◌, ap, option_map}
use Rattle.kishu_meaning.specs.values.Keys.{key_of}
use Rattle.kishu_meaning.specs.values.Values.{value_of}
use Rattle.kishu_methods.proofs.DictNodes.{finds, copied_value}
use Rattle.kishu_methods.proofs.entries.found.Goals as goal

pub returns : goal.returns
returns c = copied_value c.get.result ∙ ap (option_map value_of) c.get.ensures.value ∙ finds (key_of c.args.key.now) c.args.entries.now.entries
