use Rattle.std.proofs.Common.{◌∙◌, ap, option_map}
use Rattle.kishu_meaning.specs.values.Values.{value_of}
use Rattle.kishu_machine.specs.Lists.{copied_value}
use Rattle.kishu_access.proofs.Looking.{finds}
use Rattle.std.specs.Rc.{rc_str_bytes}
use Rattle.std.specs.Str.{bytes_eq}
use Rattle.kishu_access.proofs.attributes.found.Goals as goal

pub returns : goal.returns
returns c = copied_value c.get.result ∙ ap (option_map value_of) c.get.ensures.value ∙ finds rc_str_bytes bytes_eq c.args.name.now c.args.attributes.now.entries
