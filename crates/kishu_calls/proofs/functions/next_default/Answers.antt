use Rattle.std.proofs.Common.{◌∙◌, map}
use Rattle.kishu_meaning.specs.values.Values.{value_of}
use Rattle.kishu_calls.proofs.Binding.{got_value, default_there}
use Rattle.kishu_calls.proofs.functions.next_default.Goals as goal

pub returns-in-Some : goal.returns-in-Some
returns-in-Some c =
    got_value c.get.result c.args.defaults.now c.args.used c.get.ensures.lookup
    ∙ default_there c.args.default.now c.in-Some.field-0 (map value_of c.args.defaults.now) c.args.used c.in-Some.is
