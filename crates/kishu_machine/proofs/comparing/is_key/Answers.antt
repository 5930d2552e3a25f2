use Rattle.std.proofs.Common.{◌∙◌, ap, option_map}
use Rattle.std.specs.Prelude.{is_some}
use Rattle.kishu_meaning.specs.values.Keys.{key_of}
use Rattle.kishu_meaning.specs.values.Values.{value_of}
use Rattle.kishu_machine.specs.Lists.{copied_value}
use Rattle.kishu_machine.proofs.Members.{finds_entry, still_some}
use Rattle.kishu_machine.proofs.comparing.is_key.Goals as goal

pub returns : goal.returns
returns c =
    c.is_some.ensures
    ∙ still_some (λ v. value_of v.now) c.get.result
    ∙ ap is_some (copied_value c.get.result ∙ ap (option_map value_of) c.get.ensures.value ∙ finds_entry (key_of c.args.key.now) c.args.entries.now.entries)
