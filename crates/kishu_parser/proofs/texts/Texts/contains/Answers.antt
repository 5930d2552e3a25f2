use Rattle.std.proofs.Common.{◌∙◌}
use Rattle.std.specs.Rc.{rc_str_bytes}
use Rattle.kishu_parser.proofs.NameSets.{among_keys}
use Rattle.kishu_parser.proofs.texts.Texts.contains.Goals as goal

pub returns : goal.returns
returns c = c.contains.ensures ∙ among_keys (rc_str_bytes c.args.name.now) c.args.self.now.names.keys
