use Rattle.std.proofs.Common.{◌∙◌, List, ap}
use Rattle.kishu_names.specs.Record.{texts_of}
use Rattle.kishu_store.specs.Groups.{Group, is_one_of}
use Rattle.kishu_delta.proofs.Keys.{among_groups}
use Rattle.kishu_delta.proofs.sets.GroupSet.has.Goals as goal

pub returns : goal.returns
returns c = c.contains.ensures ∙ among_groups c.args.group.now c.self.inside.groups.keys ∙ ap (λ (gs : List Group). is_one_of (texts_of c.args.group.now) gs) c.self.view_is
