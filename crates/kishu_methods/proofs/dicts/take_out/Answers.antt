use Rattle.std.proofs.Common.{◌∙◌, ap, length}
use Rattle.kishu_meaning.specs.values.Keys.{key_of}
use Rattle.kishu_methods.specs.Contents.{entries_at}
use Rattle.kishu_methods.proofs.Changes.{length_changed}
use Rattle.kishu_methods.proofs.DictNodes.{misses}
use Rattle.kishu_methods.proofs.dicts.take_out.Goals as goal

pub returns-clause-none : goal.returns-clause-none
returns-clause-none c =
    misses c.remove.result (key_of c.args.key.now) (entries_at c.args.heap.now c.args.id.0) c.args.id.0 c.args.heap.now c.remove.new.self c.requires.dict c.remove.ensures.value c.remove.ensures.nodes

pub returns-clause-long : goal.returns-clause-long
returns-clause-long c = ap length c.remove.ensures.nodes ∙ length_changed _ _ _
