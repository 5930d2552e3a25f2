use Rattle.std.proofs.Common.{◌∙◌, ap, option_map}
use Rattle.kishu_meaning.specs.values.Keys.{key_of, is_one}
use Rattle.kishu_meaning.specs.values.Values.{value_of, dict}
use Rattle.kishu_heap.specs.Cells.{entries_of}
use Rattle.kishu_heap.proofs.Entries.{finds, removes}
use Rattle.kishu_heap.proofs.edit.remove.Goals as goal

pub returns-in-Dict-clause-value : goal.returns-in-Dict-clause-value
returns-in-Dict-clause-value c =
    rw c.in-Dict.is (ap (option_map value_of) c.shift_remove.ensures.value ∙ finds key_of is_one (key_of c.args.key.now) c.in-Dict.entries.entries)

pub returns-in-Dict-clause-node : goal.returns-in-Dict-clause-node
returns-in-Dict-clause-node c =
    rw c.in-Dict.is (ap (λ es. dict (entries_of es)) c.shift_remove.ensures.entries ∙ ap dict (removes key_of is_one (key_of c.args.key.now) c.in-Dict.entries.entries))
