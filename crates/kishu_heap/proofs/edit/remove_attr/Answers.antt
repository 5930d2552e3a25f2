use Rattle.std.proofs.Common.{◌∙◌, ap, option_map}
use Rattle.std.specs.Rc.{rc_str_bytes}
use Rattle.std.specs.Str.{bytes_eq}
use Rattle.kishu_meaning.specs.values.Values.{value_of, object}
use Rattle.kishu_heap.specs.Cells.{attributes_of}
use Rattle.kishu_heap.proofs.Entries.{finds, removes}
use Rattle.kishu_heap.proofs.edit.remove_attr.Goals as goal

pub returns-in-Object-clause-value : goal.returns-in-Object-clause-value
returns-in-Object-clause-value c =
    rw c.in-Object.is (ap (option_map value_of) c.shift_remove.ensures.value ∙ finds rc_str_bytes bytes_eq c.args.name.now c.in-Object.attributes.entries)

pub returns-in-Object-clause-node : goal.returns-in-Object-clause-node
returns-in-Object-clause-node c =
    rw c.in-Object.is (ap (λ es. object (attributes_of es)) c.shift_remove.ensures.entries ∙ ap object (removes rc_str_bytes bytes_eq c.args.name.now c.in-Object.attributes.entries))
