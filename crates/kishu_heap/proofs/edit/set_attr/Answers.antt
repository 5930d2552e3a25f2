use Rattle.std.proofs.Common.{◌∙◌, ap}
use Rattle.std.specs.Rc.{rc_str_bytes}
use Rattle.std.specs.Str.{bytes_eq}
use Rattle.kishu_meaning.specs.values.Values.{object}
use Rattle.kishu_heap.specs.Cells.{attributes_of}
use Rattle.kishu_heap.proofs.Entries.{inserts}
use Rattle.kishu_heap.proofs.edit.set_attr.Goals as goal

pub returns-in_ok-insert-clause-ok : goal.returns-in_ok-insert-clause-ok
returns-in_ok-insert-clause-ok c =
    rw c.in-Object.is (ap (λ es. object (attributes_of es)) c.in_ok-insert.ensures.entries ∙ ap object (inserts rc_str_bytes bytes_eq c.args.name c.args.value c.in-Object.attributes.entries))
