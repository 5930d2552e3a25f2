use Rattle.std.proofs.Common.{◌∙◌, ap}
use Rattle.kishu_meaning.specs.values.Keys.{key_of, is_one}
use Rattle.kishu_meaning.specs.values.Values.{dict}
use Rattle.kishu_heap.specs.Cells.{entries_of}
use Rattle.kishu_heap.proofs.Entries.{inserts}
use Rattle.kishu_heap.proofs.edit.insert.Goals as goal

pub returns-in_ok-insert-clause-ok : goal.returns-in_ok-insert-clause-ok
returns-in_ok-insert-clause-ok c =
    rw c.in-Dict.is (ap (λ es. dict (entries_of es)) c.in_ok-insert.ensures.entries ∙ ap dict (inserts key_of is_one c.args.key c.args.value c.in-Dict.entries.entries))
