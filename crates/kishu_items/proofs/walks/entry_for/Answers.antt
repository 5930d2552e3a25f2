use Rattle.std.proofs.Common.{length}
use Rattle.std.specs.Prelude.{option_map}
use Rattle.kishu_heap.specs.Cells.{entries_of}
use Rattle.kishu_meaning.specs.items.Walks.{or_none_there}
use Rattle.kishu_items.proofs.Found.{entries_there, entry_sound}
use Rattle.kishu_items.proofs.walks.entry_for.Goals as goal

pub returns-clause-sound : goal.returns-clause-sound
returns-clause-sound g c =
    let n = length c.args.heap.now in
    let o = c.entries_at-entries.result in
    entry_sound n c.args.k (or_none_there (option_map (λ m. entries_of m.now.entries) o)) c.in_ok-entry_at.field-0 c.in_ok-entry_at.ensures (entries_there (λ m. entries_of m.now.entries) n o c.entries_at-entries.ensures.sound)
