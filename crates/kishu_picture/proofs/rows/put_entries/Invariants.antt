use Rattle.std.proofs.Common.{◌++◌, drop}
use Rattle.kishu_meaning.specs.values.Keys.{Key}
use Rattle.kishu_meaning.specs.values.Values.{Value}
use Rattle.kishu_objects.specs.Bytes.{entry_bytes}
use Rattle.kishu_objects.specs.Fits.{KeyFits, ValueFits}
use Rattle.kishu_picture.specs.Rows.{entries_at, dict_bytes}
use Rattle.kishu_picture.proofs.Putting.{IsPutting}
use Rattle.kishu_picture.proofs.rows.put_entries.Given as goal

abbrev pub invariant-loop-i : goal.invariant-loop-i
invariant-loop-i l =
    IsPutting entry_bytes (λ (e : Key × Value). KeyFits e.0 × ValueFits e.1) (entries_at l.found.keys l.entries.entries)
    (l.fn.out.items ++ dict_bytes l.found.keys l.entries.entries) l.out.items
    (entries_at l.found.keys (drop l.i l.entries.entries))
