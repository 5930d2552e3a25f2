use Rattle.std.proofs.Common.{◌++◌, ℕ, List, drop}
use Rattle.kishu_meaning.specs.values.Values.{Value}
use Rattle.kishu_objects.specs.Bytes.{name_bytes}
use Rattle.kishu_objects.specs.Fits.{ValueFits}
use Rattle.kishu_picture.specs.Rows.{attributes_at, object_bytes}
use Rattle.kishu_picture.proofs.Putting.{IsPutting}
use Rattle.kishu_picture.proofs.rows.put_attributes.Given as goal

abbrev pub invariant-loop-i : goal.invariant-loop-i
invariant-loop-i l =
    IsPutting name_bytes (λ (a : List ℕ × Value). ValueFits a.1) (attributes_at l.found.keys l.attributes.entries)
    (l.fn.out.items ++ object_bytes l.found.keys l.attributes.entries) l.out.items
    (attributes_at l.found.keys (drop l.i l.attributes.entries))
