use Rattle.std.proofs.Common.{◌++◌, drop}
use Rattle.kishu_objects.specs.Bytes.{value_bytes}
use Rattle.kishu_objects.specs.Fits.{ValueFits}
use Rattle.kishu_picture.specs.Rows.{values_at, list_bytes}
use Rattle.kishu_picture.proofs.Putting.{IsPutting}
use Rattle.kishu_picture.proofs.rows.put_values.Given as goal

abbrev pub invariant-loop-value : goal.invariant-loop-value
invariant-loop-value l =
    IsPutting value_bytes ValueFits (values_at l.found.keys l.values) (l.fn.out.items ++ list_bytes l.found.keys l.values) l.out.items
    (values_at l.found.keys (drop l.value-index l.values))
