use Rattle.std.proofs.Common.{◌++◌, ℕ, List, drop}
use Rattle.kishu_meaning.specs.values.Values.{Value}
use Rattle.kishu_names.specs.Record.{texts_of}
use Rattle.kishu_objects.specs.Bytes.{name_bytes}
use Rattle.kishu_objects.specs.Fits.{ValueFits}
use Rattle.kishu_picture.specs.Rows.{names_of, names_bytes}
use Rattle.kishu_picture.proofs.Putting.{IsPutting}
use Rattle.kishu_picture.proofs.writing.put_names.Given as goal

abbrev pub invariant-loop-name : goal.invariant-loop-name
invariant-loop-name l =
    IsPutting name_bytes (λ (a : List ℕ × Value). ValueFits a.1) (names_of l.found.keys l.names.bound (texts_of l.group))
    (l.fn.out.items ++ names_bytes l.found.keys l.names l.group) l.out.items
    (names_of l.found.keys l.names.bound (texts_of (drop l.name-index l.group)))
