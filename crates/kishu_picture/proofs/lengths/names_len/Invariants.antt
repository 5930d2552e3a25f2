use Rattle.std.proofs.Common.{[], drop}
use Rattle.kishu_names.specs.Record.{texts_of}
use Rattle.kishu_objects.specs.Bytes.{name_bytes}
use Rattle.kishu_objects.specs.Picture.{bound}
use Rattle.kishu_picture.specs.Held.{held}
use Rattle.kishu_picture.proofs.Summing.{IsSumming}
use Rattle.kishu_picture.proofs.lengths.names_len.Given as goal

abbrev pub invariant-loop-name : goal.invariant-loop-name
invariant-loop-name l = IsSumming name_bytes (bound (held [] l.names) (texts_of l.group)) l.len
    (bound (held [] l.names) (texts_of (drop l.name-index l.group)))
