use Rattle.std.proofs.Common.{[], refl}
use Rattle.kishu_names.specs.Record.{texts_of}
use Rattle.kishu_objects.specs.Bytes.{name_bytes}
use Rattle.kishu_objects.specs.Picture.{bound}
use Rattle.kishu_picture.specs.Held.{held}
use Rattle.kishu_picture.proofs.Summing.{summing_begins}
use Rattle.kishu_picture.proofs.lengths.names_len.Goals as goal

pub loop-name-init : goal.loop-name-init
loop-name-init c = summing_begins name_bytes (bound (held [] c.args.names.now) (texts_of c.args.group.now)) 4 refl
