use Rattle.std.proofs.Common.{◌≡◌, drop, []}
use Rattle.kishu_names.specs.Record.{texts_of}
use Rattle.kishu_objects.specs.Picture.{roots}
use Rattle.kishu_objects_laws.specs.WalkLaws.{noted_all}
use Rattle.kishu_picture.specs.Held.{held}
use Rattle.kishu_picture.proofs.meeting.note_names.Given as goal

abbrev pub invariant-loop-name : goal.invariant-loop-name
invariant-loop-name l = noted_all l.found.keys (roots (held [] l.names) (texts_of (drop l.name-index l.group))) ≡ noted_all l.fn.found.keys
    (roots (held [] l.names) (texts_of l.group))
