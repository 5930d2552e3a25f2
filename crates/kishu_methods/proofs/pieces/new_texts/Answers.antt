use Rattle.std.proofs.Common.{length, map}
use Rattle.kishu_meaning.specs.values.Texts.{code_points}
use Rattle.kishu_meaning.specs.values.Values.{value_of}
use Rattle.kishu_methods.proofs.Joins.{sound_texts}
use Rattle.kishu_methods.proofs.pieces.new_texts.Goals as goal

pub make-requires-clause-sound : goal.make-requires-clause-sound
make-requires-clause-sound c = sound_texts (length c.args.heap.now) (map value_of c.in_ok-items.items.items) (code_points c.args.texts.items) c.in_ok-items.ensures
