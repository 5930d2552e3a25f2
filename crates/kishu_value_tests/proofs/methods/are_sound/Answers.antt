use Rattle.std.proofs.Common.{◌∙◌, sym, length}
use Rattle.std.proofs.lemmas.List.Folds.{list_all-map}
use Rattle.kishu_meaning.specs.values.Sound.{is_sound}
use Rattle.kishu_meaning.specs.values.Values.{value_of}
use Rattle.kishu_value_tests.proofs.methods.are_sound.Goals as goal

pub returns : goal.returns
returns c = c.each_is_sound.ensures ∙ sym (list_all-map (is_sound (length c.args.heap.now)) value_of c.args.values.now)
