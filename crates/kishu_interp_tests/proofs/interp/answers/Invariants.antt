use Rattle.std.proofs.Common.{length}
use Rattle.std.specs.Prelude.{IsTrue}
use Rattle.kishu_meaning.specs.values.Sound.{are_sound_names}
use Rattle.kishu_interp_tests.proofs.interp.answers.Given as goal

abbrev pub invariant-loop-text : goal.invariant-loop-text
invariant-loop-text g l = IsTrue (are_sound_names (length l.heap) l.names.bound)
