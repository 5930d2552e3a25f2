use Rattle.kishu_meaning.specs.values.Texts.{places, LieWithin}
use Rattle.kishu_value_tests.proofs.texts.fits.Given as goal

abbrev pub invariant-loop-left : goal.invariant-loop-left
invariant-loop-left l = LieWithin l.size (places l.place l.step l.left) → LieWithin l.size (places l.fn.start l.step l.fn.len)

abbrev pub decreases-loop-left : goal.decreases-loop-left
decreases-loop-left l = l.left
