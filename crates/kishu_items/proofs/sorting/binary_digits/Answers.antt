use Rattle.std.proofs.Common.{arith}
use Rattle.std.proofs.lemmas.Int.Digits.{length-digits_of_step}
use Rattle.kishu_items.proofs.sorting.binary_digits.Goals as goal

pub loop-rest-preserved : goal.loop-rest-preserved
loop-rest-preserved c = record {
  told = omega (arith, c.loop-rest.invariant.told, length-digits_of_step 2 c.loop-rest.rest (omega arith) (omega arith));
  few = omega arith;
}
