use Rattle.std.proofs.Common.{◌≡◌, ◌+◌, ◌≤◌, length}
use Rattle.std.specs.Int.Digits.{digits_of}
use Rattle.kishu_items.proofs.sorting.binary_digits.Given as goal

abbrev pub invariant-loop-rest : goal.invariant-loop-rest
invariant-loop-rest l = record {
  told : length (digits_of 2 l.number) ≡ l.count + length (digits_of 2 l.rest);
  few : l.count + l.rest ≤ l.number;
}

abbrev pub decreases-loop-rest : goal.decreases-loop-rest
decreases-loop-rest l = l.rest
