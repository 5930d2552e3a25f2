-- how many binary digits the exponent has: each call halves it
use Rattle.std.proofs.Common.{length}
use Rattle.std.specs.Int.Digits.{digits_of}
use Rattle.kishu_num.proofs.powers.+raise.Given as goal

abbrev pub decreases-raise : goal.decreases-raise
decreases-raise l = length (digits_of 2 l.exponent)
