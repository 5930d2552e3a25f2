use Rattle.std.proofs.Common.{arith}
use Rattle.kishu_picture.proofs.Sizes.{long_length}
use Rattle.kishu_picture.proofs.lengths.text_len.Goals as goal

pub returns : goal.returns
returns c = omega (arith, long_length c.args.text.now)
