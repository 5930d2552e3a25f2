use Rattle.std.proofs.Common.{◌<◌, ◌^◌, ap, arith}
use Rattle.std.specs.Int.{w128}
use Rattle.std.proofs.lemmas.Int.{to_z_pos}
use Rattle.kishu_meaning.specs.values.Values.{integer}
use Rattle.kishu_methods.proofs.texts.number.Goals as goal

pub returns : goal.returns
returns c = let few : c.args.count < 2 ^ 127 = omega arith in ap integer (to_z_pos w128 c.args.count few)
