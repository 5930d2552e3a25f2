use Rattle.std.proofs.Common.{arith}
use Rattle.std.specs.Str.{chars}
use Rattle.kishu_methods.specs.TextValues.{texts_of}
use Rattle.kishu_methods.proofs.Joins.{length-joined_by}
use Rattle.kishu_methods.proofs.join.joined_length.Goals as goal

pub returns : goal.returns
returns c = omega (arith, c.spaced_length.ensures, c.count.ensures, c.saturating_sub.ensures, length-joined_by (chars c.args.by.now) (texts_of c.args.texts.now))
