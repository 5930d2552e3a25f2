use Rattle.std.specs.Str.{chars}
use Rattle.kishu_methods.proofs.PieceLengths.{long_is, some_chars}
use Rattle.kishu_methods.proofs.parts.replaced_length.Goals as goal

pub overflow_sub-result : goal.overflow_sub-result
overflow_sub-result c =
    (long_is (chars c.args.part.now) (chars c.args.by.now) (chars c.args.text.now) c.occurrences-found.result c.count.result c.count-2.result c.count-3.result
    (some_chars c.args.part.now c.utf8.part c.requires) c.occurrences-found.ensures c.count.ensures c.count-2.ensures c.count-3.ensures).0

pub returns : goal.returns
returns c =
    (long_is (chars c.args.part.now) (chars c.args.by.now) (chars c.args.text.now) c.occurrences-found.result c.count.result c.count-2.result c.count-3.result
    (some_chars c.args.part.now c.utf8.part c.requires) c.occurrences-found.ensures c.count.ensures c.count-2.ensures c.count-3.ensures).1
