use Rattle.kishu_picture.proofs.Summing.{integer_long, range_long, node_long, text_summed}
use Rattle.kishu_picture.proofs.lengths.value_len.Goals as goal

pub returns-in-Int : goal.returns-in-Int
returns-in-Int c = rw c.in-Int.is (integer_long _)

pub returns-in-Range : goal.returns-in-Range
returns-in-Range c = rw c.in-Range.is (range_long _ _ _)

pub returns-in-Node : goal.returns-in-Node
returns-in-Node c = rw c.in-Node.is (node_long _)

pub returns-in-Text : goal.returns-in-Text
returns-in-Text c = rw c.in-Text.is (text_summed _ c.as_str.result.now c.text_len.result c.saturating_add.result c.as_str.ensures.value c.as_str.utf8
    c.text_len.ensures c.saturating_add.ensures)
