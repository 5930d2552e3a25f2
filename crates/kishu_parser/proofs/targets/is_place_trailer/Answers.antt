use Rattle.std.proofs.Common.{refl}
use Rattle.kishu_language.specs.trees.Rows.{attribute_is, call_is, index_is, slice_is}
use Rattle.kishu_parser.proofs.targets.is_place_trailer.Goals as goal

pub returns-in-Attribute : goal.returns-in-Attribute
returns-in-Attribute c = rw (c.in-Attribute.is, attribute_is) refl

pub returns-in-Index : goal.returns-in-Index
returns-in-Index c = rw (c.in-Index.is, index_is) refl

pub returns-in-Call : goal.returns-in-Call
returns-in-Call c = rw (c.in-Call.is, call_is) refl

pub returns-in-Slice : goal.returns-in-Slice
returns-in-Slice c = rw (c.in-Slice.is, slice_is) refl
