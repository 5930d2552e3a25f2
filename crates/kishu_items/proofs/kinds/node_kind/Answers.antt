use Rattle.std.proofs.Common.{refl, ◌∙◌, ap}
use Rattle.std.specs.Prelude.{codes}
use Rattle.std.specs.Str.{chars}
use Rattle.kishu_items.specs.Messages.{chars-plain, chars-class}
use Rattle.kishu_items.proofs.kinds.node_kind.Goals as goal

pub returns-in-List : goal.returns-in-List
returns-in-List c = rw c.in-List.is (chars-plain (codes "list") refl)

pub returns-in-Tuple : goal.returns-in-Tuple
returns-in-Tuple c = rw c.in-Tuple.is (chars-plain (codes "tuple") refl)

pub returns-in-Dict : goal.returns-in-Dict
returns-in-Dict c = rw c.in-Dict.is (chars-plain (codes "dict") refl)

pub returns-in-Object : goal.returns-in-Object
returns-in-Object c = rw c.in-Object.is (chars-plain (codes "SimpleNamespace") refl)

pub returns-in-Function : goal.returns-in-Function
returns-in-Function c = rw c.in-Function.is (chars-plain (codes "function") refl)

pub returns-in-Exception : goal.returns-in-Exception
returns-in-Exception c = rw c.in-Exception.is (ap chars c.class_name.ensures ∙ chars-class c.in-Exception.class.0)
