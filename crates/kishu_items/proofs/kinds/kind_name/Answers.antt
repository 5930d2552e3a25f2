use Rattle.std.proofs.Common.{refl}
use Rattle.std.specs.Prelude.{codes}
use Rattle.kishu_items.specs.Messages.{chars-plain}
use Rattle.kishu_items.proofs.kinds.kind_name.Goals as goal

pub returns-in-None-clause-kind : goal.returns-in-None-clause-kind
returns-in-None-clause-kind g c = rw c.in-None.is (chars-plain (codes "NoneType") refl)

pub returns-in-Bool-clause-kind : goal.returns-in-Bool-clause-kind
returns-in-Bool-clause-kind g c = rw c.in-Bool.is (chars-plain (codes "bool") refl)

pub returns-in-Int-clause-kind : goal.returns-in-Int-clause-kind
returns-in-Int-clause-kind g c = rw c.in-Int.is (chars-plain (codes "int") refl)

pub returns-in-Text-clause-kind : goal.returns-in-Text-clause-kind
returns-in-Text-clause-kind g c = rw c.in-Text.is (chars-plain (codes "str") refl)

pub returns-in-Range-clause-kind : goal.returns-in-Range-clause-kind
returns-in-Range-clause-kind g c = rw c.in-Range.is (chars-plain (codes "range") refl)

pub returns-in-Builtin-clause-kind : goal.returns-in-Builtin-clause-kind
returns-in-Builtin-clause-kind g c = rw c.in-Builtin.is (chars-plain (codes "builtin") refl)

pub returns-in-Class-clause-kind : goal.returns-in-Class-clause-kind
returns-in-Class-clause-kind g c = rw c.in-Class.is (chars-plain (codes "class") refl)
