use Rattle.std.proofs.Common.{◌∙◌, ap}
use Rattle.kishu_names.specs.Namespace.{names_of}
use Rattle.kishu_names.proofs.Bound.{binds}
use Rattle.kishu_names.proofs.bindings.set.Goals as goal

pub returns-clause-ok : goal.returns-clause-ok
returns-clause-ok c = ap names_of c.in_ok-insert.ensures.entries ∙ binds c.args.name c.args.value c.args.bound.now.entries
