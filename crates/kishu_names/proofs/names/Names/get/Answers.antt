use Rattle.std.proofs.Common.{sym, subst}
use Rattle.std.specs.Rc.{rc_str_bytes}
use Rattle.kishu_meaning.specs.values.Values.{find}
use Rattle.kishu_names.specs.Namespace.{names_of}
use Rattle.kishu_names.specs.Record.{Rises, texts_of}
use Rattle.kishu_names.proofs.Kept.{finds_valid, valid_through}
use Rattle.kishu_names.proofs.Records.{rises_with}
use Rattle.kishu_names.proofs.names.Names.get.Goals as goal

pub invariant_of-self-2 : goal.invariant_of-self-2
invariant_of-self-2 c = (c.self.invariant.0, subst Rises (sym c.in_ok-note.ensures.ok) (rises_with (rc_str_bytes c.in_ok-accessed.accessed) (texts_of c.self.inside.accessed.items) c.self.invariant.1))

pub returns-clause-valid : goal.returns-clause-valid
returns-clause-valid c =
    let names = names_of c.self.inside.bound.entries in
    valid_through c.in_ok-value.value (find c.args.name.now names) c.in_ok-value.ensures (finds_valid c.args.name.now names c.self.invariant.0)
