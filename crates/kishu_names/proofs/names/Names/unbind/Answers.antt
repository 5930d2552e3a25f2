use Rattle.std.proofs.Common.{sym, subst, IsTrue}
use Rattle.std.specs.List.{list_all}
use Rattle.std.specs.Rc.{rc_str_bytes}
use Rattle.kishu_names.specs.Namespace.{names_of}
use Rattle.kishu_names.specs.Record.{Rises, texts_of}
use Rattle.kishu_names.proofs.Kept.{good, stay_unbound}
use Rattle.kishu_names.proofs.Records.{rises_with}
use Rattle.kishu_names.proofs.names.Names.unbind.Goals as goal

pub invariant_of-self-2 : goal.invariant_of-self-2
invariant_of-self-2 c =
    let bound = stay_unbound c.args.name.now (names_of c.self.inside.bound.entries) c.self.invariant.0 in
    (subst (λ ns. IsTrue (list_all good ns)) (sym c.take.ensures.names) bound, subst Rises (sym c.in_ok-note.ensures.ok) (rises_with (rc_str_bytes c.in_ok-gone.gone) (texts_of c.self.inside.accessed.items) c.self.invariant.1))
