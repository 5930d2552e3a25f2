use Rattle.std.proofs.Common.{ap, sym, ◌∙◌, subst}
use Rattle.kishu_names.specs.Record.{texts_of}
use Rattle.kishu_objects_laws.specs.NameLaws.{listed_found}
use Rattle.kishu_picture.specs.Held.{AreBound}
use Rattle.kishu_picture_times.proofs.state.State.picture.Goals as goal

pub picture-requires-clause-bound : goal.picture-requires-clause-bound
picture-requires-clause-bound g c =
    let e = ap texts_of c.as_slice-group.ensures.value ∙ c.in_ok-all.ensures.names in
    subst (AreBound c.args.self.now.names.bound) (sym e) (listed_found c.args.self.now.names.bound)
