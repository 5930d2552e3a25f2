use Rattle.std.proofs.Common.{◌∙◌, map, ap, sym, subst}
use Rattle.std.specs.Rc.{rc_str_bytes}
use Rattle.kishu_groups.specs.Held.{texts_of}
use Rattle.kishu_objects.specs.Groups.{groups}
use Rattle.kishu_objects.specs.Lists.{In, Rise}
use Rattle.kishu_loading.specs.Loaded.{held}
use Rattle.kishu_anew.proofs.Renewed.{own_bound, short_bytes}
use Rattle.kishu_anew.proofs.pictures.own_pictures.Goals as goal

pub groups-requires-clause-order : goal.groups-requires-clause-order
groups-requires-clause-order g c =
    let e = ap (map rc_str_bytes) c.deref.ensures.value ∙ c.in_ok-all.ensures.names in
    subst (λ xs. Rise xs) (sym e) c.names.ensures.order

pub pictures_of-requires-clause-bound : goal.pictures_of-requires-clause-bound
pictures_of-requires-clause-bound g c h m =
    let s = held c.args.heap.now c.args.names.now in
    let e = ap (map rc_str_bytes) c.deref.ensures.value ∙ c.in_ok-all.ensures.names in
    let are = ap (map texts_of) c.deref-2.ensures.value ∙ c.in_ok-groups.ensures.groups ∙ ap (groups s) e in
    own_bound s c.requires.whole h (subst (λ gs. In h gs) are m)

pub pictures_of-requires-clause-short : goal.pictures_of-requires-clause-short
pictures_of-requires-clause-short g c h m =
    let s = held c.args.heap.now c.args.names.now in
    let e = ap (map rc_str_bytes) c.deref.ensures.value ∙ c.in_ok-all.ensures.names in
    let are = ap (map texts_of) c.deref-2.ensures.value ∙ c.in_ok-groups.ensures.groups ∙ ap (groups s) e in
    short_bytes s c.requires.whole c.requires.small h (subst (λ gs. In h gs) are m)
