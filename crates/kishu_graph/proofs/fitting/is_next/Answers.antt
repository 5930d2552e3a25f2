use Rattle.std.proofs.Common.{◌<◌, ◌∙◌, List, length, map, ap, sym, arith}
use Rattle.std.proofs.lemmas.List.{drop_more, get_or-map, length-map}
use Rattle.std.specs.Rc.{rc_str_bytes}
use Rattle.std.specs.declared.alloc.Global.{Global}
use Rattle.std.specs.declared.rc.RcStr.{RcStr}
use Rattle.std.specs.declared.vec.Vec.{Vec}
use Rattle.kishu_store.specs.Groups.{is_group}
use Rattle.kishu_graph.specs.Fits.{is_next}
use Rattle.kishu_graph.specs.Kept.{texts_of}
use Rattle.kishu_graph.proofs.fitting.is_next.Goals as goal

pub returns-then-at-groups-clause-next : goal.returns-then-at-groups-clause-next
returns-then-at-groups-clause-next c =
    let groups = c.args.groups.now in
    let at = c.args.at in
    let names = map rc_str_bytes c.args.names.now in
    let item = c.index-groups-at.result in
    let inside : at < length (map texts_of groups) = omega (arith, c.if-at-groups.true, length-map groups texts_of) in
    c.are_same.ensures
    ∙ ap (λ (l : List (RcStr Global)). is_group names (map rc_str_bytes l)) c.deref.ensures.value
    ∙ ap (λ (v : Vec (RcStr Global) Global). is_group names (texts_of v)) c.index-groups-at.is
    ∙ ap (is_group names) (sym (get_or-map texts_of groups at item (texts_of item) c.if-at-groups.true))
    ∙ ap (is_next names) (sym (drop_more (map texts_of groups) at (texts_of item) inside))
