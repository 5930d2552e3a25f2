use Rattle.std.proofs.Common.{◌≡◌, ℕ, List, [], map, ap, subst, ◌∙◌}
use Rattle.std.specs.declared.alloc.Global.{Global}
use Rattle.std.specs.declared.rc.RcStr.{RcStr}
use Rattle.kishu_meaning.specs.declared.value.NodeId.{NodeId}
use Rattle.kishu_model.specs.Values.{named_of}
use Rattle.kishu_objects.specs.Lists.{In}
use Rattle.kishu_objects.specs.Picture.{order}
use Rattle.kishu_objects_laws.specs.SoundLaws.{sound_of}
use Rattle.kishu_objects_laws.specs.WalkLaws.{noted_all}
use Rattle.kishu_names.specs.Record.{texts_of}
use Rattle.kishu_picture.specs.Held.{held}
use Rattle.kishu_inspect.specs.Told.{numbers_of, names_told}
use Rattle.kishu_inspect.proofs.Bindings.{found_ids, met_below, state_told}
use Rattle.kishu_inspect.proofs.telling.told.Goals as goal

pub rows-requires : goal.rows-requires
rows-requires g c =
    let s = held c.args.heap.now c.args.names.now in
    let ids = numbers_of c.in_ok-order.order.items in
    let all = texts_of c.in_ok-all.all.items in
    let found_is : c.in_ok-found.found.keys ≡ noted_all [] ids =
    c.in_ok-found.ensures ∙ ap (λ (l : List NodeId). noted_all [] (numbers_of l)) c.deref-2.ensures.value in
    let ids_are : ids ≡ order s all =
    c.in_ok-order.ensures.order ∙ ap (λ (l : List (RcStr Global)). order s (texts_of l)) c.deref.ensures.value in
    let same = found_ids c.args.heap.now c.args.names.now c.args.commit c.in_ok-found.found.keys ids all found_is ids_are
    c.in_ok-all.ensures.names in
    let sound = sound_of s c.len-nodes.ensures.sound c.requires.sound in
    record { low = λ i there. met_below s sound all i (subst (λ (l : List ℕ). In i l) (same ∙ ids_are) there) }

pub returns-clause-answer : goal.returns-clause-answer
returns-clause-answer g c =
    let s = held c.args.heap.now c.args.names.now in
    let ids = numbers_of c.in_ok-order.order.items in
    let all = texts_of c.in_ok-all.all.items in
    let keys = c.in_ok-found.found.keys in
    let found_is : keys ≡ noted_all [] ids =
    c.in_ok-found.ensures ∙ ap (λ (l : List NodeId). noted_all [] (numbers_of l)) c.deref-2.ensures.value in
    let ids_are : ids ≡ order s all =
    c.in_ok-order.ensures.order ∙ ap (λ (l : List (RcStr Global)). order s (texts_of l)) c.deref.ensures.value in
    let named : map named_of c.in_ok-named.field-0.items ≡ names_told keys c.args.names.now all =
    c.in_ok-named.ensures ∙ ap (λ (l : List (RcStr Global)). names_told keys c.args.names.now (texts_of l)) c.deref-3.ensures.value in
    state_told c.args.heap.now c.args.names.now c.args.commit keys ids all found_is ids_are c.in_ok-all.ensures.names _ _
    named c.in_ok-rows.ensures.rows
