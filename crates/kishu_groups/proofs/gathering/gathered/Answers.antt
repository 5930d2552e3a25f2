use Rattle.std.proofs.Common.{◌<◌, length, map, ap, ◌∙◌, refl, arith}
use Rattle.std.specs.Rc.{rc_str_bytes}
use Rattle.kishu_groups.specs.Held.{texts_of, groups_of}
use Rattle.kishu_groups.proofs.Joins.{map_length}
use Rattle.kishu_groups.proofs.Heads.{gathered_start}
use Rattle.kishu_groups.proofs.Puts.{name_at, next_is, next_there, next_gathered}
use Rattle.kishu_groups.proofs.gathering.gathered.Goals as goal

pub loop-i-init : goal.loop-i-init
loop-i-init c = record {
  stay = refl;
  gathered = gathered_start c.args.classes.now (map rc_str_bytes c.args.of.now) c.requires.firsts
      (groups_of c.new-groups.result) c.new-places.result.items
      (ap (map texts_of) c.new-groups.ensures.items) c.new-places.ensures.items;
}

pub put-requires : goal.put-requires
put-requires c =
    let rs = c.args.classes.now in
    let of = map rc_str_bytes c.args.of.now in
    let gs = groups_of c.loop-i.groups in
    let mid = groups_of c.place_of.new.groups in
    let x = rc_str_bytes c.index-of-i.result in
    let there : c.loop-i.i < length c.args.of.now = omega arith in
    let next = next_is rs c.loop-i.classes of c.loop-i.i c.first-first.result c.in_ok-place.place x gs mid c.loop-i.places.items c.deref.result.now
    c.loop-i.invariant.gathered c.requires.firsts (name_at c.args.of.now c.loop-i.i c.index-of-i.result there c.index-of-i.is)
    c.loop-i.invariant.stay c.first-first.ensures.first c.deref.ensures.value c.in_ok-place.ensures in
    let below = next_there rs of c.loop-i.i c.first-first.result c.in_ok-place.place x gs mid c.loop-i.places.items next in
    let size = map_length texts_of c.place_of.new.groups.items in
    omega arith

pub loop-i-preserved : goal.loop-i-preserved
loop-i-preserved c =
    let rs = c.args.classes.now in
    let of = map rc_str_bytes c.args.of.now in
    let gs = groups_of c.loop-i.groups in
    let mid = groups_of c.place_of.new.groups in
    let x = rc_str_bytes c.index-of-i.result in
    let there : c.loop-i.i < length c.args.of.now = omega arith in
    let next = next_is rs c.loop-i.classes of c.loop-i.i c.first-first.result c.in_ok-place.place x gs mid c.loop-i.places.items c.deref.result.now
    c.loop-i.invariant.gathered c.requires.firsts (name_at c.args.of.now c.loop-i.i c.index-of-i.result there c.index-of-i.is)
    c.loop-i.invariant.stay c.first-first.ensures.first c.deref.ensures.value c.in_ok-place.ensures in
    record {
      stay = c.first-first.ensures.stay ∙ c.loop-i.invariant.stay;
      gathered = next_gathered rs of c.loop-i.i c.first-first.result c.in_ok-place.place x gs mid
          (groups_of c.put.new.groups) c.loop-i.places.items c.push.new.self.items
          next c.in_ok-put.ensures c.in_ok-push.ensures.items;
    }
