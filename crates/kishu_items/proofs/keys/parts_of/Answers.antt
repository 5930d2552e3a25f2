use Rattle.std.proofs.Common.{◌∙◌, ◌+◌, ◌∷◌, [], ap, sym, map, drop, length, arith}
use Rattle.std.proofs.lemmas.Result.{err_from_is_err_and}
use Rattle.std.proofs.lemmas.List.{map-append}
use Rattle.kishu_meaning.specs.values.Keys.{part_of}
use Rattle.kishu_meaning.specs.items.KeyOf.{part_in, parts_of}
use Rattle.kishu_meaning.specs.values.Kinds.{unhashable}
use Rattle.kishu_meaning.specs.moments.Moment.{and_then, or_else}
use Rattle.kishu_meaning.specs.values.Values.{value_of}
use Rattle.kishu_items.specs.Called.{moment_of}
use Rattle.kishu_items.specs.Gathering.{behind, dropped, each_fault, each_further, sound_at}
use Rattle.kishu_items.proofs.keys.parts_of.Goals as goal

pub part_of-requires : goal.part_of-requires
part_of-requires g c = record { sound = sound_at (length c.args.heap.now) c.args.values.now c.loop-i.i c.index-values-i.result (omega arith) c.index-values-i.is c.requires.sound }

pub returns-in_err-part_of-clause-gives : goal.returns-in_err-part_of-clause-gives
returns-in_err-part_of-clause-gives g c b =
    let p = err_from_is_err_and c.from_residual.result c.from_residual.ensures.1 in
    let s = moment_of c.args.heap.now b in
    let v = value_of c.index-values-i.result in
    rw (c.loop-i.invariant.told b, p.1, p.2, dropped c.args.values.now c.loop-i.i c.index-values-i.result (omega arith) c.index-values-i.is)
    (each_fault (or_else (unhashable v) (part_in v)) (parts_of (map value_of (drop (c.loop-i.i + 1) c.args.values.now))) (map part_of c.loop-i.parts.items) s s c.in_err-part_of.field-0.0 (c.in_err-part_of.ensures.gives b))

pub loop-i-preserved : goal.loop-i-preserved
loop-i-preserved g c = record {
  told = λ b.
      let s = moment_of c.args.heap.now b in
      let v = value_of c.index-values-i.result in
      rw c.in_ok-push.ensures.items (
      c.loop-i.invariant.told b
      ∙ ap (λ vs. and_then (parts_of (map value_of vs) s) (behind (map part_of c.loop-i.parts.items))) (dropped c.args.values.now c.loop-i.i c.index-values-i.result (omega arith) c.index-values-i.is)
      ∙ each_further (or_else (unhashable v) (part_in v)) (parts_of (map value_of (drop (c.loop-i.i + 1) c.args.values.now))) (map part_of c.loop-i.parts.items) s s (part_of c.in_ok-part_of.field-0) (c.in_ok-part_of.ensures.gives b)
      ∙ ap (λ ps. and_then (parts_of (map value_of (drop (c.loop-i.i + 1) c.args.values.now)) s) (behind ps)) (sym (map-append part_of c.loop-i.parts.items (c.in_ok-part_of.field-0 ∷ []))));
  counted = omega arith;
  unread = omega (arith, c.in_ok-part_of.ensures.unread);
}
