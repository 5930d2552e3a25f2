use Rattle.std.proofs.Common.{rules, ◌≡◌, ◌<◌, ◌∙◌, ◌*◌, List, ◌∷◌, map, length, ap, sym, subst, arith, inl, inr, refl}
use Rattle.std.specs.declared.alloc.Global.{Global}
use Rattle.std.specs.declared.rc.RcStr.{RcStr}
use Rattle.kishu_heap.specs.Costs.{Reads}
use Rattle.kishu_names.specs.Record.{texts_of}
use Rattle.kishu_objects.specs.Bytes.{picture_bytes}
use Rattle.kishu_objects.specs.Fits.{StateFits}
use Rattle.kishu_objects.specs.Lists.{In}
use Rattle.kishu_objects.specs.Picture.{order, picture}
use Rattle.kishu_picture.specs.Held.{held, AreBound}
use Rattle.kishu_store.specs.Groups.{Group}
use Rattle.kishu_delta.specs.Found.{group_of}
use Rattle.kishu_delta.proofs.Keys.{Texts}
use Rattle.kishu_delta.proofs.Sizes.{none_in, short, smaller, reaches, told_more}
use Rattle.kishu_delta.proofs.picturing.pictures.Goals as goal

pub picture-requires-clause-bound : goal.picture-requires-clause-bound
picture-requires-clause-bound g c =
    let group = c.in-Some.group in
    let here : In (group_of group) (map group_of c.loop-group.group-iterator.rest.items) = subst (λ (l : List Texts). In (group_of group) (map group_of l)) (sym c.in-Some.ensures.steps.0) (inl refl) in
    subst (λ (l : List (RcStr Global)). AreBound c.args.names.now.bound (texts_of l)) (sym c.deref.ensures.value)
    (c.requires.bound (group_of group) (c.loop-group.invariant.left (group_of group) here))

pub picture-requires-clause-short : goal.picture-requires-clause-short
picture-requires-clause-short g c =
    let s = held c.args.heap.now c.args.names.now in
    let items = c.loop-group.group-iterator.rest.items in
    subst (λ (l : List (RcStr Global)). length (picture_bytes s (texts_of l)) < 4294967296) (sym c.deref.ensures.value)
    (short s items c.next.new.self.rest.items c.in-Some.group c.in-Some.ensures.steps.0 c.loop-group.invariant.small)

pub loop-group-preserved : goal.loop-group-preserved
loop-group-preserved g c =
    let s = held c.args.heap.now c.args.names.now in
    let l = c.loop-group in
    let group = c.in-Some.group in
    let items = l.group-iterator.rest.items in
    let rest = c.next.new.self.rest.items in
    let next : items ≡ group ∷ rest = c.in-Some.ensures.steps.0 in
    let bytes = c.in_ok-bytes.ensures.bytes ∙ ap (λ (of : List (RcStr Global)). picture_bytes s (texts_of of)) c.deref.ensures.value in
    let fit : StateFits (picture s (group_of group)) = subst (λ (of : List (RcStr Global)). StateFits (picture s (texts_of of))) c.deref.ensures.value c.in_ok-bytes.ensures.fits in
    let reads = subst (λ (of : List (RcStr Global)). Reads (2 * length (order s (texts_of of))) l.steps c.picture.new.steps) c.deref.ensures.value c.picture.ensures.reads in
    let reach = reaches s items rest group next in
    record {
      told = told_more s items rest group next l.pictured.items c.push.new.self.items _ c.in_ok-push.ensures.items refl bytes ∙ l.invariant.told;
      left = λ h m. l.invariant.left h (subst (λ (ts : List Texts). In h (map group_of ts)) (sym next) (inr m));
      fits = λ h m. elim (l.invariant.fits h m) [
        | inl n ↦ (
            let k : In h (group_of group ∷ map group_of rest) = subst (λ (ts : List Texts). In h (map group_of ts)) next n in
            elim k [ inl e ↦ inr (subst (λ (x : Group). StateFits (picture s x)) (sym e) fit) | inr o ↦ inl o ]
            )
        | inr f ↦ inr f
      ];
      small = smaller s items rest group next l.invariant.small;
      counted = omega (arith, l.invariant.counted, reads.0);
      few = omega (arith, l.invariant.few, reach, reads.1);
    }

pub returns-in_err-push-clause-reads : goal.returns-in_err-push-clause-reads
returns-in_err-push-clause-reads g c =
    let s = held c.args.heap.now c.args.names.now in
    let l = c.loop-group in
    let group = c.in-Some.group in
    let reads = subst (λ (of : List (RcStr Global)). Reads (2 * length (order s (texts_of of))) l.steps c.picture.new.steps) c.deref.ensures.value c.picture.ensures.reads in
    let reach = reaches s l.group-iterator.rest.items c.next.new.self.rest.items group c.in-Some.ensures.steps.0 in
    (omega (arith, l.invariant.counted, reads.0), omega (arith, l.invariant.few, reach, reads.1))

pub returns-clause-fits : goal.returns-clause-fits
returns-clause-fits g c = λ h m. elim (c.loop-group.invariant.fits h m) [
  | inl n ↦ absurd (let none = c.in-None.ensures.steps in let ok = c.loop-group.group-iterator.rest.ok in none_in c.loop-group.group-iterator.rest.items h (search rules) n)
  | inr f ↦ f
]
