use Rattle.std.proofs.Common.{rules, ◌≡◌, ◌∙◌, ◌∷◌, List, length, map, refl, sym, ap, subst, inl, inr}
use Rattle.std.specs.Prelude.{not, Some, None}
use Rattle.std.proofs.lemmas.Option.{same_Some}
use Rattle.std.specs.declared.alloc.Global.{Global}
use Rattle.std.specs.declared.rc.RcStr.{RcStr}
use Rattle.kishu_graph.specs.Kept.{row_of}
use Rattle.kishu_names.specs.Record.{texts_of}
use Rattle.kishu_objects.specs.Lists.{In}
use Rattle.kishu_store.specs.Tables.{Row, groups_in}
use Rattle.kishu_delta.specs.Compared.{asked_pictures, asked_row, is_known, picture_in, stored_group, with_pictures}
use Rattle.kishu_delta.specs.Found.{found}
use Rattle.kishu_delta.specs.declared.asking.Asked.{Asked}
use Rattle.kishu_delta.proofs.Choosing.{ended, in_behind, known_at, known_no, known_yes, part_left, part_more, row_in, rows_here, within}
use Rattle.kishu_delta.proofs.comparing.parted.Goals as goal

pub loop-group-preserved-in-Some-of : goal.loop-group-preserved-in-Some-of
loop-group-preserved-in-Some-of c =
    let rows = c.args.rows.now in
    let gs = groups_in (map row_of rows) in
    let places = c.args.known.now in
    let l = c.loop-group in
    let group = c.in-Some.group in
    let g = stored_group group in
    let items = l.group-iterator.rest.items in
    let rest = c.next.new.self.rest.items in
    let next : items ≡ group ∷ rest = c.in-Some.ensures.steps.0 in
    let place = c.in-Some-of.place in
    let is : found places g ≡ Some place = ap (λ (n : List (RcStr Global)). found places (texts_of n)) (sym c.deref.ensures.value) ∙ sym c.of.ensures ∙ c.in-Some-of.is in
    let at = known_at gs c.requires.0 g place (found places g) is (c.requires.1 g) in
    let inside = within rows place g at in
    let row = c.index-rows-place.result in
    let here = rows_here rows place row inside c.index-rows-place.is in
    let copy : row_of c.in_ok-row-in-Some-of.row ≡ row_of row = c.in_ok-row-in-Some-of.ensures in
    let its : (row_of c.in_ok-row-in-Some-of.row).group ≡ g = ap (λ (r : Row). r.group) copy ∙ same_Some _ _ (sym here.1 ∙ at) in
    record {
      stored = λ stand k.
          part_left picture_in (λ p. not (is_known gs stand p.0)) (with_pictures l.parted.stored.items) items rest group next (ap not (known_yes gs stand g place (found places g) is (k g)))
          ∙ l.invariant.stored stand k;
      asked = λ stand k.
          part_more (λ (a : Asked). ((asked_row a).group, a.bytes.items)) picture_in (λ p. is_known gs stand p.0) l.parted.asked.items c.push.new.self.items _ items rest group
          c.in_ok-push-in-Some-of.ensures.items next (λ i. (its i, group.bytes.items)) (known_yes gs stand g place (found places g) is (k g))
          ∙ l.invariant.asked stand k;
      rows = λ r m. elim (in_behind asked_row l.parted.asked.items c.push.new.self.items _ r c.in_ok-push-in-Some-of.ensures.items m) [
        | inl n ↦ l.invariant.rows r n
        | inr e ↦ subst (λ q. In q (map row_of rows)) (sym (e ∙ copy)) (row_in rows place row inside c.index-rows-place.is)
      ];
    }

pub loop-group-preserved : goal.loop-group-preserved
loop-group-preserved c =
    let rows = c.args.rows.now in
    let gs = groups_in (map row_of rows) in
    let places = c.args.known.now in
    let l = c.loop-group in
    let group = c.in-Some.group in
    let g = stored_group group in
    let items = l.group-iterator.rest.items in
    let rest = c.next.new.self.rest.items in
    let next : items ≡ group ∷ rest = c.in-Some.ensures.steps.0 in
    let is : found places g ≡ None = ap (λ (n : List (RcStr Global)). found places (texts_of n)) (sym c.deref.ensures.value) ∙ sym c.of.ensures ∙ c.in-None-of.is in
    record {
      stored = λ stand k.
          part_more picture_in picture_in (λ p. not (is_known gs stand p.0)) l.parted.stored.items c.push-in-None-of.new.self.items group items rest group
          c.in_ok-push-in-None-of.ensures.items next refl (ap not (known_no gs stand g (found places g) is (k g)))
          ∙ l.invariant.stored stand k;
      asked = λ stand k.
          part_left picture_in (λ p. is_known gs stand p.0) (asked_pictures l.parted.asked.items) items rest group next (known_no gs stand g (found places g) is (k g))
          ∙ l.invariant.asked stand k;
      rows = l.invariant.rows;
    }

pub returns : goal.returns
returns c = λ stand k.
    let gs = groups_in (map row_of c.args.rows.now) in
    let l = c.loop-group in
    let items = l.group-iterator.rest.items in
    let none : length items ≡ 0 = (let n = c.in-None.ensures.steps in let ok = l.group-iterator.rest.ok in search rules) in
    record {
      stored = ended picture_in (λ p. not (is_known gs stand p.0)) (with_pictures l.parted.stored.items) items none ∙ l.invariant.stored stand k;
      asked = ended picture_in (λ p. is_known gs stand p.0) (asked_pictures l.parted.asked.items) items none ∙ l.invariant.asked stand k;
      rows = l.invariant.rows;
    }
