use Rattle.std.proofs.Common.{◌≤◌, ◌∙◌, List, ap, sym, subst, arith}
use Rattle.std.specs.Prelude.{filter}
use Rattle.kishu_history.specs.Touched.{holds_any}
use Rattle.kishu_objects.specs.Lists.{In}
use Rattle.kishu_objects.specs.Sizes.{size_among, most_bytes}
use Rattle.kishu_picture.specs.Held.{held}
use Rattle.kishu_store.specs.Groups.{Group}
use Rattle.kishu_delta.specs.Compared.{Pictures, asked_from, dropped_from, pictured, stored_from, with_pictures}
use Rattle.kishu_delta.specs.Deltas.{all_groups, table_groups}
use Rattle.kishu_delta.specs.Near.{lent}
use Rattle.kishu_delta.proofs.Alike.{near_lent, touched_reach}
use Rattle.kishu_delta.proofs.Drafts.{asked_is, dropped_is, reads_within, stored_is}
use Rattle.kishu_delta.proofs.drafting.draft.Goals as goal

pub pictures-requires-clause-small : goal.pictures-requires-clause-small
pictures-requires-clause-small g c =
    let s = held c.args.heap.now c.args.names.now in
    let gs = table_groups c.args.table.now in
    let near = near_lent _ c.deref.result.now gs c.in_ok-accessed.accessed c.args.names.now.accessed c.deref.ensures.value c.in_ok-accessed.ensures c.in_ok-near.ensures in
    subst (λ (hs : List Group). size_among hs s ≤ most_bytes) (sym (c.in_ok-classes.ensures.classes gs near)) c.requires.small

pub returns-in_err-classes-clause-reads : goal.returns-in_err-classes-clause-reads
returns-in_err-classes-clause-reads g c =
    let gs = table_groups c.args.table.now in
    let near = near_lent _ c.deref.result.now gs c.in_ok-accessed.accessed c.args.names.now.accessed c.deref.ensures.value c.in_ok-accessed.ensures c.in_ok-near.ensures in
    let reads = c.classes_touched.ensures.reads gs near in
    (reads.0, omega (arith, reads.1))

pub returns-in_err-pictured-clause-reads : goal.returns-in_err-pictured-clause-reads
returns-in_err-pictured-clause-reads g c =
    let s = held c.args.heap.now c.args.names.now in
    let gs = table_groups c.args.table.now in
    let accessed = c.args.names.now.accessed in
    let classes = c.in_ok-classes.ensures in
    let near = near_lent _ c.deref.result.now gs c.in_ok-accessed.accessed accessed c.deref.ensures.value c.in_ok-accessed.ensures c.in_ok-near.ensures in
    let few = touched_reach s classes.sound gs accessed classes.rise (all_groups c.in_ok-classes.classes) (classes.classes gs near) in
    reads_within _ _ c.args.steps.now c.classes_touched.new.steps c.pictures.new.steps (c.classes_touched.ensures.reads gs near) c.pictures.ensures.reads few

pub returns-in_err-draft-clause-reads : goal.returns-in_err-draft-clause-reads
returns-in_err-draft-clause-reads g c =
    let s = held c.args.heap.now c.args.names.now in
    let gs = table_groups c.args.table.now in
    let accessed = c.args.names.now.accessed in
    let classes = c.in_ok-classes.ensures in
    let near = near_lent _ c.deref.result.now gs c.in_ok-accessed.accessed accessed c.deref.ensures.value c.in_ok-accessed.ensures c.in_ok-near.ensures in
    let few = touched_reach s classes.sound gs accessed classes.rise (all_groups c.in_ok-classes.classes) (classes.classes gs near) in
    reads_within _ _ c.args.steps.now c.classes_touched.new.steps c.pictures.new.steps (c.classes_touched.ensures.reads gs near) c.pictures.ensures.reads few

pub returns-clause-draft : goal.returns-clause-draft
returns-clause-draft g c =
    let s = held c.args.heap.now c.args.names.now in
    let gs = table_groups c.args.table.now in
    let accessed = c.args.names.now.accessed in
    let kept = c.args.kept.now in
    let found = c.in_ok-classes.ensures in
    let told = c.in_ok-draft.ensures in
    let near = near_lent _ c.deref.result.now gs c.in_ok-accessed.accessed accessed c.deref.ensures.value c.in_ok-accessed.ensures c.in_ok-near.ensures in
    let are = found.classes gs near in
    let near_there = ap lent c.deref-2.ensures.value ∙ c.in_ok-near.ensures in
    let there = c.in_ok-pictured.ensures.pictures ∙ ap (pictured s) are in
    record {
      dropped = told.dropped
          ∙ ap (λ (hs : List Group). dropped_from kept (with_pictures c.in_ok-pictured.pictured.items) hs) near_there
          ∙ ap (λ (ps : Pictures). dropped_from kept ps (filter (holds_any c.in_ok-accessed.accessed) gs)) there
          ∙ dropped_is kept s gs accessed c.in_ok-accessed.accessed c.in_ok-accessed.ensures;
      stored = told.stored ∙ ap (λ (ps : Pictures). stored_from kept ps gs) there ∙ stored_is kept s gs accessed;
      asked = told.asked ∙ ap (λ (ps : Pictures). asked_from kept ps gs) there ∙ asked_is kept s gs accessed;
      rows = told.rows;
      sound = record { sound = found.sound; rise = found.rise };
      fits = λ h m. c.in_ok-pictured.ensures.fits h (subst (λ (l : List Group). In h l) (sym are) m);
    }

pub returns-clause-reads : goal.returns-clause-reads
returns-clause-reads g c =
    let s = held c.args.heap.now c.args.names.now in
    let gs = table_groups c.args.table.now in
    let accessed = c.args.names.now.accessed in
    let classes = c.in_ok-classes.ensures in
    let near = near_lent _ c.deref.result.now gs c.in_ok-accessed.accessed accessed c.deref.ensures.value c.in_ok-accessed.ensures c.in_ok-near.ensures in
    let few = touched_reach s classes.sound gs accessed classes.rise (all_groups c.in_ok-classes.classes) (classes.classes gs near) in
    reads_within _ _ c.args.steps.now c.classes_touched.new.steps c.pictures.new.steps (c.classes_touched.ensures.reads gs near) c.pictures.ensures.reads few
