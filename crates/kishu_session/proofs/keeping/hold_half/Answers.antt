use Rattle.std.proofs.Common.{ℕ, List, ◌∷◌, if◌then◌else◌, Some, ◌∙◌, ap, subst}
use Rattle.std.specs.Iterator.Adapters.{zip_first, zip_second}
use Rattle.std.specs.Slice.Iter.{iter_rest}
use Rattle.std.specs.declared.alloc.Global.{Global}
use Rattle.std.specs.declared.rc.RcStr.{RcStr}
use Rattle.std.specs.declared.vec.Vec.{Vec}
use Rattle.kishu_names.specs.Record.{texts_of}
use Rattle.kishu_store.specs.Groups.{is_group}
use Rattle.kishu_graph.specs.declared.tables.TableRow.{TableRow}
use Rattle.kishu_delta.specs.Kept.{digest_of, kept_of}
use Rattle.kishu_session.proofs.PutFacts.{IsLeft, left-passed, left-put}
use Rattle.kishu_session.proofs.keeping.hold_half.Goals.{then-takes+in_ok-hold, else-takes}
use Rattle.kishu_session.proofs.keeping.hold_half.Goals as goal

pub loop-row-preserved : goal.loop-row-preserved
loop-row-preserved c picture are =
    let first = c.args.first in
    let before = c.args.kept.now in
    let all = c.args.rows.now in
    let row = c.in-Some.row.now in
    let p = c.in-Some.picture.now in
    let rows = iter_rest (zip_first c.next.new.self) in
    let pictures = iter_rest (zip_second c.next.new.self) in
    let old = c.loop-row.kept in
    let takes = c.loop-row.takes in
    let steps = c.in-Some.ensures.steps in
    let left : IsLeft first before all picture takes (row ∷ rows) (p ∷ pictures) old =
    subst (λ (ps : List (Vec ℕ Global)). IsLeft first before all picture takes (row ∷ rows) ps old) steps.1
    (subst (λ (rs : List TableRow). IsLeft first before all picture takes rs (iter_rest (zip_second c.loop-row.row-iterator)) old) steps.0 (c.loop-row.invariant picture are)) in
    elim c.if-takes.branch [
      | then-takes+in_ok-hold w ↦ left-put first all picture row p rows pictures before old takes left c.if-takes.kept w.if-takes.true
          (λ h. ap (λ k. kept_of k h) w.kept-is
          ∙ w.in_ok-hold.ensures.ok h
          ∙ ap (λ (names : List (RcStr Global)). if is_group h (texts_of names) then Some (digest_of w.deref-then-takes.result.now) else kept_of old h) w.deref.ensures.value
          ∙ ap (λ (bytes : List ℕ). if is_group h (texts_of row.group.names.items) then Some (digest_of bytes) else kept_of old h) w.deref-then-takes.ensures.value)
      | else-takes w ↦ left-passed first all picture row p rows pictures before old takes left c.if-takes.kept w.if-takes.false w.kept-is
    ]
