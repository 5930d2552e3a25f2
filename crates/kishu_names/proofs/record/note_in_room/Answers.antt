use Rattle.std.proofs.Common.{◌≡◌, ◌∙◌, ap, sym, subst, refl}
use Rattle.std.specs.Prelude.{insert}
use Rattle.std.specs.Rc.{rc_str_bytes}
use Rattle.kishu_meaning.specs.moments.Accesses.{with_access}
use Rattle.kishu_names.specs.Record.{Rises, texts_of}
use Rattle.kishu_names.proofs.Kept.{inserted}
use Rattle.kishu_names.proofs.Records.{rises_by, goes_in, there}
use Rattle.kishu_names.proofs.record.note_in_room.Goals as goal

pub returns-in-Err : goal.returns-in-Err
returns-in-Err c =
    let z = rc_str_bytes c.args.name in
    let xs = c.as_slice.result.now in
    let order = subst (λ ys. Rises (texts_of ys)) (sym c.as_slice.ensures.value) c.requires.order in
    let put = goes_in z xs c.in-Err.place c.args.name refl c.in-Err.ensures.bound (c.in-Err.ensures.position (rises_by z xs order)) in
    ap texts_of (inserted c.insert.result _ _ _ (c.insert.ensures.succeeds c.requires.room) c.insert.ensures.items)
    ∙ subst (λ ys. texts_of (insert ys c.in-Err.place c.args.name) ≡ with_access z (texts_of ys)) c.as_slice.ensures.value put

pub returns-in_default : goal.returns-in_default
returns-in_default c =
    let z = rc_str_bytes c.args.name in
    let xs = c.as_slice.result.now in
    let order = subst (λ ys. Rises (texts_of ys)) (sym c.as_slice.ensures.value) c.requires.order in
    sym (subst (λ ys. with_access z (texts_of ys) ≡ texts_of ys) c.as_slice.ensures.value (there z xs c.in_default.field-0 order c.in_default.ensures.bound c.in_default.ensures.ok))
