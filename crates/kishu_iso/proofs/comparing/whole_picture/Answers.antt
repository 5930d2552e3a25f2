use Rattle.std.proofs.Common.{◌≡◌, ◌*◌, IfOk, OnOk, length, ap, sym, ◌∙◌, subst}
use Rattle.kishu_heap.specs.Costs.{Reads}
use Rattle.kishu_names.specs.Record.{texts_of}
use Rattle.kishu_objects.specs.Bytes.{picture_bytes}
use Rattle.kishu_objects.specs.Fits.{StateFits}
use Rattle.kishu_objects.specs.Picture as states
use Rattle.kishu_objects_laws.specs.NameLaws.{listed_found}
use Rattle.kishu_picture.specs.Held.{held, AreBound}
use Rattle.kishu_iso.proofs.Telling.{told_sound}
use Rattle.kishu_iso.proofs.comparing.whole_picture.Goals as goal

pub picture-requires-clause-bound : goal.picture-requires-clause-bound
picture-requires-clause-bound g c =
    let e = ap texts_of c.as_slice.ensures.value ∙ c.in_ok-all.ensures.names in
    subst (AreBound c.args.names.now.bound) (sym e) (listed_found c.args.names.now.bound)

pub returns-clause-bytes : goal.returns-clause-bytes
returns-clause-bytes g c =
    let e = ap texts_of c.as_slice.ensures.value ∙ c.in_ok-all.ensures.names in
    let s = held c.args.heap.now c.args.names.now in
    subst (λ l. IfOk c.picture.result (λ v. v.items ≡ picture_bytes s l)) e c.picture.ensures.bytes

pub returns-clause-fits : goal.returns-clause-fits
returns-clause-fits g c =
    let e = ap texts_of c.as_slice.ensures.value ∙ c.in_ok-all.ensures.names in
    let s = held c.args.heap.now c.args.names.now in
    subst (λ l. OnOk c.picture.result (StateFits (states.picture s l))) e c.picture.ensures.fits

pub returns-in_err-all-clause-sound : goal.returns-in_err-all-clause-sound
returns-in_err-all-clause-sound g c = told_sound (held c.args.heap.now c.args.names.now) c.len-nodes.ensures.sound c.requires.sound c.names.ensures.order

pub returns-clause-sound : goal.returns-clause-sound
returns-clause-sound g c = told_sound (held c.args.heap.now c.args.names.now) c.len-nodes.ensures.sound c.requires.sound c.names.ensures.order

pub returns-clause-reads : goal.returns-clause-reads
returns-clause-reads g c =
    let e = ap texts_of c.as_slice.ensures.value ∙ c.in_ok-all.ensures.names in
    let s = held c.args.heap.now c.args.names.now in
    subst (λ l. Reads (2 * length (states.order s l)) c.args.steps.now c.picture.new.steps) e c.picture.ensures.reads
