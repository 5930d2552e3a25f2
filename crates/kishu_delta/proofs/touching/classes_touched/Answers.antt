use Rattle.std.proofs.Common.{◌≡◌, ◌∙◌, ℕ, List, length, ap, sym, subst}
use Rattle.std.proofs.lemmas.Result.{IfOk-weaker}
use Rattle.kishu_heap.specs.Costs.{Reads}
use Rattle.kishu_history.specs.Touched.{is_touched}
use Rattle.kishu_language.specs.tokens.Names.{is_among}
use Rattle.kishu_names.specs.Record.{texts_of}
use Rattle.kishu_objects.specs.Groups.{groups}
use Rattle.kishu_objects.specs.Lists.{In, Rise}
use Rattle.kishu_objects.specs.Picture.{listed, order}
use Rattle.kishu_objects_laws.specs.SoundLaws.{sound_of}
use Rattle.kishu_picture.specs.Held.{held}
use Rattle.kishu_delta.proofs.Alike.{chosen_alike, touched_rise, classes_bound, near_touched}
use Rattle.kishu_delta.proofs.touching.classes_touched.Goals as goal

pub groups-requires-clause-order : goal.groups-requires-clause-order
groups-requires-clause-order g c =
    let s = held c.args.heap.now c.args.names.now in
    let are = ap texts_of c.deref.ensures.value ∙ c.in_ok-touched.ensures.names in
    subst Rise (sym are) (touched_rise (λ x. is_among x c.in_ok-all.all) s c.bound_among.ensures.rise)

pub returns-clause-classes : goal.returns-clause-classes
returns-clause-classes g c =
    let s = held c.args.heap.now c.args.names.now in
    let accessed = c.args.names.now.accessed in
    IfOk-weaker c.groups.result _ _ (λ v is. λ gs near.
    let same : (x : List ℕ) → is_among x c.in_ok-all.all ≡ is_touched gs accessed x = λ x. c.in_ok-all.ensures x ∙ near_touched c.args.near.now gs accessed near x in
    let are = ap texts_of c.deref.ensures.value ∙ c.in_ok-touched.ensures.names ∙ chosen_alike c.in_ok-all.all (is_touched gs accessed) same (listed s) in
    is ∙ ap (groups s) are) c.groups.ensures.groups

pub returns-clause-bound : goal.returns-clause-bound
returns-clause-bound g c =
    let s = held c.args.heap.now c.args.names.now in
    let sound = sound_of s c.len-nodes.ensures.sound c.requires.sound in
    let are = ap texts_of c.deref.ensures.value ∙ c.in_ok-touched.ensures.names in
    IfOk-weaker c.groups.result _ _ (λ v is. λ h m. classes_bound s sound (λ x. is_among x c.in_ok-all.all) h (subst (λ l. In h l) (is ∙ ap (groups s) are) m)) c.groups.ensures.groups

pub returns-clause-sound : goal.returns-clause-sound
returns-clause-sound g c =
    let s = held c.args.heap.now c.args.names.now in
    IfOk-weaker c.groups.result _ _ (λ v is. sound_of s c.len-nodes.ensures.sound c.requires.sound) c.groups.ensures.groups

pub returns-clause-reads : goal.returns-clause-reads
returns-clause-reads g c = λ gs near.
    let s = held c.args.heap.now c.args.names.now in
    let accessed = c.args.names.now.accessed in
    let same : (x : List ℕ) → is_among x c.in_ok-all.all ≡ is_touched gs accessed x = λ x. c.in_ok-all.ensures x ∙ near_touched c.args.near.now gs accessed near x in
    let are = ap texts_of c.deref.ensures.value ∙ c.in_ok-touched.ensures.names ∙ chosen_alike c.in_ok-all.all (is_touched gs accessed) same (listed s) in
    subst (λ of. Reads (length (order s of)) c.args.steps.now c.groups.new.steps) are c.groups.ensures.reads
