use Rattle.std.proofs.Common.{◌≡◌, ◌∙◌, ◌<◌, ℕ, List, [], length, ap, sym, subst, arith}
use Rattle.std.proofs.lemmas.Result.{IfOk-weaker}
use Rattle.kishu_meaning.specs.values.Values.{Names}
use Rattle.kishu_loading.specs.Loaded.{held}
use Rattle.kishu_anew.specs.Anew.{ArePictures, IsAnew, contents, loaded_anew, most_kept, taken_by}
use Rattle.kishu_anew.proofs.Renewed.{own_pictures_are, own_taken, renewed_anew, renewed_is}
use Rattle.kishu_anew.proofs.renewing.load_anew.Goals as goal

pub load_all-requires-clause-pictures : goal.load_all-requires-clause-pictures
load_all-requires-clause-pictures g c =
    let s = held c.args.heap.now c.args.names.now in
    let e = ap contents c.deref.ensures.value ∙ c.in_ok-pictures.ensures.pictures in
    subst (λ (bs : List (List ℕ)). ArePictures bs) (sym e)
    (own_pictures_are s c.requires.whole c.requires.small)

pub load_all-requires-clause-room : goal.load_all-requires-clause-room
load_all-requires-clause-room g c =
    let s = held c.args.heap.now c.args.names.now in
    let e = ap contents c.deref.ensures.value ∙ c.in_ok-pictures.ensures.pictures in
    let none = ap length c.new.ensures in
    let taken = ap taken_by e in
    let most = own_taken s c.requires.whole c.requires.small in
    omega (arith, none, taken, most)

pub returns-clause-anew : goal.returns-clause-anew
returns-clause-anew g c =
    let s = held c.args.heap.now c.args.names.now in
    let t = held c.load_all.new.heap c.join_record.new.self in
    let e = ap contents c.deref.ensures.value ∙ c.in_ok-pictures.ensures.pictures in
    let none = ap (λ ns. held ns c.new-2.result) c.new.ensures ∙ ap (held []) c.new-2.ensures in
    let left : t ≡ loaded_anew s =
    ap (λ (b : Names). record { names = b; nodes = c.load_all.new.heap }) c.join_record.ensures.bound
    ∙ renewed_is s c.requires.whole c.requires.small (contents c.deref.result.now) (held c.new.result c.new-2.result) (held c.load_all.new.heap c.load_all.new.names) e none c.in_ok-load_all.ensures.loaded in
    let more : most_kept < length s.nodes = omega (arith, c.if-len-le-MOST_KEPT.false, c.len.ensures.len) in
    IfOk-weaker c.join_record.result _ (λ _. IsAnew s t) (λ _ _. subst (λ u. IsAnew s u) (sym left) (renewed_anew s c.requires.whole c.requires.small more)) c.join_record.ensures.accessed

pub returns-clause-loaded : goal.returns-clause-loaded
returns-clause-loaded g c =
    let s = held c.args.heap.now c.args.names.now in
    let t = held c.load_all.new.heap c.join_record.new.self in
    let e = ap contents c.deref.ensures.value ∙ c.in_ok-pictures.ensures.pictures in
    let none = ap (λ ns. held ns c.new-2.result) c.new.ensures ∙ ap (held []) c.new-2.ensures in
    let left : t ≡ loaded_anew s =
    ap (λ (b : Names). record { names = b; nodes = c.load_all.new.heap }) c.join_record.ensures.bound
    ∙ renewed_is s c.requires.whole c.requires.small (contents c.deref.result.now) (held c.new.result c.new-2.result) (held c.load_all.new.heap c.load_all.new.names) e none c.in_ok-load_all.ensures.loaded in
    IfOk-weaker c.join_record.result _ (λ _. most_kept < length s.nodes → t ≡ loaded_anew s) (λ _ _ _. left) c.join_record.ensures.accessed
