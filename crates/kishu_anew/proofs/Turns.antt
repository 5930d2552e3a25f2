-- Pictures that are loaded one after another.
use Rattle.std.specs.Prelude.{◌≡◌, ◌<◌, ◌+◌, ℕ, List, [], ◌∷◌, length, drop, get_or, Ok, Err, Result}
use Rattle.std.specs.List.{AllZip}
use Rattle.std.specs.declared.alloc.Global.{Global}
use Rattle.std.specs.declared.vec.Vec.{Vec}
use Rattle.std.proofs.Common.{refl, ap, sym, ◌∙◌, arith}
use Rattle.std.proofs.Math.Logic.{∥∥₁_elim}
use Rattle.std.proofs.Props.{props}
use Rattle.std.proofs.lemmas.List.{drop_more}
use Rattle.std.proofs.lemmas.List.Sums.{sum_by-cons}
use Rattle.kishu_meaning.specs.values.Values.{State}
use Rattle.kishu_objects.specs.Loading.{with_picture}
use Rattle.kishu_objects_laws.specs.LoadingLaws.{nodes_more}
use Rattle.kishu_objects_laws.specs.NodeCountLaws.{nodes_fit}
use Rattle.kishu_history.specs.Checkout.{with_pictures}
use Rattle.kishu_loading.specs.Loaded.{IsLoaded}
use Rattle.kishu_reading.specs.FromBytes.{read_picture}
use Rattle.kishu_reading.specs.Pictured.{IsPictureOf}
use Rattle.kishu_reading_laws.specs.PictureLaws.{picture_is_read}
use Rattle.kishu_anew.specs.Anew.{contents, taken_by, ArePictures}

-- ---- one picture

-- Bytes that are a picture are no fault,
pub no_fault : (bytes : List ℕ) (p : State) (at : ℕ) → IsPictureOf bytes p → read_picture bytes ≡ Err at → ⊥
no_fault bytes p at is e = ok_err (sym (picture_is_read bytes p is) ∙ e)
  where
    ok_err : Ok p ≡ Err at → ⊥
    ok_err f = cc (f)

-- and what is loaded of them is this picture.
pub loaded_is : (bytes : List ℕ) (p before after : State) → IsPictureOf bytes p → IsLoaded bytes before after → after ≡ with_picture before p
loaded_is bytes p before after is l = l.is ∙ ap (with_picture before) (one (sym l.read ∙ picture_is_read bytes p is))
  where
    one : {q r : State} → ◌≡◌ {A = Result State ℕ} (Ok q) (Ok r) → q ≡ r
    one e = cc (e)

-- ---- what is left from a place on

pub contents_at : (ps : List (Vec ℕ Global)) (i : ℕ) (p : Vec ℕ Global) → i < length ps → p ≡ get_or ps i p → contents (drop i ps) ≡ p.items ∷ contents (drop (i + 1) ps)
contents_at ps i p l is = ap contents (drop_more ps i p l ∙ ap (λ y. y ∷ drop (i + 1) ps) (sym is))

-- From here on these bytes are left: of each list of pictures that all of them are, those that are left lead on to where all lead.
pub record IsLoading (bytes : List (List ℕ)) (before here : State) (left : List (List ℕ)) : Type 0 where
  pub on : (ps : List State) → AllZip IsPictureOf bytes ps → (qs : List State) × AllZip IsPictureOf left qs × (with_pictures qs here ≡ with_pictures ps before)

pub loading_all : (bytes : List (List ℕ)) (before : State) → IsLoading bytes before before bytes
loading_all bytes before = record { on = λ ps zip. (ps, zip, refl) }

module _ (bytes : List (List ℕ)) (before here : State) (b : List ℕ) (left : List (List ℕ)) (loading : IsLoading bytes before here (b ∷ left)) where
  next_of : (after goal : State) (qs : List State) → IsLoaded b here after → AllZip IsPictureOf (b ∷ left) qs → with_pictures qs here ≡ goal
      → (rs : List State) × AllZip IsPictureOf left rs × (with_pictures rs after ≡ goal)
  next_of after goal [] l zip e = absurd zip
  next_of after goal (q ∷ qs) l zip e = (qs, zip.1, ap (with_pictures qs) (loaded_is b q here after zip.0 l) ∙ e)

  pub loading_next : (after : State) → IsLoaded b here after → IsLoading bytes before after left
  loading_next after l = record { on = λ ps zip. let k = loading.on ps zip in next_of after (with_pictures ps before) k.0 l k.1 k.2 }

  -- The next one is a picture.
  next_is : (qs : List State) → AllZip IsPictureOf (b ∷ left) qs → (q : State) × IsPictureOf b q
  next_is [] zip = absurd zip
  next_is (q ∷ qs) zip = (q, zip.0)

  pub loading_faultless : ArePictures bytes → (at : ℕ) → read_picture b ≡ Err at → ⊥
  loading_faultless all at e = ∥∥₁_elim all (λ x y. absurd x) (λ are. let k = loading.on are.0 are.1 in let q = next_is k.0 k.1 in no_fault b q.0 at q.1 e)

-- There is room for the next one, and then for those that are left.
pub room_here : (left : List (List ℕ)) (b : List ℕ) (more : List (List ℕ)) (nodes most : ℕ) → left ≡ b ∷ more → nodes + taken_by left + 1 < most → nodes + length b + 1 < most
room_here left b more nodes most e room = (let taken = ap taken_by e ∙ sum_by-cons (λ (p : List ℕ). length p) b more in omega (arith, room, taken))

pub room_next : (left : List (List ℕ)) (b : List ℕ) (more : List (List ℕ)) (before after : State) (all : List (List ℕ)) (start : State) (most : ℕ) → ArePictures all → IsLoading all start before (b ∷ more) → left ≡ b ∷ more
    → length before.nodes + taken_by left + 1 < most → IsLoaded b before after → length after.nodes + taken_by more + 1 < most
room_next left b more before after all start most pictures loading e room l =
    let less : IsProp (length after.nodes + taken_by more + 1 < most) = hlevel props in
    ∥∥₁_elim pictures less
    (λ are.
    let k = loading.on are.0 are.1 in
    let q = next_is all start before b more loading k.0 k.1 in
    let grown = ap (λ (s : State). length s.nodes) (loaded_is b q.0 before after q.1 l) ∙ nodes_more before q.0 in
    let fit = nodes_fit q.0 in
    let same = ap length q.1.is in
    let taken = ap taken_by e ∙ sum_by-cons (λ (p : List ℕ). length p) b more in
    omega (arith, grown, fit, same, taken, room))

-- At the end nothing is left.
pub loading_end : (bytes : List (List ℕ)) (before here : State) → IsLoading bytes before here [] → (ps : List State) → AllZip IsPictureOf bytes ps → here ≡ with_pictures ps before
loading_end bytes before here loading ps zip = (let k = loading.on ps zip in ended k.0 k.1 k.2)
  where
    ended : (qs : List State) → AllZip IsPictureOf [] qs → with_pictures qs here ≡ with_pictures ps before → here ≡ with_pictures ps before
    ended [] none e = e
    ended (q ∷ qs) none e = absurd none
