-- What equal bytes tell.
use Rattle.std.specs.Prelude.{◌≡◌, ◌↔◌, ℕ, ◌<◌, ◌^◌, List, Bool, IsTrue, length}
use Rattle.std.specs.Bool.{Decides}
use Rattle.std.specs.Cmp.Lexicographic.{bytes_decides}
use Rattle.std.specs.Str.{bytes_eq}
use Rattle.std.proofs.Common.{ap, sym, ◌∙◌, subst}
use Rattle.std.proofs.lemmas.List.Elements.{All-weaker}
use Rattle.kishu_meaning.specs.values.Sound.{is_sound_heap, are_sound_names}
use Rattle.kishu_meaning.specs.values.Values.{State}
use Rattle.kishu_objects.specs.Bytes.{state_bytes, picture_bytes}
use Rattle.kishu_objects.specs.Fits.{StateFits}
use Rattle.kishu_objects.specs.Lists.{Rise}
use Rattle.kishu_objects.specs.Loading.{with_picture}
use Rattle.kishu_objects.specs.Picture.{picture, listed, whole}
use Rattle.kishu_objects.specs.Same.{Same, SameOn}
use Rattle.kishu_objects.specs.State.{IsState}
use Rattle.kishu_objects.specs.States.{IsSoundState}
use Rattle.kishu_objects_laws.specs.BytesLaws.{reads_state, same_bytes, bytes_same}
use Rattle.kishu_objects_laws.specs.ListLaws.{contains_in}
use Rattle.kishu_objects_laws.specs.LoadingLaws.{pictured_same}
use Rattle.kishu_objects_laws.specs.SoundLaws.{sound_of}
use Rattle.kishu_objects_laws.specs.WholeLaws.{same_whole, whole_same}
use Rattle.kishu_picture.specs.Held.{AreBound}
use Rattle.kishu_reading.specs.Pictured.{IsPictureOf}
use Rattle.kishu_state_laws.specs.Fitting.{picture_fits}
use Rattle.kishu_state_laws.specs.Real.{state_is_real}
use Rattle.kishu_iso.specs.Parts.{IsShort, HaveEqualPictures, HaveEqualBytes}
use Rattle.kishu_iso.specs.Wholes.{whole_bytes}

-- What a heap and names tell of themselves.
pub told_sound : (s : State) → IsTrue (is_sound_heap s.nodes) → IsTrue (are_sound_names (length s.nodes) s.names) → Rise (listed s)
    → IsSoundState s
told_sound s nodes names rise = record { sound = sound_of s nodes names; rise = rise }

-- The test of their pictures' bytes tells whether two states are the same.
pub bytes_decide : (s t : State) → IsSoundState s → IsSoundState t → StateFits (whole s) → StateFits (whole t)
    → (one other : List ℕ) → one ≡ whole_bytes s → other ≡ whole_bytes t → (told : Bool) → told ≡ bytes_eq one other → Decides told (Same s t)
bytes_decide s t a b fits others one other e f told h = (
  λ k. whole_same s t a.sound b.sound (reads_state (whole s) (whole t) fits others (sym e ∙ (bytes_decides one other).0 (sym h ∙ k) ∙ f)),
  λ same. h ∙ (bytes_decides one other).1 (e ∙ ap state_bytes (same_whole s t a.sound b.sound a.rise b.rise same) ∙ sym f),
)

-- Pictures of equal bytes are equal.
pub pictures_equal : (s t : State) (names : List (List ℕ)) → IsState s → IsState t → Rise names → IsShort s names
    → picture_bytes s names ≡ picture_bytes t names → picture s names ≡ picture t names
pictures_equal s t names a b rise short e =
    let other : IsShort t names = subst (λ bs. length bs < 2 ^ 32) e short in
    reads_state (picture s names) (picture t names) (picture_fits s names a rise short) (picture_fits t names b rise other) e

pub parts_equal : (s t : State) (groups : List (List (List ℕ))) → IsState s → IsState t → HaveEqualBytes s t groups
    → HaveEqualPictures s t groups
parts_equal s t groups a b h =
    All-weaker (λ g. Rise g × IsShort s g × (picture_bytes s g ≡ picture_bytes t g)) (λ g. picture s g ≡ picture t g)
    (λ g k. pictures_equal s t g a b k.0 k.1 k.2) groups h

pub names_in_bytes : (s t : State) (names : List (List ℕ)) → IsState s → IsState t → Rise names → IsShort s names → IsShort t names
    → (SameOn s t names ↔ (picture_bytes s names ≡ picture_bytes t names))
names_in_bytes s t names a b rise short other =
    let x = state_is_real s a in
    let y = state_is_real t b in (
      same_bytes s t names x.sound y.sound,
      bytes_same s t names x.sound y.sound (picture_fits s names a rise short) (picture_fits t names b rise other),
    )

pub loaded_bytes : (s t p : State) (names : List (List ℕ)) → IsState t → Rise names → AreBound t.names names → IsShort t names
    → IsPictureOf (picture_bytes t names) p → SameOn t (with_picture s p) names
loaded_bytes s t p names a rise there short is =
    let e : picture t names ≡ p = reads_state (picture t names) p (picture_fits t names a rise short) is.state.fits is.is in
    subst (λ q. SameOn t (with_picture s q) names) e (pictured_same s t (state_is_real t a).sound names rise (λ x m. there x (contains_in names x m)))
