-- Bytes are read exactly where they are a picture.
use Rattle.std.specs.Prelude.{◌≡◌, ◌↔◌, ℕ, List, Result, Ok, Err, IsOk, is_ok}
use Rattle.std.proofs.Common.{refl, ap, ◌∙◌}
use Rattle.kishu_meaning.specs.values.Values.{State}
use Rattle.kishu_objects.specs.Bytes.{state_bytes}
use Rattle.kishu_reading.specs.FromBytes.{read_picture}
use Rattle.kishu_reading.specs.Pictured.{AreBytes, IsInPicture, IsPicture, IsPictureOf}
use Rattle.kishu_reading_laws.specs.GivenRows.{read_is_written}
use Rattle.kishu_reading_laws.specs.StateLaws.{in_picture, readable}
use Rattle.kishu_reading_laws.specs.TakingLaws.{written_is_read}

-- What is written of a state that is its own picture is read as it.
pub read_back : (p : State) → IsInPicture p → read_picture (state_bytes p) ≡ Ok p
read_back p h = written_is_read p (readable p h)

pub picture_is_read : (bs : List ℕ) (p : State) → IsPictureOf bs p → read_picture bs ≡ Ok p
picture_is_read bs p h = ap read_picture h.is ∙ read_back p h.state

pub read_is_picture : (bs : List ℕ) (p : State) → AreBytes bs → read_picture bs ≡ Ok p → IsPictureOf bs p
read_is_picture bs p small e = (let r = read_is_written bs p small e in record { state = in_picture p r.readable; is = r.is })

-- as one
pub read_tells : (bs : List ℕ) (p : State) → AreBytes bs → ((read_picture bs ≡ Ok p) ↔ IsPictureOf bs p)
read_tells bs p small = (read_is_picture bs p small, picture_is_read bs p)

-- No fault is found exactly where they are a picture of some state.
pub read_finds : (bs : List ℕ) → AreBytes bs → (IsOk (read_picture bs) ↔ IsPicture bs)
read_finds bs small = (by (read_picture bs) refl, λ h. ap is_ok (picture_is_read bs h.0 h.1))
  where
    by : (o : Result State ℕ) → read_picture bs ≡ o → IsOk o → IsPicture bs
    by (Ok p) e h = (p, read_is_picture bs p small e)
    by (Err place) e h = absurd (cc)
