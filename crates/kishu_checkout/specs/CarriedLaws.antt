-- Pictures that were read for rows, and then loaded, are those that are stored for them; and where there is one that can't be loaded, none is stored that can be.
use Rattle.std.specs.Prelude.{◌≡◌, ℕ, Bool, true, false, if◌then◌else◌, List, [], ◌∷◌, length, map, drop, Some, None}
use Rattle.std.specs.List.{AllZip}
use Rattle.std.proofs.Common.{refl, sym, ap, ◌∙◌, inl, inr, arith}
use Rattle.std.proofs.lemmas.List.{length-take, length-drop}
use Rattle.kishu_host.specs.Host as host
use Rattle.kishu_meaning.specs.values.Values.{State}
use Rattle.kishu_objects.specs.Bytes.{state_bytes}
use Rattle.kishu_objects.specs.Fits.{StateFits}
use Rattle.kishu_objects.specs.Picture.{listed}
use Rattle.kishu_objects_laws.specs.ReadingLaws.{in_order}
use Rattle.kishu_reading.specs.Pictured as reading
use Rattle.kishu_reading_laws.specs.OwnLaws.{state_is_sound}
use Rattle.kishu_store.specs.Groups.{Group}
use Rattle.kishu_store.specs.Tables.{Row, Table, bytes_at, groups_in}
use Rattle.kishu_history.specs.Live.{IsPictureOf}
use Rattle.kishu_history.specs.Stored.{Stored}
use Rattle.kishu_checkout.specs.Fetched.{AreFetched, LacksBytes}
use Rattle.kishu_checkout.specs.Groups.{IsNoneOf}
use Rattle.kishu_checkout.specs.Loads.{AreCarried}
use Rattle.kishu_checkout.specs.Pictures.{told_file, CanBeLoaded, HasNone, LacksAt}
use Rattle.kishu_checkout.specs.Placed.{ArePlaced, FailsAt}

-- ---- one row

stored_by : (tells : Bool) (file : List ℕ) (r : Row) (p : State) → (tells ≡ true → bytes_at file r ≡ state_bytes p)
    → length (state_bytes p) ≡ r.len → StateFits p → Stored (if tells then Some file else None) r p
stored_by true file r p bytes len fits = record { bytes = bytes refl; len = len; fits = fits }
stored_by false file r p bytes len fits = record { len = len; fits = fits }

row_stored : (s : host.State) (r : Row) (bytes : List ℕ) (p : State) → host.Told s (bytes ≡ bytes_at s.file r)
    → length bytes ≡ r.len → reading.IsPictureOf bytes p → listed p ≡ r.group → IsPictureOf (Stored (told_file s)) r p
row_stored s r bytes p taken len is names =
    let state = is.state.state in
    let sound = state_is_sound p state in
    record {
      sound = sound;
      names = names;
      rise = state.names.rise;
      own = (in_order p sound state.names.rise).0 is.state.order;
      stored = stored_by s.tells s.file r p (λ told. sym (taken told) ∙ is.is) (ap length (sym is.is) ∙ len) is.state.fits;
    }

in_picture : (file : List ℕ) (r : Row) (p : State) → CanBeLoaded file r p → reading.IsInPicture p
in_picture file r p can =
    let state = can.0.state in
    record {
      state = state;
      known = can.1;
      fits = can.0.loads.stored.fits;
      order = (in_order p (state_is_sound p state) state.names.rise).1 can.0.loads.own;
    }

-- where the bytes at its place are no picture of its names
none_of : (file : List ℕ) (r : Row) (bytes : List ℕ) → bytes ≡ bytes_at file r → IsNoneOf r.group bytes → HasNone file r
none_of file r bytes taken none p can =
    none p (record { state = in_picture file r p can; is = taken ∙ can.0.loads.stored.bytes }) can.0.loads.names

-- ---- rows

fetched_first : (s : host.State) (r : Row) (t : Table) (b : List ℕ) (bs : List (List ℕ)) → AreFetched s (r ∷ t) (b ∷ bs)
    → host.Told s (b ≡ bytes_at s.file r) × (length b ≡ r.len)
fetched_first s r t b bs f = ((λ told. cc (f.bytes told)), (let e = f.lens in cc (e)))

fetched_rest : (s : host.State) (r : Row) (t : Table) (b : List ℕ) (bs : List (List ℕ)) → AreFetched s (r ∷ t) (b ∷ bs) → AreFetched s t bs
fetched_rest s r t b bs f = record { bytes = λ told. cc (f.bytes told); lens = (let e = f.lens in cc (e)) }

pub rows_stored : (s : host.State) (t : Table) (bytes : List (List ℕ)) (ps : List State) → AreFetched s t bytes
    → AllZip reading.IsPictureOf bytes ps → map listed ps ≡ groups_in t → AllZip (IsPictureOf (Stored (told_file s))) t ps
rows_stored s [] [] [] f zip names = tt
rows_stored s (r ∷ t) (b ∷ bs) (p ∷ ps) f zip names =
    let here = fetched_first s r t b bs f in (
      row_stored s r b p here.0 here.1 zip.0 (cc (names)),
      rows_stored s t bs ps (fetched_rest s r t b bs f) zip.1 (cc (names)),
    )
rows_stored s t [] (p ∷ ps) f zip names = absurd zip
rows_stored s t (b ∷ bs) [] f zip names = absurd zip
rows_stored s [] (b ∷ bs) (p ∷ ps) f zip names = absurd (cc (names))
rows_stored s (r ∷ t) [] [] f zip names = absurd (cc (names))

-- What was read for the rows and then loaded is stored for them.
abbrev pub are_carried : (s : host.State) (gone : List Group) (t : Table) (bytes : List (List ℕ)) (before after : State) → AreFetched s t bytes
    → ArePlaced gone t bytes before after → AreCarried (told_file s) gone t before after
are_carried s gone t bytes before after f placed = record {
  pictures = placed.pictures;
  each = rows_stored s t bytes placed.pictures f placed.told placed.names;
  is = placed.is;
}

-- The bytes are those of the pictures that were loaded.
pub are_bytes_of : (bytes : List (List ℕ)) (ps : List State) → AllZip reading.IsPictureOf bytes ps → bytes ≡ map state_bytes ps
are_bytes_of [] [] zip = refl
are_bytes_of (b ∷ bs) (p ∷ ps) zip = ap (λ c. c ∷ bs) zip.0.is ∙ ap (λ cs. state_bytes p ∷ cs) (are_bytes_of bs ps zip.1)
are_bytes_of [] (p ∷ ps) zip = absurd zip
are_bytes_of (b ∷ bs) [] zip = absurd zip

-- ---- damage

-- Where one of those that were read can't be loaded, none that can be is stored for its row.
pub fails_lacks : (s : host.State) (t : Table) (bytes : List (List ℕ)) (at : ℕ) → AreFetched s t bytes → FailsAt t bytes at → LacksAt s t at
fails_lacks s (r ∷ t) (b ∷ bs) at f (inl h) =
    let taken = (fetched_first s r t b bs f).0 in
    record { row = r; there = inl refl; place = h.1; none = λ told. none_of s.file r b (taken told) h.0 }
fails_lacks s (r ∷ t) (b ∷ bs) at f (inr h) =
    let k = fails_lacks s t bs at (fetched_rest s r t b bs f) h.1 in
    record { row = k.row; there = inr k.there; place = k.place; none = k.none }
fails_lacks s [] bytes at f h = absurd h
fails_lacks s (r ∷ t) [] at f h = absurd h

-- Nor is one where the file ends before it.
pub bytes_lack : (s : host.State) (t : Table) (at : ℕ) → LacksBytes s t at → LacksAt s t at
bytes_lack s t at l = record {
  row = l.row;
  there = l.there;
  place = l.lacks.0;
  none = λ told p can.
      let cut = l.lacks.1 told in
      let stored = can.0.loads.stored in
      let whole = ap length stored.bytes ∙ stored.len in
      let taken = length-take l.row.len (drop l.row.place s.file) in
      let rest = length-drop l.row.place s.file in
      omega (arith, cut, whole, taken, rest);
}
