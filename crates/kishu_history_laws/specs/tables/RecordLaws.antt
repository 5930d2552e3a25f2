-- The rows of a record lie where its pictures lie; and what is read at a row's place may be loaded for it.
use Rattle.std.specs.Prelude.{◌≡◌, ℕ, ◌+◌, ◌≤◌, List, [], ◌∷◌, ◌++◌, map, length, take, drop}
use Rattle.std.specs.List.{AllZip}
use Rattle.std.proofs.Common.{arith, refl, ap, sym, ◌∙◌, inl, inr, append_assoc}
use Rattle.std.proofs.lemmas.List.{drop-drop, drop-append-le, take-append-le, length-drop}
use Rattle.std.specs.Str.{bytes_eq}
use Rattle.std.specs.Cmp.Lexicographic.{bytes_decides}
use Rattle.std.proofs.lemmas.Bool.Decides.{same_from_decides}
use Rattle.kishu_meaning.specs.values.Values.{State}
use Rattle.kishu_objects.specs.Picture.{listed}
use Rattle.kishu_objects.specs.Lists.{In, Rise}
use Rattle.kishu_objects.specs.Bytes.{state_bytes}
use Rattle.kishu_objects.specs.Fits.{StateFits}
use Rattle.kishu_objects_laws.specs.BytesLaws.{reads_state}
use Rattle.kishu_objects.specs.Sound.{IsSound}
use Rattle.kishu_objects.specs.Reading.{IsInOrder}
use Rattle.kishu_objects_laws.specs.ReadingLaws.{in_order}
use Rattle.kishu_history.specs.Alike.{is_state}
use Rattle.kishu_history.specs.Changed.{Group}
use Rattle.kishu_history.specs.Tables.{Row, groups_in, rows_from}
use Rattle.kishu_history.specs.Live.{IsPictureOf}
use Rattle.kishu_history.specs.Stored.{bytes_at, Held, joined}
use Rattle.kishu_history_laws.specs.states.AlikeLaws.{state_decides}

pub rows_versions : (c place : ℕ) (gs : List (Group × ℕ)) (r : Row) → In r (rows_from c place gs) → r.version ≡ c
rows_versions c place [] r m = absurd m
rows_versions c place (g ∷ gs) r (inl e) = ap (λ q. q.version) e
rows_versions c place (g ∷ gs) r (inr m) = rows_versions c (place + g.1) gs r m

pub rows_groups : (c place : ℕ) (gs : List (Group × ℕ)) → groups_in (rows_from c place gs) ≡ map (λ (g : Group × ℕ). g.0) gs
rows_groups c place [] = refl
rows_groups c place (g ∷ gs) = ap (λ l. g.0 ∷ l) (rows_groups c (place + g.1) gs)

take_first : (xs ys : List ℕ) → take (length xs) (xs ++ ys) ≡ xs
take_first [] ys = refl
take_first (x ∷ xs) ys = ap (λ l. x ∷ l) (take_first xs ys)

drop_first : (xs ys : List ℕ) → drop (length xs) (xs ++ ys) ≡ ys
drop_first [] ys = refl
drop_first (x ∷ xs) ys = drop_first xs ys

-- The pictures of a record lie one behind another from its first row's place on.
pub rows_bytes : (file : List ℕ) (c place : ℕ) (gs : List (Group × ℕ)) (ps : List (List ℕ)) (rest : List ℕ) → AllZip (λ (g : Group × ℕ) p. g.1 ≡ length p) gs ps → drop place file ≡ joined ps ++ rest → AllZip (λ r p. bytes_at file r ≡ p) (rows_from c place gs) ps
rows_bytes file c place [] [] rest zip e = tt
rows_bytes file c place (g ∷ gs) (p ∷ ps) rest zip e = (
  ap (take g.1) e ∙ ap (λ n. take n ((p ++ joined ps) ++ rest)) zip.0 ∙ ap (take (length p)) (append_assoc p (joined ps) rest) ∙ take_first p (joined ps ++ rest),
  rows_bytes file c (place + g.1) gs ps rest zip.1
      (sym (drop-drop g.1 place file) ∙ ap (drop g.1) e ∙ ap (λ n. drop n ((p ++ joined ps) ++ rest)) zip.0 ∙ ap (drop (length p)) (append_assoc p (joined ps) rest) ∙ drop_first p (joined ps ++ rest)),
)
rows_bytes file c place [] (p ∷ ps) rest zip e = absurd zip
rows_bytes file c place (g ∷ gs) [] rest zip e = absurd zip

-- What was read for a row as a picture of its names may be loaded for it.
pub read_picture : (file : List ℕ) (r : Row) (p : State) → IsSound p → Rise (listed p) → IsInOrder p → StateFits p → listed p ≡ r.group → bytes_at file r ≡ state_bytes p → length (state_bytes p) ≡ r.len → IsPictureOf (Held file) r p
read_picture file r p sound rise order fits names bytes len = record { sound = sound; names = names; rise = rise; own = (in_order p sound rise).0 order; stored = record { bytes = bytes; len = len; fits = fits } }

-- Two files that begin alike hold the same at a place in their common beginning.
pub begun_alike : (front rest more : List ℕ) (r : Row) → r.place + r.len ≤ length front → bytes_at (front ++ rest) r ≡ bytes_at (front ++ more) r
begun_alike front rest more r l =
    let n : r.len ≤ length (drop r.place front) = (let k = length-drop r.place front in omega (arith, k, l)) in
    let at : (tail : List ℕ) → bytes_at (front ++ tail) r ≡ take r.len (drop r.place front) = λ tail.
    ap (take r.len) (drop-append-le r.place front tail (omega (arith, l))) ∙ take-append-le r.len (drop r.place front) tail n in
    at rest ∙ sym (at more)

-- Whether two pictures have one text of bytes tells whether they are one.
pub bytes_test : (p q : State) → StateFits p → StateFits q → bytes_eq (state_bytes p) (state_bytes q) ≡ is_state p q
bytes_test p q a b = same_from_decides (bytes_eq (state_bytes p) (state_bytes q)) (is_state p q) ((λ e. reads_state p q a b ((bytes_decides (state_bytes p) (state_bytes q)).0 e)), (λ e. (bytes_decides (state_bytes p) (state_bytes q)).1 (ap state_bytes e))) (state_decides p q)
