-- Rows whose pictures are read one after another.
use Rattle.std.specs.Prelude.{◌≡◌, ◌<◌, ◌≤◌, ℕ, zero, suc, ◌+◌, List, [], ◌∷◌, ◌++◌, length, map, take, get_or, Option, Some, None}
use Rattle.std.specs.declared.alloc.Global.{Global}
use Rattle.std.specs.declared.vec.Vec.{Vec}
use Rattle.std.proofs.Common.{sym, ap, ◌∙◌, inl, inr, arith}
use Rattle.std.proofs.Math.Seq.{take-suc}
use Rattle.std.proofs.lemmas.List.{length-map, get_or-map, map-append}
use Rattle.std.proofs.lemmas.List.Sums.{sum_by-append, sum_by-cons, sum_by-take-le}
use Rattle.kishu_host.specs.Host as host
use Rattle.kishu_host.specs.Host.{Now, ReadsMore}
use Rattle.kishu_host.specs.Going.{goes_on}
use Rattle.kishu_objects.specs.Lists.{In}
use Rattle.kishu_store.specs.Tables.{Row, Table, bytes_in, bytes_at, len_in}
use Rattle.kishu_journal.specs.Facts.{IsTaken, LacksPart}
use Rattle.kishu_journal.specs.Going.{IsQuiet}
use Rattle.kishu_checkout.specs.Fetched.{contents, AreFetched, LacksBytes}

-- ---- calls that only read

pub quiet_on : (a b c : host.State) → IsQuiet a b → IsQuiet b c → IsQuiet a c
quiet_on a b c p q = record {
  keeps = record { file = q.keeps.file ∙ p.keeps.file; out = q.keeps.out ∙ p.keeps.out; crash = λ f h. p.keeps.crash f (q.keeps.crash f h) };
  time = goes_on a b c (Now a) (Now b) p.time q.time (λ f o h. (p.keeps.crash f h.0, h.1 ∙ p.keeps.out));
  disk = omega (arith, p.disk, q.disk);
  outs = omega (arith, p.outs, q.outs);
}

pub reads_more : (a b c : Option ℕ) (m n all : ℕ) → ReadsMore a b m → ReadsMore b c n → all ≡ m + n → ReadsMore a c all
reads_more a b None m n all p q e = tt
reads_more a None (Some z) m n all p q e = absurd (cc (q.1))
reads_more a (Some y) (Some z) m n all p q e =
    let same : y ≡ q.0 = cc (q.1) in
    (p.0, p.1, omega (arith, p.2, q.2, same, e))

-- ---- one row more

one_row : (r : Row) → bytes_in (r ∷ []) ≡ r.len
one_row r = (let e = sum_by-cons len_in r [] in omega (arith, e))

-- what was read after calls that only read is what was there before
pub part_still : (a b : host.State) (r : Row) (bytes : List ℕ) → IsQuiet a b → IsTaken b r.place r.len bytes → host.Told a (bytes ≡ bytes_at a.file r)
part_still a b r bytes q taken told = taken (q.time.tells ∙ told) ∙ ap (λ f. bytes_at f r) q.keeps.file

pub fetched_more : (s : host.State) (t new_t : Table) (v new : List (Vec ℕ Global)) (r : Row) (p : Vec ℕ Global) → AreFetched s t (contents v)
    → new_t ≡ t ++ (r ∷ []) → new ≡ v ++ (p ∷ []) → host.Told s (p.items ≡ bytes_at s.file r) → length p.items ≡ r.len → AreFetched s new_t (contents new)
fetched_more s t new_t v new r p f rows is bytes len = record {
  bytes = λ told. last ∙ ap (λ xs. xs ++ (p.items ∷ [])) (f.bytes told) ∙ ap (λ x. map (bytes_at s.file) t ++ (x ∷ [])) (bytes told)
      ∙ sym (map-append (bytes_at s.file) t (r ∷ [])) ∙ ap (map (bytes_at s.file)) (sym rows);
  lens = ap (map (λ xs. length xs)) last ∙ map-append (λ xs. length xs) (contents v) (p.items ∷ [])
      ∙ ap (λ ns. ns ++ (length p.items ∷ [])) f.lens ∙ ap (λ n. map len_in t ++ (n ∷ [])) len ∙ sym (map-append len_in t (r ∷ []))
      ∙ ap (map len_in) (sym rows);
}
  where
    last : contents new ≡ contents v ++ (p.items ∷ [])
    last = ap contents is ∙ map-append (λ (q : Vec ℕ Global). q.items) v (p ∷ [])

row_there : (t : Table) (i : ℕ) (r : Row) → i < length t → r ≡ get_or t i r → In r t
row_there [] i r l e = absurd (omega (arith, l))
row_there (q ∷ t) zero r l e = inl e
row_there (q ∷ t) (suc i) r l e = inr (row_there t i r (omega (arith, l)) e)

-- the row at a place, behind those before it
module _ {A : Type 0} (row : A → Row) (xs : List A) (i : ℕ) (x : A) (there : i < length xs) (is : x ≡ get_or xs i x) where
  abbrev rows : Table
  rows = map row xs

  inside : i < length rows
  inside = (let e = length-map xs row in omega (arith, there, e))

  at_place : row x ≡ get_or rows i (row x)
  at_place = ap row is ∙ sym (get_or-map row xs i x (row x) there)

  pub row_in : In (row x) rows
  row_in = row_there rows i (row x) inside at_place

  pub rows_next : take (i + 1) rows ≡ take i rows ++ (row x ∷ [])
  rows_next =
      let next : i + 1 ≡ suc i = omega arith in
      ap (λ n. take n rows) next ∙ take-suc rows i (row x) inside ∙ ap (λ q. take i rows ++ (q ∷ [])) (sym at_place)

  pub bytes_next : bytes_in (take (i + 1) rows) ≡ bytes_in (take i rows) + (row x).len
  bytes_next = ap bytes_in rows_next ∙ sum_by-append len_in (take i rows) (row x ∷ []) ∙ ap (λ n. bytes_in (take i rows) + n) (one_row (row x))

  pub bytes_most : bytes_in (take i rows) + (row x).len ≤ bytes_in rows
  bytes_most = (let most = sum_by-take-le len_in rows (i + 1) in let e = bytes_next in omega (arith, most, e))

-- ---- bytes that aren't there

pub lacks_still : (a b : host.State) (t : Table) (r : Row) (at : ℕ) → IsQuiet a b → In r t → LacksPart b r.place r.len at → LacksBytes a t at
lacks_still a b t r at q there l = record {
  row = r;
  there = there;
  lacks = (l.0, λ told. (let cut = l.1 (q.time.tells ∙ told) in let e = ap length q.keeps.file in omega (arith, cut, e)));
}
