-- The rows that were made of groups so far.
use Rattle.std.proofs.Common.{◌≡◌, ◌<◌, ◌≤◌, ℕ, ◌+◌, ◌^◌, List, [], ◌∷◌, ◌++◌, length, map, drop, get_or, refl, sym, ◌∙◌, ap, arith, append_assoc}
use Rattle.std.proofs.lemmas.List.{append-nil, drop_more, drop_all, map_push}
use Rattle.std.proofs.lemmas.List.Sums.{sum_by-cons}
use Rattle.std.specs.List.{sum}
use Rattle.std.specs.declared.alloc.Global.{Global}
use Rattle.std.specs.declared.rc.RcStr.{RcStr}
use Rattle.std.specs.declared.vec.Vec.{Vec}
use Rattle.kishu_graph.specs.Kept.{row_of, texts_of}
use Rattle.kishu_graph.specs.Tables.{stored_of}
use Rattle.kishu_graph.specs.declared.tables.TableRow.{TableRow}
use Rattle.kishu_store.specs.Tables.{Row, Table, rows_from}
use Rattle.kishu_journal.specs.Following.{lens_of}

abbrev pub Stored : Type 0
Stored = Vec (RcStr Global) Global × ℕ

-- The rows so far, and those of what is left from this place on, are those of all; the pictures end before 2^64.
pub record Rowed (commit place : ℕ) (all left : List Stored) (rows : List TableRow) (at : ℕ) : Type 0 where
  pub rows_are : map row_of rows ++ rows_from commit at (map stored_of left) ≡ rows_from commit place (map stored_of all)
  pub room : at + sum (lens_of left) < 2 ^ 64

pub rowed-start : (commit place : ℕ) (all : List Stored) (rows : List TableRow) → rows ≡ [] → place + sum (lens_of all) < 2 ^ 64 → Rowed commit place all all rows place
rowed-start commit place all rows none room = record { rows_are = ap (λ (l : List TableRow). map row_of l ++ rows_from commit place (map stored_of all)) none; room = room }

module _ (commit place : ℕ) (all rest : List Stored) (s : Stored) (rows : List TableRow) (at : ℕ) (r : Rowed commit place all (s ∷ rest) rows at) where
  room-is : at + (s.1 + sum (lens_of rest)) < 2 ^ 64
  room-is = (let k = r.room in let sums : sum (lens_of (s ∷ rest)) ≡ s.1 + sum (lens_of rest) = sum_by-cons (λ n. n) s.1 (lens_of rest) in omega (arith, k, sums))

  pub rowed-room : at + s.1 < 2 ^ 64
  rowed-room = omega (arith, room-is)

  pub rowed-on : (new : TableRow) (more : List TableRow) (later : ℕ) → row_of new ≡ record { group = texts_of s.0; version = commit; place = at; len = s.1 } → more ≡ rows ++ (new ∷ []) → later ≡ at + s.1 → Rowed commit place all rest more later
  rowed-on new more later new_is more_is later_is = record {
    rows_are =
        ap (λ (l : List TableRow). map row_of l ++ rows_from commit later (map stored_of rest)) more_is
        ∙ ap (λ (l : Table). l ++ rows_from commit later (map stored_of rest)) (map_push row_of rows new)
        ∙ append_assoc (map row_of rows) (row_of new ∷ []) (rows_from commit later (map stored_of rest))
        ∙ ap (λ (q : Row). map row_of rows ++ (q ∷ rows_from commit later (map stored_of rest))) new_is
        ∙ ap (λ (n : ℕ). map row_of rows ++ (record { group = texts_of s.0; version = commit; place = at; len = s.1 } ∷ rows_from commit n (map stored_of rest))) later_is
        ∙ r.rows_are;
    room = omega (arith, room-is, later_is);
  }

pub rowed-end : (commit place : ℕ) (all left : List Stored) (rows : List TableRow) (at : ℕ) → left ≡ [] → Rowed commit place all left rows at → map row_of rows ≡ rows_from commit place (map stored_of all)
rowed-end commit place all left rows at none r =
    sym (append-nil (map row_of rows)) ∙ ap (λ (l : List Stored). map row_of rows ++ rows_from commit at (map stored_of l)) (sym none) ∙ r.rows_are

-- ---- lengths

pub lens-same : (all : List Stored) → map (λ s. s.1) (map stored_of all) ≡ lens_of all
lens-same [] = refl
lens-same (s ∷ all) = ap (λ (l : List ℕ). s.1 ∷ l) (lens-same all)

-- ---- groups from a place on

pub stored-on : (all : List Stored) (i : ℕ) (d : Stored) → i < length all → drop i all ≡ get_or all i d ∷ drop (i + 1) all
stored-on all i d h = drop_more all i d h

pub stored-end : (all : List Stored) (i : ℕ) → length all ≤ i → drop i all ≡ []
stored-end all i h = drop_all i all h
