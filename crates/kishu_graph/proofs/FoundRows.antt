-- Rows by their first names are a table, in order, and lead to a commit's.
use Rattle.std.specs.Prelude.{◌≡◌, ℕ, true, false, List, [], ◌∷◌, ◌++◌, map, refl}
use Rattle.std.specs.Cmp.Lexicographic.{slice_cmp}
use Rattle.std.specs.Ordering.{nat_cmp, match_ordering}
use Rattle.std.specs.BTreeMap.{insert_entry}
use Rattle.std.specs.Map.{values_of}
use Rattle.std.specs.Rc.{rc_str_bytes}
use Rattle.std.specs.declared.alloc.Global.{Global}
use Rattle.std.specs.declared.rc.RcStr.{RcStr}
use Rattle.std.specs.declared.cmp.Ordering.TheVariants.{Less, Equal, Greater}
use Rattle.std.proofs.Common.{ap, sym, ◌∙◌, append_assoc, Ordering}
use Rattle.std.proofs.lemmas.List.Elements.{filter-append}
use Rattle.kishu_language.specs.tokens.Names.{is_among}
use Rattle.kishu_store.specs.Tables.{Row, Table, first_in, put_row, put_rows}
use Rattle.kishu_store_laws.specs.BranchLaws.{equal_titles}
use Rattle.kishu_store_laws.specs.WalkLaws.{is_left, rows_left}
use Rattle.kishu_graph.specs.declared.tables.TableRow as rust_row
use Rattle.kishu_graph.specs.Kept.{row_of}
use Rattle.kishu_graph.specs.Walks.{Found, rows_in, StandAtFirst, HaveFound}
use Rattle.kishu_graph.proofs.Gone.{by_text}
use Rattle.kishu_graph.proofs.Puts.{Lacks, row-found}

-- ---- one row more, by its first name

module _ (k : RcStr Global) (v : rust_row.TableRow) (here : first_in (row_of v) ≡ rc_str_bytes k) where
  row_by : (e : RcStr Global × rust_row.TableRow) (es : Found) (o : Ordering) → by_text k e.0 ≡ o → StandAtFirst (e ∷ es) → Lacks (first_in (row_of v)) (rows_in (e ∷ es))
      → rows_in (insert_entry by_text es k v) ≡ put_row (row_of v) (rows_in es)
      → rows_in (match_ordering o ((k, v) ∷ e ∷ es) ((e.0, v) ∷ es) (e ∷ insert_entry by_text es k v)) ≡ match_ordering o (row_of v ∷ row_of e.1 ∷ rows_in es) (row_of v ∷ row_of e.1 ∷ rows_in es) (row_of e.1 ∷ put_row (row_of v) (rows_in es))
  row_by e es Less is at lacks rest = refl
  row_by e es Equal is at lacks rest = absurd (lacks.0 (at.0 ∙ sym (equal_titles (rc_str_bytes k) (rc_str_bytes e.0) (sym is)) ∙ sym here))
  row_by e es Greater is at lacks rest = ap (λ (t : Table). row_of e.1 ∷ t) rest

  -- a row whose first name isn't there yet is put into the table
  row_in : (es : Found) → StandAtFirst es → Lacks (first_in (row_of v)) (rows_in es) → rows_in (insert_entry by_text es k v) ≡ put_row (row_of v) (rows_in es)
  row_in [] at lacks = refl
  row_in (e ∷ es) at lacks =
      let name = ap (λ (x : List ℕ). slice_cmp nat_cmp x (rc_str_bytes e.0)) (sym here) ∙ ap (slice_cmp nat_cmp (first_in (row_of v))) (sym at.0) in
      row_by e es (by_text k e.0) refl at lacks (row_in es at.1 lacks.1)
      ∙ ap (λ (o : Ordering). match_ordering o (row_of v ∷ row_of e.1 ∷ rows_in es) (row_of v ∷ row_of e.1 ∷ rows_in es) (row_of e.1 ∷ put_row (row_of v) (rows_in es))) name

  stand_by : (e : RcStr Global × rust_row.TableRow) (es : Found) (o : Ordering) → by_text k e.0 ≡ o → StandAtFirst (e ∷ es) → StandAtFirst (insert_entry by_text es k v) → StandAtFirst (match_ordering o ((k, v) ∷ e ∷ es) ((e.0, v) ∷ es) (e ∷ insert_entry by_text es k v))
  stand_by e es Less is at rest = (here, at)
  stand_by e es Equal is at rest = (here ∙ equal_titles (rc_str_bytes k) (rc_str_bytes e.0) (sym is), at.1)
  stand_by e es Greater is at rest = (at.0, rest)

  pub stand-more : (es : Found) → StandAtFirst es → StandAtFirst (insert_entry by_text es k v)
  stand-more [] at = (here, tt)
  stand-more (e ∷ es) at = stand_by e es (by_text k e.0) refl at (stand-more es at.1)

  -- ---- rows that are found

  -- a row is left
  pub found-one : (gone : List (List ℕ)) (es : Found) → StandAtFirst es → is_among (first_in (row_of v)) gone ≡ false → HaveFound gone (row_of v ∷ []) (rows_in es) (rows_in (insert_entry by_text es k v))
  found-one gone es at left rest whole rise e =
      let here : rows_left gone (row_of v ∷ []) ≡ row_of v ∷ [] = rw left refl in
      let next = row-found (row_of v) rest (rows_in es) whole (ap (λ (l : Table). put_rows (l ++ rest) (rows_in es)) (sym here) ∙ e) rise in
      ap (put_rows rest) (row_in es at next.0) ∙ next.1

-- or gone
pub found-none : (gone : List (List ℕ)) (r : Row) (old : Table) → is_among (first_in r) gone ≡ true → HaveFound gone (r ∷ []) old old
found-none gone r old there rest whole rise e = (let here : rows_left gone (r ∷ []) ≡ [] = rw there refl in ap (λ (l : Table). put_rows (l ++ rest) old) (sym here) ∙ e)

-- no rows
pub found-nothing : (gone : List (List ℕ)) (old : Table) → HaveFound gone [] old old
found-nothing gone old rest whole rise e = e

-- some rows, and then some more
pub found-more : (gone : List (List ℕ)) (xs ys old now new : Table) → HaveFound gone xs old now → HaveFound gone ys now new → HaveFound gone (xs ++ ys) old new
found-more gone xs ys old now new f h rest whole rise e =
    let split : rows_left gone (xs ++ ys) ++ rest ≡ rows_left gone xs ++ (rows_left gone ys ++ rest) = ap (λ (l : Table). l ++ rest) (filter-append (is_left gone) xs ys) ∙ append_assoc (rows_left gone xs) (rows_left gone ys) rest in
    h rest whole rise (f (rows_left gone ys ++ rest) whole rise (ap (λ (l : Table). put_rows l old) (sym split) ∙ e))

-- ---- rows without their names

pub rows-values : (es : Found) → map row_of (values_of es) ≡ rows_in es
rows-values [] = refl
rows-values (e ∷ es) = ap (λ (t : Table). row_of e.1 ∷ t) (rows-values es)
