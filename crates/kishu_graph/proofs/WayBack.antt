-- What the commits on the way back change, as it is noted, and the rows that lead to a commit's table.
use Rattle.std.specs.Prelude.{◌≡◌, ◌<◌, ℕ, suc, List, [], ◌∷◌, ◌++◌, length, map, get_or, Option, Some, None, IfSome, refl}
use Rattle.std.specs.List.{AllByRecursion}
use Rattle.std.specs.Rc.{rc_str_bytes}
use Rattle.std.proofs.Common.{zero, sym, ◌∙◌, ap, subst, inl, inr, arith}
use Rattle.std.proofs.lemmas.Bool.Decides.{eqb_tells}
use Rattle.std.proofs.lemmas.List.{get_or_append_left, get_or-map, length-map, nil_from_length}
use Rattle.std.proofs.Math.Seq.{get_or-append_seam}
use Rattle.kishu_store.specs.Graph.{Commit, Graph, Numbered}
use Rattle.kishu_store.specs.Groups.{first_name, IsGroup, Rise}
use Rattle.kishu_store.specs.Tables.{Table, Change, groups_in, first_in, put_rows, changes_in, table_in, table_at, change_of, FitsTable}
use Rattle.kishu_store_laws.specs.HistoryLaws.{AreChanges}
use Rattle.kishu_store_laws.specs.TableLaws.{AreFit}
use Rattle.kishu_store_laws.specs.WalkLaws.{rows_left, rows_back, found-back}
use Rattle.kishu_graph.specs.declared.commits.Commit as rust
use Rattle.kishu_graph.specs.declared.tables.Noted as rust_noted
use Rattle.kishu_graph.specs.Kept.{Noted, HaveParents, CountsRows, count_of, outline, outlines, parents_of, noted_of, noted_in, row_of, note, dropped_in, stored_in}
use Rattle.kishu_graph.specs.ChangeLaws.{length-noted}
use Rattle.kishu_graph.specs.Laws.{back_numbers, back-root}
use Rattle.kishu_graph.specs.Walks.{HaveSame, HaveFound, InEachNoted, IsTableThere}
use Rattle.kishu_graph.proofs.Gone.{back_same}
use Rattle.kishu_graph.proofs.Outlines.{steps-back}
use Rattle.kishu_graph.proofs.Puts.{all-found, own-after}

-- ---- what the commits on a path change

changes_numbers : (ks : List Commit) (of : ℕ → Change) (c : ℕ) → changes_in ks of c ≡ map of (back_numbers ks c)
changes_numbers [] of c = refl
changes_numbers (k ∷ ks) of c = elim (eqb_tells c (suc (length ks))) [
  | inl p ↦ rw p.0 (ap (λ (l : List Change). of c ∷ l) (changes_numbers ks of k.parent))
  | inr p ↦ rw p.0 (changes_numbers ks of c)
]

each_change : (P : Change → Type 0) (ks : List Commit) (of : ℕ → Change) → ((c : ℕ) → P (of c)) → (c : ℕ) → AllByRecursion P (changes_in ks of c)
each_change P [] of h c = tt
each_change P (k ∷ ks) of h c = elim (eqb_tells c (suc (length ks))) [
  | inl p ↦ rw p.0 (h c, each_change P ks of h k.parent)
  | inr p ↦ rw p.0 (each_change P ks of h c)
]

-- none on that to the root
pub no-changes : (ks : List Commit) (of : ℕ → Change) → changes_in ks of 0 ≡ []
no-changes ks of = changes_numbers ks of 0 ∙ ap (λ (l : List Numbered). map of (map (λ n. n.number) l)) (back-root ks)

-- What is noted of a commit is what it changes.
noted_at : (cs : List Change) (c : ℕ) (d : Noted) → c < suc (length cs) → get_or (noted_in cs) c d ≡ noted_of (change_of cs c)
noted_at [] zero d h = refl
noted_at [] (suc c) d h = absurd (omega (arith, h))
noted_at (e ∷ cs) c d h = elim (eqb_tells c (suc (length cs))) [
  | inl p ↦ rw p.0 (ap (λ i. get_or (noted_in (e ∷ cs)) i d) (p.1 ∙ sym (length-noted cs)) ∙ get_or-append_seam (noted_in cs) (noted_of e) [] d)
  | inr p ↦ (
      let older : c < suc (length cs) = (let apart = p.1 in omega (arith, h, apart)) in
      rw p.0 (get_or_append_left (noted_in cs) (noted_of e ∷ []) d c (omega (arith, older, length-noted cs)) ∙ noted_at cs c d older)
      )
]

pub noted_there : (noted : List rust_noted.Noted) (cs : List Change) → map note noted ≡ noted_in cs → (c : ℕ) (d : rust_noted.Noted) → c < length noted → note (get_or noted c d) ≡ noted_of (change_of cs c)
noted_there noted cs notes c d there =
    let small : c < suc (length cs) = omega (arith, there, sym (length-map noted note) ∙ ap length notes ∙ length-noted cs) in
    sym (get_or-map note noted c d (note d) there) ∙ ap (λ (l : List Noted). get_or l c (note d)) notes ∙ noted_at cs c (note d) small

-- How many rows a commit's table has, where they are counted.
pub rows-counted : (commits : List rust.Commit) (noted : List rust_noted.Noted) → CountsRows (map outline commits) (map note noted) (map count_of noted) → (c rows : ℕ) (item : rust_noted.Noted) → c < length noted → item ≡ get_or noted c item → item.rows ≡ Some rows
    → InEachNoted commits noted (λ g cs. length (table_at g (change_of cs) c) ≡ rows)
rows-counted commits noted counts c rows item there is known g cs place parents notes k =
    let some : get_or (map count_of noted) c None ≡ Some rows = get_or-map count_of noted c item None there ∙ ap count_of (sym is) ∙ known in
    sym (subst (λ (o : Option ℕ). IfSome o (λ n. n ≡ length (table_at g (change_of cs) c))) some (counts g cs place parents notes k c (omega (arith, there, length-map noted note))))

-- ---- a table whose rows its commit stored

own_in : (ks : List Commit) (of : ℕ → Change) (c : ℕ) → Rise (map first_in (of c).stored) → length (table_in ks of c) ≡ length (of c).stored → table_in ks of c ≡ (of c).stored
own_in [] of c h many = sym (nil_from_length (of c).stored (sym many))
own_in (k ∷ ks) of c h many = elim (eqb_tells c (suc (length ks))) [
  | inl p ↦ rw p.0 (own-after (of c) (table_in ks of k.parent) h (rw p.0 at many))
  | inr p ↦ rw p.0 (own_in ks of c h (rw p.0 at many))
]

-- Where it has as many as the commit stored, they are these.
pub stored-alone : (commits : List rust.Commit) (noted : List rust_noted.Noted) → CountsRows (map outline commits) (map note noted) (map count_of noted) → (c : ℕ) (item : rust_noted.Noted) → c < length noted → item ≡ get_or noted c item
    → item.rows ≡ Some (length (stored_in item)) → IsTableThere commits noted c (map row_of (stored_in item))
stored-alone commits noted counts c item there is known g cs place parents notes k =
    let stored : map row_of (stored_in item) ≡ (change_of cs c).stored = ap (λ (n : Noted). n.stored) (ap note is ∙ noted_there noted cs notes c item there) in
    let many = rows-counted commits noted counts c (length (stored_in item)) item there is known g cs place parents notes k in
    stored ∙ sym (own_in g.commits (change_of cs) c (k.each c).rise (many ∙ sym (length-map (stored_in item) row_of) ∙ ap length stored))

-- ---- the rows that lead to a commit's table

-- In each history the rows found and those that are left on the way back from there make up the table.
abbrev pub LeadTo : List rust.Commit → List rust_noted.Noted → List (List ℕ) → ℕ → ℕ → Table → Type 0
LeadTo commits noted gone at commit found = InEachNoted commits noted (λ g cs. put_rows (rows_back gone (changes_in g.commits (change_of cs) at)) found ≡ table_at g (change_of cs) commit)

-- none found at first
pub lead-first : (commits : List rust.Commit) (noted : List rust_noted.Noted) (commit : ℕ) → LeadTo commits noted [] commit commit []
lead-first commits noted commit g cs place parents notes k =
    found-back (changes_in g.commits (change_of cs) commit) (k.fit commit) (each_change (λ (c : Change). AllByRecursion IsGroup (groups_in c.stored)) g.commits (change_of cs) (λ c. (k.each c).groups) commit)

-- none left at the root
pub lead-root : (commits : List rust.Commit) (noted : List rust_noted.Noted) (gone : List (List ℕ)) (at commit : ℕ) (found : Table) → at ≡ 0 → LeadTo commits noted gone at commit found → IsTableThere commits noted commit found
lead-root commits noted gone at commit found root lead g cs place parents notes k =
    let none : changes_in g.commits (change_of cs) at ≡ [] = ap (changes_in g.commits (change_of cs)) root ∙ no-changes g.commits (change_of cs) in
    ap (λ (l : List Change). put_rows (rows_back gone l) found) (sym none) ∙ lead g cs place parents notes k

-- none left where all are found
pub lead-all : (commits : List rust.Commit) (noted : List rust_noted.Noted) (gone : List (List ℕ)) (at commit : ℕ) (found : Table) → InEachNoted commits noted (λ g cs. length (table_at g (change_of cs) commit) ≡ length found)
    → LeadTo commits noted gone at commit found → IsTableThere commits noted commit found
lead-all commits noted gone at commit found counted lead g cs place parents notes k =
    all-found (rows_back gone (changes_in g.commits (change_of cs) at)) found (table_at g (change_of cs) commit) (lead g cs place parents notes k) (counted g cs place parents notes k)

-- one commit back, whose rows and first names these are
module _ (commits : List rust.Commit) (noted : List rust_noted.Noted) (at commit : ℕ) (d : rust.Commit) (e f : rust_noted.Noted) (rows : Table) (names : List (List ℕ)) where
  pub lead-back : HaveParents (map outline commits) → 0 < at → at < length commits → length noted ≡ length commits → rows ≡ map row_of (stored_in (get_or noted at e)) → names ≡ map rc_str_bytes (dropped_in (get_or noted at f))
      → (gone more : List (List ℕ)) (old new : Table) → HaveFound gone rows old new → HaveSame more (names ++ gone) → LeadTo commits noted gone at commit old → LeadTo commits noted more (get_or commits at d).parent commit new
  lead-back haves some inside counted rows_are names_are gone more old new found same lead g cs place parents notes k =
      let of = change_of cs in
      let further = changes_in g.commits of (get_or commits at d).parent in
      let path : changes_in g.commits of at ≡ of at ∷ further =
      changes_numbers g.commits of at ∙ ap (map of) (steps-back commits g.commits parents at d haves some inside) ∙ ap (λ (l : List Change). of at ∷ l) (sym (changes_numbers g.commits of (get_or commits at d).parent)) in
      let there : at < length noted = omega (arith, inside, counted) in
      let stored : rows ≡ (of at).stored = rows_are ∙ ap (λ (n : Noted). n.stored) (noted_there noted cs notes at e there) in
      let dropped : names ≡ map first_name (of at).dropped = names_are ∙ ap (λ (n : Noted). n.dropped) (noted_there noted cs notes at f there) in
      let rest = rows_back (map first_name (of at).dropped ++ gone) further in
      let left : put_rows (rows_left gone rows ++ rest) old ≡ table_at g of commit =
      ap (λ (t : Table). put_rows (rows_left gone t ++ rest) old) stored ∙ ap (λ (l : List Change). put_rows (rows_back gone l) old) (sym path) ∙ lead g cs place parents notes k in
      let alike : HaveSame more (map first_name (of at).dropped ++ gone) = subst (λ (l : List (List ℕ)). HaveSame more (l ++ gone)) dropped same in
      ap (λ (t : Table). put_rows t new) (back_same further more (map first_name (of at).dropped ++ gone) alike) ∙ found rest (table_at g of commit) (k.tables commit).rise left

-- ---- the change of a commit

-- It fits its parent's table.
pub fits-there : (commits : List rust.Commit) (c : ℕ) (d : rust.Commit) → HaveParents (map outline commits) → 0 < c → c < length commits → (g : Graph) (cs : List Change) (place : ℕ) → parents_of (map outline commits) ≡ parents_of (outlines g.commits) → AreChanges g cs place
    → FitsTable (table_at g (change_of cs) (get_or commits c d).parent) (change_of cs c)
fits-there commits c d haves some inside g cs place parents k =
    let of = change_of cs in
    let further = changes_in g.commits of (get_or commits c d).parent in
    let path : changes_in g.commits of c ≡ of c ∷ further =
    changes_numbers g.commits of c ∙ ap (map of) (steps-back commits g.commits parents c d haves some inside) ∙ ap (λ (l : List Change). of c ∷ l) (sym (changes_numbers g.commits of (get_or commits c d).parent)) in
    (subst AreFit path (k.fit c)).0
