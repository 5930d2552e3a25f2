-- What the rows at hand leave where groups are dropped, and which groups may be stored then.
use Rattle.std.specs.Prelude.{◌≡◌, ◌+◌, ℕ, Bool, true, false, not, ◌||◌, List, [], ◌∷◌, ◌++◌, map, Option, MatchOption}
use Rattle.std.specs.List.{list_all}
use Rattle.std.specs.declared.alloc.Global.{Global}
use Rattle.std.specs.declared.rc.RcStr.{RcStr}
use Rattle.std.specs.declared.vec.Vec.{Vec}
use Rattle.kishu_language.specs.tokens.Names.{is_among}
use Rattle.kishu_store.specs.Groups.{Group, first_name, is_one_of}
use Rattle.kishu_store.specs.Limits.{most_pictured}
use Rattle.kishu_store.specs.Tables.{Table, groups_in, names_in, bytes_in, IsKeptTable}
use Rattle.kishu_store_laws.specs.WalkLaws.{rows_left}
use Rattle.kishu_graph.specs.declared.heads.HeadRows as rust_heads
use Rattle.kishu_graph.specs.declared.leaving.Leaving as rust_left
use Rattle.kishu_graph.specs.Fits.{TellsFit}
use Rattle.kishu_graph.specs.Heads.{Holds, StandApart}
use Rattle.kishu_graph.specs.Walks.{all_texts}

-- of a name it is told whether it is none of the names, or one of those that are gone
abbrev pub is_free : List (RcStr Global) → List (RcStr Global) → List ℕ → Bool
is_free names gone x = not (is_among x (all_texts names)) || is_among x (all_texts gone)

-- The names that aren't gone are those of the table without the rows that begin with these names, and the room is what its pictures leave.
pub record IsLeft (h : rust_heads.HeadRows) (firsts : List (List ℕ)) (t : Table) (l : rust_left.Leaving) : Type 0 where
  pub names : (x : List ℕ) → is_among x (names_in (rows_left firsts t)) ≡ not (is_free h.names.keys l.gone.keys x)
  pub room : l.room + bytes_in (rows_left firsts t) ≡ most_pictured

-- One group more is left out, where the table has it and none of the groups before it begins with its first name; else it isn't there.
abbrev pub LeavesOne : rust_heads.HeadRows → Group → rust_left.Leaving → rust_left.Leaving → Bool → Type 0
LeavesOne h d old new there =
    (t : Table) (firsts : List (List ℕ)) → StandApart t → Holds h t → is_among (first_name d) firsts ≡ false → IsLeft h firsts t old
    → (there ≡ is_one_of d (groups_in t)) × (there ≡ true → IsLeft h (firsts ++ (first_name d ∷ [])) t new)

-- All groups are left out, where the table has them; else one isn't there.
abbrev pub LeavesAll : rust_heads.HeadRows → List Group → Option rust_left.Leaving → Type 0
LeavesAll h ds o =
    (t : Table) → StandApart t → Holds h t → MatchOption o (list_all (λ d. is_one_of d (groups_in t)) ds ≡ false) (λ l. (list_all (λ d. is_one_of d (groups_in t)) ds ≡ true) × IsLeft h (map first_name ds) t l)

-- Of the table whose rows these are it is told whether a change fits that drops these groups and stores these.
abbrev pub TellsHeld : rust_heads.HeadRows → List (Vec (RcStr Global) Global) → List (Vec (RcStr Global) Global × ℕ) → Bool → Type 0
TellsHeld h dropped stored fits = (t : Table) → IsKeptTable t → Holds h t → TellsFit t dropped stored fits
