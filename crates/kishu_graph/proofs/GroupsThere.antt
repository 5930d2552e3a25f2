-- Groups of a table, by their first names.
use Rattle.std.specs.Prelude.{◌≡◌, ℕ, true, List, [], ◌∷◌, map, MatchOption, refl}
use Rattle.std.specs.BTreeMap.{is_at}
use Rattle.std.specs.Cmp.Lexicographic.{bytes_decides, slice_cmp}
use Rattle.std.specs.List.{list_all}
use Rattle.std.specs.List.Sorted.{IsStrictlySortedBy}
use Rattle.std.specs.Map.{lookup}
use Rattle.std.specs.Ordering.{nat_cmp}
use Rattle.std.specs.Rc.{rc_str_bytes}
use Rattle.std.specs.Str.{bytes_eq}
use Rattle.std.proofs.Common.{ap, sym, ◌∙◌, inl, inr}
use Rattle.std.proofs.lemmas.Bool.{cases_Bool, false≢true}
use Rattle.std.proofs.lemmas.Map.Text.{is_eq-slice_cmp}
use Rattle.kishu_store.specs.Groups.{Group, first_name, is_group, is_one_of, Rise}
use Rattle.kishu_store.specs.Tables.{Table, groups_in, first_in}
use Rattle.kishu_store_laws.specs.TableLaws.{and_true}
use Rattle.kishu_graph.specs.Kept.{texts_of, row_of}
use Rattle.kishu_graph.specs.Walks.{Found, StandAtFirst, group_at, rows_in}
use Rattle.kishu_graph.proofs.Stays.{AreThere, same-group, not_less, one_behind}

-- A group of a table in order is the one that begins with its first name.
pub group-there : (t : Table) (d : Group) → Rise (map first_in t) → is_one_of d (groups_in t) ≡ true → group_at (first_name d) t ≡ d
unfolding IsStrictlySortedBy
group-there [] d rise e = absurd (false≢true e)
group-there (r ∷ t) d rise e = elim (cases_Bool (is_group d r.group)) [
  | inl k ↦ (
      let same : d ≡ r.group = (same-group d r.group).0 k in
      let first : bytes_eq (first_name d) (first_in r) ≡ true = (bytes_decides (first_name d) (first_in r)).1 (ap first_name same) in
      rw first (sym same)
      )
  | inr k ↦ (
      let rest : is_one_of d (groups_in t) ≡ true = rw k at e in
      let behind = one_behind (first_in r) d t rise.0 rest in
      elim (cases_Bool (bytes_eq (first_name d) (first_in r))) [
        | inl f ↦ absurd (not_less (first_in r) (first_name d) (sym ((bytes_decides (first_name d) (first_in r)).0 f)) behind)
        | inr f ↦ rw f (group-there t d rise.1 rest)
      ]
      )
]

pub groups-there : (t : Table) (ds : List Group) → Rise (map first_in t) → AreThere ds t → map (λ x. group_at x t) (map first_name ds) ≡ ds
groups-there t [] rise all = refl
groups-there t (d ∷ ds) rise all =
    let both = and_true (is_one_of d (groups_in t)) (list_all (λ (z : Group). is_one_of z (groups_in t)) ds) all in
    ap (λ (g : Group). g ∷ map (λ x. group_at x t) (map first_name ds)) (group-there t d rise both.0) ∙ ap (λ (l : List Group). d ∷ l) (groups-there t ds rise both.1)

-- What is found at a name among rows by their first names.
pub group-found : (x : List ℕ) (es : Found) → StandAtFirst es → MatchOption (lookup (is_at (λ k. slice_cmp nat_cmp x (rc_str_bytes k))) es) (group_at x (rows_in es) ≡ []) (λ row. group_at x (rows_in es) ≡ texts_of row.group.names)
group-found x [] at = refl
group-found x (e ∷ es) at =
    let same : bytes_eq x (first_in (row_of e.1)) ≡ bytes_eq x (rc_str_bytes e.0) = ap (bytes_eq x) at.0 in
    let test = is_eq-slice_cmp x (rc_str_bytes e.0) in
    elim (cases_Bool (bytes_eq x (rc_str_bytes e.0))) [
      | inl f ↦ (let here = same ∙ f in let found = test ∙ f in rw (here, found) refl)
      | inr f ↦ (let here = same ∙ f in let found = test ∙ f in rw (here, found) (group-found x es at.1))
    ]
