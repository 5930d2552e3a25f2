-- In a table whose rows share no name, no name stands twice among those of its groups.
use Rattle.std.specs.Prelude.{◌≡◌, ℕ, true, List, [], ◌∷◌, ◌++◌, map, refl}
use Rattle.std.specs.List.{list_all}
use Rattle.std.specs.List.Sorted.{IsStrictlySortedBy}
use Rattle.std.proofs.Common.{sym, subst, inl, inr}
use Rattle.kishu_language.specs.tokens.Names.{is_among}
use Rattle.kishu_objects.specs.Lists.{In, AllDiffer}
use Rattle.kishu_objects_laws.specs.ListLaws.{in_cases, flat_in}
use Rattle.kishu_store.specs.Groups.{Group, is_one_of}
use Rattle.kishu_store.specs.Tables.{Row, Table, group_in, first_in, names_in, are_apart}
use Rattle.kishu_history.specs.Tables.{IsTable}
use Rattle.kishu_history_laws.specs.Choices.{one_of_decides, among_decides, not_told, in_map}
use Rattle.kishu_history_laws.specs.tables.TableLaws.{rise_differ}

-- names that differ are apart
differ-apart : (xs : List (List ℕ)) → AllDiffer xs → are_apart xs ≡ true
differ-apart [] d = refl
differ-apart (x ∷ xs) d = (let e = not_told (is_among x xs) (among_decides x xs) d.0 in rw e (differ-apart xs d.1))

both-differ : (xs ys : List (List ℕ)) → AllDiffer xs → AllDiffer ys → ((x : List ℕ) → In x xs → In x ys → ⊥) → AllDiffer (xs ++ ys)
both-differ [] ys a b n = b
both-differ (x ∷ xs) ys a b n = ((λ m. elim (in_cases x xs ys m) [ inl h ↦ a.0 h | inr h ↦ n x (inl refl) h ]), both-differ xs ys a.1 b (λ y m k. n y (inr m) k))

-- a table without its first row
behind : (r : Row) (t : Table) → IsTable (r ∷ t) → IsTable t
unfolding IsStrictlySortedBy
behind r t is = record {
  rise = is.rise.1;
  full = λ q m. is.full q (inr m);
  ordered = λ q m. is.ordered q (inr m);
  one = λ q p x m n. is.one q p x (inr m) (inr n);
}

names-differ : (t : Table) → IsTable t → AllDiffer (names_in t)
names-differ [] is = tt
names-differ (r ∷ t) is =
    let first = (rise_differ (map first_in (r ∷ t)) is.rise).0 in
    both-differ r.group (names_in t) (rise_differ r.group (is.ordered r (inl refl))) (names-differ t (behind r t is)) (λ x m n.
    let q = flat_in group_in x t n in
    first (subst (λ (p : Row). In (first_in p) (map first_in t)) (sym (is.one r q.0 x (inl refl) (inr q.1) m q.2)) (in_map first_in t q.0 q.1)))

pub table-apart : (t : Table) → IsTable t → are_apart (names_in t) ≡ true
table-apart t is = differ-apart (names_in t) (names-differ t is)

-- each group of a list is one of it
pub each-among : (gs hs : List Group) → ((g : Group) → In g gs → In g hs) → list_all (λ g. is_one_of g hs) gs ≡ true
each-among [] hs h = refl
each-among (g ∷ gs) hs h = (let e = (one_of_decides g hs).1 (h g (inl refl)) in rw e (each-among gs hs (λ k m. h k (inr m))))
