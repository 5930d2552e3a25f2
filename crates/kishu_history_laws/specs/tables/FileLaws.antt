-- What a file's records give is what the laws of tables ask for.
use Rattle.std.specs.Prelude.{◌≡◌, ℕ, suc, ◌==◌, true, not, List, [], ◌∷◌, ◌++◌, length}
use Rattle.std.specs.List.{AllByRecursion}
use Rattle.std.proofs.Common.{refl, sym, ◌∙◌, subst, inl, inr, arith}
use Rattle.std.proofs.lemmas.Bool.Decides.{Decides-eqb}
use Rattle.kishu_language.specs.tokens.Names.{is_among}
use Rattle.kishu_store.specs.Graph.{Graph}
use Rattle.kishu_store.specs.Groups.{IsGroup}
use Rattle.kishu_store.specs.Tables.{names_in, are_apart, IsKeptTable}
use Rattle.kishu_store_laws.specs.HistoryLaws.{AreChanges}
use Rattle.kishu_store_laws.specs.PlaceLaws.{StayIn}
use Rattle.kishu_store_laws.specs.TableLaws.{groups-rows, and_true, not_true, apart-behind}
use Rattle.kishu_objects.specs.Lists.{In}
use Rattle.kishu_objects_laws.specs.ListLaws.{in_right, in_flat}
use Rattle.kishu_history.specs.Changed.{Group}
use Rattle.kishu_history.specs.Tables.{Row, Table, group_in, Change, no_change, first_name, IsTable}
use Rattle.kishu_history.specs.Paths.{table_at, with_change, change_of, AreRows}
use Rattle.kishu_history.specs.Stored.{bytes_at, KeepsRecords}
use Rattle.kishu_history_laws.specs.Choices.{among_decides, false_no, not_told}

pub all_in : {A : Type 0} (P : A → Type 0) (xs : List A) → AllByRecursion P xs → (x : A) → In x xs → P x
all_in P [] h x m = absurd m
all_in P (y ∷ ys) h x (inl e) = subst P (sym e) h.0
all_in P (y ∷ ys) h x (inr m) = all_in P ys h.1 x m

-- ---- names of rows

not_in_both : (xs ys : List (List ℕ)) → are_apart (xs ++ ys) ≡ true → (x : List ℕ) → In x xs → In x ys → ⊥
not_in_both [] ys e x m n = m
not_in_both (y ∷ xs) ys e x (inl q) n =
    let a = (and_true (not (is_among y (xs ++ ys))) (are_apart (xs ++ ys)) e).0 in
    false_no (is_among y (xs ++ ys)) (among_decides y (xs ++ ys)) (not_true (is_among y (xs ++ ys)) a) (subst (λ z. In z (xs ++ ys)) q (in_right x xs ys n))
not_in_both (y ∷ xs) ys e x (inr m) n = not_in_both xs ys (and_true (not (is_among y (xs ++ ys))) (are_apart (xs ++ ys)) e).1 x m n

one_row : (t : Table) → are_apart (names_in t) ≡ true → (r q : Row) (x : List ℕ) → In r t → In q t → In x r.group → In x q.group → r ≡ q
one_row [] e r q x m n a b = absurd m
one_row (p ∷ t) e r q x (inl m) (inl n) a b = m ∙ sym n
one_row (p ∷ t) e r q x (inl m) (inr n) a b = absurd (not_in_both p.group (names_in t) e x (subst (λ (z : Row). In x z.group) m a) (in_flat group_in x q t n b))
one_row (p ∷ t) e r q x (inr m) (inl n) a b = absurd (not_in_both p.group (names_in t) e x (subst (λ (z : Row). In x z.group) n b) (in_flat group_in x r t m a))
one_row (p ∷ t) e r q x (inr m) (inr n) a b = one_row t (apart-behind p.group (names_in t) e) r q x m n a b

first_inside : (g : Group) → IsGroup g → In (first_name g) g
first_inside [] k = absurd (let s = k.some in omega (arith, s))
first_inside (x ∷ xs) k = inl refl

-- ---- what records give

pub kept_is_table : (t : Table) → IsKeptTable t → IsTable t
kept_is_table t k =
    let each = groups-rows IsGroup t k.groups in
    record {
      rise = k.rise;
      full = λ r m. first_inside r.group (all_in (λ (q : Row). IsGroup q.group) t each r m);
      ordered = λ r m. (all_in (λ (q : Row). IsGroup q.group) t each r m).rise;
      one = one_row t k.apart;
    }

-- Nothing changes at the root, and it stays so with a further commit.
pub root_further : (of : ℕ → Change) (commit : ℕ) (c : Change) → of 0 ≡ no_change → with_change of (suc commit) c 0 ≡ no_change
root_further of commit c root = (let e = not_told (0 == suc commit) (Decides-eqb 0 (suc commit)) (λ f. omega (arith, f)) in rw e root)

pub root_changes : (cs : List Change) → change_of cs 0 ≡ no_change
root_changes [] = refl
root_changes (c ∷ cs) = root_further (change_of cs) (length cs) c (root_changes cs)

pub changes_are_rows : (g : Graph) (cs : List Change) (place : ℕ) → AreChanges g cs place → AreRows (change_of cs)
changes_are_rows g cs place k = record {
  version = λ c r m. all_in (λ (q : Row). q.version ≡ c) (change_of cs c).stored (k.each c).version r m;
  rise = λ c. (k.each c).rise;
}

pub changes_are_tables : (g : Graph) (cs : List Change) (place : ℕ) → AreChanges g cs place → (c : ℕ) → IsTable (table_at g (change_of cs) c)
changes_are_tables g cs place k c = kept_is_table (table_at g (change_of cs) c) (k.tables c)

pub stay_keeps : (a b : List ℕ) (cs : List Change) (newest : ℕ) → StayIn a b cs → KeepsRecords a b newest (change_of cs)
stay_keeps a b cs newest stay c l r m = all_in (λ (q : Row). bytes_at a q ≡ bytes_at b q) (change_of cs c).stored (stay c) r m
