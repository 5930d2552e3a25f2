-- What holds of each graph to which records lead.
use Rattle.std.specs.Prelude.{◌≡◌, ◌<◌, ◌≤◌, ℕ, suc, ◌+◌, IsTrue, List, [], ◌∷◌, length, Option, Some, None, IfSome, is_some, refl}
use Rattle.std.specs.List.{AllByRecursion}
use Rattle.std.specs.List.Sorted.{IsStrictlySortedBy}
use Rattle.std.proofs.Common.{sym, ◌∙◌, ap, subst, arith, inl, inr}
use Rattle.std.proofs.lemmas.Bool.{false≢true}
use Rattle.kishu_store.specs.Branches.{Branches, commit_of, with_branch_at, is_branch_name}
use Rattle.kishu_store.specs.Entries.{Entry, commit, move, name, to_commit, to_branch, Record, entries_in}
use Rattle.kishu_store.specs.Fitting.{Fits, on_branch, changed, changed_by}
use Rattle.kishu_store.specs.Graph.{Commit, Graph, Target, new_graph, newest, moved_with}
use Rattle.kishu_store.specs.Groups.{Rise}
use Rattle.kishu_store.specs.Histories.{History, new_history, led, AreRecords}
use Rattle.kishu_store.specs.Holds.{Holds, graph_by}
use Rattle.kishu_store.specs.Limits.{most_records}
use Rattle.kishu_store_laws.specs.BranchLaws.{titles_in, commit-with, commit-with-other, each-with, each-commit, rise-with}

-- Each commit's parent is the root or an older commit.
abbrev pub AreOrdered : List Commit → Type 0
AreOrdered [] = Unit {0}
AreOrdered (k ∷ ks) = (k.parent ≤ length ks) × AreOrdered ks

-- a branch has a name of that form, and its commit is there
abbrev pub IsBranch : ℕ → List ℕ × ℕ → Type 0
IsBranch most b = IsTrue (is_branch_name b.0) × (b.1 ≤ most)

-- The head's commit is there, and so is the branch on which it stands, at that commit.
pub record IsHead (bs : Branches) (most : ℕ) (target : Target) : Type 0 where
  pub there : target.commit ≤ most
  pub on : IfSome target.branch (λ title. commit_of title bs ≡ Some target.commit)

pub record IsGraph (g : Graph) : Type 0 where
  pub parents : AreOrdered g.commits
  pub branches : AllByRecursion (IsBranch (newest g)) g.branches
  pub rise : Rise (titles_in g.branches)
  pub head : IsHead g.branches (newest g) g.head
  -- there are as many records as commits at least, and not too many
  pub counted : newest g ≤ g.records
  pub few : g.records ≤ most_records

pub new-graph : IsGraph new_graph
unfolding IsStrictlySortedBy
new-graph = record {
  parents = tt;
  branches = ((refl, omega arith), tt);
  rise = (tt, tt);
  head = record { there = omega arith; on = refl };
  counted = omega arith;
  few = omega arith;
}

-- ---- one record more

more_branches : (bs : Branches) (m n : ℕ) → m ≤ n → AllByRecursion (IsBranch m) bs → AllByRecursion (IsBranch n) bs
more_branches [] m n le h = tt
more_branches (b ∷ bs) m n le h = ((h.0.0, omega (arith, h.0.1, le)), more_branches bs m n le h.1)

-- the branches after the head went to a new commit
module _ (bs : Branches) (most now : ℕ) (branches : AllByRecursion (IsBranch most) bs) (rise : Rise (titles_in bs)) where
  moved-branches : (on : Option (List ℕ)) → IfSome on (λ title. commit_of title bs ≡ Some now) → AllByRecursion (IsBranch (suc most)) (moved_with on (suc most) bs)
  moved-branches None h = more_branches bs most (suc most) (omega arith) branches
  moved-branches (Some title) h =
      each-with (IsBranch (suc most)) title (suc most) bs ((each-commit (IsBranch most) title now bs h branches).0, omega arith) (more_branches bs most (suc most) (omega arith) branches)

  moved-rise : (on : Option (List ℕ)) → Rise (titles_in (moved_with on (suc most) bs))
  moved-rise None = rise
  moved-rise (Some title) = rise-with title (suc most) bs rise

  moved-head : (on : Option (List ℕ)) → IfSome on (λ title. commit_of title (moved_with on (suc most) bs) ≡ Some (suc most))
  moved-head None = tt
  moved-head (Some title) = commit-with title (suc most) bs

-- a branch more doesn't move the one on which the head stands
kept-head : (bs : Branches) (title : List ℕ) (n at : ℕ) (on : Option (List ℕ)) → commit_of title bs ≡ None → IfSome on (λ x. commit_of x bs ≡ Some at) → IfSome on (λ x. commit_of x (with_branch_at title n bs) ≡ Some at)
kept-head bs title n at None free h = tt
kept-head bs title n at (Some x) free h = commit-with-other x title n bs (λ e. apart (sym free ∙ ap (λ z. commit_of z bs) (sym e) ∙ h)) ∙ h
  where
    apart : {k : ℕ} → None ≡ Some k → ⊥
    apart e = cc (e)

on-graph : (g : Graph) (title : List ℕ) (o : Option ℕ) → o ≡ commit_of title g.branches → IsTrue (is_some o) → g.records < most_records → IsGraph g → IsGraph (on_branch title o g)
on-graph g title None is there room k = absurd (false≢true there)
on-graph g title (Some n) is there room k = record {
  parents = k.parents;
  branches = k.branches;
  rise = k.rise;
  head = record { there = (each-commit (IsBranch (newest g)) title n g.branches (sym is) k.branches).1; on = sym is };
  counted = omega (arith, k.counted);
  few = omega (arith, room);
}

-- a record that fits keeps it
pub changed-graph : (g : Graph) (e : Entry) → Fits g e → IsGraph g → IsGraph (changed g e)
changed-graph g (commit p f cs ds ss) fits k = record {
  parents = (k.head.there, k.parents);
  branches = moved-branches g.branches (newest g) g.head.commit k.branches k.rise g.head.branch k.head.on;
  rise = moved-rise g.branches (newest g) g.head.commit k.branches k.rise g.head.branch;
  head = record { there = omega arith; on = moved-head g.branches (newest g) g.head.commit k.branches k.rise g.head.branch };
  counted = omega (arith, k.counted);
  few = omega (arith, fits.room);
}
changed-graph g (move (to_commit n)) fits k = record {
  parents = k.parents;
  branches = k.branches;
  rise = k.rise;
  head = record { there = fits.goes_on; on = tt };
  counted = omega (arith, k.counted);
  few = omega (arith, fits.room);
}
changed-graph g (move (to_branch title)) fits k = on-graph g title (commit_of title g.branches) refl fits.goes_on fits.room k
changed-graph g (name title n) fits k = record {
  parents = k.parents;
  branches = each-with (IsBranch (newest g)) title n g.branches (fits.goes_on.0, fits.goes_on.2) k.branches;
  rise = rise-with title n g.branches k.rise;
  head = record { there = k.head.there; on = kept-head g.branches title n g.head.commit g.head.branch fits.goes_on.1 k.head.on };
  counted = omega (arith, k.counted);
  few = omega (arith, fits.room);
}

-- ---- many

pub changed-graphs : (h : History) (rs : List Record) → AreRecords h rs → IsGraph h.graph → IsGraph (changed_by h.graph (entries_in rs))
changed-graphs h [] all k = k
changed-graphs h (r ∷ rs) all k = changed-graphs (led h r.entry) rs all.2 (changed-graph h.graph r.entry all.1.graph k)

-- the graph of records that fit
pub records-graph : (rs : List Record) → AreRecords new_history rs → IsGraph (graph_by rs)
records-graph rs all = changed-graphs new_history rs all new-graph

-- a graph that a file holds
pub held-graph : (file : List ℕ) (g : Graph) → Holds file g → IsGraph g
held-graph file g (inl h) = subst IsGraph (sym h.1) new-graph
held-graph file g (inr h) = subst IsGraph (sym h.3) (records-graph h.1 h.2.fit)

-- ---- how many records there are

on-counted : (g : Graph) (title : List ℕ) (o : Option ℕ) → IsTrue (is_some o) → (on_branch title o g).records ≡ suc g.records
on-counted g title None there = absurd (false≢true there)
on-counted g title (Some n) there = refl

pub changed-counted : (g : Graph) (e : Entry) → Fits g e → (changed g e).records ≡ suc g.records
changed-counted g (commit p f cs ds ss) fits = refl
changed-counted g (move (to_commit n)) fits = refl
changed-counted g (move (to_branch title)) fits = on-counted g title (commit_of title g.branches) fits.goes_on
changed-counted g (name title n) fits = refl

pub counted-by : (h : History) (rs : List Record) → AreRecords h rs → (changed_by h.graph (entries_in rs)).records ≡ h.graph.records + length rs
counted-by h [] all = omega arith
counted-by h (r ∷ rs) all = omega (arith, counted-by (led h r.entry) rs all.2, changed-counted h.graph r.entry all.1.graph)

-- the graph of records that fit tells how many they are
pub records-counted : (rs : List Record) → AreRecords new_history rs → (graph_by rs).records ≡ length rs
records-counted rs all = omega (arith, counted-by new_history rs all)

-- and so these are not too many
pub records-most : (rs : List Record) → AreRecords new_history rs → length rs ≤ most_records
records-most rs all = omega (arith, records-counted rs all, (records-graph rs all).few)
