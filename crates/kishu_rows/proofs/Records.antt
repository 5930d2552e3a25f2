-- Records of each kind: their bytes, and how they change the graph, computed on the definitions.
use Rattle.std.proofs.Common.{◌≡◌, [], ◌∷◌, ◌++◌, ℕ, List, codes, Some, None, refl, arith, true, false}
use Rattle.kishu_language.specs.declared.profile.Profile.TheVariants.{One}
use Rattle.kishu_store.specs.Branches.{is_branch_name}
use Rattle.kishu_store.specs.CommitLines.{line_in}
use Rattle.kishu_store.specs.Entries.{Entry, commit, move, name, to_commit, to_branch, Record, plain}
use Rattle.kishu_store.specs.EntryBytes.{head_of, body_of}
use Rattle.kishu_store.specs.Fitting.{Fits}
use Rattle.kishu_store.specs.Graph.{Commit, new_graph, main_branch, path, back, count_of}
use Rattle.kishu_store.specs.Holds.{graph_of}
use Rattle.kishu_store.specs.References.{resolve}

-- ---- bytes

-- a commit on commit 1, with the empty cell and a
second_body : body_of (plain (commit 1 One ([] ∷ codes "a" ∷ []) [] []))
    ≡ 0 ∷ 0 ∷ 0 ∷ 27 ∷ 1 ∷ 0 ∷ 0 ∷ 0 ∷ 1 ∷ 1 ∷ 0 ∷ 0 ∷ 0 ∷ 2 ∷ 0 ∷ 0 ∷ 0 ∷ 0 ∷ 0 ∷ 0 ∷ 0 ∷ 1 ∷ 97 ∷ 0 ∷ 0 ∷ 0 ∷ 0 ∷ 0 ∷ 0 ∷ 0 ∷ 0 ∷ []
unfolding head_of body_of
second_body = refl

-- a move to commit 1
commit_body : body_of (plain (move (to_commit 1))) ≡ 0 ∷ 0 ∷ 0 ∷ 6 ∷ 2 ∷ 0 ∷ 0 ∷ 0 ∷ 0 ∷ 1 ∷ []
unfolding head_of body_of
commit_body = refl

-- a move to the branch main
branch_body : body_of (plain (move (to_branch (codes "main")))) ≡ 0 ∷ 0 ∷ 0 ∷ 7 ∷ 2 ∷ 1 ∷ 4 ∷ codes "main"
unfolding head_of body_of
branch_body = refl

-- the branch try at commit 0
name_body : body_of (plain (name (codes "try") 0)) ≡ 0 ∷ 0 ∷ 0 ∷ 9 ∷ 3 ∷ 3 ∷ codes "try" ++ 0 ∷ 0 ∷ 0 ∷ 0 ∷ []
unfolding head_of body_of
name_body = refl

-- a commit that drops the group of x and y, and stores one of x and one of y: their pictures have three bytes and one
groups_body : (let r : Record = record {
  entry = commit 1 One (codes "y = 0" ∷ []) ((codes "x" ∷ codes "y" ∷ []) ∷ []) ((codes "x" ∷ [], 3) ∷ (codes "y" ∷ [], 1) ∷ []);
  pictures = (7 ∷ 8 ∷ 9 ∷ []) ∷ (5 ∷ []) ∷ [];
} in body_of r)
    ≡ 0 ∷ 0 ∷ 0 ∷ 63 ∷ 1 ∷ 0 ∷ 0 ∷ 0 ∷ 1 ∷ 1 ∷ 0 ∷ 0 ∷ 0 ∷ 1 ∷ 0 ∷ 0 ∷ 0 ∷ 5 ∷ codes "y = 0" ++ 0 ∷ 0 ∷ 0 ∷ 1 ∷ 0 ∷ 0 ∷ 0 ∷ 2 ∷ 1 ∷ 120 ∷ 1 ∷ 121
    ∷ 0 ∷ 0 ∷ 0 ∷ 2 ∷ 0 ∷ 0 ∷ 0 ∷ 1 ∷ 1 ∷ 120 ∷ 0 ∷ 0 ∷ 0 ∷ 0 ∷ 0 ∷ 0 ∷ 0 ∷ 3 ∷ 0 ∷ 0 ∷ 0 ∷ 1 ∷ 1 ∷ 121 ∷ 0 ∷ 0 ∷ 0 ∷ 0 ∷ 0 ∷ 0 ∷ 0 ∷ 1 ∷ 7 ∷ 8 ∷ 9 ∷ 5 ∷ []
unfolding head_of body_of
groups_body = refl

-- ---- changes

abbrev at : ℕ → List ℕ → Commit
at parent cell = record { parent = parent; profile = One; cells = cell ∷ [] }

-- two cells, a move to commit 1, and a third: the branch main stays at commit 2
abbrev forked : List Entry
forked =
    commit 0 One (codes "a = [1]; b = a" ∷ []) [] [] ∷ commit 1 One (codes "b.append(2)" ∷ []) [] [] ∷ move (to_commit 1) ∷ commit 1 One (codes "print(a, a is b)" ∷ []) [] [] ∷ []

forked_graph : graph_of forked ≡ record {
  commits = at 1 (codes "print(a, a is b)") ∷ at 1 (codes "b.append(2)") ∷ at 0 (codes "a = [1]; b = a") ∷ [];
  branches = (main_branch, 2) ∷ [];
  head = record { commit = 3; branch = None };
  records = 4;
}
forked_graph = refl

forked_path : path (graph_of forked) 3 ≡ at 0 (codes "a = [1]; b = a") ∷ at 1 (codes "print(a, a is b)") ∷ []
forked_path = refl

forked_back : back (graph_of forked) 3 ≡ record { number = 3; commit = at 1 (codes "print(a, a is b)") } ∷ record { number = 1; commit = at 0 (codes "a = [1]; b = a") } ∷ []
forked_back = refl

forked_count : count_of (graph_of forked) 3 ≡ 2
forked_count = refl

-- back on the branch, whose head then goes along with it
joined_graph : graph_of (forked ++ move (to_branch main_branch) ∷ name (codes "try") 1 ∷ commit 2 One (codes "a" ∷ []) [] [] ∷ []) ≡ record {
  commits = at 2 (codes "a") ∷ (graph_of forked).commits;
  branches = (main_branch, 4) ∷ (codes "try", 1) ∷ [];
  head = record { commit = 4; branch = Some main_branch };
  records = 7;
}
joined_graph = refl

-- branches stand in byte order: a capital letter before a small one
order_of_branches : (graph_of (name (codes "try") 0 ∷ name (codes "Z") 0 ∷ name (codes "a-1") 0 ∷ [])).branches ≡ (codes "Z", 0) ∷ (codes "a-1", 0) ∷ (codes "main", 0) ∷ (codes "try", 0) ∷ []
order_of_branches = refl

-- ---- names and references

names_of_branches : is_branch_name (codes "main") ∷ is_branch_name (codes "_") ∷ is_branch_name (codes "a-1") ∷ is_branch_name (codes "9") ∷ is_branch_name (codes "-a") ∷ is_branch_name [] ∷ is_branch_name (codes "a.b") ∷ []
    ≡ true ∷ true ∷ true ∷ false ∷ false ∷ false ∷ false ∷ []
names_of_branches = refl

longest_names : is_branch_name (codes "aaaaaaaaaabbbbbbbbbbccccccccccddddddddddeeeeeeeeeeffffffffff_-09") ∷ is_branch_name (codes "aaaaaaaaaabbbbbbbbbbccccccccccddddddddddeeeeeeeeeeffffffffff_-091") ∷ [] ≡ true ∷ false ∷ []
longest_names = refl

references : resolve (graph_of forked) (codes "1") ∷ resolve (graph_of forked) (codes "0") ∷ resolve (graph_of forked) (codes "main") ∷ resolve (graph_of forked) (codes "4") ∷ resolve (graph_of forked) (codes "001") ∷ resolve (graph_of forked) (codes "try") ∷ resolve (graph_of forked) [] ∷ []
    ≡ Some (record { commit = 1; branch = None }) ∷ Some (record { commit = 0; branch = None }) ∷ Some (record { commit = 2; branch = Some main_branch }) ∷ None ∷ None ∷ None ∷ None ∷ []
references = refl

-- ---- the line of a commit

lines : line_in (codes "a = [1]; b = a" ∷ codes "b" ∷ []) ∷ line_in (codes "x = 1\ny" ∷ []) ∷ line_in (codes "x\r\ny" ∷ []) ∷ line_in ([] ∷ []) ∷ [] ≡ codes "a = [1]; b = a" ∷ codes "x = 1" ∷ codes "x" ∷ [] ∷ []
lines = refl

-- sixty characters, the last of two bytes
cut_line : line_in ((codes "012345678901234567890123456789012345678901234567890123456789" ++ codes "x") ∷ []) ≡ codes "012345678901234567890123456789012345678901234567890123456789"
cut_line = refl

cut_character : line_in ((codes "01234567890123456789012345678901234567890123456789012345678" ++ 195 ∷ 169 ∷ codes "xyz") ∷ []) ≡ codes "01234567890123456789012345678901234567890123456789012345678" ++ 195 ∷ 169 ∷ []
cut_character = refl

-- ---- what fits

name_fits : Fits new_graph (name (codes "try") 0)
name_fits = record { room = omega arith; goes_on = (refl, refl, omega arith) }

move_fits : Fits new_graph (move (to_branch main_branch))
move_fits = record { room = omega arith; goes_on = refl }
