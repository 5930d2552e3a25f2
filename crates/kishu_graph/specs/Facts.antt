-- What the calls say of each graph of the shape that is kept, and what they leave.
use Rattle.std.specs.Prelude.{◌≡◌, ◌⊎◌, ℕ, nat_lt, if◌then◌else◌, List, [], ◌∷◌, ◌++◌, length, map, Option, Some, None, option_map}
use Rattle.std.specs.Borrow.{Bor}
use Rattle.std.specs.Rc.{rc_str_bytes}
use Rattle.std.specs.declared.alloc.Global.{Global}
use Rattle.std.specs.declared.rc.RcStr.{RcStr}
use Rattle.kishu_language.specs.declared.profile.Profile.{Profile}
use Rattle.kishu_store.specs.Branches.{with_branch_at}
use Rattle.kishu_store.specs.CommitLines.{first_line, first_characters, longest_line, line_in}
use Rattle.kishu_store.specs.Graph.{Graph, Commit, Target, back_in, moved_with, with_commit}
use Rattle.kishu_graph.specs.declared.commits.Commit as rust
use Rattle.kishu_graph.specs.declared.fault.GraphFault.{GraphFault}
use Rattle.kishu_graph.specs.declared.fault.GraphFault.TheVariants.{NoMemory}
use Rattle.kishu_graph.specs.Kept.{Kept, Outline, HasShapeOf, TellsCellsOf, StandsFor, outline, outlines, outline_in, parents_of, path_numbers, branches_of}
use Rattle.kishu_graph.specs.Refusals.{unless_there, unless_named, on_branch, start_of, HasMoved, HasBranched}

-- ---- what is read

-- x is what this is of each graph of the shape that is kept
abbrev pub Answers : {A : Type 0} → Kept → (Graph → A) → A → Type 0
Answers kept value x = (g : Graph) → HasShapeOf kept g → x ≡ value g

-- x is what this is of the outline of that commit, in each graph whose cells are told
abbrev pub Tells : {A : Type 0} → Kept → (Outline → A) → ℕ → A → Type 0
Tells kept value c x = (g : Graph) → TellsCellsOf kept g → x ≡ value (outline_in g.commits c)

-- a number, where it is below that
abbrev pub below : ℕ → ℕ → Option ℕ
below n most = if nat_lt n most then Some n else None

-- where a branch begins, by the text that may say so
abbrev pub start_from : Option (Bor (List ℕ)) → Graph → Option ℕ
start_from at g = start_of (option_map (λ text. text.now) at) g

-- the line of a commit whose first cell is this text
abbrev pub line_of_text : List ℕ → List ℕ
line_of_text text = first_characters longest_line (first_line text)

-- ---- the way back

-- these have the parents of those
abbrev pub HaveParentsOf : List rust.Commit → List Commit → Type 0
HaveParentsOf commits ks = parents_of (map outline commits) ≡ parents_of (outlines ks)

-- the numbers of a commit and of those before it, without the root's
abbrev pub AreBack : List rust.Commit → ℕ → List ℕ → Type 0
AreBack commits c numbers = (ks : List Commit) → HaveParentsOf commits ks → numbers ≡ map (λ k. k.number) (back_in ks c)

-- the numbers of the commits from the root to this one
abbrev pub ArePath : List rust.Commit → ℕ → List ℕ → Type 0
ArePath commits c numbers = (ks : List Commit) → HaveParentsOf commits ks → numbers ≡ path_numbers ks c

-- ---- branches

-- where a head on the branch of this name stands
abbrev pub head_on : List ℕ → List (RcStr Global × ℕ) → Option Target
head_on name branches = on_branch name (branches_of branches)

-- the branch of this name stands at the commit now, the others as before
abbrev pub HasPut : RcStr Global → ℕ → List (RcStr Global × ℕ) → List (RcStr Global × ℕ) → Type 0
HasPut name commit old new = branches_of new ≡ with_branch_at (rc_str_bytes name) commit (branches_of old)

-- the branch, if there is one, has moved to the commit, and the others are as before
abbrev pub HasMovedAlong : Option (RcStr Global) → ℕ → List (RcStr Global × ℕ) → List (RcStr Global × ℕ) → Type 0
HasMovedAlong branch commit old new = branches_of new ≡ moved_with (option_map rc_str_bytes branch) commit (branches_of old)

-- ---- a commit more

-- the commits, and one more whose parent is the head's
abbrev pub with_newest : Profile → ℕ → List ℕ → Kept → List Outline
with_newest profile cells line kept = kept.commits ++ (record { parent = kept.head.commit; profile = profile; cells = cells; line = line } ∷ [])

-- whatever had the old shape has the new one with a commit of this profile, whatever its cells
abbrev pub ShapesCommit : Profile → Kept → Kept → Type 0
ShapesCommit profile old new = (g : Graph) (texts : List (List ℕ)) → HasShapeOf old g → HasShapeOf new (with_commit profile texts g)

-- what was stood for is stood for with a commit of this profile whose cells are so many and have this line
abbrev pub StandsForCommit : Profile → ℕ → List ℕ → Kept → Kept → Type 0
StandsForCommit profile cells line old new = (g : Graph) (texts : List (List ℕ)) → StandsFor old g → length texts ≡ cells → line_in texts ≡ line → StandsFor new (with_commit profile texts g)

-- ---- a head that moves, and a branch that begins

-- the head has moved to the target that each graph of the old shape gives
abbrev pub MovesTo : (Graph → Option Target) → ℕ → Kept → Kept → Type 0
MovesTo target c old new = (g : Graph) → HasShapeOf old g → HasMoved (target g) g c old new

-- the fault is why the head doesn't move there
abbrev pub RefusesMove : (Graph → Option Target) → Kept → GraphFault → Type 0
RefusesMove target kept e = (g : Graph) → HasShapeOf kept g → unless_there (target g) g ≡ Some e

-- the branch begins at the commit that each graph of the old shape gives
abbrev pub BeginsAt : List ℕ → (Graph → Option ℕ) → ℕ → Kept → Kept → Type 0
BeginsAt name start c old new = (g : Graph) → HasShapeOf old g → HasBranched name (start g) g c old new

-- the fault is why no branch of this name begins there
abbrev pub RefusesBranch : List ℕ → (Graph → Option ℕ) → Kept → GraphFault → Type 0
RefusesBranch name start kept e = (g : Graph) → HasShapeOf kept g → unless_named name (start g) g ≡ Some e

-- it is this fault, or want of memory came between
abbrev pub OrNoMemory : (GraphFault → Type 0) → GraphFault → Type 0
OrNoMemory refuses e = (e ≡ NoMemory) ⊎ refuses e
