-- A history that goes on with an entry.
use Rattle.std.specs.Prelude.{◌≡◌, ◌<◌, ℕ, suc, ◌+◌, List, [], ◌∷◌, ◌++◌, length, map}
use Rattle.std.specs.declared.alloc.Global.{Global}
use Rattle.std.specs.declared.rc.RcStr.{RcStr}
use Rattle.std.specs.declared.vec.Vec.{Vec}
use Rattle.kishu_graph.specs.Kept.{Kept, Outline, StandsFor, KeepsHistory, TellsChanges, noted_of}
use Rattle.kishu_graph.specs.Tables.{InEach}
use Rattle.kishu_language.specs.declared.profile.Profile.{Profile}
use Rattle.kishu_record.specs.Commits.{commit_told}
use Rattle.kishu_record.specs.Readings.{IsHead}
use Rattle.kishu_record.specs.declared.commits.CommitHead.{CommitHead}
use Rattle.kishu_store.specs.Entries.{Entry}
use Rattle.kishu_store.specs.Graph.{Graph, with_commit}
use Rattle.kishu_store.specs.Histories.{History, FollowsAt, before_pictures, led_at}
use Rattle.kishu_store.specs.Limits.{most_records}
use Rattle.kishu_store.specs.Tables.{Change, FitsTable, change_of, no_change, table_at}
use Rattle.kishu_store_laws.specs.HistoryLaws.{AreChanges}

-- What is kept is this history's, whose changes are those of its commits, with pictures before some place.
pub record IsKept (kept : Kept) (h : History) : Type 0 where
  pub keeps : KeepsHistory kept h
  pub most : ℕ
  pub changes : AreChanges h.graph h.changes most

-- The entry of a record whose body stands at this place fits the history, and what is kept now is the one to which it leads.
pub record GoesOn (body : ℕ) (h : History) (e : Entry) (new : Kept) : Type 0 where
  pub fits : FollowsAt body h e
  pub keeps : KeepsHistory new (led_at body h e)

-- the lengths of the pictures of groups that are stored
abbrev pub lens_of : List (Vec (RcStr Global) Global × ℕ) → List ℕ
lens_of = map (λ s. s.1)

-- ---- a commit more

-- It had room for a record, and has a commit of these cells now.
pub record TakesCommit (old : Kept) (profile : Profile) (texts : List (List ℕ)) (new : Kept) : Type 0 where
  pub room : (g : Graph) → StandsFor old g → g.records < most_records
  pub stands : (g : Graph) → StandsFor old g → StandsFor new (with_commit profile texts g)

-- so it does with the texts of so many cells, of which this is the first
abbrev pub TakesCells : Kept → Profile → ℕ → List ℕ → Kept → Type 0
TakesCells old profile cells first new = (others : List (List ℕ)) → cells ≡ suc (length others) → TakesCommit old profile (first ∷ others) new

-- The commits are those before and one more, a child of the head's; of it nothing is noted.
pub record HasNewest (old new : Kept) : Type 0 where
  pub outline : Outline
  pub parent : outline.parent ≡ old.head.commit
  pub commits : new.commits ≡ old.commits ++ (outline ∷ [])
  pub noted : new.noted ≡ old.noted ++ (noted_of no_change ∷ [])

-- the change fits the head's table
abbrev pub FitsNext : Kept → Change → Type 0
FitsNext kept d = InEach kept (λ g cs. FitsTable (table_at g (change_of cs) g.head.commit) d)

-- it is noted behind those of the commits before
abbrev pub TakesChange : Kept → Change → Kept → Type 0
TakesChange old d new = (cs : List Change) → TellsChanges old cs → TellsChanges new (d ∷ cs)

-- ---- of each history that was kept

-- it goes on with the entry
abbrev pub GoOn : Kept → ℕ → Entry → Kept → Type 0
GoOn old body e new = (h : History) → IsKept old h → GoesOn body h e new

-- it has no room for a record
abbrev pub IsFull : Kept → Type 0
IsFull kept = (g : Graph) → StandsFor kept g → g.records < most_records → ⊥

-- the entry doesn't fit it
abbrev pub FitsNot : Kept → ℕ → Entry → Type 0
FitsNot kept body e = (h : History) → IsKept kept h → FollowsAt body h e → ⊥

-- What this head says fits it, and it goes on with that.
pub record TakesHead (old : Kept) (body : ℕ) (head : List ℕ) (pictures : ℕ) (new : Kept) : Type 0 where
  pub entry : Entry
  pub says : IsHead head pictures entry
  pub goes : GoOn old body entry new

-- nothing that this head says fits it
abbrev pub NoneFits : Kept → ℕ → List ℕ → ℕ → Type 0
NoneFits kept body head pictures = (h : History) (e : Entry) → IsKept kept h → IsHead head pictures e → FollowsAt body h e → ⊥

-- ---- a commit whose head was read in place

-- These are the texts behind its first cell's, and the pictures of its record, whose body stands at that place, begin at this one.
pub record IsPlaced (c : CommitHead) (pictures body : ℕ) (others : List (List ℕ)) : Type 0 where
  pub count : c.cells ≡ suc (length others)
  pub place : pictures ≡ body + before_pictures (commit_told c others)

-- a history goes on with the commit
abbrev pub GoOnWith : Kept → CommitHead → ℕ → Kept → Type 0
GoOnWith old c pictures new = (body : ℕ) (others : List (List ℕ)) → IsPlaced c pictures body others → GoOn old body (commit_told c others) new

-- the commit doesn't fit it
abbrev pub FitsNotWith : Kept → CommitHead → ℕ → Type 0
FitsNotWith old c pictures = (body : ℕ) (others : List (List ℕ)) → IsPlaced c pictures body others → FitsNot old body (commit_told c others)
