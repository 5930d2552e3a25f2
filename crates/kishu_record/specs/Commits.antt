-- What was read of a commit's head in place.
use Rattle.std.specs.Prelude.{◌≡◌, ℕ, suc, List, ◌∷◌, length}
use Rattle.kishu_language.specs.declared.profile.Profile.{Profile}
use Rattle.kishu_store.specs.Entries.{Entry, commit}
use Rattle.kishu_store.specs.EntryBytes.{head_of}
use Rattle.kishu_store.specs.Groups.{Group}
use Rattle.kishu_store.specs.Rules.{IsEntry, KeepsRules}
use Rattle.kishu_record.specs.Entries.{groups_of, all_stored_of}
use Rattle.kishu_record.specs.Readings.{IsHead}
use Rattle.kishu_record.specs.declared.commits.CommitHead.{CommitHead}

-- the commit, with these texts of cells behind the first
abbrev pub commit_told : CommitHead → List (List ℕ) → Entry
commit_told c others = commit c.parent c.profile (c.first.now ∷ others) (groups_of c.dropped) (all_stored_of c.stored)

-- These bytes are its head, and it keeps the rules.
pub record SpellsCommit (head : List ℕ) (c : CommitHead) : Type 0 where
  pub others : List (List ℕ)
  pub count : c.cells ≡ suc (length others)
  pub rules : KeepsRules (commit_told c others)
  pub is : head ≡ head_of (commit_told c others)

-- they are no commit's
abbrev pub SpellsNoCommit : List ℕ → Type 0
SpellsNoCommit head = (p : ℕ) (f : Profile) (cs : List (List ℕ)) (ds : List Group) (ss : List (Group × ℕ)) → IsEntry (commit p f cs ds ss) → head ≡ head_of (commit p f cs ds ss) → ⊥

-- They are the head of that commit, which has so many cells, and whose pictures take so many bytes.
pub record IsCommitHead (head : List ℕ) (pictures : ℕ) (c : CommitHead) : Type 0 where
  pub others : List (List ℕ)
  pub count : c.cells ≡ suc (length others)
  pub is_head : IsHead head pictures (commit_told c others)

-- they are the head of no commit whose pictures take so many bytes
abbrev pub LacksCommit : List ℕ → ℕ → Type 0
LacksCommit head pictures = (p : ℕ) (f : Profile) (cs : List (List ℕ)) (ds : List Group) (ss : List (Group × ℕ)) → IsHead head pictures (commit p f cs ds ss) → ⊥
