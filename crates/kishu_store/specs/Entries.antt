-- What records say.
use Rattle.std.specs.Prelude.{ℕ, List, [], map}
use Rattle.kishu_language.specs.declared.profile.Profile.{Profile}
use Rattle.kishu_store.specs.Groups.{Group}

-- where a move leads the head
pub data MoveTo : Type 0 where
  to_commit : (number : ℕ) → MoveTo
  to_branch : (title : List ℕ) → MoveTo

pub data Entry : Type 0 where
  -- one more commit: its parent's number, its profile, its cells, the groups that it drops, and those that it stores, each with the length of its picture
  commit : (parent : ℕ) → (profile : Profile) → (cells : List (List ℕ)) → (dropped : List Group) → (stored : List (Group × ℕ)) → Entry
  -- the head goes somewhere else
  move : (to : MoveTo) → Entry
  -- one more branch, at that commit
  name : (title : List ℕ) → (number : ℕ) → Entry

-- a record: what it says, and the pictures of the groups that it stores
pub record Record : Type 0 where
  pub entry : Entry
  pub pictures : List (List ℕ)

-- an entry without pictures
abbrev pub plain : Entry → Record
plain e = record { entry = e; pictures = [] }

abbrev pub entries_in : List Record → List Entry
entries_in = map (λ r. r.entry)

-- the groups that a commit stores
abbrev pub stored_in : Entry → List (Group × ℕ)
stored_in (commit parent profile cells dropped stored) = stored
stored_in (move to) = []
stored_in (name title number) = []

-- the lengths of its pictures
abbrev pub lengths_in : Entry → List ℕ
lengths_in e = map (λ s. s.1) (stored_in e)
