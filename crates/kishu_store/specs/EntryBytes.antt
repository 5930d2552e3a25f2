-- The bytes of records. Numbers are big-endian.
use Rattle.std.specs.Prelude.{ℕ, List, ◌∷◌, ◌++◌, length, flat_map}
use Rattle.std.specs.Int.{w64, to_be_bytes}
use Rattle.kishu_bytes.specs.Numbers.{four, profile_number}
use Rattle.kishu_store.specs.Groups.{Group}
use Rattle.kishu_store.specs.Entries.{Entry, commit, move, name, to_commit, to_branch, Record}

-- a number in eight bytes
abbrev pub eight : ℕ → List ℕ
eight n = to_be_bytes w64 n

-- a text behind its length in four bytes
abbrev pub text_bytes : List ℕ → List ℕ
text_bytes text = four (length text) ++ text

-- a name of at most 255 bytes behind its length in one byte
abbrev pub name_bytes : List ℕ → List ℕ
name_bytes title = length title ∷ title

-- a number of items, and then the items
abbrev pub many : {A : Type 0} → (A → List ℕ) → List A → List ℕ
many bytes items = four (length items) ++ flat_map bytes items

abbrev pub group_bytes : Group → List ℕ
group_bytes names = many name_bytes names

-- a group, and then the length of its picture
abbrev pub stored_bytes : Group × ℕ → List ℕ
stored_bytes s = group_bytes s.0 ++ eight s.1

-- What a record says: behind the number of its kind; a move also behind whether it goes to a branch.
unfoldable pub head_of : Entry → List ℕ
head_of (commit parent profile cells dropped stored) =
    1 ∷ (four parent ++ (profile_number profile ∷ (many text_bytes cells ++ (many group_bytes dropped ++ many stored_bytes stored))))
head_of (move (to_commit number)) = 2 ∷ 0 ∷ four number
head_of (move (to_branch title)) = 2 ∷ 1 ∷ name_bytes title
head_of (name title number) = 3 ∷ (name_bytes title ++ four number)

-- a record's body: its head behind its length, and then its pictures
unfoldable pub body_of : Record → List ℕ
body_of r = four (length (head_of r.entry)) ++ (head_of r.entry ++ flat_map (λ p. p) r.pictures)
