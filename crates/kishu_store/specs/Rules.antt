-- Which rules a record keeps, whatever the graph is.
use Rattle.std.specs.Prelude.{◌≡◌, ◌<◌, ◌≤◌, ◌^◌, ℕ, List, length, map}
use Rattle.std.specs.List.{AllByRecursion}
use Rattle.std.specs.Str.{IsUtf8}
use Rattle.kishu_language.specs.Limits.{longest_text}
use Rattle.kishu_language.specs.declared.profile.Profile.{Profile}
use Rattle.kishu_store.specs.Limits.{longest_title, longest_body, newest_profile}
use Rattle.kishu_store.specs.Groups.{Group, AreGroups, AreStored}
use Rattle.kishu_store.specs.Entries.{Entry, commit, move, name, to_commit, to_branch, Record, lengths_in}
use Rattle.kishu_store.specs.EntryBytes.{head_of, body_of}

-- A cell that a commit may hold.
pub record IsCell (text : List ℕ) : Type 0 where
  pub short : length text ≤ longest_text
  pub utf8 : IsUtf8 text

abbrev pub AreCells : List (List ℕ) → Type 0
AreCells = AllByRecursion IsCell

-- What a record may tell as a branch's name; the form of such a name is asked where a branch is made.
pub record IsTitle (title : List ℕ) : Type 0 where
  pub short : length title ≤ longest_title
  pub utf8 : IsUtf8 title

-- a commit's parent, profile, cells, dropped groups and stored groups
pub record KeepsCommit (p : ℕ) (f : Profile) (cs : List (List ℕ)) (ds : List Group) (ss : List (Group × ℕ)) : Type 0 where
  pub parent : p < 2 ^ 32
  pub profile : f ≡ newest_profile
  pub some : 0 < length cs
  pub cells : AreCells cs
  pub dropped : AreGroups ds
  pub stored : AreStored ss

abbrev pub KeepsRules : Entry → Type 0
KeepsRules (commit parent profile cells dropped stored) = KeepsCommit parent profile cells dropped stored
KeepsRules (move (to_commit number)) = number < 2 ^ 32
KeepsRules (move (to_branch title)) = IsTitle title
KeepsRules (name title number) = IsTitle title × (number < 2 ^ 32)

-- An entry that a record can tell: its head's length is a number of four bytes.
pub record IsEntry (e : Entry) : Type 0 where
  pub rules : KeepsRules e
  pub short : length (head_of e) < 2 ^ 32

-- A record that a file may hold: its pictures have the lengths that it tells, and its body isn't too long.
pub record IsRecord (r : Record) : Type 0 where
  pub rules : KeepsRules r.entry
  pub pictures : map length r.pictures ≡ lengths_in r.entry
  pub small : length (body_of r) ≤ longest_body
