-- Which entry a value of the program is.
use Rattle.std.specs.Prelude.{ℕ, List, ◌++◌, length, map, flat_map}
use Rattle.std.specs.Rc.{rc_str_bytes}
use Rattle.std.specs.declared.alloc.Global.{Global}
use Rattle.std.specs.declared.rc.RcStr.{RcStr}
use Rattle.std.specs.declared.vec.Vec.{Vec}
use Rattle.kishu_bytes.specs.Numbers.{four}
use Rattle.kishu_language.specs.declared.profile.Profile.{Profile}
use Rattle.kishu_store.specs.EntryBytes.{head_of, many, text_bytes, name_bytes, group_bytes, stored_bytes}
use Rattle.kishu_store.specs.Groups.{Group, first_name}
use Rattle.kishu_store.specs.Entries.{Entry, MoveTo, commit, move, name, to_commit, to_branch, Record}
use Rattle.kishu_record.specs.declared.entry.Entry as rust
use Rattle.kishu_record.specs.declared.entry.Entry.TheVariants as e
use Rattle.kishu_record.specs.declared.entry.MoveTo as rust_to
use Rattle.kishu_record.specs.declared.entry.MoveTo.TheVariants as m

abbrev pub texts_of : Vec (RcStr Global) Global → List (List ℕ)
texts_of v = map rc_str_bytes v.items

-- a group's first name
abbrev pub first_of : Vec (RcStr Global) Global → List ℕ
first_of v = first_name (texts_of v)

abbrev pub first_stored : Vec (RcStr Global) Global × ℕ → List ℕ
first_stored s = first_of s.0

abbrev pub groups_of : Vec (Vec (RcStr Global) Global) Global → List Group
groups_of v = map texts_of v.items

-- a group with the length of its picture
abbrev pub stored_of : Vec (RcStr Global) Global × ℕ → Group × ℕ
stored_of s = (texts_of s.0, s.1)

abbrev pub all_stored_of : Vec (Vec (RcStr Global) Global × ℕ) Global → List (Group × ℕ)
all_stored_of v = map stored_of v.items

abbrev pub move_of : rust_to.MoveTo → MoveTo
move_of (m.Commit number) = to_commit number
move_of (m.Branch title) = to_branch (rc_str_bytes title)

-- a commit, by its parts
abbrev pub commit_with : ℕ → Profile → Vec (RcStr Global) Global → Vec (Vec (RcStr Global) Global) Global → Vec (Vec (RcStr Global) Global × ℕ) Global → Entry
commit_with parent profile cells dropped stored = commit parent profile (texts_of cells) (groups_of dropped) (all_stored_of stored)

abbrev pub entry_of : rust.Entry → Entry
entry_of (e.Commit parent profile cells dropped stored) = commit_with parent profile cells dropped stored
entry_of (e.Move to) = move (move_of to)
entry_of (e.Name title number) = name (rc_str_bytes title) number

-- an entry with its pictures
abbrev pub record_of : rust.Entry → List (Vec ℕ Global) → Record
record_of e pictures = record { entry = entry_of e; pictures = map (λ p. p.items) pictures }

-- ---- bytes

-- cells' texts behind their number
abbrev pub cell_list_bytes : Vec (RcStr Global) Global → List ℕ
cell_list_bytes v = many text_bytes (texts_of v)

-- a name behind its length
abbrev pub title_bytes : RcStr Global → List ℕ
title_bytes t = name_bytes (rc_str_bytes t)

-- groups behind their number
abbrev pub group_list_bytes : Vec (Vec (RcStr Global) Global) Global → List ℕ
group_list_bytes v = many group_bytes (groups_of v)

-- a group, with the length of its picture
abbrev pub stored_group_bytes : Vec (RcStr Global) Global × ℕ → List ℕ
stored_group_bytes s = stored_bytes (stored_of s)

-- groups behind their number, each with the length of its picture
abbrev pub stored_list_bytes : Vec (Vec (RcStr Global) Global × ℕ) Global → List ℕ
stored_list_bytes v = many stored_bytes (all_stored_of v)

-- one behind another
abbrev pub all_bytes : List (Vec ℕ Global) → List ℕ
all_bytes vs = flat_map (λ v. v) (map (λ v. v.items) vs)

-- behind their number in four bytes
abbrev pub behind_length : List ℕ → List ℕ
behind_length bytes = four (length bytes) ++ bytes

-- the head of a commit
abbrev pub commit_head : ℕ → Profile → Vec (RcStr Global) Global → Vec (Vec (RcStr Global) Global) Global → Vec (Vec (RcStr Global) Global × ℕ) Global → List ℕ
commit_head parent profile cells dropped stored = head_of (commit_with parent profile cells dropped stored)
