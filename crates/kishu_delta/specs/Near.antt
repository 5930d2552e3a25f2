-- Groups of a table that hold an accessed name, where they stand in it.
use Rattle.std.specs.Prelude.{◌≡◌, ℕ, List, map, filter}
use Rattle.std.specs.Borrow.{Bor}
use Rattle.std.specs.declared.alloc.Global.{Global}
use Rattle.std.specs.declared.rc.RcStr.{RcStr}
use Rattle.kishu_names.specs.Record.{texts_of}
use Rattle.kishu_history.specs.Touched.{holds_any}
use Rattle.kishu_store.specs.Groups.{Group}

abbrev pub Lent : Type 0
Lent = Bor (List (RcStr Global))

abbrev pub lent : List Lent → List Group
lent = map (λ g. texts_of g.now)

-- These are just the groups of a list that hold one of the names.
abbrev pub AreNear : List Lent → List Group → (accessed : List (List ℕ)) → Type 0
AreNear near gs accessed = lent near ≡ filter (holds_any accessed) gs
