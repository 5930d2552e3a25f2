-- Groups with their versions, and whether a row is among them.
use Rattle.std.specs.Prelude.{◌≡◌, ℕ, ◌==◌, Bool, ◌&&◌, List, map}
use Rattle.std.specs.List.{list_any}
use Rattle.std.specs.Rc.{rc_str_bytes}
use Rattle.std.specs.declared.alloc.Global.{Global}
use Rattle.std.specs.declared.rc.RcStr.{RcStr}
use Rattle.std.specs.Borrow.{Bor}
use Rattle.kishu_store.specs.Groups.{is_group}
use Rattle.kishu_store.specs.Tables.{Row, Table}
use Rattle.kishu_history.specs.Checkout.{is_row_of}

-- the names of a group, and its version
abbrev pub Versioned : Type 0
Versioned = Bor (List (RcStr Global)) × ℕ

-- whether this is the row's group, with its version
abbrev pub is_rows : Row → Versioned → Bool
is_rows r k = is_group r.group (map rc_str_bytes k.0.now) && r.version == k.1

-- whether one of these is
abbrev pub is_there : List Versioned → Row → Bool
is_there ks r = list_any (is_rows r) ks

-- They tell of each row whether it is one of the table's, by group and version.
abbrev pub IsIndexOf : List Versioned → Table → Type 0
IsIndexOf ks t = (r : Row) → is_there ks r ≡ is_row_of t r
