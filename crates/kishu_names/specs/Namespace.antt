-- What a namespace holds.
use Rattle.std.specs.List.{list_all}
use Rattle.std.specs.Prelude.{ℕ, ◌&&◌, IsTrue, List, map}
use Rattle.std.specs.Rc.{rc_str_bytes}
use Rattle.std.specs.declared.alloc.Global.{Global}
use Rattle.std.specs.declared.rc.RcStr.{RcStr}
use Rattle.kishu_meaning.specs.declared.value.Value as rust
use Rattle.kishu_language.specs.tokens.Names.{is_name}
use Rattle.kishu_meaning.specs.values.Sound.{is_valid}
use Rattle.kishu_meaning.specs.values.Values.{Names, value_of}
use Rattle.kishu_names.specs.Record.{Rises}

-- the names that are bound with their values, and those that were accessed, in byte order and each once
pub record Namespace : Type 0 where
  pub bound : Names
  pub accessed : List (List ℕ)

abbrev pub names_of : List (RcStr Global × rust.Value) → Names
names_of = map (λ e. (rc_str_bytes e.0, value_of e.1))

-- The names are names and their values exist, and the record is in order.
abbrev pub IsKept : Names → List (List ℕ) → Type 0
IsKept bound accessed = IsTrue (list_all (λ b. is_name b.0 && is_valid b.1) bound) × Rises accessed
