-- What loops go by: the keys that were seen, and the last name.
use Rattle.std.specs.Prelude.{ℕ, List, [], ◌∷◌, Option, Some, None}
use Rattle.std.specs.declared.alloc.Global.{Global}
use Rattle.std.specs.declared.rc.RcStr.{RcStr}
use Rattle.kishu_meaning.specs.declared.key.Key as rust_key
use Rattle.kishu_meaning.specs.declared.value.Value as rust
use Rattle.kishu_meaning.specs.values.Keys.{Key}
use Rattle.kishu_meaning.specs.values.Values.{Value, Names}
use Rattle.kishu_heap.specs.Cells.{entries_of, attributes_of}

-- the keys of these pairs, the last first, before others
abbrev pub seen_from : {K : Type 0} → List (K × Value) → List K → List K
seen_from [] seen = seen
seen_from (e ∷ es) seen = seen_from es (e.0 ∷ seen)

-- the keys of a dict's entries, the last first
abbrev pub keys_seen : List (rust_key.Key × rust.Value) → List Key
keys_seen es = seen_from (entries_of es) []

-- the names of an object's attributes, the last first
abbrev pub names_seen : List (RcStr Global × rust.Value) → List (List ℕ)
names_seen es = seen_from (attributes_of es) []

-- the last of these names, or the one before them
abbrev pub last_from : Option (List ℕ) → Names → Option (List ℕ)
last_from last [] = last
last_from last (b ∷ bs) = last_from (Some b.0) bs

abbrev pub last_name : Names → Option (List ℕ)
last_name = last_from None
