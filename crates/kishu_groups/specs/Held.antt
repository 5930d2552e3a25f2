-- What the values of the code hold: a state, and groups of names.
use Rattle.std.specs.Prelude.{◌≡◌, ℕ, List, length, map}
use Rattle.std.specs.Rc.{rc_str_bytes}
use Rattle.std.specs.declared.alloc.Global.{Global}
use Rattle.std.specs.declared.rc.RcStr.{RcStr}
use Rattle.std.specs.declared.vec.Vec.{Vec}
use Rattle.kishu_meaning.specs.values.Values.{Node, State}
use Rattle.kishu_heap.specs.Costs.{Reads}
use Rattle.kishu_names.specs.Namespace.{Namespace}
use Rattle.kishu_objects.specs.Groups.{groups}
use Rattle.kishu_objects.specs.Picture.{order}

-- the state that a heap and names hold
abbrev pub held : List Node → Namespace → State
held nodes names = record { names = names.bound; nodes = nodes }

-- At most as many reads were counted as there are nodes that the names reach.
abbrev pub ReadsNodes : State → List (List ℕ) → (old new : ℕ) → Type 0
ReadsNodes s of old new = Reads (length (order s of)) old new

abbrev pub texts_of : Vec (RcStr Global) Global → List (List ℕ)
texts_of v = map rc_str_bytes v.items

abbrev pub groups_of : Vec (Vec (RcStr Global) Global) Global → List (List (List ℕ))
groups_of v = map texts_of v.items

-- These are the groups of the names of a list.
abbrev pub AreGroups : State → List (List ℕ) → Vec (Vec (RcStr Global) Global) Global → Type 0
AreGroups s of v = groups_of v ≡ groups s of
