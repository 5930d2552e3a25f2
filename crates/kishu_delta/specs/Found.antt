-- What is found by groups.
use Rattle.std.specs.Prelude.{◌≡◌, if◌then◌else◌, List, [], ◌∷◌, map, Option, Some, None}
use Rattle.std.specs.declared.alloc.Global.{Global}
use Rattle.std.specs.declared.rc.RcStr.{RcStr}
use Rattle.std.specs.declared.vec.Vec.{Vec}
use Rattle.kishu_names.specs.Record.{texts_of}
use Rattle.kishu_store.specs.Groups.{Group, is_group}

abbrev pub group_of : Vec (RcStr Global) Global → Group
group_of v = texts_of v.items

-- entries by their groups, each value seen so
abbrev pub found_as : {V W : Type 0} → (V → W) → List (Vec (RcStr Global) Global × V) → List (Group × W)
found_as f = map (λ e. (group_of e.0, f e.1))

-- what stands by a group
abbrev pub found : {W : Type 0} → List (Group × W) → Group → Option W
found [] g = None
found (e ∷ es) g = if is_group g e.0 then Some e.1 else found es g

-- This stands by a group now; by others what stood by them.
abbrev pub Puts : {W : Type 0} → Group → W → (old new : List (Group × W)) → Type 0
Puts g w old new = (h : Group) → found new h ≡ (if is_group h g then Some w else found old h)
