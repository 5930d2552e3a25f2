-- The state that a heap and names hold, and the pictures in it.
use Rattle.std.specs.Prelude.{◌≡◌, ℕ, List, Some}
use Rattle.std.specs.declared.alloc.Global.{Global}
use Rattle.std.specs.declared.rc.RcStr.{RcStr}
use Rattle.kishu_meaning.specs.values.Values.{Value, Node, Names, State, find}
use Rattle.kishu_names.specs.Namespace.{Namespace}
use Rattle.kishu_names.specs.Record.{texts_of}
use Rattle.kishu_objects.specs.Bytes.{picture_bytes}
use Rattle.kishu_objects.specs.Lists.{In}
use Rattle.kishu_objects.specs.Picture.{order, picture}

abbrev pub held : List Node → Namespace → State
held nodes names = record { names = names.bound; nodes = nodes }

-- the nodes that the names of a group reach, in the order of first meeting
abbrev pub order_of : List Node → Namespace → List (RcStr Global) → List ℕ
order_of nodes names group = order (held nodes names) (texts_of group)

-- the picture of the group, and its bytes
abbrev pub picture_of : List Node → Namespace → List (RcStr Global) → State
picture_of nodes names group = picture (held nodes names) (texts_of group)

abbrev pub bytes_of : List Node → Namespace → List (RcStr Global) → List ℕ
bytes_of nodes names group = picture_bytes (held nodes names) (texts_of group)

-- Each name of the group is bound.
abbrev pub AreBound : Names → List (List ℕ) → Type 0
AreBound ns group = (x : List ℕ) → In x group → (v : Value) × (find x ns ≡ Some v)
