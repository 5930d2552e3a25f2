-- What was read of a picture.
use Rattle.std.specs.Prelude.{map}
use Rattle.kishu_heap.specs.Cells.{node_of}
use Rattle.kishu_meaning.specs.values.Values.{State}
use Rattle.kishu_names.specs.Namespace.{names_of}
use Rattle.kishu_loading.specs.declared.loading.Picture.{Picture}

-- the state that it is
abbrev pub state_of : Picture → State
state_of p = record { names = names_of p.names.items; nodes = map node_of p.nodes.items }
