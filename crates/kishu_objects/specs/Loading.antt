-- What a picture leaves when it is loaded into a state.
use Rattle.std.specs.Prelude.{◌+◌, [], ◌∷◌, ◌++◌, map, length}
use Rattle.kishu_meaning.specs.values.Values.{Names, State, bind}
use Rattle.kishu_objects.specs.Shape.{each_child}
use Rattle.kishu_objects.specs.Picture.{renumbered, named}

-- the names, with these bound one after another
abbrev pub bind_all : Names → Names → Names
bind_all [] ns = ns
bind_all (b ∷ bs) ns = bind_all bs (bind b.0 b.1 ns)

-- the state with the nodes of a picture behind its own, and the picture's names bound to what they were there
abbrev pub with_picture : State → State → State
with_picture s p = record {
  names = bind_all (map (named (λ i. length s.nodes + i)) p.names) s.names;
  nodes = s.nodes ++ map (each_child (renumbered (λ i. length s.nodes + i))) p.nodes;
}
