-- Which target a value of the program is.
use Rattle.std.specs.Prelude.{option_map}
use Rattle.std.specs.Rc.{rc_str_bytes}
use Rattle.kishu_store.specs.declared.target.Target as rust
use Rattle.kishu_store.specs.Graph.{Target}

abbrev pub target_of : rust.Target → Target
target_of t = record { commit = t.commit; branch = option_map rc_str_bytes t.branch }
