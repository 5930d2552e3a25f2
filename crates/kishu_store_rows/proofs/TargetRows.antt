-- Which target a value of the program is, whatever the text of its branch: computed on the definition.
use Rattle.std.specs.Prelude.{◌≡◌, Some, None, refl}
use Rattle.std.specs.Rc.{rc_str_bytes}
use Rattle.std.specs.declared.alloc.Global.{Global}
use Rattle.std.specs.declared.rc.RcStr.{RcStr}
use Rattle.kishu_store.specs.Graph.{Target}
use Rattle.kishu_store.specs.Targets.{target_of}
use Rattle.kishu_store.specs.declared.target.Target as rust

at_commit : target_of (let t : rust.Target = record { commit = 3; branch = None } in t) ≡ record { commit = 3; branch = None }
at_commit = refl

on_branch : (title : RcStr Global) → target_of (let t : rust.Target = record { commit = 0; branch = Some title } in t) ≡ record { commit = 0; branch = Some (rc_str_bytes title) }
on_branch title = refl
