use Rattle.std.proofs.Common.{List, map, sym, subst}
use Rattle.kishu_store.specs.Groups.{Group}
use Rattle.kishu_delta.specs.Found.{group_of}
use Rattle.kishu_delta.specs.Sets.{HasGroup}
use Rattle.kishu_delta.proofs.Keys.{Texts, group_in}
use Rattle.kishu_delta.proofs.sets.GroupSet.put.Goals as goal

pub returns : goal.returns
returns c =
    let old = c.self.inside.groups.keys in
    let put = subst (λ (ks : List Texts). HasGroup (group_of c.args.group) (map group_of old) (map group_of ks)) (sym c.in_ok-insert.ensures.keys) (group_in c.args.group old) in
    subst (λ (gs : List Group). HasGroup (group_of c.args.group) gs (map group_of c.insert.new.self.keys)) c.self.view_is put
