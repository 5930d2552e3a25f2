use Rattle.std.specs.Rc.{rc_str_bytes}
use Rattle.kishu_groups.proofs.Puts.{put_name}
use Rattle.kishu_groups.proofs.gathering.put.Goals as goal

pub returns : goal.returns
returns c =
    put_name c.args.groups.now.items c.args.place c.index_mut.result.now c.push.new.self c.in_ok-name.name (rc_str_bytes c.args.name.now)
    c.requires c.index_mut.ensures.value c.in_ok-push.ensures.items c.in_ok-name.ensures.cases
