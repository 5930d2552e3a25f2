use Rattle.std.proofs.Common.{ℕ, ap, arith}
use Rattle.std.specs.declared.alloc.Global.{Global}
use Rattle.std.specs.declared.rc.RcStr.{RcStr}
use Rattle.std.specs.declared.vec.Vec.{Vec}
use Rattle.kishu_graph.proofs.TablesThatFit.{within}
use Rattle.kishu_graph.proofs.fitting.room_behind_groups.Goals as goal

pub returns-in_default : goal.returns-in_default
returns-in_default c =
    let one = ap (λ (s : Vec (RcStr Global) Global × ℕ). s.1) c.loop-len-item.is in
    omega (arith, within (λ (n : ℕ). n) (λ (s : Vec (RcStr Global) Global × ℕ). s.1) c.args.stored.now c.loop-len.len-index c.loop-len-item.result c.loop-len-test.true, c.loop-len.invariant, c.in_default.ensures, one)
