use Rattle.std.proofs.Common.{Result, Ok, Err, IfOk, sym, subst}
use Rattle.kishu_host.specs.Story.{MayLeave}
use Rattle.kishu_host.specs.Laws.{torn_of-may_leave}
use Rattle.kishu_host.proofs.memory.MemHost.torn_file.Goals as goal

if_ok : {T E : Type 0} (r : Result T E) (P Q : T → Type 0) → IfOk r P → ((v : T) → P v → Q v) → IfOk r Q
if_ok (Ok v) P Q held step = step v held
if_ok (Err e) P Q held step = held

pub returns-clause-left : goal.returns-clause-left
returns-clause-left c =
    let tape = c.args.self.now.tape in
    let left = torn_of-may_leave c.args.fill tape.first tape.events c.args.self.now.valid in
    if_ok c.torn.result _ _ c.torn.ensures (λ v is. subst (MayLeave tape.first tape.events) (sym is) left)
