use Rattle.std.proofs.Common.{arith, length}
use Rattle.kishu_items.specs.Gathering.{grown_least, grown_length}
use Rattle.kishu_items.specs.Walks.{nodes_for, walk_of, walk_more}
use Rattle.kishu_builtins.proofs.Stays.{one_more}
use Rattle.kishu_builtins.proofs.walk.visited.Goals as goal

pub returns-in_err-item-clause-grows : goal.returns-in_err-item-clause-grows
returns-in_err-item-clause-grows g c =
    let k = nodes_for (walk_of c.args.walk.now) in
    one_more k c.args.heap.now c.item_for.new.heap c.args.budget.now.left c.item_for.new.budget.left c.in_err-item.ensures.more c.requires.few c.in_err-item.ensures.spends.1

pub returns-in_default-clause-grows : goal.returns-in_default-clause-grows
returns-in_default-clause-grows g c =
    let k = nodes_for (walk_of c.args.walk.now) in
    one_more k c.args.heap.now c.item_for.new.heap c.args.budget.now.left c.item_for.new.budget.left c.in_ok-item.ensures.more c.requires.few c.in_ok-item.ensures.spends.1

pub returns-in_err-spend-clause-grows : goal.returns-in_err-spend-clause-grows
returns-in_err-spend-clause-grows g c =
    let k = nodes_for (walk_of c.args.walk.now) in
    one_more k c.args.heap.now c.item_for.new.heap c.args.budget.now.left c.spend.new.budget.left c.in_ok-item.ensures.more c.requires.few (omega (arith, c.in_err-spend.ensures.left, c.in_ok-item.ensures.spends.1))

pub returns-clause-grows : goal.returns-clause-grows
returns-clause-grows g c =
    let k = nodes_for (walk_of c.args.walk.now) in
    one_more k c.args.heap.now c.item_for.new.heap c.args.budget.now.left c.spend.new.budget.left c.in_ok-item.ensures.more c.requires.few (omega (arith, c.in_ok-spend.ensures.left, c.in_ok-item.ensures.spends.1))

pub returns-clause-room : goal.returns-clause-room
returns-clause-room g c =
    let k = nodes_for (walk_of c.args.walk.now) in
    omega (arith, grown_length k c.args.heap.now c.item_for.new.heap c.in_ok-item.ensures.more, c.requires.few, c.in_ok-spend.ensures.taken, c.in_ok-item.ensures.spends.1)

pub returns-clause-walk : goal.returns-clause-walk
returns-clause-walk g c =
    let k = nodes_for (walk_of c.args.walk.now) in
    let n = length c.args.heap.now in
    let m = length c.item_for.new.heap in
    walk_more n m (grown_least k c.args.heap.now c.item_for.new.heap c.in_ok-item.ensures.more) (walk_of c.args.walk.now) c.requires.sound
