use Rattle.std.proofs.Common.{◌<◌, ◌+◌, drop, refl, arith}
use Rattle.kishu_journal.specs.Found.{BeginsBody, before_body, body_at}
use Rattle.kishu_journal.proofs.Cuts.{too-short, head-too-long, begins-head}
use Rattle.kishu_journal.proofs.WindowLemmas.{ahead-trans, still}
use Rattle.kishu_journal.proofs.head.read_head.Goals as goal

pub returns-then-size-lt4-clause-damaged : goal.returns-then-size-lt4-clause-damaged
returns-then-size-lt4-clause-damaged g c place err told =
    let file = (g.H.Host.state c.args.host.now).file in
    let at = c.args.at in
    let size = c.in-Some.size in
    let here : BeginsBody (drop at file) (body_at file at size) = rw c.in-Some.is at c.in_ok-size.ensures.body told in
    let within : at + before_body + size < c.args.len = rw c.in-Some.is at c.in_ok-size.ensures.within in
    (cc err, too-short file at size here (omega (arith, within, c.requires.len told)) (omega arith))

pub returns-then-head_size-size-clause-damaged : goal.returns-then-head_size-size-clause-damaged
returns-then-head_size-size-clause-damaged g c place err told =
    let st = g.H.Host.state in
    let s = st c.args.host.now in
    let file = s.file in
    let at = c.args.at in
    let size = c.in-Some.size in
    let here : BeginsBody (drop at file) (body_at file at size) = rw c.in-Some.is at c.in_ok-size.ensures.body told in
    let within : at + before_body + size < c.args.len = rw c.in-Some.is at c.in_ok-size.ensures.within in
    let both = ahead-trans s (st c.read_size.new.host) (st c.reach.new.host) c.args.window.now c.read_size.new.window c.reach.new.self c.args.len c.read_size.ensures.ahead c.reach.ensures.ahead in
    let read = c.part.ensures.value file (still s (st c.reach.new.host) c.args.window.now c.reach.new.self c.args.len both told) in
    (cc err, head-too-long file at size here (omega (arith, within, c.requires.len told)) c.part.result.now c.number_of-head_size.result read c.number_of-head_size.ensures (omega arith) (omega arith) (omega arith))

pub returns-clause-head : goal.returns-clause-head
returns-clause-head g c told =
    let st = g.H.Host.state in
    let s = st c.args.host.now in
    let file = s.file in
    let at = c.args.at in
    let size = c.in-Some.size in
    let here : BeginsBody (drop at file) (body_at file at size) = rw c.in-Some.is at c.in_ok-size.ensures.body told in
    let within : at + before_body + size < c.args.len = rw c.in-Some.is at c.in_ok-size.ensures.within in
    let both = ahead-trans s (st c.read_size.new.host) (st c.reach.new.host) c.args.window.now c.read_size.new.window c.reach.new.self c.args.len c.read_size.ensures.ahead c.reach.ensures.ahead in
    let read = c.part.ensures.value file (still s (st c.reach.new.host) c.args.window.now c.reach.new.self c.args.len both told) in
    begins-head file at size here (omega (arith, within, c.requires.len told)) c.part.result.now c.number_of-head_size.result read c.number_of-head_size.ensures (omega arith) _ (omega arith) refl

pub reach-requires-clause-inside : goal.reach-requires-clause-inside
reach-requires-clause-inside g c =
    let within : c.args.at + before_body + c.in-Some.size < c.args.len = rw c.in-Some.is at c.in_ok-size.ensures.within in
    omega (arith, within)

pub reach-requires-2-clause-inside : goal.reach-requires-2-clause-inside
reach-requires-2-clause-inside g c =
    let within : c.args.at + before_body + c.in-Some.size < c.args.len = rw c.in-Some.is at c.in_ok-size.ensures.within in
    omega (arith, within)
