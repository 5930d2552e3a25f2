use Rattle.std.proofs.Common.{ap, arith, length, map, subst, sym}
use Rattle.std.proofs.lemmas.Result.{on_ok_weaker}
use Rattle.kishu_meaning.specs.values.Values.{State}
use Rattle.kishu_graph.specs.Kept.{row_of}
use Rattle.kishu_anew.specs.Anew.{IsWhole}
use Rattle.kishu_anew.specs.WholeLaws.{empty_whole}
use Rattle.kishu_checkout.specs.Pictures.{told_file}
use Rattle.kishu_session.specs.Lives.{state_of}
use Rattle.kishu_session.specs.declared.head.Head.{Head}
use Rattle.kishu_session.proofs.Anew.{keeps-none, lacks-anew, loaded-anew, reads-anew}
use Rattle.kishu_session.proofs.head.Head.load.Goals as goal

pub carry-requires-clause-keeps : goal.carry-requires-clause-keeps
carry-requires-clause-keeps g c = keeps-none _ (ap (map row_of) c.new-3.ensures.items) c.new.ensures c.new-2.ensures

pub carry-requires-clause-room : goal.carry-requires-clause-room
carry-requires-clause-room g c = (let none = ap (λ (s : State). length s.nodes) c.new.ensures in omega (arith, none))

pub returns-clause-whole : goal.returns-clause-whole
returns-clause-whole g c = on_ok_weaker c.carry.result (λ whole. whole (subst IsWhole (sym c.new.ensures) empty_whole)) c.carry.ensures.whole

pub returns-clause-loaded : goal.returns-clause-loaded
returns-clause-loaded g c =
    let file = told_file (g.H.Host.state c.args.host.now) in
    on_ok_weaker c.carry.result (λ k. loaded-anew file _ c.carry.new.self (ap (map row_of) c.new-3.ensures.items) c.new.ensures k) c.carry.ensures.carries

pub returns-clause-reads : goal.returns-clause-reads
returns-clause-reads g c =
    let st = g.H.Host.state in
    let old : Head = record { alloc = c.args.self.now.alloc; graph = c.args.self.now.graph; table = record { rows = c.new-3.result }; kept = c.new-2.result; cells = c.args.self.now.cells; live = c.new.result } in
    reads-anew old (ap (map row_of) c.new-3.ensures.items) (st c.args.host.now) (st c.carry.new.host) c.carry.ensures.reads_most

pub returns-clause-damaged : goal.returns-clause-damaged
returns-clause-damaged g c at err =
    let old : Head = record { alloc = c.args.self.now.alloc; graph = c.args.self.now.graph; table = record { rows = c.new-3.result }; kept = c.new-2.result; cells = c.args.self.now.cells; live = c.new.result } in
    lacks-anew old (ap (map row_of) c.new-3.ensures.items) (g.H.Host.state c.args.host.now) at (c.carry.ensures.damaged at err)
