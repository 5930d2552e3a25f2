use Rattle.std.proofs.Common.{◌∙◌}
use Rattle.kishu_journal.proofs.Steps.{staged, is_opened, first, second, third, fourth}
use Rattle.kishu_journal.proofs.append.write_record.Goals as goal

pub returns-in_err-write_at-clause-stop : goal.returns-in_err-write_at-clause-stop
returns-in_err-write_at-clause-stop g c told only entries e whole =
    let st = g.H.Host.state in
    let w = c.write_at.ensures in
    first (st c.args.host.now) c.args.place c.args.bytes.now entries e whole only (st c.write_at.new.self) _ w.torn w.kept w.time

pub returns-in_err-sync-clause-stop : goal.returns-in_err-sync-clause-stop
returns-in_err-sync-clause-stop g c told only entries e whole =
    let st = g.H.Host.state in
    let w = c.write_at.ensures in
    second (st c.args.host.now) c.args.place c.args.bytes.now entries e whole only (st c.write_at.new.self) _ w.torn w.kept w.time (st c.sync.new.self) c.sync.ensures.time

pub returns-in_err-write_at-2-clause-stop : goal.returns-in_err-write_at-2-clause-stop
returns-in_err-write_at-2-clause-stop g c told only entries e whole =
    let st = g.H.Host.state in
    let w = c.write_at.ensures in
    let s = c.sync.ensures in
    let v = c.write_at-2.ensures in
    third (st c.args.host.now) c.args.place c.args.bytes.now entries e whole only (st c.write_at.new.self) _ w.torn w.kept w.time (st c.sync.new.self) s.time s.keeps.out (c.in_ok-write_at.ensures.written told) (c.in_ok-sync.ensures.durable (w.time.tells ∙ told)) (st c.write_at-2.new.self) v.torn v.kept v.time

pub returns-in_err-sync-2-clause-stop : goal.returns-in_err-sync-2-clause-stop
returns-in_err-sync-2-clause-stop g c told only entries e whole =
    let st = g.H.Host.state in
    let w = c.write_at.ensures in
    let s = c.sync.ensures in
    let v = c.write_at-2.ensures in
    fourth (st c.args.host.now) c.args.place c.args.bytes.now entries e whole only (st c.write_at.new.self) _ w.torn w.kept w.time (st c.sync.new.self) s.time s.keeps.out (c.in_ok-write_at.ensures.written told) (c.in_ok-sync.ensures.durable (w.time.tells ∙ told)) (st c.write_at-2.new.self) v.torn v.kept v.time (st c.sync-2.new.self) c.sync-2.ensures.time

pub returns-clause-stop : goal.returns-clause-stop
returns-clause-stop g c told only entries e whole =
    let st = g.H.Host.state in
    let w = c.write_at.ensures in
    let s = c.sync.ensures in
    let v = c.write_at-2.ensures in
    fourth (st c.args.host.now) c.args.place c.args.bytes.now entries e whole only (st c.write_at.new.self) _ w.torn w.kept w.time (st c.sync.new.self) s.time s.keeps.out (c.in_ok-write_at.ensures.written told) (c.in_ok-sync.ensures.durable (w.time.tells ∙ told)) (st c.write_at-2.new.self) v.torn v.kept v.time (st c.sync-2.new.self) c.sync-2.ensures.time

pub returns-clause-written : goal.returns-clause-written
returns-clause-written g c told entries e whole =
    let s0 = g.H.Host.state c.args.host.now in
    let s2 = g.H.Host.state c.sync.new.self in
    let told2 = c.sync.ensures.time.tells ∙ c.write_at.ensures.time.tells ∙ told in
    let behind = staged s0.file c.args.place c.args.bytes.now entries e whole s2.file (c.sync.ensures.keeps.file ∙ c.in_ok-write_at.ensures.written told) in
    is_opened s0.file c.args.place c.args.bytes.now entries e whole s2.file _ behind (c.sync-2.ensures.keeps.file ∙ c.in_ok-write_at-2.ensures.written told2)
