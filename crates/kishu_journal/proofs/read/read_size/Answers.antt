use Rattle.std.proofs.Common.{◌+◌, take, drop, refl, arith}
use Rattle.kishu_store.specs.EntryBytes.{body_of}
use Rattle.kishu_journal.proofs.Gates.{gate_is, no_room, too_long, past_end, begins}
use Rattle.kishu_journal.proofs.WindowLemmas.{ahead-trans, still}
use Rattle.kishu_journal.proofs.read.read_size.Goals as goal
use Rattle.kishu_journal.proofs.read.read_size.Goals.{then-size-gt-LONGEST_BODY-via-then-size-gt-LONGEST_BODY, then-size-gt-LONGEST_BODY-via-else-size-gt-LONGEST_BODY+then-size-len}

pub returns-then-part-clause-closed : goal.returns-then-part-clause-closed
returns-then-part-clause-closed g c is told =
    let st = g.H.Host.state in
    let s = st c.args.host.now in
    let gate = c.part.ensures.value s.file (still s (st c.reach.new.host) c.args.window.now c.reach.new.self c.args.len c.reach.ensures.ahead told) in
    let stands = gate_is s.file c.args.at c.part.result.now _ gate refl (omega (arith, c.requires.len told, c.requires.inside)) in
    record { gate = _; rest = _; split = stands; closed = c.if-part.true }

pub returns-then-len-at-lt10-clause-damaged : goal.returns-then-len-at-lt10-clause-damaged
returns-then-len-at-lt10-clause-damaged g c place err told =
    let st = g.H.Host.state in
    let s = st c.args.host.now in
    let gate = c.part.ensures.value s.file (still s (st c.reach.new.host) c.args.window.now c.reach.new.self c.args.len c.reach.ensures.ahead told) in
    let stands = gate_is s.file c.args.at c.part.result.now _ gate c.if-part.false (omega (arith, c.requires.len told, c.requires.inside)) in
    let none = no_room s.file c.args.at (omega (arith, c.requires.len told)) in
    (cc err, record { rest = _; split = stands; none = λ r rules b. none (body_of r) b })

pub returns-then-size-gt-LONGEST_BODY-clause-damaged : goal.returns-then-size-gt-LONGEST_BODY-clause-damaged
returns-then-size-gt-LONGEST_BODY-clause-damaged g c place err told =
    let st = g.H.Host.state in
    let s = st c.args.host.now in
    let file = s.file in
    let at = c.args.at in
    let one = c.reach.ensures.ahead in
    let both = ahead-trans s (st c.reach.new.host) (st c.reach-2.new.host) c.args.window.now c.reach.new.self c.reach-2.new.self c.args.len one c.reach-2.ensures.ahead in
    let gate = c.part.ensures.value file (still s (st c.reach.new.host) c.args.window.now c.reach.new.self c.args.len one told) in
    let stands = gate_is file at c.part.result.now _ gate c.if-part.false (omega (arith, c.requires.len told, c.requires.inside)) in
    let read = c.part-2.ensures.value file (still s (st c.reach-2.new.host) c.args.window.now c.reach-2.new.self c.args.len both told) in
    let spelt = c.number-size.ensures.value in
    let size = c.number-size.result in (
      cc err,
      record {
        rest = _;
        split = stands;
        none = λ r rules b. elim c.then-size-gt-LONGEST_BODY.branch [
          | then-size-gt-LONGEST_BODY-via-then-size-gt-LONGEST_BODY w ↦ too_long file at c.part-2.result.now size read spelt (omega arith) (body_of r) b
          | then-size-gt-LONGEST_BODY-via-else-size-gt-LONGEST_BODY+then-size-len w ↦ past_end file at c.part-2.result.now size read spelt (omega (arith, c.requires.len told)) (body_of r) b
        ];
      },
    )

pub returns-clause-body : goal.returns-clause-body
returns-clause-body g c told =
    let st = g.H.Host.state in
    let s = st c.args.host.now in
    let file = s.file in
    let at = c.args.at in
    let one = c.reach.ensures.ahead in
    let both = ahead-trans s (st c.reach.new.host) (st c.reach-2.new.host) c.args.window.now c.reach.new.self c.reach-2.new.self c.args.len one c.reach-2.ensures.ahead in
    let gate = c.part.ensures.value file (still s (st c.reach.new.host) c.args.window.now c.reach.new.self c.args.len one told) in
    let stands = gate_is file at c.part.result.now _ gate c.if-part.false (omega (arith, c.requires.len told, c.requires.inside)) in
    let read = c.part-2.ensures.value file (still s (st c.reach-2.new.host) c.args.window.now c.reach-2.new.self c.args.len both told) in
    let size = c.number-size.result in
    begins file at c.part-2.result.now size read c.number-size.ensures.value (take size (drop (at + 9) file)) stands c.number-size.ensures.back (omega arith) (omega (arith, c.requires.len told)) refl
