use Rattle.std.proofs.Common.{◌≡◌, ◌++◌, length, ap, arith}
use Rattle.kishu_bytes.specs.Numbers.{four}
use Rattle.kishu_record.proofs.Heads.{number_head, number_left, number_found}
use Rattle.kishu_record.proofs.reader.to_commit.Goals as goal

pub returns-in_err-number-clause-none : goal.returns-in_err-number-clause-none
returns-in_err-number-clause-none c same e k is = (let h = number_head c.args.rest.now e k is in omega (arith, c.number.ensures.none c.in_err-number.was, ap length h.is))

pub returns-then-not-is_at_end-clause-none : goal.returns-then-not-is_at_end-clause-none
returns-then-not-is_at_end-clause-none c same e k is =
    let found : c.args.rest.now ≡ four c.in_ok-number.number ++ c.number.new.self.rest.now = c.in_ok-number.ensures.found in
    c.is_at_end.ensures.no c.if-not-is_at_end.true (number_left c.args.rest.now c.number.new.self.rest.now c.in_ok-number.number (omega arith) found (number_head c.args.rest.now e k is))

pub returns-clause-found : goal.returns-clause-found
returns-clause-found c =
    let found : c.args.rest.now ≡ four c.in_ok-number.number ++ c.number.new.self.rest.now = c.in_ok-number.ensures.found in
    number_found c.args.rest.now c.number.new.self.rest.now c.in_ok-number.number found (c.is_at_end.ensures.yes c.if-not-is_at_end.false)
