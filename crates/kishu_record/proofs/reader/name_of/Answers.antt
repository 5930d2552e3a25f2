use Rattle.std.proofs.Common.{◌≡◌, ◌++◌, length, Ok, ap, arith}
use Rattle.std.specs.Rc.{rc_str_bytes}
use Rattle.kishu_bytes.specs.Numbers.{four}
use Rattle.kishu_store.specs.EntryBytes.{name_bytes}
use Rattle.kishu_record.proofs.Heads.{name_head, named_number, named_left, named_found}
use Rattle.kishu_record.proofs.reader.name_of.Goals as goal

pub returns-in_default-clause-none : goal.returns-in_default-clause-none
returns-in_default-clause-none c same e k is =
    let h = name_head c.args.rest.now e k is in
    c.in_ok-name.ensures.none (ap (λ o. Ok o) c.in_default.is) (record { item = h.t; rest = four h.n; is_fit = h.title; is = h.is })

pub returns-in_default-number-clause-none : goal.returns-in_default-number-clause-none
returns-in_default-number-clause-none c same e k is =
    let h = name_head c.args.rest.now e k is in
    let name = rc_str_bytes c.in-Some.name in
    let found : c.args.rest.now ≡ name_bytes name ++ c.title.new.self.rest.now = rw c.in-Some.is at c.in_ok-name.ensures.found in
    omega (arith, c.number.ensures.none c.in_default-number.is, ap length (named_number c.args.rest.now c.title.new.self.rest.now name h found))

pub returns-then-not-is_at_end-clause-none : goal.returns-then-not-is_at_end-clause-none
returns-then-not-is_at_end-clause-none c same e k is =
    let h = name_head c.args.rest.now e k is in
    let name = rc_str_bytes c.in-Some.name in
    let left = c.title.new.self.rest.now in
    let found : c.args.rest.now ≡ name_bytes name ++ left = rw c.in-Some.is at c.in_ok-name.ensures.found in
    let number : left ≡ four c.in-Some-number.commit ++ c.number.new.self.rest.now = c.in-Some-number.ensures.found in
    c.is_at_end.ensures.no c.if-not-is_at_end.true (named_left c.args.rest.now left c.number.new.self.rest.now name c.in-Some-number.commit (omega arith) found number h)

pub returns-clause-found : goal.returns-clause-found
returns-clause-found c =
    let name = rc_str_bytes c.in-Some.name in
    let left = c.title.new.self.rest.now in
    let found : c.args.rest.now ≡ name_bytes name ++ left = rw c.in-Some.is at c.in_ok-name.ensures.found in
    let number : left ≡ four c.in-Some-number.commit ++ c.number.new.self.rest.now = c.in-Some-number.ensures.found in
    named_found c.args.rest.now left c.number.new.self.rest.now name c.in-Some-number.commit found number (c.is_at_end.ensures.yes c.if-not-is_at_end.false)
