use Rattle.std.proofs.Common.{[], ◌∷◌, refl, arith}
use Rattle.kishu_store.specs.EntryBytes.{text_bytes}
use Rattle.kishu_store.specs.Rules.{IsCell}
use Rattle.kishu_store_laws.specs.Cuts.{text-cut}
use Rattle.kishu_record.specs.Readings.{AreSome}
use Rattle.kishu_record.proofs.Cells.{passed_all, passed_on}
use Rattle.kishu_record.proofs.Lists.{counts_told, none_behind, text_full}
use Rattle.kishu_record.proofs.cursor.Cursor.cells.Goals as goal

pub returns-then-count-eq0-clause-none : goal.returns-then-count-eq0-clause-none
returns-then-count-eq0-clause-none c same b =
    let count = (counts_told text_bytes IsCell text-cut text_full AreSome c.in_ok-count.count c.args.self.now.rest.now _ c.requires (omega arith) c.in_ok-count.ensures.found b).0 in
    omega (arith, count, c.if-count-eq0.true, b.is_fit.some)

pub returns-in_err-first-clause-none : goal.returns-in_err-first-clause-none
returns-in_err-first-clause-none c same b =
    let list = c.number.new.self.rest.now in
    none_behind text_bytes IsCell text-cut text_full [] c.in_ok-count.count c.args.self.now.rest.now list list c.requires (omega arith) c.in_ok-count.ensures.found refl (omega (arith, c.if-count-eq0.false)) tt
    (c.text.ensures.none c.in_err-first.was) (record { item = b.item; rest = b.rest; is_fit = b.is_fit.each; is = b.is })

pub returns-in_err-text-clause-none : goal.returns-in_err-text-clause-none
returns-in_err-text-clause-none c same b =
    let list = c.number.new.self.rest.now in
    let first = c.in_ok-first.first.now in
    let p = c.loop.invariant in
    let read = passed_all list first c.text.new.self.rest.now c.loop.self.rest.now c.loop.counter c.in_ok-first.ensures.found p in
    none_behind text_bytes IsCell text-cut text_full (first ∷ p.others) c.in_ok-count.count c.args.self.now.rest.now list c.loop.self.rest.now c.requires (omega arith) c.in_ok-count.ensures.found read
    (omega (arith, p.count_is, c.loop-test.true)) (c.in_ok-first.ensures.fits, p.fit) (c.text-in-loop.ensures.none c.in_err-text.was) (record { item = b.item; rest = b.rest; is_fit = b.is_fit.each; is = b.is })

pub loop-preserved : goal.loop-preserved
loop-preserved c =
    passed_on c.text.new.self.rest.now c.loop.self.rest.now c.text-in-loop.new.self.rest.now c.in_ok-text.field-0.now c.loop.counter c.loop.invariant c.in_ok-text.ensures.found c.in_ok-text.ensures.fits
