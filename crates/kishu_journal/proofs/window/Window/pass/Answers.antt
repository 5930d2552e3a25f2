use Rattle.std.proofs.Common.{◌-◌, List, ℕ, length, take, drop, ap, ◌∙◌, arith}
use Rattle.std.proofs.lemmas.List.{take_at}
use Rattle.std.specs.List.{copy_within}
use Rattle.kishu_journal.proofs.WindowLemmas.{passed}
use Rattle.kishu_journal.proofs.window.Window.pass.Goals as goal

pub returns-then-passed-self-clause-shown : goal.returns-then-passed-self-clause-shown
returns-then-passed-self-clause-shown c file shows =
    let w = c.args.self.now in
    let start = c.args.at - w.from in
    let new = c.copy_within.new.self in
    let items = take_at new (drop (length new) w.bytes.items) w.bytes.len (omega (arith, c.copy_within.ensures.len, c.as_mut_slice.ensures.len)) in
    ap (take (w.filled - start)) (items ∙ c.copy_within.ensures.after ∙ ap (λ (l : List ℕ). copy_within l start w.filled 0) c.as_mut_slice.ensures.value)
    ∙ passed w.bytes.items file w.filled w.from c.args.at start shows (omega (arith, c.requires)) (omega (arith, c.if-passed-self.true)) (omega (arith, w.within, w.bytes.ok.0))
