use Rattle.std.proofs.Common.{◌-◌, ℕ, List, take, drop, ap, ◌∙◌, arith}
use Rattle.kishu_journal.proofs.WindowLemmas.{part_of}
use Rattle.kishu_journal.proofs.window.Window.part.Goals as goal

pub returns-clause-value : goal.returns-clause-value
returns-clause-value c file shows =
    let w = c.args.self.now in
    let start = c.args.at - w.from in
    let count = c.args.count in
    ap (λ (n : ℕ). take n (drop start c.deref.result.now)) (omega arith)
    ∙ ap (λ (l : List ℕ). take count (drop start l)) c.deref.ensures.value
    ∙ part_of w.bytes.items file w.filled w.from c.args.at start count shows (omega (arith, c.requires.from)) (omega (arith, c.requires.from, c.requires.inside))
