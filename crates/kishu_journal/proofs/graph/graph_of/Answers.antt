use Rattle.std.proofs.Common.{◌≡◌, ◌+◌, ℕ, true, false, Ok, List, ◌∷◌, drop, subst, arith, rules}
use Rattle.kishu_record.specs.declared.entry.Entry as program
use Rattle.kishu_journal.proofs.Follows.{Followed, followed-start, followed-on, followed-end, found-end, found-on, not-followed}
use Rattle.kishu_journal.proofs.graph.graph_of.Goals as goal

pub loop-place-init : goal.loop-place-init
loop-place-init c = followed-start c.in_ok-graph.graph c.args.entries.now (record { graph = c.in_ok-graph.ensures.graph; changes = c.in_ok-graph.ensures.tables }) c.requires.rules c.requires.places

pub returns-then-not-branch-clause-none : goal.returns-then-not-branch-clause-none
returns-then-not-branch-clause-none c none fit =
    let all = c.args.entries.now in
    let i = c.loop-place.place-index in
    let p = c.loop-place-item.result in
    let here = found-on all i p c.loop-place-test.true c.loop-place-item.is in
    let f : Followed c.loop-place.graph all (p ∷ drop (i + 1) all) = subst (λ (ps : List (ℕ × program.Entry)). Followed c.loop-place.graph all ps) here c.loop-place.invariant in
    let refused : c.follow.result ≡ Ok false = search rules in
    not-followed c.loop-place.graph all (drop (i + 1) all) p f (c.follow.ensures.refused refused) fit

pub loop-place-preserved : goal.loop-place-preserved
loop-place-preserved c =
    let all = c.args.entries.now in
    let i = c.loop-place.place-index in
    let p = c.loop-place-item.result in
    let here = found-on all i p c.loop-place-test.true c.loop-place-item.is in
    let f : Followed c.loop-place.graph all (p ∷ drop (i + 1) all) = subst (λ (ps : List (ℕ × program.Entry)). Followed c.loop-place.graph all ps) here c.loop-place.invariant in
    let made : c.follow.result ≡ Ok true = search rules in
    followed-on c.loop-place.graph all (drop (i + 1) all) p f c.follow.new.graph (c.follow.ensures.made made)

pub returns-clause-stands : goal.returns-clause-stands
returns-clause-stands c =
    let all = c.args.entries.now in
    let i = c.loop-place.place-index in
    (followed-end c.loop-place.graph all (drop i all) (found-end all i (omega arith)) c.loop-place.invariant).0

pub returns-clause-tables : goal.returns-clause-tables
returns-clause-tables c =
    let all = c.args.entries.now in
    let i = c.loop-place.place-index in
    (followed-end c.loop-place.graph all (drop i all) (found-end all i (omega arith)) c.loop-place.invariant).1

pub returns-clause-fit : goal.returns-clause-fit
returns-clause-fit c =
    let all = c.args.entries.now in
    let i = c.loop-place.place-index in
    (followed-end c.loop-place.graph all (drop i all) (found-end all i (omega arith)) c.loop-place.invariant).2
