use Rattle.std.proofs.Common.{◌≡◌, ◌<◌, ◌+◌, ℕ, true, List, ◌∷◌, None, Ok, IsErrOf, drop, sym, ◌∙◌, ap, subst, arith, rules}
use Rattle.kishu_graph.specs.Kept.{Kept}
use Rattle.kishu_store.specs.Holds.{open_gate, history_by, IsBroken}
use Rattle.kishu_journal.specs.declared.journal.JournalFault.TheVariants.{Damaged}
use Rattle.kishu_journal.specs.Facts.{NotesRecord}
use Rattle.kishu_journal.specs.Found.{before_body, IsShut}
use Rattle.kishu_journal.specs.Stores.{IsRead}
use Rattle.kishu_journal.proofs.Calls.{quiet-trans, reads-none, reads-more, reads-trans}
use Rattle.kishu_journal.proofs.Reached.{noted-still, reached-near, reached-kept, reached-place, reached-broken}
use Rattle.kishu_journal.proofs.Stored.{store-start, store-on, store-end, store-still}
use Rattle.kishu_journal.proofs.WindowLemmas.{shows-none}
use Rattle.kishu_journal.proofs.open_store.read_graph.Goals as goal

pub loop-window-init : goal.loop-window-init
loop-window-init g c = record {
  inside = omega (arith, c.requires.long);
  quiet = search rules;
  shows = λ told. shows-none (g.H.Host.state c.args.host.now).file c.new-window.result c.new-window.ensures.none;
  from = omega (arith, c.new-window.ensures.from);
  most = omega (arith, c.new-window.ensures.from, c.new-window.ensures.none, c.requires.long);
  least = omega (arith, c.new-window.ensures.from);
  reads = reads-more _ _ 0 _ (reads-none _) (omega arith);
  reached = store-start (g.H.Host.state c.args.host.now) c.in-Ok.graph (record { graph = c.in-Ok.ensures.graph; changes = c.in-Ok.ensures.tables }) c.requires.header;
}

pub note_next-requires-clause-near : goal.note_next-requires-clause-near
note_next-requires-clause-near g c =
    let r = c.loop-window.invariant.reached in
    reached-near (g.H.Host.state c.args.host.now) r.records c.loop-window.at c.loop-window.graph r.reached

pub returns-in_err-size-clause-damaged : goal.returns-in_err-size-clause-damaged
returns-in_err-size-clause-damaged g c place err told =
    let s = g.H.Host.state c.args.host.now in
    let inv = c.loop-window.invariant in
    let r = inv.reached in
    let was : IsErrOf c.note_next.result (Damaged place) = search rules in
    let at = c.loop-window.at in
    let kept = c.loop-window.graph in
    let d = c.note_next.ensures.damaged (history_by r.records) (reached-kept s r.records at kept r.reached) (reached-place s r.records at kept r.reached) place was (inv.quiet.time.tells ∙ told) in
    let here : drop at s.file ≡ open_gate ∷ d.1.rest = ap (λ (f : List ℕ). drop at f) (sym inv.quiet.keeps.file) ∙ d.1.split in
    subst (λ (n : ℕ). IsBroken s.file n) (sym d.0)
    (reached-broken s r.records at kept r.reached told d.1.rest (omega (arith, c.requires.len told, c.requires.long)) here d.1.none)

pub returns-in_err-size-clause-reads : goal.returns-in_err-size-clause-reads
returns-in_err-size-clause-reads g c =
    let inv = c.loop-window.invariant in
    let on = c.note_next.ensures.ahead in
    reads-trans _ _ _ _ _ _ inv.reads on.reads (omega (arith, inv.least, on.onward, on.within))

pub returns-clause-reads : goal.returns-clause-reads
returns-clause-reads g c =
    let inv = c.loop-window.invariant in
    let on = c.note_next.ensures.ahead in
    reads-trans _ _ _ _ _ _ inv.reads on.reads (omega (arith, inv.least, on.onward, on.within))

pub loop-window-preserved : goal.loop-window-preserved
loop-window-preserved g c =
    let st = g.H.Host.state in
    let s = st c.args.host.now in
    let inv = c.loop-window.invariant in
    let at = c.loop-window.at in
    let kept = c.loop-window.graph in
    let size = c.in-Some.size in
    let within : at + before_body + size < c.args.len = rw c.in-Some.is at c.in_ok-size.ensures.within in
    let noted : NotesRecord kept (st c.loop-window.host) at c.note_next.new.graph size = rw c.in-Some.is at c.in_ok-size.ensures.noted in
    let here = noted-still s (st c.loop-window.host) at kept c.note_next.new.graph size inv.quiet noted in
    let on = c.note_next.ensures.ahead in
    record {
      inside = within;
      quiet = quiet-trans s (st c.loop-window.host) (st c.note_next.new.host) inv.quiet on.quiet;
      shows = on.shows;
      from = omega (arith, c.note_next.ensures.from);
      most = on.within;
      least = omega (arith, inv.least, on.onward);
      reads = reads-trans _ _ _ _ _ _ inv.reads on.reads (omega (arith, inv.least, on.onward));
      reached = store-on s at kept inv.reached c.note_next.new.graph size (at + 9 + size) here (omega arith);
    }

pub returns-clause-read : goal.returns-clause-read
returns-clause-read g c =
    let st = g.H.Host.state in
    let s = st c.args.host.now in
    let inv = c.loop-window.invariant in
    let at = c.loop-window.at in
    let none : c.note_next.result ≡ Ok None = cc (c.in_ok-size.was, c.in_default-2.is) in
    let shut = λ (told : s.tells ≡ true). subst (λ (f : List ℕ). IsShut f at) inv.quiet.keeps.file (c.note_next.ensures.closed none (inv.quiet.time.tells ∙ told)) in
    let quiet = quiet-trans s (st c.loop-window.host) (st c.note_next.new.host) inv.quiet c.note_next.ensures.ahead.quiet in
    subst (λ (k : Kept). IsRead (st c.note_next.new.host) at k) (sym (c.note_next.ensures.stays none))
    (store-still s (st c.note_next.new.host) at c.loop-window.graph quiet (store-end s at c.loop-window.graph inv.reached shut))
