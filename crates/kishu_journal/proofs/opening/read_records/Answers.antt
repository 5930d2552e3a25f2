use Rattle.std.proofs.Common.{◌≡◌, ◌<◌, ◌+◌, ℕ, List, ◌∷◌, None, Ok, IsErrOf, drop, sym, ◌∙◌, ap, subst, arith, rules}
use Rattle.kishu_record.specs.Entries.{entry_of}
use Rattle.kishu_store.specs.Histories.{body_length}
use Rattle.kishu_store.specs.Holds.{open_gate, history_by, IsBroken}
use Rattle.kishu_journal.specs.declared.journal.JournalFault.TheVariants.{Damaged}
use Rattle.kishu_journal.specs.Facts.{RecordAt}
use Rattle.kishu_journal.specs.Found.{before_body, IsShut}
use Rattle.kishu_journal.proofs.Calls.{quiet-trans, reads-none, reads-more, reads-trans}
use Rattle.kishu_journal.proofs.WindowLemmas.{shows-none}
use Rattle.kishu_journal.proofs.Reached.{found-end, found-on, found-start, reached-broken, reached-kept, reached-near, reached-place, record-still}
use Rattle.kishu_journal.proofs.opening.read_records.Goals as goal

pub loop-found-init : goal.loop-found-init
loop-found-init g c = record {
  inside = omega (arith, c.requires.long);
  quiet = search rules;
  shows = λ told. shows-none (g.H.Host.state c.args.host.now).file c.new-window.result c.new-window.ensures.none;
  from = omega (arith, c.new-window.ensures.from);
  most = omega (arith, c.new-window.ensures.from, c.new-window.ensures.none, c.requires.long);
  least = omega (arith, c.new-window.ensures.from);
  reads = reads-more _ _ 0 _ (reads-none _) (omega arith);
  reached = found-start (g.H.Host.state c.args.host.now) c.new-found.result.items c.in-Ok.graph c.new-found.ensures.items (record { graph = c.in-Ok.ensures.graph; changes = c.in-Ok.ensures.tables }) c.requires.head;
}

pub next_record-requires-clause-near : goal.next_record-requires-clause-near
next_record-requires-clause-near g c =
    let f = c.loop-found.invariant.reached in reached-near (g.H.Host.state c.args.host.now) f.records c.loop-found.at c.loop-found.graph f.reached

pub returns-in_err-entry-clause-damaged : goal.returns-in_err-entry-clause-damaged
returns-in_err-entry-clause-damaged g c place err told =
    let s = g.H.Host.state c.args.host.now in
    let inv = c.loop-found.invariant in
    let f = inv.reached in
    let was : IsErrOf c.next_record.result (Damaged place) = search rules in
    let at = c.loop-found.at in
    let kept = c.loop-found.graph in
    let d = c.next_record.ensures.damaged (history_by f.records) (reached-kept s f.records at kept f.reached) (reached-place s f.records at kept f.reached) place was (inv.quiet.time.tells ∙ told) in
    let here : drop c.loop-found.at s.file ≡ open_gate ∷ d.1.rest = ap (λ (f : List ℕ). drop c.loop-found.at f) (sym inv.quiet.keeps.file) ∙ d.1.split in
    subst (λ (n : ℕ). IsBroken s.file n) (sym d.0) (reached-broken s f.records at kept f.reached told d.1.rest (omega (arith, c.requires.len told, c.requires.long)) here d.1.none)

pub returns-in_err-entry-clause-reads : goal.returns-in_err-entry-clause-reads
returns-in_err-entry-clause-reads g c =
    let inv = c.loop-found.invariant in
    let on = c.next_record.ensures.ahead in
    reads-trans _ _ _ _ _ _ inv.reads on.reads (omega (arith, inv.least, on.onward, on.within))

pub returns-in_default-push-clause-reads : goal.returns-in_default-push-clause-reads
returns-in_default-push-clause-reads g c =
    let inv = c.loop-found.invariant in
    let on = c.next_record.ensures.ahead in
    reads-trans _ _ _ _ _ _ inv.reads on.reads (omega (arith, inv.least, on.onward, on.within))

pub returns-clause-reads : goal.returns-clause-reads
returns-clause-reads g c =
    let inv = c.loop-found.invariant in
    let on = c.next_record.ensures.ahead in
    reads-trans _ _ _ _ _ _ inv.reads on.reads (omega (arith, inv.least, on.onward, on.within))

pub loop-found-preserved : goal.loop-found-preserved
loop-found-preserved g c =
    let st = g.H.Host.state in
    let s = st c.args.host.now in
    let inv = c.loop-found.invariant in
    let found = c.loop-found.found.items in
    let e = c.in-Some.entry in
    let at = c.loop-found.at in
    let goes = rw c.in-Some.is at c.in_ok-entry.ensures.made in
    let size : c.in-Some.size ≡ body_length (entry_of e) = rw c.in-Some.is at c.in_ok-entry.ensures.size in
    let within : at + before_body + c.in-Some.size < c.args.len = rw c.in-Some.is at c.in_ok-entry.ensures.within in
    let there : RecordAt (st c.loop-found.host) at (entry_of e) = rw c.in-Some.is at c.in_ok-entry.ensures.record in
    let here = record-still s (st c.loop-found.host) at (entry_of e) inv.quiet there in
    let on = c.next_record.ensures.ahead in
    record {
      inside = within;
      quiet = quiet-trans s (st c.loop-found.host) (st c.next_record.new.host) inv.quiet on.quiet;
      shows = on.shows;
      from = omega (arith, c.next_record.ensures.from);
      most = on.within;
      least = omega (arith, inv.least, on.onward);
      reads = reads-trans _ _ _ _ _ _ inv.reads on.reads (omega (arith, inv.least, on.onward));
      reached = found-on s found at c.loop-found.graph inv.reached c.push.new.self.items c.next_record.new.graph e c.in-Some.size (at + 9 + c.in-Some.size) c.in-Ok-push.ensures.items here goes size (omega arith);
    }

pub returns-clause-found : goal.returns-clause-found
returns-clause-found g c =
    let st = g.H.Host.state in
    let s = st c.args.host.now in
    let inv = c.loop-found.invariant in
    let at = c.loop-found.at in
    let none : c.next_record.result ≡ Ok None = cc (c.in_ok-entry.was, c.in_default-2.is) in
    found-end s c.loop-found.found.items at c.loop-found.graph inv.reached
    (λ told. subst (λ (f : List ℕ). IsShut f at) inv.quiet.keeps.file (c.next_record.ensures.closed none (inv.quiet.time.tells ∙ told)))
