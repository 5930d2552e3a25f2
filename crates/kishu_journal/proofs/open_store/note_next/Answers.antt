use Rattle.std.proofs.Common.{◌≡◌, ◌≤◌, ◌+◌, ℕ, true, false, Ok, List, IsErrOf, sym, subst, drop, arith, rules}
use Rattle.kishu_record.specs.Readings.{IsHead}
use Rattle.kishu_store.specs.Entries.{Entry}
use Rattle.kishu_store.specs.Histories.{Follows, FollowsAt}
use Rattle.kishu_store.specs.Limits.{longest_body}
use Rattle.kishu_journal.specs.declared.journal.JournalFault.TheVariants.{Damaged}
use Rattle.kishu_journal.specs.Facts.{head_at}
use Rattle.kishu_journal.specs.Found.{BeginsHead, before_body, before_head}
use Rattle.kishu_journal.specs.Windows.{end_of}
use Rattle.kishu_journal.proofs.Cuts.{none-fits, no-record, record-there, head-length}
use Rattle.kishu_journal.proofs.WindowLemmas.{still}
use Rattle.kishu_journal.proofs.open_store.note_next.Goals as goal

pub part-bytes-requires-clause-inside : goal.part-bytes-requires-clause-inside
part-bytes-requires-clause-inside g c =
    let shown : c.args.at + before_head + c.in-Some.head.bytes ≤ end_of c.read_head.new.window = rw c.in-Some.is at c.in_ok-head.ensures.shown in
    omega (arith, shown)

pub returns-in_err-head-clause-damaged : goal.returns-in_err-head-clause-damaged
returns-in_err-head-clause-damaged g c h kept ends place err told =
    let was : IsErrOf c.read_head.result (Damaged place) = search rules in
    let d = c.read_head.ensures.damaged place was told in
    (d.0, no-record (g.H.Host.state c.args.host.now).file c.args.at h d.1)

pub returns-in-Ok-true-clause-noted : goal.returns-in-Ok-true-clause-noted
returns-in-Ok-true-clause-noted g c =
    let st = g.H.Host.state in
    let s = st c.args.host.now in
    let at = c.args.at in
    let head = c.in-Some.head in
    let bytes = c.part-bytes.result.now in
    let there : s.tells ≡ true → BeginsHead (drop at s.file) (head_at s.file at head) head.pictures = rw c.in-Some.is at c.in_ok-head.ensures.head in
    let same = λ (told : s.tells ≡ true). c.part-bytes.ensures.value s.file (still s (st c.read_head.new.host) c.args.window.now c.read_head.new.window c.args.len c.read_head.ensures.ahead told) in
    let here = λ (told : s.tells ≡ true). subst (λ (l : List ℕ). BeginsHead (drop at s.file) l head.pictures) (sym (same told)) (there told) in
    let made : c.note_record.result ≡ Ok true = search rules in
    let t = c.note_record.ensures.made made in
    let small : 4 + head.bytes + head.pictures ≤ longest_body = rw c.in-Some.is at c.in_ok-head.ensures.small in
    record {
      entry = t.entry;
      there = record-there bytes head.pictures t.entry t.says s at (omega (arith, small, c.part-bytes.ensures.len)) here;
      goes = t.goes;
      size_is = (let is = head-length bytes head.pictures t.entry t.says in omega (arith, is, c.part-bytes.ensures.len));
    }

pub returns-in-Ok-false-clause-damaged : goal.returns-in-Ok-false-clause-damaged
returns-in-Ok-false-clause-damaged g c h kept ends place err told =
    let st = g.H.Host.state in
    let s = st c.args.host.now in
    let at = c.args.at in
    let head = c.in-Some.head in
    let bytes = c.part-bytes.result.now in
    let there : BeginsHead (drop at s.file) (head_at s.file at head) head.pictures = rw c.in-Some.is at c.in_ok-head.ensures.head told in
    let same = c.part-bytes.ensures.value s.file (still s (st c.read_head.new.host) c.args.window.now c.read_head.new.window c.args.len c.read_head.ensures.ahead told) in
    let here = subst (λ (l : List ℕ). BeginsHead (drop at s.file) l head.pictures) (sym same) there in
    let refused : c.note_record.result ≡ Ok false = search rules in
    let none : (e : Entry) → IsHead bytes head.pictures e → Follows h e → ⊥ =
    λ e says fits. c.note_record.ensures.none refused h e kept says (subst (λ (n : ℕ). FollowsAt (n + before_body) h e) ends fits) in
    (cc err, none-fits s.file at h bytes head.pictures here none)
