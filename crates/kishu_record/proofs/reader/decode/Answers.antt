use Rattle.std.proofs.Common.{◌≡◌, ◌∙◌, length, ap, sym, arith}
use Rattle.std.specs.List.{sum}
use Rattle.kishu_store.specs.Entries.{lengths_in}
use Rattle.kishu_store.specs.EntryBytes.{head_of}
use Rattle.kishu_store.specs.Rules.{KeepsRules, IsEntry}
use Rattle.kishu_store_laws.specs.EntryLaws.{head-unique}
use Rattle.kishu_record.specs.Entries.{entry_of}
use Rattle.kishu_record.proofs.reader.decode.Goals as goal

pub returns-then-not-has_pictures-clause-no_entry : goal.returns-then-not-has_pictures-clause-no_entry
returns-then-not-has_pictures-clause-no_entry c same a h =
    let entry = entry_of c.in-Some.entry in
    let found : c.args.head.now ≡ head_of entry = rw c.in-Some.is at c.in-Ok.ensures.found in
    let rules : KeepsRules entry = rw c.in-Some.is at c.in-Ok.ensures.rules in
    let is : IsEntry entry = record { rules = rules; short = omega (arith, ap length found) } in
    let one : entry ≡ a = head-unique entry a is h.entry (sym found ∙ h.is) in
    c.has_pictures.ensures.no c.if-not-has_pictures.true (ap (λ e. sum (lengths_in e)) one ∙ h.sum)

pub returns-clause-only : goal.returns-clause-only
returns-clause-only c a k same =
    let entry = entry_of c.in-Some.entry in
    let found : c.args.head.now ≡ head_of entry = rw c.in-Some.is at c.in-Ok.ensures.found in
    let rules : KeepsRules entry = rw c.in-Some.is at c.in-Ok.ensures.rules in
    let is : IsEntry entry = record { rules = rules; short = omega (arith, ap length found) } in
    head-unique entry a is k (sym found ∙ same)
