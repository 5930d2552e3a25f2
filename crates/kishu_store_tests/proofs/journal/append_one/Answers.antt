use Rattle.std.proofs.Common.{◌≡◌, ℕ, List, [], refl, sym, subst, arith}
use Rattle.std.proofs.lemmas.Bool.Decides.{nat_tests}
use Rattle.std.proofs.lemmas.List.{nil_from_length}
use Rattle.kishu_record.specs.declared.entry.Entry as program
use Rattle.kishu_store.specs.Histories.{Follows}
use Rattle.kishu_store.specs.Holds.{history_of}
use Rattle.kishu_journal.specs.Found.{entries_of}
use Rattle.kishu_store_tests.proofs.Pictured.{pictured, two_bytes, two_bytes-body, two_bytes-fits, two_bytes-rules}
use Rattle.kishu_store_tests.proofs.journal.append_one.Goals as goal

pub append-requires-clause-next : goal.append-requires-clause-next
append-requires-clause-next g c told =
    let size : c.in_ok-journal.found.len ≡ 0 = grind (arith, nat_tests, c.if-not-is_empty.false, c.is_empty.ensures) in
    let none : c.in_ok-journal.found.items ≡ [] = nil_from_length c.in_ok-journal.found.items (omega (arith, size, c.in_ok-journal.found.ok.0)) in (
      entries_of c.in_ok-journal.found.items,
      pictured 2,
      record {
        stands = c.in_ok-journal.ensures.stands told;
        fits = subst (λ (ps : List (ℕ × program.Entry)). Follows (history_of (entries_of ps)) (pictured 2)) (sym none) two_bytes-fits;
        next = two_bytes;
        says = refl;
        rules = two_bytes-rules;
        body_is = two_bytes-body;
      },
    )
