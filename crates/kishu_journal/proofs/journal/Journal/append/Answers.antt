use Rattle.std.proofs.Common.{◌++◌, ◌∷◌, [], ◌∙◌, ap, List, ℕ, arith}
use Rattle.kishu_store.specs.Holds.{framed}
use Rattle.kishu_journal.specs.Stands.{JournalState}
use Rattle.kishu_journal.proofs.Appending.{whole-next, stands-with, stop-next}
use Rattle.kishu_journal.proofs.journal.Journal.append.Goals as goal

pub returns-clause-records : goal.returns-clause-records
returns-clause-records g c told entries e next =
    let bytes_are = c.deref.ensures.value ∙ c.in-Ok.ensures ∙ ap (λ (b : List ℕ). framed b ++ (0 ∷ [])) next.body_is in
    let whole = whole-next c.args.self.now _ c.args.body.now entries e next c.place-place.result c.place-place.ensures.value _ bytes_are in
    c.in-Ok-write_record.ensures.written told next.stands.found next.next whole

pub returns-clause-stands : goal.returns-clause-stands
returns-clause-stands g c told entries e next =
    stands-with c.args.self.now _ c.args.body.now entries e next _ (returns-clause-records g c told entries e next) c.move_to.new.self (omega (arith, ap (λ (j : JournalState). j.place) c.move_to.ensures, c.place-place.ensures.value))

pub returns-clause-place : goal.returns-clause-place
returns-clause-place g c = omega (arith, ap (λ (j : JournalState). j.place) c.move_to.ensures, c.place-place.ensures.value)

pub returns-clause-stop_records : goal.returns-clause-stop_records
returns-clause-stop_records g c told only entries e next =
    let bytes_are = c.deref.ensures.value ∙ c.in-Ok.ensures ∙ ap (λ (b : List ℕ). framed b ++ (0 ∷ [])) next.body_is in
    let whole = whole-next c.args.self.now _ c.args.body.now entries e next c.place-place.result c.place-place.ensures.value _ bytes_are in
    c.write_record.ensures.stop told only next.stands.found next.next whole

pub returns-clause-stop : goal.returns-clause-stop
returns-clause-stop g c told only entries e next = stop-next c.args.self.now _ c.args.body.now entries e next _ _ (returns-clause-stop_records g c told only entries e next)

pub returns-in_default-write_record-clause-stop_records : goal.returns-in_default-write_record-clause-stop_records
returns-in_default-write_record-clause-stop_records g c told only entries e next =
    let bytes_are = c.deref.ensures.value ∙ c.in-Ok.ensures ∙ ap (λ (b : List ℕ). framed b ++ (0 ∷ [])) next.body_is in
    let whole = whole-next c.args.self.now _ c.args.body.now entries e next c.place-place.result c.place-place.ensures.value _ bytes_are in
    c.write_record.ensures.stop told only next.stands.found next.next whole

pub returns-in_default-write_record-clause-stop : goal.returns-in_default-write_record-clause-stop
returns-in_default-write_record-clause-stop g c told only entries e next =
    stop-next c.args.self.now _ c.args.body.now entries e next _ _ (returns-in_default-write_record-clause-stop_records g c told only entries e next)
