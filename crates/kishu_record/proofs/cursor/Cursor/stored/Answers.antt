use Rattle.std.proofs.Common.{◌≡◌, ◌++◌, map, sym, subst}
use Rattle.std.specs.List.{AllByRecursion}
use Rattle.kishu_store.specs.EntryBytes.{many, stored_bytes}
use Rattle.kishu_store.specs.Groups.{IsStored, Rise, first_name}
use Rattle.kishu_store_laws.specs.Cuts.{all_stored-cut}
use Rattle.kishu_record.specs.Entries.{stored_of, all_stored_of, first_stored}
use Rattle.kishu_record.proofs.Lists.{same_item, map_twice}
use Rattle.kishu_record.proofs.cursor.Cursor.stored.Goals as goal

pub returns-then-not-stored_rise-clause-none : goal.returns-then-not-stored_rise-clause-none
returns-then-not-stored_rise-clause-none c same b =
    let read = all_stored_of c.in-Some.stored in
    let left = c.stored_list.new.self.rest.now in
    let found : c.args.self.now.rest.now ≡ many stored_bytes read ++ left = rw c.in-Some.is at c.in_ok-stored.ensures.found in
    let fit : AllByRecursion IsStored read = rw c.in-Some.is at c.in_ok-stored.ensures.fit in
    let one : read ≡ b.item = (same_item (many stored_bytes) (AllByRecursion IsStored) all_stored-cut c.args.self.now.rest.now left b.rest read b.item c.requires fit b.is_fit.each found b.is).0 in
    let rise : Rise (map (λ s. first_name s.0) read) = subst (λ gs. Rise (map (λ s. first_name s.0) gs)) (sym one) b.is_fit.rise in
    c.stored_rise.ensures.no c.if-not-stored_rise.true (subst (λ l. Rise (map first_stored l)) (sym c.deref.ensures.value) (subst Rise (map_twice (λ s. first_name s.0) stored_of c.in-Some.stored.items) rise))

pub returns-clause-fit : goal.returns-clause-fit
returns-clause-fit c =
    let fit : AllByRecursion IsStored (all_stored_of c.in-Some.stored) = rw c.in-Some.is at c.in_ok-stored.ensures.fit in
    let rise : Rise (map first_stored c.in-Some.stored.items) = subst (λ l. Rise (map first_stored l)) c.deref.ensures.value (c.stored_rise.ensures.yes c.if-not-stored_rise.false) in
    record { each = fit; rise = subst Rise (sym (map_twice (λ s. first_name s.0) stored_of c.in-Some.stored.items)) rise }
