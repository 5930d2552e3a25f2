use Rattle.std.proofs.Common.{◌≡◌, ◌++◌, ◌∙◌, length, map, ap, sym, subst, arith, eqb-true}
use Rattle.std.specs.List.{AllByRecursion}
use Rattle.std.proofs.lemmas.List.{length-map}
use Rattle.std.specs.Rc.{rc_str_bytes}
use Rattle.kishu_store.specs.EntryBytes.{group_bytes, name_bytes}
use Rattle.kishu_store.specs.Groups.{IsName, Rise}
use Rattle.kishu_store_laws.specs.Cuts.{many-cut, name-cut}
use Rattle.kishu_record.specs.Entries.{texts_of}
use Rattle.kishu_record.proofs.Lists.{same_item, name_full}
use Rattle.kishu_record.proofs.cursor.Cursor.group.Goals as goal

pub returns-then-is_empty-clause-none : goal.returns-then-is_empty-clause-none
returns-then-is_empty-clause-none c same b =
    let names = c.in-Some.names in
    let found : c.args.self.now.rest.now ≡ group_bytes (texts_of names) ++ c.names.new.self.rest.now = rw c.in-Some.is at c.in_ok-names.ensures.found in
    let fit : AllByRecursion IsName (texts_of names) = rw c.in-Some.is at c.in_ok-names.ensures.fit in
    let one : texts_of names ≡ b.item = (same_item group_bytes (AllByRecursion IsName) (many-cut name_bytes IsName name-cut name_full) c.args.self.now.rest.now c.names.new.self.rest.now b.rest (texts_of names) b.item c.requires fit b.is_fit.names found b.is).0 in
    let none : names.len ≡ 0 = eqb-true names.len 0 (sym c.is_empty.ensures ∙ c.if-is_empty.true) in
    absurd (omega (arith, none, names.ok.0, ap length one, length-map names.items rc_str_bytes, b.is_fit.some))

pub returns-then-not-names_rise-clause-none : goal.returns-then-not-names_rise-clause-none
returns-then-not-names_rise-clause-none c same b =
    let names = c.in-Some.names in
    let found : c.args.self.now.rest.now ≡ group_bytes (texts_of names) ++ c.names.new.self.rest.now = rw c.in-Some.is at c.in_ok-names.ensures.found in
    let fit : AllByRecursion IsName (texts_of names) = rw c.in-Some.is at c.in_ok-names.ensures.fit in
    let one : texts_of names ≡ b.item = (same_item group_bytes (AllByRecursion IsName) (many-cut name_bytes IsName name-cut name_full) c.args.self.now.rest.now c.names.new.self.rest.now b.rest (texts_of names) b.item c.requires fit b.is_fit.names found b.is).0 in
    c.names_rise.ensures.no c.if-not-names_rise.true (subst (λ l. Rise (map rc_str_bytes l)) (sym c.deref.ensures.value) (subst Rise (sym one) b.is_fit.rise))
