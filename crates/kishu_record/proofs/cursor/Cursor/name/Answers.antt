use Rattle.std.proofs.Common.{◌≡◌, ◌++◌, ◌∙◌, Ok, ap, sym}
use Rattle.std.proofs.lemmas.Bool.{false≢true}
use Rattle.std.specs.Rc.{rc_str_bytes}
use Rattle.kishu_language.specs.tokens.Names.{is_name}
use Rattle.kishu_store.specs.EntryBytes.{name_bytes}
use Rattle.kishu_store_laws.specs.Cuts.{name-unique}
use Rattle.kishu_store_laws.specs.TitleLaws.{name_title}
use Rattle.kishu_record.proofs.cursor.Cursor.name.Goals as goal

pub returns-in_default-clause-none : goal.returns-in_default-clause-none
returns-in_default-clause-none c same b = c.in_ok-name.ensures.none (ap (λ o. Ok o) c.in_default.is) (record { item = b.item; rest = b.rest; is_fit = name_title b.item b.is_fit; is = b.is })

pub returns-then-not-is_name-clause-none : goal.returns-then-not-is_name-clause-none
returns-then-not-is_name-clause-none c same b =
    let name = rc_str_bytes c.in-Some.name in
    let found : c.args.self.now.rest.now ≡ name_bytes name ++ c.title.new.self.rest.now = rw c.in-Some.is at c.in_ok-name.ensures.found in
    let same_name : name ≡ b.item = (name-unique name b.item c.title.new.self.rest.now b.rest (sym found ∙ b.is)).0 in
    false≢true (sym c.if-not-is_name.true ∙ c.is_name.ensures ∙ ap is_name (c.as_str.ensures.value ∙ same_name) ∙ b.is_fit)
