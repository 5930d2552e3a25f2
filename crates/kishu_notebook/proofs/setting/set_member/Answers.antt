use Rattle.std.proofs.Common.{sym, ap, ◌∙◌, refl}
use Rattle.serde_json.specs.View.{view, members_view}
use Rattle.kishu_notebook.proofs.Changes.{written, unwritten}
use Rattle.kishu_notebook.proofs.setting.set_member.Goals as goal

pub returns-in-Some : goal.returns-in-Some
returns-in-Some c =
    ap members_view (c.get_mut.follows.holds c.args.value).0
    ∙ written c.args.key.now (λ _. view c.args.value) c.args.members.now.entries c.in-Some.place.now c.args.value (sym c.in-Some.ensures.value) refl

pub returns-in_default : goal.returns-in_default
returns-in_default c =
    let none = sym (rw c.in_default.is at c.get_mut.ensures.value) in
    ap (λ m. members_view m.entries) c.get_mut.follows.holds-at-none ∙ sym (unwritten c.args.key.now (λ _. view c.args.value) c.args.members.now.entries none)
