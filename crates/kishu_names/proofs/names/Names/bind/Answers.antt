use Rattle.std.proofs.Common.{◌∙◌, sym, subst, IsTrue}
use Rattle.std.specs.List.{list_all}
use Rattle.std.specs.Rc.{rc_str_bytes}
use Rattle.kishu_language.specs.tokens.Names.{is_name}
use Rattle.kishu_meaning.specs.values.Values.{value_of}
use Rattle.kishu_names.specs.Namespace.{names_of}
use Rattle.kishu_names.specs.Record.{Rises, texts_of}
use Rattle.kishu_names.proofs.Kept.{good, stay_bound}
use Rattle.kishu_names.proofs.Records.{rises_with}
use Rattle.kishu_names.proofs.names.Names.bind.Goals as goal

pub invariant_of-self-2 : goal.invariant_of-self-2
invariant_of-self-2 c =
    let key = rc_str_bytes c.in_ok-key.key in
    let name = subst (λ x. IsTrue (is_name x)) (sym (c.in_ok-key.ensures.cases ∙ c.in_ok-text.ensures)) c.requires.name in
    let bound = stay_bound key (value_of c.args.value) (names_of c.self.inside.bound.entries) name c.requires.value c.self.invariant.0 in
    let order = subst (λ xs. Rises (texts_of xs)) (sym c.reserve.ensures.items) c.self.invariant.1 in
    (subst (λ ns. IsTrue (list_all good ns)) (sym c.in_ok-set.ensures.ok) bound, subst Rises (sym c.note_in_room.ensures) (rises_with (rc_str_bytes c.in_ok-text.text) (texts_of c.reserve.new.self.items) order))
