use Rattle.std.proofs.Common.{◌∙◌, sym, ap, not}
use Rattle.std.specs.List.{list_any}
use Rattle.std.specs.Rc.{rc_str_bytes}
use Rattle.std.specs.Str.{bytes_eq}
use Rattle.kishu_loading.specs.Fronts.{front_of}
use Rattle.kishu_loading.specs.Moving.{attribute}
use Rattle.kishu_loading.specs.Seen.{names_seen}
use Rattle.kishu_loading.proofs.Keyed.{found_seen}
use Rattle.kishu_loading.proofs.Texts.{keeps, breaks}
use Rattle.kishu_loading.proofs.rows.new_attribute.Goals as goal

pub returns-then-contains_key-clause-gives : goal.returns-then-contains_key-clause-gives
returns-then-contains_key-clause-gives c =
    let seen =
    ap (λ x. list_any (bytes_eq x) (names_seen c.args.attributes.now.entries)) (sym c.as_str.ensures.value)
    ∙ sym (found_seen rc_str_bytes bytes_eq c.as_str.result.now c.args.attributes.now.entries) ∙ sym c.contains_key.ensures
    ∙ c.if-contains_key.true in
    rw c.fault-fault.ensures (breaks (λ x. not (list_any (bytes_eq x) (names_seen c.args.attributes.now.entries))) attribute
    (front_of c.args.cursor.now) (front_of c.attribute.new.self) _ c.in_ok-name.ensures.gives (ap not seen))

pub returns-clause-gives : goal.returns-clause-gives
returns-clause-gives c =
    let unseen =
    ap (λ x. list_any (bytes_eq x) (names_seen c.args.attributes.now.entries)) (sym c.as_str.ensures.value)
    ∙ sym (found_seen rc_str_bytes bytes_eq c.as_str.result.now c.args.attributes.now.entries) ∙ sym c.contains_key.ensures
    ∙ c.if-contains_key.false in
    keeps (λ x. not (list_any (bytes_eq x) (names_seen c.args.attributes.now.entries))) attribute (front_of c.args.cursor.now)
    (front_of c.attribute.new.self) _ c.in_ok-name.ensures.gives (ap not unseen)

pub returns-clause-absent : goal.returns-clause-absent
returns-clause-absent c =
    ap (λ x. list_any (bytes_eq x) (names_seen c.args.attributes.now.entries)) (sym c.as_str.ensures.value)
    ∙ sym (found_seen rc_str_bytes bytes_eq c.as_str.result.now c.args.attributes.now.entries) ∙ sym c.contains_key.ensures ∙ c.if-contains_key.false
