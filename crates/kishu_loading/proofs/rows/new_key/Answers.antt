use Rattle.std.proofs.Common.{◌∙◌, sym, ap, not}
use Rattle.std.specs.List.{list_any}
use Rattle.kishu_meaning.specs.values.Keys.{key_of, is_one}
use Rattle.kishu_loading.specs.Fronts.{front_of}
use Rattle.kishu_loading.specs.Moving.{one_key}
use Rattle.kishu_loading.specs.Seen.{keys_seen}
use Rattle.kishu_loading.proofs.Keyed.{found_seen}
use Rattle.kishu_loading.proofs.Texts.{keeps, breaks}
use Rattle.kishu_loading.proofs.rows.new_key.Goals as goal

pub returns-then-contains_key-clause-gives : goal.returns-then-contains_key-clause-gives
returns-then-contains_key-clause-gives c =
    let seen = sym (found_seen key_of is_one (key_of c.in_ok-key.key) c.args.entries.now.entries) ∙ sym c.contains_key.ensures
    ∙ c.if-contains_key.true in
    rw c.fault-fault.ensures (breaks (λ x. not (list_any (is_one x) (keys_seen c.args.entries.now.entries))) one_key (front_of c.args.cursor.now)
    (front_of c.key.new.cursor) _ c.in_ok-key.ensures.gives (ap not seen))

pub returns-clause-gives : goal.returns-clause-gives
returns-clause-gives c =
    let unseen = sym (found_seen key_of is_one (key_of c.in_ok-key.key) c.args.entries.now.entries) ∙ sym c.contains_key.ensures
    ∙ c.if-contains_key.false in
    keeps (λ x. not (list_any (is_one x) (keys_seen c.args.entries.now.entries))) one_key (front_of c.args.cursor.now)
    (front_of c.key.new.cursor) _ c.in_ok-key.ensures.gives (ap not unseen)

pub returns-clause-absent : goal.returns-clause-absent
returns-clause-absent c = sym (found_seen key_of is_one (key_of c.in_ok-key.key) c.args.entries.now.entries) ∙ sym c.contains_key.ensures
    ∙ c.if-contains_key.false
