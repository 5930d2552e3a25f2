use Rattle.std.proofs.Common.{◌≡◌, ◌∙◌, ◌++◌, sym, subst, []}
use Rattle.std.proofs.lemmas.List.{append-nil}
use Rattle.std.proofs.lemmas.Map.Iter.{rest_all}
use Rattle.std.specs.Map.{keys_of}
use Rattle.std.specs.Map.Iter.{deref}
use Rattle.kishu_names.specs.Record.{texts_of}
use Rattle.kishu_names.proofs.Records.{names_of_entries, rises_entries}
use Rattle.kishu_names.proofs.names.all_names.Goals as goal

pub returns-clause-names : goal.returns-clause-names
returns-clause-names c =
    let entries = c.args.bound.now.entries in
    let names = texts_of c.loop-name.names.items in
    let over : c.loop-name.name-iterator ≡ [] = rest_all deref _ _ _ c.in-None.is c.next.ensures.steps in
    sym (append-nil names) ∙ subst (λ left. names ++ texts_of left ≡ texts_of (keys_of entries)) over c.loop-name.invariant ∙ sym (names_of_entries entries)

pub returns-clause-order : goal.returns-clause-order
returns-clause-order c = rises_entries c.args.bound.now.entries c.keys-name-items.ensures.ordered

pub returns-in_err-clone-clause-order : goal.returns-in_err-clone-clause-order
returns-in_err-clone-clause-order c = rises_entries c.args.bound.now.entries c.keys-name-items.ensures.ordered

pub returns-in_err-push-clause-order : goal.returns-in_err-push-clause-order
returns-in_err-push-clause-order c = rises_entries c.args.bound.now.entries c.keys-name-items.ensures.ordered
