use Rattle.std.proofs.Common.{refl, true, length, Some, None}
use Rattle.kishu_meaning.specs.values.Values.{value_of}
use Rattle.kishu_machine.specs.Machine.{moment_of}
use Rattle.std.proofs.lemmas.Result.{err_from_is_err_and}
use Rattle.kishu_meaning.specs.values.Sound.{is_sound}
use Rattle.kishu_meaning.specs.values.Keys.{key_of}
use Rattle.kishu_meaning.specs.values.Kinds.{no_key}
use Rattle.kishu_meaning.specs.moments.Moment.{node_at, or_else}
use Rattle.kishu_meaning.specs.items.Subscripts.{node_item}
use Rattle.kishu_meaning.specs.declared.key.Key as rust_key
use Rattle.kishu_meaning.specs.declared.value.Value as rust
use Rattle.kishu_meaning.specs.values.Classes.{key_error_class}
use Rattle.kishu_machine.specs.Raising.{raises_with, sound_with}
use Rattle.kishu_access.proofs.Taking.{entry_taken, entry_fails}
use Rattle.kishu_access.proofs.Ends.{by_end, passed_on}
use Rattle.kishu_access.proofs.subscripts.dict_item.Goals as goal

pub returns-in_err-key-clause-gives : goal.returns-in_err-key-clause-gives
returns-in_err-key-clause-gives g c =
    let v = value_of c.args.value.now in
    let s = moment_of c.args.machine.now in
    let p = err_from_is_err_and c.from_residual.result c.from_residual.ensures.1 in
    rw (p.1, p.2) (entry_fails v (value_of c.args.index.now) s (moment_of c.key_of.new.machine) (node_at s.nodes v) c.in_err-key.field-0.0 c.requires.dict c.in_err-key.ensures.gives)

pub returns-in_err-key-clause-sound : goal.returns-in_err-key-clause-sound
returns-in_err-key-clause-sound g c =
    let n = length c.key_of.new.machine.heap in
    let p = err_from_is_err_and c.from_residual.result c.from_residual.ensures.1 in
    rw (p.1, p.2) (passed_on (λ (k : rust_key.Key). true) (λ (v : rust.Value). is_sound n (value_of v)) n c.in_err-key.field-0.0 c.in_err-key.ensures.sound)

pub returns-in-Some-clause-gives : goal.returns-in-Some-clause-gives
returns-in-Some-clause-gives g c =
    let v = value_of c.args.value.now in
    let s = moment_of c.args.machine.now in
    let there = rw (c.in_ok-key.ensures.heap, c.in-Some.is) at c.in_ok-found.ensures.value in
    entry_taken v (value_of c.args.index.now) s (moment_of c.key_of.new.machine) (node_at s.nodes v) (key_of c.in_ok-key.key) (Some (value_of c.in-Some.item)) c.requires.dict c.in_ok-key.ensures.gives there

pub returns-in-Some-clause-sound : goal.returns-in-Some-clause-sound
returns-in-Some-clause-sound g c = rw c.in-Some.is at c.in_ok-found.ensures.sound

pub returns-clause-gives : goal.returns-clause-gives
returns-clause-gives g c =
    let v = value_of c.args.value.now in
    let i = value_of c.args.index.now in
    let s = moment_of c.args.machine.now in
    let t = moment_of c.key_of.new.machine in
    let there = rw (c.in_ok-key.ensures.heap, c.in-None.is) at c.in_ok-found.ensures.value in
    by_end value_of c.no_key.result t (node_item v i (node_at s.nodes v) s) (or_else (no_key i) None t) (entry_taken v i s t (node_at s.nodes v) (key_of c.in_ok-key.key) None c.requires.dict c.in_ok-key.ensures.gives there) (raises_with value_of key_error_class i c.no_key.result t c.no_key.ensures)

pub returns-clause-sound : goal.returns-clause-sound
returns-clause-sound g c =
    rw c.in_ok-key.ensures.heap
    (let n = length c.args.machine.now.heap in
    sound_with (λ v. is_sound n (value_of v)) n key_error_class (value_of c.args.index.now) c.no_key.result c.no_key.ensures refl c.requires.sound_index)
