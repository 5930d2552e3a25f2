use Rattle.std.proofs.Common.{◌≡◌, ◌∙◌, ◌++◌, refl, ap, sym, arith, ℕ, true, false, List, length, map, Option}
use Rattle.std.specs.Prelude.{codes, decimal, unwrap_or, ◌==◌}
use Rattle.kishu_meaning.specs.values.Values.{value_of, Node}
use Rattle.kishu_meaning.specs.values.Sound.{are_sound}
use Rattle.kishu_machine.specs.Machine.{moment_of}
use Rattle.std.proofs.lemmas.Result.{err_from_is_err_and}
use Rattle.std.proofs.lemmas.Bool.Decides.{nat_tests}
use Rattle.std.specs.declared.alloc.Global.{Global}
use Rattle.std.specs.declared.vec.Vec.{Vec}
use Rattle.kishu_meaning.specs.declared.value.Value as rust
use Rattle.kishu_meaning.specs.items.Sequences.{count_in}
use Rattle.kishu_meaning.specs.items.Walks.{unpacked}
use Rattle.kishu_meaning.specs.values.Classes.{value_error_class}
use Rattle.kishu_machine.specs.Raising.{raises_text, sound_text}
use Rattle.kishu_access.proofs.Ends.{by_end, passed_on, unwalked, unwalked_sound}
use Rattle.kishu_access.proofs.Walking.{not_unpacked, unpack_fails, unpacked_items, unpacked_wrong}
use Rattle.kishu_access.proofs.walks.unpacked.Goals as goal

pub returns-in_default-clause-gives : goal.returns-in_default-clause-gives
returns-in_default-clause-gives g c =
    let v = value_of c.args.value.now in
    let s = moment_of c.args.machine.now in
    by_end (λ v. map value_of v.items) c.not_iterable.result s (unpacked c.args.targets v s) _ (not_unpacked c.args.targets v s (sym c.in_default.ensures.count)) (unwalked s c.not_iterable.result v (λ v. map value_of v.items) c.not_iterable.ensures.gives)

pub returns-in_default-clause-sound : goal.returns-in_default-clause-sound
returns-in_default-clause-sound g c =
    let n = length c.args.machine.now.heap in
    unwalked_sound (moment_of c.args.machine.now) c.not_iterable.result (value_of c.args.value.now) (λ v. are_sound n (map value_of v.items)) n c.not_iterable.ensures.gives

pub returns-in_err-spend-clause-gives : goal.returns-in_err-spend-clause-gives
returns-in_err-spend-clause-gives g c =
    let v = value_of c.args.value.now in
    let s = moment_of c.args.machine.now in
    let p = err_from_is_err_and c.from_residual.result c.from_residual.ensures.1 in
    rw (p.1, p.2) (unpack_fails c.args.targets v s c.in-Some.count c.in_err-spend.field-0.0 (moment_of c.spend.new.machine) (sym c.in-Some.ensures.count) c.in_err-spend.ensures.gives)

pub returns-in_err-spend-clause-sound : goal.returns-in_err-spend-clause-sound
returns-in_err-spend-clause-sound g c =
    let n = length c.spend.new.machine.heap in
    let p = err_from_is_err_and c.from_residual.result c.from_residual.ensures.1 in
    rw (p.1, p.2) (passed_on (λ (u : Unit {0}). true) (λ (v : Vec rust.Value Global). are_sound n (map value_of v.items)) n c.in_err-spend.field-0.0 c.in_err-spend.ensures.sound)

pub items_of-requires-clause-sound_value : goal.items_of-requires-clause-sound_value
items_of-requires-clause-sound_value g c = rw c.in_ok-spend.ensures.heap c.requires.sound_value

pub items_of-requires-clause-room : goal.items_of-requires-clause-room
items_of-requires-clause-room g c =
    let v = value_of c.args.value.now in
    let long = ap length c.in_ok-spend.ensures.heap in
    let many = ap (λ (ns : List Node). unwrap_or (count_in ns v) 0) c.in_ok-spend.ensures.heap ∙ ap (λ (o : Option ℕ). unwrap_or o 0) (sym c.in-Some.ensures.count) in
    omega (arith, long, many, c.in_ok-spend.ensures.taken, c.requires.room)

pub returns-then-fits-clause-gives : goal.returns-then-fits-clause-gives
returns-then-fits-clause-gives g c =
    let v = value_of c.args.value.now in
    let s = moment_of c.args.machine.now in
    let same : (c.in-Some.count == c.args.targets) ≡ true = grind (arith, nat_tests, c.if-fits.true) in
    by_end (λ v. map value_of v.items) c.items_of.result (moment_of c.items_of.new.machine) (unpacked c.args.targets v s) _ (unpacked_items c.args.targets v s c.in-Some.count (moment_of c.spend.new.machine) (sym c.in-Some.ensures.count) c.in_ok-spend.ensures.gives same) c.items_of.ensures.gives

pub returns-then-fits-clause-costs : goal.returns-then-fits-clause-costs
returns-then-fits-clause-costs g c =
    let v = value_of c.args.value.now in
    let long = ap length c.in_ok-spend.ensures.heap in
    let many = ap (λ (ns : List Node). unwrap_or (count_in ns v) 0) c.in_ok-spend.ensures.heap ∙ ap (λ (o : Option ℕ). unwrap_or o 0) (sym c.in-Some.ensures.count) in
    (let k = c.items_of.ensures.costs.kept in
    record { kept = (omega (arith, long, k.0), omega (arith, long, many, c.in_ok-spend.ensures.taken, k.1), omega (arith, k.2, c.in_ok-spend.ensures.kept.2)); reads = omega arith })

pub returns-clause-gives : goal.returns-clause-gives
returns-clause-gives g c =
    let v = value_of c.args.value.now in
    let s = moment_of c.args.machine.now in
    let t = moment_of c.spend.new.machine in
    let other : (c.in-Some.count == c.args.targets) ≡ false = grind (arith, nat_tests, c.if-fits.false) in
    by_end (λ v. map value_of v.items) c.bad_count.result t (unpacked c.args.targets v s) _ (unpacked_wrong c.args.targets v s c.in-Some.count t (sym c.in-Some.ensures.count) c.in_ok-spend.ensures.gives other) (raises_text (λ v. map value_of v.items) value_error_class (codes "cannot unpack into " ++ decimal c.args.targets) c.bad_count.result t c.bad_count.ensures)

pub returns-clause-sound : goal.returns-clause-sound
returns-clause-sound g c =
    let n = length c.spend.new.machine.heap in
    sound_text (λ v. are_sound n (map value_of v.items)) n value_error_class (codes "cannot unpack into " ++ decimal c.args.targets) c.bad_count.result c.bad_count.ensures refl
