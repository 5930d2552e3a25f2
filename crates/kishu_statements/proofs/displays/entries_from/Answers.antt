use Rattle.std.proofs.Common.{◌≡◌, ◌∙◌, sym, subst, IsTrue, List, [], ◌∷◌, length, ap, arith, suc}
use Rattle.std.specs.List.{list_all}
use Rattle.kishu_meaning.specs.values.Keys.{Key}
use Rattle.kishu_meaning.specs.cells.Meaning.{with_pairs}
use Rattle.kishu_meaning.specs.values.Sound.{is_sound}
use Rattle.kishu_meaning.specs.values.Values.{Node, Value}
use Rattle.kishu_heap.specs.Cells.{entries_of}
use Rattle.kishu_machine.specs.Composing.{grown_on}
use Rattle.kishu_machine.specs.Lists.{are_sound_pairs, value_pairs}
use Rattle.kishu_machine.specs.Machine.{moment_of}
use Rattle.kishu_statements.proofs.Displaying.{seen_pairs, entry_told, entry_others, entry_sound}
use Rattle.kishu_statements.proofs.displays.entries_from.Goals as goal

pub loop-key-preserved-in_ok-insert : goal.loop-key-preserved-in_ok-insert
loop-key-preserved-in_ok-insert g c =
    let at = c.loop-key in
    let items = at.key-iterator.rest.items in
    let rest = c.next.new.self.rest.items in
    let k = c.in-Some.key in
    let v = c.in-Some.value in
    let j = c.in_ok-key.key in
    let es = at.entries.entries in
    let new = c.insert.new.self.entries in
    let next : items ≡ (k, v) ∷ rest = c.in-Some.ensures.steps.0 in
    let made = c.in_ok-insert.ensures.entries in
    let key = c.in_ok-key.ensures in
    let n = length at.machine.heap in
    record {
      told = entry_told items rest k v j es new next made (with_pairs (value_pairs c.args.pairs) [] (moment_of c.args.machine.now)) (moment_of at.machine) (moment_of c.key_of.new.machine) at.invariant.told key.gives;
      others = subst (λ (h : List Node). IsTrue (are_sound_pairs (length h) (seen_pairs rest))) (sym key.heap) (entry_others items rest k v j es new next made n at.invariant.others);
      sound = subst (λ (h : List Node). IsTrue (list_all (λ (e : Key × Value). is_sound (length h) e.1) (entries_of new))) (sym key.heap) (entry_sound items rest k v j es new next made n at.invariant.others at.invariant.sound);
      kept = grown_on 0 0 c.args.machine.now at.machine c.key_of.new.machine c.args.steps.now at.steps c.key_of.new.steps at.invariant.kept key.costs.kept;
      reads = let one : length items ≡ suc (length rest) = ap length next in omega (arith, one, at.invariant.reads, key.costs.reads);
      heap = key.heap ∙ at.invariant.heap;
    }

pub loop-key-preserved : goal.loop-key-preserved
loop-key-preserved g c =
    let at = c.loop-key in
    let items = at.key-iterator.rest.items in
    let rest = c.next.new.self.rest.items in
    let k = c.in-Some.key in
    let v = c.in-Some.value in
    let j = c.in_ok-key.key in
    let es = at.entries.entries in
    let new = c.insert.new.self.entries in
    let next : items ≡ (k, v) ∷ rest = c.in-Some.ensures.steps.0 in
    let made = c.in_ok-insert.ensures.entries in
    let key = c.in_ok-key.ensures in
    let n = length at.machine.heap in
    record {
      told = entry_told items rest k v j es new next made (with_pairs (value_pairs c.args.pairs) [] (moment_of c.args.machine.now)) (moment_of at.machine) (moment_of c.key_of.new.machine) at.invariant.told key.gives;
      others = subst (λ (h : List Node). IsTrue (are_sound_pairs (length h) (seen_pairs rest))) (sym key.heap) (entry_others items rest k v j es new next made n at.invariant.others);
      sound = subst (λ (h : List Node). IsTrue (list_all (λ (e : Key × Value). is_sound (length h) e.1) (entries_of new))) (sym key.heap) (entry_sound items rest k v j es new next made n at.invariant.others at.invariant.sound);
      kept = grown_on 0 0 c.args.machine.now at.machine c.key_of.new.machine c.args.steps.now at.steps c.key_of.new.steps at.invariant.kept key.costs.kept;
      reads = let one : length items ≡ suc (length rest) = ap length next in omega (arith, one, at.invariant.reads, key.costs.reads);
      heap = key.heap ∙ at.invariant.heap;
    }
