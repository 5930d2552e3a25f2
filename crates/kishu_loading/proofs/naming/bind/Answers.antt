use Rattle.std.proofs.Common.{◌∙◌, ◌^◌, ap}
use Rattle.kishu_meaning.specs.values.Values.{value_of, bind}
use Rattle.kishu_loading.proofs.Binding.{first_named, first_valid, bound_on}
use Rattle.kishu_loading.proofs.naming.bind.Goals as goal

pub restore-requires-clause-name : goal.restore-requires-clause-name
restore-requires-clause-name c =
    let at = c.loop-name in
    rw c.as_str.ensures.value
    (first_named c.args.all.items at.name-iterator.rest.items c.next.new.self.rest.items c.args.names.now.bound at.names.bound
    at.invariant.so_far c.in-Some.name c.in-Some.value c.in-Some.ensures.steps.0 (2 ^ 32) c.requires)

pub restore-requires-clause-value : goal.restore-requires-clause-value
restore-requires-clause-value c =
    let at = c.loop-name in
    first_valid c.args.all.items at.name-iterator.rest.items c.next.new.self.rest.items c.args.names.now.bound at.names.bound
    at.invariant.so_far c.in-Some.name c.in-Some.value c.in-Some.ensures.steps.0 (2 ^ 32) c.requires

pub loop-name-preserved : goal.loop-name-preserved
loop-name-preserved c =
    let at = c.loop-name in
    record {
      so_far = bound_on c.args.all.items at.name-iterator.rest.items c.next.new.self.rest.items c.args.names.now.bound at.names.bound
          at.invariant.so_far c.in-Some.name c.in-Some.value c.in-Some.ensures.steps.0 c.restore.new.self.bound
          (c.in_ok-restore.ensures.bound ∙ ap (λ x. bind x (value_of c.in-Some.value) at.names.bound) c.as_str.ensures.value);
      accessed = c.in_ok-restore.ensures.accessed ∙ at.invariant.accessed;
    }
