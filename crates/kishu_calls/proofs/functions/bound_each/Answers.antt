use Rattle.std.proofs.Common.{◌≡◌, ◌∙◌, ◌<◌, ap, sym, arith, List, [], ◌∷◌, length, length-append, map, get_or}
use Rattle.kishu_machine.specs.Frames.{names_of}
use Rattle.kishu_meaning.specs.declared.value.Value as rust
use Rattle.kishu_language.specs.grammar.Refusals.{titles}
use Rattle.kishu_language.specs.trees.Tree.{parameter_of}
use Rattle.kishu_meaning.specs.values.Values.{value_of}
use Rattle.kishu_calls.proofs.Binding.{bound_onto, onto_none, onto_finished, popped}
use Rattle.kishu_calls.proofs.functions.bound_each.Goals as goal

pub loop-value-preserved : goal.loop-value-preserved
loop-value-preserved c =
    let params = c.args.params.now in
    let rest = c.pop.new.self.items in
    let v = c.in-Some.value in
    let p = c.index-params-len.result in
    let bound = names_of c.loop-value.bound.entries in
    let few : length rest < length params = omega (arith, ap length c.in-Some.ensures.items, length-append rest (v ∷ []), c.loop-value.invariant.few) in
    let place : c.len.result ≡ length rest = c.len.ensures ∙ c.pop.new.self.ok.0 in
    let item : p ≡ get_or params (length rest) p = c.index-params-len.is ∙ ap (λ k. get_or params k p) place in
    record {
      told = ap (bound_onto (titles (map parameter_of params)) (map value_of rest)) c.in_ok-bind_one.ensures ∙ sym (popped params rest v p bound few item) ∙ ap (λ (vs : List rust.Value). bound_onto (titles (map parameter_of params)) (map value_of vs) bound) (sym c.in-Some.ensures.items) ∙ c.loop-value.invariant.told;
      few = omega (arith, few);
    }

pub returns : goal.returns
returns c =
    let params = c.args.params.now in
    let none : length c.loop-value.values.items ≡ 0 = sym c.loop-value.values.ok.0 ∙ c.in_default.ensures.cases.0 in
    sym (onto_finished (titles (map parameter_of params)) c.loop-value.values.items (names_of c.loop-value.bound.entries) none)
    ∙ c.loop-value.invariant.told
    ∙ onto_none (titles (map parameter_of params)) (map value_of c.args.values.items)
