use Rattle.std.proofs.Common.{◌≡◌, ◌∙◌, ◌∷◌, [], ◌++◌, length, sym, ap, map, arith, append-nil, subst, IsTrue, List}
use Rattle.std.specs.Vec.Iter.{into_iter_items}
use Rattle.std.specs.declared.alloc.Global.{Global}
use Rattle.std.specs.declared.rc.RcStr.{RcStr}
use Rattle.kishu_heap.specs.Cells.{attributes_of}
use Rattle.kishu_language.specs.grammar.Refusals.{all_differ}
use Rattle.kishu_meaning.specs.declared.value.Value as rust
use Rattle.kishu_calls.specs.Calls.{named_of}
use Rattle.kishu_calls.proofs.Attributes.{attribute_put, nothing_left}
use Rattle.kishu_calls.proofs.calls.attributes_of.Goals as goal

pub loop-name-preserved : goal.loop-name-preserved
loop-name-preserved c =
    let at = c.loop-name in
    let steps : into_iter_items at.name-iterator ≡ (c.in-Some.name, c.in-Some.value) ∷ into_iter_items c.next.new.self = c.in-Some.ensures.steps.0 in
    let differ = subst (λ (ks : List (RcStr Global × rust.Value)). IsTrue (all_differ (map (λ k. k.0) (named_of ks)))) (sym c.into_iter-name-iterator.ensures.into_iter_gives.0) c.requires.differ in
    record {
      told = attribute_put at.attributes.entries c.insert.new.self.entries c.in-Some.name c.in-Some.value (into_iter_items at.name-iterator) (into_iter_items c.next.new.self) _ c.in_ok-insert.ensures.entries steps at.invariant.told differ;
      left = let was = at.invariant.left in let gone = c.in-Some.ensures.steps.1 in let short = ap length steps in omega arith;
    }

pub loop-name-preserved-in_ok-insert : goal.loop-name-preserved-in_ok-insert
loop-name-preserved-in_ok-insert c =
    let at = c.loop-name in
    let steps : into_iter_items at.name-iterator ≡ (c.in-Some.name, c.in-Some.value) ∷ into_iter_items c.next.new.self = c.in-Some.ensures.steps.0 in
    let differ = subst (λ (ks : List (RcStr Global × rust.Value)). IsTrue (all_differ (map (λ k. k.0) (named_of ks)))) (sym c.into_iter-name-iterator.ensures.into_iter_gives.0) c.requires.differ in
    record {
      told = attribute_put at.attributes.entries c.insert.new.self.entries c.in-Some.name c.in-Some.value (into_iter_items at.name-iterator) (into_iter_items c.next.new.self) _ c.in_ok-insert.ensures.entries steps at.invariant.told differ;
      left = let was = at.invariant.left in let gone = c.in-Some.ensures.steps.1 in let short = ap length steps in omega arith;
    }

pub loop-name-preserved-in_ok-insert-2 : goal.loop-name-preserved-in_ok-insert-2
loop-name-preserved-in_ok-insert-2 c =
    let at = c.loop-name in
    let steps : into_iter_items at.name-iterator ≡ (c.in-Some.name, c.in-Some.value) ∷ into_iter_items c.next.new.self = c.in-Some.ensures.steps.0 in
    let differ = subst (λ (ks : List (RcStr Global × rust.Value)). IsTrue (all_differ (map (λ k. k.0) (named_of ks)))) (sym c.into_iter-name-iterator.ensures.into_iter_gives.0) c.requires.differ in
    record {
      told = attribute_put at.attributes.entries c.insert.new.self.entries c.in-Some.name c.in-Some.value (into_iter_items at.name-iterator) (into_iter_items c.next.new.self) _ c.in_ok-insert.ensures.entries steps at.invariant.told differ;
      left = let was = at.invariant.left in let gone = c.in-Some.ensures.steps.1 in let short = ap length steps in omega arith;
    }

pub returns : goal.returns
returns c =
    let at = c.loop-name in
    let none = c.in-None.ensures.steps in
    let empty : into_iter_items at.name-iterator ≡ [] = nothing_left _ (sym at.invariant.left ∙ none.0) in
    sym (append-nil (attributes_of at.attributes.entries)) ∙ sym (ap (λ its. attributes_of at.attributes.entries ++ named_of its) empty) ∙ at.invariant.told ∙ ap named_of c.into_iter-name-iterator.ensures.into_iter_gives.0
