use Rattle.std.proofs.Common.{◌∙◌, ◌+◌, ◌∷◌, [], List, ℕ, ap, arith, drop, map, rules, subst, sym}
use Rattle.std.specs.Str.{chars}
use Rattle.std.specs.String.{string_bytes}
use Rattle.std.specs.declared.alloc.Global.{Global}
use Rattle.std.specs.declared.string.String.{String}
use Rattle.std.proofs.lemmas.List.{append-nil, drop_all, map-append}
use Rattle.std.proofs.lemmas.Result.{err_from_is_err_and}
use Rattle.kishu_meaning.specs.declared.value.Value as rust
use Rattle.kishu_meaning.specs.moments.Counting.{ended_in}
use Rattle.kishu_meaning.specs.moments.Moment.{Ends, and_then, fine}
use Rattle.kishu_meaning.specs.comparing.Show.{show_all_in}
use Rattle.kishu_meaning.specs.values.Values.{value_of}
use Rattle.kishu_items.specs.Gathering.{dropped}
use Rattle.kishu_machine.specs.Lists.{string_texts}
use Rattle.kishu_machine.specs.Machine.{Gives}
use Rattle.kishu_machine.proofs.Showing.{behind, texts_begun, texts_fault, texts_further}
use Rattle.kishu_machine.proofs.shows.all_texts.Goals as goal

pub loop-value-init : goal.loop-value-init
loop-value-init g c = record {
  told = λ s. rw c.new-texts.ensures.items (texts_begun s c.args.budget.now.left (show_all_in c.args.heap.now c.args.budget.now.depth (map value_of c.args.values.now) c.args.budget.now.left));
  left = omega arith;
  depth = search rules;
  least = omega arith;
  reads = omega arith;
}

pub returns-in_err-made-clause-gives : goal.returns-in_err-made-clause-gives
returns-in_err-made-clause-gives g c = λ s.
    let p = err_from_is_err_and c.from_residual.result c.from_residual.ensures.1 in
    let ns = c.args.heap.now in
    let d = c.args.budget.now.depth in
    let i = c.loop-value.value-index in
    let v = c.value-item.result in
    let n = c.loop-value.budget.left in
    let m = c.show-text.new.budget.left in
    let done = string_texts c.loop-value.texts in
    let rest = map value_of (drop (i + 1) c.args.values.now) in
    let here = ap (λ (vs : List rust.Value). and_then (ended_in (record s { left = n }) (show_all_in ns d (map value_of vs) n)) (behind done)) (sym (dropped c.args.values.now i v (omega arith) c.value-item.is)) ∙ c.loop-value.invariant.told s in
    let shown = rw c.loop-value.invariant.depth at c.show-text.ensures.gives in
    subst (λ (e : Ends (List (List ℕ))). Gives string_texts c.from_residual.result (record s { left = m }) e) here
    (rw (p.1, p.2) (texts_fault ns d s done n m (value_of v) rest c.in_err-made.field-0.0 (c.in_err-made.ensures.gives s m _ shown)))

pub returns-in_err-made-clause-sound : goal.returns-in_err-made-clause-sound
returns-in_err-made-clause-sound g c = λ n.
    let p = err_from_is_err_and c.from_residual.result c.from_residual.ensures.1 in
    rw (p.1, p.2) (c.in_err-made.ensures.sound n)

pub loop-value-preserved : goal.loop-value-preserved
loop-value-preserved g c = record {
  told = λ s.
      (let ns = c.args.heap.now in
      let d = c.args.budget.now.depth in
      let i = c.loop-value.value-index in
      let v = c.value-item.result in
      let n = c.loop-value.budget.left in
      let m = c.show-text.new.budget.left in
      let done = string_texts c.loop-value.texts in
      let text = chars (string_bytes c.in_ok-made.field-0) in
      let rest = map value_of (drop (i + 1) c.args.values.now) in
      let here = ap (λ (vs : List rust.Value). and_then (ended_in (record s { left = n }) (show_all_in ns d (map value_of vs) n)) (behind done)) (sym (dropped c.args.values.now i v (omega arith) c.value-item.is)) ∙ c.loop-value.invariant.told s in
      let shown = rw c.loop-value.invariant.depth at c.show-text.ensures.gives in
      let further = texts_further ns d s done n m (value_of v) rest text (c.in_ok-made.ensures.gives s m _ shown) in
      rw (c.in_ok-push.ensures.items, map-append (λ (t : String Global). chars (string_bytes t)) c.loop-value.texts.items (c.in_ok-made.field-0 ∷ [])) (sym further ∙ here));
  left = omega arith;
  depth = c.show-text.ensures.spends.0 ∙ c.loop-value.invariant.depth;
  least = omega arith;
  reads = omega arith;
}

pub returns-clause-gives : goal.returns-clause-gives
returns-clause-gives g c = λ s.
    let ns = c.args.heap.now in
    let d = c.args.budget.now.depth in
    let n = c.loop-value.budget.left in
    let done = string_texts c.loop-value.texts in
    let all = ap (λ (vs : List rust.Value). and_then (ended_in (record s { left = n }) (show_all_in ns d (map value_of vs) n)) (behind done)) (drop_all c.loop-value.value-index c.args.values.now (omega arith)) in
    sym (c.loop-value.invariant.told s) ∙ all ∙ ap (λ (l : List (List ℕ)). fine l (record s { left = n })) (append-nil done)
