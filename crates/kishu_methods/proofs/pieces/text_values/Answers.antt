use Rattle.std.proofs.Common.{◌≡◌, ◌∙◌, ◌∷◌, [], ◌++◌, length, sym, ap, map, arith, append-nil}
use Rattle.std.specs.Str.{chars}
use Rattle.std.specs.Vec.Iter.{into_iter_items}
use Rattle.kishu_meaning.specs.values.Texts.{code_points}
use Rattle.kishu_meaning.specs.values.Values.{text, value_of}
use Rattle.kishu_methods.proofs.Joins.{text_pushed, nothing_left}
use Rattle.kishu_methods.proofs.pieces.text_values.Goals as goal

pub loop-text-preserved : goal.loop-text-preserved
loop-text-preserved c =
    let at = c.loop-text in
    let steps : into_iter_items at.text-iterator ≡ c.in-Some.text ∷ into_iter_items c.next.new.self = c.in-Some.ensures.steps.0 in
    record {
      told = text_pushed at.values.items c.push.new.self.items c.in-Some.text _ (into_iter_items at.text-iterator) (into_iter_items c.next.new.self) _ c.in_ok-push.ensures.items (ap (λ b. text (chars b)) c.in_ok-from_string.ensures.ok) steps at.invariant.told;
      left = let was = at.invariant.left in let gone = c.in-Some.ensures.steps.1 in let short = ap length steps in omega arith;
    }

pub returns : goal.returns
returns c =
    let at = c.loop-text in
    let none = c.in-None.ensures.steps in
    let empty : into_iter_items at.text-iterator ≡ [] = nothing_left _ (sym at.invariant.left ∙ none.0) in
    sym (append-nil (map value_of at.values.items)) ∙ sym (ap (λ its. map value_of at.values.items ++ map text (code_points its)) empty) ∙ at.invariant.told ∙ ap (λ its. map text (code_points its)) c.into_iter-text-iterator.ensures.into_iter_gives.0
