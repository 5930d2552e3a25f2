use Rattle.std.proofs.Common.{◌≡◌, ◌∙◌, sym, ap, true, false, map}
use Rattle.std.specs.List.{list_all}
use Rattle.std.proofs.lemmas.List.Folds.{list_all-map}
use Rattle.kishu_meaning.specs.items.Sorting.{is_number, is_text}
use Rattle.kishu_meaning.specs.values.Values.{value_of}
use Rattle.kishu_items.specs.Orders.{numbers_in_order, texts_in_order, others_in_order}
use Rattle.kishu_items.proofs.sorting.in_order.Goals as goal

pub returns-then-are_numbers : goal.returns-then-are_numbers
returns-then-are_numbers c =
    let items = c.args.items.items in
    let all : list_all is_number (map value_of items) ≡ true = list_all-map is_number value_of items ∙ (ap (list_all (λ v. is_number (value_of v))) (sym c.deref.ensures.value) ∙ (sym c.are_numbers.ensures ∙ c.if-are_numbers.true)) in
    numbers_in_order (map value_of items) _ all c.in_ok-sort_numbers.ensures

pub returns-then-are_texts : goal.returns-then-are_texts
returns-then-are_texts c =
    let items = c.args.items.items in
    let some : list_all is_number (map value_of items) ≡ false = list_all-map is_number value_of items ∙ (ap (list_all (λ v. is_number (value_of v))) (sym c.deref.ensures.value) ∙ (sym c.are_numbers.ensures ∙ c.if-are_numbers.false)) in
    let all : list_all is_text (map value_of items) ≡ true = list_all-map is_text value_of items ∙ (ap (list_all (λ v. is_text (value_of v))) (sym c.deref-2.ensures.value) ∙ (sym c.are_texts.ensures ∙ c.if-are_texts.true)) in
    texts_in_order (map value_of items) _ some all c.in_ok-sort_texts.ensures

pub returns : goal.returns
returns c =
    let items = c.args.items.items in
    let some : list_all is_number (map value_of items) ≡ false = list_all-map is_number value_of items ∙ (ap (list_all (λ v. is_number (value_of v))) (sym c.deref.ensures.value) ∙ (sym c.are_numbers.ensures ∙ c.if-are_numbers.false)) in
    let others : list_all is_text (map value_of items) ≡ false = list_all-map is_text value_of items ∙ (ap (list_all (λ v. is_text (value_of v))) (sym c.deref-2.ensures.value) ∙ (sym c.are_texts.ensures ∙ c.if-are_texts.false)) in
    others_in_order (map value_of items) some others
