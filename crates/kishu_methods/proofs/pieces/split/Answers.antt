use Rattle.std.proofs.Common.{◌≡◌, ◌∙◌, ap, sym, subst, length, List, ℕ}
use Rattle.std.specs.List.{sum_by}
use Rattle.std.specs.Str.{chars}
use Rattle.std.proofs.lemmas.Result.{err_from_is_err_and}
use Rattle.std.proofs.lemmas.Str.{chars-nil}
use Rattle.kishu_meaning.specs.calls.Methods.{new_texts}
use Rattle.kishu_meaning.specs.moments.Moment.{Ends}
use Rattle.kishu_meaning.specs.values.Texts.{pieces, replaced}
use Rattle.kishu_meaning.specs.values.Values.{Value, value_of}
use Rattle.kishu_methods.specs.Called.{moment_of, Gives}
use Rattle.kishu_methods.proofs.PieceLengths.{length-unjoined}
use Rattle.kishu_methods.proofs.TextSteps.{is_text, passed_on, split_taken, split_uncut, split_unmade, split_unsearched}
use Rattle.kishu_methods.proofs.pieces.split.Goals as goal

pub returns-in_err-check_separator-clause-gives : goal.returns-in_err-check_separator-clause-gives
returns-in_err-check_separator-clause-gives g c =
    let s = moment_of c.args.heap.now c.args.budget.now in
    passed_on c.from_residual.result c.in_err-check_separator.field-0.0 s _ (err_from_is_err_and c.from_residual.result c.from_residual.ensures.1)
    (split_uncut (value_of c.args.argument.now) (chars c.in-Some.part.now) (chars c.args.text.now) c.in_err-check_separator.field-0.0 s c.in-Some.ensures (c.in_err-check_separator.ensures.gives s))

pub returns-in_err-spend_search-clause-gives : goal.returns-in_err-spend_search-clause-gives
returns-in_err-spend_search-clause-gives g c =
    let s = moment_of c.args.heap.now c.args.budget.now in
    let t = moment_of c.args.heap.now c.spend_search.new.budget in
    passed_on c.from_residual-in_err-spend_search.result c.in_err-spend_search.field-0.0 t _ (err_from_is_err_and c.from_residual-in_err-spend_search.result c.from_residual-in_err-spend_search.ensures.1)
    (split_unsearched (value_of c.args.argument.now) (chars c.in-Some.part.now) (chars c.args.text.now) c.in_err-spend_search.field-0.0 c.in_ok-check_separator.field-0 s t c.in-Some.ensures
    (c.in_ok-check_separator.ensures.gives s) (c.in_err-spend_search.ensures.gives c.args.heap.now))

pub returns-in_err-spend-clause-gives : goal.returns-in_err-spend-clause-gives
returns-in_err-spend-clause-gives g c =
    let part = chars c.in-Some.part.now in
    let cs = chars c.args.text.now in
    let s = moment_of c.args.heap.now c.args.budget.now in
    let t = moment_of c.args.heap.now c.spend_search.new.budget in
    let last = moment_of c.args.heap.now c.spend.new.budget in
    let size : c.replaced_length.result ≡ sum_by length (pieces part cs) = c.replaced_length.ensures ∙ ap (λ (b : List ℕ). length (replaced cs part b)) chars-nil ∙ length-unjoined (pieces part cs) in
    passed_on c.from_residual-in_err-spend.result c.in_err-spend.field-0.0 last _ (err_from_is_err_and c.from_residual-in_err-spend.result c.from_residual-in_err-spend.ensures.1)
    (split_unmade (value_of c.args.argument.now) part cs c.replaced_length.result c.in_err-spend.field-0.0 c.in_ok-check_separator.field-0 c.in_ok-spend_search.field-0 s t last c.in-Some.ensures
    (c.in_ok-check_separator.ensures.gives s) (c.in_ok-spend_search.ensures.gives c.args.heap.now) size (c.in_err-spend.ensures.gives c.args.heap.now))

pub returns-clause-gives : goal.returns-clause-gives
returns-clause-gives g c =
    let part = chars c.in-Some.part.now in
    let cs = chars c.args.text.now in
    let v = value_of c.args.argument.now in
    let s = moment_of c.args.heap.now c.args.budget.now in
    let t = moment_of c.args.heap.now c.spend_search.new.budget in
    let made = moment_of c.args.heap.now c.spend.new.budget in
    let last = moment_of c.new_texts.new.heap c.spend.new.budget in
    let size : c.replaced_length.result ≡ sum_by length (pieces part cs) = c.replaced_length.ensures ∙ ap (λ (b : List ℕ). length (replaced cs part b)) chars-nil ∙ length-unjoined (pieces part cs) in
    let taken = split_taken v part cs c.replaced_length.result c.in_ok-check_separator.field-0 c.in_ok-spend_search.field-0 c.in_ok-spend.field-0 s t made (is_text v part c.in-Some.ensures)
    (c.in_ok-check_separator.ensures.gives s) (c.in_ok-spend_search.ensures.gives c.args.heap.now) size (c.in_ok-spend.ensures.gives c.args.heap.now) in
    subst (λ (e : Ends Value). Gives value_of c.new_texts.result last e) (sym taken)
    (subst (λ (ps : List (List ℕ)). Gives value_of c.new_texts.result last (new_texts ps made)) c.in_ok-pieces.ensures.pieces (c.new_texts.ensures.gives c.spend.new.budget.left c.spend.new.budget.depth))
