use Rattle.std.proofs.Common.{subst, length, List, ℕ}
use Rattle.std.specs.Str.{chars}
use Rattle.kishu_meaning.specs.calls.Methods.{new_texts}
use Rattle.kishu_meaning.specs.values.Texts.{words}
use Rattle.kishu_meaning.specs.values.Values.{value_of}
use Rattle.kishu_methods.specs.Called.{moment_of, Gives}
use Rattle.kishu_methods.proofs.TextSteps.{listed}
use Rattle.kishu_methods.proofs.pieces.split_space.Goals as goal

pub returns-clause-gives : goal.returns-clause-gives
returns-clause-gives g c =
    let cs = chars c.args.text.now in
    let s = moment_of c.args.heap.now c.args.budget.now in
    let t = moment_of c.args.heap.now c.spend.new.budget in
    let last = moment_of c.new_texts.new.heap c.spend.new.budget in
    listed c.new_texts.result (new_texts (words cs)) c.count.result (length cs) c.in_ok-spend.field-0 s t last c.count.ensures (c.in_ok-spend.ensures.gives c.args.heap.now)
    (subst (λ (ps : List (List ℕ)). Gives value_of c.new_texts.result last (new_texts ps t)) c.in_ok-words.ensures (c.new_texts.ensures.gives c.spend.new.budget.left c.spend.new.budget.depth))
