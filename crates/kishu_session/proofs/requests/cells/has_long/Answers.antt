use Rattle.std.proofs.Common.{◌+◌, List, ℕ, drop, sym, ◌∙◌, ap, arith}
use Rattle.std.proofs.lemmas.List.{drop_all, length-map}
use Rattle.std.specs.List.{list_any}
use Rattle.std.specs.Rc.{rc_str_bytes}
use Rattle.kishu_model.specs.requests.Cells.{is_too_long}
use Rattle.kishu_session.specs.TextLists.{texts_of}
use Rattle.kishu_session.proofs.Items.{drop-map}
use Rattle.kishu_session.proofs.LongTexts.{long-rest, long-here}
use Rattle.kishu_session.proofs.requests.cells.has_long.Goals as goal

pub loop-text-preserved : goal.loop-text-preserved
loop-text-preserved c =
    let here = drop-map rc_str_bytes c.args.texts.now c.loop-text.text-index c.text-item.result c.loop-text-test.true c.text-item.is in
    let t = rc_str_bytes c.text-item.result in
    let rest = drop (c.loop-text.text-index + 1) (texts_of c.args.texts.now) in
    sym (long-rest t rest (omega (arith, c.len.ensures, c.if-len-gt-LONGEST_TEXT.false)))
    ∙ ap (λ (l : List (List ℕ)). list_any is_too_long l) (sym here)
    ∙ c.loop-text.invariant

pub returns-then-len-gt-LONGEST_TEXT : goal.returns-then-len-gt-LONGEST_TEXT
returns-then-len-gt-LONGEST_TEXT c =
    let here = drop-map rc_str_bytes c.args.texts.now c.loop-text.text-index c.text-item.result c.loop-text-test.true c.text-item.is in
    let t = rc_str_bytes c.text-item.result in
    let rest = drop (c.loop-text.text-index + 1) (texts_of c.args.texts.now) in
    sym (long-here t rest (omega (arith, c.len.ensures, c.if-len-gt-LONGEST_TEXT.true)))
    ∙ ap (λ (l : List (List ℕ)). list_any is_too_long l) (sym here)
    ∙ c.loop-text.invariant

pub returns : goal.returns
returns c =
    let none = drop_all c.loop-text.text-index (texts_of c.args.texts.now) (omega (arith, c.loop-text-test.false, length-map c.args.texts.now rc_str_bytes)) in
    ap (λ (l : List (List ℕ)). list_any is_too_long l) (sym none) ∙ c.loop-text.invariant
