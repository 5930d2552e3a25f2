use Rattle.std.proofs.Common.{◌≡◌, ◌≢◌, ◌+◌, ℕ, List, ◌++◌, [], length, Ok, Err, refl, ◌∙◌, ap, arith, rules}
use Rattle.std.proofs.lemmas.List.{length-append}
use Rattle.std.proofs.lemmas.Result.{err_from_is_err_and}
use Rattle.kishu_input.specs.declared.whole.InputStop.TheVariants.{TooLong}
use Rattle.kishu_input.specs.Lines.{ahead}
use Rattle.kishu_input.proofs.Reading.{goes_on-then, goes_on-taken, line_whole, line_stopped, line_last}
use Rattle.kishu_input.proofs.lines.LineReader.next.Goals as goal

-- Where more was taken, as many bytes are told, ahead or left as before.
same_count : (count before after : ℕ) (xs ys us vs : List ℕ) → count ≡ before + length xs + length ys → after ≡ before → xs ++ ys ≡ us ++ vs
    → count ≡ after + length us + length vs
same_count count before after xs ys us vs c b e = omega (arith, c, b, ap length e, length-append xs ys, length-append us vs)

-- So it is with bytes that were ahead and are told.
still_count : (count before after : ℕ) (xs ys vs : List ℕ) → after + length ys ≡ before + length xs → count ≡ before + length xs + length vs → count ≡ after + length ys + length vs
still_count count before after xs ys vs told c = omega arith

pub returns-in_err-has_more-clause-taken : goal.returns-in_err-has_more-clause-taken
returns-in_err-has_more-clause-taken g c t =
    let inv = c.loop-line.invariant in
    let more = c.in_err-has_more.ensures in
    same_count _ _ _ _ _ _ _ (inv.taken t) more.before (more.left (inv.tells ∙ t))

pub returns-in_err-read_on-clause-too_long : goal.returns-in_err-read_on-clause-too_long
returns-in_err-read_on-clause-too_long g c h t =
    let inv = c.loop-line.invariant in
    let more = c.in_ok-has_more.ensures in
    let p = err_from_is_err_and c.from_residual-in_err-read_on.result c.from_residual-in_err-read_on.ensures.1 in
    let e : c.in_err-read_on.field-0.0 ≡ TooLong = cc (p.1, p.2, h) in
    line_stopped _ _ _ _ _ (goes_on-taken _ _ _ _ _ _ _ _ more.before (more.left (inv.tells ∙ t)) (inv.read t))
    (c.in_err-read_on.ensures.too_long (ap Err e) (g.S.Source.source c.has_more.new.source).left)

pub returns-in_err-read_on-clause-taken : goal.returns-in_err-read_on-clause-taken
returns-in_err-read_on-clause-taken g c t =
    let inv = c.loop-line.invariant in
    let more = c.in_ok-has_more.ensures in
    still_count _ _ _ _ _ _ c.in_err-read_on.ensures.taken (same_count _ _ _ _ _ _ _ (inv.taken t) more.before (more.left (inv.tells ∙ t)))

pub returns-then-branch-2-clause-line : goal.returns-then-branch-2-clause-line
returns-then-branch-2-clause-line g c t =
    let inv = c.loop-line.invariant in
    let more = c.in_ok-has_more.ensures in
    line_whole _ _ _ _ _ _ _ _ (goes_on-taken _ _ _ _ _ _ _ _ more.before (more.left (inv.tells ∙ t)) (inv.read t))
    (c.in_ok-read_on.ensures.ends (ap Ok c.if-branch-2.true) (g.S.Source.source c.has_more.new.source).left)

pub returns-then-branch-2-clause-taken : goal.returns-then-branch-2-clause-taken
returns-then-branch-2-clause-taken g c t =
    let inv = c.loop-line.invariant in
    let more = c.in_ok-has_more.ensures in
    still_count _ _ _ _ _ _ c.in_ok-read_on.ensures.taken (same_count _ _ _ _ _ _ _ (inv.taken t) more.before (more.left (inv.tells ∙ t)))

pub loop-line-preserved : goal.loop-line-preserved
loop-line-preserved g c =
    let inv = c.loop-line.invariant in
    let more = c.in_ok-has_more.ensures in
    let on = c.in_ok-read_on.ensures in
    record {
      read = λ t.
          goes_on-then _ _ _ _ _ _ _ _ _ (goes_on-taken _ _ _ _ _ _ _ _ more.before (more.left (inv.tells ∙ t)) (inv.read t))
          (on.goes_on (ap Ok c.if-branch-2.false) (g.S.Source.source c.has_more.new.source).left);
      short = on.short inv.short;
      counted = omega (arith, inv.counted, more.before, on.counted (ap Ok c.if-branch-2.false));
      taken = λ t. still_count _ _ _ _ _ _ on.taken (same_count _ _ _ _ _ _ _ (inv.taken t) more.before (more.left (inv.tells ∙ t)));
      tells = more.tells ∙ inv.tells;
      faults = omega (arith, inv.faults, more.faults);
    }

pub returns-clause-line : goal.returns-clause-line
returns-clause-line g c t =
    let inv = c.loop-line.invariant in
    let more = c.in_ok-has_more.ensures in
    let end = more.end (ap Ok c.if-branch.false) (inv.tells ∙ t) in
    let over : ahead c.has_more.new.self ++ (g.S.Source.source c.has_more.new.source).left ≡ [] = rw (end.0, end.1) refl in
    let some : c.loop-line.line.items ≢ [] = search rules in
    line_last _ _ _ _ _ some over (goes_on-taken _ _ _ _ _ _ _ _ more.before (more.left (inv.tells ∙ t)) (inv.read t))
