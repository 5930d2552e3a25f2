use Rattle.std.proofs.Common.{ℕ, [], ◌∷◌, sym, ap, ◌∙◌, subst, arith, true, false}
use Rattle.std.specs.declared.result.Result.TheVariants.{Ok, Err}
use Rattle.kishu_cli.specs.declared.call.Call.TheVariants.{Lock, Length}
use Rattle.kishu_cli.specs.declared.real.Store.TheVariants.{Unopened, New, Open, Failed}
use Rattle.kishu_cli.specs.Calls.{History}
use Rattle.kishu_cli.specs.Adapters.{Opens, not_opened, not_free, no_length, opened_new, opened_old}
use Rattle.kishu_cli.proofs.real.open_store.Goals as goal

pub returns-in-Err : goal.returns-in-Err
returns-in-Err g c =
    let old = g.S.System.history c.args.system.now in
    subst (λ (new : History). Opens Unopened old Failed new false) (sym c.in-Err.ensures) (not_opened old _)

pub returns-then-not-is_free : goal.returns-then-not-is_free
returns-then-not-is_free g c =
    let old = g.S.System.history c.args.system.now in let lock = c.lock-answer.result in
    let is = c.lock-answer.ensures ∙ ap (λ (past : History). (Lock lock, []) ∷ past) c.in-Ok.ensures in
    subst (λ (new : History). Opens Unopened old Failed new false) (sym is) (not_free old lock (sym c.is_free.ensures ∙ c.if-not-is_free.true))

pub returns-in-Ok-eq0 : goal.returns-in-Ok-eq0
returns-in-Ok-eq0 g c =
    let old = g.S.System.history c.args.system.now in let lock = c.lock-answer.result in
    let locked_is = c.lock-answer.ensures ∙ ap (λ (past : History). (Lock lock, []) ∷ past) c.in-Ok.ensures in
    let is = c.in-Ok-eq0.ensures ∙ ap (λ (n : ℕ). (Length (Ok n), []) ∷ g.S.System.history c.lock-answer.new.self) c.in-Ok-eq0.field-0-test ∙ ap (λ (past : History). (Length (Ok 0), []) ∷ past) locked_is in
    subst (λ (new : History). Opens Unopened old New new true) (sym is) (opened_new old lock (sym c.is_free.ensures ∙ c.if-not-is_free.false))

pub returns-in-Ok-length : goal.returns-in-Ok-length
returns-in-Ok-length g c =
    let old = g.S.System.history c.args.system.now in let lock = c.lock-answer.result in let n = c.in-Ok-length.field-0 in
    let locked_is = c.lock-answer.ensures ∙ ap (λ (past : History). (Lock lock, []) ∷ past) c.in-Ok.ensures in
    let is = c.in-Ok-length.ensures ∙ ap (λ (past : History). (Length (Ok n), []) ∷ past) locked_is in
    subst (λ (new : History). Opens Unopened old Open new true) (sym is) (opened_old old lock n (sym c.is_free.ensures ∙ c.if-not-is_free.false) (omega (arith, c.in-Ok-length.field-0-test.1)))

pub returns-in-Err-length : goal.returns-in-Err-length
returns-in-Err-length g c =
    let old = g.S.System.history c.args.system.now in let lock = c.lock-answer.result in
    let locked_is = c.lock-answer.ensures ∙ ap (λ (past : History). (Lock lock, []) ∷ past) c.in-Ok.ensures in
    let is = c.in-Err-length.ensures ∙ ap (λ (past : History). (Length (Err c.in-Err-length.field-0), []) ∷ past) locked_is in
    subst (λ (new : History). Opens Unopened old Failed new false) (sym is) (no_length old lock _ (sym c.is_free.ensures ∙ c.if-not-is_free.false))
