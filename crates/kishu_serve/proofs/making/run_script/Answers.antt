use Rattle.std.proofs.Common.{true, ◌∙◌}
use Rattle.std.proofs.lemmas.Result.{err_from_is_err_and}
use Rattle.kishu_model.specs.generated.Run.{summary_of}
use Rattle.kishu_serve.proofs.CellRuns.{last-stop, last-whole, last-least, file-kept}
use Rattle.kishu_serve.proofs.MadeRuns.{last-known}
use Rattle.kishu_serve.proofs.Parts.{attached-kept, held, and_then}
use Rattle.kishu_serve.proofs.making.run_script.Goals as goal

pub returns-clause-stop : goal.returns-clause-stop
returns-clause-stop g c told g' a =
    let r = c.in_ok-apply_all.ensures.applied told g' a in
    last-stop (summary_of r.2.now r.0) (last-known r.0 r.2) (g.H.Host.state c.put_summary.new.host)
    (c.put_summary.ensures.stop (c.apply_all.ensures.tells ∙ told) r.2.now r.2.attached r.0 r.1)

pub returns-clause-bytes : goal.returns-clause-bytes
returns-clause-bytes g c =
    let st = g.H.Host.state in
    held c.put_summary.result
    (file-kept true (st c.args.host.now) (st c.apply_all.new.host) (st c.put_summary.new.host) c.put_summary.ensures.file c.in_ok-apply_all.ensures.bytes)

pub returns-clause-whole : goal.returns-clause-whole
returns-clause-whole g c =
    let st = g.H.Host.state in
    and_then c.put_summary.result c.put_summary.ensures.out
    (λ out told g' a.
    let r = c.in_ok-apply_all.ensures.applied told g' a in
    let put = c.put_summary.ensures in
    let now_told = c.apply_all.ensures.tells ∙ told in
    last-whole (summary_of r.2.now r.0) (last-known r.0 r.2) (st c.put_summary.new.host) (put.stop now_told r.2.now r.2.attached r.0 r.1)
    (out now_told r.2.now r.2.attached r.0 r.1 now_told) c.apply_all.new.session
    (attached-kept c.apply_all.new.session (st c.apply_all.new.host) (st c.put_summary.new.host) r.2.now put.file put.crash r.2.attached))

pub returns-in_err-apply_all-clause-damaged : goal.returns-in_err-apply_all-clause-damaged
returns-in_err-apply_all-clause-damaged g c at is =
    let p = err_from_is_err_and c.from_residual.result c.from_residual.ensures.1 in
    c.in_err-apply_all.ensures.damaged at (cc (is, p.1, p.2))

pub returns-clause-least : goal.returns-clause-least
returns-clause-least g c =
    let st = g.H.Host.state in
    and_then c.put_summary.result c.put_summary.ensures.out
    (λ out told g' a.
    let r = c.in_ok-apply_all.ensures.applied told g' a in
    let now_told = c.apply_all.ensures.tells ∙ told in
    last-least (summary_of r.2.now r.0) (last-known r.0 r.2) (st c.put_summary.new.host)
    (c.put_summary.ensures.stop now_told r.2.now r.2.attached r.0 r.1) (out now_told r.2.now r.2.attached r.0 r.1 now_told))
