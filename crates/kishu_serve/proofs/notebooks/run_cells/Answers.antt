use Rattle.std.proofs.Common.{not, List, length, Bool, false, map, sym, ap, subst, arith, OnOk}
use Rattle.std.proofs.lemmas.List.{length-map}
use Rattle.std.specs.Rc.{rc_str_bytes}
use Rattle.std.specs.declared.alloc.Global.{Global}
use Rattle.std.specs.declared.rc.RcStr.{RcStr}
use Rattle.kishu_notebook.specs.Views.{data_of}
use Rattle.kishu_serve.specs.Coming.{CellsAreRun}
use Rattle.kishu_serve.specs.Notebooks.{run_of}
use Rattle.kishu_serve.specs.Recorded.{Records}
use Rattle.kishu_serve.specs.Serving.{WhereAttached, StopsInPart}
use Rattle.kishu_serve.proofs.CellRuns.{fewer-texts}
use Rattle.kishu_serve.proofs.notebooks.run_cells.Goals as goal

pub run_each-requires-clause-few : goal.run_each-requires-clause-few
run_each-requires-clause-few g c = omega (arith, c.requires.room, fewer-texts (map rc_str_bytes c.args.texts.items), length-map c.args.texts.items rc_str_bytes, ap length c.deref.ensures.value)

pub returns-then-together-clause-comes : goal.returns-then-together-clause-comes
returns-then-together-clause-comes g c =
    let st = g.H.Host.state in
    let s0 = st c.args.host.now in
    subst
    (λ (b : Bool). OnOk c.run_together.result (WhereAttached c.args.session.now s0 (λ g'.
    CellsAreRun s0 (st c.run_together.new.host) c.run_together.new.session g' (run_of b g' (map rc_str_bytes c.args.texts.items) (data_of c.args.notebook.now)) c.run_together.new.notebook c.args.steps.now c.run_together.new.steps)))
    (sym c.if-together.true) c.run_together.ensures.comes

pub returns-else-together-clause-comes : goal.returns-else-together-clause-comes
returns-else-together-clause-comes g c =
    let st = g.H.Host.state in
    let s0 = st c.args.host.now in
    let ran =
    subst
    (λ (ts : List (RcStr Global)). OnOk c.run_each.result (WhereAttached c.args.session.now s0 (λ g'.
    CellsAreRun s0 (st c.run_each.new.host) c.run_each.new.session g' (run_of false g' (map rc_str_bytes ts) (data_of c.args.notebook.now)) c.run_each.new.notebook c.args.steps.now c.run_each.new.steps)))
    c.deref.ensures.value c.run_each.ensures.comes in
    subst
    (λ (b : Bool). OnOk c.run_each.result (WhereAttached c.args.session.now s0 (λ g'.
    CellsAreRun s0 (st c.run_each.new.host) c.run_each.new.session g' (run_of b g' (map rc_str_bytes c.args.texts.items) (data_of c.args.notebook.now)) c.run_each.new.notebook c.args.steps.now c.run_each.new.steps)))
    (sym c.if-together.false) ran

pub returns-then-together-clause-bytes : goal.returns-then-together-clause-bytes
returns-then-together-clause-bytes g c =
    let st = g.H.Host.state in
    subst (λ (b : Bool). OnOk c.run_together.result (Records (not b) (st c.args.host.now) (st c.run_together.new.host))) (sym c.if-together.true) c.run_together.ensures.bytes

pub returns-else-together-clause-bytes : goal.returns-else-together-clause-bytes
returns-else-together-clause-bytes g c =
    let st = g.H.Host.state in
    subst (λ (b : Bool). OnOk c.run_each.result (Records (not b) (st c.args.host.now) (st c.run_each.new.host))) (sym c.if-together.false) c.run_each.ensures.bytes

pub returns-then-together-clause-stop : goal.returns-then-together-clause-stop
returns-then-together-clause-stop g c =
    let st = g.H.Host.state in
    let s0 = st c.args.host.now in
    subst
    (λ (b : Bool). WhereAttached c.args.session.now s0 (λ g'. StopsInPart s0 (st c.run_together.new.host) g' (run_of b g' (map rc_str_bytes c.args.texts.items) (data_of c.args.notebook.now))))
    (sym c.if-together.true) c.run_together.ensures.stop

pub returns-else-together-clause-stop : goal.returns-else-together-clause-stop
returns-else-together-clause-stop g c =
    let st = g.H.Host.state in
    let s0 = st c.args.host.now in
    let s1 = st c.run_each.new.host in
    let ran =
    subst
    (λ (ts : List (RcStr Global)). WhereAttached c.args.session.now s0 (λ g'. StopsInPart s0 s1 g' (run_of false g' (map rc_str_bytes ts) (data_of c.args.notebook.now))))
    c.deref.ensures.value c.run_each.ensures.stop in
    subst
    (λ (b : Bool). WhereAttached c.args.session.now s0 (λ g'. StopsInPart s0 s1 g' (run_of b g' (map rc_str_bytes c.args.texts.items) (data_of c.args.notebook.now))))
    (sym c.if-together.false) ran
