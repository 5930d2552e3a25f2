use Rattle.std.proofs.Common.{◌≡◌, ◌∙◌, ℕ, Err, List, map, if◌then◌else◌, Some, None, ap, subst, arith, rules, IsErrOf}
use Rattle.std.specs.declared.alloc.Global.{Global}
use Rattle.std.specs.declared.vec.Vec.{Vec}
use Rattle.kishu_store.specs.Graph.{Target}
use Rattle.kishu_store.specs.Groups.{Group, is_one_of}
use Rattle.kishu_store.specs.Tables.{Table, bytes_in, groups_in}
use Rattle.kishu_delta.specs.Kept.{digest_of, kept_of}
use Rattle.kishu_history.specs.Checkout.{to_drop, to_load}
use Rattle.kishu_session.specs.Lives.{state_of}
use Rattle.kishu_graph.specs.Tables.{table_of_rows}
use Rattle.kishu_journal.specs.Going.{ReadsAtMost}
use Rattle.kishu_checkout.specs.Fetched.{contents, taken_by, AreFetched, LacksBytes}
use Rattle.kishu_checkout.specs.Placed.{ArePlaced, FailsAt}
use Rattle.kishu_checkout.specs.Plans.{groups_dropped, rows_loaded}
use Rattle.kishu_checkout.specs.declared.fault.CheckoutFault.TheVariants.{Damaged}
use Rattle.kishu_session.proofs.CarryFacts.{carried-on, few-loaded, lacks-bytes, lacks-picture, pictures-on, taken-all}
use Rattle.kishu_session.proofs.LoadFacts.{head-table-is, table-is}
use Rattle.kishu_session.proofs.ReadBytes.{reads-nothing, reads-rows}
use Rattle.kishu_session.proofs.head.Head.carry.Goals as goal

pub returns-in_err-table-clause-reads_most : goal.returns-in_err-table-clause-reads_most
returns-in_err-table-clause-reads_most g c = reads-nothing c.args.self.now (g.H.Host.state c.args.host.now)

pub returns-in_err-plan-clause-reads_most : goal.returns-in_err-plan-clause-reads_most
returns-in_err-plan-clause-reads_most g c = reads-nothing c.args.self.now (g.H.Host.state c.args.host.now)

pub returns-in_err-pictures-clause-reads_most : goal.returns-in_err-pictures-clause-reads_most
returns-in_err-pictures-clause-reads_most g c =
    let self = c.args.self.now in
    let s = g.H.Host.state c.args.host.now in
    let t = g.H.Host.state c.fetch.new.host in
    let u = table_of_rows c.in_ok-table.table in
    reads-rows self s t c.head.result.now.commit u (ap (λ (x : Target). x.commit) c.head.ensures.value) c.in_ok-table.ensures
    (subst (λ (rows : Table). ReadsAtMost s.reads t.reads (bytes_in rows)) c.in_ok-plan.ensures.load c.fetch.ensures.reads)

pub returns-in_err-pictures-clause-damaged : goal.returns-in_err-pictures-clause-damaged
returns-in_err-pictures-clause-damaged g c at err =
    let s = g.H.Host.state c.args.host.now in
    let self = c.args.self.now in
    let commit = c.head.result.now.commit in
    let u = table_of_rows c.in_ok-table.table in
    let was : IsErrOf (Err c.in_err-pictures.field-0.0) (Damaged at) = search rules in
    lacks-bytes s self c.requires.known c.requires.keeps u commit (table-is self.graph commit u c.in_ok-table.ensures) at (ap (λ (t : Target). t.commit) c.head.ensures.value)
    (subst (λ (t : Table). LacksBytes s t at) c.in_ok-plan.ensures.load (c.in_err-pictures.ensures.damaged at was))

pub place-requires-clause-small : goal.place-requires-clause-small
place-requires-clause-small g c =
    let s = g.H.Host.state c.args.host.now in
    let self = c.args.self.now in
    let commit = c.head.result.now.commit in
    let u = table_of_rows c.in_ok-table.table in
    let bytes = contents c.in_ok-pictures.pictures.items in
    let taken = ap (λ (ps : List (Vec ℕ Global)). taken_by (contents ps)) c.deref.ensures.value ∙ taken-all bytes (rows_loaded c.in_ok-plan.plan) c.in_ok-pictures.ensures.fetched.lens in
    let load = ap bytes_in c.in_ok-plan.ensures.load in
    let few = few-loaded s self c.requires.known c.requires.keeps u commit (table-is self.graph commit u c.in_ok-table.ensures) in
    omega (arith, taken, load, few)

pub returns-in_err-place-clause-damaged : goal.returns-in_err-place-clause-damaged
returns-in_err-place-clause-damaged g c at err =
    let s = g.H.Host.state c.args.host.now in
    let self = c.args.self.now in
    let commit = c.head.result.now.commit in
    let u = table_of_rows c.in_ok-table.table in
    let bytes = contents c.in_ok-pictures.pictures.items in
    let load = c.in_ok-plan.ensures.load in
    let was : IsErrOf (Err c.in_err-place.field-0.0) (Damaged at) = search rules in
    lacks-picture s self c.requires.known c.requires.keeps u commit (table-is self.graph commit u c.in_ok-table.ensures) at (ap (λ (t : Target). t.commit) c.head.ensures.value) bytes
    (subst (λ (t : Table). AreFetched s t bytes) load c.in_ok-pictures.ensures.fetched)
    (subst (λ (t : Table). FailsAt t bytes at) load
    (subst (λ (ps : List (Vec ℕ Global)). FailsAt (rows_loaded c.in_ok-plan.plan) (contents ps) at) c.deref.ensures.value (c.in_err-place.ensures.damaged at was)))

pub returns-clause-carries : goal.returns-clause-carries
returns-clause-carries g c =
    let s = g.H.Host.state c.args.host.now in
    let self = c.args.self.now in
    let commit = c.head.result.now.commit in
    let t = table_of_rows self.table in
    let u = table_of_rows c.in_ok-table.table in
    let bytes = contents c.in_ok-pictures.pictures.items in
    let plan = c.in_ok-plan.plan in
    let load = c.in_ok-plan.ensures.load in
    let drop = c.in_ok-plan.ensures.drop in
    let before = state_of self.live in
    let after = state_of c.place.new.self in
    let is = table-is self.graph commit u c.in_ok-table.ensures in
    let fetched = subst (λ (x : Table). AreFetched s x bytes) load c.in_ok-pictures.ensures.fetched in
    let put = subst (λ (ps : List (Vec ℕ Global)). ArePlaced (groups_dropped plan) (rows_loaded plan) (contents ps) before after) c.deref.ensures.value c.in_ok-place.ensures.placed in
    let placed = subst (λ (x : Table). ArePlaced (to_drop t u) x bytes before after) load (subst (λ (gs : List Group). ArePlaced gs (rows_loaded plan) bytes before after) drop put) in
    record {
      to = λ h k. head-table-is self.graph commit u (ap (λ (x : Target). x.commit) c.head.ensures.value) c.in_ok-table.ensures h k;
      state = carried-on s self c.requires.known c.requires.keeps u commit is bytes after fetched placed;
      pictures = pictures-on s self c.requires.known c.requires.keeps u commit is bytes after fetched placed c.keep_carried.new.kept
          (subst (λ (gs : List Group). (pic : Group → List ℕ) → bytes ≡ map (λ r. pic r.group) (to_load t u) → (g : Group)
          → kept_of c.keep_carried.new.kept g ≡ (if is_one_of g (groups_in (to_load t u)) then Some (digest_of (pic g)) else (if is_one_of g gs then None else kept_of self.kept g))) drop
          (subst (λ (x : Table). (pic : Group → List ℕ) → bytes ≡ map (λ r. pic r.group) x → (g : Group)
          → kept_of c.keep_carried.new.kept g ≡ (if is_one_of g (groups_in x) then Some (digest_of (pic g)) else (if is_one_of g (groups_dropped plan) then None else kept_of self.kept g))) load
          (λ pic are g'. c.in_ok-keep_carried.ensures pic (ap contents c.deref-2.ensures.value ∙ are) g')));
    }

pub returns-in_err-place-clause-reads_most : goal.returns-in_err-place-clause-reads_most
returns-in_err-place-clause-reads_most g c =
    let self = c.args.self.now in
    let s = g.H.Host.state c.args.host.now in
    let t = g.H.Host.state c.fetch.new.host in
    let u = table_of_rows c.in_ok-table.table in
    reads-rows self s t c.head.result.now.commit u (ap (λ (x : Target). x.commit) c.head.ensures.value) c.in_ok-table.ensures
    (subst (λ (rows : Table). ReadsAtMost s.reads t.reads (bytes_in rows)) c.in_ok-plan.ensures.load c.fetch.ensures.reads)

pub returns-in_err-keep_carried-clause-reads_most : goal.returns-in_err-keep_carried-clause-reads_most
returns-in_err-keep_carried-clause-reads_most g c =
    let self = c.args.self.now in
    let s = g.H.Host.state c.args.host.now in
    let t = g.H.Host.state c.fetch.new.host in
    let u = table_of_rows c.in_ok-table.table in
    reads-rows self s t c.head.result.now.commit u (ap (λ (x : Target). x.commit) c.head.ensures.value) c.in_ok-table.ensures
    (subst (λ (rows : Table). ReadsAtMost s.reads t.reads (bytes_in rows)) c.in_ok-plan.ensures.load c.fetch.ensures.reads)

pub returns-clause-reads_most : goal.returns-clause-reads_most
returns-clause-reads_most g c =
    let self = c.args.self.now in
    let s = g.H.Host.state c.args.host.now in
    let t = g.H.Host.state c.fetch.new.host in
    let u = table_of_rows c.in_ok-table.table in
    reads-rows self s t c.head.result.now.commit u (ap (λ (x : Target). x.commit) c.head.ensures.value) c.in_ok-table.ensures
    (subst (λ (rows : Table). ReadsAtMost s.reads t.reads (bytes_in rows)) c.in_ok-plan.ensures.load c.fetch.ensures.reads)
