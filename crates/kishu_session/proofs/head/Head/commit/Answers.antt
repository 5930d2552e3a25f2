use Rattle.std.proofs.Common.{◌≡◌, ◌<◌, ◌+◌, ◌^◌, ◌∙◌, true, false, Ok, Err, None, List, ℕ, length, map, ap, subst, arith, rules, refl, IsErrOf}
use Rattle.std.proofs.lemmas.List.{length-map}
use Rattle.std.specs.Rc.{rc_str_bytes}
use Rattle.std.specs.declared.alloc.Global.{Global}
use Rattle.std.specs.declared.vec.Vec.{Vec}
use Rattle.kishu_host.specs.Host.{ReadsMore}
use Rattle.kishu_store.specs.Graph.{Target}
use Rattle.kishu_store.specs.Tables.{bytes_in}
use Rattle.kishu_store_laws.specs.EntryLaws.{entry-is}
use Rattle.kishu_graph.specs.Tables.{table_of_rows}
use Rattle.kishu_checkout.specs.Fetched.{contents, AreFetched, LacksBytes}
use Rattle.kishu_checkout.specs.Pictures.{told_file}
use Rattle.kishu_checkout.specs.declared.fault.CheckoutFault.TheVariants.{Damaged}
use Rattle.kishu_delta.specs.Compared.{asked_row}
use Rattle.kishu_delta.specs.declared.asking.Asked.{Asked}
use Rattle.kishu_session.specs.Committing.{record_of, IsTold}
use Rattle.kishu_session.specs.Lives.{state_of}
use Rattle.kishu_session.specs.TextLists.{texts_of}
use Rattle.kishu_session.specs.declared.head.Head.{Head}
use Rattle.kishu_session.proofs.AskedFacts.{as-many, asked-lacks, asked-read, stored-told}
use Rattle.kishu_session.proofs.Bound.{names_told}
use Rattle.kishu_session.proofs.Commits.{classes-small, commit-held, commit-is, commit-keeps, commit-lives, few-cells, fits-some, is-table, kept-before, leaves-noted, number-there, rules as commit-rules, sound-now}
use Rattle.kishu_session.proofs.head.Head.commit.Goals as goal

pub draft-requires-clause-small : goal.draft-requires-clause-small
draft-requires-clause-small g c = classes-small c.args.journal.now.place c.requires.ran.0 c.args.self.now (texts_of c.args.cells.now) c.requires.ran.1

-- as many pictures as were asked for
pub settle-requires : goal.settle-requires
settle-requires g c =
    let s = g.H.Host.state c.args.host.now in
    let pictures = c.in_ok-stored.stored.items in
    record {
      one = ap (λ (ps : List (Vec ℕ Global)). length ps) c.deref-2.ensures.value
          ∙ as-many s c.in_ok-draft.draft pictures (subst (λ (as' : List Asked). AreFetched s (map asked_row as') (contents pictures)) c.deref.ensures.value c.in_ok-stored.ensures.fetched);
    }

pub follow-requires-clause-rules : goal.follow-requires-clause-rules
follow-requires-clause-rules g c =
    let before = c.requires.ran.0 in
    let ran = c.requires.ran.1 in
    let self = c.args.self.now in
    let cells = texts_of c.args.cells.now in
    let place = c.args.journal.now.place in
    let delta = c.in_ok-delta.delta in
    let drafted = c.in_ok-draft.ensures.draft in
    let settled = c.in_ok-delta.ensures.settled (table_of_rows self.table) self.live.names.accessed (state_of self.live) (is-table place before self cells ran) drafted in
    let at = ap (λ (t : Target). t.commit) c.head.ensures.value in
    let r = record_of c.in_ok-made.made in
    entry-is r (commit-rules place before self cells ran c.settle.new.kept delta settled drafted.fits c.head.result.now.commit r c.in_ok-made.ensures.record at c.requires.cells (names_told self.live.names.bound c.accessed-accessed.ensures.kept.0))

pub unreachable-requires : goal.unreachable-requires
unreachable-requires g c =
    let refused : c.follow.result ≡ Ok false = search rules in
    let before = c.requires.ran.0 in
    let ran = c.requires.ran.1 in
    let self = c.args.self.now in
    let cells = texts_of c.args.cells.now in
    let place = c.args.journal.now.place in
    let delta = c.in_ok-delta.delta in
    let drafted = c.in_ok-draft.ensures.draft in
    let settled = c.in_ok-delta.ensures.settled (table_of_rows self.table) self.live.names.accessed (state_of self.live) (is-table place before self cells ran) drafted in
    let at = ap (λ (t : Target). t.commit) c.head.ensures.value in
    let r = record_of c.in_ok-made.made in
    fits-some place before self cells ran c.settle.new.kept delta settled drafted.fits c.head.result.now.commit r c.in_ok-made.ensures.record at c.requires.room _ (c.follow.ensures.refused refused)

pub table-requires : goal.table-requires
table-requires g c =
    let goes : c.follow.result ≡ Ok true = search rules in
    let before = c.requires.ran.0 in
    let ran = c.requires.ran.1 in
    let self = c.args.self.now in
    let cells = texts_of c.args.cells.now in
    let place = c.args.journal.now.place in
    let delta = c.in_ok-delta.delta in
    let drafted = c.in_ok-draft.ensures.draft in
    let settled = c.in_ok-delta.ensures.settled (table_of_rows self.table) self.live.names.accessed (state_of self.live) (is-table place before self cells ran) drafted in
    let at = ap (λ (t : Target). t.commit) c.head.ensures.value in
    let r = record_of c.in_ok-made.made in
    record {
      there = number-there place before self cells ran c.settle.new.kept delta settled drafted.fits c.head.result.now.commit r c.in_ok-made.ensures.record at c.requires.room c.follow.new.graph _ (omega (arith, c.place-place.ensures.value)) (c.follow.ensures.made goes)
          c.commits-number.result c.commits-number.ensures.newest;
    }

pub returns-in_err-stored-clause-damaged : goal.returns-in_err-stored-clause-damaged
returns-in_err-stored-clause-damaged g c at err =
    let self = c.args.self.now in
    let s = g.H.Host.state c.args.host.now in
    let was : IsErrOf (Err c.in_err-stored.field-0.0) (Damaged at) = search rules in
    asked-lacks c.args.journal.now.place c.requires.ran.0 self (texts_of c.args.cells.now) c.requires.ran.1 c.in_ok-draft.draft c.in_ok-draft.ensures.draft s at
    (subst (λ (as' : List Asked). LacksBytes s (map asked_row as') at) c.deref.ensures.value (c.in_err-stored.ensures.damaged at was))

pub returns-clause-reads : goal.returns-clause-reads
returns-clause-reads g c before ran =
    let self = c.args.self.now in
    let s = g.H.Host.state c.args.host.now in
    let t = g.H.Host.state c.stored_pictures.new.host in
    asked-read c.args.journal.now.place before self (texts_of c.args.cells.now) ran c.in_ok-draft.draft c.in_ok-draft.ensures.draft s.reads t.reads
    (subst (λ (as' : List Asked). ReadsMore s.reads t.reads (bytes_in (map asked_row as'))) c.deref.ensures.value c.in_ok-stored.ensures.exact)

pub returns-clause-commits : goal.returns-clause-commits
returns-clause-commits g c before ran =
    let goes : c.follow.result ≡ Ok true = search rules in
    let self = c.args.self.now in
    let s = g.H.Host.state c.args.host.now in
    let cells = texts_of c.args.cells.now in
    let place = c.args.journal.now.place in
    let t = table_of_rows self.table in
    let u = state_of self.live in
    let noted = self.live.names.accessed in
    let draft = c.in_ok-draft.draft in
    let drafted = c.in_ok-draft.ensures.draft in
    let delta = c.in_ok-delta.delta in
    let kept = c.settle.new.kept in
    let table = is-table place before self cells ran in
    let settled = c.in_ok-delta.ensures.settled t noted u table drafted in
    let at = ap (λ (x : Target). x.commit) c.head.ensures.value in
    let r = record_of c.in_ok-made.made in
    let made = c.in_ok-made.ensures.record in
    let parent = c.head.result.now.commit in
    let pictures = c.in_ok-stored.stored.items in
    let fetched = subst (λ (as' : List Asked). AreFetched s (map asked_row as') (contents pictures)) c.deref.ensures.value c.in_ok-stored.ensures.fetched in
    let handed = λ (told : IsTold (told_file s) t before). ap contents c.deref-2.ensures.value ∙ stored-told place before self cells ran draft drafted s (contents pictures) fetched told in
    let new : Head = record self { graph = c.follow.new.graph; table = c.in_ok-self.field-0; kept = kept; cells = c.saturating_add-self.result } in
    let grows : self.cells + length cells < 2 ^ 64 → new.cells ≡ self.cells + length cells = λ few. omega (arith, c.saturating_add-self.ensures, few, length-map c.args.cells.now rc_str_bytes) in
    let written = commit-rules place before self cells ran kept delta settled drafted.fits parent r made at c.requires.cells (names_told self.live.names.bound c.accessed-accessed.ensures.kept.0) in
    record {
      number = c.commits-number.ensures.newest;
      rules = written;
      sound = sound-now place before self cells ran;
      each = commit-is place before self cells ran kept delta settled drafted.fits parent r made at c.requires.room (told_file s)
          (λ told. c.in_ok-delta.ensures.told t noted u before table drafted (kept-before place before self cells ran) (handed told)) new (few-cells cells c.requires.cells) grows;
      keeps = commit-keeps place before self cells ran kept delta settled drafted.fits parent r made at c.requires.room c.follow.new.graph _ (omega (arith, c.place-place.ensures.value)) (c.follow.ensures.made goes);
      lives = commit-lives place before self cells ran kept delta settled drafted.fits parent r made at c.requires.room c.follow.new.graph _ (omega (arith, c.place-place.ensures.value)) (c.follow.ensures.made goes)
          c.commits-number.result c.commits-number.ensures.newest written new refl refl c.in_ok-self.ensures;
      held = commit-held place before self cells ran kept delta settled drafted.fits parent r made at c.requires.room c.follow.new.graph _ (omega (arith, c.place-place.ensures.value)) (c.follow.ensures.made goes)
          c.commits-number.result c.commits-number.ensures.newest written new refl refl c.in_ok-self.ensures refl
          (λ rows stores. c.in_ok-delta.ensures.just t noted u before table drafted None ran.told (leaves-noted place before self cells ran) ran.pictures rows stores);
    }
