use Rattle.std.proofs.Common.{◌≡◌, ◌++◌, Ok, ap, []}
use Rattle.std.specs.Rc.{rc_str_bytes}
use Rattle.kishu_store.specs.EntryBytes.{name_bytes}
use Rattle.kishu_record.proofs.Heads.{title_head, title_left, title_found}
use Rattle.kishu_record.proofs.reader.to_branch.Goals as goal

pub returns-in_default-clause-none : goal.returns-in_default-clause-none
returns-in_default-clause-none c same e k is =
    let h = title_head c.args.rest.now e k is in
    c.in_ok-title.ensures.none (ap (λ o. Ok o) c.in_default.is) (record { item = h.t; rest = []; is_fit = h.title; is = h.is })

pub returns-then-not-is_at_end-clause-none : goal.returns-then-not-is_at_end-clause-none
returns-then-not-is_at_end-clause-none c same e k is =
    let title = rc_str_bytes c.in-Some.title in
    let found : c.args.rest.now ≡ name_bytes title ++ c.title.new.self.rest.now = rw c.in-Some.is at c.in_ok-title.ensures.found in
    c.is_at_end.ensures.no c.if-not-is_at_end.true (title_left c.args.rest.now c.title.new.self.rest.now title found (title_head c.args.rest.now e k is))

pub returns-clause-found : goal.returns-clause-found
returns-clause-found c =
    let title = rc_str_bytes c.in-Some.title in
    let found : c.args.rest.now ≡ name_bytes title ++ c.title.new.self.rest.now = rw c.in-Some.is at c.in_ok-title.ensures.found in
    title_found c.args.rest.now c.title.new.self.rest.now title found (c.is_at_end.ensures.yes c.if-not-is_at_end.false)
