use Rattle.std.proofs.Common.{◌≡◌, ◌∙◌, List, ℕ, [], true, sym, ap, subst}
use Rattle.std.specs.List.{each_same}
use Rattle.kishu_host.specs.declared.tape.Entry.{Entry}
use Rattle.kishu_host.specs.Story.{Story, is_valid, torn_of}
use Rattle.kishu_host.specs.Crash.{Range, IsFilled}
use Rattle.kishu_host.specs.Tape.{unsynced}
use Rattle.kishu_host.proofs.Fills.{tape-within, tape-torn}
use Rattle.kishu_host.proofs.tape.Tape.torn.Goals as goal

pub fill_writes-requires : goal.fill_writes-requires
fill_writes-requires c =
    let s = c.self.inside in
    let valid = subst (λ (v : Story). is_valid v.first v.events ≡ true) (sym c.self.view_is) c.requires in
    let copied : c.in_ok-torn.torn.items ≡ s.file.items = each_same s.file.items c.in_ok-torn.torn.items c.in_ok-torn.ensures.cases.0 in
    rw (copied, c.since_sync.ensures, c.deref.ensures.value) (tape-within s.first.items s.file.items s.out.items s.written.items s.entries.items c.self.invariant.0 valid)

pub returns : goal.returns
returns c =
    let s = c.self.inside in
    let valid = subst (λ (v : Story). is_valid v.first v.events ≡ true) (sym c.self.view_is) c.requires in
    let copied : c.in_ok-torn.torn.items ≡ s.file.items = each_same s.file.items c.in_ok-torn.torn.items c.in_ok-torn.ensures.cases.0 in
    let filled : IsFilled c.args.fill (unsynced s.entries.items []) s.file.items c.fill_writes.new.file.items =
    subst (λ (f : List ℕ). IsFilled c.args.fill (unsynced s.entries.items []) f c.fill_writes.new.file.items) copied
    (subst (λ (rs : List Range). IsFilled c.args.fill rs c.in_ok-torn.torn.items c.fill_writes.new.file.items) (c.since_sync.ensures ∙ ap (λ (es : List Entry). unsynced es []) c.deref.ensures.value) c.fill_writes.ensures) in
    tape-torn s.first.items s.file.items s.out.items s.written.items s.entries.items c.self.invariant.0 valid c.args.fill c.fill_writes.new.file.items filled
    ∙ ap (λ (v : Story). torn_of c.args.fill v.first v.events) c.self.view_is
