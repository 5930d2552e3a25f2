use Rattle.std.proofs.Common.{◌∙◌, ℕ, List, ap, map, subst}
use Rattle.kishu_store.specs.Groups.{Group}
use Rattle.kishu_delta.specs.declared.delta.Delta as rust
use Rattle.kishu_delta.specs.declared.delta.StoredGroup as rust_stored
use Rattle.kishu_delta.specs.Compared.{contents, groups_with, with_pictures, Forgets, HoldsHalves}
use Rattle.kishu_delta.specs.Deltas.{drafted_dropped, drafted_stored, groups_dropped}
use Rattle.kishu_delta.specs.Found.{group_of}
use Rattle.kishu_delta.specs.Merged.{merged}
use Rattle.kishu_delta.proofs.Exact.{follows, settled, settled_anyhow}
use Rattle.kishu_delta.proofs.Keys.{Texts}
use Rattle.kishu_delta.proofs.Settles.{joins_is, Merges}
use Rattle.kishu_delta.proofs.Told.{among, digests_kept, exact, held_there, just_there, listed_anyhow, told}
use Rattle.kishu_delta.proofs.settling.settle.Goals as goal

module _ (c : goal.In_ok-hold_all) where
  abbrev delta : rust.Delta
  delta = record { dropped = c.in_ok-dropped.dropped; stored = c.in_ok-stored.stored }

  merges : Merges c.args.draft (contents c.args.stored.now) delta
  merges = record {
    dropped = c.in_ok-dropped.ensures
        ∙ ap (merged (λ (g : Group). g) (drafted_dropped c.args.draft))
        (c.in_ok-joining_names.ensures ∙ ap (λ (ds : List rust_stored.StoredGroup). groups_with (with_pictures ds)) c.deref.ensures.value ∙ ap groups_with c.in_ok-joining.ensures);
    stored = c.in_ok-stored.ensures ∙ ap (merged (λ (p : Group × List ℕ). p.0) (drafted_stored c.args.draft)) c.in_ok-joining.ensures;
  }

  forgets : Forgets (groups_dropped delta) c.args.kept.now c.forget_all.new.kept
  forgets = subst (λ (gs : List Texts). Forgets (map group_of gs) c.args.kept.now c.forget_all.new.kept) c.deref-2.ensures.value c.forget_all.ensures

  holds : HoldsHalves (with_pictures delta.stored.items) c.forget_all.new.kept c.hold_all.new.kept
  holds = subst (λ (gs : List rust_stored.StoredGroup). HoldsHalves (with_pictures gs) c.forget_all.new.kept c.hold_all.new.kept) c.deref-3.ensures.value c.in_ok-hold_all.ensures

pub returns-clause-joins : goal.returns-clause-joins
returns-clause-joins c = joins_is c.args.draft (contents c.args.stored.now) (delta c) (merges c)

pub returns-clause-settled : goal.returns-clause-settled
returns-clause-settled c = λ t accessed s table is.
    settled c.args.kept.now t accessed s c.args.draft is (contents c.args.stored.now) (delta c) (merges c) table
    c.forget_all.new.kept c.hold_all.new.kept (forgets c) (holds c)

pub returns-clause-among : goal.returns-clause-among
returns-clause-among c = λ t accessed s table is list fits.
    let then = follows c.args.kept.now t accessed s c.args.draft is (contents c.args.stored.now) (delta c) (merges c) c.forget_all.new.kept c.hold_all.new.kept (forgets c) (holds c) in
    among c.args.kept.now c.hold_all.new.kept t accessed s c.args.draft is (contents c.args.stored.now) (delta c) (merges c) then list fits table

pub returns-clause-exact : goal.returns-clause-exact
returns-clause-exact c = λ t accessed s table is list fits just left.
    let then = follows c.args.kept.now t accessed s c.args.draft is (contents c.args.stored.now) (delta c) (merges c) c.forget_all.new.kept c.hold_all.new.kept (forgets c) (holds c) in
    exact c.args.kept.now c.hold_all.new.kept t accessed s c.args.draft is (contents c.args.stored.now) (delta c) (merges c) then list fits table just left

pub returns-clause-told : goal.returns-clause-told
returns-clause-told c = λ t accessed s before table is keeps given.
    let then = follows c.args.kept.now t accessed s c.args.draft is (contents c.args.stored.now) (delta c) (merges c) c.forget_all.new.kept c.hold_all.new.kept (forgets c) (holds c) in
    told c.args.kept.now c.hold_all.new.kept t accessed s c.args.draft is (contents c.args.stored.now) (delta c) (merges c) then table before keeps given

pub returns-clause-held : goal.returns-clause-held
returns-clause-held c = λ t accessed s before table is file live led keeps rows are.
    let then = follows c.args.kept.now t accessed s c.args.draft is (contents c.args.stored.now) (delta c) (merges c) c.forget_all.new.kept c.hold_all.new.kept (forgets c) (holds c) in
    held_there c.args.kept.now c.hold_all.new.kept t accessed s c.args.draft is (contents c.args.stored.now) (delta c) (merges c) then table before file live led keeps rows are

pub returns-clause-just : goal.returns-clause-just
returns-clause-just c = λ t accessed s before table is file live led just rows are.
    let then = follows c.args.kept.now t accessed s c.args.draft is (contents c.args.stored.now) (delta c) (merges c) c.forget_all.new.kept c.hold_all.new.kept (forgets c) (holds c) in
    let keeps = digests_kept c.args.kept.now t before just in
    just_there c.args.kept.now c.hold_all.new.kept t accessed s c.args.draft is (contents c.args.stored.now) (delta c) (merges c) then table before file live led keeps rows are just

pub returns-clause-anyhow : goal.returns-clause-anyhow
returns-clause-anyhow c = λ t accessed s is.
    settled_anyhow c.args.kept.now t accessed s c.args.draft is (contents c.args.stored.now) (delta c) (merges c)
    c.forget_all.new.kept c.hold_all.new.kept (forgets c) (holds c)

pub returns-clause-listed : goal.returns-clause-listed
returns-clause-listed c = λ t accessed s is list fits.
    let then = follows c.args.kept.now t accessed s c.args.draft is (contents c.args.stored.now) (delta c) (merges c) c.forget_all.new.kept c.hold_all.new.kept (forgets c) (holds c) in
    listed_anyhow c.args.kept.now c.hold_all.new.kept t accessed s c.args.draft is (contents c.args.stored.now) (delta c) (merges c) then list fits
