use Rattle.std.proofs.Common.{◌≡◌, ◌∙◌, List, ap, sym, subst}
use Rattle.std.specs.Prelude.{if◌then◌else◌, option_map, None}
use Rattle.kishu_names.specs.Record.{texts_of}
use Rattle.kishu_store.specs.Groups.{is_group}
use Rattle.kishu_delta.specs.Kept.{Digests, digest_in, digests_of, kept_of}
use Rattle.kishu_delta.specs.declared.digest.Digest as rust
use Rattle.kishu_delta.proofs.Keys.{Texts, finds, takes}
use Rattle.kishu_delta.proofs.kept.Kept.forget.Goals as goal

pub returns : goal.returns
returns c = λ h.
    let group = c.args.group.now in
    let old = c.self.inside.digests.entries in
    let entries = c.remove.ensures.entries in
    let none : kept_of (digests_of c.remove.new.self.entries) (texts_of group) ≡ None = sym (finds digest_in group c.remove.new.self.entries) ∙ ap (option_map digest_in) c.remove.ensures.updates.1 in
    ap (λ (es : List (Texts × rust.Digest)). kept_of (digests_of es) h) entries
    ∙ takes digest_in group old (subst (λ (es : List (Texts × rust.Digest)). kept_of (digests_of es) (texts_of group) ≡ None) entries none) h
    ∙ ap (λ (k : Digests). if is_group h (texts_of group) then None else kept_of k h) c.self.view_is
