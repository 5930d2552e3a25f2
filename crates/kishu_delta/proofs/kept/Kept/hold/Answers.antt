use Rattle.std.proofs.Common.{◌∙◌, List, ap}
use Rattle.std.specs.Prelude.{if◌then◌else◌, Some}
use Rattle.kishu_names.specs.Record.{texts_of}
use Rattle.kishu_store.specs.Groups.{Group, is_group}
use Rattle.kishu_delta.specs.Kept.{Digest, Digests, digest_in, digest_of, digests_of, kept_of}
use Rattle.kishu_delta.specs.declared.digest.Digest as rust
use Rattle.kishu_delta.proofs.Keys.{Texts, puts}
use Rattle.kishu_delta.proofs.kept.Kept.hold.Goals as goal

pub returns-clause-ok : goal.returns-clause-ok
returns-clause-ok c = λ h.
    let names = c.in_ok-names.names in
    let digest = c.of.result in
    let group = texts_of c.args.group.now in
    let old = c.self.inside.digests.entries in
    ap (λ (es : List (Texts × rust.Digest)). kept_of (digests_of es) h) c.in_ok-insert.ensures.entries
    ∙ puts digest_in names digest old h
    ∙ ap (λ (g : Group). if is_group h g then Some (digest_in digest) else kept_of (digests_of old) h) c.in_ok-names.ensures
    ∙ ap (λ (d : Digest). if is_group h group then Some d else kept_of (digests_of old) h) c.of.ensures
    ∙ ap (λ (k : Digests). if is_group h group then Some (digest_of c.args.bytes.now) else kept_of k h) c.self.view_is
