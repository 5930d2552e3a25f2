use Rattle.std.proofs.Common.{◌∙◌, Option, ap, sym}
use Rattle.std.specs.Option.{option_copied}
use Rattle.std.specs.Prelude.{option_map}
use Rattle.kishu_names.specs.Record.{texts_of}
use Rattle.kishu_delta.specs.Kept.{Digest, Digests, digest_in, is_some_digest, is_kept}
use Rattle.kishu_delta.proofs.Keys.{finds}
use Rattle.kishu_delta.proofs.kept.Kept.is_kept.Goals as goal

pub returns-in-Some : goal.returns-in-Some
returns-in-Some c =
    let group = c.args.group.now in
    let old = c.self.inside.digests.entries in
    let found = ap (option_map digest_in) (sym (ap option_copied c.in-Some.is) ∙ c.get.ensures.value) ∙ finds digest_in group old in
    c.is_of.ensures
    ∙ ap (λ (d : Option Digest). is_some_digest d c.args.bytes.now) found
    ∙ ap (λ (k : Digests). is_kept k (texts_of group) c.args.bytes.now) c.self.view_is

pub returns-in-None : goal.returns-in-None
returns-in-None c =
    let group = c.args.group.now in
    let old = c.self.inside.digests.entries in
    let found = ap (option_map digest_in) (sym (ap option_copied c.in-None.is) ∙ c.get.ensures.value) ∙ finds digest_in group old in
    ap (λ (d : Option Digest). is_some_digest d c.args.bytes.now) found
    ∙ ap (λ (k : Digests). is_kept k (texts_of group) c.args.bytes.now) c.self.view_is
