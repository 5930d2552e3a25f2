use Rattle.std.proofs.Common.{◌≡◌, ◌∙◌, ◌++◌, ap, sym, List, ℕ}
use Rattle.std.specs.List.{flat_map}
use Rattle.std.specs.Rc.{rc_str_bytes}
use Rattle.std.specs.Str.{chars}
use Rattle.std.specs.String.{string_bytes}
use Rattle.std.proofs.lemmas.Str.{chars-nil}
use Rattle.kishu_meaning.specs.values.Texts.{joined}
use Rattle.kishu_methods.specs.TextValues.{texts_of}
use Rattle.kishu_methods.proofs.Joins.{nothing_joined}
use Rattle.kishu_methods.proofs.join.joined.Goals as goal

pub returns-in_default : goal.returns-in_default
returns-in_default c = ap chars c.new-joined.ensures.bytes ∙ chars-nil ∙ sym (nothing_joined (chars c.args.by.now) c.args.texts.now c.in_default.ensures.cases)

pub returns : goal.returns
returns c =
    let by = chars c.args.by.now in
    let first : chars (string_bytes c.push_text.new.out) ≡ chars (rc_str_bytes c.in-Some.first.now) =
    c.in_ok-push_text.ensures ∙ ap (λ (x : List ℕ). x ++ chars c.as_str.result.now) (ap chars c.new-joined.ensures.bytes ∙ chars-nil) ∙ ap chars c.as_str.ensures.value in
    c.in_ok-push_spaced.ensures
    ∙ ap (λ (x : List ℕ). x ++ flat_map (λ (next : List ℕ). by ++ next) (texts_of c.in-Some.others.now)) first
    ∙ ap (λ ts. joined by (texts_of ts)) (sym c.in-Some.ensures.cases.0)
