use Rattle.std.proofs.Common.{rules, ◌≡◌, ◌∙◌, ap, sym, List, ℕ, ◌++◌}
use Rattle.std.specs.Str.{chars}
use Rattle.std.specs.String.{string_bytes}
use Rattle.std.proofs.lemmas.List.{append_assoc}
use Rattle.std.proofs.lemmas.Str.{chars-nil}
use Rattle.kishu_meaning.specs.values.Texts.{joined, pieces, replaced}
use Rattle.kishu_text.proofs.Cuts.{joined_more, pieces-some}
use Rattle.kishu_text.proofs.search.replace.Goals as goal

pub loop-piece-init : goal.loop-piece-init
loop-piece-init c =
    let whole = replaced (chars c.args.text.now) (chars c.args.part.now) (chars c.args.by.now) in
    (c.utf8.text, ap (λ (x : List ℕ). x ++ whole) (ap chars c.new-replaced.ensures.bytes ∙ chars-nil))

pub loop-piece-preserved : goal.loop-piece-preserved
loop-piece-preserved c =
    let part = chars c.args.part.now in
    let by = chars c.args.by.now in
    let out = chars (string_bytes c.loop-piece.replaced) in
    let piece = chars c.in-Some.piece.now in
    let left = pieces part (chars c.in-Some.behind.now) in
    let grown : chars (string_bytes c.push_text-in-Some.new.out) ≡ (out ++ piece) ++ by = c.in_ok-push_text-2.ensures ∙ ap (λ (x : List ℕ). x ++ by) c.in_ok-push_text.ensures in
    let rest : joined by (pieces part (chars c.loop-piece.rest.now)) ≡ (piece ++ by) ++ joined by left =
    ap (joined by) (c.in-Some.ensures.pieces c.requires) ∙ joined_more by piece left (pieces-some part 0 (chars c.in-Some.behind.now)) in
    let same : chars (string_bytes c.push_text-in-Some.new.out) ++ joined by left ≡ out ++ joined by (pieces part (chars c.loop-piece.rest.now)) =
    ap (λ (x : List ℕ). x ++ joined by left) (grown ∙ append_assoc out piece by) ∙ (append_assoc out (piece ++ by) (joined by left) ∙ ap (λ (x : List ℕ). out ++ x) (sym rest)) in
    (search rules, same ∙ c.loop-piece.invariant.1)
