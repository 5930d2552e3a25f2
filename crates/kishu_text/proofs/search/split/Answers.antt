use Rattle.std.proofs.Common.{◌≡◌, ◌∙◌, ap, sym, List, [], ◌∷◌, ◌++◌, ℕ, String}
use Rattle.std.specs.Str.{chars}
use Rattle.std.specs.String.{string_bytes}
use Rattle.std.proofs.lemmas.List.{map_push}
use Rattle.std.proofs.lemmas.Str.{encodes-chars}
use Rattle.kishu_meaning.specs.values.Texts.{code_points, joined, pieces}
use Rattle.kishu_text.proofs.Cuts.{joined_pieces}
use Rattle.kishu_text.proofs.Found.{some_chars}
use Rattle.kishu_text.proofs.search.split.Goals as goal

pub returns-clause-whole : goal.returns-clause-whole
returns-clause-whole c =
    let part = chars c.args.part.now in
    let text = chars c.args.text.now in
    let old = c.loop-piece.pieces.items in
    let last : pieces part (chars c.loop-piece.rest.now) ≡ chars c.loop-piece.rest.now ∷ [] = c.in_default.ensures.pieces c.requires in
    let grown : code_points c.push-2.new.self.items ≡ code_points old ++ chars c.loop-piece.rest.now ∷ [] =
    ap code_points c.in_ok-push-2.ensures.items ∙ (map_push (λ (s : String _). chars (string_bytes s)) old c.in_ok-owned-2.field-0 ∙ ap (λ (w : List ℕ). code_points old ++ w ∷ []) c.in_ok-owned-2.ensures) in
    let all : code_points c.push-2.new.self.items ≡ pieces part text = grown ∙ (ap (λ (l : List (List ℕ)). code_points old ++ l) (sym last) ∙ c.loop-piece.invariant.1) in
    ap (joined part) all ∙ joined_pieces part text (some_chars part c.args.part.now (encodes-chars c.args.part.now c.utf8.part) c.requires)
