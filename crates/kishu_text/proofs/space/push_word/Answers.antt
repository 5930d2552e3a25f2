use Rattle.std.proofs.Common.{◌≡◌, ◌∙◌, ◌<◌, ap, sym, arith, Bool, cond, ℕ, List, [], ◌∷◌, ◌++◌, length, eqb-true, filter, String}
use Rattle.std.specs.Str.{chars}
use Rattle.std.specs.String.{string_bytes}
use Rattle.std.proofs.lemmas.List.{append-nil, map_push, nil_from_length}
use Rattle.std.proofs.lemmas.Str.{chars-nil, encodes-chars}
use Rattle.std.proofs.lemmas.Bool.Decides.{nat_tests}
use Rattle.kishu_meaning.specs.values.Texts.{code_points, is_nonempty}
use Rattle.kishu_text.proofs.Found.{some_chars}
use Rattle.kishu_text.proofs.White.{nonempty}
use Rattle.kishu_text.proofs.space.push_word.Goals as goal

pub returns-then-is_empty : goal.returns-then-is_empty
returns-then-is_empty c =
    let size : length c.args.word.now ≡ 0 = eqb-true (length c.args.word.now) 0 (sym c.is_empty.ensures ∙ c.if-is_empty.true) in
    let none : chars c.args.word.now ≡ [] = ap chars (nil_from_length c.args.word.now size) ∙ chars-nil in
    sym (ap (λ (w : List ℕ). code_points c.args.words.now.items ++ filter is_nonempty (w ∷ [])) none ∙ append-nil (code_points c.args.words.now.items))

pub returns : goal.returns
returns c =
    let old = c.args.words.now.items in
    let some : 0 < length c.args.word.now = grind (arith, nat_tests, c.is_empty.ensures, c.if-is_empty.false) in
    let kept : is_nonempty (chars c.args.word.now) ≡ _ = nonempty (chars c.args.word.now) (some_chars (chars c.args.word.now) c.args.word.now (encodes-chars c.args.word.now c.utf8.word) some) in
    ap code_points c.in_ok-push.ensures.items ∙ map_push (λ (s : String _). chars (string_bytes s)) old c.in_ok-owned.field-0
    ∙ (ap (λ (w : List ℕ). code_points old ++ w ∷ []) c.in_ok-owned.ensures ∙ sym (ap (λ (b : Bool). code_points old ++ cond b (chars c.args.word.now ∷ []) []) kept))
