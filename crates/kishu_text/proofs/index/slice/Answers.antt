use Rattle.std.proofs.Common.{rules, ◌≡◌, ◌∙◌, ◌<◌, ◌^◌, ap, sym, arith, subst, ℕ, ℤ, pos, ◌≤ℤ◌, ◌<ℤ◌, nat_abs, List, length, to_z, of_z, IfOk}
use mir.Syntax.{w128}
use Rattle.std.specs.Str.{chars}
use Rattle.std.specs.String.{string_bytes}
use Rattle.std.proofs.lemmas.Bool.Decides.{nat_tests}
use Rattle.std.proofs.lemmas.Int.{to_z-of_z}
use Rattle.std.proofs.lemmas.Str.{chars-nil}
use Rattle.kishu_meaning.specs.values.Texts.{places, picked}
use Rattle.kishu_text.specs.PlaceLaws.{first_within, fits, same_place, moved}
use Rattle.kishu_text.proofs.Places.{same_picked}
use Rattle.kishu_text.proofs.index.slice.Goals as goal

pub overflow_cast-start : goal.overflow_cast-start
overflow_cast-start c =
    let start = c.args.start in
    let same : to_z w128 (of_z w128 start) ≡ start = to_z-of_z w128 start (search rules) in
    let some : 0 < c.args.len = grind (arith, nat_tests, c.if-len-eq0.false) in
    let items : c.in_ok-characters.characters.items ≡ chars c.args.text.now = c.in_ok-characters.ensures in
    let size : length (chars c.args.text.now) < 2 ^ 64 = subst (λ (l : List ℕ). length l < 2 ^ 64) items (search rules) in
    let in_range = first_within (length (chars c.args.text.now)) start c.args.step c.args.len some c.requires in
    fits (to_z w128 (of_z w128 start)) (length (chars c.args.text.now)) size (subst (λ (z : ℤ). pos 0 ≤ℤ z) (sym same) in_range.0, subst (λ (z : ℤ). z <ℤ pos (length (chars c.args.text.now))) (sym same) in_range.1)

pub pick-requires : goal.pick-requires
pick-requires c =
    let start = c.args.start in
    let same : to_z w128 (of_z w128 start) ≡ start = to_z-of_z w128 start (search rules) in
    let some : 0 < c.args.len = grind (arith, nat_tests, c.if-len-eq0.false) in
    let items : c.in_ok-characters.characters.items ≡ chars c.args.text.now = c.in_ok-characters.ensures in
    let in_range = first_within (length (chars c.args.text.now)) start c.args.step c.args.len some c.requires in
    moved (length c.deref.result.now) (length (chars c.args.text.now)) (pos (nat_abs (to_z w128 (of_z w128 start)))) start (to_z w128 (of_z w128 c.args.step)) c.args.step c.args.len
    (ap (λ (l : List ℕ). length l) (c.deref.ensures.value ∙ items)) (ap (λ (z : ℤ). pos (nat_abs z)) same ∙ same_place start in_range.0) (to_z-of_z w128 c.args.step (search rules)) c.requires

pub returns : goal.returns
returns c =
    let start = c.args.start in
    let same : to_z w128 (of_z w128 start) ≡ start = to_z-of_z w128 start (search rules) in
    let some : 0 < c.args.len = grind (arith, nat_tests, c.if-len-eq0.false) in
    let items : c.in_ok-characters.characters.items ≡ chars c.args.text.now = c.in_ok-characters.ensures in
    let in_range = first_within (length (chars c.args.text.now)) start c.args.step c.args.len some c.requires in
    let all = same_picked c.deref.result.now (chars c.args.text.now) (pos (nat_abs (to_z w128 (of_z w128 start)))) start (to_z w128 (of_z w128 c.args.step)) c.args.step c.args.len
    (c.deref.ensures.value ∙ items) (ap (λ (z : ℤ). pos (nat_abs z)) same ∙ same_place start in_range.0) (to_z-of_z w128 c.args.step (search rules)) in
    subst (λ (l : List ℕ). IfOk c.pick.result (λ s. chars (string_bytes s) ≡ l)) all c.pick.ensures

pub returns-then-len-eq0 : goal.returns-then-len-eq0
returns-then-len-eq0 c =
    let none : c.args.len ≡ 0 = grind (arith, nat_tests, c.if-len-eq0.true) in
    ap chars c.new.ensures.bytes ∙ chars-nil ∙ sym (ap (λ (n : ℕ). picked (chars c.args.text.now) (places c.args.start c.args.step n)) none)
