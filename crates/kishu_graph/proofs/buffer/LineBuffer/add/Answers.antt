use Rattle.std.proofs.Common.{◌≡◌, ◌+◌, ◌∷◌, ◌++◌, ◌∙◌, [], ℕ, List, length, ap, sym, subst, arith, length-append}
use Rattle.std.proofs.lemmas.Str.{IsUtf8-string_bytes}
use Rattle.std.specs.String.{string_bytes}
use Rattle.kishu_graph.specs.Buffers.{AreCut, lines_from}
use Rattle.kishu_graph.proofs.BufferCuts.{lines-more, cuts-more}
use Rattle.kishu_graph.proofs.buffer.LineBuffer.add.Goals as goal

pub returns-clause-cut : goal.returns-clause-cut
returns-clause-cut c =
    let b = c.args.self.now in
    let text = string_bytes b.text in
    let line = c.args.line.now in
    let end : c.append-end.result ≡ length text + length line = c.append-end.ensures.end ∙ ap length c.append-end.ensures.bytes ∙ length-append text line in
    let ends : c.push_in_room.new.items.items ≡ b.ends.items ++ ((length text + length line) ∷ []) = c.push_in_room.ensures ∙ ap (λ (n : ℕ). b.ends.items ++ (n ∷ [])) end in
    subst (λ (t : List ℕ). AreCut 0 c.push_in_room.new.items.items t) (sym c.append-end.ensures.bytes)
    (subst (λ (es : List ℕ). AreCut 0 es (text ++ line)) (sym ends) (cuts-more text line (IsUtf8-string_bytes b.text) c.utf8.line 0 b.ends.items c.requires.cut))

pub returns-clause-lines : goal.returns-clause-lines
returns-clause-lines c =
    let b = c.args.self.now in
    let text = string_bytes b.text in
    let line = c.args.line.now in
    let end : c.append-end.result ≡ length text + length line = c.append-end.ensures.end ∙ ap length c.append-end.ensures.bytes ∙ length-append text line in
    let ends : c.push_in_room.new.items.items ≡ b.ends.items ++ ((length text + length line) ∷ []) = c.push_in_room.ensures ∙ ap (λ (n : ℕ). b.ends.items ++ (n ∷ [])) end in
    ap (lines_from 0 c.push_in_room.new.items.items) c.append-end.ensures.bytes
    ∙ ap (λ (es : List ℕ). lines_from 0 es (text ++ line)) ends
    ∙ lines-more text line 0 b.ends.items c.requires.cut

pub returns-clause-one : goal.returns-clause-one
returns-clause-one c = omega (arith, ap length c.push_in_room.ensures, length-append c.args.self.now.ends.items (c.append-end.result ∷ []))
