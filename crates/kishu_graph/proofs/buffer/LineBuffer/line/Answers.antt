use Rattle.std.proofs.Common.{◌∷◌, ◌∙◌, ℕ, List, get_or, ap, sym, subst, arith}
use Rattle.std.proofs.lemmas.Str.{IsCharBoundary-start, IsUtf8-string_bytes}
use Rattle.std.specs.Prelude.{slice_range}
use Rattle.std.specs.Str.{IsCharBoundary}
use Rattle.std.specs.String.{string_bytes}
use Rattle.kishu_graph.proofs.BufferCuts.{line-there, cut-there}
use Rattle.kishu_graph.proofs.buffer.LineBuffer.line.Goals as goal

pub range-requires-clause-start_le_end : goal.range-requires-clause-start_le_end
range-requires-clause-start_le_end c =
    let b = c.args.self.now in
    let text = string_bytes b.text in
    let cut = cut-there 0 b.ends.items text c.args.number 0 c.index.result.now c.requires.there (IsCharBoundary-start text (IsUtf8-string_bytes b.text)) c.requires.cut in
    let rise = cut.0 in
    omega (arith, rise, c.start.ensures, c.index.ensures)

pub range-requires-clause-start_boundary : goal.range-requires-clause-start_boundary
range-requires-clause-start_boundary c some =
    let b = c.args.self.now in
    let text = string_bytes b.text in
    let cut = cut-there 0 b.ends.items text c.args.number 0 c.index.result.now c.requires.there (IsCharBoundary-start text (IsUtf8-string_bytes b.text)) c.requires.cut in
    subst (λ (t : List ℕ). IsCharBoundary t c.start.result) (sym c.as_str.ensures.value) (subst (IsCharBoundary text) (sym c.start.ensures) cut.1.0)

pub range-requires-clause-end_boundary : goal.range-requires-clause-end_boundary
range-requires-clause-end_boundary c =
    let b = c.args.self.now in
    let text = string_bytes b.text in
    let cut = cut-there 0 b.ends.items text c.args.number 0 c.index.result.now c.requires.there (IsCharBoundary-start text (IsUtf8-string_bytes b.text)) c.requires.cut in
    subst (λ (t : List ℕ). IsCharBoundary t c.index.result.now) (sym c.as_str.ensures.value) (subst (IsCharBoundary text) (sym c.index.ensures) cut.1.1)

pub returns : goal.returns
returns c =
    let b = c.args.self.now in
    let text = string_bytes b.text in
    let end = c.index.result.now in
    c.range.ensures.value
    ∙ ap (λ (t : List ℕ). slice_range t c.start.result end) c.as_str.ensures.value
    ∙ ap (λ (n : ℕ). slice_range text n end) c.start.ensures
    ∙ ap (slice_range text (get_or (0 ∷ b.ends.items) c.args.number 0)) c.index.ensures
    ∙ sym (line-there 0 b.ends.items text c.args.number 0 end c.requires.there)
