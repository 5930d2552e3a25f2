use Rattle.std.proofs.Common.{◌≡◌, List, ℕ, [], ◌∷◌, ◌++◌, Option, Some, None, IfSome, false, ap, ◌∙◌}
use Rattle.serde_json.specs.View.{view}
use Rattle.serde_json.specs.Data.{Data}
use Rattle.serde_json.specs.Written.{has_float, compact_text}
use Rattle.kishu_model.specs.Answers.{Answer, answer_data, answer_line}
use Rattle.kishu_language.specs.tokens.Lines.{line_feed}
use Rattle.kishu_model.specs.Values.{answer_of}
use Rattle.kishu_lines.proofs.Floats.{no_float}
use Rattle.kishu_lines.proofs.line.write_answer.Goals as goal

-- the text of the value, and a line feed
is_line : (o : Option Answer) (d : Data) (text line : List ℕ) → IfSome o (λ a. d ≡ answer_data a) → (has_float d ≡ false → text ≡ compact_text d) → line ≡ text ++ line_feed ∷ [] → IfSome o (λ a. line ≡ answer_line a)
is_line None d text line is written ends = tt
is_line (Some a) d text line is written ends = ends ∙ ap (λ (t : List ℕ). t ++ line_feed ∷ []) (written (ap has_float is ∙ no_float a) ∙ ap compact_text is)

pub returns : goal.returns
returns c = is_line (answer_of c.args.answer.now) (view c.in_ok-value.value) _ _ c.in_ok-value.ensures c.in_ok-line.ensures.text c.in_ok-push.ensures.items
