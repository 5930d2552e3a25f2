use Rattle.std.proofs.Common.{◌≡◌, ◌∙◌, ap, rules, List, ℕ, [], ◌∷◌, ◌++◌}
use Rattle.std.specs.String.{string_bytes}
use Rattle.hex.specs.Hex.{encode_lower}
use Rattle.serde_json.specs.Written.{has_float, compact_text}
use Rattle.kishu_model.specs.generated.Run.{summary_data}
use Rattle.kishu_gen.proofs.summary.Summary.line.Goals as goal

pub returns : goal.returns
returns c lines held =
    let same : c.deref.result.now ≡ string_bytes c.in_ok-digest.digest = search rules in
    let digest = same ∙ c.in_ok-digest.ensures ∙ ap encode_lower (c.finalize.ensures lines held) in
    let is = c.in_ok-value.ensures ∙ ap (summary_data c.args.commits c.args.records) digest in
    c.in_ok-push.ensures.items ∙ ap (λ (t : List ℕ). t ++ 10 ∷ []) (c.in_ok-line.ensures.text (ap has_float is) ∙ ap compact_text is)
