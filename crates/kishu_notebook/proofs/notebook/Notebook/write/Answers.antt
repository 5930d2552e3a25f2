use Rattle.std.proofs.Common.{ℕ, List, [], ◌∷◌, ◌++◌, ap, ◌∙◌}
use Rattle.json.specs.Layout.{pretty}
use Rattle.serde_json.proofs.Texts.{tokens_from_order}
use Rattle.serde_json.specs.View.{view}
use Rattle.kishu_language.specs.tokens.Lines.{line_feed}
use Rattle.kishu_notebook.proofs.notebook.Notebook.write.Goals as goal

pub returns : goal.returns
returns c =
    let text = c.in_ok-bytes.ensures in
    c.in_ok-push.ensures.items
    ∙ ap (λ (t : List ℕ). t ++ line_feed ∷ []) (text.layout ∙ ap pretty (tokens_from_order c.in_ok-bytes.bytes.items (view c.args.self.now.value) text.order c.args.self.now.whole))
