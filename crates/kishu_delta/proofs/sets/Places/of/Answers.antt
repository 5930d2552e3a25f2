use Rattle.std.proofs.Common.{◌∙◌, ℕ, List, ap}
use Rattle.kishu_names.specs.Record.{texts_of}
use Rattle.kishu_store.specs.Groups.{Group}
use Rattle.kishu_delta.specs.Found.{found}
use Rattle.kishu_delta.proofs.Keys.{finds, seen_alike}
use Rattle.kishu_delta.proofs.sets.Places.of.Goals as goal

pub returns : goal.returns
returns c =
    let group = c.args.group.now in
    c.copied.ensures ∙ c.get.ensures.value
    ∙ seen_alike _ ∙ finds (λ (n : ℕ). n) group c.self.inside.places.entries
    ∙ ap (λ (ps : List (Group × ℕ)). found ps (texts_of group)) c.self.view_is
