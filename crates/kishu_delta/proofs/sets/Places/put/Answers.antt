use Rattle.std.proofs.Common.{◌∙◌, ℕ, List, ap}
use Rattle.std.specs.Prelude.{if◌then◌else◌, Some}
use Rattle.kishu_store.specs.Groups.{Group, is_group}
use Rattle.kishu_delta.specs.Found.{found, found_as, group_of}
use Rattle.kishu_delta.proofs.Keys.{Texts, puts}
use Rattle.kishu_delta.proofs.sets.Places.put.Goals as goal

pub returns : goal.returns
returns c = λ h.
    let group = group_of c.args.group in
    let old = c.self.inside.places.entries in
    ap (λ (es : List (Texts × ℕ)). found (found_as (λ (n : ℕ). n) es) h) c.in_ok-insert.ensures.entries
    ∙ puts (λ (n : ℕ). n) c.args.group c.args.place old h
    ∙ ap (λ (ps : List (Group × ℕ)). if is_group h group then Some c.args.place else found ps h) c.self.view_is
