use Rattle.std.proofs.Common.{◌≡◌, ◌+◌, ℕ, List, [], ◌∷◌, map, drop, string_bytes, sym, ap, ◌∙◌, rules}
use Rattle.std.proofs.lemmas.List.{at_drop_more}
use Rattle.std.proofs.Math.ListN.{drop_of_length-le}
use Rattle.std.specs.Rc.{rc_str_bytes}
use Rattle.std.specs.declared.alloc.Global.{Global}
use Rattle.std.specs.declared.rc.RcStr.{RcStr}
use Rattle.serde_json.proofs.Views.{members_view-insert_entry, view-Object}
use Rattle.serde_json.specs.Data.{Data, object, put, string}
use Rattle.serde_json.specs.View.{members_view, view}
use Rattle.kishu_model.specs.Answers.{with_texts}
use Rattle.kishu_model.specs.Values.{named_of}
use Rattle.kishu_lines.proofs.answers.named_json.Goals as goal

pub loop-named-preserved : goal.loop-named-preserved
loop-named-preserved c =
    let l = c.loop-named in
    let names = c.args.names.now in
    let b = c.named-item.result in
    let rest = drop (l.named-index + 1) names in
    let told = members_view l.members.entries in
    let name : string_bytes c.in_ok-name.name ≡ rc_str_bytes b.0 = search rules in
    let added : members_view c.insert.new.self.entries ≡ put (rc_str_bytes b.0) (string (rc_str_bytes b.1)) told =
    ap members_view c.in_ok-insert.ensures.entries
    ∙ members_view-insert_entry l.members.entries c.in_ok-name.name c.in_ok-text.text
    ∙ ap (λ (k : List ℕ). put k (view c.in_ok-text.text) told) name
    ∙ ap (λ (d : Data). put (rc_str_bytes b.0) d told) c.in_ok-text.ensures in
    ap (with_texts (map named_of rest)) added
    ∙ ap (λ (x : RcStr Global × RcStr Global). with_texts (map named_of (x ∷ rest)) told) c.named-item.is
    ∙ sym (at_drop_more (λ (bs : List (RcStr Global × RcStr Global)). with_texts (map named_of bs) told) names l.named-index b c.loop-named-test.true)
    ∙ l.invariant

pub returns : goal.returns
returns c =
    let l = c.loop-named in
    let none : drop l.named-index c.args.names.now ≡ [] = drop_of_length-le c.args.names.now c.loop-named-test.false in
    view-Object l.members
    ∙ ap object (sym (ap (λ (bs : List (RcStr Global × RcStr Global)). with_texts (map named_of bs) (members_view l.members.entries)) none) ∙ l.invariant)
