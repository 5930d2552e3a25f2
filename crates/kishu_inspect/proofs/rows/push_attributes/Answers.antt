use Rattle.std.proofs.Common.{◌≡◌, ◌+◌, ◌∷◌, ◌++◌, List, drop, sym, ap, ◌∙◌, rules}
use Rattle.std.specs.Rc.{rc_str_bytes}
use Rattle.std.specs.declared.alloc.Global.{Global}
use Rattle.std.specs.declared.rc.RcStr.{RcStr}
use Rattle.kishu_meaning.specs.declared.value.Value as rust
use Rattle.kishu_model.specs.requests.Inspect.{value_text}
use Rattle.kishu_names.specs.Record.{texts_of}
use Rattle.kishu_inspect.specs.Told.{attributes_told, placed}
use Rattle.kishu_inspect.proofs.Pushing.{pushed, rest_at}
use Rattle.kishu_inspect.proofs.rows.push_attributes.Goals as goal

pub loop-i-preserved : goal.loop-i-preserved
loop-i-preserved c =
    let l = c.loop-i in
    let found = c.args.found.now.keys in
    let es = c.args.attributes.now.entries in
    let all = texts_of c.args.texts.now.items ++ attributes_told found es in
    let rest = attributes_told found (drop (l.i + 1) es) in
    let name = rc_str_bytes c.in-Some.name.now in
    let value = value_text (placed found c.in-Some.value.now) in
    let copied : rc_str_bytes c.in_ok-clone.field-0 ≡ name = search rules in
    let before : texts_of l.texts.items ++ (name ∷ value ∷ rest) ≡ all =
    ap (λ (ds : List (RcStr Global × rust.Value)). texts_of l.texts.items ++ attributes_told found ds)
    (sym (rest_at es l.i (c.in-Some.name.now, c.in-Some.value.now) (sym c.in-Some.ensures.entry)))
    ∙ l.invariant in
    pushed c.push.new.self.items c.push-in-loop-i.new.self.items c.in_ok-value_text.field-0 value rest all
    (pushed l.texts.items c.push.new.self.items c.in_ok-clone.field-0 name (value ∷ rest) all
    before c.in_ok-push.ensures.items copied)
    c.in_ok-push-2.ensures.items c.in_ok-value_text.ensures
