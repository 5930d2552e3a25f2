use Rattle.std.proofs.Common.{◌≡◌, ◌+◌, ◌∷◌, ◌++◌, List, drop, sym, ap, ◌∙◌}
use Rattle.std.specs.Str.{encode_utf8_all}
use Rattle.kishu_meaning.specs.comparing.Show.{key_text}
use Rattle.kishu_meaning.specs.declared.key.Key as rust_key
use Rattle.kishu_meaning.specs.declared.value.Value as rust
use Rattle.kishu_meaning.specs.values.Keys.{key_of}
use Rattle.kishu_model.specs.requests.Inspect.{value_text}
use Rattle.kishu_names.specs.Record.{texts_of}
use Rattle.kishu_inspect.specs.Told.{entries_told, placed}
use Rattle.kishu_inspect.proofs.Pushing.{pushed, rest_at}
use Rattle.kishu_inspect.proofs.rows.push_entries.Goals as goal

pub loop-i-preserved : goal.loop-i-preserved
loop-i-preserved c =
    let l = c.loop-i in
    let found = c.args.found.now.keys in
    let es = c.args.entries.now.entries in
    let all = texts_of c.args.texts.now.items ++ entries_told found es in
    let rest = entries_told found (drop (l.i + 1) es) in
    let key = encode_utf8_all (key_text (key_of c.in-Some.key.now)) in
    let value = value_text (placed found c.in-Some.value.now) in
    let before : texts_of l.texts.items ++ (key ∷ value ∷ rest) ≡ all =
    ap (λ (ds : List (rust_key.Key × rust.Value)). texts_of l.texts.items ++ entries_told found ds)
    (sym (rest_at es l.i (c.in-Some.key.now, c.in-Some.value.now) (sym c.in-Some.ensures.entry)))
    ∙ l.invariant in
    pushed c.push.new.self.items c.push-in-loop-i.new.self.items c.in_ok-value_text.field-0 value rest all
    (pushed l.texts.items c.push.new.self.items c.in_ok-key_repr.field-0 key (value ∷ rest) all
    before c.in_ok-push.ensures.items c.in_ok-key_repr.ensures)
    c.in_ok-push-2.ensures.items c.in_ok-value_text.ensures
