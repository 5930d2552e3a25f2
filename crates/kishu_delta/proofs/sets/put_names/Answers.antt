use Rattle.std.proofs.Common.{◌≡◌, ◌∙◌, ◌++◌, ◌∷◌, [], List, ℕ, get_or, take, ap, sym, subst}
use Rattle.std.proofs.lemmas.List.{map_more}
use Rattle.std.specs.Rc.{rc_str_bytes}
use Rattle.std.specs.declared.alloc.Global.{Global}
use Rattle.std.specs.declared.rc.RcStr.{RcStr}
use Rattle.kishu_names.specs.Record.{texts_of}
use Rattle.kishu_delta.specs.Sets.{HasNames}
use Rattle.kishu_delta.proofs.Keys.{name_more}
use Rattle.kishu_delta.proofs.sets.put_names.Goals as goal

pub loop-name-preserved : goal.loop-name-preserved
loop-name-preserved c =
    let names = c.args.names.now in
    let at = c.loop-name.name-index in
    let item = c.name-item.result in
    let key = c.in_ok-clone.field-0 in
    let old = texts_of c.args.set.now.keys in
    let here : rc_str_bytes key ≡ rc_str_bytes (get_or names at item) = c.in_ok-clone.ensures.cases ∙ ap rc_str_bytes c.name-item.is in
    let one = name_more (texts_of (take at names)) key (rc_str_bytes (get_or names at item)) old c.loop-name.set.keys here c.loop-name.invariant in
    let more = subst (λ (ks : List (RcStr Global)). HasNames (texts_of (take at names) ++ (rc_str_bytes (get_or names at item) ∷ [])) old (texts_of ks)) (sym c.in_ok-insert.ensures.keys) one in
    subst (λ (l : List (List ℕ)). HasNames l old (texts_of c.insert.new.self.keys)) (sym (map_more rc_str_bytes names at item c.loop-name-test.true)) more
