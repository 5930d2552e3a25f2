use Rattle.std.proofs.Common.{◌≡◌, ℕ, List, [], ◌∷◌, ◌++◌, map, sym, ap, ◌∙◌, subst}
use Rattle.std.specs.List.{AllByRecursion}
use Rattle.std.specs.declared.alloc.Global.{Global}
use Rattle.std.specs.declared.rc.RcStr.{RcStr}
use Rattle.std.specs.declared.vec.Vec.{Vec}
use Rattle.kishu_language.specs.declared.profile.Profile.TheVariants.{One}
use Rattle.kishu_record.specs.declared.entry.Entry as program
use Rattle.kishu_record.specs.declared.entry.Entry.TheVariants.{Commit}
use Rattle.kishu_record.specs.Entries.{entry_of, texts_of, stored_of, groups_of, all_stored_of}
use Rattle.kishu_store.specs.Entries.{commit}
use Rattle.kishu_store.specs.Groups.{Group}
use Rattle.kishu_store.specs.Rules.{IsEntry}
use Rattle.kishu_journal.specs.Found.{entries_of}
use Rattle.kishu_store_tests.proofs.Pictured.{a_text, a_group, pictured, pictured-entry}
use Rattle.kishu_store_tests.proofs.journal.one_picture.Goals as goal

pub returns-clause-rules : goal.returns-clause-rules
returns-clause-rules c =
    let cells = c.in_ok-cells.cells in
    let names = c.in_ok-names.names in
    let stored = c.push.new.self in
    let dropped = c.new-dropped.result in
    let len = c.args.len in
    let entry : program.Entry = Commit 0 One cells dropped stored in
    let one : c.push-2.new.self.items ≡ (25, entry) ∷ [] = c.in_ok-push-2.ensures.items ∙ ap (λ (l : List (ℕ × program.Entry)). l ++ ((25, entry) ∷ [])) c.new-found.ensures.items in
    let rows : stored.items ≡ (names, len) ∷ [] = c.in_ok-push.ensures.items ∙ ap (λ (l : List (Vec (RcStr Global) Global × ℕ)). l ++ ((names, len) ∷ [])) c.new-stored.ensures.items in
    let texts : texts_of cells ≡ a_text ∷ [] = c.in_ok-cells.ensures in
    let group : texts_of names ≡ a_group = c.in_ok-names.ensures in
    let is : entry_of entry ≡ pictured len =
    ap (λ (ts : List (List ℕ)). commit 0 One ts (groups_of dropped) (all_stored_of stored)) texts
    ∙ ap (λ (gs : List (Vec (RcStr Global) Global)). commit 0 One (a_text ∷ []) (map texts_of gs) (all_stored_of stored)) c.new-dropped.ensures.items
    ∙ ap (λ (ss : List (Vec (RcStr Global) Global × ℕ)). commit 0 One (a_text ∷ []) [] (map stored_of ss)) rows
    ∙ ap (λ (g : Group). commit 0 One (a_text ∷ []) [] ((g, len) ∷ [])) group in
    subst (λ (ps : List (ℕ × program.Entry)). AllByRecursion IsEntry (entries_of ps)) (sym one) (subst IsEntry (sym is) (pictured-entry len c.ranges.len.fits), tt)
