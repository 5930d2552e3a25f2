use Rattle.std.proofs.Common.{◌≡◌, ◌∙◌, ◌∷◌, [], List, ℕ, true, false, map, ap, sym, subst}
use Rattle.std.specs.Rc.{rc_str_bytes}
use Rattle.std.specs.BTreeMap.{insert_entry}
use Rattle.kishu_language.specs.tokens.Names.{is_among}
use Rattle.kishu_store.specs.Groups.{first_name}
use Rattle.kishu_store.specs.Tables.{Row, first_in}
use Rattle.kishu_graph.specs.Kept.{row_of}
use Rattle.kishu_graph.specs.Walks.{rows_in, StandAtFirst, all_texts, HaveFound}
use Rattle.kishu_graph.proofs.Gone.{by_text, among_texts}
use Rattle.kishu_graph.proofs.FoundRows.{stand-more, found-one, found-none}
use Rattle.kishu_graph.proofs.walking.find_row.Goals as goal

pub returns-then-contains-clause-found : goal.returns-then-contains-clause-found
returns-then-contains-clause-found c =
    let row = row_of c.args.row.now in
    let keys = c.args.gone.now.keys in
    let first : first_in row ≡ rc_str_bytes c.in_ok-name.name = ap (λ l. first_name (map rc_str_bytes l)) (sym c.deref.ensures.value) ∙ sym c.in_ok-name.ensures in
    let there : is_among (first_in row) (all_texts keys) ≡ true =
    ap (λ (x : List ℕ). is_among x (all_texts keys)) (first ∙ sym c.as_str.ensures.value) ∙ sym (among_texts c.as_str.result.now keys) ∙ sym c.contains.ensures ∙ c.if-contains.true in
    found-none (all_texts keys) row (rows_in c.args.found.now.entries) there

pub returns-clause-stand : goal.returns-clause-stand
returns-clause-stand c =
    let first : first_in (row_of c.args.row.now) ≡ rc_str_bytes c.in_ok-name.name = ap (λ l. first_name (map rc_str_bytes l)) (sym c.deref.ensures.value) ∙ sym c.in_ok-name.ensures in
    subst StandAtFirst (sym c.in_ok-insert.ensures.entries) (stand-more c.in_ok-name.name c.in_ok-copied.field-0 (ap first_in c.in_ok-copied.ensures ∙ first) c.args.found.now.entries c.requires)

pub returns-clause-found : goal.returns-clause-found
returns-clause-found c =
    let row = row_of c.args.row.now in
    let copy = c.in_ok-copied.field-0 in
    let name = c.in_ok-name.name in
    let keys = c.args.gone.now.keys in
    let old = c.args.found.now.entries in
    let first : first_in row ≡ rc_str_bytes name = ap (λ l. first_name (map rc_str_bytes l)) (sym c.deref.ensures.value) ∙ sym c.in_ok-name.ensures in
    let left : is_among (first_in row) (all_texts keys) ≡ false =
    ap (λ (x : List ℕ). is_among x (all_texts keys)) (first ∙ sym c.as_str.ensures.value) ∙ sym (among_texts c.as_str.result.now keys) ∙ sym c.contains.ensures ∙ c.if-contains.false in
    let same : row_of copy ≡ row = c.in_ok-copied.ensures in
    let found = found-one name copy (ap first_in same ∙ first) (all_texts keys) old c.requires (ap (λ (r : Row). is_among (first_in r) (all_texts keys)) same ∙ left) in
    subst (λ es. HaveFound (all_texts keys) (row ∷ []) (rows_in old) (rows_in es)) (sym c.in_ok-insert.ensures.entries)
    (subst (λ (r : Row). HaveFound (all_texts keys) (r ∷ []) (rows_in old) (rows_in (insert_entry by_text old name copy))) same found)
