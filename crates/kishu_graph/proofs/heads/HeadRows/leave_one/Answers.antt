use Rattle.std.proofs.Common.{◌≡◌, ◌<◌, ◌∙◌, ◌∷◌, [], Bool, true, false, Some, None, length, map, ap, sym, arith}
use Rattle.std.proofs.lemmas.Bool.{false≢true}
use Rattle.std.proofs.lemmas.List.{length-map}
use Rattle.std.specs.Prelude.{not, ◌||◌, option_map}
use Rattle.std.specs.Rc.{rc_str_bytes}
use Rattle.kishu_language.specs.tokens.Names.{is_among}
use Rattle.kishu_store.specs.Groups.{Group, first_name, is_group}
use Rattle.kishu_store.specs.Tables.{Table, names_in, bytes_in}
use Rattle.kishu_store_laws.specs.WalkLaws.{rows_left}
use Rattle.kishu_graph.specs.Kept.{row_of}
use Rattle.kishu_graph.specs.Walks.{all_texts}
use Rattle.kishu_graph.proofs.Gone.{among_append}
use Rattle.kishu_graph.proofs.HeldFits.{is-other, is-there, names-freed, not-there, row-left}
use Rattle.kishu_graph.proofs.RowsLeft.{row_at, bytes-left, left-each, left-left, row-found-at}
use Rattle.kishu_graph.proofs.Stays.{same-group}
use Rattle.kishu_graph.proofs.heads.HeadRows.leave_one.Goals as goal

some_names : (g : Group) → 0 < length g → g ≡ [] → ⊥
some_names g some e = (let n = ap length e in omega (arith, some, n))

pub returns-in_default-clause-leaves : goal.returns-in_default-clause-leaves
returns-in_default-clause-leaves c t firsts s h fresh l =
    let x = c.as_str.result.now in
    let d = map rc_str_bytes c.args.group.now in
    let first : x ≡ first_name d = c.as_str.ensures.value ∙ c.in_ok-first.ensures in
    let none : row_at (first_name d) t ≡ None =
    ap (λ y. row_at y t) (sym first) ∙ ap (row_at x) (sym h.rows) ∙ sym (row-found-at x c.args.self.now.rows.entries c.requires.stand) ∙ ap (option_map row_of) (sym c.in_default.ensures.value) in
    (sym (not-there t d s none (some_names d (omega (arith, c.requires.some, length-map c.args.group.now rc_str_bytes)))), λ e. absurd (false≢true e))

pub returns-then-not-are_same-clause-leaves : goal.returns-then-not-are_same-clause-leaves
returns-then-not-are_same-clause-leaves c t firsts s h fresh l =
    let x = c.as_str.result.now in
    let d = map rc_str_bytes c.args.group.now in
    let r = row_of c.in-Some.row.now in
    let first : x ≡ first_name d = c.as_str.ensures.value ∙ c.in_ok-first.ensures in
    let at : row_at (first_name d) t ≡ Some r =
    ap (λ y. row_at y t) (sym first) ∙ ap (row_at x) (sym h.rows) ∙ sym (row-found-at x c.args.self.now.rows.entries c.requires.stand) ∙ ap (option_map row_of) (sym c.in-Some.ensures.value) in
    let no : is_group r.group d ≡ false = ap (λ l. is_group (map rc_str_bytes l) d) (sym c.deref.ensures.value) ∙ sym c.are_same.ensures ∙ c.if-not-are_same.true in
    (sym (is-other t d r s at no), λ e. absurd (false≢true e))

pub returns-clause-leaves : goal.returns-clause-leaves
returns-clause-leaves c t firsts s h fresh l =
    let x = c.as_str.result.now in
    let d = map rc_str_bytes c.args.group.now in
    let r = row_of c.in-Some.row.now in
    let first : x ≡ first_name d = c.as_str.ensures.value ∙ c.in_ok-first.ensures in
    let at : row_at (first_name d) t ≡ Some r =
    ap (λ y. row_at y t) (sym first) ∙ ap (row_at x) (sym h.rows) ∙ sym (row-found-at x c.args.self.now.rows.entries c.requires.stand) ∙ ap (option_map row_of) (sym c.in-Some.ensures.value) in
    let same : is_group r.group d ≡ true = ap (λ l. is_group (map rc_str_bytes l) d) (sym c.deref.ensures.value) ∙ sym c.are_same.ensures ∙ c.if-not-are_same.false in
    let group : r.group ≡ d = (same-group r.group d).0 same in
    let now = rows_left firsts t in
    let apart = left-each firsts t s in
    let here : row_at (first_name d) now ≡ Some r = row-left (first_name d) firsts t fresh ∙ at in
    let names = c.args.self.now.names.keys in
    let old = c.args.left.now.gone.keys in
    let new = c.put_names.new.among.keys in
    let bytes = bytes-left (first_name d) now r apart.rise here in
    let further = left-left firsts (first_name d ∷ []) t in
    let least = ap bytes_in further in
    let room = l.room in (
      sym (is-there t d r at same),
      λ e. record {
        names = λ z.
            ap (λ (u : Table). is_among z (names_in u)) (sym further)
            ∙ names-freed (first_name d) now r z (is_among z (all_texts names)) (is_among z (all_texts old)) apart here (l.names z)
            ∙ ap (λ (g : Group). not (not (is_among z (all_texts names)) || (is_among z g || is_among z (all_texts old)))) group
            ∙ ap (λ (b : Bool). not (not (is_among z (all_texts names)) || b)) (sym (c.in_ok-put_names.ensures z ∙ among_append z d (all_texts old)));
        room = (let sum = c.room_with-left.ensures.sum (omega (arith, room, bytes)) in omega (arith, sum, room, bytes, least));
      },
    )
