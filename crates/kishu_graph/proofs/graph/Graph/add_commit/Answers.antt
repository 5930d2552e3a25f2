use Rattle.std.proofs.Common.{◌≡◌, ◌==◌, ℕ, List, [], ◌∷◌, ◌++◌, length, map, refl, sym, ap, subst, ◌∙◌, arith}
use Rattle.std.proofs.lemmas.List.{length-map, map_push}
use Rattle.std.specs.Prelude.{if◌then◌else◌}
use Rattle.std.specs.String.{string_bytes}
use Rattle.kishu_store.specs.Tables.{no_change}
use Rattle.kishu_graph.specs.declared.commits.Commit as rust
use Rattle.kishu_graph.specs.Buffers.{lines_in}
use Rattle.kishu_graph.specs.Kept.{Kept, Noted, Outline, HasShapeOf, StandsFor, kept_in, note, outline, branches_of, noted_of, with_line, with_lines}
use Rattle.kishu_graph.specs.Heads.{IsHead, at_commit}
use Rattle.kishu_graph.specs.Laws.{count-shape}
use Rattle.kishu_graph.proofs.BufferCuts.{length-lines}
use Rattle.kishu_graph.proofs.Changing.{committed, committed-shape}
use Rattle.kishu_graph.proofs.Counted.{still, same-counts, counts-made}
use Rattle.kishu_graph.proofs.HeadsKept.{head-committed, still-head}
use Rattle.kishu_graph.proofs.LinesKept.{count-told, more-lines, same-lines, still-lines, told-made, told-push}
use Rattle.kishu_graph.proofs.Soundness.{sound-committed, commits-made, note-push}
use Rattle.kishu_graph.proofs.graph.Graph.add_commit.Goals as goal

pub invariant_of-self : goal.invariant_of-self
invariant_of-self c = (
  still _ _ _ _ _ _ _ _ c.self.invariant.0 c.make_room.ensures.commits refl c.make_room.ensures.noted,
  (
    still-head c.self.inside.commits.items c.make_room.new.commits.items c.self.inside.noted.items c.make_room.new.noted.items c.self.inside.head_rows c.self.invariant.1.0 c.make_room.ensures.commits c.make_room.ensures.noted,
    still-lines c.self.inside.lines c.self.inside.lines c.self.inside.commits.items c.make_room.new.commits.items c.self.invariant.1.1 refl refl c.make_room.ensures.commits,
  ),
)

pub invariant_of-self-in_default-reserve : goal.invariant_of-self-in_default-reserve
invariant_of-self-in_default-reserve c = (
  still _ _ _ _ _ _ _ _ c.self.invariant.0 c.make_room.ensures.commits refl c.make_room.ensures.noted,
  (
    still-head c.self.inside.commits.items c.make_room.new.commits.items c.self.inside.noted.items c.make_room.new.noted.items c.self.inside.head_rows c.self.invariant.1.0 c.make_room.ensures.commits c.make_room.ensures.noted,
    still-lines c.self.inside.lines c.reserve.new.self c.self.inside.commits.items c.make_room.new.commits.items c.self.invariant.1.1 c.reserve.ensures.text c.reserve.ensures.ends c.make_room.ensures.commits,
  ),
)

pub invariant_of-self-in_default-move_along : goal.invariant_of-self-in_default-move_along
invariant_of-self-in_default-move_along c = (
  still _ _ _ _ _ _ _ _ c.self.invariant.0 c.make_room.ensures.commits c.in_default-move_along.ensures.err c.make_room.ensures.noted,
  (
    still-head c.self.inside.commits.items c.make_room.new.commits.items c.self.inside.noted.items c.make_room.new.noted.items c.self.inside.head_rows c.self.invariant.1.0 c.make_room.ensures.commits c.make_room.ensures.noted,
    still-lines c.self.inside.lines c.reserve.new.self c.self.inside.commits.items c.make_room.new.commits.items c.self.invariant.1.1 c.reserve.ensures.text c.reserve.ensures.ends c.make_room.ensures.commits,
  ),
)

pub invariant_of-self-2 : goal.invariant_of-self-2
invariant_of-self-2 c =
    let items = c.self.inside.commits.items in
    let k : rust.Commit = record { parent = c.self.inside.head.commit; cells = c.args.cells; profile = c.args.profile } in
    let number : c.len-number.result ≡ length items = omega (arith, c.len-number.ensures, c.self.inside.commits.ok.0) in
    let made = commits-made items c.make_room.new.commits.items c.push_in_room.new.items.items (branches_of c.self.inside.branches.entries) (branches_of c.move_along.new.branches.entries) c.self.inside.head c.self.inside.records c.len-number.result k
    refl c.make_room.ensures.commits c.push_in_room.ensures number c.in-Ok-move_along.ensures.ok
    c.self.inside.noted.items c.make_room.new.noted.items c.push_in_room-2.new.items.items c.bare-bare.result c.make_room.ensures.noted c.push_in_room-2.ensures c.bare-bare.ensures.note in
    let counts = counts-made items c.self.inside.branches.entries c.self.inside.head c.self.inside.records c.self.inside.noted.items c.make_room.new.noted.items c.push_in_room-2.new.items.items c.bare-bare.result c.index.result.now (outline k)
    c.self.invariant.0 refl c.make_room.ensures.noted c.push_in_room-2.ensures c.index.ensures c.bare-bare.ensures.rows in
    let os = map outline items in
    let ns = map note c.self.inside.noted.items in
    let h = c.self.inside.head_rows in
    let at = c.self.inside.head.commit in
    let many : length ns ≡ length os = c.self.invariant.0.0.noted in
    let head = head-committed os ns (outline k) many c.self.invariant.0.0.head h c.self.invariant.1.0 in
    let goes : c.go_on.new.self ≡ at_commit (if h.commit == at then length ns else h.commit) h =
    c.go_on.ensures ∙ ap (λ (n : ℕ). at_commit (if h.commit == at then n else h.commit) h) (number ∙ sym (length-map items outline) ∙ sym many) in
    let stands : IsHead (map outline c.push_in_room.new.items.items) (map note c.push_in_room-2.new.items.items) c.go_on.new.self =
    subst (λ (l : List Outline). IsHead l (map note c.push_in_room-2.new.items.items) c.go_on.new.self) (sym made.commits)
    (subst (λ (l : List Noted). IsHead (os ++ (outline k ∷ [])) l c.go_on.new.self) (sym made.noted)
    (subst (IsHead (os ++ (outline k ∷ [])) (ns ++ (noted_of no_change ∷ []))) (sym goes) head)) in
    let some = c.self.invariant.0.0.head in
    let lines = more-lines c.self.inside.lines c.reserve.new.self c.add.new.self c.args.line.now items c.push_in_room.new.items.items (outline k) c.self.invariant.1.1 c.reserve.ensures.text c.reserve.ensures.ends
    c.add.ensures.cut c.add.ensures.lines c.add.ensures.one (omega (arith, some)) made.commits in
    ((sound-committed _ _ (outline k) c.self.invariant.0.0 (omega (arith, c.if-self-ge-MOST_RECORDS.false)) made, same-counts _ _ _ _ _ counts made.commits made.noted), (stands, lines))

pub returns-clause-number : goal.returns-clause-number
returns-clause-number c g s =
    let inside = subst (λ (k : Kept). HasShapeOf k g) (sym c.self.view_is) s in
    omega (arith, c.len-number.ensures, c.self.inside.commits.ok.0, count-told (lines_in c.self.inside.lines) c.self.inside.commits.items, count-shape _ g inside)

pub returns-clause-shape : goal.returns-clause-shape
returns-clause-shape c g texts s =
    let items = c.self.inside.commits.items in
    let k : rust.Commit = record { parent = c.self.inside.head.commit; cells = c.args.cells; profile = c.args.profile } in
    let number : c.len-number.result ≡ length items = omega (arith, c.len-number.ensures, c.self.inside.commits.ok.0) in
    let made = commits-made items c.make_room.new.commits.items c.push_in_room.new.items.items (branches_of c.self.inside.branches.entries) (branches_of c.move_along.new.branches.entries) c.self.inside.head c.self.inside.records c.len-number.result k
    refl c.make_room.ensures.commits c.push_in_room.ensures number c.in-Ok-move_along.ensures.ok
    c.self.inside.noted.items c.make_room.new.noted.items c.push_in_room-2.new.items.items c.bare-bare.result c.make_room.ensures.noted c.push_in_room-2.ensures c.bare-bare.ensures.note in
    let kept = kept_in items c.self.inside.branches.entries c.self.inside.head c.self.inside.records c.self.inside.noted.items in
    let line = c.args.line.now in
    let lines : lines_in c.add.new.self ≡ lines_in c.self.inside.lines ++ (line ∷ []) =
    c.add.ensures.lines ∙ ap (λ (ls : List (List ℕ)). ls ++ (line ∷ [])) (same-lines c.self.inside.lines c.reserve.new.self c.reserve.ensures.text c.reserve.ensures.ends) in
    let all = told-made c.self.inside.lines kept c.self.invariant.1.1 _ (outline k) (lines_in c.add.new.self) line made lines in
    committed-shape _ _ (with_line line (outline k)) all g texts (subst (λ (k : Kept). HasShapeOf k g) (sym c.self.view_is) s)

pub returns-clause-stands : goal.returns-clause-stands
returns-clause-stands c g texts s cells told =
    let items = c.self.inside.commits.items in
    let k : rust.Commit = record { parent = c.self.inside.head.commit; cells = c.args.cells; profile = c.args.profile } in
    let number : c.len-number.result ≡ length items = omega (arith, c.len-number.ensures, c.self.inside.commits.ok.0) in
    let made = commits-made items c.make_room.new.commits.items c.push_in_room.new.items.items (branches_of c.self.inside.branches.entries) (branches_of c.move_along.new.branches.entries) c.self.inside.head c.self.inside.records c.len-number.result k
    refl c.make_room.ensures.commits c.push_in_room.ensures number c.in-Ok-move_along.ensures.ok
    c.self.inside.noted.items c.make_room.new.noted.items c.push_in_room-2.new.items.items c.bare-bare.result c.make_room.ensures.noted c.push_in_room-2.ensures c.bare-bare.ensures.note in
    let kept = kept_in items c.self.inside.branches.entries c.self.inside.head c.self.inside.records c.self.inside.noted.items in
    let line = c.args.line.now in
    let lines : lines_in c.add.new.self ≡ lines_in c.self.inside.lines ++ (line ∷ []) =
    c.add.ensures.lines ∙ ap (λ (ls : List (List ℕ)). ls ++ (line ∷ [])) (same-lines c.self.inside.lines c.reserve.new.self c.reserve.ensures.text c.reserve.ensures.ends) in
    let all = told-made c.self.inside.lines kept c.self.invariant.1.1 _ (outline k) (lines_in c.add.new.self) line made lines in
    committed _ _ (with_line line (outline k)) all g texts (subst (λ (k : Kept). StandsFor k g) (sym c.self.view_is) s) cells told

pub returns-clause-added : goal.returns-clause-added
returns-clause-added c =
    let items = c.self.inside.commits.items in
    let line = c.args.line.now in
    let k : rust.Commit = record { parent = c.self.inside.head.commit; cells = c.args.cells; profile = c.args.profile } in
    let lines : lines_in c.add.new.self ≡ lines_in c.self.inside.lines ++ (line ∷ []) =
    c.add.ensures.lines ∙ ap (λ (ls : List (List ℕ)). ls ++ (line ∷ [])) (same-lines c.self.inside.lines c.reserve.new.self c.reserve.ensures.text c.reserve.ensures.ends) in
    let commits : map outline c.push_in_room.new.items.items ≡ map outline items ++ (outline k ∷ []) =
    ap (map outline) (c.push_in_room.ensures ∙ ap (λ (l : List rust.Commit). l ++ (k ∷ [])) c.make_room.ensures.commits) ∙ map_push outline items k in
    let each = c.self.invariant.1.1.each in
    ap (λ (ls : List (List ℕ)). with_lines ls (map outline c.push_in_room.new.items.items)) lines
    ∙ ap (with_lines (lines_in c.self.inside.lines ++ (line ∷ []))) commits
    ∙ told-push (lines_in c.self.inside.lines) (map outline items) line (outline k) (length-lines 0 c.self.inside.lines.ends.items (string_bytes c.self.inside.lines.text) ∙ each)
    ∙ ap (λ (old : Kept). old.commits ++ (record { parent = old.head.commit; profile = c.args.profile; cells = c.args.cells; line = line } ∷ [])) c.self.view_is

pub returns-clause-noted : goal.returns-clause-noted
returns-clause-noted c =
    note-push c.self.inside.noted.items c.make_room.new.noted.items c.push_in_room-2.new.items.items c.bare-bare.result c.make_room.ensures.noted c.push_in_room-2.ensures c.bare-bare.ensures.note
    ∙ ap (λ (old : Kept). old.noted ++ (noted_of no_change ∷ [])) c.self.view_is
