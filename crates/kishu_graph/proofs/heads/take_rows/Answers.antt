use Rattle.std.proofs.Common.{◌≡◌, ◌∙◌, map, ap, sym, subst, arith}
use Rattle.std.proofs.lemmas.List.{length-map}
use Rattle.std.proofs.lemmas.Result.{IfOk-weaker}
use Rattle.kishu_store.specs.Tables.{IsKeptTable, table_at, change_of}
use Rattle.kishu_graph.specs.Fits.{rows_of}
use Rattle.kishu_graph.specs.Heads.{Holds, IsHead, IsMade}
use Rattle.kishu_graph.specs.Kept.{outline, note}
use Rattle.kishu_graph.proofs.HeadsKept.{root-head}
use Rattle.kishu_graph.proofs.heads.take_rows.Goals as goal

pub returns-then-at_hand-commit-clause-head : goal.returns-then-at_hand-commit-clause-head
returns-then-at_hand-commit-clause-head c =
    let os = map outline c.args.commits.now in
    subst (IsHead os (map note c.args.noted.now)) (sym c.replace.ensures.after)
    (root-head os (map note c.args.noted.now) c.of_root.result (omega (arith, c.requires.there, length-map c.args.commits.now outline)) c.of_root.ensures.commit c.of_root.ensures.stand c.of_root.ensures.holds)

pub returns-clause-rows : goal.returns-clause-rows
returns-clause-rows c =
    let os = map outline c.args.commits.now in
    let ns = map note c.args.noted.now in
    let rows = rows_of c.deref.result.now in
    IfOk-weaker c.of_commit.result (IsMade c.args.commit rows) (IsHead os ns)
    (λ h made. record {
      there = omega (arith, made.at, c.requires.there, length-map c.args.commits.now outline);
      stand = made.stand;
      holds = λ g cs place parents notes k.
          let table : rows ≡ table_at g (change_of cs) c.args.commit = ap rows_of c.deref.ensures.value ∙ c.in_ok-table.ensures ∙ c.in_ok-found.ensures.table g cs place parents notes k in
          subst (Holds h) (table ∙ ap (table_at g (change_of cs)) (sym made.at)) (made.holds (subst IsKeptTable (sym table) (k.tables c.args.commit)));
    })
    c.of_commit.ensures
