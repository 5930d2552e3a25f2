use Rattle.std.proofs.Common.{◌<◌, ◌∷◌, [], map, sym, ◌∙◌, ap, arith}
use Rattle.std.proofs.lemmas.List.{map-append}
use Rattle.kishu_model.specs.Answers.{PathRow}
use Rattle.kishu_model.specs.Values.{row_of}
use Rattle.kishu_session.proofs.LogFacts.{rows_at, rows-on, rows-end, rows-told, there-is}
use Rattle.kishu_session.proofs.requests.log.rows.Goals as goal

pub loop-commit-preserved : goal.loop-commit-preserved
loop-commit-preserved c =
    let graph = c.args.graph.now in
    let at = c.loop-commit.commit in
    let row = c.in_ok-row.row in
    let positive : 0 < at = omega arith in
    record {
      there = omega (arith, c.in_ok-row.ensures.older, c.loop-commit.invariant.there);
      rows = λ h k.
          let g = h.graph in
          let is = c.in_ok-row.ensures.row g k.keeps.graph in
          rows-on g.commits at row.parent (row_of row) (map row_of c.loop-commit.rows.items) (map row_of c.push.new.self.items) (rows_at g.commits g.head.commit)
          k.good.graph.parents positive (there-is graph g at k.keeps.graph.shape c.loop-commit.invariant.there) (ap (λ (r : PathRow). r.parent) is) is
          (ap (map row_of) c.in_ok-push.ensures.items ∙ map-append row_of c.loop-commit.rows.items (row ∷ []))
          (c.loop-commit.invariant.rows h k);
    }

pub returns : goal.returns
returns c h k =
    let g = h.graph in
    rows-end g.commits c.loop-commit.commit (map row_of c.loop-commit.rows.items) (rows_at g.commits g.head.commit) (omega arith) (c.loop-commit.invariant.rows h k)
    ∙ sym (rows-told g.commits g.head.commit)
