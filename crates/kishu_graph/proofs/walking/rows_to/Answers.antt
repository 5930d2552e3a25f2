use Rattle.std.proofs.Common.{◌≡◌, ◌<◌, ◌∙◌, [], length, map, ap, sym, subst, arith}
use Rattle.std.proofs.lemmas.List.{length-map}
use Rattle.std.specs.Rc.{rc_str_bytes}
use Rattle.kishu_graph.specs.Kept.{dropped_in, row_of, stored_in}
use Rattle.kishu_graph.specs.Walks.{rows_in, StandAtFirst, all_texts}
use Rattle.kishu_graph.proofs.Outlines.{parent-below, parent-there}
use Rattle.kishu_graph.proofs.WayBack.{LeadTo, rows-counted, lead-first, lead-root, lead-all, lead-back}
use Rattle.kishu_graph.proofs.walking.rows_to.Goals as goal

pub loop-at-init : goal.loop-at-init
loop-at-init c =
    let commits = c.args.commits.now in
    let noted = c.args.noted.now in
    let commit = c.args.commit in
    record {
      there = c.requires.there;
      stand = subst StandAtFirst (sym c.new-found.ensures.empty) tt;
      lead =
          subst (λ ks. LeadTo commits noted (all_texts ks) commit commit (rows_in c.new-found.result.entries)) (sym c.new-gone.ensures.empty)
          (subst (λ es. LeadTo commits noted [] commit commit (rows_in es)) (sym c.new-found.ensures.empty) (lead-first commits noted commit));
    }

pub returns-then-are_all-clause-table : goal.returns-then-are_all-clause-table
returns-then-are_all-clause-table c =
    let commits = c.args.commits.now in
    let noted = c.args.noted.now in
    let commit = c.args.commit in
    let found = rows_in c.loop-at.found.entries in
    let there : commit < length noted = omega (arith, c.requires.there, c.requires.noted) in
    let many : c.len.result ≡ length found = c.len.ensures.len ∙ sym (length-map c.loop-at.found.entries (λ e. row_of e.1)) in
    let counted = rows-counted commits noted c.requires.counts commit c.len.result c.index-noted-commit.result there c.index-noted-commit.is (c.are_all.ensures c.if-are_all.true) in
    lead-all commits noted (all_texts c.loop-at.gone.keys) c.loop-at.at commit found (λ g cs place p n k. counted g cs place p n k ∙ many) c.loop-at.invariant.lead

pub loop-at-smaller : goal.loop-at-smaller
loop-at-smaller c = parent-below c.args.commits.now c.loop-at.at _ c.requires.parents (omega arith) c.loop-at.invariant.there

pub loop-at-preserved : goal.loop-at-preserved
loop-at-preserved c =
    let commits = c.args.commits.now in
    let noted = c.args.noted.now in
    let at = c.loop-at.at in
    record {
      there = parent-there commits at _ c.requires.parents (omega arith) c.loop-at.invariant.there;
      stand = c.in_ok-find_rows.ensures.stand;
      lead =
          lead-back commits noted at c.args.commit _ c.index-noted-at.result c.index-noted-at-in-loop-at.result (map row_of c.stored.result.now) (map rc_str_bytes c.dropped.result.now)
          c.requires.parents (omega arith) c.loop-at.invariant.there c.requires.noted
          (ap (map row_of) (c.stored.ensures ∙ ap stored_in c.index-noted-at.is)) (ap (map rc_str_bytes) (c.dropped.ensures ∙ ap dropped_in c.index-noted-at-in-loop-at.is))
          (all_texts c.loop-at.gone.keys) (all_texts c.put_names.new.among.keys) (rows_in c.loop-at.found.entries) (rows_in c.find_rows.new.found.entries)
          c.in_ok-find_rows.ensures.found c.in_ok-put_names.ensures c.loop-at.invariant.lead;
    }

pub returns-clause-table : goal.returns-clause-table
returns-clause-table c = lead-root c.args.commits.now c.args.noted.now (all_texts c.loop-at.gone.keys) c.loop-at.at c.args.commit (rows_in c.loop-at.found.entries) (omega arith) c.loop-at.invariant.lead
