-- A commit more: the cells on the path, and what is kept.
use Rattle.std.proofs.Common.{◌≡◌, ◌<◌, ◌≤◌, ◌+◌, ◌*◌, ◌^◌, ℕ, suc, List, length, refl, sym, ◌∙◌, ap, arith}
use Rattle.kishu_language.specs.declared.profile.Profile.{Profile}
use Rattle.kishu_store.specs.Graph.{Commit, Graph, newest, with_commit, count_of, path, cell_count}
use Rattle.kishu_store.specs.Limits.{newest_profile}
use Rattle.kishu_store_laws.specs.GraphLaws.{IsGraph}
use Rattle.kishu_session.specs.Head.{CountsPath}
use Rattle.kishu_session.specs.declared.head.Head.{Head}
use Rattle.kishu_session.proofs.CountFacts.{counted-last, path-newest}

pub count-newest : (profile : Profile) (cells : List (List ℕ)) (g : Graph) → count_of (with_commit profile cells g) (suc (newest g)) ≡ count_of g g.head.commit + length cells
count-newest profile cells g =
    let k : Commit = record { parent = g.head.commit; profile = profile; cells = cells } in
    ap cell_count (path-newest k g.commits (suc (newest g)) refl) ∙ counted-last (path g g.head.commit) k

-- The cells of a commit more are counted, and there are not too many.
pub counts-more : (old new : Head) (g : Graph) (cells : List (List ℕ)) → IsGraph g → length cells ≤ 2 ^ 24 → (old.cells + length cells < 2 ^ 64 → new.cells ≡ old.cells + length cells) → CountsPath old g → CountsPath new (with_commit newest_profile cells g)
counts-more old new g cells good short grows count =
    let few : newest g ≤ 1000000 = omega (arith, good.counted, good.few) in
    let all : old.cells ≤ 1000000 * 2 ^ 32 = omega (arith, count.few, few) in
    let sum : new.cells ≡ old.cells + length cells = grows (omega (arith, all, short)) in
    record {
      is = sum ∙ ap (λ (n : ℕ). n + length cells) count.is ∙ sym (count-newest newest_profile cells g);
      few = omega (arith, sum, count.few, short);
    }

-- A path has fewer cells than a counter can count.
pub count-small : (head : Head) (g : Graph) → IsGraph g → CountsPath head g → head.cells < 2 ^ 63
count-small head g good count =
    let few : newest g ≤ 1000000 = omega (arith, good.counted, good.few) in
    omega (arith, count.few, few)
