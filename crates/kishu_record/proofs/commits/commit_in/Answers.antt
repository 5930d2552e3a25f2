use Rattle.std.proofs.Common.{◌≡◌, ◌∷◌, ◌∙◌, ℕ, map, ap, sym, subst, arith}
use Rattle.std.specs.List.{sum}
use Rattle.kishu_store.specs.Entries.{commit}
use Rattle.kishu_record.specs.Commits.{SpellsCommit}
use Rattle.kishu_record.proofs.CommitHeads.{commit_kind, told_head, told_none}
use Rattle.kishu_record.proofs.Heads.{some_head}
use Rattle.kishu_record.proofs.commits.commit_in.Goals as goal

pub returns-in_default-clause-none : goal.returns-in_default-clause-none
returns-in_default-clause-none c same p f cs ds ss h = some_head (commit p f cs ds ss) (sym (c.byte.ensures.none c.in_default.is) ∙ h.is)

pub returns-then-kind-ne-COMMIT-clause-none : goal.returns-then-kind-ne-COMMIT-clause-none
returns-then-kind-ne-COMMIT-clause-none c same p f cs ds ss h =
    let one : c.in-Some.kind ≡ 1 = commit_kind c.byte.new.self.rest.now c.in-Some.kind p f cs ds ss (sym c.in-Some.ensures.found ∙ h.is) in
    omega (arith, one, c.if-kind-ne-COMMIT.true)

pub returns-then-not-take_in_all-clause-none : goal.returns-then-not-take_in_all-clause-none
returns-then-not-take_in_all-clause-none c same =
    let rest = c.byte.new.self.rest.now in
    let told = c.in-Some-found.commit in
    let s : SpellsCommit (1 ∷ rest) told = rw c.in-Some-found.is at c.in-Ok.ensures.found in
    let one : c.in-Some.kind ≡ 1 = omega (arith, c.if-kind-ne-COMMIT.false) in
    told_none c.args.head.now rest c.args.pictures told s (omega arith) (c.in-Some.ensures.found ∙ ap (λ (b : ℕ). b ∷ rest) one)
    (λ all. c.take_in_all.ensures.no c.if-not-take_in_all.true (subst (λ l. sum (map (λ x. x.1) l) ≡ c.args.pictures) (sym c.deref.ensures.value) all))

pub returns-clause-found : goal.returns-clause-found
returns-clause-found c =
    let rest = c.byte.new.self.rest.now in
    let told = c.in-Some-found.commit in
    let s : SpellsCommit (1 ∷ rest) told = rw c.in-Some-found.is at c.in-Ok.ensures.found in
    let one : c.in-Some.kind ≡ 1 = omega (arith, c.if-kind-ne-COMMIT.false) in
    told_head c.args.head.now rest c.args.pictures told s (omega arith) (c.in-Some.ensures.found ∙ ap (λ (b : ℕ). b ∷ rest) one)
    (subst (λ l. sum (map (λ x. x.1) l) ≡ c.args.pictures) c.deref.ensures.value (c.take_in_all.ensures.yes c.if-not-take_in_all.false))
