use Rattle.std.proofs.Common.{◌≡◌, ℕ, zero, suc, refl, subst}
use Rattle.std.specs.Prelude.{codes}
use Rattle.kishu_meaning.specs.comparing.Show.{made}
use Rattle.kishu_show.specs.Shown.{Makes, onto}
use Rattle.kishu_show.specs.Turns.{comma}
use Rattle.kishu_show.proofs.Parts.{nothing_made}
use Rattle.kishu_show.proofs.reprs.push_comma.Goals as goal

later : (i : ℕ) → (i ≡ 0 → ⊥) → made (codes ", ") ≡ comma i
later zero h = absurd (h refl)
later (suc i) h = refl

pub returns-then-place-eq0-clause-gives : goal.returns-then-place-eq0-clause-gives
returns-then-place-eq0-clause-gives g c = rw c.if-place-eq0.true (nothing_made c.args.draft.now)

pub returns-clause-gives : goal.returns-clause-gives
returns-clause-gives g c =
    subst (λ m. Makes c.push_mark.result c.push_mark.new.draft (onto c.args.draft.now m)) (later c.args.place c.if-place-eq0.false) c.push_mark.ensures.gives
