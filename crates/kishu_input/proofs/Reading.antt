-- What a line that is begun comes to: read on, whole, stopped by a limit, or at the end of the input.
use Rattle.std.specs.Prelude.{◌≡◌, ◌≢◌, ℕ, List, [], ◌∷◌, IsSome, refl}
use Rattle.std.proofs.Common.{sym, ◌∙◌, ap, subst}
use Rattle.kishu_model.specs.Task.{last_line}
use Rattle.kishu_input.specs.Begun.{GoesOn, Ends, Stops}
use Rattle.kishu_input.specs.Lines.{limit_after, lines_after}
use Rattle.kishu_input.proofs.Begun.{lines-begun}

pub goes_on-then : (line : List ℕ) (before : ℕ) (input grown : List ℕ) (after : ℕ) (rest longer : List ℕ) (last : ℕ) (behind : List ℕ)
    → GoesOn line before input grown after rest → GoesOn grown after rest longer last behind → GoesOn line before input longer last behind
goes_on-then line before input grown after rest longer last behind g h = record { lines = g.lines ∙ h.lines; limit = g.limit ∙ h.limit }

-- the same bytes are to come, of which more were taken
pub goes_on-taken : (line : List ℕ) (before : ℕ) (input grown : List ℕ) (after new_after : ℕ) (rest new_rest : List ℕ)
    → new_after ≡ after → rest ≡ new_rest → GoesOn line before input grown after rest → GoesOn line before input grown new_after new_rest
goes_on-taken line before input grown after new_after rest new_rest e d g =
    subst (λ n. GoesOn line before input grown n new_rest) (sym e) (subst (GoesOn line before input grown after) d g)

-- ---- from an empty line on

module _ (first : ℕ) (input line : List ℕ) (before : ℕ) where
  pub line_whole : (rest whole : List ℕ) (after : ℕ) (behind : List ℕ) → GoesOn [] first input line before rest → Ends line before rest whole after behind
      → (lines_after first input ≡ whole ∷ lines_after after behind) × (limit_after first input ≡ limit_after after behind)
  line_whole rest whole after behind g e =
      (lines-begun first input ∙ g.lines ∙ e.lines ∙ ap (λ (ls : List (List ℕ)). whole ∷ ls) (sym (lines-begun after behind)), g.limit ∙ e.limit)

  pub line_stopped : (rest : List ℕ) → GoesOn [] first input line before rest → Stops line before rest → (lines_after first input ≡ []) × IsSome (limit_after first input)
  line_stopped rest g s = (lines-begun first input ∙ g.lines ∙ s.lines, subst IsSome (sym g.limit) s.limit)

-- ---- at the end of the input

last-is : (line : List ℕ) → line ≢ [] → last_line line ≡ line ∷ []
last-is [] some = absurd (some refl)
last-is (c ∷ cs) some = refl

pub line_last : (first : ℕ) (input line : List ℕ) (before : ℕ) (rest : List ℕ) → line ≢ [] → rest ≡ [] → GoesOn [] first input line before rest
    → (lines_after first input ≡ line ∷ lines_after before rest) × (limit_after first input ≡ limit_after before rest)
line_last first input line before rest some end g =
    let h = subst (GoesOn [] first input line before) end g in
    subst (λ (bytes : List ℕ). (lines_after first input ≡ line ∷ lines_after before bytes) × (limit_after first input ≡ limit_after before bytes)) (sym end)
    (lines-begun first input ∙ h.lines ∙ last-is line some, h.limit)
