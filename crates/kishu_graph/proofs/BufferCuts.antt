-- Lines that stand in one text, and one line more.
use Rattle.std.proofs.Common.{◌≡◌, ◌<◌, ◌≤◌, ◌+◌, ◌-◌, ℕ, zero, suc, List, [], ◌∷◌, ◌++◌, length, get_or, take, drop, refl, sym, ap, subst, ◌∙◌, arith, length-append}
use Rattle.std.proofs.lemmas.List.{take_all, take-append-le, drop-append-le, drop_at, length-drop}
use Rattle.std.proofs.lemmas.Str.{IsUtf8-append, IsUtf8-drop, IsCharBoundary-end, IsCharBoundary-from_drop}
use Rattle.std.specs.Prelude.{slice_range}
use Rattle.std.specs.Str.{IsUtf8, IsCharBoundary}
use Rattle.kishu_graph.specs.Buffers.{lines_from, AreCut}

-- ---- the line of a number

pub line-there : (at : ℕ) (ends text : List ℕ) (i d e : ℕ) → i < length ends → get_or (lines_from at ends text) i [] ≡ slice_range text (get_or (at ∷ ends) i d) (get_or ends i e)
line-there at [] text i d e h = absurd (omega (arith, h))
line-there at (x ∷ ends) text zero d e h = refl
line-there at (x ∷ ends) text (suc i) d e h = line-there x ends text i d e (omega (arith, h))

-- It ends behind its start, and both are places where a character begins or the text ends.
pub cut-there : (at : ℕ) (ends text : List ℕ) (i d e : ℕ) → i < length ends → IsCharBoundary text at → AreCut at ends text
    → (get_or (at ∷ ends) i d ≤ get_or ends i e) × (IsCharBoundary text (get_or (at ∷ ends) i d) × IsCharBoundary text (get_or ends i e))
cut-there at [] text i d e h first cut = absurd (omega (arith, h))
cut-there at (x ∷ ends) text zero d e h first cut = (cut.0, (first, cut.1.0))
cut-there at (x ∷ ends) text (suc i) d e h first cut = cut-there x ends text i d e (omega (arith, h)) cut.1.0 cut.1.1

pub length-lines : (at : ℕ) (ends text : List ℕ) → length (lines_from at ends text) ≡ length ends
length-lines at [] text = refl
length-lines at (x ∷ ends) text = ap suc (length-lines x ends text)

-- ---- one line more

module _ (text line : List ℕ) where
  -- what stood in the text stands there
  same_range : (at e : ℕ) → at ≤ e → e ≤ length text → slice_range (text ++ line) at e ≡ slice_range text at e
  same_range at e up inside =
      ap (take (e - at)) (drop-append-le at text line (omega (arith, up, inside)))
      ∙ take-append-le (e - at) (drop at text) line (omega (arith, up, inside, length-drop at text))

  last_range : (at : ℕ) → at ≡ length text → slice_range (text ++ line) at (length text + length line) ≡ line
  last_range at end =
      ap (take (length text + length line - at)) (drop_at text line at (sym end))
      ∙ take_all (length text + length line - at) line (omega (arith, end))

  pub lines-more : (at : ℕ) (ends : List ℕ) → AreCut at ends text → lines_from at (ends ++ ((length text + length line) ∷ [])) (text ++ line) ≡ lines_from at ends text ++ (line ∷ [])
  lines-more at [] cut = ap (λ (l : List ℕ). l ∷ []) (last_range at cut)
  lines-more at (e ∷ ends) cut =
      ap (λ (l : List ℕ). l ∷ lines_from e (ends ++ ((length text + length line) ∷ [])) (text ++ line)) (same_range at e cut.0 cut.1.0.0)
      ∙ ap (λ (ls : List (List ℕ)). slice_range text at e ∷ ls) (lines-more e ends cut.1.1)

  module _ (u : IsUtf8 text) (v : IsUtf8 line) where
    still_cut : (e : ℕ) → IsCharBoundary text e → IsCharBoundary (text ++ line) e
    still_cut e b =
        IsCharBoundary-from_drop (text ++ line) e (let inside = b.0 in omega (arith, inside, length-append text line))
        (subst IsUtf8 (sym (drop-append-le e text line b.0)) (IsUtf8-append (drop e text) line (IsUtf8-drop text e u b) v))

    last_cut : (n : ℕ) → n ≡ length text + length line → IsCharBoundary (text ++ line) n
    last_cut n is = subst (IsCharBoundary (text ++ line)) (length-append text line ∙ sym is) (IsCharBoundary-end (text ++ line))

    pub cuts-more : (at : ℕ) (ends : List ℕ) → AreCut at ends text → AreCut at (ends ++ ((length text + length line) ∷ [])) (text ++ line)
    cuts-more at [] cut = (omega (arith, cut), (last_cut (length text + length line) refl, sym (length-append text line)))
    cuts-more at (e ∷ ends) cut = (cut.0, (still_cut e cut.1.0, cuts-more e ends cut.1.1))
