-- A piece is read as a statement exactly where it is one.
use Rattle.std.specs.Prelude.{◌≡◌, ℕ, suc, ◌-◌, ◌≤◌, Bool, true, false, ◌&&◌, ◌==◌, cond, List, [], ◌∷◌, length, Some, None}
use Rattle.std.proofs.Common.{refl, sym, ap, subst, ◌∙◌, arith}
use Rattle.std.proofs.lemmas.Bool.Decides.{Decides-eqb}
use Rattle.kishu_language.specs.declared.token.Mark.{Mark}
use Rattle.kishu_language.specs.declared.token.Mark.TheVariants as m
use Rattle.kishu_language.specs.tokens.Layout.{Kind}
use Rattle.kishu_language.specs.tokens.Layout as kind
use Rattle.kishu_language.specs.trees.Tree.{Text, Statement}
use Rattle.kishu_language.specs.grammar.Language.{Tokens}
use Rattle.kishu_language.specs.grammar.Grammar.{deepest}
use Rattle.kishu_language.specs.grammar.Refusals.{top}
use Rattle.kishu_language.specs.grammar.Statements.{chunk}
use Rattle.kishu_language.specs.grammar.Pieces.{goes_on, starts_line, starts_piece, after_line, rest_after, piece_rest, next_piece, IsPiece}
use Rattle.kishu_language.specs.reading.Reader.{Outcome, sees}
use Rattle.kishu_language.specs.reading.ReadExpressions.{kind_begins, starts_with}
use Rattle.kishu_language.specs.reading.ReadStatements as rs
use Rattle.kishu_language.specs.reading.ReadText.{where_ends, piece}
use Rattle.kishu_language_laws.specs.reading.Exact.{some_is, by_test}
use Rattle.kishu_language_laws.specs.reading.Follow.{not_true, sees_is}
use Rattle.kishu_language_laws.specs.reading.TargetTrees.{clash}
use Rattle.kishu_language_laws.specs.reading.Starts.{EndsChunk, begins_chunk}
use Rattle.kishu_language_laws.specs.reading.ExactBlocks.{chunks_read}
use Rattle.kishu_language_laws.specs.reading.PieceEnds.{chunk_closes}

-- ---- what is left behind a piece

line_starts : (n : ℕ) (ts rest : Tokens) → starts_piece rest ≡ true → starts_piece (after_line n ts rest) ≡ true
line_starts n ts rest h = both (n == 0) (starts_piece ts) refl
  where
    both : (a b : Bool) → starts_piece ts ≡ b → starts_piece (cond (a && b) ts rest) ≡ true
    both true true e = e
    both true false e = h
    both false b e = h

kind_starts : (k : Kind) (n : ℕ) (ts : Tokens) (rest : ℕ → Tokens) → ((i : ℕ) → starts_piece (rest i) ≡ true) → starts_piece (rest_after k n ts rest) ≡ true
kind_starts kind.indent n ts rest each = each (suc n)
kind_starts kind.dedent n ts rest each = line_starts (n - 1) ts (rest (n - 1)) (each (n - 1))
kind_starts kind.newline n ts rest each = line_starts n ts (rest n) (each n)
kind_starts (kind.mark k) n ts rest each = each n
kind_starts (kind.name x) n ts rest each = each n
kind_starts (kind.integer z) n ts rest each = each n
kind_starts (kind.quoted x) n ts rest each = each n

rest_starts : (ts : Tokens) (n : ℕ) → starts_piece (piece_rest ts n) ≡ true
rest_starts [] n = refl
rest_starts (t ∷ ts) n = kind_starts t.kind n ts (λ i. piece_rest ts i) (rest_starts ts)

line_no_longer : (n : ℕ) (ts rest : Tokens) → length rest ≤ length ts → length (after_line n ts rest) ≤ length ts
line_no_longer n ts rest h = either (n == 0 && starts_piece ts)
  where
    either : (a : Bool) → length (cond a ts rest) ≤ length ts
    either true = omega arith
    either false = h

kind_no_longer : (k : Kind) (n : ℕ) (ts : Tokens) (rest : ℕ → Tokens) → ((i : ℕ) → length (rest i) ≤ length ts) → length (rest_after k n ts rest) ≤ length ts
kind_no_longer kind.indent n ts rest each = each (suc n)
kind_no_longer kind.dedent n ts rest each = line_no_longer (n - 1) ts (rest (n - 1)) (each (n - 1))
kind_no_longer kind.newline n ts rest each = line_no_longer n ts (rest n) (each n)
kind_no_longer (kind.mark k) n ts rest each = each n
kind_no_longer (kind.name x) n ts rest each = each n
kind_no_longer (kind.integer z) n ts rest each = each n
kind_no_longer (kind.quoted x) n ts rest each = each n

rest_no_longer : (ts : Tokens) (n : ℕ) → length (piece_rest ts n) ≤ length ts
rest_no_longer [] n = omega arith
rest_no_longer (t ∷ ts) n = omega (arith, kind_no_longer t.kind n ts (λ i. piece_rest ts i) (rest_no_longer ts))

-- A piece has a token.
pub piece_shorter : (t : kind.Token) (ts : Tokens) (n : ℕ) → length (piece_rest (t ∷ ts) n) ≤ length ts
piece_shorter t ts n = kind_no_longer t.kind n ts (λ i. piece_rest ts i) (rest_no_longer ts)

-- ---- what follows a piece is no part of its statement

line_unseen : (k : Mark) → goes_on k ≡ true → (ts : Tokens) → starts_piece ts ≡ true → sees k ts ≡ false
line_unseen k is ts h = not_true (sees k ts)
    (λ e. (let p = sees_is k ts e in clash h (ap starts_piece p.1 ∙ ap starts_line p.2 ∙ ap (λ b. cond b false true) is)))

pub piece_ends : (ts : Tokens) → starts_piece ts ≡ true → EndsChunk ts
piece_ends ts h = (line_unseen m.Elif refl ts h, line_unseen m.Else refl ts h, line_unseen m.Except refl ts h, line_unseen m.Finally refl ts h)

mark_starts : (k : Mark) → begins_chunk k ≡ true → cond (goes_on k) false true ≡ true
mark_starts m.Elif h = absurd cc
mark_starts m.Else h = absurd cc
mark_starts m.Except h = absurd cc
mark_starts m.Finally h = absurd cc
mark_starts _ h = refl

pub chunk_starts : (ts : Tokens) → starts_with begins_chunk ts ≡ true → starts_piece ts ≡ true
chunk_starts [] h = refl
chunk_starts (t ∷ ts) h = by_kind t.kind h
  where
    by_kind : (k : Kind) → kind_begins begins_chunk k ≡ true → starts_line k ≡ true
    by_kind (kind.mark k) h = mark_starts k h
    by_kind (kind.name x) h = refl
    by_kind (kind.integer z) h = refl
    by_kind (kind.quoted x) h = refl
    by_kind kind.newline h = absurd cc
    by_kind kind.indent h = absurd cc
    by_kind kind.dedent h = absurd cc

-- ---- a piece

outcome_ends : (left : ℕ) (o : Outcome (List Statement)) (found : List Statement) → where_ends left o ≡ Some found → (us : Tokens) × (o ≡ Some (found, us)) × (length us ≡ left)
outcome_ends left None found e = absurd cc
outcome_ends left (Some p) found e = by_test (length p.1 == left) (Some p.0) None ((us : Tokens) × (Some p ≡ Some (found, us)) × (length us ≡ left)) (Some found)
    (λ is k. (p.1, ap (λ v. Some (v, p.1)) (some_is k), (Decides-eqb (length p.1) left).0 is)) (λ _ k. absurd cc) e

module _ (source : Text) where
  -- where a statement ends, and the next begins a piece, its piece ends
  pub cut : (ts us : Tokens) (found : List Statement) → chunk source deepest top ts us found → starts_piece us ≡ true → next_piece ts ≡ us
  cut ts us found h is = (chunk_closes source deepest top).ends ts us found 0 h ∙ ap (λ b. cond b us (piece_rest us 0)) is

  -- so it does where as much is left
  cut_by_length : (ts us : Tokens) (found : List Statement) → chunk source deepest top ts us found → length us ≡ length (next_piece ts) → next_piece ts ≡ us
  cut_by_length ts [] found h e = cut ts [] found h refl
  cut_by_length ts (u ∷ us) found h e = either (starts_piece (u ∷ us)) refl
    where
      either : (b : Bool) → starts_piece (u ∷ us) ≡ b → next_piece ts ≡ u ∷ us
      either true is = cut ts (u ∷ us) found h is
      either false is =
          let other : next_piece ts ≡ piece_rest (u ∷ us) 0 = (chunk_closes source deepest top).ends ts (u ∷ us) found 0 h ∙ ap (λ b. cond b (u ∷ us) (piece_rest (u ∷ us) 0)) is in
          absurd (omega (arith, e, ap length other, piece_shorter u us 0))

  pub piece_found : (ts : Tokens) (found : List Statement) → piece source ts ≡ Some found → chunk source deepest top ts (next_piece ts) found
  unfolding piece
  piece_found ts found e =
      let k = outcome_ends (length (next_piece ts)) (rs.chunk source deepest top ts) found e in
      let h = ((chunks_read source deepest).reads top).sound ts k.0 found k.1 in
      subst (λ (v : Tokens). chunk source deepest top ts v found) (sym (cut_by_length ts k.0 found h k.2)) h

  pub piece_only : (ts : Tokens) (found : List Statement) → chunk source deepest top ts (next_piece ts) found → piece source ts ≡ Some found
  unfolding piece
  piece_only ts found h =
      ap (where_ends (length (next_piece ts))) (((chunks_read source deepest).reads top).complete ts (next_piece ts) found h (piece_ends (next_piece ts) (rest_starts ts 0)))
      ∙ ap (λ b. cond b (Some found) None) ((Decides-eqb (length (next_piece ts)) (length (next_piece ts))).1 refl)

  -- What is read is a piece, and what isn't is none.
  pub piece_none : (ts : Tokens) → piece source ts ≡ None → IsPiece source ts → ⊥
  piece_none ts e h = let k : None ≡ Some h.0 = sym e ∙ piece_only ts h.0 h.1 in cc
