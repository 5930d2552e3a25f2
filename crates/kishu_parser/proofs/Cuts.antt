-- The pieces of a text and their places.
use Rattle.std.specs.Prelude.{◌≡◌, ℕ, ◌<◌, ◌≤◌, ◌+◌, ◌-◌, Bool, true, false, ◌&&◌, ◌==◌, cond, List, [], ◌∷◌, length, Option, Some, None, Err}
use Rattle.std.proofs.Common.{refl, sym, ap, ◌∙◌, arith}
use Rattle.std.proofs.lemmas.Bool.Decides.{Decides-eqb}
use Rattle.kishu_language.specs.tokens.Layout.{Kind}
use Rattle.kishu_language.specs.tokens.Layout as kind
use Rattle.kishu_language.specs.trees.Tree.{Text, Statement}
use Rattle.kishu_language.specs.grammar.Language.{Tokens}
use Rattle.kishu_language.specs.grammar.Grammar.{deepest}
use Rattle.kishu_language.specs.grammar.Refusals.{Around, top}
use Rattle.kishu_language.specs.grammar.Pieces.{starts_piece, rest_after, piece_rest, next_piece}
use Rattle.kishu_language.specs.reading.Reader.{rest}
use Rattle.kishu_language.specs.reading.ReadStatements.{chunk}
use Rattle.kishu_language.specs.reading.ReadText.{where_ends, piece}
use Rattle.kishu_parser.specs.declared.cursor.Stop.{Stop}
use Rattle.kishu_parser.specs.declared.cursor.Stop.TheVariants as stop
use Rattle.kishu_parser.specs.Views.{front, Fails}
use Rattle.kishu_parser.specs.Statements.{after_kind, GivesPiece}
use Rattle.kishu_parser.specs.Views.{left, tokens_of}
use Rattle.kishu_language.specs.declared.token.Token as rust_token

-- ---- one piece

at_top : {x : Option (List Statement × Tokens)} (source : Text) (a : Around) (ts : Tokens) → a ≡ top → chunk source deepest a ts ≡ x → chunk source deepest top ts ≡ x
at_top source a ts same e = ap (λ b. chunk source deepest b ts) (sym same) ∙ e

pub refused : (source : Text) (a : Around) (ts : Tokens) (e : Stop) → a ≡ top → Fails (chunk source deepest a ts) e → GivesPiece (piece source ts) (Err e)
unfolding piece
refused source a ts stop.Refused same h = ap (where_ends (length (next_piece ts))) (at_top source a ts same h)
refused source a ts stop.NoMemory same h = tt

pub whole : (source : Text) (a : Around) (ts us rest : Tokens) (found : List Statement) → a ≡ top → chunk source deepest a ts ≡ Some (found, us) → rest ≡ next_piece ts → length us ≡ length rest → piece source ts ≡ Some found
unfolding piece
whole source a ts us rest found same h ends e =
    ap (where_ends (length (next_piece ts))) (at_top source a ts same h)
    ∙ ap (λ b. cond b (Some found) None) ((Decides-eqb (length us) (length (next_piece ts))).1 (e ∙ ap length ends))

not_equal : (m n : ℕ) → (m ≡ n → ⊥) → (m == n) ≡ false
not_equal m n h = either (m == n) refl
  where
    either : (b : Bool) → (m == n) ≡ b → (m == n) ≡ false
    either true e = absurd (h ((Decides-eqb m n).0 e))
    either false e = e

pub part : (source : Text) (a : Around) (ts us rest : Tokens) (found : List Statement) → a ≡ top → chunk source deepest a ts ≡ Some (found, us) → rest ≡ next_piece ts → (length us ≡ length rest → ⊥) → piece source ts ≡ None
unfolding piece
part source a ts us rest found same h ends differ =
    ap (where_ends (length (next_piece ts))) (at_top source a ts same h)
    ∙ ap (λ b. cond b (Some found) None) (not_equal (length us) (length (next_piece ts)) (λ e. differ (e ∙ ap length (sym ends))))

-- ---- where a piece ends

abbrev ends_here : ℕ × Bool → Tokens → Bool
ends_here k ts = k.1 && (k.0 == 0 && starts_piece ts)

pub steps : (ts : Tokens) (n : ℕ) → 0 < length ts → piece_rest ts n ≡ cond (ends_here (after_kind (front ts) n) (rest ts)) (rest ts) (piece_rest (rest ts) (after_kind (front ts) n).0)
unfolding front
steps [] n some = absurd (omega arith)
steps (t ∷ ts) n some = by_kind t.kind
  where
    by_kind : (k : Kind) → rest_after k n ts (λ i. piece_rest ts i) ≡ cond (ends_here (after_kind (Some k) n) ts) ts (piece_rest ts (after_kind (Some k) n).0)
    by_kind kind.indent = ap (piece_rest ts) (omega arith)
    by_kind kind.dedent = refl
    by_kind kind.newline = refl
    by_kind (kind.mark k) = refl
    by_kind (kind.name x) = refl
    by_kind (kind.integer z) = refl
    by_kind (kind.quoted x) = refl

no_end : (a b : Bool) → b ≡ false → (a && b) ≡ false
no_end true b e = e
no_end false b e = refl

pub same_piece : (k : ℕ × Bool) (ts : Tokens) → starts_piece ts ≡ false → ends_here k ts ≡ false
same_piece k ts e = no_end k.1 (k.0 == 0 && starts_piece ts) (no_end (k.0 == 0) (starts_piece ts) e)

pub in_block : (k : ℕ × Bool) (ts : Tokens) → (k.0 ≡ 0 → ⊥) → ends_here k ts ≡ false
in_block k ts inside = no_end k.1 (k.0 == 0 && starts_piece ts) (ap (λ b. b && starts_piece ts) (not_equal k.0 0 inside))

pub in_line : (k : ℕ × Bool) (ts : Tokens) → k.1 ≡ false → ends_here k ts ≡ false
in_line k ts e = ap (λ b. b && (k.0 == 0 && starts_piece ts)) e

ends_now : (k : ℕ × Bool) (ts : Tokens) → k.1 ≡ true → k.0 ≡ 0 → starts_piece ts ≡ true → ends_here k ts ≡ true
ends_now k ts ends none starts = ap (λ b. b && (k.0 == 0 && starts_piece ts)) ends ∙ ap (λ n. n == 0 && starts_piece ts) none ∙ starts

pub record Turn (all ts us : Tokens) (n : ℕ) (k : ℕ × Bool) (o : Option Kind) : Type 0 where
  pub so_far : all ≡ piece_rest ts n
  pub some : 0 < length ts
  pub after : k ≡ after_kind o n
  pub next : o ≡ front ts
  pub rest : us ≡ rest ts

turned : {all ts us : Tokens} {n : ℕ} {k : ℕ × Bool} {o : Option Kind} → Turn all ts us n k o → all ≡ cond (ends_here k us) us (piece_rest us k.0)
turned {all} {ts} {us} {n} {k} {o} t =
    t.so_far ∙ steps ts n t.some
    ∙ ap (λ v. cond (ends_here (after_kind (front ts) n) v) v (piece_rest v (after_kind (front ts) n).0)) (sym t.rest)
    ∙ ap (λ j. cond (ends_here j us) us (piece_rest us j.0)) (sym (t.after ∙ ap (λ f. after_kind f n) t.next))

pub ends : {all ts us : Tokens} {n : ℕ} {k : ℕ × Bool} {o : Option Kind} → Turn all ts us n k o → k.1 ≡ true → k.0 ≡ 0 → starts_piece us ≡ true → us ≡ all
ends {us = us} {k = k} t e none starts = sym (turned t ∙ ap (λ b. cond b us (piece_rest us k.0)) (ends_now k us e none starts))

pub goes : {all ts us : Tokens} {n : ℕ} {k : ℕ × Bool} {o : Option Kind} → Turn all ts us n k o → ends_here k us ≡ false → all ≡ piece_rest us k.0
goes {us = us} {k = k} t e = turned t ∙ ap (λ b. cond b us (piece_rest us k.0)) e

pub rest_length : (ts : Tokens) → length (rest ts) ≡ length ts - 1
rest_length [] = refl
rest_length (t ∷ ts) = omega arith

pub one_block : (o : Option Kind) (n : ℕ) → (after_kind o n).0 ≤ n + 1
one_block (Some kind.indent) n = omega arith
one_block (Some kind.dedent) n = omega arith
one_block (Some kind.newline) n = omega arith
one_block (Some (kind.mark k)) n = omega arith
one_block (Some (kind.name x)) n = omega arith
one_block (Some (kind.integer z)) n = omega arith
one_block (Some (kind.quoted x)) n = omega arith
one_block None n = omega arith

pub some_left : (n : ℕ) (ts : Tokens) → (n ≡ 0 → ⊥) → n ≡ length ts → 0 < length ts
some_left n ts some e = omega arith

pub all_left : (ts : List rust_token.Token) → left ts 0 ≡ tokens_of ts
unfolding left
all_left [] = refl
all_left (t ∷ ts) = refl
