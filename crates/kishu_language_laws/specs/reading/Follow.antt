-- Which tokens go on with a phrase, and with which one begins.
use Rattle.std.specs.Prelude.{◌≡◌, ℕ, ◌<◌, ◌≤◌, Bool, true, false, [], ◌∷◌, Option, Some, None, is_some}
use Rattle.std.proofs.Common.{refl, sym, ap, ◌∙◌, arith}
use Rattle.kishu_language.specs.declared.token.Mark.{Mark}
use Rattle.kishu_language.specs.declared.token.Mark.TheVariants as m
use Rattle.kishu_language.specs.tokens.Layout.{Token, Kind}
use Rattle.kishu_language.specs.tokens.Layout as kind
use Rattle.kishu_language.specs.grammar.Language.{Tokens}
use Rattle.kishu_language.specs.reading.Reader.{rest, in_table, is_mark, sees, sees_one}
use Rattle.kishu_language.specs.reading.ReadExpressions.{kind_begins, starts_with, begins_operand, begins_unary, begins_expr}
use Rattle.kishu_language_laws.specs.reading.Exact.{mark_finds, of_kind}

-- the level of the phrases that the mark goes on with
abbrev pub binding : Mark → ℕ
binding m.Dot = 1
binding m.LeftParenthesis = 1
binding m.LeftBracket = 1
binding m.Power = 2
binding m.Star = 3
binding m.FloorDivide = 3
binding m.Percent = 3
binding m.Plus = 4
binding m.Minus = 4
binding m.Less = 5
binding m.LessEqual = 5
binding m.Greater = 5
binding m.GreaterEqual = 5
binding m.Equal = 5
binding m.NotEqual = 5
binding m.In = 5
binding m.Is = 5
binding m.Not = 5
binding m.And = 6
binding m.Or = 7
binding m.If = 8
binding m.Comma = 9
binding _ = 10

-- A text goes on with a text.
abbrev pub kind_follow : Kind → ℕ
kind_follow (kind.mark k) = binding k
kind_follow (kind.quoted x) = 0
kind_follow (kind.name x) = 10
kind_follow (kind.integer z) = 10
kind_follow kind.newline = 10
kind_follow kind.indent = 10
kind_follow kind.dedent = 10

abbrev pub follow : Tokens → ℕ
follow [] = 10
follow (t ∷ ts) = kind_follow t.kind

-- no phrase of level n goes on with these tokens
abbrev pub Stop : ℕ → Tokens → Type 0
Stop n ts = n < follow ts

pub not_true : (b : Bool) → (b ≡ true → ⊥) → b ≡ false
not_true true h = absurd (h refl)
not_true false h = refl

pub some_value : {A : Type 0} (o : Option A) → is_some o ≡ true → (a : A) × (o ≡ Some a)
some_value None h = absurd cc
some_value (Some a) h = (a, refl)

-- the next token is this mark
pub sees_is : (k : Mark) (ts : Tokens) → sees k ts ≡ true → (t : Token) × (ts ≡ t ∷ rest ts) × (t.kind ≡ kind.mark k)
sees_is k [] h = absurd cc
sees_is k (t ∷ ts) h = let o = some_value (is_mark k t.kind) h in (t, refl, (mark_finds k).only t.kind o.0 o.1)

pub sees_follow : (k : Mark) (ts : Tokens) → sees k ts ≡ true → follow ts ≡ binding k
sees_follow k ts h = let p = sees_is k ts h in ap follow p.1 ∙ ap kind_follow p.2

pub sees_starts : (test : Mark → Bool) (k : Mark) (ts : Tokens) → sees k ts ≡ true → starts_with test ts ≡ test k
sees_starts test k ts h = let p = sees_is k ts h in ap (starts_with test) p.1 ∙ ap (kind_begins test) p.2

pub stop_sees : (n : ℕ) (k : Mark) (ts : Tokens) → Stop n ts → binding k ≤ n → sees k ts ≡ false
stop_sees n k ts s le = not_true (sees k ts) (λ h. omega (arith, sees_follow k ts h))

-- with an expression no such mark is met
pub starts_unseen : (test : Mark → Bool) (k : Mark) (ts : Tokens) → starts_with test ts ≡ true → test k ≡ false → sees k ts ≡ false
starts_unseen test k ts h other = not_true (sees k ts) (λ e. (let p : true ≡ false = sym h ∙ sees_starts test k ts e ∙ other in absurd cc))

module _ {A : Type 0} (table : Mark → Option A) (n : ℕ) (bound : (k : Mark) (a : A) → table k ≡ Some a → binding k ≡ n) where
  kind_bound : (k : Kind) (a : A) → in_table table k ≡ Some a → kind_follow k ≡ n
  kind_bound k a h = let p = of_kind table k a h in ap kind_follow p.1 ∙ bound p.0 a p.2

  pub sees_one_follow : (ts : Tokens) → sees_one table ts ≡ true → follow ts ≡ n
  sees_one_follow [] h = absurd cc
  sees_one_follow (t ∷ ts) h = let o = some_value (in_table table t.kind) h in kind_bound t.kind o.0 o.1

  pub stop_sees_one : (ts : Tokens) → Stop n ts → sees_one table ts ≡ false
  stop_sees_one ts s = not_true (sees_one table ts) (λ h. omega (arith, sees_one_follow ts h))

module _ (p q : Mark → Bool) (implies : (k : Mark) → p k ≡ true → q k ≡ true) where
  kind_implies : (k : Kind) → kind_begins p k ≡ true → kind_begins q k ≡ true
  kind_implies (kind.mark k) h = implies k h
  kind_implies (kind.name x) h = refl
  kind_implies (kind.integer z) h = refl
  kind_implies (kind.quoted x) h = refl
  kind_implies kind.newline h = absurd cc
  kind_implies kind.indent h = absurd cc
  kind_implies kind.dedent h = absurd cc

  pub starts_implies : (ts : Tokens) → starts_with p ts ≡ true → starts_with q ts ≡ true
  starts_implies [] h = absurd cc
  starts_implies (t ∷ ts) h = kind_implies t.kind h

operand_unary : (k : Mark) → begins_operand k ≡ true → begins_unary k ≡ true
operand_unary m.Plus h = refl
operand_unary m.Minus h = refl
operand_unary _ h = h

unary_expr : (k : Mark) → begins_unary k ≡ true → begins_expr k ≡ true
unary_expr m.Not h = refl
unary_expr _ h = h

pub operand_is_unary : (ts : Tokens) → starts_with begins_operand ts ≡ true → starts_with begins_unary ts ≡ true
operand_is_unary = starts_implies begins_operand begins_unary operand_unary

pub unary_is_expr : (ts : Tokens) → starts_with begins_unary ts ≡ true → starts_with begins_expr ts ≡ true
unary_is_expr = starts_implies begins_unary begins_expr unary_expr
