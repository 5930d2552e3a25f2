-- What stands one nesting deeper, and what follows it.
use Rattle.std.specs.Prelude.{◌≡◌, ◌<◌, Bool, true, false, [], ◌∷◌, is_some, length}
use Rattle.std.proofs.Common.{refl, ap, ◌∙◌, arith}
use Rattle.kishu_language.specs.declared.token.Mark.{Mark}
use Rattle.kishu_language.specs.declared.token.Mark.TheVariants as m
use Rattle.kishu_language.specs.tokens.Layout.{Kind}
use Rattle.kishu_language.specs.tokens.Layout as kind
use Rattle.kishu_language.specs.trees.Tree.{Expression}
use Rattle.kishu_language.specs.grammar.Language.{Tokens, Language}
use Rattle.kishu_language.specs.grammar.Language as l
use Rattle.kishu_language.specs.grammar.Grammar.{Phrase, exprs, expr, negated, unary}
use Rattle.kishu_language.specs.grammar.Grammar as g
use Rattle.kishu_language.specs.reading.Reader.{Reader, sees_some, sees}
use Rattle.kishu_language.specs.reading.Reader as r
use Rattle.kishu_language.specs.reading.ReadExpressions.{begins_expr, expr_begins}
use Rattle.kishu_language.specs.reading.ReadExpressions as f
use Rattle.kishu_language_laws.specs.reading.Exact.{Reads, Begins, anything, where_reads, bind_reads, begins_then, mark_reads, mark_begins}
use Rattle.kishu_language_laws.specs.reading.Follow.{binding, follow, Stop, sees_follow, sees_starts, stop_sees}

-- the tokens that do not go on with a phrase
abbrev pub Ends_phrase : Phrase → Tokens → Type 0
Ends_phrase unary ts = Stop 2 ts
Ends_phrase negated ts = Stop 5 ts
Ends_phrase expr ts = Stop 8 ts
Ends_phrase exprs ts = (9 < follow ts) × (expr_begins ts ≡ false)

-- a mark that closes
abbrev pub Closer : Mark → Type 0
Closer k = (binding k ≡ 10) × (begins_expr k ≡ false)

pub close_exprs : (k : Mark) → Closer k → (ts : Tokens) → sees k ts ≡ true → Ends_phrase exprs ts
close_exprs k c ts h = (omega (arith, sees_follow k ts h, c.0), sees_starts begins_expr k ts h ∙ c.1)

pub close_expr : (k : Mark) → binding k ≡ 10 → (ts : Tokens) → sees k ts ≡ true → Stop 8 ts
close_expr k c ts h = omega (arith, sees_follow k ts h, c)

pub comma_expr : (ts : Tokens) → sees m.Comma ts ≡ true → Stop 8 ts
comma_expr ts h = omega (arith, sees_follow m.Comma ts h)

pub close_list : (k : Mark) → Closer k → (ts : Tokens) → sees k ts ≡ true → (sees m.Comma ts ≡ false) × Stop 8 ts × (expr_begins ts ≡ false)
close_list k c ts h = (stop_sees 9 m.Comma ts (close_exprs k c ts h).0 (omega arith), close_expr k c.0 ts h, (close_exprs k c ts h).1)

-- what stands one nesting deeper, and how it is read
pub record Inner (inner : Phrase → Language Expression) (read : Phrase → Reader Expression) : Type 0 where
  pub reads : (p : Phrase) → Reads (inner p) (read p) (Ends_phrase p)
  pub begins : (p : Phrase) → Begins (inner p) expr_begins
  -- one without a comma is one of several, and the other way round
  pub widen : (ts us : Tokens) (a : Expression) → inner expr ts us a → inner exprs ts us a
  pub narrow : (ts us : Tokens) (a : Expression) → inner exprs ts us a → f.is_several a ≡ false → inner expr ts us a
  pub single : (ts us : Tokens) (a : Expression) → inner expr ts us a → f.is_several a ≡ false
  -- A name before `=` is all that is read.
  pub named : (ts us : Tokens) (a : Expression) → inner expr ts us a → Stop 8 us → f.keyword_begins ts ≡ true → sees m.Assign us ≡ true

pub name_is_expr : (ts : Tokens) → sees_some r.a_name ts ≡ true → expr_begins ts ≡ true
name_is_expr [] h = absurd cc
name_is_expr (u ∷ ts) h = by_kind u.kind h
  where
    by_kind : (k : Kind) → is_some (r.a_name k) ≡ true → f.kind_begins begins_expr k ≡ true
    by_kind (kind.name x) h = refl
    by_kind (kind.integer z) h = absurd cc
    by_kind (kind.quoted x) h = absurd cc
    by_kind kind.newline h = absurd cc
    by_kind kind.indent h = absurd cc
    by_kind kind.dedent h = absurd cc
    by_kind (kind.mark k) h = absurd cc

-- a mark, and what follows it
pub marked_reads : {A : Type 0} {q : Language A} {h : Reader A} {T : Tokens → Type 0} (k : Mark) → Reads q h T → Reads (l.◌>>◌ (l.mark k) q) (r.◌>>◌ (r.mark k) h) T
marked_reads k reads = bind_reads anything mark_reads (λ _. reads) (λ a ts us b h s. tt)

pub marked_begins : {A : Type 0} {q : Language A} {h : Reader A} {T : Tokens → Type 0} (k : Mark) → Reads q h T → Begins (l.◌>>◌ (l.mark k) q) (sees k)
marked_begins {T = T} k reads = begins_then _ T mark_begins (λ _. reads)

-- what stands in brackets, where there is room for it
pub guarded_reads : {A : Type 0} {room : Bool} {p : Language A} {q : Reader A} {S : Tokens → Type 0} → Reads p q S → Reads (g.bracketed room p) (f.bracketed room q) S
guarded_reads reads = bind_reads anything where_reads (λ _. reads) (λ a ts us b h s. tt)

pub guarded_begins : {A : Type 0} {room : Bool} {p : Language A} {test : Tokens → Bool} → Begins p test → Begins (g.bracketed room p) test
guarded_begins {test = test} begins = record {
  begins = λ ts us a h. ap test h.2.0 ∙ begins.begins h.0 us a h.3;
  shorter = λ ts us a h. omega (arith, ap length h.2.0, begins.shorter h.0 us a h.3);
}

-- what ends an item or a slice
abbrev pub Closed : Tokens → Type 0
Closed ts = sees m.RightBracket ts ≡ true
