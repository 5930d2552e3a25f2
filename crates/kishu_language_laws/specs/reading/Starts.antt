-- With which tokens statements begin and end.
use Rattle.std.specs.Prelude.{◌≡◌, ℕ, suc, ◌<◌, ◌≤◌, Bool, true, false, List, [], ◌∷◌, Option, Some, is_some}
use Rattle.std.specs.Str.{bytes_eq}
use Rattle.std.proofs.Common.{refl, ap, ◌∙◌, arith, ⊎_elim}
use Rattle.std.proofs.lemmas.Slice.Eq.{bytes_eq-Decides}
use Rattle.kishu_language.specs.declared.token.Mark.{Mark}
use Rattle.kishu_language.specs.declared.token.Mark.TheVariants as m
use Rattle.kishu_language.specs.tokens.Layout.{Token, Kind}
use Rattle.kishu_language.specs.tokens.Layout as kind
use Rattle.kishu_language.specs.trees.Tree.{Text}
use Rattle.kishu_language.specs.grammar.Language.{Tokens, Language}
use Rattle.kishu_language.specs.grammar.Language as l
use Rattle.kishu_language.specs.grammar.Statements.{update_operator}
use Rattle.kishu_language.specs.reading.Reader.{Reader, rest, sees_some, sees, sees_one, where_so}
use Rattle.kishu_language.specs.reading.Reader as r
use Rattle.kishu_language.specs.reading.ReadExpressions.{kind_begins, starts_with, begins_expr, expr_begins}
use Rattle.kishu_language.specs.reading.ReadStatements.{begins_compound}
use Rattle.kishu_language_laws.specs.reading.Exact.{Reads, Begins, Finds, of_kind, either_reads, begins_or, begins_by, same_reads, same_begins, so_true}
use Rattle.kishu_language_laws.specs.reading.Follow.{kind_follow, follow, not_true, some_value, sees_is, sees_follow, sees_starts, starts_unseen, starts_implies}
use Rattle.kishu_language_laws.specs.reading.ExactOperators.{other_mark, table_unseen}
use Rattle.kishu_language_laws.specs.reading.ExactInner.{marked_reads, marked_begins}
use Rattle.kishu_language_laws.specs.reading.TargetTrees.{clash}

-- ---- the tokens of lines and blocks, and words

pub newline_finds : Finds (λ _. kind.newline) r.is_newline
newline_finds = record { there = λ a. refl; only = only }
  where
    only : (k : Kind) (a : Unit {0}) → r.is_newline k ≡ Some a → k ≡ kind.newline
    only kind.newline a h = refl
    only kind.indent a h = absurd cc
    only kind.dedent a h = absurd cc
    only (kind.name x) a h = absurd cc
    only (kind.integer z) a h = absurd cc
    only (kind.quoted x) a h = absurd cc
    only (kind.mark k) a h = absurd cc

pub indent_finds : Finds (λ _. kind.indent) r.is_indent
indent_finds = record { there = λ a. refl; only = only }
  where
    only : (k : Kind) (a : Unit {0}) → r.is_indent k ≡ Some a → k ≡ kind.indent
    only kind.indent a h = refl
    only kind.newline a h = absurd cc
    only kind.dedent a h = absurd cc
    only (kind.name x) a h = absurd cc
    only (kind.integer z) a h = absurd cc
    only (kind.quoted x) a h = absurd cc
    only (kind.mark k) a h = absurd cc

pub dedent_finds : Finds (λ _. kind.dedent) r.is_dedent
dedent_finds = record { there = λ a. refl; only = only }
  where
    only : (k : Kind) (a : Unit {0}) → r.is_dedent k ≡ Some a → k ≡ kind.dedent
    only kind.dedent a h = refl
    only kind.newline a h = absurd cc
    only kind.indent a h = absurd cc
    only (kind.name x) a h = absurd cc
    only (kind.integer z) a h = absurd cc
    only (kind.quoted x) a h = absurd cc
    only (kind.mark k) a h = absurd cc

pub word_finds : (w : Text) → Finds (λ _. kind.name w) (r.is_word w)
word_finds w = record { there = λ a. ap where_so ((bytes_eq-Decides w w).1 refl); only = only }
  where
    only : (k : Kind) (a : Unit {0}) → r.is_word w k ≡ Some a → k ≡ kind.name w
    only (kind.name x) a h = ap kind.name ((bytes_eq-Decides x w).0 (so_true (bytes_eq x w) a h))
    only kind.newline a h = absurd cc
    only kind.indent a h = absurd cc
    only kind.dedent a h = absurd cc
    only (kind.integer z) a h = absurd cc
    only (kind.quoted x) a h = absurd cc
    only (kind.mark k) a h = absurd cc

-- the next token is of a kind that carries nothing
pub kind_is : {k : Kind} {found : Kind → Option (Unit {0})} → Finds (λ _. k) found → (ts : Tokens) → sees_some found ts ≡ true → (t : Token) × (ts ≡ t ∷ rest ts) × (t.kind ≡ k)
kind_is finds [] h = absurd cc
kind_is {found = found} finds (t ∷ ts) h = let o = some_value (found t.kind) h in (t, refl, finds.only t.kind o.0 o.1)

-- ---- what follows

-- what follows a simple statement
abbrev pub EndsSimple : Tokens → Type 0
EndsSimple ts = (9 < follow ts) × (expr_begins ts ≡ false) × (sees m.As ts ≡ false) × (sees m.Assign ts ≡ false) × (sees_one update_operator ts ≡ false)

pub semicolon_ends : (ts : Tokens) → sees m.Semicolon ts ≡ true → EndsSimple ts
semicolon_ends ts h = (
  omega (arith, sees_follow m.Semicolon ts h),
  sees_starts begins_expr m.Semicolon ts h,
  other_mark m.Semicolon m.As ts h refl,
  other_mark m.Semicolon m.Assign ts h refl,
  not_true (sees_one update_operator ts) (λ e. clash h (table_unseen update_operator m.Semicolon ts refl e)),
)

pub newline_ends : (ts : Tokens) → sees_some r.is_newline ts ≡ true → EndsSimple ts
newline_ends ts h = let n = kind_is newline_finds ts h in (
  omega (arith, ap follow n.1 ∙ ap kind_follow n.2),
  ap expr_begins n.1 ∙ ap (kind_begins begins_expr) n.2,
  ap (sees m.As) n.1 ∙ ap (λ k. is_some (r.is_mark m.As k)) n.2,
  ap (sees m.Assign) n.1 ∙ ap (λ k. is_some (r.is_mark m.Assign k)) n.2,
  ap (sees_one update_operator) n.1 ∙ ap (λ k. is_some (r.in_table update_operator k)) n.2,
)

pub newline_unseen : (k : Mark) (ts : Tokens) → sees_some r.is_newline ts ≡ true → sees k ts ≡ false
newline_unseen k ts h = let n = kind_is newline_finds ts h in ap (sees k) n.1 ∙ ap (λ c. is_some (r.is_mark k c)) n.2

-- what follows a statement
abbrev pub EndsChunk : Tokens → Type 0
EndsChunk ts = (sees m.Elif ts ≡ false) × (sees m.Else ts ≡ false) × (sees m.Except ts ≡ false) × (sees m.Finally ts ≡ false)

pub dedent_ends : (ts : Tokens) → sees_some r.is_dedent ts ≡ true → EndsChunk ts
dedent_ends ts h = let d = kind_is dedent_finds ts h in (
  ap (sees m.Elif) d.1 ∙ ap (λ c. is_some (r.is_mark m.Elif c)) d.2,
  ap (sees m.Else) d.1 ∙ ap (λ c. is_some (r.is_mark m.Else c)) d.2,
  ap (sees m.Except) d.1 ∙ ap (λ c. is_some (r.is_mark m.Except c)) d.2,
  ap (sees m.Finally) d.1 ∙ ap (λ c. is_some (r.is_mark m.Finally c)) d.2,
)

-- ---- how statements begin

abbrev pub begins_simple : Mark → Bool
begins_simple m.Pass = true
begins_simple m.Break = true
begins_simple m.Continue = true
begins_simple m.Return = true
begins_simple m.Raise = true
begins_simple m.Assert = true
begins_simple m.Del = true
begins_simple m.Global = true
begins_simple m.From = true
begins_simple k = begins_expr k

abbrev pub begins_chunk : Mark → Bool
begins_chunk m.If = true
begins_chunk m.While = true
begins_chunk m.For = true
begins_chunk m.Try = true
begins_chunk m.Def = true
begins_chunk k = begins_simple k

-- the place of the alternative that begins so
abbrev pub mark_rank : Mark → ℕ
mark_rank m.If = 0
mark_rank m.While = 1
mark_rank m.For = 2
mark_rank m.Try = 3
mark_rank m.Def = 4
mark_rank m.Pass = 5
mark_rank m.Break = 6
mark_rank m.Continue = 7
mark_rank m.Return = 8
mark_rank m.Raise = 9
mark_rank m.Assert = 10
mark_rank m.Del = 11
mark_rank m.Global = 12
mark_rank m.From = 13
mark_rank _ = 14

abbrev pub kind_rank : Kind → ℕ
kind_rank (kind.mark k) = mark_rank k
kind_rank (kind.name x) = 14
kind_rank (kind.integer z) = 14
kind_rank (kind.quoted x) = 14
kind_rank kind.newline = 14
kind_rank kind.indent = 14
kind_rank kind.dedent = 14

abbrev pub rank : Tokens → ℕ
rank [] = 14
rank (t ∷ ts) = kind_rank t.kind

pub rank_is : (k : Mark) (ts : Tokens) → sees k ts ≡ true → rank ts ≡ mark_rank k
rank_is k ts h = let p = sees_is k ts h in ap rank p.1 ∙ ap kind_rank p.2

unseen : (k : Mark) (ts : Tokens) → mark_rank k < rank ts → sees k ts ≡ false
unseen k ts lt = not_true (sees k ts) (λ h. omega (arith, rank_is k ts h))

expr_mark_rank : (k : Mark) → begins_expr k ≡ true → mark_rank k ≡ 14
expr_mark_rank m.If h = absurd cc
expr_mark_rank m.While h = absurd cc
expr_mark_rank m.For h = absurd cc
expr_mark_rank m.Try h = absurd cc
expr_mark_rank m.Def h = absurd cc
expr_mark_rank m.Pass h = absurd cc
expr_mark_rank m.Break h = absurd cc
expr_mark_rank m.Continue h = absurd cc
expr_mark_rank m.Return h = absurd cc
expr_mark_rank m.Raise h = absurd cc
expr_mark_rank m.Assert h = absurd cc
expr_mark_rank m.Del h = absurd cc
expr_mark_rank m.Global h = absurd cc
expr_mark_rank m.From h = absurd cc
expr_mark_rank _ h = refl

pub expr_rank : (ts : Tokens) → expr_begins ts ≡ true → rank ts ≡ 14
expr_rank [] h = refl
expr_rank (t ∷ ts) h = by_kind t.kind h
  where
    by_kind : (k : Kind) → kind_begins begins_expr k ≡ true → kind_rank k ≡ 14
    by_kind (kind.mark k) h = expr_mark_rank k h
    by_kind (kind.name x) h = refl
    by_kind (kind.integer z) h = refl
    by_kind (kind.quoted x) h = refl
    by_kind kind.newline h = refl
    by_kind kind.indent h = refl
    by_kind kind.dedent h = refl

expr_mark_simple : (k : Mark) → begins_expr k ≡ true → begins_simple k ≡ true
expr_mark_simple m.Pass h = refl
expr_mark_simple m.Break h = refl
expr_mark_simple m.Continue h = refl
expr_mark_simple m.Return h = refl
expr_mark_simple m.Raise h = refl
expr_mark_simple m.Assert h = refl
expr_mark_simple m.Del h = refl
expr_mark_simple m.Global h = refl
expr_mark_simple m.From h = refl
expr_mark_simple _ h = h

simple_mark_chunk : (k : Mark) → begins_simple k ≡ true → begins_chunk k ≡ true
simple_mark_chunk m.If h = refl
simple_mark_chunk m.While h = refl
simple_mark_chunk m.For h = refl
simple_mark_chunk m.Try h = refl
simple_mark_chunk m.Def h = refl
simple_mark_chunk _ h = h

pub expr_is_simple : (ts : Tokens) → expr_begins ts ≡ true → starts_with begins_simple ts ≡ true
expr_is_simple = starts_implies begins_expr begins_simple expr_mark_simple

pub simple_is_chunk : (ts : Tokens) → starts_with begins_simple ts ≡ true → starts_with begins_chunk ts ≡ true
simple_is_chunk = starts_implies begins_simple begins_chunk simple_mark_chunk

-- Another statement is no part of the one before it.
pub chunk_ends : (ts : Tokens) → starts_with begins_chunk ts ≡ true → EndsChunk ts
chunk_ends ts h = (starts_unseen begins_chunk m.Elif ts h refl, starts_unseen begins_chunk m.Else ts h refl, starts_unseen begins_chunk m.Except ts h refl, starts_unseen begins_chunk m.Finally ts h refl)

compound_rank : (k : Mark) (a : Unit {0}) → begins_compound k ≡ Some a → mark_rank k < 5
compound_rank m.If a h = omega arith
compound_rank m.While a h = omega arith
compound_rank m.For a h = omega arith
compound_rank m.Try a h = omega arith
compound_rank m.Def a h = omega arith
compound_rank _ a h = absurd cc

kind_compound : (k : Kind) (a : Unit {0}) → r.in_table begins_compound k ≡ Some a → kind_rank k < 5
kind_compound k a h = let p = of_kind begins_compound k a h in omega (arith, ap kind_rank p.1, compound_rank p.0 a p.2)

-- a line begins with no word of a statement with blocks
pub no_compound : (ts : Tokens) → 5 ≤ rank ts → sees_one begins_compound ts ≡ false
no_compound [] le = refl
no_compound (t ∷ ts) le = not_true (sees_one begins_compound (t ∷ ts)) (λ h. (let o = some_value (r.in_table begins_compound t.kind) h in absurd (omega (arith, kind_compound t.kind o.0 o.1))))

-- With what begins so, no such token is met.
pub kind_unseen : {k : Kind} {found : Kind → Option (Unit {0})} → Finds (λ _. k) found → (test : Mark → Bool) → kind_begins test k ≡ false → (ts : Tokens) → starts_with test ts ≡ true → sees_some found ts ≡ false
kind_unseen {found = found} finds test other ts h = not_true (sees_some found ts)
    (λ e. (let p = kind_is finds ts e in clash h (ap (starts_with test) p.1 ∙ ap (kind_begins test) p.2 ∙ other)))

-- ---- a statement that begins with its own mark, and others after it

-- read exactly, and its phrases begin so
pub record Begun {A : Type 0} (p : Language A) (f : Reader A) (S : List Token → Type 0) (test : List Token → Bool) : Type 0 where
  pub reads : Reads p f S
  pub begins : Begins p test

pub marked : {A : Type 0} {q : Language A} {h : Reader A} {T : Tokens → Type 0} (k : Mark) → Reads q h T → Begun (l.◌>>◌ (l.mark k) q) (r.◌>>◌ (r.mark k) h) T (sees k)
marked k reads = record { reads = marked_reads k reads; begins = marked_begins k reads }

-- alternatives, the first of which has this place
pub record Tail {A : Type 0} (p : Language A) (f : Reader A) (S : List Token → Type 0) (test : Mark → Bool) (n : ℕ) : Type 0 where
  pub reads : Reads p f S
  pub begins : Begins p (starts_with test)
  pub least : (ts us : Tokens) (a : A) → p ts us a → n ≤ rank ts

module _ {A : Type 0} {p q : Language A} {f g : Reader A} {S : Tokens → Type 0} {test : Mark → Bool} where
  pub either_tail : (k : Mark) (n : ℕ) → mark_rank k ≡ n → test k ≡ true → Begun p f S (sees k) → Tail q g S test (suc n) → Tail (l.◌or◌ p q) (r.either (sees k) f g) S test n
  either_tail k n place is first tail = record {
    reads = either_reads first.reads tail.reads (λ ts us a h s. first.begins.begins ts us a h) (λ ts us a h s. unseen k ts (omega (arith, place, tail.least ts us a h)));
    begins = begins_or (begins_by first.begins (λ ts h. sees_starts test k ts h ∙ is)) tail.begins;
    least = λ ts us a h. ⊎_elim (λ j. omega (arith, rank_is k ts (first.begins.begins ts us a j), place)) (λ j. omega (arith, tail.least ts us a j)) h;
  }

-- the last of them
pub last_tail : {A : Type 0} {p : Language A} {f : Reader A} {S : Tokens → Type 0} {test : Mark → Bool} (k : Mark) (n : ℕ) → mark_rank k ≡ n → test k ≡ true → Begun p f S (sees k) → Tail p f S test n
last_tail {test = test} k n place is first = record {
  reads = first.reads;
  begins = begins_by first.begins (λ ts h. sees_starts test k ts h ∙ is);
  least = λ ts us a h. omega (arith, rank_is k ts (first.begins.begins ts us a h), place);
}

pub same_tail : {A : Type 0} {p q : Language A} {f : Reader A} {S : Tokens → Type 0} {test : Mark → Bool} {n : ℕ} → Tail p f S test n
    → ((ts us : Tokens) (a : A) → p ts us a → q ts us a) → ((ts us : Tokens) (a : A) → q ts us a → p ts us a) → Tail q f S test n
same_tail tail into back = record {
  reads = same_reads tail.reads into back;
  begins = same_begins tail.begins back;
  least = λ ts us a h. tail.least ts us a (back ts us a h);
}
