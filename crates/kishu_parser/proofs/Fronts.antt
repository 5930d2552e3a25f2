-- Single tokens, by what the next one is.
use Rattle.std.proofs.Common.{◌≡◌, ℕ, zero, suc, ◌+◌, ◌-◌, ◌<◌, ◌≤◌, List, [], ◌∷◌, drop, length, get_or, Option, Some, None, refl, sym, ap, ◌∙◌, arith}
use Rattle.std.specs.Prelude.{map, Bool, true, false, ◌||◌, is_some}
use Rattle.std.proofs.lemmas.List.{drop_all}
use Rattle.kishu_language.specs.declared.token.Token as rust
use Rattle.kishu_language.specs.tokens.Layout.{Kind}
use Rattle.kishu_language.specs.tokens.Tokens.{kind_of, token_of}
use Rattle.kishu_language.specs.grammar.Language.{Tokens}
use Rattle.kishu_language.specs.tokens.Layout as kind
use Rattle.kishu_language.specs.declared.token.Mark.{Mark}
use Rattle.kishu_language.specs.grammar.Pieces.{starts_line, starts_piece, first_line}
use Rattle.kishu_language.specs.reading.ReadExpressions.{begins_expr, kind_begins, expr_begins}
use Rattle.kishu_language.specs.reading.Reader.{next, rest, token, and_rest, one_of, sees_some, in_table, a_name, an_integer, a_text}
use Rattle.kishu_parser.specs.Views.{left, front, next_mark, by_table, tokens_of}

abbrev pub of_kind : {A : Type 0} → (Kind → Option A) → Option Kind → Option A
of_kind found None = None
of_kind found (Some k) = found k

pub next_front : {A : Type 0} (found : Kind → Option A) (ts : Tokens) → next found ts ≡ of_kind found (front ts)
unfolding front
next_front found [] = refl
next_front found (t ∷ ts) = refl

abbrev pub mark_of : Option Kind → Option Mark
mark_of None = None
mark_of (Some k) = in_table Some k

pub mark_front : (ts : Tokens) → next_mark ts ≡ mark_of (front ts)
unfolding next_mark front
mark_front [] = refl
mark_front (t ∷ ts) = refl

in_table_is : {A : Type 0} (table : Mark → Option A) (k : Kind) → in_table table k ≡ by_table table (in_table Some k)
in_table_is table (kind.mark m) = refl
in_table_is table (kind.name x) = refl
in_table_is table (kind.integer z) = refl
in_table_is table (kind.quoted x) = refl
in_table_is table kind.newline = refl
in_table_is table kind.indent = refl
in_table_is table kind.dedent = refl

pub by_mark : {A : Type 0} (table : Mark → Option A) (ts : Tokens) → next (in_table table) ts ≡ by_table table (next_mark ts)
unfolding next_mark
by_mark table [] = refl
by_mark table (t ∷ ts) = in_table_is table t.kind

-- how an expression begins
abbrev pub begins_kind : Option Mark → Bool → Bool → Bool → Bool
begins_kind (Some m) a b c = begins_expr m
begins_kind None a b c = a || (b || c)

begins_one : (k : Kind) → kind_begins begins_expr k ≡ begins_kind (in_table Some k) (is_some (a_name k)) (is_some (an_integer k)) (is_some (a_text k))
begins_one (kind.mark m) = refl
begins_one (kind.name x) = refl
begins_one (kind.integer z) = refl
begins_one (kind.quoted x) = refl
begins_one kind.newline = refl
begins_one kind.indent = refl
begins_one kind.dedent = refl

pub begins_front : (ts : Tokens) → expr_begins ts ≡ begins_kind (next_mark ts) (sees_some a_name ts) (sees_some an_integer ts) (sees_some a_text ts)
unfolding next_mark
begins_front [] = refl
begins_front (t ∷ ts) = begins_one t.kind

-- a token that carries nothing
pub taken : (found : Kind → Option (Unit {0})) (ts : Tokens) → sees_some found ts ≡ true → token found ts ≡ Some (tt, rest ts)
taken found ts h = go (next found ts) h
  where
    go : (o : Option (Unit {0})) → is_some o ≡ true → and_rest ts o ≡ Some (tt, rest ts)
    go None k = absurd cc
    go (Some u) k = refl

pub missing : {A : Type 0} (found : Kind → Option A) (ts : Tokens) → sees_some found ts ≡ false → token found ts ≡ None
missing {A} found ts h = go (next found ts) h
  where
    go : (o : Option A) → is_some o ≡ false → and_rest ts o ≡ None
    go None k = refl
    go (Some u) k = absurd cc

pub left_count : (ts : List rust.Token) (at : ℕ) → length (left ts at) ≡ length ts - at
unfolding left
left_count [] zero = refl
left_count [] (suc n) = omega arith
left_count (t ∷ ts) zero = omega (arith, left_count ts zero)
left_count (t ∷ ts) (suc n) = omega (arith, left_count ts n)

pub rest_left : (ts : List rust.Token) (at : ℕ) → left ts (at + 1) ≡ rest (left ts at)
unfolding left
rest_left [] zero = refl
rest_left [] (suc n) = let none : List rust.Token = [] in let e : drop (suc n + 1) none ≡ [] = drop_all (suc n + 1) none (omega arith) in ap tokens_of e
rest_left (t ∷ ts) zero = refl
rest_left (t ∷ ts) (suc n) = let e : suc n + 1 ≡ suc (n + 1) = omega arith in rw e (rest_left ts n)

pub no_rest : (ts : List rust.Token) (at : ℕ) → length ts ≤ at → left ts at ≡ rest (left ts at)
unfolding left
no_rest [] zero h = refl
no_rest [] (suc n) h = refl
no_rest (t ∷ ts) zero h = absurd (omega arith)
no_rest (t ∷ ts) (suc n) h = no_rest ts n (omega arith)

pub front_is : (ts : List rust.Token) (at : ℕ) (t : rust.Token) → at < length ts → t ≡ get_or ts at t → Some (kind_of t.kind) ≡ front (left ts at)
unfolding left front
front_is [] zero t h e = absurd (omega arith)
front_is [] (suc n) t h e = absurd (omega arith)
front_is (u ∷ ts) zero t h e = ap (λ (v : rust.Token). Some (kind_of v.kind)) e
front_is (u ∷ ts) (suc n) t h e = front_is ts n t (omega arith) e

pub front_none : (ts : List rust.Token) (at : ℕ) → length ts ≤ at → None ≡ front (left ts at)
unfolding left front
front_none [] zero h = refl
front_none [] (suc n) h = refl
front_none (t ∷ ts) zero h = absurd (omega arith)
front_none (t ∷ ts) (suc n) h = front_none ts n (omega arith)

pub one_gives : {A : Type 0} (table : Mark → Option A) (ts : Tokens) (a : A) → by_table table (next_mark ts) ≡ Some a → one_of table ts ≡ Some (a, rest ts)
one_gives table ts a h = ap (and_rest ts) (by_mark table ts ∙ h)

pub one_misses : {A : Type 0} (table : Mark → Option A) (ts : Tokens) → by_table table (next_mark ts) ≡ None → one_of table ts ≡ None
one_misses table ts h = ap (and_rest ts) (by_mark table ts ∙ h)

-- ---- pieces

abbrev pub starts_front : Option Kind → Bool
starts_front None = true
starts_front (Some k) = starts_line k

pub starts_is : (ts : Tokens) → starts_piece ts ≡ starts_front (front ts)
unfolding front
starts_is [] = refl
starts_is (t ∷ ts) = refl

pub line_is : (ts : List rust.Token) (at : ℕ) (t : rust.Token) → at < length ts → t ≡ get_or ts at t → t.line ≡ first_line (left ts at)
unfolding left
line_is [] zero t h e = absurd (omega arith)
line_is [] (suc n) t h e = absurd (omega arith)
line_is (u ∷ ts) zero t h e = ap (λ (v : rust.Token). v.line) e
line_is (u ∷ ts) (suc n) t h e = line_is ts n t (omega arith) e

pub no_line : (ts : List rust.Token) (at : ℕ) → length ts ≤ at → 0 ≡ first_line (left ts at)
unfolding left
no_line [] zero h = refl
no_line [] (suc n) h = refl
no_line (t ∷ ts) zero h = absurd (omega arith)
no_line (t ∷ ts) (suc n) h = no_line ts n (omega arith)
