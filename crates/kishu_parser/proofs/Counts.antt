-- A recursion on a count of turns, beside a loop that counts up; and a level below another.
use Rattle.std.proofs.Common.{◌≡◌, ℕ, zero, suc, ◌+◌, ◌-◌, ◌<◌, ◌≤◌, ap, ◌∙◌, arith}
use Rattle.kishu_language.specs.grammar.Language.{Tokens}
use Rattle.kishu_language.specs.grammar.Grammar.{Phrase, has_room}
use Rattle.std.specs.Prelude.{List, [], ◌∷◌, Some}
use Rattle.std.proofs.Common.{sym}
use Rattle.kishu_language.specs.trees.Tree.{Text, Statement}
use Rattle.kishu_language.specs.grammar.Refusals.{Around}
use Rattle.std.specs.Prelude.{Bool, true, false, ◌++◌, None}
use Rattle.std.proofs.Common.{cond}
use Rattle.kishu_language.specs.declared.token.Mark.{Mark}
use Rattle.std.specs.Prelude.{Option}
use Rattle.kishu_language.specs.trees.Tree.{Expression}
use Rattle.kishu_language.specs.reading.Reader.{Reader, Outcome, and_then, climb, mark, either, sees_one, next, in_table, one_of, and_rest, rest}
use Rattle.kishu_language.specs.reading.Reader.{one_more as more}
use Rattle.kishu_language.specs.reading.ReadExpressions.{operation}
use Rattle.kishu_parser.specs.declared.cursor.Stop.{Stop}
use Rattle.kishu_parser.specs.declared.cursor.Stop.TheVariants as stop
use Rattle.kishu_parser.specs.Views.{Fails}
use Rattle.kishu_parser.specs.Turns.{more_turn}
use Rattle.kishu_language.specs.reading.ReadExpressions.{phrase, level, primary}
use Rattle.kishu_language.specs.reading.ReadStatements.{primary_at, line, simples, chunk, compound, begins_compound}

pub one_more : {X : Type 0} {x : X} (f : ℕ → X) (n at : ℕ) → at < n → x ≡ f (n - at) → x ≡ f (suc (n - (at + 1)))
one_more f n at below e = let turn : n - at ≡ suc (n - (at + 1)) = omega arith in e ∙ ap f turn

pub no_more : {X : Type 0} {x : X} (f : ℕ → X) (n at : ℕ) → n ≤ at → x ≡ f (n - at) → x ≡ f 0
no_more f n at done e = let none : n - at ≡ 0 = omega arith in e ∙ ap f none

pub deeper : {X : Type 0} (f : ℕ → X) (n : ℕ) → (n ≡ 0 → ⊥) → f n ≡ f (suc (n - 1))
deeper f n some = let e : n ≡ suc (n - 1) = omega arith in ap f e

pub phrase_opens : (room : ℕ) (q : Phrase) (ts : Tokens) → (room ≡ 0 → ⊥) → phrase room q ts ≡ level (has_room (room - 1)) (phrase (room - 1)) q ts
unfolding phrase
phrase_opens room q ts some = deeper (λ n. phrase n q ts) room some

pub primary_opens : (room : ℕ) (ts : Tokens) → (room ≡ 0 → ⊥) → primary_at room ts ≡ primary (has_room (room - 1)) (phrase (room - 1)) ts
unfolding primary_at
primary_opens room ts some = deeper (λ n. primary_at n ts) room some

pub line_opens : (around : Around) (room : ℕ) (ts : Tokens) → (room ≡ 0 → ⊥) → line around room ts ≡ simples around room ts
unfolding line
line_opens around room ts some = let e : room ≡ suc (room - 1) = omega arith in deeper (λ n. line around n ts) room some ∙ ap (λ n. simples around n ts) (sym e)

abbrev chunk_body : Text → ℕ → ℕ → Around → Reader (List Statement)
chunk_body source below room around = either (sees_one begins_compound) (λ ts. and_then (compound source below (chunk source below) around ts) (λ found us. Some (found ∷ [], us))) (simples around room)

pub chunk_opens : (source : Text) (room : ℕ) (around : Around) (ts : Tokens) → (room ≡ 0 → ⊥) → chunk source room around ts ≡ chunk_body source (room - 1) room around ts
unfolding chunk
chunk_opens source room around ts some = let e : room ≡ suc (room - 1) = omega arith in deeper (λ n. chunk source n around ts) room some ∙ ap (λ n. chunk_body source (room - 1) n around ts) (sym e)

-- ---- turns behind a mark

pub stops : {A : Type 0} {x : Outcome A} (test : Tokens → Bool) (step : A → Reader A) (n at : ℕ) (a : A) (ts : Tokens) → at < n → x ≡ climb test step (n - at) a ts → test ts ≡ false → x ≡ Some (a, ts)
stops test step n at a ts below e ends = one_more (λ k. climb test step k a ts) n at below e ∙ ap (λ b. cond b (and_then (step a ts) (climb test step (n - (at + 1)))) (Some (a, ts))) ends

pub breaks : {A : Type 0} {x : Outcome A} (test : Tokens → Bool) (step : A → Reader A) (n at : ℕ) (a : A) (ts : Tokens) → at < n → x ≡ climb test step (n - at) a ts → test ts ≡ true → step a ts ≡ None → x ≡ None
breaks test step n at a ts below e go none =
    one_more (λ k. climb test step k a ts) n at below e
    ∙ ap (λ b. cond b (and_then (step a ts) (climb test step (n - (at + 1)))) (Some (a, ts))) go
    ∙ ap (λ o. and_then o (climb test step (n - (at + 1)))) none

pub fails_by : {A B : Type 0} (o : Outcome A) (x : Outcome B) (e : Stop) → (o ≡ None → x ≡ None) → Fails o e → Fails x e
fails_by o x stop.Refused h k = h k
fails_by o x stop.NoMemory h k = tt

pub fails_mark : {A : Type 0} {x : Outcome (List A)} (test : Tokens → Bool) (by : Mark) (item : Reader A) (n at : ℕ) (all : List A) (ts : Tokens) (e : Stop) → at < n → x ≡ climb test (more_turn by item) (n - at) all ts → test ts ≡ true
    → Fails (mark by ts) e → Fails x e
fails_mark {A} {x} test by item n at all ts e below so_far go k =
    fails_by (mark by ts) x e (λ none. breaks test (more_turn by item) n at all ts below so_far go (ap (λ o. and_then (and_then o (λ u. item)) (λ next us. Some (all ++ next ∷ [], us))) none)) k

pub fails_item : {A : Type 0} {x : Outcome (List A)} (test : Tokens → Bool) (by : Mark) (item : Reader A) (n at : ℕ) (all : List A) (ts us : Tokens) (e : Stop) → at < n → x ≡ climb test (more_turn by item) (n - at) all ts → test ts ≡ true
    → mark by ts ≡ Some (tt, us) → Fails (item us) e → Fails x e
fails_item {A} {x} test by item n at all ts us e below so_far go past k =
    fails_by (item us) x e (λ none. breaks test (more_turn by item) n at all ts below so_far go
    (ap (λ o. and_then (and_then o (λ u. item)) (λ next us. Some (all ++ next ∷ [], us))) past ∙ ap (λ o. and_then o (λ next us. Some (all ++ next ∷ [], us))) none)) k

-- ---- turns of operators and operands, and of items alone

pub fails_operator : {A : Type 0} {x : Outcome (List (A × Expression))} (test : Tokens → Bool) (operator : Reader A) (item : Reader Expression) (n at : ℕ) (all : List (A × Expression)) (ts : Tokens) (e : Stop) → at < n
    → x ≡ climb test (more (operation item operator)) (n - at) all ts → test ts ≡ true → Fails (operator ts) e → Fails x e
fails_operator {A} {x} test operator item n at all ts e below so_far go k =
    fails_by (operator ts) x e (λ none. breaks test (more (operation item operator)) n at all ts below so_far go
    (ap (λ o. and_then (and_then o (λ by us. and_then (item us) (λ right vs. Some ((by, right), vs)))) (λ next us. Some (all ++ next ∷ [], us))) none)) k

pub fails_operand : {A : Type 0} {x : Outcome (List (A × Expression))} (test : Tokens → Bool) (operator : Reader A) (item : Reader Expression) (n at : ℕ) (all : List (A × Expression)) (ts us : Tokens) (b : A) (e : Stop) → at < n
    → x ≡ climb test (more (operation item operator)) (n - at) all ts → test ts ≡ true → operator ts ≡ Some (b, us) → Fails (item us) e → Fails x e
fails_operand {A} {x} test operator item n at all ts us b e below so_far go past k =
    fails_by (item us) x e (λ none. breaks test (more (operation item operator)) n at all ts below so_far go
    (ap (λ o. and_then (and_then o (λ by us. and_then (item us) (λ right vs. Some ((by, right), vs)))) (λ next us. Some (all ++ next ∷ [], us))) past
    ∙ ap (λ o. and_then (and_then o (λ right vs. Some ((b, right), vs))) (λ next us. Some (all ++ next ∷ [], us))) none)) k

pub fails_one : {A : Type 0} {x : Outcome (List A)} (test : Tokens → Bool) (item : Reader A) (n at : ℕ) (all : List A) (ts : Tokens) (e : Stop) → at < n → x ≡ climb test (more item) (n - at) all ts → test ts ≡ true → Fails (item ts) e → Fails x e
fails_one {A} {x} test item n at all ts e below so_far go k =
    fails_by (item ts) x e (λ none. breaks test (more item) n at all ts below so_far go (ap (λ o. and_then o (λ next us. Some (all ++ next ∷ [], us))) none)) k

pub operator_read : {A : Type 0} (table : Mark → Option A) (ts us : Tokens) (o : Option A) (a : A) → o ≡ next (in_table table) ts → o ≡ Some a → us ≡ rest ts → one_of table ts ≡ Some (a, us)
operator_read table ts us o a e h r = ap (and_rest ts) (sym e ∙ h) ∙ ap (λ v. Some (a, v)) (sym r)

pub phrase_none : (room : ℕ) (q : Phrase) (ts : Tokens) → room ≡ 0 → phrase room q ts ≡ None
unfolding phrase
phrase_none room q ts e = ap (λ n. phrase n q ts) e
