-- The tokens of a function close what they open: brackets, and blocks. Lines end in them at the end of a function's tokens alone, or where a block of it begins or is open.
use Rattle.std.specs.Prelude.{◌≡◌, ℕ, zero, suc, Bool, true, false, ◌||◌, if◌then◌else◌, cond, List, [], ◌∷◌, Option, Some, None}
use Rattle.std.proofs.Common.{refl, sym, ap, ◌∙◌, ⊎_elim, ◌⊎◌, inl, inr}
use denote.Enum.Bare.{same_true}
use Rattle.kishu_language.specs.contracts.token.Mark.{the_type}
use Rattle.kishu_language.specs.declared.token.Mark.{Mark}
use Rattle.kishu_language.specs.declared.token.Mark.TheVariants as m
use Rattle.kishu_language.specs.tokens.Layout.{Kind, Token, name, integer, quoted, newline, indent, dedent, mark, same, is_opening, is_closing, closes}
use Rattle.kishu_language.specs.tokens.Layout as kind
use Rattle.kishu_language.specs.trees.Tree.{Expression}
use Rattle.kishu_language.specs.grammar.Language.{Tokens, Language, Many, done, more}
use Rattle.kishu_language.specs.grammar.Language as l
use Rattle.kishu_language.specs.grammar.Grammar.{Phrase, exprs, expr, negated, unary}
use Rattle.kishu_language.specs.grammar.Grammar as g
use Rattle.kishu_language.specs.grammar.Targets.{place, targets}
use Rattle.kishu_language_laws.specs.reading.TargetTrees.{place_phrase, targets_phrase}

-- ---- whether tokens are those of a function, from some place in it to its end

abbrev pub is_over : Tokens → Bool
is_over [] = true
is_over (t ∷ ts) = false

abbrev pub is_indent : Kind → Bool
is_indent indent = true
is_indent newline = false
is_indent dedent = false
is_indent (name x) = false
is_indent (integer z) = false
is_indent (quoted x) = false
is_indent (mark k) = false

abbrev pub begins_block : Tokens → Bool
begins_block [] = false
begins_block (t ∷ ts) = is_indent t.kind

-- A line has ended, where so many blocks are open: the function is over where none is and none begins.
abbrev pub line_ended : ℕ → Tokens → Bool → Bool
line_ended zero ts rest = if begins_block ts then rest else is_over ts
line_ended (suc n) ts rest = rest

abbrev pub closed_by : Mark → List Mark → (List Mark → Bool) → Bool
closed_by k [] rest = false
closed_by k (b ∷ bs) rest = if closes b k then rest bs else false

abbrev pub marked : Mark → List Mark → (List Mark → Bool) → Bool
marked k bs rest = if is_opening k then rest (k ∷ bs) else if is_closing k then closed_by k bs rest else rest bs

abbrev pub taken : Kind → List Mark → ℕ → Tokens → (List Mark → ℕ → Bool) → Bool
taken newline [] n ts rest = line_ended n ts (rest [] n)
taken newline (b ∷ bs) n ts rest = false
taken indent bs n ts rest = rest bs (suc n)
taken dedent bs zero ts rest = false
taken dedent bs (suc n) ts rest = line_ended n ts (rest bs n)
taken (mark k) bs n ts rest = marked k bs (λ bs. rest bs n)
taken (name x) bs n ts rest = rest bs n
taken (integer z) bs n ts rest = rest bs n
taken (quoted x) bs n ts rest = rest bs n

-- The brackets that are open, the innermost first, and the number of open blocks are given.
abbrev pub is_rest : Tokens → List Mark → ℕ → Bool
is_rest [] bs n = false
is_rest (t ∷ ts) bs n = taken t.kind bs n ts (λ bs n. is_rest ts bs n)

-- ---- marks that are no brackets

abbrev pub IsPlain : Mark → Type 0
IsPlain k = (is_opening k ≡ false) × (is_closing k ≡ false)

pub marked_plain : (k : Mark) (bs : List Mark) (rest : List Mark → Bool) → IsPlain k → marked k bs rest ≡ rest bs
marked_plain k bs rest h = ap (λ b. cond b (rest (k ∷ bs)) (cond (is_closing k) (closed_by k bs rest) (rest bs))) h.0 ∙ ap (λ b. cond b (closed_by k bs rest) (rest bs)) h.1

either : (a b : Bool) → (a || b) ≡ true → (a ≡ true) ⊎ (b ≡ true)
either true b h = inl refl
either false b h = inr h

-- no bracket is in the table
abbrev pub HasNoBracket : {A : Type 0} → (Mark → Option A) → Type 0
HasNoBracket table =
    ((table m.LeftParenthesis ≡ None) × (table m.LeftBracket ≡ None) × (table m.LeftBrace ≡ None))
    × ((table m.RightParenthesis ≡ None) × (table m.RightBracket ≡ None) × (table m.RightBrace ≡ None))

absent : {A : Type 0} (o : Option A) (a : A) → o ≡ None → o ≡ Some a → ⊥
absent None a e h = cc
absent (Some b) a e h = cc

module _ {A : Type 0} (table : Mark → Option A) (has : HasNoBracket table) (k : Mark) (a : A) (h : table k ≡ Some a) where
  not_it : (x : Mark) → table x ≡ None → k ≡ x → ⊥
  not_it x e q = absent (table x) a e (sym (ap table q) ∙ h)

  not_true : (b : Bool) → (b ≡ true → ⊥) → b ≡ false
  not_true true n = absurd (n refl)
  not_true false n = refl

  not_opening : is_opening k ≡ true → ⊥
  not_opening o = ⊎_elim
      (λ e. not_it m.LeftParenthesis has.0.0 (same_true the_type tt k m.LeftParenthesis e))
      (λ o. ⊎_elim
      (λ e. not_it m.LeftBracket has.0.1 (same_true the_type tt k m.LeftBracket e))
      (λ e. not_it m.LeftBrace has.0.2 (same_true the_type tt k m.LeftBrace e)) (either (same k m.LeftBracket) (same k m.LeftBrace) o))
      (either (same k m.LeftParenthesis) (same k m.LeftBracket || same k m.LeftBrace) o)

  not_closing : is_closing k ≡ true → ⊥
  not_closing o = ⊎_elim
      (λ e. not_it m.RightParenthesis has.1.0 (same_true the_type tt k m.RightParenthesis e))
      (λ o. ⊎_elim
      (λ e. not_it m.RightBracket has.1.1 (same_true the_type tt k m.RightBracket e))
      (λ e. not_it m.RightBrace has.1.2 (same_true the_type tt k m.RightBrace e)) (either (same k m.RightBracket) (same k m.RightBrace) o))
      (either (same k m.RightParenthesis) (same k m.RightBracket || same k m.RightBrace) o)

  plain_in : IsPlain k
  plain_in = (not_true (is_opening k) not_opening, not_true (is_closing k) not_closing)

-- ---- phrases

-- What is open before these tokens is so after them.
pub record IsEven {A : Type 0} (p : Language A) : Type 0 where
  pub same : (ts us : Tokens) (a : A) (bs : List Mark) (n : ℕ) → p ts us a → is_rest ts bs n ≡ is_rest us bs n

pub even_pure : {A : Type 0} {a : A} → IsEven (l.pure a)
even_pure = record { same = λ ts us a bs n h. ap (λ v. is_rest v bs n) h.0 }

pub even_none : {A : Type 0} → IsEven (l.none {A = A})
even_none = record { same = λ ts us a bs n h. absurd h }

pub even_where : {b : Bool} → IsEven (l.where_true b)
even_where = record { same = λ ts us a bs n h. ap (λ v. is_rest v bs n) h.0 }

pub even_then : {A B : Type 0} {p : Language A} {q : A → Language B} → IsEven p → ((a : A) → IsEven (q a)) → IsEven (l.◌>>=◌ p q)
even_then first second = record { same = λ ts us b bs n h. first.same ts h.0 h.1 bs n h.2 ∙ (second h.1).same h.0 us b bs n h.3 }

pub even_or : {A : Type 0} {p q : Language A} → IsEven p → IsEven q → IsEven (l.◌or◌ p q)
even_or first second = record { same = λ ts us a bs n h. ⊎_elim (first.same ts us a bs n) (second.same ts us a bs n) h }

even_from : {A : Type 0} {p q : Language A} → IsEven p → ((ts us : Tokens) (a : A) → q ts us a → p ts us a) → IsEven q
even_from first back = record { same = λ ts us a bs n h. first.same ts us a bs n (back ts us a h) }

-- a token of this kind, and then the rest
pub one_token : (k : Kind) (ts us : Tokens) (bs : List Mark) (n : ℕ) → (t : Token) × (ts ≡ t ∷ us) × (t.kind ≡ k) → is_rest ts bs n ≡ taken k bs n us (λ bs n. is_rest us bs n)
one_token k ts us bs n h = ap (λ v. is_rest v bs n) h.1 ∙ ap (λ k. taken k bs n us (λ bs n. is_rest us bs n)) h.2

pub even_token : {A : Type 0} {carries : A → Kind} → ((a : A) (bs : List Mark) (n : ℕ) (ts : Tokens) (rest : List Mark → ℕ → Bool) → taken (carries a) bs n ts rest ≡ rest bs n) → IsEven (l.token carries)
even_token {carries = carries} plain = record { same = λ ts us a bs n h. one_token (carries a) ts us bs n h ∙ plain a bs n us (λ bs n. is_rest us bs n) }

pub even_mark : {k : Mark} → IsPlain k → IsEven (l.mark k)
even_mark {k = k} plain = even_token (λ a bs n ts rest. marked_plain k bs (λ bs. rest bs n) plain)

pub even_name : IsEven (l.token kind.name)
even_name = even_token (λ a bs n ts rest. refl)

pub even_one_of : {A : Type 0} {table : Mark → Option A} → HasNoBracket table → IsEven (l.one_of table)
even_one_of {table = table} has = record {
  same = λ ts us a bs n h. one_token (kind.mark h.1) ts us bs n (h.0, h.2, h.3) ∙ marked_plain h.1 bs (λ bs. is_rest us bs n) (plain_in table has h.1 a h.4);
}

pub opens : (o : Mark) (ts us : Tokens) (a : Unit {0}) (bs : List Mark) (n : ℕ) → is_opening o ≡ true → l.mark o ts us a → is_rest ts bs n ≡ is_rest us (o ∷ bs) n
opens o ts us a bs n is h =
    one_token (kind.mark o) ts us bs n h ∙ ap (λ b. cond b (is_rest us (o ∷ bs) n) (cond (is_closing o) (closed_by o bs (λ bs. is_rest us bs n)) (is_rest us bs n))) is

pub shuts : (o c : Mark) (ts us : Tokens) (a : Unit {0}) (bs : List Mark) (n : ℕ) → is_opening c ≡ false → is_closing c ≡ true → closes o c ≡ true → l.mark c ts us a → is_rest ts (o ∷ bs) n ≡ is_rest us bs n
shuts o c ts us a bs n apart is fits h =
    one_token (kind.mark c) ts us (o ∷ bs) n h
    ∙ ap (λ b. cond b (is_rest us (c ∷ o ∷ bs) n) (cond (is_closing c) (closed_by c (o ∷ bs) (λ bs. is_rest us bs n)) (is_rest us (o ∷ bs) n))) apart
    ∙ ap (λ b. cond b (closed_by c (o ∷ bs) (λ bs. is_rest us bs n)) (is_rest us (o ∷ bs) n)) is ∙ ap (λ b. cond b (is_rest us bs n) false) fits

-- what stands between brackets, and then more
pub even_enclosed : {A B : Type 0} {o c : Mark} {p : Language A} {q : A → Language B} → is_opening o ≡ true → is_opening c ≡ false → is_closing c ≡ true → closes o c ≡ true → IsEven p → ((a : A) → IsEven (q a))
    → IsEven (l.◌>>◌ (l.mark o) (l.◌>>=◌ p (λ a. l.◌>>◌ (l.mark c) (q a))))
even_enclosed {o = o} {c = c} first apart is fits inner after = record {
  same = λ ts us b bs n h.
      (let body = h.3 in
      let end = body.3 in
      opens o ts h.0 h.1 bs n first h.2 ∙ inner.same h.0 body.0 body.1 (o ∷ bs) n body.2 ∙ shuts o c body.0 end.0 end.1 bs n apart is fits end.2 ∙ (after body.1).same end.0 us b bs n end.3);
}

-- ---- repetitions

many_same : {A : Type 0} {step : A → Language A} → ((a : A) → IsEven (step a)) → {a b : A} {ts us : Tokens} (bs : List Mark) (n : ℕ) → Many step a ts us b → is_rest ts bs n ≡ is_rest us bs n
many_same each bs n done = refl
many_same each bs n (more {a = a} h k) = (each a).same _ _ _ bs n h ∙ many_same each bs n k

pub even_more : {A : Type 0} {item : Language A} {all : List A} → IsEven item → IsEven (Many (l.one_more item) all)
even_more each = record { same = λ ts us a bs n h. many_same (λ all. even_then each (λ next. even_pure)) bs n h }

pub even_some : {A : Type 0} {item : Language A} → IsEven item → IsEven (l.some item)
even_some each = even_then each (λ first. even_more each)

pub even_optional : {A : Type 0} {item : Language A} → IsEven item → IsEven (l.optional item)
even_optional each = even_or even_pure (even_then each (λ found. even_pure))

pub even_separated : {A : Type 0} {by : Mark} {item : Language A} → IsPlain by → IsEven item → IsEven (g.separated by item)
even_separated plain each = even_then each (λ first. even_more (even_then (even_mark plain) (λ _. each)))

even_listed : {A B : Type 0} {item : Language A} {open_end closed_end : List A → B} → IsEven item → IsEven (g.listed item open_end closed_end)
even_listed each = even_then (even_separated (refl, refl) each) (λ all. even_or even_pure (even_then (even_mark (refl, refl)) (λ _. even_pure)))

pub even_any_listed : {A : Type 0} {item : Language A} → IsEven item → IsEven (g.any_listed item)
even_any_listed each = even_or even_pure (even_listed each)

even_operated : {A : Type 0} {item : Language Expression} {operator : Language A} (make : Expression → List (A × Expression) → Expression) → IsEven item → IsEven operator → IsEven (g.operated item operator make)
even_operated make each by = even_then each (λ first. even_then (even_more (even_then by (λ operator. even_then each (λ right. even_pure)))) (λ following. even_pure))

even_comparison : IsEven g.comparison
even_comparison =
    even_or (even_then (even_then (even_mark (refl, refl)) (λ _. even_mark (refl, refl))) (λ _. even_pure))
    (even_or (even_then (even_mark (refl, refl)) (λ _. even_or even_pure (even_then (even_mark (refl, refl)) (λ _. even_pure)))) (even_one_of ((refl, refl, refl), (refl, refl, refl))))

even_bracketed : {A : Type 0} {room : Bool} {p : Language A} → IsEven p → IsEven (g.bracketed room p)
even_bracketed inside = even_then even_where (λ _. inside)

-- ---- the levels

module _ (room : Bool) (inner : Phrase → Language Expression) (each : (p : Phrase) → IsEven (inner p)) where
  even_argument : IsEven (g.argument inner)
  unfolding g.argument g.keyword_argument
  even_argument = even_or (even_then (each expr) (λ value. even_pure)) (even_then even_name (λ x. even_then (even_mark (refl, refl)) (λ _. even_then (each expr) (λ value. even_pure))))

  even_attribute : IsEven (g.attribute inner)
  unfolding g.attribute
  even_attribute = even_then (even_mark (refl, refl)) (λ _. even_then even_name (λ x. even_pure))

  even_call : IsEven (g.call inner)
  unfolding g.call
  even_call = even_enclosed refl refl refl refl (even_any_listed even_argument) (λ found. even_then even_where (λ _. even_pure))

  even_item : IsEven (g.item inner)
  unfolding g.item
  even_item = even_enclosed refl refl refl refl (each exprs) (λ index. even_pure)

  -- the bracket stays open
  even_slice : IsEven (g.slice inner)
  unfolding g.slice
  even_slice = record {
    same = λ ts us a bs n h.
        (let start = h.3 in
        let colon = start.3 in
        let stop = colon.3 in
        let step = stop.3 in
        let end = step.3 in
        opens m.LeftBracket ts h.0 h.1 bs n refl h.2 ∙ (even_optional (each expr)).same h.0 start.0 start.1 (m.LeftBracket ∷ bs) n start.2
        ∙ (even_mark {k = m.Colon} (refl, refl)).same start.0 colon.0 colon.1 (m.LeftBracket ∷ bs) n colon.2
        ∙ (even_optional (each expr)).same colon.0 stop.0 stop.1 (m.LeftBracket ∷ bs) n stop.2
        ∙ (even_or even_pure (even_then (even_mark (refl, refl)) (λ _. even_optional (each expr)))).same stop.0 step.0 step.1 (m.LeftBracket ∷ bs) n step.2
        ∙ shuts m.LeftBracket m.RightBracket step.0 end.0 end.1 bs n refl refl refl end.2 ∙ ap (λ v. is_rest v bs n) end.3.0);
  }

  even_trailer : IsEven (g.trailer room inner)
  unfolding g.trailer
  even_trailer = even_or even_attribute (even_bracketed (even_or even_call (even_or even_item even_slice)))

  even_parenthesised : IsEven (g.parenthesised inner)
  unfolding g.parenthesised
  even_parenthesised = even_enclosed refl refl refl refl (even_or even_pure (even_then (each exprs) (λ e. even_pure))) (λ inside. even_pure)

  even_list : IsEven (g.list inner)
  unfolding g.list
  even_list = even_enclosed refl refl refl refl (even_any_listed (each expr)) (λ found. even_pure)

  even_pair : IsEven (g.pair inner)
  unfolding g.pair
  even_pair = even_then (each expr) (λ key. even_then (even_mark (refl, refl)) (λ _. even_then (each expr) (λ value. even_pure)))

  even_dict : IsEven (g.dict inner)
  unfolding g.dict
  even_dict = even_enclosed refl refl refl refl (even_any_listed even_pair) (λ found. even_pure)

  even_atom : IsEven (g.atom room inner)
  unfolding g.atom
  even_atom =
      even_or (even_then even_name (λ x. even_pure))
      (even_or (even_then (even_token (λ a bs n ts rest. refl)) (λ z. even_pure))
      (even_or (even_then (even_some (even_token (λ a bs n ts rest. refl))) (λ parts. even_pure))
      (even_or (even_bracketed even_parenthesised) (even_or (even_bracketed even_list) (even_or (even_bracketed even_dict) (even_one_of ((refl, refl, refl), (refl, refl, refl))))))))

  even_primary : IsEven (g.primary room inner)
  unfolding g.primary g.primary_parts
  even_primary = even_then (even_then even_atom (λ first. even_then (even_more even_trailer) (λ found. even_pure))) (λ parts. even_pure)

  even_unary : IsEven (g.unary_level room inner)
  unfolding g.unary_level g.power
  even_unary = even_or (even_then (even_one_of ((refl, refl, refl), (refl, refl, refl))) (λ before. even_then (each unary) (λ operand. even_pure)))
      (even_then even_primary (λ base. even_or even_pure (even_then (even_mark (refl, refl)) (λ _. even_then (each unary) (λ exponent. even_pure)))))

  even_compared : IsEven (g.compared room inner)
  unfolding g.compared g.sum g.term
  even_compared = even_operated g.compared_with
      (even_operated g.summed (even_operated g.multiplied even_unary (even_one_of ((refl, refl, refl), (refl, refl, refl)))) (even_one_of ((refl, refl, refl), (refl, refl, refl)))) even_comparison

  even_negated : IsEven (g.negated_level room inner)
  unfolding g.negated_level
  even_negated = even_or (even_then (even_mark (refl, refl)) (λ _. even_then (each negated) (λ operand. even_pure))) even_compared

  even_disjunction : IsEven (g.disjunction room inner)
  unfolding g.disjunction g.conjunction
  even_disjunction = even_operated g.any_of (even_operated g.all_of even_negated (even_mark (refl, refl))) (even_mark (refl, refl))

  even_expr : IsEven (g.expr_level room inner)
  unfolding g.expr_level
  even_expr = even_then even_disjunction
      (λ value. even_or even_pure (even_then (even_mark (refl, refl)) (λ _. even_then even_disjunction (λ test. even_then (even_mark (refl, refl)) (λ _. even_then (each expr) (λ other. even_pure))))))

  even_level : (p : Phrase) → IsEven (g.level room inner p)
  unfolding g.exprs_level
  even_level exprs = even_listed even_expr
  even_level expr = even_expr
  even_level negated = even_negated
  even_level unary = even_unary

pub even_phrase : (n : ℕ) (p : Phrase) → IsEven (g.phrase n p)
unfolding g.phrase
even_phrase zero p = even_none
even_phrase (suc n) p = even_level (g.has_room n) (g.phrase n) (even_phrase n) p

pub even_place : (n : ℕ) → IsEven (place n)
even_place n = even_from (even_phrase n exprs) (λ ts us a h. (place_phrase n ts us a h).0)

pub even_targets : (n : ℕ) → IsEven (targets n)
even_targets n = even_from (even_phrase n exprs) (λ ts us a h. (targets_phrase n ts us a h).0)
