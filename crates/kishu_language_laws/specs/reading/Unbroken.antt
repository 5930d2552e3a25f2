-- No line ends in an expression, and no block begins or ends there: it lies in one piece of the text.
use Rattle.std.specs.Prelude.{◌≡◌, ℕ, zero, suc, Bool, List, Option}
use Rattle.std.proofs.Common.{refl, ap, ◌∙◌, ⊎_elim}
use Rattle.kishu_language.specs.declared.token.Mark.{Mark}
use Rattle.kishu_language.specs.tokens.Layout.{Kind}
use Rattle.kishu_language.specs.tokens.Layout as kind
use Rattle.kishu_language.specs.trees.Tree.{Expression}
use Rattle.kishu_language.specs.grammar.Language.{Tokens, Language, Many, done, more}
use Rattle.kishu_language.specs.grammar.Language as l
use Rattle.kishu_language.specs.grammar.Grammar.{Phrase, exprs, expr, negated, unary}
use Rattle.kishu_language.specs.grammar.Grammar as g
use Rattle.kishu_language.specs.grammar.Targets.{place, targets}
use Rattle.kishu_language.specs.grammar.Pieces.{rest_after, piece_rest}
use Rattle.kishu_language_laws.specs.reading.TargetTrees.{place_phrase, targets_phrase}

-- However many blocks are open, the piece ends where it would without these tokens.
pub record IsUnbroken {A : Type 0} (p : Language A) : Type 0 where
  pub same : (ts us : Tokens) (a : A) (blocks : ℕ) → p ts us a → piece_rest ts blocks ≡ piece_rest us blocks

pub still_pure : {A : Type 0} {a : A} → IsUnbroken (l.pure a)
still_pure = record { same = λ ts us a n h. ap (λ v. piece_rest v n) h.0 }

pub still_none : {A : Type 0} → IsUnbroken (l.none {A = A})
still_none = record { same = λ ts us a n h. absurd h }

pub still_where : {b : Bool} → IsUnbroken (l.where_true b)
still_where = record { same = λ ts us a n h. ap (λ v. piece_rest v n) h.0 }

pub still_then : {A B : Type 0} {p : Language A} {q : A → Language B} → IsUnbroken p → ((a : A) → IsUnbroken (q a)) → IsUnbroken (l.◌>>=◌ p q)
still_then first second = record { same = λ ts us b n h. first.same ts h.0 h.1 n h.2 ∙ (second h.1).same h.0 us b n h.3 }

pub still_or : {A : Type 0} {p q : Language A} → IsUnbroken p → IsUnbroken q → IsUnbroken (l.◌or◌ p q)
still_or first second = record { same = λ ts us a n h. ⊎_elim (first.same ts us a n) (second.same ts us a n) h }

pub still_from : {A : Type 0} {p q : Language A} → IsUnbroken p → ((ts us : Tokens) (a : A) → q ts us a → p ts us a) → IsUnbroken q
still_from first back = record { same = λ ts us a n h. first.same ts us a n (back ts us a h) }

-- neither a line's end nor a block's begin or end
pub still_token : {A : Type 0} {carries : A → Kind} → ((a : A) (n : ℕ) (ts : Tokens) (rest : ℕ → Tokens) → rest_after (carries a) n ts rest ≡ rest n) → IsUnbroken (l.token carries)
still_token {carries = carries} plain = record {
  same = λ ts us a n h. ap (λ v. piece_rest v n) h.1 ∙ ap (λ k. rest_after k n us (λ i. piece_rest us i)) h.2 ∙ plain a n us (λ i. piece_rest us i);
}

pub still_mark : {k : Mark} → IsUnbroken (l.mark k)
still_mark = still_token (λ a n ts rest. refl)

pub still_name : IsUnbroken (l.token kind.name)
still_name = still_token (λ a n ts rest. refl)

pub still_one_of : {A : Type 0} {table : Mark → Option A} → IsUnbroken (l.one_of table)
still_one_of = record { same = λ ts us a n h. ap (λ v. piece_rest v n) h.2 ∙ ap (λ k. rest_after k n us (λ i. piece_rest us i)) h.3 }

-- ---- repetitions

many_same : {A : Type 0} {step : A → Language A} → ((a : A) → IsUnbroken (step a)) → {a b : A} {ts us : Tokens} (n : ℕ) → Many step a ts us b → piece_rest ts n ≡ piece_rest us n
many_same each n done = refl
many_same each n (more {a = a} h k) = (each a).same _ _ _ n h ∙ many_same each n k

pub still_more : {A : Type 0} {item : Language A} {all : List A} → IsUnbroken item → IsUnbroken (Many (l.one_more item) all)
still_more each = record { same = λ ts us a n h. many_same (λ all. still_then each (λ next. still_pure)) n h }

pub still_some : {A : Type 0} {item : Language A} → IsUnbroken item → IsUnbroken (l.some item)
still_some each = still_then each (λ first. still_more each)

pub still_optional : {A : Type 0} {item : Language A} → IsUnbroken item → IsUnbroken (l.optional item)
still_optional each = still_or still_pure (still_then each (λ found. still_pure))

pub still_separated : {A : Type 0} {by : Mark} {item : Language A} → IsUnbroken item → IsUnbroken (g.separated by item)
still_separated each = still_then each (λ first. still_more (still_then still_mark (λ _. each)))

still_listed : {A B : Type 0} {item : Language A} {open_end closed_end : List A → B} → IsUnbroken item → IsUnbroken (g.listed item open_end closed_end)
still_listed each = still_then (still_separated each) (λ all. still_or still_pure (still_then still_mark (λ _. still_pure)))

pub still_any_listed : {A : Type 0} {item : Language A} → IsUnbroken item → IsUnbroken (g.any_listed item)
still_any_listed each = still_or still_pure (still_listed each)

still_operated : {A : Type 0} {item : Language Expression} {operator : Language A} (make : Expression → List (A × Expression) → Expression) → IsUnbroken item → IsUnbroken operator → IsUnbroken (g.operated item operator make)
still_operated make each by = still_then each (λ first. still_then (still_more (still_then by (λ operator. still_then each (λ right. still_pure)))) (λ following. still_pure))

still_comparison : IsUnbroken g.comparison
still_comparison =
    still_or (still_then (still_then still_mark (λ _. still_mark)) (λ _. still_pure))
    (still_or (still_then still_mark (λ _. still_or still_pure (still_then still_mark (λ _. still_pure)))) still_one_of)

still_bracketed : {A : Type 0} {room : Bool} {p : Language A} → IsUnbroken p → IsUnbroken (g.bracketed room p)
still_bracketed inside = still_then still_where (λ _. inside)

-- ---- the levels

module _ (room : Bool) (inner : Phrase → Language Expression) (each : (p : Phrase) → IsUnbroken (inner p)) where
  still_argument : IsUnbroken (g.argument inner)
  unfolding g.argument g.keyword_argument
  still_argument = still_or (still_then (each expr) (λ value. still_pure)) (still_then still_name (λ x. still_then still_mark (λ _. still_then (each expr) (λ value. still_pure))))

  still_attribute : IsUnbroken (g.attribute inner)
  unfolding g.attribute
  still_attribute = still_then still_mark (λ _. still_then still_name (λ x. still_pure))

  still_call : IsUnbroken (g.call inner)
  unfolding g.call
  still_call = still_then still_mark (λ _. still_then (still_any_listed still_argument) (λ found. still_then still_mark (λ _. still_then still_where (λ _. still_pure))))

  still_item : IsUnbroken (g.item inner)
  unfolding g.item
  still_item = still_then still_mark (λ _. still_then (each exprs) (λ index. still_then still_mark (λ _. still_pure)))

  still_slice : IsUnbroken (g.slice inner)
  unfolding g.slice
  still_slice = still_then still_mark (λ _. still_then (still_optional (each expr)) (λ start. still_then still_mark (λ _. still_then (still_optional (each expr))
      (λ stop. still_then (still_or still_pure (still_then still_mark (λ _. still_optional (each expr)))) (λ step. still_then still_mark (λ _. still_pure))))))

  still_trailer : IsUnbroken (g.trailer room inner)
  unfolding g.trailer
  still_trailer = still_or still_attribute (still_bracketed (still_or still_call (still_or still_item still_slice)))

  still_parenthesised : IsUnbroken (g.parenthesised inner)
  unfolding g.parenthesised
  still_parenthesised = still_then still_mark (λ _. still_then (still_or still_pure (still_then (each exprs) (λ e. still_pure))) (λ inside. still_then still_mark (λ _. still_pure)))

  still_list : IsUnbroken (g.list inner)
  unfolding g.list
  still_list = still_then still_mark (λ _. still_then (still_any_listed (each expr)) (λ found. still_then still_mark (λ _. still_pure)))

  still_pair : IsUnbroken (g.pair inner)
  unfolding g.pair
  still_pair = still_then (each expr) (λ key. still_then still_mark (λ _. still_then (each expr) (λ value. still_pure)))

  still_dict : IsUnbroken (g.dict inner)
  unfolding g.dict
  still_dict = still_then still_mark (λ _. still_then (still_any_listed still_pair) (λ found. still_then still_mark (λ _. still_pure)))

  still_atom : IsUnbroken (g.atom room inner)
  unfolding g.atom
  still_atom =
      still_or (still_then still_name (λ x. still_pure))
      (still_or (still_then (still_token (λ a n ts rest. refl)) (λ z. still_pure))
      (still_or (still_then (still_some (still_token (λ a n ts rest. refl))) (λ parts. still_pure))
      (still_or (still_bracketed still_parenthesised) (still_or (still_bracketed still_list) (still_or (still_bracketed still_dict) still_one_of)))))

  still_primary : IsUnbroken (g.primary room inner)
  unfolding g.primary g.primary_parts
  still_primary = still_then (still_then still_atom (λ first. still_then (still_more still_trailer) (λ found. still_pure))) (λ parts. still_pure)

  still_unary : IsUnbroken (g.unary_level room inner)
  unfolding g.unary_level g.power
  still_unary = still_or (still_then still_one_of (λ before. still_then (each unary) (λ operand. still_pure)))
      (still_then still_primary (λ base. still_or still_pure (still_then still_mark (λ _. still_then (each unary) (λ exponent. still_pure)))))

  still_compared : IsUnbroken (g.compared room inner)
  unfolding g.compared g.sum g.term
  still_compared = still_operated g.compared_with (still_operated g.summed (still_operated g.multiplied still_unary still_one_of) still_one_of) still_comparison

  still_negated : IsUnbroken (g.negated_level room inner)
  unfolding g.negated_level
  still_negated = still_or (still_then still_mark (λ _. still_then (each negated) (λ operand. still_pure))) still_compared

  still_disjunction : IsUnbroken (g.disjunction room inner)
  unfolding g.disjunction g.conjunction
  still_disjunction = still_operated g.any_of (still_operated g.all_of still_negated still_mark) still_mark

  still_expr : IsUnbroken (g.expr_level room inner)
  unfolding g.expr_level
  still_expr = still_then still_disjunction
      (λ value. still_or still_pure (still_then still_mark (λ _. still_then still_disjunction (λ test. still_then still_mark (λ _. still_then (each expr) (λ other. still_pure))))))

  still_level : (p : Phrase) → IsUnbroken (g.level room inner p)
  unfolding g.exprs_level
  still_level exprs = still_listed still_expr
  still_level expr = still_expr
  still_level negated = still_negated
  still_level unary = still_unary

pub still_phrase : (n : ℕ) (p : Phrase) → IsUnbroken (g.phrase n p)
unfolding g.phrase
still_phrase zero p = still_none
still_phrase (suc n) p = still_level (g.has_room n) (g.phrase n) (still_phrase n) p

pub still_place : (n : ℕ) → IsUnbroken (place n)
still_place n = still_from (still_phrase n exprs) (λ ts us a h. (place_phrase n ts us a h).0)

pub still_targets : (n : ℕ) → IsUnbroken (targets n)
still_targets n = still_from (still_phrase n exprs) (λ ts us a h. (targets_phrase n ts us a h).0)
