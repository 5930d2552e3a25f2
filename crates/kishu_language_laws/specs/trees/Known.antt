-- What each value that a language spells has, where the names among the tokens are names and something is known of the numbers and the texts among them: one law for each way to put languages together, so that a production's proof reads as the production.
use Rattle.std.specs.Prelude.{◌≡◌, ℤ, Bool, true, IsTrue, List, [], ◌∷◌, Option}
use Rattle.std.proofs.Common.{subst}
use Rattle.kishu_language.specs.declared.token.Mark.{Mark}
use Rattle.kishu_language.specs.tokens.Names.{is_name}
use Rattle.kishu_language.specs.tokens.Layout.{Kind, Token, name, integer, quoted, newline, indent, dedent, mark}
use Rattle.kishu_language.specs.trees.Tree.{Text, Expression}
use Rattle.kishu_language.specs.grammar.Language.{Tokens, Language}
use Rattle.kishu_language.specs.grammar.Language as l
use Rattle.kishu_language.specs.grammar.Grammar as g
use Rattle.kishu_language_laws.specs.trees.Gives.{Leads, pure, ◌>>=◌, ◌>>◌, ◌or◌, Each, many_from, many, unless_alone}

-- What is known of the numbers and the texts among the tokens, and of the texts that adjacent ones make.
pub record Known : Type 1 where
  pub number : ℤ → Type 0
  pub piece : Text → Type 0
  pub text : Text → Type 0
  pub joins : (parts : List Text) → Each piece parts → text (g.joined parts)

-- A name is a name, and of a number and a text it is known.
abbrev pub KindKnown : Known → Kind → Type 0
KindKnown known (name x) = IsTrue (is_name x)
KindKnown known (integer z) = known.number z
KindKnown known (quoted x) = known.piece x
KindKnown known newline = Unit {0}
KindKnown known indent = Unit {0}
KindKnown known dedent = Unit {0}
KindKnown known (mark k) = Unit {0}

abbrev pub EachKnown : Known → Tokens → Type 0
EachKnown known ts = Each (λ (t : Token). KindKnown known t.kind) ts

pub record AllKnown (known : Known) (ts : List Token) : Type 0 where
  pub each : EachKnown known ts

-- Where it is known of the tokens, it is of those that are left, and this holds of the value.
abbrev pub Tells : {A : Type 0} → Known → Language A → (A → Type 0) → Type 0
Tells known p P = Leads (AllKnown known) p P

module _ {known : Known} where
  -- ---- one token, or none

  pub token : {A : Type 0} {kind : A → Kind} → Tells known (l.token kind) (λ a. KindKnown known (kind a))
  token = record { leads = λ ts us a i h. (let n = (subst (AllKnown known) h.1 i).each in (record { each = n.1 }, subst (KindKnown known) h.2 n.0)) }

  pub one_of : {A : Type 0} {table : Mark → Option A} → Tells known (l.one_of table) (λ _. Unit {0})
  one_of = record { leads = λ ts us a i h. (let n = (subst (AllKnown known) h.2 i).each in (record { each = n.1 }, tt)) }

  pub where_true : {b : Bool} → Tells known (l.where_true b) (λ _. b ≡ true)
  where_true = record { leads = λ ts us a i h. (subst (AllKnown known) h.0 i, h.1) }

  pub perhaps : {k : Mark} → Tells known (l.perhaps k) (λ _. Unit {0})
  perhaps = pure tt or token

  -- ---- the grammar's own

  pub bracketed : {A : Type 0} {room : Bool} {p : Language A} {P : A → Type 0} → Tells known p P → Tells known (g.bracketed room p) P
  bracketed one = where_true >> one

  pub separated : {A : Type 0} {by : Mark} {item : Language A} {P : A → Type 0} → Tells known item P → Tells known (g.separated by item) (Each P)
  separated one = do
    (first, so) ← one
    many_from (token >> one) (first ∷ []) (so, tt)

  pub listed : {A B : Type 0} {item : Language A} {open_end closed_end : List A → B} {P : A → Type 0} {Q : B → Type 0}
      → Tells known item P → ((all : List A) → Each P all → Q (open_end all)) → ((all : List A) → Each P all → Q (closed_end all)) → Tells known (g.listed item open_end closed_end) Q
  listed one when_open when_closed = do
    (all, so) ← separated one
    pure (when_open all so) or (token >> pure (when_closed all so))

  pub any_listed : {A : Type 0} {item : Language A} {P : A → Type 0} → Tells known item P → Tells known (g.any_listed item) (Each P)
  any_listed one = pure tt or listed one (λ all so. so) (λ all so. so)

  module _ {A : Type 0} {P : Expression → Type 0} (make : Expression → List (A × Expression) → Expression)
      (made : (e : Expression) (x : A × Expression) (xs : List (A × Expression)) → P e → Each (λ p. P p.1) (x ∷ xs) → P (make e (x ∷ xs))) where
    pub operated : {item : Language Expression} {operator : Language A} → Tells known item P → Tells known operator (λ _. Unit {0}) → Tells known (g.operated item operator make) P
    operated one operator = do
      (first, so) ← one
      (following, each) ← many (do
        by ← operator
        (right, so) ← one
        pure so)
      pure (unless_alone make (λ e h. h) made first following so each)
