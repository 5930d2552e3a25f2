-- Languages: which tokens spell which values.
use Rattle.std.specs.Prelude.{◌≡◌, ◌⊎◌, ℕ, Bool, true, List, [], ◌∷◌, ◌++◌, Option, Some, None}
use Rattle.kishu_language.specs.declared.token.Mark.{Mark}
use Rattle.kishu_language.specs.tokens.Layout.{Token, Kind}
use Rattle.kishu_language.specs.tokens.Layout as kind

abbrev pub Tokens : Type 0
Tokens = List Token

-- The tokens from the first list to the second, its end, spell the value.
abbrev pub Language : Type 0 → Type 1
Language A = Tokens → Tokens → A → Type 0

-- no tokens, and this value
abbrev pub pure : {A : Type 0} → A → Language A
pure a = λ from to b. (from ≡ to) × (a ≡ b)

-- one, and then the other
infixl 10 ◌>>=◌
abbrev pub ◌>>=◌ : {A B : Type 0} → Language A → (A → Language B) → Language B
p >>= q = λ from to b. (mid : Tokens) × (a : _) × p from mid a × q a mid to b

infixl 10 ◌>>◌
abbrev pub ◌>>◌ : {A B : Type 0} → Language A → Language B → Language B
p >> q = p >>= (λ _. q)

-- the one or the other
infixr 5 ◌or◌
abbrev pub ◌or◌ : {A : Type 0} → Language A → Language A → Language A
p or q = λ from to a. p from to a ⊎ q from to a

abbrev pub none : {A : Type 0} → Language A
none = λ from to a. ⊥

-- nothing, where this is so
abbrev pub where_true : Bool → Language (Unit {0})
where_true b = λ from to _. (from ≡ to) × (b ≡ true)

-- one token, with what it carries
abbrev pub token : {A : Type 0} → (A → Kind) → Language A
token kind = λ from to a. (t : Token) × (from ≡ t ∷ to) × (t.kind ≡ kind a)

-- the end of a line, and the begin and the end of a block
abbrev pub newline : Language (Unit {0})
newline = token (λ _. kind.newline)

abbrev pub indent : Language (Unit {0})
indent = token (λ _. kind.indent)

abbrev pub dedent : Language (Unit {0})
dedent = token (λ _. kind.dedent)

abbrev pub mark : Mark → Language (Unit {0})
mark m = token (λ _. kind.mark m)

-- the mark, or nothing
abbrev pub perhaps : Mark → Language (Unit {0})
perhaps m = pure tt or mark m

-- the name that is this word
abbrev pub word : List ℕ → Language (Unit {0})
word w = token (λ _. kind.name w)

-- one mark of those in the table, with what it stands for
abbrev pub one_of : {A : Type 0} → (Mark → Option A) → Language A
one_of table = λ from to a. (t : Token) × (m : Mark) × (from ≡ t ∷ to) × (t.kind ≡ kind.mark m) × (table m ≡ Some a)

-- each time on from the value so far, any number of times
pub data Many {A : Type 0} (step : A → List Token → List Token → A → Type 0) : A → List Token → List Token → A → Type 0 where
  done : {a : A} {ts : List Token} → Many step a ts ts a
  more : {a b c : A} {ts us vs : List Token} → step a ts us b → Many step b us vs c → Many step a ts vs c

-- any number of them
abbrev pub one_more : {A : Type 0} → Language A → List A → Language (List A)
one_more item all = do
  next ← item
  pure (all ++ next ∷ [])

abbrev pub many : {A : Type 0} → Language A → Language (List A)
many item = Many (one_more item) []

-- one at least
abbrev pub some : {A : Type 0} → Language A → Language (List A)
some item = do
  first ← item
  Many (one_more item) (first ∷ [])

-- it, or nothing
abbrev pub optional : {A : Type 0} → Language A → Language (Option A)
optional item = pure None or (do
  found ← item
  pure (Some found))

-- the value, and the tokens that spell it
abbrev pub spelled : {A : Type 0} → Language A → Language (A × Tokens)
spelled p = λ from to b. p from to b.0 × (from ≡ b.1 ++ to)
