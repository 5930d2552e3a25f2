-- Reading from left to right, by the next tokens.
use Rattle.std.specs.Prelude.{ℕ, zero, suc, ◌-◌, ℤ, Bool, ◌&&◌, if◌then◌else◌, List, [], ◌∷◌, ◌++◌, length, take, Option, Some, None, is_some}
use Rattle.std.specs.Str.{bytes_eq}
use Rattle.kishu_language.specs.declared.token.Mark.{Mark}
use Rattle.kishu_language.specs.tokens.Layout.{Token, Kind, same}
use Rattle.kishu_language.specs.tokens.Layout as kind
use Rattle.kishu_language.specs.trees.Tree.{Text}
use Rattle.kishu_language.specs.grammar.Language.{Tokens}

-- what is read, and the tokens after it
abbrev pub Outcome : Type 0 → Type 0
Outcome A = Option (A × Tokens)

abbrev pub Reader : Type 0 → Type 0
Reader A = Tokens → Outcome A

abbrev pub and_then : {A B : Type 0} → Outcome A → (A → Reader B) → Outcome B
and_then (Some p) f = f p.0 p.1
and_then None f = None

infixl 10 ◌>>=◌
abbrev pub ◌>>=◌ : {A B : Type 0} → Reader A → (A → Reader B) → Reader B
p >>= f = λ ts. and_then (p ts) f

infixl 10 ◌>>◌
abbrev pub ◌>>◌ : {A B : Type 0} → Reader A → Reader B → Reader B
p >> q = p >>= (λ _. q)

abbrev pub pure : {A : Type 0} → A → Reader A
pure a = λ ts. Some (a, ts)

abbrev pub refuse : {A : Type 0} → Reader A
refuse = λ ts. None

abbrev pub where_true : Bool → Reader (Unit {0})
where_true b = λ ts. if b then Some (tt, ts) else None

-- ---- one token

abbrev pub rest : Tokens → Tokens
rest [] = []
rest (t ∷ ts) = ts

-- of the next token
abbrev pub next : {A : Type 0} → (Kind → Option A) → Tokens → Option A
next found [] = None
next found (t ∷ ts) = found t.kind

abbrev pub and_rest : {A : Type 0} → Tokens → Option A → Outcome A
and_rest ts None = None
and_rest ts (Some a) = Some (a, rest ts)

-- one token that has such a thing
abbrev pub token : {A : Type 0} → (Kind → Option A) → Reader A
token found = λ ts. and_rest ts (next found ts)

abbrev pub sees_some : {A : Type 0} → (Kind → Option A) → Tokens → Bool
sees_some found ts = is_some (next found ts)

abbrev pub where_so : Bool → Option (Unit {0})
where_so b = if b then Some tt else None

abbrev pub is_newline : Kind → Option (Unit {0})
is_newline kind.newline = Some tt
is_newline _ = None

abbrev pub is_indent : Kind → Option (Unit {0})
is_indent kind.indent = Some tt
is_indent _ = None

abbrev pub is_dedent : Kind → Option (Unit {0})
is_dedent kind.dedent = Some tt
is_dedent _ = None

abbrev pub a_name : Kind → Option Text
a_name (kind.name x) = Some x
a_name _ = None

abbrev pub an_integer : Kind → Option ℤ
an_integer (kind.integer z) = Some z
an_integer _ = None

abbrev pub a_text : Kind → Option Text
a_text (kind.quoted x) = Some x
a_text _ = None

-- a mark of those in the table, with what it stands for
abbrev pub in_table : {A : Type 0} → (Mark → Option A) → Kind → Option A
in_table table (kind.mark m) = table m
in_table table _ = None

abbrev pub is_mark : Mark → Kind → Option (Unit {0})
is_mark m = in_table (λ k. where_so (same k m))

-- the name that is this word
abbrev pub is_word : Text → Kind → Option (Unit {0})
is_word w (kind.name x) = where_so (bytes_eq x w)
is_word w _ = None

abbrev pub mark : Mark → Reader (Unit {0})
mark m = token (is_mark m)

abbrev pub sees : Mark → Tokens → Bool
sees m ts = sees_some (is_mark m) ts

abbrev pub one_of : {A : Type 0} → (Mark → Option A) → Reader A
one_of table = token (in_table table)

abbrev pub sees_one : {A : Type 0} → (Mark → Option A) → Tokens → Bool
sees_one table ts = sees_some (in_table table) ts

-- ---- choices and repetitions

-- the one where the test holds, and else the other
abbrev pub either : {A : Type 0} → (Tokens → Bool) → Reader A → Reader A → Reader A
either test p q = λ ts. if test ts then p ts else q ts

-- it where the test holds, and else nothing
abbrev pub optional : {A : Type 0} → (Tokens → Bool) → Reader A → Reader (Option A)
optional test item = either test (item >>= (λ a. pure (Some a))) (pure None)

-- as long as the test holds; the number bounds the turns
abbrev pub climb : {A : Type 0} → (Tokens → Bool) → (A → Reader A) → ℕ → A → Reader A
climb test step zero a ts = Some (a, ts)
climb test step (suc n) a ts = if test ts then and_then (step a ts) (climb test step n) else Some (a, ts)

-- each turn takes a token
abbrev pub turns : {A : Type 0} → (Tokens → Bool) → (A → Reader A) → A → Reader A
turns test step a = λ ts. climb test step (length ts) a ts

abbrev pub one_more : {A : Type 0} → Reader A → List A → Reader (List A)
one_more item all = do
  next ← item
  pure (all ++ next ∷ [])

abbrev pub many : {A : Type 0} → (Tokens → Bool) → Reader A → Reader (List A)
many test item = turns test (one_more item) []

abbrev pub some : {A : Type 0} → (Tokens → Bool) → Reader A → Reader (List A)
some test item = do
  first ← item
  turns test (one_more item) (first ∷ [])

-- the mark, and after it what begins so
abbrev pub sees_more : Mark → (Tokens → Bool) → Tokens → Bool
sees_more m begins ts = sees m ts && begins (rest ts)

-- the value, and the tokens that were taken
abbrev pub spelled : {A : Type 0} → Reader A → Reader (A × Tokens)
spelled p = λ ts. and_then (p ts) (λ a us. Some ((a, take (length ts - length us) ts), us))
