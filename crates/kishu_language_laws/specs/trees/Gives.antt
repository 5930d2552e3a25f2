-- What each value that a language spells has: one law for each way to put languages together, so that a production's proof reads as the production.
use Rattle.std.specs.Prelude.{Bool, List, [], ◌∷◌, ◌++◌, Option, Some, None}
use Rattle.std.specs.List.{flat_map}
use Rattle.std.proofs.Common.{subst, ⊎_elim}
use Rattle.kishu_language.specs.declared.token.Mark.{Mark}
use Rattle.kishu_language.specs.tokens.Layout.{Token}
use Rattle.kishu_language.specs.trees.Tree.{Expression}
use Rattle.kishu_language.specs.grammar.Language.{Tokens, Language, Many, done, more}
use Rattle.kishu_language.specs.grammar.Language as l
use Rattle.kishu_language.specs.grammar.Grammar as g

-- Read where this holds of the tokens to come, it holds of those that are left, and that of the value.
pub record Leads {A : Type 0} (I : List Token → Type 0) (p : Language A) (P : A → Type 0) : Type 0 where
  pub leads : (ts us : Tokens) (a : A) → I ts → p ts us a → I us × P a

abbrev pub anywhere : Tokens → Type 0
anywhere ts = Unit {0}

abbrev pub Gives : {A : Type 0} → Language A → (A → Type 0) → Type 0
Gives p P = Leads anywhere p P

pub given : {A : Type 0} {p : Language A} {P : A → Type 0} → Gives p P → (ts us : Tokens) (a : A) → p ts us a → P a
given one ts us a h = (one.leads ts us a tt h).1

pub gives : {A : Type 0} {p : Language A} {P : A → Type 0} → ((ts us : Tokens) (a : A) → p ts us a → P a) → Gives p P
gives has = record { leads = λ ts us a i h. (tt, has ts us a h) }

-- a value that nothing need be known of
pub whatever : {A : Type 0} {p : Language A} → Gives p (λ _. Unit {0})
whatever = gives (λ ts us a h. tt)

-- ---- one law a combinator

pub pure : {A : Type 0} {I : Tokens → Type 0} {a : A} {P : A → Type 0} → P a → Leads I (l.pure a) P
pure {I = I} {P = P} so = record { leads = λ ts us b i h. (subst I h.0 i, subst P h.1 so) }

pub none : {A : Type 0} {I : Tokens → Type 0} {P : A → Type 0} → Leads I l.none P
none = record { leads = λ ts us a i h. absurd h }

infixl 10 ◌>>=◌
pub ◌>>=◌ : {A B : Type 0} {I : Tokens → Type 0} {p : Language A} {q : A → Language B} {P : A → Type 0} {Q : B → Type 0}
    → Leads I p P → ((x : (a : A) × P a) → Leads I (q x.0) Q) → Leads I (l.◌>>=◌ p q) Q
first >>= second = record {
  leads = λ ts us b i h. (let k = first.leads ts h.0 h.1 i h.2 in (second (h.1, k.1)).leads h.0 us b k.0 h.3);
}

infixl 10 ◌>>◌
pub ◌>>◌ : {A B : Type 0} {I : Tokens → Type 0} {p : Language A} {q : Language B} {P : A → Type 0} {Q : B → Type 0} → Leads I p P → Leads I q Q → Leads I (l.◌>>◌ p q) Q
first >> second = first >>= (λ _. second)

infixr 5 ◌or◌
pub ◌or◌ : {A : Type 0} {I : Tokens → Type 0} {p q : Language A} {P : A → Type 0} → Leads I p P → Leads I q P → Leads I (l.◌or◌ p q) P
first or second = record { leads = λ ts us a i h. ⊎_elim (first.leads ts us a i) (second.leads ts us a i) h }

pub so_too : {A : Type 0} {I : Tokens → Type 0} {p : Language A} {P Q : A → Type 0} → Leads I p P → ((a : A) → P a → Q a) → Leads I p Q
so_too one implies = record { leads = λ ts us a i h. (let k = one.leads ts us a i h in (k.0, implies a k.1)) }

-- ---- lists

abbrev pub Each : {A : Type 0} → (A → Type 0) → List A → Type 0
Each P [] = Unit {0}
Each P (a ∷ as') = P a × Each P as'

abbrev pub IfAny : {A : Type 0} → (A → Type 0) → Option A → Type 0
IfAny P None = Unit {0}
IfAny P (Some a) = P a

module _ {A : Type 0} (P : A → Type 0) where
  pub one_longer : (all : List A) (next : A) → Each P all → P next → Each P (all ++ next ∷ [])
  one_longer [] next h k = (k, tt)
  one_longer (a ∷ all) next h k = (h.0, one_longer all next h.1 k)

  both_lists : (as' bs : List A) → Each P as' → Each P bs → Each P (as' ++ bs)
  both_lists [] bs h k = k
  both_lists (a ∷ as') bs h k = (h.0, both_lists as' bs h.1 k)

  pub in_parts : (parts : List (List A)) → Each (Each P) parts → Each P (flat_map (λ part. part) parts)
  in_parts [] h = tt
  in_parts (part ∷ parts) h = both_lists part _ h.0 (in_parts parts h.1)

module _ {A : Type 0} {I : Tokens → Type 0} {item : Language A} {P : A → Type 0} (one : Leads I item P) where
  turns : {all found : List A} {ts us : Tokens} → Many (l.one_more item) all ts us found → I ts → Each P all → I us × Each P found
  turns done i so = (i, so)
  turns (more {a = all} {ts = ts} h k) i so =
      let n = one.leads ts h.0 h.1 i h.2 in
      turns k (subst I h.3.0 n.0) (subst (Each P) h.3.1 (one_longer P all h.1 so n.1))

  pub many_from : (all : List A) → Each P all → Leads I (Many (l.one_more item) all) (Each P)
  many_from all so = record { leads = λ ts us found i h. turns h i so }

  pub many : Leads I (l.many item) (Each P)
  many = many_from [] tt

  pub some : Leads I (l.some item) (Each P)
  some = do
    (first, so) ← one
    many_from (first ∷ []) (so, tt)

  pub optional : Leads I (l.optional item) (IfAny P)
  optional = pure tt or (do
    (found, so) ← one
    pure so)

-- ---- the grammar's own

pub bracketed : {A : Type 0} {room : Bool} {p : Language A} {P : A → Type 0} → Gives p P → Gives (g.bracketed room p) P
bracketed one = whatever >> one

pub separated : {A : Type 0} {by : Mark} {item : Language A} {P : A → Type 0} → Gives item P → Gives (g.separated by item) (Each P)
separated one = do
  (first, so) ← one
  many_from (whatever >> one) (first ∷ []) (so, tt)

pub listed : {A B : Type 0} {item : Language A} {open_end closed_end : List A → B} {P : A → Type 0} {Q : B → Type 0}
    → Gives item P → ((all : List A) → Each P all → Q (open_end all)) → ((all : List A) → Each P all → Q (closed_end all)) → Gives (g.listed item open_end closed_end) Q
listed one when_open when_closed = do
  (all, so) ← separated one
  pure (when_open all so) or (whatever >> pure (when_closed all so))

pub any_listed : {A : Type 0} {item : Language A} {P : A → Type 0} → Gives item P → Gives (g.any_listed item) (Each P)
any_listed one = pure tt or listed one (λ all so. so) (λ all so. so)

module _ {A : Type 0} {P Q : Expression → Type 0} (make : Expression → List (A × Expression) → Expression)
    (stays : (e : Expression) → P e → Q e) (made : (e : Expression) (x : A × Expression) (xs : List (A × Expression)) → P e → Each (λ p. P p.1) (x ∷ xs) → Q (make e (x ∷ xs))) where
  pub unless_alone : (e : Expression) (xs : List (A × Expression)) → P e → Each (λ p. P p.1) xs → Q (g.unless_alone make e xs)
  unless_alone e [] so each = stays e so
  unless_alone e (x ∷ xs) so each = made e x xs so each

  pub operated : {item : Language Expression} {operator : Language A} → Gives item P → Gives (g.operated item operator make) Q
  operated one = do
    (first, so) ← one
    (following, each) ← many (do
      by ← whatever
      (right, so) ← one
      pure so)
    pure (unless_alone first following so each)
