-- When each reading of one language is a reading of another, whatever tokens follow it, and with tokens like its own in their place: one law for each way to put languages together, so that a production's proof reads as the production.
use Rattle.std.specs.Prelude.{◌≡◌, Bool, true, List, [], ◌∷◌, ◌++◌, map, Option}
use Rattle.std.proofs.Common.{refl, sym, ap, subst, ◌∙◌, inl, inr, ⊎_elim}
use Rattle.std.proofs.lemmas.List.{append_assoc, append_cancel_right}
use Rattle.kishu_language.specs.declared.token.Mark.{Mark}
use Rattle.kishu_language.specs.tokens.Layout.{Token, Kind}
use Rattle.kishu_language.specs.trees.Tree.{Expression}
use Rattle.kishu_language.specs.grammar.Language.{Tokens, Language, Many, done, more}
use Rattle.kishu_language.specs.grammar.Language as l
use Rattle.kishu_language.specs.grammar.Grammar as g

-- ---- tokens that are alike

-- when two tokens are alike: they have one kind at least
pub record Likeness : Type 1 where
  pub Alike : Token → Token → Type 0
  pub kinds : (t u : Token) → Alike t u → t.kind ≡ u.kind

-- the same
pub same : Likeness
same = record { Alike = λ t u. t ≡ u; kinds = λ t u h. ap (λ t. t.kind) h }

-- of one kind, on whatever line and at whatever place
pub same_kind : Likeness
same_kind = record { Alike = λ t u. t.kind ≡ u.kind; kinds = λ t u h. h }

-- each like the other's at its place
abbrev pub AllAlike : Likeness → Tokens → Tokens → Type 0
AllAlike L [] [] = Unit {0}
AllAlike L [] (u ∷ us) = ⊥
AllAlike L (t ∷ ts) [] = ⊥
AllAlike L (t ∷ ts) (u ∷ us) = L.Alike t u × AllAlike L ts us

pub all_same : (ts us : Tokens) → AllAlike same ts us → ts ≡ us
unfolding same
all_same [] [] h = refl
all_same [] (u ∷ us) h = absurd h
all_same (t ∷ ts) [] h = absurd h
all_same (t ∷ ts) (u ∷ us) h = λ i. h.0 i ∷ all_same ts us h.1 i

pub themselves : (ts : Tokens) → AllAlike same ts ts
unfolding same
themselves [] = tt
themselves (t ∷ ts) = (refl, themselves ts)

-- the kinds of tokens, one after another
abbrev pub kinds_of : Tokens → List Kind
kinds_of ts = map (λ t. t.kind) ts

first_is : (k : Kind) → List Kind → Kind
first_is k [] = k
first_is k (x ∷ xs) = x

rest_is : List Kind → List Kind
rest_is [] = []
rest_is (x ∷ xs) = xs

pub all_of_kind : (ts us : Tokens) → kinds_of ts ≡ kinds_of us → AllAlike same_kind ts us
unfolding same_kind first_is rest_is
all_of_kind [] [] e = tt
all_of_kind [] (u ∷ us) e = absurd cc
all_of_kind (t ∷ ts) [] e = absurd cc
all_of_kind (t ∷ ts) (u ∷ us) e = (ap (first_is t.kind) e, all_of_kind ts us (ap rest_is e))

module _ (L : Likeness) where
  like_none : (us : Tokens) → AllAlike L [] us → us ≡ []
  like_none [] h = refl
  like_none (u ∷ us) h = absurd h

  like_one : (t : Token) (us : Tokens) → AllAlike L (t ∷ []) us → (u : Token) × (us ≡ u ∷ []) × (u.kind ≡ t.kind)
  like_one t [] h = absurd h
  like_one t (u ∷ us) h = (u, ap (λ (v : Tokens). u ∷ v) (like_none us h.1), sym (L.kinds t u h.0))

  like_both : (ts us vs : Tokens) → AllAlike L (ts ++ us) vs → (xs : Tokens) × (ys : Tokens) × (vs ≡ xs ++ ys) × AllAlike L ts xs × AllAlike L us ys
  like_both [] us vs h = ([], vs, refl, tt, h)
  like_both (t ∷ ts) us [] h = absurd h
  like_both (t ∷ ts) us (v ∷ vs) h = let k = like_both ts us vs h.1 in (v ∷ k.0, k.1, ap (λ (w : Tokens). v ∷ w) k.2, (h.0, k.3), k.4)

-- ---- readings that are carried over

-- Some tokens are taken, and any that are like them spell the value, whatever follows them.
abbrev pub Taken : {A : Type 0} → Likeness → Language A → Tokens → Tokens → A → Type 0
Taken L q ts us a = (xs : Tokens) × (ts ≡ xs ++ us) × ((ys vs : Tokens) → AllAlike L xs ys → q (ys ++ vs) vs a)

pub record Carries {A : Type 0} (L : Likeness) (p q : Language A) : Type 0 where
  pub taken : (ts us : Tokens) (a : A) → p ts us a → Taken L q ts us a

-- with the same tokens after it
pub within : {A : Type 0} {p q : Language A} → Carries same p q → (ts us : Tokens) (a : A) → p ts us a → q ts us a
within {q = q} one ts us a h = let k = one.taken ts us a h in subst (λ (v : Tokens). q v us a) (sym k.1) (k.2 k.0 us (themselves k.0))

-- by tokens like its own, with others after them
pub likewise : {A : Type 0} {L : Likeness} {p q : Language A} → Carries L p q → (xs ys us vs : Tokens) (a : A) → AllAlike L xs ys → p (xs ++ us) us a → q (ys ++ vs) vs a
likewise {L = L} {q = q} one xs ys us vs a alike h =
    let k = one.taken (xs ++ us) us a h in
    k.2 ys vs (subst (λ (v : Tokens). AllAlike L v ys) (sym (append_cancel_right k.0 xs us (sym k.1))) alike)

-- with other tokens after it
pub elsewhere : {A : Type 0} {p q : Language A} → Carries same p q → (xs us vs : Tokens) (a : A) → p (xs ++ us) us a → q (xs ++ vs) vs a
elsewhere one xs us vs a h = likewise one xs xs us vs a (themselves xs) h

-- ---- one law a combinator

pub pure : {A : Type 0} {L : Likeness} {a : A} → Carries L (l.pure a) (l.pure a)
pure {L = L} = record { taken = λ ts us b h. ([], h.0, λ ys vs k. (ap (λ (v : Tokens). v ++ vs) (like_none L ys k), h.1)) }

pub none : {A : Type 0} {L : Likeness} {q : Language A} → Carries L l.none q
none = record { taken = λ ts us a h. absurd h }

-- The second is so where the first is.
pub where_still : {L : Likeness} {b c : Bool} → (b ≡ true → c ≡ true) → Carries L (l.where_true b) (l.where_true c)
where_still {L = L} still = record { taken = λ ts us x h. ([], h.0, λ ys vs k. (ap (λ (v : Tokens). v ++ vs) (like_none L ys k), still h.1)) }

pub where_true : {L : Likeness} {b : Bool} → Carries L (l.where_true b) (l.where_true b)
where_true = where_still (λ h. h)

pub token : {A : Type 0} {L : Likeness} {kind : A → Kind} → Carries L (l.token kind) (l.token kind)
token {L = L} = record {
  taken = λ ts us a h. (h.0 ∷ [], h.1, λ ys vs k. (let u = like_one L h.0 ys k in (u.0, ap (λ (v : Tokens). v ++ vs) u.1, u.2 ∙ h.2)));
}

pub one_of : {A : Type 0} {L : Likeness} {table : Mark → Option A} → Carries L (l.one_of table) (l.one_of table)
one_of {L = L} = record {
  taken = λ ts us a h. (h.0 ∷ [], h.2, λ ys vs k. (let u = like_one L h.0 ys k in (u.0, h.1, ap (λ (v : Tokens). v ++ vs) u.1, u.2 ∙ h.3, h.4)));
}

-- one after the other
joined : {A B : Type 0} (L : Likeness) (p : Language A) (q : A → Language B) (ts mid us : Tokens) (a : A) (b : B) → Taken L p ts mid a → Taken L (q a) mid us b → Taken L (l.◌>>=◌ p q) ts us b
joined L p q ts mid us a b k n = (
  k.0 ++ n.0,
  k.1 ∙ ap (λ (v : Tokens). k.0 ++ v) n.1 ∙ sym (append_assoc k.0 n.0 us),
  λ ys vs alike. (let c = like_both L k.0 n.0 ys alike in (
    c.1 ++ vs,
    a,
    subst (λ (v : Tokens). p v (c.1 ++ vs) a) (sym (ap (λ (v : Tokens). v ++ vs) c.2 ∙ append_assoc c.0 c.1 vs)) (k.2 c.0 (c.1 ++ vs) c.3),
    n.2 c.1 vs c.4,
  )),
)

infixl 10 ◌>>=◌
pub ◌>>=◌ : {A B : Type 0} {L : Likeness} {p p' : Language A} {q q' : A → Language B} → Carries L p p' → ((a : A) → Carries L (q a) (q' a)) → Carries L (l.◌>>=◌ p q) (l.◌>>=◌ p' q')
◌>>=◌ {L = L} {p' = p'} {q' = q'} first second = record {
  taken = λ ts us b h. joined L p' q' ts h.0 us h.1 b (first.taken ts h.0 h.1 h.2) ((second h.1).taken h.0 us b h.3);
}

infixl 10 ◌>>◌
pub ◌>>◌ : {A B : Type 0} {L : Likeness} {p p' : Language A} {q q' : Language B} → Carries L p p' → Carries L q q' → Carries L (l.◌>>◌ p q) (l.◌>>◌ p' q')
first >> second = first >>= (λ _. second)

infixr 5 ◌or◌
pub ◌or◌ : {A : Type 0} {L : Likeness} {p p' q q' : Language A} → Carries L p p' → Carries L q q' → Carries L (l.◌or◌ p q) (l.◌or◌ p' q')
first or second = record {
  taken = λ ts us a h. ⊎_elim
      (λ k. (let n = first.taken ts us a k in (n.0, n.1, λ ys vs k. inl (n.2 ys vs k))))
      (λ k. (let n = second.taken ts us a k in (n.0, n.1, λ ys vs k. inr (n.2 ys vs k)))) h;
}

pub perhaps : {L : Likeness} {k : Mark} → Carries L (l.perhaps k) (l.perhaps k)
perhaps = pure or token

-- ---- repetitions

module _ {A : Type 0} {L : Likeness} {step step' : A → Language A} (each : (a : A) → Carries L (step a) (step' a)) where
  turns : {a b : A} {ts us : Tokens} → Many step a ts us b → Taken L (λ from to c. Many step' a from to c) ts us b
  turns (done {a = a}) = ([], refl, λ ys vs k. subst (λ (v : Tokens). Many step' a (v ++ vs) vs a) (sym (like_none L ys k)) done)
  turns (more {a = a} {b = b} {c = c} {ts = ts} {us = mid} {vs = us} h k) =
      let both = joined L (step' a) (λ x. Many step' x) ts mid us b c ((each a).taken ts mid b h) (turns k) in
      (both.0, both.1, λ ys vs alike. (let r = both.2 ys vs alike in more r.2 r.3))

  pub repeated : (a : A) → Carries L (Many step a) (Many step' a)
  repeated a = record { taken = λ ts us b h. turns h }

module _ {A : Type 0} {L : Likeness} {item item' : Language A} (one : Carries L item item') where
  pub one_more : (all : List A) → Carries L (l.one_more item all) (l.one_more item' all)
  one_more all = do
    next ← one
    pure

  pub many_from : (all : List A) → Carries L (Many (l.one_more item) all) (Many (l.one_more item') all)
  many_from all = repeated one_more all

  pub many : Carries L (l.many item) (l.many item')
  many = many_from []

  pub some : Carries L (l.some item) (l.some item')
  some = do
    first ← one
    many_from (first ∷ [])

  pub optional : Carries L (l.optional item) (l.optional item')
  optional = pure or (do
    found ← one
    pure)

-- ---- the tokens of a value

pub spelled : {A : Type 0} {p p' : Language A} → Carries same p p' → Carries same (l.spelled p) (l.spelled p')
spelled {p' = p'} one = record {
  taken = λ ts us b h. (let n = one.taken ts us b.0 h.0 in let own : n.0 ≡ b.1 = append_cancel_right n.0 b.1 us (sym n.1 ∙ h.1) in
      (b.1, h.1, λ ys vs k. (n.2 ys vs (subst (λ (v : Tokens). AllAlike same v ys) (sym own) k), ap (λ (v : Tokens). v ++ vs) (sym (all_same b.1 ys k)))));
}

-- ---- the grammar's own

pub bracketed : {A : Type 0} {L : Likeness} {room room' : Bool} {p p' : Language A} → (room ≡ true → room' ≡ true) → Carries L p p' → Carries L (g.bracketed room p) (g.bracketed room' p')
bracketed still one = where_still still >> one

pub separated : {A : Type 0} {L : Likeness} {by : Mark} {item item' : Language A} → Carries L item item' → Carries L (g.separated by item) (g.separated by item')
separated one = do
  first ← one
  many_from (token >> one) (first ∷ [])

pub listed : {A B : Type 0} {L : Likeness} {item item' : Language A} {open_end closed_end : List A → B} → Carries L item item' → Carries L (g.listed item open_end closed_end) (g.listed item' open_end closed_end)
listed one = do
  all ← separated one
  pure or (token >> pure)

pub any_listed : {A : Type 0} {L : Likeness} {item item' : Language A} → Carries L item item' → Carries L (g.any_listed item) (g.any_listed item')
any_listed one = pure or listed one

pub operated : {A : Type 0} {L : Likeness} {item item' : Language Expression} {operator : Language A} (make : Expression → List (A × Expression) → Expression)
    → Carries L item item' → Carries L operator operator → Carries L (g.operated item operator make) (g.operated item' operator make)
operated make one operator = do
  first ← one
  following ← many (do
    by ← operator
    right ← one
    pure)
  pure
