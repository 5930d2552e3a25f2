-- When the one statement of a text is a function.
use Rattle.std.specs.Prelude.{◌≡◌, ℕ, zero, suc, ◌+◌, ◌≤◌, Bool, true, false, List, [], ◌∷◌, ◌++◌, length}
use Rattle.std.specs.List.{flat_map}
use Rattle.std.proofs.Common.{refl, sym, ap, subst, ◌∙◌, arith, ⊎_elim}
use Rattle.std.proofs.lemmas.List.{append-nil, length-append}
use Rattle.kishu_language.specs.declared.token.Mark.TheVariants as m
use Rattle.kishu_language.specs.trees.Tree.{Text, Statement, Statements}
use Rattle.kishu_language.specs.trees.Tree as t
use Rattle.kishu_language.specs.grammar.Language.{Tokens, Language, Many, done, more}
use Rattle.kishu_language.specs.grammar.Language as l
use Rattle.kishu_language.specs.grammar.Grammar as g
use Rattle.kishu_language.specs.grammar.Grammar.{deepest}
use Rattle.kishu_language.specs.grammar.Refusals.{Around, top}
use Rattle.kishu_language.specs.grammar.Statements as s
use Rattle.kishu_language_laws.specs.trees.Gives.{Gives, gives, given, pure, whatever, ◌>>=◌, ◌>>◌, ◌or◌}

-- ---- what is no function

abbrev pub is_define : Statement → Bool
is_define (t.define x ps body code) = true
is_define _ = false

abbrev NoFunction : Statement → Type 0
NoFunction x = is_define x ≡ false

clash : (x : Statement) → NoFunction x → is_define x ≡ true → ⊥
clash x h k = let both : false ≡ true = sym h ∙ k in cc

module _ (around : Around) (depth : ℕ) where
  pass : Gives (s.pass around depth) NoFunction
  unfolding s.pass
  pass = whatever >> pure refl

  break : Gives (s.break around depth) NoFunction
  unfolding s.break
  break = do
    whatever
    whatever
    pure refl

  continue : Gives (s.continue around depth) NoFunction
  unfolding s.continue
  continue = do
    whatever
    whatever
    pure refl

  return : Gives (s.return around depth) NoFunction
  unfolding s.return
  return = do
    whatever
    whatever
    value ← whatever
    pure refl

  raise_again : Gives (s.raise_again around depth) NoFunction
  unfolding s.raise_again
  raise_again = do
    whatever
    whatever
    pure refl

  raise : Gives (s.raise around depth) NoFunction
  unfolding s.raise
  raise = do
    whatever
    value ← whatever
    pure refl

  assertion : Gives (s.assertion around depth) NoFunction
  unfolding s.assertion
  assertion = do
    whatever
    test ← whatever
    message ← whatever
    pure refl

  delete : Gives (s.delete around depth) NoFunction
  unfolding s.delete
  delete = do
    whatever
    places ← whatever
    pure refl

  global : Gives (s.global around depth) NoFunction
  unfolding s.global
  global = do
    whatever
    whatever
    names ← whatever
    pure refl

  import : Gives (s.import around depth) NoFunction
  unfolding s.import
  import = do
    whatever
    whatever
    whatever
    whatever
    found ← whatever
    pure refl

  update : Gives (s.update around depth) NoFunction
  unfolding s.update
  update = do
    at ← whatever
    operator ← whatever
    value ← whatever
    pure refl

  assignment : Gives (s.assignment around depth) NoFunction
  unfolding s.assignment
  assignment = do
    all ← whatever
    value ← whatever
    pure refl

  simple : Gives (s.simple around depth) NoFunction
  unfolding s.simple
  simple = pass or break or continue or return or raise_again or raise or assertion or delete or global or import or update or assignment

-- one at least, and the first is such a one
abbrev First : (Statement → Type 0) → List Statement → Type 0
First P [] = ⊥
First P (x ∷ xs) = P x

first_stays : (P : Statement → Type 0) {item : Language Statement} {all found : List Statement} {ts us : Tokens} → Many (l.one_more item) all ts us found → First P all → First P found
first_stays P done h = h
first_stays P (more {a = all} h k) so = first_stays P k (subst (First P) h.3.1 (longer all so))
  where
    longer : (all : List Statement) → First P all → First P (all ++ h.1 ∷ [])
    longer [] so = absurd so
    longer (x ∷ xs) so = so

plain_line : (around : Around) (depth : ℕ) → Gives (s.simples around depth) (First NoFunction)
unfolding s.simples
plain_line around depth = do
  (all, so) ← line
  whatever
  whatever
  pure so
  where
    line : Gives (g.separated m.Semicolon (s.simple around depth)) (First NoFunction)
    line = gives (λ ts us found h. first_stays NoFunction h.3 (given (simple around depth) ts h.0 h.1 h.2))

module _ (source : Text) (depth : ℕ) (inner : Around → Language (List Statement)) (around : Around) where
  choice : Gives (s.choice source depth inner around) NoFunction
  unfolding s.choice
  choice = do
    whatever
    first ← whatever
    all ← whatever
    other ← whatever
    pure refl

  while : Gives (s.while source depth inner around) NoFunction
  unfolding s.while
  while = do
    whatever
    found ← whatever
    pure refl

  for : Gives (s.for source depth inner around) NoFunction
  unfolding s.for
  for = do
    whatever
    found ← whatever
    whatever
    walked ← whatever
    whatever
    body ← whatever
    pure refl

  handled : (body : Statements) → Gives (s.handled source depth inner body around) NoFunction
  unfolding s.handled
  handled body = do
    found ← whatever
    whatever
    other ← whatever
    last ← whatever
    pure refl

  finished : (body : Statements) → Gives (s.finished source depth inner body around) NoFunction
  unfolding s.finished
  finished body = do
    whatever
    whatever
    last ← whatever
    pure refl

  try : Gives (s.try source depth inner around) NoFunction
  unfolding s.try
  try = do
    whatever
    whatever
    (body, _) ← whatever
    handled body or finished body

  -- a compound statement that is a function
  only_define : (ts us : Tokens) (x : Statement) → s.compound source depth inner around ts us x → is_define x ≡ true → s.define source depth inner around ts us x
  unfolding s.compound
  only_define ts us x h is =
      ⊎_elim (λ k. absurd (clash x (given choice ts us x k) is))
      (λ h. ⊎_elim (λ k. absurd (clash x (given while ts us x k) is))
      (λ h. ⊎_elim (λ k. absurd (clash x (given for ts us x k) is))
      (λ h. ⊎_elim (λ k. absurd (clash x (given try ts us x k) is)) (λ k. k) h) h) h) h

-- ---- one chunk that is all of a text

abbrev Any : Statement → Type 0
Any x = Unit {0}

pub one_is : {x y : Statement} → x ∷ [] ≡ y ∷ [] → x ≡ y
one_is e = cc

module _ (source : Text) where
  abbrev pub Chunk : ℕ → Language (List Statement)
  Chunk n = s.chunk source n top

  -- a chunk that is a function
  pub chunk_define : (n : ℕ) (ts us : Tokens) (x : Statement) → Chunk (suc n) ts us (x ∷ []) → is_define x ≡ true → s.define source n (s.chunk source n) top ts us x
  unfolding s.chunk
  chunk_define n ts us x h is =
      ⊎_elim (λ k. absurd (clash x (given (plain_line top (suc n)) ts us (x ∷ []) k) is))
      (λ k. (let same : k.1 ≡ x = one_is k.3.1 in
      only_define source n (s.chunk source n) top ts us x (subst (λ (v : Tokens). s.compound source n (s.chunk source n) top ts v x) k.3.0 (subst (λ y. s.compound source n (s.chunk source n) top ts k.0 y) same k.2)) is)) h

  some_statement : (xs : List Statement) → First Any xs → 1 ≤ length xs
  some_statement [] h = absurd h
  some_statement (x ∷ xs) h = omega arith

  least : (n : ℕ) (ts us : Tokens) (found : List Statement) → Chunk n ts us found → 1 ≤ length found
  unfolding s.chunk
  least zero ts us found h = absurd h
  least (suc n) ts us found h = ⊎_elim
      (λ k. some_statement found (any found (given (plain_line top (suc n)) ts us found k)))
      (λ k. omega (arith, ap length k.3.1)) h
    where
      any : (xs : List Statement) → First NoFunction xs → First Any xs
      any [] h = h
      any (x ∷ xs) h = tt

  abbrev flat : List (List Statement) → List Statement
  flat parts = flat_map (λ part. part) parts

  flat_longer : (parts : List (List Statement)) (part : List Statement) → length (flat (parts ++ part ∷ [])) ≡ length (flat parts) + length part
  flat_longer [] part = length-append part [] ∙ (omega arith)
  flat_longer (p ∷ parts) part = omega (arith, length-append p (flat (parts ++ part ∷ [])), length-append p (flat parts), flat_longer parts part)

  grows : {parts all : List (List Statement)} {ts us : Tokens} → Many (l.one_more (Chunk deepest)) parts ts us all → length (flat parts) ≤ length (flat all)
  grows done = omega arith
  grows (more {a = parts} h k) = omega (arith, grows k, ap (λ v. length (flat v)) h.3.1, flat_longer parts h.1)

  last_one : {first : List Statement} {all : List (List Statement)} {ts : Tokens} {x : Statement} → Many (l.one_more (Chunk deepest)) (first ∷ []) ts [] all → 1 ≤ length first → flat all ≡ x ∷ []
      → (ts ≡ []) × (first ≡ x ∷ [])
  last_one {first = first} done some e = (refl, sym (append-nil first) ∙ e)
  last_one {first = first} (more {ts = ts} h k) some e =
      absurd (omega (arith, grows k, ap (λ v. length (flat v)) h.3.1, flat_longer (first ∷ []) h.1, least deepest ts h.0 h.1 h.2, some, ap length e, length-append first []))

  alone : {all : List (List Statement)} {ts : Tokens} {x : Statement} → Many (l.one_more (Chunk deepest)) [] ts [] all → flat all ≡ x ∷ [] → Chunk deepest ts [] (x ∷ [])
  alone done e = absurd cc
  alone {all = all} {ts = ts} {x = x} (more {us = us} h k) e =
      let l = last_one (subst (λ v. Many (l.one_more (Chunk deepest)) v us [] all) (sym h.3.1) k) (least deepest ts h.0 h.1 h.2) e in
      subst (λ (v : List Statement). Chunk deepest ts [] v) l.1 (subst (λ (v : Tokens). Chunk deepest ts v h.1) (h.3.0 ∙ l.0) h.2)

  pub program_chunk : (ts : Tokens) (x : Statement) → s.program source ts [] (x ∷ []) → Chunk deepest ts [] (x ∷ [])
  unfolding s.program
  program_chunk ts x h = alone (subst (λ (v : Tokens). Many (l.one_more (Chunk deepest)) [] ts v h.1) h.3.0 h.2) h.3.1

  pub chunk_program : (ts : Tokens) (x : Statement) → Chunk deepest ts [] (x ∷ []) → s.program source ts [] (x ∷ [])
  unfolding s.program
  chunk_program ts x h = ([], (x ∷ []) ∷ [], more ([], x ∷ [], h, (refl, refl)) done, (refl, refl))
