-- Each function definition in a tree is spelled by tokens of its own, and they spell it at the top of a text too.
use Rattle.std.specs.Prelude.{◌≡◌, ◌≤◌, ℕ, zero, suc, List, [], ◌∷◌, ◌++◌, Option, Some, None}
use Rattle.std.specs.List.{flat_map}
use Rattle.std.proofs.Common.{refl, sym, ap, subst, ◌∙◌, arith, ⊎_elim}
use Rattle.std.proofs.lemmas.List.{append_assoc, append-nil}
use Rattle.kishu_language.specs.declared.token.Mark.{Mark}
use Rattle.kishu_language.specs.trees.Tree.{Text, Expression, Statement, Statements, Arm, Handler, Definition, statements, arms, handlers}
use Rattle.kishu_language.specs.trees.Tree as t
use Rattle.kishu_language.specs.grammar.Language.{Tokens, Language, done, more}
use Rattle.kishu_language.specs.grammar.Language as l
use Rattle.kishu_language.specs.grammar.Grammar.{exprs, expr, deepest}
use Rattle.kishu_language.specs.grammar.Refusals.{Around, top, in_function, in_loop, in_handler}
use Rattle.kishu_language.specs.trees.Code.{code_of}
use Rattle.kishu_language.specs.grammar.Statements as s
use Rattle.kishu_language.specs.trees.Inside.{InStatement, InStatements, InArms, InHandlers, Apart}
use Rattle.kishu_language_laws.specs.staying.Carries.{same, Carries, elsewhere}
use Rattle.kishu_language_laws.specs.staying.Carries as carried
use Rattle.kishu_language_laws.specs.staying.CarriesPhrases.{phrases, targets}
use Rattle.kishu_language_laws.specs.staying.CarriesStatements.{everywhere, Blocks, simples, parameter, definition, chunks, caught}
use Rattle.kishu_language_laws.specs.trees.Gives.{Leads, Gives, given, pure, none, whatever, ◌>>=◌, ◌>>◌, ◌or◌, so_too, Each, in_parts, many, many_from, some, separated}

-- ---- a simple statement holds none

abbrev IsPlain : Statement → Type 0
IsPlain s = (d : Statement) → InStatement d s → ⊥

module _ (around : Around) (depth : ℕ) where
  pass : Gives (s.pass around depth) IsPlain
  unfolding s.pass
  pass = whatever >> pure (λ d h. h)

  break : Gives (s.break around depth) IsPlain
  unfolding s.break
  break = do
    whatever
    whatever
    pure (λ d h. h)

  continue : Gives (s.continue around depth) IsPlain
  unfolding s.continue
  continue = do
    whatever
    whatever
    pure (λ d h. h)

  return : Gives (s.return around depth) IsPlain
  unfolding s.return
  return = do
    whatever
    whatever
    value ← whatever
    pure (λ d h. h)

  raise_again : Gives (s.raise_again around depth) IsPlain
  unfolding s.raise_again
  raise_again = do
    whatever
    whatever
    pure (λ d h. h)

  raise : Gives (s.raise around depth) IsPlain
  unfolding s.raise
  raise = do
    whatever
    value ← whatever
    pure (λ d h. h)

  assertion : Gives (s.assertion around depth) IsPlain
  unfolding s.assertion
  assertion = do
    whatever
    test ← whatever
    message ← whatever
    pure (λ d h. h)

  delete : Gives (s.delete around depth) IsPlain
  unfolding s.delete
  delete = do
    whatever
    places ← whatever
    pure (λ d h. h)

  global : Gives (s.global around depth) IsPlain
  unfolding s.global
  global = do
    whatever
    whatever
    names ← whatever
    pure (λ d h. h)

  import : Gives (s.import around depth) IsPlain
  unfolding s.import
  import = do
    whatever
    whatever
    whatever
    whatever
    found ← whatever
    pure (λ d h. h)

  update : Gives (s.update around depth) IsPlain
  unfolding s.update
  update = do
    at ← whatever
    operator ← whatever
    value ← whatever
    pure (λ d h. h)

  assignment : Gives (s.assignment around depth) IsPlain
  unfolding s.assignment
  assignment = do
    all ← whatever
    value ← whatever
    pure (λ d h. h)

  simple : Gives (s.simple around depth) IsPlain
  unfolding s.simple
  simple = pass or break or continue or return or raise_again or raise or assertion or delete or global or import or update or assignment

  plain_line : Gives (s.simples around depth) (Each IsPlain)
  unfolding s.simples
  plain_line = do
    (all, so) ← separated simple
    whatever
    whatever
    pure so

-- ---- what is left of a text's tokens

abbrev pub EndOf : Tokens → Tokens → Type 0
EndOf all ts = (before : Tokens) × (all ≡ before ++ ts)

further : (all ts us xs : Tokens) → EndOf all ts → ts ≡ xs ++ us → EndOf all us
further all ts us xs i e = (i.0 ++ xs, i.1 ∙ ap (λ (v : Tokens). i.0 ++ v) e ∙ sym (append_assoc i.0 xs us))

passing : {A : Type 0} {all : Tokens} {p : Language A} {P : A → Type 0} → Carries same p p → Gives p P → Leads (EndOf all) p P
passing {all = all} one has = record { leads = λ ts us a i h. (let k = one.taken ts us a h in (further all ts us k.0 i k.1, given has ts us a h)) }

past : {A : Type 0} {all : Tokens} {p : Language A} → Carries same p p → Leads (EndOf all) p (λ _. Unit {0})
past one = passing one whatever

-- ---- a function's tokens

itself : (n : ℕ) → n ≤ n
itself n = omega arith

apart : (source : Text) (n k : ℕ) (under : n ≤ k) {inner : Around → Language (List Statement)} → Blocks same everywhere inner (s.chunk source k) → (all ts us own : Tokens) (d : Definition)
    → EndOf all ts → ts ≡ own ++ us → s.definition source n inner ts us d → Apart k source all (t.define d.title d.parameters d.body (code_of source own))
apart source n k under {inner} deeper all ts us own d i e h = record {
  before = i.0;
  own = own;
  after = us;
  function = d;
  whole = i.1 ∙ ap (λ (v : Tokens). i.0 ++ v) e ∙ sym (append_assoc i.0 own us);
  spelled = subst (λ (v : Tokens). s.definition source k (s.chunk source k) v [] d) (append-nil own)
      (elsewhere (definition everywhere source source n k under deeper) own us [] d (subst (λ (v : Tokens). s.definition source n inner v us d) e h));
  cut = refl;
}

-- ---- compound statements

module _ (source : Text) (k : ℕ) (all : Tokens) where
  -- Each that it holds stands apart.
  abbrev Held : Statement → Type 0
  Held s = (d : Statement) → InStatement d s → Apart k source all d

  abbrev AllHeld : Statements → Type 0
  AllHeld ss = (d : Statement) → InStatements d ss → Apart k source all d

  pub all_held : (ss : List Statement) → Each Held ss → AllHeld (statements ss)
  all_held [] h d j = absurd j
  all_held (s ∷ ss) h d j = ⊎_elim (h.0 d) (all_held ss h.1 d) j

  abbrev ArmHeld : Arm → Type 0
  ArmHeld a = AllHeld a.1

  arms_held : (as' : List Arm) → Each ArmHeld as' → (d : Statement) → InArms d (arms as') → Apart k source all d
  arms_held [] h d j = absurd j
  arms_held (a ∷ as') h d j = ⊎_elim (h.0 d) (arms_held as' h.1 d) j

  abbrev HandlerHeld : Handler → Type 0
  HandlerHeld h = AllHeld h.body

  handlers_held : (hs : List Handler) → Each HandlerHeld hs → (d : Statement) → InHandlers d (handlers hs) → Apart k source all d
  handlers_held [] h d j = absurd j
  handlers_held (x ∷ hs) h d j = ⊎_elim (h.0 d) (handlers_held hs h.1 d) j

  handler_held : (found : Option (Expression × Option Text)) (body : Statements) → AllHeld body → HandlerHeld (s.handler_of found body)
  handler_held None body h = h
  handler_held (Some c) body h = h

  none_held : (ss : List Statement) → Each IsPlain ss → Each Held ss
  none_held [] h = tt
  none_held (s ∷ ss) h = ((λ d j. absurd (h.0 d j)), none_held ss h.1)

  simples_held : (around : Around) (depth : ℕ) → Leads (EndOf all) (s.simples around depth) (Each Held)
  simples_held around depth = so_too (passing (simples around depth depth (itself depth)) (plain_line around depth)) none_held

  line : (around : Around) (depth : ℕ) → Leads (EndOf all) (s.line around depth) (Each Held)
  unfolding s.line
  line around zero = none
  line around (suc depth) = simples_held around (suc depth)

  module _ (n : ℕ) (under : n ≤ k) {inner : Around → Language (List Statement)}
      (kept : Blocks same everywhere inner inner) (deeper : Blocks same everywhere inner (s.chunk source k)) (held : (around : Around) → Leads (EndOf all) (inner around) (Each Held)) where
    block : (around : Around) → Leads (EndOf all) (s.block source n inner around) AllHeld
    unfolding s.block
    block around = (do
      (found, so) ← line around n
      pure (all_held found so)) or (do
        past carried.token
        past carried.token
        (parts, so) ← some (held around)
        past carried.token
        pure (all_held (flat_map (λ part. part) parts) (in_parts Held parts so)))

    block_after : (before : Mark) (around : Around) → Leads (EndOf all) (s.block_after source n inner before around) AllHeld
    unfolding s.block_after
    block_after before around = pure (λ d j. absurd j) or (do
      past carried.token
      past carried.token
      block around)

    arm : (around : Around) → Leads (EndOf all) (s.arm source n inner around) ArmHeld
    unfolding s.arm
    arm around = do
      test ← past (phrases (suc n) (suc n) (itself (suc n)) expr)
      past carried.token
      (body, so) ← block around
      pure so

    choice : (around : Around) → Leads (EndOf all) (s.choice source n inner around) Held
    unfolding s.choice
    choice around = do
      past carried.token
      (first, so) ← arm around
      (found, each) ← many_from (past carried.token >> arm around) (first ∷ []) (so, tt)
      (other, last) ← block_after _ around
      pure (λ d j. ⊎_elim (arms_held found each d) (last d) j)

    while : (around : Around) → Leads (EndOf all) (s.while source n inner around) Held
    unfolding s.while
    while around = do
      past carried.token
      (found, so) ← arm (in_loop around)
      pure so

    for : (around : Around) → Leads (EndOf all) (s.for source n inner around) Held
    unfolding s.for
    for around = do
      past carried.token
      found ← past (targets (suc n) (suc n) (itself (suc n)))
      past carried.token
      walked ← past (phrases (suc n) (suc n) (itself (suc n)) exprs)
      past carried.token
      (body, so) ← block (in_loop around)
      pure so

    handler : (around : Around) → Leads (EndOf all) (s.handler source n inner around) HandlerHeld
    unfolding s.handler
    handler around = do
      past carried.token
      (found, _) ← past (carried.optional (caught everywhere source source n n (itself n) kept))
      past carried.token
      (body, so) ← block (in_handler around)
      pure (handler_held found body so)

    handled : (body : Statements) (around : Around) → AllHeld body → Leads (EndOf all) (s.handled source n inner body around) Held
    unfolding s.handled
    handled body around first = do
      (found, second) ← some (handler around)
      past carried.where_true
      (other, third) ← block_after _ around
      (last, fourth) ← block_after _ around
      pure (λ d j. ⊎_elim (first d) (λ j. ⊎_elim (handlers_held found second d) (λ j. ⊎_elim (third d) (fourth d) j) j) j)

    finished : (body : Statements) (around : Around) → AllHeld body → Leads (EndOf all) (s.finished source n inner body around) Held
    unfolding s.finished
    finished body around first = do
      past carried.token
      past carried.token
      (last, second) ← block around
      pure (λ d j. ⊎_elim (first d) (second d) j)

    try : (around : Around) → Leads (EndOf all) (s.try source n inner around) Held
    unfolding s.try
    try around = do
      past carried.token
      past carried.token
      (body, so) ← block around
      handled body around so or finished body around so

    body_held : Leads (EndOf all) (s.definition source n inner) (λ d. AllHeld d.body)
    unfolding s.definition
    body_held = do
      past carried.token
      x ← past carried.token
      past carried.token
      found ← past (carried.any_listed (parameter everywhere source source n n (itself n) kept))
      past carried.token
      past carried.where_true
      past carried.token
      (body, so) ← block in_function
      past carried.where_true
      pure so

    -- the function itself, and what its body holds
    FunctionHeld : Definition × Tokens → Type 0
    FunctionHeld f = AllHeld f.0.body × Apart k source all (t.define f.0.title f.0.parameters f.0.body (code_of source f.1))

    function_held : Leads (EndOf all) (l.spelled (s.definition source n inner)) FunctionHeld
    unfolding FunctionHeld
    function_held = record {
      leads = λ ts us f i h. (
        further all ts us f.1 i h.1,
        ((body_held.leads ts us f.0 i h.0).1, apart source n k under deeper all ts us f.1 f.0 i h.1 h.0),
      );
    }

    define : (around : Around) → Leads (EndOf all) (s.define source n inner around) Held
    unfolding s.define FunctionHeld
    define around = do
      past carried.where_true
      (found, so) ← function_held
      pure (λ d j. ⊎_elim (λ e. subst (Apart k source all) (sym e) so.1) (so.0 d) j)

    compound : (around : Around) → Leads (EndOf all) (s.compound source n inner around) Held
    unfolding s.compound
    compound around = choice around or while around or for around or try around or define around

  pub chunks_held : (n : ℕ) → n ≤ suc k → (around : Around) → Leads (EndOf all) (s.chunk source n around) (Each Held)
  unfolding s.chunk
  chunks_held zero under around = none
  chunks_held (suc n) under around = simples_held around (suc n) or (do
    (found, so) ← compound n (omega (arith, under)) (λ around fine. chunks source n n (itself n) around) (λ around fine. chunks source n k (omega (arith, under)) around) (chunks_held n (omega (arith, under))) around
    pure (so, tt))

  pub program_held : deepest ≤ suc k → Leads (EndOf all) (s.program source) (Each Held)
  unfolding s.program
  program_held under = do
    (parts, so) ← many (chunks_held deepest under top)
    pure (in_parts Held parts so)
