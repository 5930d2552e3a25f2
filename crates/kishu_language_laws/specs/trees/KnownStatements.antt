-- The same of statements: of the names in their trees, of numbers and texts, and of places and targets; of the codes of functions nothing.
use Rattle.std.specs.Prelude.{ℕ, zero, suc, ◌&&◌, IsTrue, List, [], ◌∷◌, Option, Some, None}
use Rattle.std.specs.List.{flat_map, list_all}
use Rattle.std.proofs.Common.{refl}
use Rattle.kishu_language.specs.declared.token.Mark.{Mark}
use Rattle.kishu_language.specs.tokens.Names.{is_name}
use Rattle.kishu_language.specs.trees.Tree.{Text, Expression, Parameter, Statement, Statements, Arm, Arms, Handler, Handlers, statements, arms, handlers}
use Rattle.kishu_language.specs.trees.Holds.{TitleFits, any_code, EachHolds, ExpressionHolds, OptionalHolds, ListHolds, ParametersHold, StatementHolds, StatementsHold, ArmsHold, HandlersHold}
use Rattle.kishu_language.specs.grammar.Language.{Language}
use Rattle.kishu_language.specs.grammar.Language as l
use Rattle.kishu_language.specs.grammar.Grammar.{exprs, expr, deepest}
use Rattle.kishu_language.specs.grammar.Refusals.{Around, top, in_function, in_loop, in_handler}
use Rattle.kishu_language.specs.grammar.Statements as s
use Rattle.kishu_language.specs.grammar.Targets.{is_target}
use Rattle.kishu_language_laws.specs.trees.Gives.{pure, none, ◌>>=◌, ◌>>◌, ◌or◌, Each, IfAny, in_parts, many, many_from, some, optional}
use Rattle.kishu_language_laws.specs.trees.Known.{Known, Tells, token, one_of, where_true, perhaps, separated, any_listed}
use Rattle.kishu_language_laws.specs.trees.KnownPhrases.{TargetTold, phrases, place, targets}
use Rattle.kishu_language_laws.specs.trees.Placed.{PlaceHolds}

module _ (known : Known) where
  abbrev pub ExpressionTold : Expression → Type 0
  ExpressionTold = ExpressionHolds known.number known.text

  abbrev pub OptionalTold : Option Expression → Type 0
  OptionalTold = OptionalHolds known.number known.text

  abbrev pub ParametersTold : List Parameter → Type 0
  ParametersTold = ParametersHold known.number known.text

  abbrev pub ListTold : List Expression → Type 0
  ListTold = ListHolds known.number known.text

  abbrev pub StatementTold : Statement → Type 0
  StatementTold = StatementHolds known.number known.text is_target (PlaceHolds known.number known.text) any_code

  abbrev pub StatementsTold : Statements → Type 0
  StatementsTold = StatementsHold known.number known.text is_target (PlaceHolds known.number known.text) any_code

  abbrev pub ArmsTold : Arms → Type 0
  ArmsTold = ArmsHold known.number known.text is_target (PlaceHolds known.number known.text) any_code

  abbrev pub HandlersTold : Handlers → Type 0
  HandlersTold = HandlersHold known.number known.text is_target (PlaceHolds known.number known.text) any_code

  -- ---- lists

  optional_told : (o : Option Expression) → IfAny ExpressionTold o → OptionalTold o
  optional_told None h = tt
  optional_told (Some e) h = h

  title_told : (o : Option Text) → IfAny (λ x. IsTrue (is_name x)) o → TitleFits o
  title_told None h = tt
  title_told (Some x) h = h

  all_places : (es : List Expression) → Each (PlaceHolds known.number known.text) es → EachHolds (PlaceHolds known.number known.text) es
  all_places [] h = tt
  all_places (e ∷ es) h = (h.0, all_places es h.1)

  all_targets : (es : List Expression) → Each (TargetTold known) es → ListTold es × IsTrue (list_all is_target es)
  all_targets [] h = (tt, refl)
  all_targets (e ∷ es) h = let k = all_targets es h.1 in ((h.0.0, k.0), λ i. h.0.1 i && k.1 i)

  abbrev pub ParameterTold : Parameter → Type 0
  ParameterTold p = IsTrue (is_name p.0) × OptionalTold p.1

  parameters_told : (ps : List Parameter) → Each ParameterTold ps → ParametersTold ps
  parameters_told [] h = tt
  parameters_told (p ∷ ps) h = (h.0.0, h.0.1, parameters_told ps h.1)

  pub all_told : (ss : List Statement) → Each StatementTold ss → StatementsTold (statements ss)
  all_told [] h = tt
  all_told (s ∷ ss) h = (h.0, all_told ss h.1)

  abbrev pub ArmTold : Arm → Type 0
  ArmTold a = ExpressionTold a.0 × StatementsTold a.1

  arms_told : (as' : List Arm) → Each ArmTold as' → ArmsTold (arms as')
  arms_told [] h = tt
  arms_told (a ∷ as') h = (h.0.0, h.0.1, arms_told as' h.1)

  abbrev pub HandlerTold : Handler → Type 0
  HandlerTold h = OptionalTold h.class × TitleFits h.caught × StatementsTold h.body

  handlers_told : (hs : List Handler) → Each HandlerTold hs → HandlersTold (handlers hs)
  handlers_told [] h = tt
  handlers_told (k ∷ hs) h = (h.0.0, h.0.1, h.0.2, handlers_told hs h.1)

  abbrev pub CaughtTold : Expression × Option Text → Type 0
  CaughtTold c = ExpressionTold c.0 × TitleFits c.1

  handler_told : (found : Option (Expression × Option Text)) (body : Statements) → IfAny CaughtTold found → StatementsTold body → HandlerTold (s.handler_of found body)
  handler_told None body h k = (tt, tt, k)
  handler_told (Some c) body h k = (h.0, h.1, k)

  -- ---- simple statements

  module _ (around : Around) (depth : ℕ) where
    pass : Tells known (s.pass around depth) StatementTold
    unfolding s.pass
    pass = token >> pure tt

    break : Tells known (s.break around depth) StatementTold
    unfolding s.break
    break = do
      token
      where_true
      pure tt

    continue : Tells known (s.continue around depth) StatementTold
    unfolding s.continue
    continue = do
      token
      where_true
      pure tt

    return : Tells known (s.return around depth) StatementTold
    unfolding s.return
    return = do
      token
      where_true
      (value, so) ← optional (phrases known depth exprs)
      pure (optional_told value so)

    raise_again : Tells known (s.raise_again around depth) StatementTold
    unfolding s.raise_again
    raise_again = do
      token
      where_true
      pure tt

    raise : Tells known (s.raise around depth) StatementTold
    unfolding s.raise
    raise = do
      token
      (value, so) ← phrases known depth expr
      pure so

    assertion : Tells known (s.assertion around depth) StatementTold
    unfolding s.assertion
    assertion = do
      token
      (test, first) ← phrases known depth expr
      (message, second) ← optional (token >> phrases known depth expr)
      pure (first, optional_told message second)

    delete : Tells known (s.delete around depth) StatementTold
    unfolding s.delete
    delete = do
      token
      (places, so) ← separated (place known depth)
      pure (all_places places so)

    global : Tells known (s.global around depth) StatementTold
    unfolding s.global
    global = do
      token
      where_true
      names ← separated token
      pure tt

    import : Tells known (s.import around depth) StatementTold
    unfolding s.import
    import = do
      token
      token
      token
      token
      (found, so) ← optional (token >> token)
      pure (title_told found so)

    update : Tells known (s.update around depth) StatementTold
    unfolding s.update
    update = do
      (at, first) ← place known depth
      operator ← one_of
      (value, second) ← phrases known depth exprs
      pure (first, second)

    assignment : Tells known (s.assignment around depth) StatementTold
    unfolding s.assignment
    assignment = do
      (all, first) ← many (do
        (found, so) ← targets known depth
        token
        pure so)
      (value, second) ← phrases known depth exprs
      pure (let k = all_targets all first in (k.0, second, k.1))

    pub simple : Tells known (s.simple around depth) StatementTold
    unfolding s.simple
    simple = pass or break or continue or return or raise_again or raise or assertion or delete or global or import or update or assignment

    pub simples : Tells known (s.simples around depth) (Each StatementTold)
    unfolding s.simples
    simples = do
      (all, so) ← separated simple
      perhaps
      token
      pure so

  line : (around : Around) (depth : ℕ) → Tells known (s.line around depth) (Each StatementTold)
  unfolding s.line
  line around zero = none
  line around (suc depth) = simples around (suc depth)

  -- ---- compound statements

  module _ (source : Text) (depth : ℕ) {inner : Around → Language (List Statement)} (deeper : (around : Around) → Tells known (inner around) (Each StatementTold)) where
    block : (around : Around) → Tells known (s.block source depth inner around) StatementsTold
    unfolding s.block
    block around = (do
      (all, so) ← line around depth
      pure (all_told all so)) or (do
        token
        token
        (parts, so) ← some (deeper around)
        token
        pure (all_told (flat_map (λ part. part) parts) (in_parts StatementTold parts so)))

    block_after : (before : Mark) (around : Around) → Tells known (s.block_after source depth inner before around) StatementsTold
    unfolding s.block_after
    block_after before around = pure tt or (do
      token
      token
      block around)

    arm : (around : Around) → Tells known (s.arm source depth inner around) ArmTold
    unfolding s.arm
    arm around = do
      (test, first) ← phrases known (suc depth) expr
      token
      (body, second) ← block around
      pure (first, second)

    choice : (around : Around) → Tells known (s.choice source depth inner around) StatementTold
    unfolding s.choice
    choice around = do
      token
      (first, so) ← arm around
      (all, each) ← many_from (token >> arm around) (first ∷ []) (so, tt)
      (other, last) ← block_after _ around
      pure (arms_told all each, last)

    while : (around : Around) → Tells known (s.while source depth inner around) StatementTold
    unfolding s.while
    while around = do
      token
      (found, so) ← arm (in_loop around)
      pure so

    for : (around : Around) → Tells known (s.for source depth inner around) StatementTold
    unfolding s.for
    for around = do
      token
      (found, first) ← targets known (suc depth)
      token
      (walked, second) ← phrases known (suc depth) exprs
      token
      (body, third) ← block (in_loop around)
      pure (first.0, second, third, first.1)

    caught : Tells known (s.caught source depth inner) CaughtTold
    unfolding s.caught
    caught = do
      (class, first) ← phrases known (suc depth) expr
      (found, second) ← optional (token >> token)
      pure (first, title_told found second)

    handler : (around : Around) → Tells known (s.handler source depth inner around) HandlerTold
    unfolding s.handler
    handler around = do
      token
      (found, first) ← optional caught
      token
      (body, second) ← block (in_handler around)
      pure (handler_told found body first second)

    handled : (body : Statements) (around : Around) → StatementsTold body → Tells known (s.handled source depth inner body around) StatementTold
    unfolding s.handled
    handled body around first = do
      (found, second) ← some (handler around)
      where_true
      (other, third) ← block_after _ around
      (last, fourth) ← block_after _ around
      pure (first, handlers_told found second, third, fourth)

    finished : (body : Statements) (around : Around) → StatementsTold body → Tells known (s.finished source depth inner body around) StatementTold
    unfolding s.finished
    finished body around first = do
      token
      token
      (last, second) ← block around
      pure (first, second)

    try : (around : Around) → Tells known (s.try source depth inner around) StatementTold
    unfolding s.try
    try around = do
      token
      token
      (body, so) ← block around
      handled body around so or finished body around so

    parameter : Tells known (s.parameter source depth inner) ParameterTold
    unfolding s.parameter
    parameter = do
      (x, first) ← token
      (default, second) ← optional (token >> phrases known depth expr)
      pure (first, optional_told default second)

    definition : Tells known (s.definition source depth inner) (λ d. IsTrue (is_name d.title) × ParametersTold d.parameters × StatementsTold d.body)
    unfolding s.definition
    definition = do
      token
      (x, first) ← token
      token
      (all, second) ← any_listed parameter
      token
      where_true
      token
      (body, third) ← block in_function
      where_true
      pure (first, parameters_told all second, third)

    spelled_definition : Tells known (l.spelled (s.definition source depth inner)) (λ f. IsTrue (is_name f.0.title) × ParametersTold f.0.parameters × StatementsTold f.0.body)
    spelled_definition = record { leads = λ ts us f i h. definition.leads ts us f.0 i h.0 }

    define : (around : Around) → Tells known (s.define source depth inner around) StatementTold
    unfolding s.define
    define around = do
      where_true
      (found, so) ← spelled_definition
      pure (so.0, so.1, so.2, tt)

    compound : (around : Around) → Tells known (s.compound source depth inner around) StatementTold
    unfolding s.compound
    compound around = choice around or while around or for around or try around or define around

  pub chunks : (source : Text) (depth : ℕ) (around : Around) → Tells known (s.chunk source depth around) (Each StatementTold)
  unfolding s.chunk
  chunks source zero around = none
  chunks source (suc depth) around = simples around (suc depth) or (do
    (found, so) ← compound source depth (chunks source depth) around
    pure (so, tt))

  pub programs : (source : Text) → Tells known (s.program source) (Each StatementTold)
  unfolding s.program
  programs source = do
    (parts, so) ← many (chunks source deepest top)
    pure (in_parts StatementTold parts so)
