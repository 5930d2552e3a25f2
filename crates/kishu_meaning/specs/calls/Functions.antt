-- Functions: which names are local to a body, and what a call binds (Python Language Reference 3, "Function definitions", "Calls" and "Naming and binding").
use Rattle.std.specs.Prelude.{ℕ, nat_le, Bool, not, ◌&&◌, if◌then◌else◌, List, [], ◌∷◌, ◌++◌, length, drop, Option, Some, None, Result, Ok}
use Rattle.std.specs.List.{filter, flat_map, list_all}
use Rattle.kishu_language.specs.tokens.Names.{is_among}
use Rattle.kishu_language.specs.trees.Tree.{Text, Expression, Expressions, Parameter, Statement, Statements, Arms, Handlers, Definition, simple_namespace}
use Rattle.kishu_language.specs.trees.Tree as t
use Rattle.kishu_language.specs.grammar.Refusals.{titles}
use Rattle.kishu_meaning.specs.values.Values.{Value, Names, find, bind}
use Rattle.kishu_meaning.specs.moments.Moment.{Locals, Ends, fine, raised, stopped, M}
use Rattle.kishu_meaning.specs.calls.Callees.{Given}

-- ---- the names that a body binds or unbinds

abbrev pub or_class_name : Option Text → Text
or_class_name (Some x) = x
or_class_name None = simple_namespace

abbrev pub names_in : Option Text → List Text
names_in (Some x) = x ∷ []
names_in None = []

abbrev mutual
  -- of a target or a place
  pub bound_by : Expression → List Text
  bound_by (t.name x) = x ∷ []
  bound_by (t.paren e) = bound_by e
  bound_by (t.tuple es) = all_bound_by es
  bound_by (t.list es) = all_bound_by es
  bound_by _ = []

  pub all_bound_by : Expressions → List Text
  all_bound_by t.no_expressions = []
  all_bound_by (t.more_expressions e es) = bound_by e ++ all_bound_by es

abbrev mutual
  pub bound_in : Statement → List Text
  bound_in (t.delete es) = flat_map bound_by es
  bound_in (t.import x) = or_class_name x ∷ []
  bound_in (t.update e operator f) = bound_by e
  bound_in (t.assign es e) = flat_map bound_by es
  bound_in (t.choose as' other) = bound_in_arms as' ++ bound_in_block other
  bound_in (t.while e body) = bound_in_block body
  bound_in (t.for e walked body) = bound_by e ++ bound_in_block body
  bound_in (t.try body hs other last) = bound_in_block body ++ bound_in_handlers hs ++ bound_in_block other ++ bound_in_block last
  bound_in (t.finally body last) = bound_in_block body ++ bound_in_block last
  bound_in _ = []

  pub bound_in_block : Statements → List Text
  bound_in_block t.no_statements = []
  bound_in_block (t.more_statements s ss) = bound_in s ++ bound_in_block ss

  pub bound_in_arms : Arms → List Text
  bound_in_arms t.no_arms = []
  bound_in_arms (t.more_arms e body as') = bound_in_block body ++ bound_in_arms as'

  pub bound_in_handlers : Handlers → List Text
  bound_in_handlers t.no_handlers = []
  bound_in_handlers (t.more_handlers kind caught body hs) = names_in caught ++ bound_in_block body ++ bound_in_handlers hs

-- those that it declares global
abbrev mutual
  pub declared_in : Statement → List Text
  declared_in (t.global xs) = xs
  declared_in (t.choose as' other) = declared_in_arms as' ++ declared_in_block other
  declared_in (t.while e body) = declared_in_block body
  declared_in (t.for e walked body) = declared_in_block body
  declared_in (t.try body hs other last) = declared_in_block body ++ declared_in_handlers hs ++ declared_in_block other ++ declared_in_block last
  declared_in (t.finally body last) = declared_in_block body ++ declared_in_block last
  declared_in _ = []

  pub declared_in_block : Statements → List Text
  declared_in_block t.no_statements = []
  declared_in_block (t.more_statements s ss) = declared_in s ++ declared_in_block ss

  pub declared_in_arms : Arms → List Text
  declared_in_arms t.no_arms = []
  declared_in_arms (t.more_arms e body as') = declared_in_block body ++ declared_in_arms as'

  pub declared_in_handlers : Handlers → List Text
  declared_in_handlers t.no_handlers = []
  declared_in_handlers (t.more_handlers kind caught body hs) = declared_in_block body ++ declared_in_handlers hs

-- Parameters are local, and the names that the body binds, unless they are declared global.
abbrev pub own_names : Definition → List Text
own_names d = titles d.parameters ++ filter (λ x. not (is_among x (declared_in_block d.body))) (bound_in_block d.body)

-- ---- arguments

-- the parameters, with the values of those that have a default
abbrev pub with_defaults : List Parameter → List Value → List (Text × Option Value)
with_defaults [] vs = []
with_defaults ((x, None) ∷ ps) vs = (x, None) ∷ with_defaults ps vs
with_defaults ((x, Some e) ∷ ps) [] = (x, None) ∷ with_defaults ps []
with_defaults ((x, Some e) ∷ ps) (v ∷ vs) = (x, Some v) ∷ with_defaults ps vs

-- There are no more plain arguments than parameters, and each keyword is one of the other parameters.
abbrev pub arguments_fit : List Text → Given → Bool
arguments_fit xs given = nat_le (length given.plain) (length xs) && list_all (λ k. is_among k.0 (drop (length given.plain) xs)) given.named

abbrev pub or_default : Option Value → Option Value → Option Value
or_default (Some v) other = Some v
or_default None other = other

abbrev pub with_value : Text → Option Value → Option Names → Option Names
with_value x (Some v) (Some bound) = Some (bind x v bound)
with_value x _ _ = None

-- Each parameter has a plain argument, one with its keyword, or its default.
abbrev pub values_for : List (Text × Option Value) → List Value → Names → Option Names
values_for [] vs named = Some []
values_for (p ∷ ps) (v ∷ vs) named = with_value p.0 (Some v) (values_for ps vs named)
values_for (p ∷ ps) [] named = with_value p.0 (or_default (find p.0 named) p.1) (values_for ps [] named)

-- none where an argument is missing, repeated or unknown
abbrev pub bound_values : Definition → List Value → Given → Option Names
bound_values d defaults given = if arguments_fit (titles d.parameters) given then values_for (with_defaults d.parameters defaults) given.plain given.named else None

-- ---- the body

-- the function that a text's tree is, where it is one
abbrev pub function_in : Result (List Statement) ℕ → Option Definition
function_in (Ok (t.define x ps body code ∷ [])) = Some (record { title = x; parameters = ps; body = body })
function_in _ = None

abbrev pub left_at : {A : Type 0} → Option Locals → Ends A → Ends A
left_at before (fine a s) = fine a (record s { locals = before })
left_at before (raised x s) = raised x (record s { locals = before })
left_at before (stopped s) = stopped (record s { locals = before })

-- with these locals, and then with those before
abbrev pub in_frame : {A : Type 0} → Locals → M A → M A
in_frame here m s = left_at s.locals (m (record s { locals = Some here }))
