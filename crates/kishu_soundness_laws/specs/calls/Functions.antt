-- What a call of a function binds keeps node numbers those of nodes.
use Rattle.std.specs.Prelude.{ℕ, Option, Some, List, None, [], ◌∷◌}
use Rattle.kishu_language.specs.grammar.Refusals.{titles as parameter_titles}
use Rattle.kishu_language.specs.trees.Tree.{Text, Parameter, Definition}
use Rattle.kishu_meaning.specs.calls.Callees.{Given}
use Rattle.kishu_meaning.specs.calls.Functions.{left_at, in_frame, with_defaults, or_default, with_value, values_for, bound_values, arguments_fit}
use Rattle.kishu_meaning.specs.moments.Moment.{Locals, Ends, M}
use Rattle.kishu_meaning.specs.values.Values.{Value, Names, find}
use Rattle.kishu_soundness_laws.specs.Below.{Maybe, EntriesBelow, values_in, Each, AllBelow}
use Rattle.kishu_soundness_laws.specs.BelowLaws.{maybe_later, all_later}
use Rattle.kishu_soundness_laws.specs.moments.Steps.{EndsSafe, ends_fine, ends_raised, ends_stopped, IsSafe}
use Rattle.kishu_soundness_laws.specs.values.Nodes.{MaybeBelow}
use Rattle.kishu_soundness_laws.specs.calls.Callees.{GivenBelow}
use Rattle.kishu_soundness_laws.specs.moments.Names.{with_locals, bound_below, found_below}
use Rattle.kishu_soundness_laws.specs.values.Lists.{maybe_if}

module _ {k : ℕ} where
  left_ends : {A : Type 0} (Q : ℕ → A → Type 0) (o : Option Locals) {e : Ends A} → Maybe (λ (here : Locals). EntriesBelow k here.values) o → EndsSafe k Q e → EndsSafe k Q (left_at o e)
  left_ends Q o h (ends_fine l le q g) = ends_fine l le q (with_locals o (maybe_later (λ (here : Locals). EntriesBelow k here.values) (λ (here : Locals). EntriesBelow l here.values) (λ here. all_later k l le (values_in here.values)) o h) g)
  left_ends Q o h (ends_raised l le q g) = ends_raised l le q (with_locals o (maybe_later (λ (here : Locals). EntriesBelow k here.values) (λ (here : Locals). EntriesBelow l here.values) (λ here. all_later k l le (values_in here.values)) o h) g)
  left_ends Q o h (ends_stopped l le g) = ends_stopped l le (with_locals o (maybe_later (λ (here : Locals). EntriesBelow k here.values) (λ (here : Locals). EntriesBelow l here.values) (λ here. all_later k l le (values_in here.values)) o h) g)

pub frame_safe : {A : Type 0} {k : ℕ} (Q : ℕ → A → Type 0) (here : Locals) {m : M A} → EntriesBelow k here.values → IsSafe k Q m → IsSafe k Q (in_frame here m)
frame_safe {k = k} Q here {m = m} h e = record { go = λ l le s g. left_ends Q s.locals g.locals (e.go l le (record s { locals = Some here }) (with_locals (Some here) (all_later k l le (values_in here.values) h) g)) }

abbrev DefaultsBelow : ℕ → List (Text × Option Value) → Type 0
DefaultsBelow k = Each (λ (p : Text × Option Value). MaybeBelow k p.1)

defaults_below : (k : ℕ) (ps : List Parameter) (vs : List Value) → AllBelow k vs → DefaultsBelow k (with_defaults ps vs)
defaults_below k [] vs h = tt
defaults_below k ((x, None) ∷ ps) vs h = (tt, defaults_below k ps vs h)
defaults_below k ((x, Some e) ∷ ps) [] h = (tt, defaults_below k ps [] h)
defaults_below k ((x, Some e) ∷ ps) (v ∷ vs) h = (h.0, defaults_below k ps vs h.1)

or_default_below : (k : ℕ) (o p : Option Value) → MaybeBelow k o → MaybeBelow k p → MaybeBelow k (or_default o p)
or_default_below k (Some v) p h g = h
or_default_below k None p h g = g

abbrev pub NamesMaybe : ℕ → Option Names → Type 0
NamesMaybe k = Maybe (λ (f : Names). EntriesBelow k f)

with_value_below : (k : ℕ) (x : Text) (o : Option Value) (f : Option Names) → MaybeBelow k o → NamesMaybe k f → NamesMaybe k (with_value x o f)
with_value_below k x (Some v) (Some f) h g = bound_below k x v f h g
with_value_below k x (Some v) None h g = tt
with_value_below k x None f h g = tt

values_below : (k : ℕ) (ps : List (Text × Option Value)) (vs : List Value) (f : Names) → DefaultsBelow k ps → AllBelow k vs → EntriesBelow k f → NamesMaybe k (values_for ps vs f)
values_below k [] vs f d h g = tt
values_below k (p ∷ ps) (v ∷ vs) f d h g = with_value_below k p.0 (Some v) (values_for ps vs f) h.0 (values_below k ps vs f d.1 h.1 g)
values_below k (p ∷ ps) [] f d h g = with_value_below k p.0 (or_default (find p.0 f) p.1) (values_for ps [] f) (or_default_below k (find p.0 f) p.1 (found_below k p.0 f g) d.0) (values_below k ps [] f d.1 tt g)

pub bound_names : (k : ℕ) (d : Definition) (vs : List Value) (g : Given) → AllBelow k vs → GivenBelow k g → NamesMaybe k (bound_values d vs g)
bound_names k d vs g h e = maybe_if (λ (f : Names). EntriesBelow k f) (arguments_fit (parameter_titles d.parameters) g) (values_for (with_defaults d.parameters vs) g.plain g.named) None (values_below k (with_defaults d.parameters vs) g.plain g.named (defaults_below k d.parameters vs h) e.plain e.named) tt
