-- What the parameters of a function are bound to.
use Rattle.kishu_language.specs.Limits.{longest_text}
use Rattle.std.proofs.Common.{◌≡◌, ◌∙◌, ℕ, zero, suc, ◌+◌, ◌-◌, ◌<◌, ◌≤◌, refl, sym, ap, arith, Bool, true, List, [], ◌∷◌, ◌++◌, length, take, drop, map, get_or, Option, Some, None, Ordering, append_assoc, add-one, subst}
use denote.Bor.{Bor}
use Rattle.std.specs.Slice.{IsItemAt}
use Rattle.std.proofs.lemmas.Option.{slice_get-map, slice_get_past}
use Rattle.std.specs.Prelude.{option_map, slice_get, nat_le, ◌&&◌}
use Rattle.std.specs.Str.{IsUtf8}
use Rattle.std.specs.List.{list_all, drop-map}
use Rattle.std.proofs.lemmas.List.{length-map, length-drop}
use Rattle.std.proofs.Math.Seq.{take-length}
use Rattle.std.proofs.lemmas.Bool.{le-leb}
use Rattle.std.specs.Ordering.{nat_cmp, match_ordering}
use Rattle.std.specs.Rc.{rc_str_bytes}
use Rattle.std.specs.declared.alloc.Global.{Global}
use Rattle.std.specs.declared.cmp.Ordering.TheVariants.{Less, Equal, Greater}
use Rattle.std.specs.declared.rc.RcStr.{RcStr}
use Rattle.std.specs.Cmp.Lexicographic.{slice_cmp}
use Rattle.std.specs.BTreeMap.{insert_entry}
use Rattle.std.proofs.lemmas.Map.Text.{is_eq-slice_cmp}
use Rattle.std.proofs.lemmas.Slice.Eq.{bytes_eq-Decides}
use Rattle.kishu_meaning.specs.declared.value.Value as rust
use Rattle.kishu_meaning.specs.calls.Functions.{with_defaults, with_value, values_for, or_default}
use Rattle.kishu_language.specs.tokens.Names.{is_among}
use Rattle.kishu_language.specs.grammar.Refusals.{titles}
use Rattle.kishu_language.specs.declared.profile.Profile.{Profile}
use Rattle.kishu_language.specs.declared.tree.Expr.{Expr}
use Rattle.kishu_language.specs.trees.Fits.{IsCodeOf}
use Rattle.kishu_language.specs.trees.Tree.{Text, Parameter, definition_of, expression_of, parameter_of, value_of as tree_value}
use Rattle.kishu_items.specs.Gathering.{dropped}
use Rattle.kishu_meaning.specs.values.Values.{Value, Names, Node, function, find, bind, value_of}
use Rattle.kishu_calls.specs.declared.functions.Function as rust_function
use Rattle.kishu_calls.specs.Calls.{IsFunction}
use Rattle.kishu_machine.specs.Frames.{names_of}
use Rattle.kishu_calls.specs.Forms.{with_argument, arguments_for, or_argument, bound_each, default_count, next_default, next_defaults}

bound_step : (x : Text) (o : Option Value) (xs : List Text) (rest : Option (List Value)) → with_value x o (option_map (bound_each xs) rest) ≡ option_map (bound_each (x ∷ xs)) (with_argument o rest)
bound_step x (Some v) xs (Some vs) = refl
bound_step x (Some v) xs None = refl
bound_step x None xs (Some vs) = refl
bound_step x None xs None = refl

values_are : (ps : List (Text × Option Value)) (vs : List Value) (named : Names) → values_for ps vs named ≡ option_map (bound_each (map (λ p. p.0) ps)) (arguments_for ps vs named)
values_are [] vs named = refl
values_are (p ∷ ps) (v ∷ vs) named = ap (with_value p.0 (Some v)) (values_are ps vs named) ∙ bound_step p.0 (Some v) (map (λ p. p.0) ps) (arguments_for ps vs named)
values_are (p ∷ ps) [] named = ap (with_value p.0 (or_default (find p.0 named) p.1)) (values_are ps [] named) ∙ bound_step p.0 (or_default (find p.0 named) p.1) (map (λ p. p.0) ps) (arguments_for ps [] named)

same_titles : (ps : List Parameter) (vs : List Value) → map (λ p. p.0) (with_defaults ps vs) ≡ titles ps
same_titles [] vs = refl
same_titles ((x, None) ∷ ps) vs = ap (λ xs. x ∷ xs) (same_titles ps vs)
same_titles ((x, Some e) ∷ ps) [] = ap (λ xs. x ∷ xs) (same_titles ps [])
same_titles ((x, Some e) ∷ ps) (v ∷ vs) = ap (λ xs. x ∷ xs) (same_titles ps vs)

pub parameters_bound : (ps : List Parameter) (defaults vs : List Value) (named : Names) → values_for (with_defaults ps defaults) vs named ≡ option_map (bound_each (titles ps)) (arguments_for (with_defaults ps defaults) vs named)
parameters_bound ps defaults vs named = values_are (with_defaults ps defaults) vs named ∙ ap (λ xs. option_map (bound_each xs) (arguments_for (with_defaults ps defaults) vs named)) (same_titles ps defaults)

-- ---- a name is bound in a map

abbrev by_name : RcStr Global → RcStr Global → Ordering
by_name x y = slice_cmp nat_cmp (rc_str_bytes x) (rc_str_bytes y)

bind_step : (k : RcStr Global) (v : rust.Value) (e : RcStr Global × rust.Value) (es : List (RcStr Global × rust.Value)) (o : Ordering) → by_name k e.0 ≡ o
    → names_of (insert_entry by_name es k v) ≡ bind (rc_str_bytes k) (value_of v) (names_of es)
    → names_of (match_ordering o ((k, v) ∷ e ∷ es) ((e.0, v) ∷ es) (e ∷ insert_entry by_name es k v))
    ≡ match_ordering o ((rc_str_bytes k, value_of v) ∷ names_of (e ∷ es)) ((rc_str_bytes k, value_of v) ∷ names_of es) ((rc_str_bytes e.0, value_of e.1) ∷ bind (rc_str_bytes k) (value_of v) (names_of es))
bind_step k v e es Less h ih = refl
bind_step k v e es Equal h ih =
    let same : rc_str_bytes k ≡ rc_str_bytes e.0 = (bytes_eq-Decides (rc_str_bytes k) (rc_str_bytes e.0)).0 (sym (is_eq-slice_cmp (rc_str_bytes k) (rc_str_bytes e.0)) ∙ rw h refl) in
    rw same refl
bind_step k v e es Greater h ih = rw ih refl

pub binds : (k : RcStr Global) (v : rust.Value) (entries : List (RcStr Global × rust.Value)) → names_of (insert_entry by_name entries k v) ≡ bind (rc_str_bytes k) (value_of v) (names_of entries)
binds k v [] = refl
binds k v (e ∷ es) = bind_step k v e es _ refl (binds k v es)

-- ---- from the last to the first

-- these names with their values, on top of those that are bound
abbrev pub bound_onto : List Text → List Value → Names → Names
bound_onto [] vs bound = bound
bound_onto (x ∷ xs) [] bound = bound
bound_onto (x ∷ xs) (v ∷ vs) bound = bind x v (bound_onto xs vs bound)

pub onto_none : (xs : List Text) (vs : List Value) → bound_onto xs vs [] ≡ bound_each xs vs
onto_none [] vs = refl
onto_none (x ∷ xs) [] = refl
onto_none (x ∷ xs) (v ∷ vs) = ap (bind x v) (onto_none xs vs)

pub onto_end : (xs : List Text) (bound : Names) → bound_onto xs [] bound ≡ bound
onto_end [] bound = refl
onto_end (x ∷ xs) bound = refl

-- ---- one value after the other

step_suc : (x : Text) (o : Option Value) (ps : List (Text × Option Value)) (vs : List Value) (i : ℕ) (named : Names) → arguments_for ((x, o) ∷ ps) (drop i vs) named ≡ with_argument (or_argument (slice_get vs i) (or_default (find x named) o)) (arguments_for ps (drop (suc i) vs) named)
step_suc x o ps [] zero named = refl
step_suc x o ps [] (suc i) named = refl
step_suc x o ps (v ∷ vs) zero named = refl
step_suc x o ps (v ∷ vs) (suc i) named = step_suc x o ps vs i named

step_for : (x : Text) (o : Option Value) (ps : List (Text × Option Value)) (vs : List Value) (i : ℕ) (named : Names) → arguments_for ((x, o) ∷ ps) (drop i vs) named ≡ with_argument (or_argument (slice_get vs i) (or_default (find x named) o)) (arguments_for ps (drop (i + 1) vs) named)
step_for x o ps vs i named = step_suc x o ps vs i named ∙ ap (λ k. with_argument (or_argument (slice_get vs i) (or_default (find x named) o)) (arguments_for ps (drop k vs) named)) (sym (add-one i))

pub step_with : (p : Parameter) (ps : List Parameter) (ds vs : List Value) (i : ℕ) (named : Names) → arguments_for (with_defaults (p ∷ ps) ds) (drop i vs) named ≡ with_argument (or_argument (slice_get vs i) (or_default (find p.0 named) (next_default p.1 ds))) (arguments_for (with_defaults ps (next_defaults p.1 ds)) (drop (i + 1) vs) named)
step_with (x, None) ps ds vs i named = step_for x None (with_defaults ps ds) vs i named
step_with (x, Some e) ps [] vs i named = step_for x None (with_defaults ps []) vs i named
step_with (x, Some e) ps (d ∷ ds) vs i named = step_for x (Some d) (with_defaults ps ds) vs i named

abbrev pub behind : List Value → Option (List Value) → Option (List Value)
behind done None = None
behind done (Some vs) = Some (done ++ vs)

pub behind_one : (done : List Value) (v : Value) (rest : Option (List Value)) → behind done (with_argument (Some v) rest) ≡ behind (done ++ v ∷ []) rest
behind_one done v (Some vs) = ap Some (sym (append_assoc done (v ∷ []) vs))
behind_one done v None = refl

-- ---- as the code walks them

pub default_at : {A : Type 0} (e : A) (ds : List Value) (u : ℕ) → next_default (Some e) (drop u ds) ≡ slice_get ds u
default_at e [] zero = refl
default_at e [] (suc u) = refl
default_at e (d ∷ ds) zero = refl
default_at e (d ∷ ds) (suc u) = default_at e ds u

some_suc : {A : Type 0} (e : A) (ds : List Value) (u : ℕ) → next_defaults (Some e) (drop u ds) ≡ drop (suc u) ds
some_suc e [] zero = refl
some_suc e [] (suc u) = refl
some_suc e (d ∷ ds) zero = refl
some_suc e (d ∷ ds) (suc u) = some_suc e ds u

some_left : {A : Type 0} (e : A) (ds : List Value) (u : ℕ) → next_defaults (Some e) (drop u ds) ≡ drop (u + 1) ds
some_left e ds u = some_suc e ds u ∙ ap (λ k. drop k ds) (sym (add-one u))

none_left : (u : ℕ) → u + 0 ≡ u
none_left u = omega arith

pub defaults_left : {A : Type 0} (o : Option A) (ds : List Value) (u : ℕ) → next_defaults o (drop u ds) ≡ drop (u + default_count o) ds
defaults_left (Some e) ds u = some_left e ds u
defaults_left None ds u = ap (λ n. drop n ds) (sym (none_left u))

pub step_at : (params : List (RcStr Global × Option Expr)) (ds vs : List Value) (i u : ℕ) (named : Names) (p : RcStr Global × Option Expr) → i < length params → p ≡ get_or params i p
    → arguments_for (with_defaults (map parameter_of (drop i params)) (drop u ds)) (drop i vs) named ≡ with_argument (or_argument (slice_get vs i) (or_default (find (rc_str_bytes p.0) named) (next_default (tree_value p.1) (drop u ds)))) (arguments_for (with_defaults (map parameter_of (drop (i + 1) params)) (drop (u + default_count (tree_value p.1)) ds)) (drop (i + 1) vs) named)
step_at params ds vs i u named p h e =
    ap (λ (ps : List (RcStr Global × Option Expr)). arguments_for (with_defaults (map parameter_of ps) (drop u ds)) (drop i vs) named) (dropped params i p h e)
    ∙ step_with (parameter_of p) (map parameter_of (drop (i + 1) params)) (drop u ds) vs i named
    ∙ ap (λ l. with_argument (or_argument (slice_get vs i) (or_default (find (rc_str_bytes p.0) named) (next_default (tree_value p.1) (drop u ds)))) (arguments_for (with_defaults (map parameter_of (drop (i + 1) params)) l) (drop (i + 1) vs) named)) (defaults_left (tree_value p.1) ds u)

pub some_there : (whole : Option (List Value)) (done : List Value) (v : Value) (x rest : Option (List Value)) (a : Option Value) → behind done x ≡ whole → x ≡ with_argument a rest → Some v ≡ a → behind (done ++ v ∷ []) rest ≡ whole
some_there whole done v x rest a h s e = sym (behind_one done v rest) ∙ ap (λ o. behind done (with_argument o rest)) e ∙ ap (behind done) (sym s) ∙ h

pub none_there : (whole : Option (List Value)) (done : List Value) (x rest : Option (List Value)) (a : Option Value) → behind done x ≡ whole → x ≡ with_argument a rest → None ≡ a → None ≡ whole
none_there whole done x rest a h s e = ap (λ o. behind done (with_argument o rest)) e ∙ ap (behind done) (sym s) ∙ h

pub popped : (ps : List (RcStr Global × Option Expr)) (rest : List rust.Value) (v : rust.Value) (p : RcStr Global × Option Expr) (bound : Names) → length rest < length ps → p ≡ get_or ps (length rest) p
    → bound_onto (titles (map parameter_of ps)) (map value_of (rest ++ v ∷ [])) bound ≡ bound_onto (titles (map parameter_of ps)) (map value_of rest) (bind (rc_str_bytes p.0) (value_of v) bound)
popped [] rest v p bound h e = absurd (omega (arith, h))
popped (q ∷ ps) [] v p bound h e = ap (λ (z : RcStr Global × Option Expr). bind (rc_str_bytes z.0) (value_of v) (bound_onto (titles (map parameter_of ps)) [] bound)) (sym e) ∙ ap (bind (rc_str_bytes p.0) (value_of v)) (onto_end (titles (map parameter_of ps)) bound)
popped (q ∷ ps) (w ∷ rest) v p bound h e = ap (bind (rc_str_bytes q.0) (value_of w)) (popped ps rest v p bound (omega (arith, h)) e)

-- ---- arguments that fit

titles_length : (params : List (RcStr Global × Option Expr)) → length (titles (map parameter_of params)) ≡ length params
titles_length [] = refl
titles_length (p ∷ params) = ap suc (titles_length params)

titles_drop : (params : List (RcStr Global × Option Expr)) (n : ℕ) → drop n (titles (map parameter_of params)) ≡ titles (map parameter_of (drop n params))
titles_drop params n = drop-map (λ (p : Parameter). p.0) n (map parameter_of params) ∙ ap titles (drop-map parameter_of n params)

range_rest : {A : Type 0} (xs : List A) (n : ℕ) → take (length xs - n) (drop n xs) ≡ drop n xs
range_rest xs n = ap (λ k. take k (drop n xs)) (sym (length-drop n xs)) ∙ take-length (drop n xs)

module _ (params : List (RcStr Global × Option Expr)) (vs : List rust.Value) (named : Names) where
  abbrev fit_by : ℕ → Bool
  fit_by n = nat_le n (length (titles (map parameter_of params))) && list_all (λ (k : Text × Value). is_among k.0 (drop n (titles (map parameter_of params)))) named

  pub fit_after : (n : ℕ) → n ≡ length vs → n ≤ length params → list_all (λ (k : Text × Value). is_among k.0 (titles (map parameter_of (take (length params - n) (drop n params))))) named ≡ fit_by (length (map value_of vs))
  fit_after n p le =
      let few : nat_le n (length (titles (map parameter_of params))) ≡ true = le-leb n (length (titles (map parameter_of params))) (omega (arith, le, titles_length params)) in
      let same : length (map value_of vs) ≡ n = length-map vs value_of ∙ sym p in
      ap (λ (ps : List (RcStr Global × Option Expr)). list_all (λ (k : Text × Value). is_among k.0 (titles (map parameter_of ps))) named) (range_rest params n)
      ∙ ap (λ (xs : List Text). list_all (λ (k : Text × Value). is_among k.0 xs) named) (sym (titles_drop params n))
      ∙ sym (ap (λ b. b && list_all (λ (k : Text × Value). is_among k.0 (drop n (titles (map parameter_of params)))) named) few)
      ∙ sym (ap fit_by same)

-- ---- what single calls give

pub default_there : (o : Option Expr) (e : Expr) (ds : List Value) (u : ℕ) → o ≡ Some e → slice_get ds u ≡ next_default (tree_value o) (drop u ds)
default_there o e ds u h = sym (ap (λ (a : Option Expr). next_default (tree_value a) (drop u ds)) h ∙ default_at (expression_of e) ds u)

value_there : (vs : List rust.Value) (i : ℕ) (v : rust.Value) → i < length vs → v ≡ get_or vs i v → slice_get vs i ≡ Some v
value_there [] i v h e = absurd (omega (arith, h))
value_there (w ∷ vs) zero v h e = ap Some (sym e)
value_there (w ∷ vs) (suc i) v h e = value_there vs i v (omega (arith, h)) e

pub got_value : (o : Option (Bor rust.Value)) (vs : List rust.Value) (i : ℕ) → IsItemAt vs i o → option_map (λ v. value_of v.now) o ≡ slice_get (map value_of vs) i
got_value None vs i h = sym (slice_get-map value_of vs i ∙ ap (option_map value_of) (slice_get_past vs i h.3))
got_value (Some b) vs i h = sym (slice_get-map value_of vs i ∙ ap (option_map value_of) (value_there vs i b.now h.3.0 h.1))

pub onto_finished : (xs : List Text) (vs : List rust.Value) (bound : Names) → length vs ≡ 0 → bound_onto xs (map value_of vs) bound ≡ bound
onto_finished xs [] bound h = onto_end xs bound
onto_finished xs (v ∷ vs) bound h = absurd (omega (arith, h))

pub function_there : (o : Option Node) (profile : Profile) (code : Text) (vs : List Value) (f : rust_function.Function) → Some (function profile code vs) ≡ o → ∥ IsCodeOf profile code (definition_of f.def.value) ∥₁ → IsUtf8 code → length code ≤ longest_text → vs ≡ map value_of f.defaults.items → IsFunction o f
function_there o profile code vs f h r u n e = subst (λ (x : Option Node). IsFunction x f) h (r, u, n, e)
