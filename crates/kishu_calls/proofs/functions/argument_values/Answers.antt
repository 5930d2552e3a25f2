use Rattle.std.proofs.Common.{◌≡◌, ◌∙◌, ◌+◌, ap, sym, arith, List, [], ◌∷◌, ◌++◌, length, length-append, map, drop, Some, None}
use Rattle.std.specs.Prelude.{option_map, slice_get}
use Rattle.std.specs.Rc.{rc_str_bytes}
use Rattle.std.proofs.lemmas.List.{map-append}
use Rattle.kishu_meaning.specs.calls.Functions.{with_defaults, or_default}
use Rattle.kishu_language.specs.trees.Tree.{parameter_of, value_of as tree_value}
use Rattle.kishu_meaning.specs.values.Values.{Value, value_of, find}
use Rattle.kishu_calls.specs.Calls.{named_of}
use Rattle.kishu_calls.specs.Forms.{arguments_for, or_argument, next_default, default_count}
use Rattle.kishu_calls.proofs.Binding.{behind, step_at, some_there, none_there}
use Rattle.kishu_calls.proofs.functions.argument_values.Goals as goal

pub returns-in-None-clause-gives : goal.returns-in-None-clause-gives
returns-in-None-clause-gives c =
    let params = c.args.params.now in
    let ds = map value_of c.args.defaults.now in
    let vs = map value_of c.args.given.now.plain.items in
    let named = named_of c.args.given.now.named.items in
    let i = c.loop-place.place in
    let u = c.loop-place.used in
    let p = c.index-params-place.result in
    let whole = arguments_for (with_defaults (map parameter_of params) ds) vs named in
    let a = or_argument (slice_get vs i) (or_default (find (rc_str_bytes p.0) named) (next_default (tree_value p.1) (drop u ds))) in
    let rest = arguments_for (with_defaults (map parameter_of (drop (i + 1) params)) (drop (u + default_count (tree_value p.1)) ds)) (drop (i + 1) vs) named in
    let is : None ≡ a = ap (option_map value_of) (sym c.in-None.is) ∙ rw (c.as_str.ensures.value, c.next_default-found.ensures) at c.in_ok-value.ensures in
    none_there whole (map value_of c.loop-place.values.items) _ rest a c.loop-place.invariant.told (step_at params ds vs i u named p (omega arith) c.index-params-place.is) is

pub loop-place-preserved : goal.loop-place-preserved
loop-place-preserved c =
    let params = c.args.params.now in
    let ds = map value_of c.args.defaults.now in
    let vs = map value_of c.args.given.now.plain.items in
    let named = named_of c.args.given.now.named.items in
    let i = c.loop-place.place in
    let u = c.loop-place.used in
    let p = c.index-params-place.result in
    let v = c.in-Some.value in
    let old = c.loop-place.values.items in
    let whole = arguments_for (with_defaults (map parameter_of params) ds) vs named in
    let a = or_argument (slice_get vs i) (or_default (find (rc_str_bytes p.0) named) (next_default (tree_value p.1) (drop u ds))) in
    let rest = arguments_for (with_defaults (map parameter_of (drop (i + 1) params)) (drop (u + default_count (tree_value p.1)) ds)) (drop (i + 1) vs) named in
    let grown : map value_of c.push.new.self.items ≡ map value_of old ++ value_of v ∷ [] = ap (map value_of) c.in_ok-push-in-Some.ensures.items ∙ map-append value_of old (v ∷ []) in
    let is : Some (value_of v) ≡ a = ap (option_map value_of) (sym c.in-Some.is) ∙ rw (c.as_str.ensures.value, c.next_default-found.ensures) at c.in_ok-value.ensures in
    record {
      told = rw c.default_count-used.ensures.is (ap (λ (l : List Value). behind l rest) grown ∙ some_there whole (map value_of old) (value_of v) _ rest a c.loop-place.invariant.told (step_at params ds vs i u named p (omega arith) c.index-params-place.is) is);
      used = omega (arith, c.loop-place.invariant.used, c.default_count-used.ensures.most);
      each = ap length c.in_ok-push-in-Some.ensures.items ∙ omega (arith, length-append old (v ∷ []), c.loop-place.invariant.each);
    }
