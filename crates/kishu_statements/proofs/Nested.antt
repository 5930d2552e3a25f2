-- A list of targets lies one level deeper than the targets themselves.
use Rattle.std.proofs.Common.{◌<◌, ◌+◌, ℕ, suc, subst, sym, add-one, Bool, Result}
use Rattle.std.proofs.lemmas.Bool.{lt-ltb}
use Rattle.std.specs.Prelude.{if◌then◌else◌}
use Rattle.kishu_meaning.specs.cells.Meaning.{Calls, store}
use Rattle.kishu_meaning.specs.moments.Moment.{Moment, back_at, most_depth, recursion_error}
use Rattle.kishu_language.specs.trees.Tree.{Expressions}
use Rattle.kishu_language.specs.trees.Tree as t
use Rattle.kishu_meaning.specs.values.Values.{Value}
use Rattle.kishu_machine.specs.declared.fault.Fault.{Fault}
use Rattle.kishu_machine.specs.Composing.{gives_back}
use Rattle.kishu_machine.specs.Machine.{Gives}

module _ (calls : Calls) (es : Expressions) (v : Value) {X : Type 0} (view : X → Unit {0}) (r : Result X Fault) (s u : Moment) where
  pub nested_gives : s.depth < most_depth → Gives view r u (store calls (t.tuple es) v (record s { depth = s.depth + 1 })) → Gives view r (record u { depth = s.depth }) (store calls (t.list es) v s)
  nested_gives h g =
      let e = store calls (t.tuple es) v (record s { depth = suc s.depth }) in
      let inner = subst (λ (d : ℕ). Gives view r u (store calls (t.tuple es) v (record s { depth = d }))) (add-one s.depth) g in
      subst (λ (b : Bool). Gives view r (record u { depth = s.depth }) (if b then back_at s.depth e else recursion_error s)) (sym (lt-ltb s.depth most_depth h)) (gives_back view s.depth r u e inner)
