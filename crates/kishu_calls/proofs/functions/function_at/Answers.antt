use Rattle.std.proofs.Common.{sym, subst, map}
use Rattle.std.proofs.lemmas.Str.{IsUtf8-string_bytes}
use Rattle.std.specs.Prelude.{slice_get}
use Rattle.std.specs.Rc.{rc_str_bytes}
use Rattle.kishu_language.specs.declared.tree.Def.{Def}
use Rattle.kishu_language.specs.trees.Fits.{IsCodeOf}
use Rattle.kishu_language.specs.trees.Tree.{definition_of}
use Rattle.kishu_meaning.specs.values.Values.{value_of}
use Rattle.kishu_calls.proofs.Binding.{function_there}
use Rattle.kishu_calls.proofs.functions.function_at.Goals as goal

pub returns-in-Some-Function-clause-found : goal.returns-in-Some-Function-clause-found
returns-in-Some-Function-clause-found g c =
    let f = c.in-Some-Function.function in
    let def = c.in_ok-def-in-Some-Function.def in
    let defaults = c.in_ok-defaults-in-Some-Function.defaults in
    let node = rw c.in-Some-Function.field-0-is at c.in-Some-Function.ensures.node in
    let read = subst (λ (d : Def). ∥ IsCodeOf f.profile (rc_str_bytes f.code) (definition_of d) ∥₁) (sym c.in_ok-def-in-Some-Function.ensures.cases) f.read in
    function_there (slice_get c.args.machine.now.heap c.args.id.0) f.profile (rc_str_bytes f.code) (map value_of f.defaults.items) (record { def = def; defaults = defaults }) node read (IsUtf8-string_bytes f.code.text.value) f.short (sym (rw c.as_slice-defaults.ensures.value at c.in_ok-defaults-in-Some-Function.ensures))
