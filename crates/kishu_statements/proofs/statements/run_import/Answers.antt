use Rattle.std.proofs.Common.{◌∙◌, List, Option, ap, refl, sym, ℕ}
use Rattle.std.specs.declared.alloc.Global.{Global}
use Rattle.std.specs.declared.rc.RcStr.{RcStr}
use Rattle.kishu_meaning.specs.values.Classes.{namespace_class}
use Rattle.kishu_meaning.specs.calls.Functions.{or_class_name}
use Rattle.kishu_meaning.specs.moments.Moment.{Ends, and_then, assign, fine, give}
use Rattle.kishu_language.specs.tokens.Names.{reserved_words}
use Rattle.kishu_language.specs.trees.Tree.{text_of}
use Rattle.kishu_meaning.specs.values.Values.{class}
use Rattle.kishu_meaning.specs.cells.Ways.{onward}
use Rattle.kishu_machine.specs.declared.machine.Machine.{Machine}
use Rattle.kishu_machine.specs.Machine.{moment_of}
use Rattle.kishu_statements.proofs.statements.run_import.Goals.{in-Some+in_ok-assign-in-Some, in-None+in_ok-name-in-None+in_ok-assign-in-None}
use Rattle.kishu_statements.proofs.statements.run_import.Goals as goal

pub assign-requires-in-None-clause-name : goal.assign-requires-in-None-clause-name
unfolding reserved_words
assign-requires-in-None-clause-name c = rw c.in_ok-name-in-None.ensures.ok refl

pub returns-clause-gives : goal.returns-clause-gives
returns-clause-gives c =
    let s = moment_of c.args.machine.now in
    ap (λ (x : Ends (Unit {0})). and_then x (λ _. give onward)) (elim c.match-name.branch [
      | in-Some+in_ok-assign-in-Some w ↦
          ap (λ (o : Option (RcStr Global)). assign (or_class_name (text_of o)) (class namespace_class) s) w.in-Some.is
          ∙ w.in_ok-assign-in-Some.ensures.gives
          ∙ ap (λ (m : Machine). fine tt (moment_of m)) (sym w.machine-is)
      | in-None+in_ok-name-in-None+in_ok-assign-in-None w ↦
          ap (λ (o : Option (RcStr Global)). assign (or_class_name (text_of o)) (class namespace_class) s) w.in-None.is
          ∙ ap (λ (x : List ℕ). assign x (class namespace_class) s) (sym w.in_ok-name-in-None.ensures.ok)
          ∙ w.in_ok-assign-in-None.ensures.gives
          ∙ ap (λ (m : Machine). fine tt (moment_of m)) (sym w.machine-is)
    ])
