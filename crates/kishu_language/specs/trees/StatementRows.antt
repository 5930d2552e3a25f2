-- What the code's statements stand for, variant by variant.
use Rattle.std.proofs.Common.{◌≡◌, map, sym, ap, ◌∙◌, Option}
use Rattle.std.specs.declared.alloc.Global.{Global}
use Rattle.std.specs.declared.rc.Rc.{Rc}
use Rattle.std.specs.declared.rc.RcStr.{RcStr}
use Rattle.std.specs.declared.vec.Vec.{Vec}
use Rattle.std.specs.Rc.{rc_str_bytes}
use Rattle.kishu_language.specs.declared.tree.Operator.{Operator}
use Rattle.kishu_language.specs.declared.tree.Expr.{Expr}
use Rattle.kishu_language.specs.declared.tree.Stmt.{Stmt}
use Rattle.kishu_language.specs.declared.tree.Stmt.TheVariants as s
use Rattle.kishu_language.specs.declared.tree.Arm.{Arm as Arm'}
use Rattle.kishu_language.specs.declared.tree.Handler.{Handler as Handler'}
use Rattle.kishu_language.specs.declared.tree.Def.{Def}
use Rattle.kishu_language.specs.declared.tree.Stmt.TheOpen.{Stmt-F}
use Rattle.kishu_language.specs.declared.tree.Stmt.TheFolds.{fold-roll-Stmt, fold-roll-Arm, fold-roll-Handler, fold-roll-Def}
use Rattle.kishu_language.specs.declared.tree.Stmt.TheViews.{roll-Arm, roll-Handler, roll-Def}
use Rattle.kishu_language.specs.trees.Tree.{Statement, Arm, Handler, Definition, statements, arms, handlers, value_of, text_of, parameter_of, expression_of, statement_of, definition_of, statement_step, arm_step, definition_step, handler_step}
use Rattle.kishu_language.specs.trees.Tree as t
use Rattle.kishu_language.specs.trees.Parts.{arm_of, handler_of}

pub pass_is : statement_of (s.Pass) ≡ t.pass
unfolding statement_of
pass_is = ap statement_of (sym (s.rolls-Pass)) ∙ fold-roll-Stmt Statement Arm Definition Handler statement_step arm_step definition_step handler_step (Stmt-F.Pass)

pub break_is : statement_of (s.Break) ≡ t.break
unfolding statement_of
break_is = ap statement_of (sym (s.rolls-Break)) ∙ fold-roll-Stmt Statement Arm Definition Handler statement_step arm_step definition_step handler_step (Stmt-F.Break)

pub continue_is : statement_of (s.Continue) ≡ t.continue
unfolding statement_of
continue_is = ap statement_of (sym (s.rolls-Continue)) ∙ fold-roll-Stmt Statement Arm Definition Handler statement_step arm_step definition_step handler_step (Stmt-F.Continue)

pub return_is : (a : Option Expr) → statement_of (s.Return a) ≡ t.return (value_of a)
unfolding statement_of
return_is a = ap statement_of (sym (s.rolls-Return a)) ∙ fold-roll-Stmt Statement Arm Definition Handler statement_step arm_step definition_step handler_step (Stmt-F.Return a)

pub raise_is : (a : Option Expr) → statement_of (s.Raise a) ≡ t.raise (value_of a)
unfolding statement_of
raise_is a = ap statement_of (sym (s.rolls-Raise a)) ∙ fold-roll-Stmt Statement Arm Definition Handler statement_step arm_step definition_step handler_step (Stmt-F.Raise a)

pub assert_is : (a : Expr) (b : Option Expr) → statement_of (s.Assert a b) ≡ t.assert (expression_of a) (value_of b)
unfolding statement_of
assert_is a b = ap statement_of (sym (s.rolls-Assert a b)) ∙ fold-roll-Stmt Statement Arm Definition Handler statement_step arm_step definition_step handler_step (Stmt-F.Assert a b)

pub delete_is : (v : Vec Expr Global) → statement_of (s.Del v) ≡ t.delete (map expression_of v.items)
unfolding statement_of
delete_is v = ap statement_of (sym (s.rolls-Del v)) ∙ fold-roll-Stmt Statement Arm Definition Handler statement_step arm_step definition_step handler_step (Stmt-F.Del v)

pub global_is : (v : Vec (RcStr Global) Global) → statement_of (s.Global v) ≡ t.global (map rc_str_bytes v.items)
unfolding statement_of
global_is v = ap statement_of (sym (s.rolls-Global v)) ∙ fold-roll-Stmt Statement Arm Definition Handler statement_step arm_step definition_step handler_step (Stmt-F.Global v)

pub import_is : (x : Option (RcStr Global)) → statement_of (s.Import x) ≡ t.import (text_of x)
unfolding statement_of
import_is x = ap statement_of (sym (s.rolls-Import x)) ∙ fold-roll-Stmt Statement Arm Definition Handler statement_step arm_step definition_step handler_step (Stmt-F.Import x)

pub update_is : (a : Expr) (o : Operator) (b : Expr) → statement_of (s.Update a o b) ≡ t.update (expression_of a) o (expression_of b)
unfolding statement_of
update_is a o b = ap statement_of (sym (s.rolls-Update a o b)) ∙ fold-roll-Stmt Statement Arm Definition Handler statement_step arm_step definition_step handler_step (Stmt-F.Update a o b)

pub assign_is : (v : Vec Expr Global) (a : Expr) → statement_of (s.Assign v a) ≡ t.assign (map expression_of v.items) (expression_of a)
unfolding statement_of
assign_is v a = ap statement_of (sym (s.rolls-Assign v a)) ∙ fold-roll-Stmt Statement Arm Definition Handler statement_step arm_step definition_step handler_step (Stmt-F.Assign v a)

pub if_is : (v : Vec Arm' Global) (w : Vec Stmt Global) → statement_of (s.If v w) ≡ t.choose (arms (map arm_of v.items)) (statements (map statement_of w.items))
unfolding statement_of arm_of
if_is v w = ap statement_of (sym (s.rolls-If v w)) ∙ fold-roll-Stmt Statement Arm Definition Handler statement_step arm_step definition_step handler_step (Stmt-F.If v w)

pub while_is : (a : Expr) (v : Vec Stmt Global) → statement_of (s.While a v) ≡ t.while (expression_of a) (statements (map statement_of v.items))
unfolding statement_of
while_is a v = ap statement_of (sym (s.rolls-While a v)) ∙ fold-roll-Stmt Statement Arm Definition Handler statement_step arm_step definition_step handler_step (Stmt-F.While a v)

pub for_is : (a : Expr) (b : Expr) (v : Vec Stmt Global) → statement_of (s.For a b v) ≡ t.for (expression_of a) (expression_of b) (statements (map statement_of v.items))
unfolding statement_of
for_is a b v = ap statement_of (sym (s.rolls-For a b v)) ∙ fold-roll-Stmt Statement Arm Definition Handler statement_step arm_step definition_step handler_step (Stmt-F.For a b v)

pub try_is : (v : Vec Stmt Global) (h : Vec Handler' Global) (w : Vec Stmt Global) (x : Vec Stmt Global) → statement_of (s.Try v h w x) ≡ t.try (statements (map statement_of v.items)) (handlers (map handler_of h.items)) (statements (map statement_of w.items)) (statements (map statement_of x.items))
unfolding statement_of handler_of
try_is v h w x = ap statement_of (sym (s.rolls-Try v h w x)) ∙ fold-roll-Stmt Statement Arm Definition Handler statement_step arm_step definition_step handler_step (Stmt-F.Try v h w x)

pub finally_is : (v : Vec Stmt Global) (w : Vec Stmt Global) → statement_of (s.Finally v w) ≡ t.finally (statements (map statement_of v.items)) (statements (map statement_of w.items))
unfolding statement_of
finally_is v w = ap statement_of (sym (s.rolls-Finally v w)) ∙ fold-roll-Stmt Statement Arm Definition Handler statement_step arm_step definition_step handler_step (Stmt-F.Finally v w)

pub def_is : (d : Rc Def Global) (x : RcStr Global) → statement_of (s.Def d x) ≡ t.define (definition_of d.value).title (definition_of d.value).parameters (definition_of d.value).body (rc_str_bytes x)
unfolding statement_of definition_of
def_is d x = ap statement_of (sym (s.rolls-Def d x)) ∙ fold-roll-Stmt Statement Arm Definition Handler statement_step arm_step definition_step handler_step (Stmt-F.Def d x)

pub arm_is : (a : Expr) (v : Vec Stmt Global) → arm_of (roll-Arm (record { test = a; body = v })) ≡ (expression_of a, statements (map statement_of v.items))
unfolding arm_of statement_of
arm_is a v = fold-roll-Arm Statement Arm Definition Handler statement_step arm_step definition_step handler_step (record { test = a; body = v })

pub arm_at : (a : Arm') → arm_of a ≡ (expression_of a.test, statements (map statement_of a.body.items))
arm_at a = arm_is a.test a.body

pub handler_is : (a : Option Expr) (x : Option (RcStr Global)) (v : Vec Stmt Global) → handler_of (roll-Handler (record { class = a; name = x; body = v })) ≡ record { class = value_of a; caught = text_of x; body = statements (map statement_of v.items) }
unfolding handler_of statement_of
handler_is a x v = fold-roll-Handler Statement Arm Definition Handler statement_step arm_step definition_step handler_step (record { class = a; name = x; body = v })

pub definition_is : (x : RcStr Global) (ps : Vec (RcStr Global × Option Expr) Global) (v : Vec Stmt Global) → definition_of (roll-Def (record { name = x; params = ps; body = v })) ≡ record { title = rc_str_bytes x; parameters = map parameter_of ps.items; body = statements (map statement_of v.items) }
unfolding definition_of statement_of
definition_is x ps v = fold-roll-Def Statement Arm Definition Handler statement_step arm_step definition_step handler_step (record { name = x; params = ps; body = v })

pub parameters_at : (d : Def) → (definition_of d).parameters ≡ map parameter_of d.params.items
parameters_at d = ap (λ k. k.parameters) (definition_is d.name d.params d.body)

pub body_at : (d : Def) → (definition_of d).body ≡ statements (map statement_of d.body.items)
body_at d = ap (λ k. k.body) (definition_is d.name d.params d.body)

pub ruleset statement_rows = (pass_is, break_is, continue_is, return_is, raise_is, assert_is, delete_is, global_is, import_is, update_is, assign_is, if_is, while_is, for_is, try_is, finally_is, def_is, arm_is)
