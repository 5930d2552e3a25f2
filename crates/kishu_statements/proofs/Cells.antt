-- Statements of a cell, one after the other, and what the last one shows.
use Rattle.std.proofs.Common.{◌≡◌, ◌∙◌, refl, ap, sym, subst, arith, ℕ, ◌+◌, ◌<◌, ◌≤◌, List, [], ◌∷◌, ◌++◌, map, max, length, Option, drop, get_or}
use Rattle.std.specs.declared.alloc.Global.{Global}
use Rattle.std.specs.declared.vec.Vec.{Vec}
use Rattle.kishu_language.specs.declared.tree.Expr.{Expr}
use Rattle.kishu_language.specs.declared.tree.Stmt.{Stmt}
use Rattle.kishu_language.specs.declared.tree.Stmt.TheVariants as s
use Rattle.kishu_language.specs.trees.Tree.{Statement, expression_of, statement_of, statements}
use Rattle.kishu_language.specs.trees.Tree as t
use Rattle.kishu_meaning.specs.moments.Moment.{Moment, Ends, fine, and_then, give, tick, ◌>>◌}
use Rattle.kishu_meaning.specs.cells.Ways.{Flow}
use Rattle.kishu_meaning.specs.cells.Meaning.{act, all_calls, cell, last_act}
use Rattle.kishu_language.specs.trees.StatementRows.{assign_is}
use Rattle.kishu_language.specs.trees.Parts.{statements_of}
use Rattle.kishu_items.specs.Gathering.{dropped}
use Rattle.kishu_machine.specs.declared.fault.Fault.{Fault}
use Rattle.kishu_machine.specs.Machine.{Fails}
use Rattle.kishu_machine.specs.Composing.{fails_on}
use Rattle.kishu_language.specs.trees.Fits.{StatementFits, StatementsFit}
use Rattle.kishu_language.specs.trees.Height.{of_statement, of_statements}
use Rattle.kishu_machine.specs.declared.machine.Machine.{Machine}
use Rattle.kishu_machine.specs.Machine.{GrownBy}
use Rattle.kishu_statements.specs.Forms.{each, silent_act}
use Rattle.kishu_statements.proofs.Chains.{in_turn}
use Rattle.kishu_statements.proofs.Lists.{same_behind}

-- ---- a statement that is an expression, and one that isn't

pub no_items : {A : Type 0} (xs : List A) → length xs ≡ 0 → xs ≡ []
no_items [] h = refl
no_items (x ∷ xs) h = absurd (omega (arith, h))

pub expression_is : (v : Vec Expr Global) (a : Expr) → v.items ≡ [] → statement_of (s.Assign v a) ≡ t.assign [] (expression_of a)
expression_is v a h = assign_is v a ∙ ap (λ (es : List Expr). t.assign (map expression_of es) (expression_of a)) h

silent_targets : (es : List Expr) (a : Expr) → 0 < length es → last_act (t.assign (map expression_of es) (expression_of a)) ≡ silent_act (t.assign (map expression_of es) (expression_of a))
silent_targets [] a h = absurd (omega arith)
silent_targets (e ∷ es) a h = refl

pub assignment_is_silent : (v : Vec Expr Global) (a : Expr) → 0 < length v.items → last_act (statement_of (s.Assign v a)) ≡ silent_act (statement_of (s.Assign v a))
assignment_is_silent v a h = rw (assign_is v a) (silent_targets v.items a h)

-- ---- each statement

pub statements_here : (xs : List Stmt) (i : ℕ) (x : Stmt) → i < length xs → x ≡ get_or xs i x → statements_of (drop i xs) ≡ t.more_statements (statement_of x) (statements_of (drop (i + 1) xs))
statements_here xs i x h p = ap statements_of (dropped xs i x h p)

pub list_here : (xs : List Stmt) (i : ℕ) (x : Stmt) → i < length xs → x ≡ get_or xs i x → map statement_of (drop i xs) ≡ statement_of x ∷ map statement_of (drop (i + 1) xs)
list_here xs i x h p = ap (map statement_of) (dropped xs i x h p)

module _ (s : Statement) (ss : List Statement) (m : Moment) where
  module _ (m1 : Moment) (h : tick m ≡ fine tt m1) where
    ticked : each (s ∷ ss) m ≡ and_then (act all_calls s m1) (λ _. each ss)
    ticked = ap (λ (x : Ends (Unit {0})). and_then (and_then x (λ _. act all_calls s)) (λ _. each ss)) h

    pub each_fails : (f : Fault) (u : Moment) → Fails {A = Flow} f u (act all_calls s m1) → Fails {A = Unit {0}} f u (each (s ∷ ss) m)
    each_fails f u k = rw ticked (fails_on (λ _. each ss) f u (act all_calls s m1) k)

    pub each_on : (m2 : Moment) (f : Flow) → act all_calls s m1 ≡ fine f m2 → each (s ∷ ss) m ≡ each ss m2
    each_on m2 f k = ticked ∙ ap (λ (x : Ends Flow). and_then x (λ _. each ss)) k

-- What a statement makes, its step pays for.
pub paid : (m1 m2 m3 m4 : Machine) (a b c d : ℕ) → GrownBy 0 m1 a m2 b → GrownBy 0 m2 b m3 c → m3.budget.left + 1 ≡ m2.budget.left → m3.heap ≡ m2.heap → GrownBy 3 m3 c m4 d → GrownBy 0 m1 a m4 d
paid m1 m2 m3 m4 a b c d g h t s k = (omega (arith, g.0, h.0, k.0), omega (arith, g.1, ap length s, t, k.1), omega (arith, g.2, h.2, k.2))

-- ---- the last statement, and those before it

pub height_apart : (before : List Stmt) (last : Stmt) → of_statements (statements_of (before ++ last ∷ [])) ≡ max (of_statements (statements_of before)) (of_statement (statement_of last))
height_apart [] last = omega arith
height_apart (x ∷ before) last = let k = height_apart before last in omega (arith, k)

pub fits_apart : (before : List Stmt) (last : Stmt) → StatementsFit (statements_of (before ++ last ∷ [])) → StatementsFit (statements_of before) × StatementFits (statement_of last)
fits_apart [] last h = (tt, h.0)
fits_apart (x ∷ before) last h = let k = fits_apart before last h.1 in ((h.0, k.0), k.1)

cell_apart : (before : List Stmt) (last : Stmt) (m : Moment) → cell (map statement_of (before ++ last ∷ [])) m ≡ and_then (each (map statement_of before) m) (λ _. tick >> last_act (statement_of last))
cell_apart [] last m = refl
cell_apart (x ∷ []) last m = sym (in_turn (and_then (tick m) (λ _. act all_calls (statement_of x))) (λ _. give tt) (λ _. tick >> last_act (statement_of last)))
cell_apart (x ∷ y ∷ before) last m =
    let e = and_then (tick m) (λ _. act all_calls (statement_of x)) in
    same_behind e (λ _. cell (map statement_of (y ∷ before ++ last ∷ []))) (λ _ m1. and_then (each (map statement_of (y ∷ before)) m1) (λ _. tick >> last_act (statement_of last))) (λ _ m1. cell_apart (y ∷ before) last m1)
    ∙ sym (in_turn e (λ _. each (map statement_of (y ∷ before))) (λ _. tick >> last_act (statement_of last)))

module _ (xs before : List Stmt) (last : Stmt) (h : xs ≡ before ++ last ∷ []) where
  pub height_before : of_statements (statements_of before) ≤ of_statements (statements_of xs)
  height_before = let k : of_statements (statements_of xs) ≡ max (of_statements (statements_of before)) (of_statement (statement_of last)) = ap (λ (ss : List Stmt). of_statements (statements_of ss)) h ∙ height_apart before last in omega (arith, k)

  pub height_last : of_statement (statement_of last) ≤ of_statements (statements_of xs)
  height_last = let k : of_statements (statements_of xs) ≡ max (of_statements (statements_of before)) (of_statement (statement_of last)) = ap (λ (ss : List Stmt). of_statements (statements_of ss)) h ∙ height_apart before last in omega (arith, k)

  pub fits_both : StatementsFit (statements_of xs) → StatementsFit (statements_of before) × StatementFits (statement_of last)
  fits_both f = fits_apart before last (subst (λ (ss : List Stmt). StatementsFit (statements_of ss)) h f)

  module _ (m : Moment) where
    cell_is : cell (map statement_of xs) m ≡ and_then (each (map statement_of before) m) (λ _. tick >> last_act (statement_of last))
    cell_is = ap (λ (ss : List Stmt). cell (map statement_of ss) m) h ∙ cell_apart before last m

    pub before_fails : (f : Fault) (u : Moment) → Fails {A = Unit {0}} f u (each (map statement_of before) m) → Fails {A = Option (List ℕ)} f u (cell (map statement_of xs) m)
    before_fails f u k = subst (λ (e : Ends (Option (List ℕ))). Fails f u e) (sym cell_is) (fails_on (λ _. tick >> last_act (statement_of last)) f u (each (map statement_of before) m) k)

    module _ (m1 : Moment) (k : each (map statement_of before) m ≡ fine tt m1) where
      then_last : cell (map statement_of xs) m ≡ and_then (tick m1) (λ _. last_act (statement_of last))
      then_last = cell_is ∙ ap (λ (e : Ends (Unit {0})). and_then e (λ _. tick >> last_act (statement_of last))) k

      pub step_fails : (f : Fault) (u : Moment) → Fails {A = Unit {0}} f u (tick m1) → Fails {A = Option (List ℕ)} f u (cell (map statement_of xs) m)
      step_fails f u g = subst (λ (e : Ends (Option (List ℕ))). Fails f u e) (sym then_last) (fails_on (λ _. last_act (statement_of last)) f u (tick m1) g)

      pub last_is : (m2 : Moment) → tick m1 ≡ fine tt m2 → cell (map statement_of xs) m ≡ last_act (statement_of last) m2
      last_is m2 g = then_last ∙ ap (λ (e : Ends (Unit {0})). and_then e (λ _. last_act (statement_of last))) g
