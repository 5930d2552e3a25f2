-- What the body of a function does, with its locals, and what a call of it does.
use Rattle.std.proofs.Common.{◌≡◌, ◌∙◌, refl, ap, sym, subst, ℕ, suc, ◌-◌, ◌<◌, ◌≤◌, ◌++◌, Bool, true, arith, IsTrue, if◌then◌else◌, List, [], ◌∷◌, length, Option, Some, None, Result, Ok, Err}
use Rattle.std.proofs.lemmas.Bool.Decides.{nat_tests}
use Rattle.std.specs.List.{list_all}
use Rattle.std.specs.Prelude.{nat_lt, codes}
use Rattle.std.specs.Rc.{rc_str_bytes}
use Rattle.std.specs.Str.{chars}
use Rattle.kishu_language.specs.declared.tree.Def.{Def}
use Rattle.kishu_language.specs.declared.tree.Stmt.TheFolds.{fold-roll-Def}
use Rattle.kishu_meaning.specs.calls.Callees.{Given}
use Rattle.kishu_meaning.specs.calls.Functions.{in_frame, left_at, own_names, bound_values}
use Rattle.kishu_meaning.specs.cells.Meaning.{Calls, call, acts, in_block, result_of, enter}
use Rattle.kishu_language.specs.tokens.Names.{is_name, is_word_char, begins_with_letter}
use Rattle.kishu_meaning.specs.moments.Moment.{Locals, Moment, Ends, fine, M, and_then, ◌>>=◌, give, raise, Thrown, throw, deeper, back_at, recursion_error}
use Rattle.kishu_language.specs.trees.Tree.{Text, Statement, Statements, Arm, Definition, Handler, definition_of, statement_of, statement_step, arm_step, definition_step, handler_step}
use Rattle.kishu_meaning.specs.values.Values.{Value, Names, Node}
use Rattle.kishu_meaning.specs.cells.Ways.{Flow}
use Rattle.kishu_meaning.specs.values.Classes.{type_error_class}
use Rattle.kishu_language.specs.trees.Parts.{statements_of}
use Rattle.kishu_items.specs.Holding.{both, first, second}
use Rattle.kishu_items.specs.Messages.{is_plain, chars-plain}
use Rattle.kishu_machine.specs.declared.fault.Fault.{Fault}
use Rattle.kishu_machine.specs.declared.fault.Fault.TheVariants as faults
use Rattle.kishu_machine.specs.Frames.{is_sound_run}
use Rattle.kishu_machine.specs.Machine.{Fails, Gives, IsRaised}
use Rattle.kishu_machine.specs.SoundMore.{sound_more_locals, names_in_run, locals_in_run, handled_in_run, run_of}
use Rattle.kishu_statements.specs.Forms.{called}
use Rattle.kishu_statements.proofs.Calling.{called_at}
use Rattle.kishu_machine.specs.SoundNames.{less_test}

pub title_is : (d : Def) → (definition_of d).title ≡ rc_str_bytes d.name
unfolding definition_of statement_of
title_is d = ap (λ k. k.title) (fold-roll-Def Statement Arm Definition Handler statement_step arm_step definition_step handler_step (record { name = d.name; params = d.params; body = d.body }))

pub body_is : (d : Def) → (definition_of d).body ≡ statements_of d.body.items
unfolding definition_of statement_of
body_is d = ap (λ k. k.body) (fold-roll-Def Statement Arm Definition Handler statement_step arm_step definition_step handler_step (record { name = d.name; params = d.params; body = d.body }))

-- A run with the locals that it had before.
pub sound_left : (old new : List Node) (names names' : Names) (locals locals' : Option Locals) (handled handled' : Option Value) → length old ≤ length new
    → IsTrue (is_sound_run old names locals handled) → IsTrue (is_sound_run new names' locals' handled') → IsTrue (is_sound_run new names' locals handled')
sound_left old new names names' locals locals' handled handled' p h k =
    run_of new names' locals handled' (names_in_run new names' locals' handled' k) (sound_more_locals (length old) (length new) p locals (locals_in_run old names locals handled h)) (handled_in_run new names' locals' handled' k)

module _ (here : Locals) (m : M Flow) (s : Moment) (n : ℕ) (inner outer : Option Locals) where
  pub enters : s.depth < 1000 → suc s.depth ≡ n → Some here ≡ inner → s.locals ≡ outer → deeper (in_frame here m) s ≡ back_at s.depth (left_at outer (m (record s { depth = n; locals = inner })))
  enters p e l o =
      ap (λ (b : Bool). (if b then back_at s.depth (in_frame here m (record s { depth = suc s.depth })) else recursion_error s)) (less_test s.depth 1000 p)
      ∙ ap (λ (o' : Option Locals). back_at s.depth (left_at o' (m (record s { depth = suc s.depth; locals = Some here })))) o
      ∙ ap (λ (k : ℕ). back_at s.depth (left_at outer (m (record s { depth = k; locals = Some here })))) e
      ∙ ap (λ (l' : Option Locals). back_at s.depth (left_at outer (m (record s { depth = n; locals = l' })))) l

module _ (calls : Calls) (here : Locals) (d : Definition) (body : Statements) (s t : Moment) (n : ℕ) (inner outer : Option Locals)
    (p : s.depth < 1000) (e : suc s.depth ≡ n) (l : Some here ≡ inner) (o : s.locals ≡ outer) (is : d.body ≡ body) where
  abbrev inside : Statements → Ends Flow
  inside b = in_block b (acts calls b) (record s { depth = n; locals = inner })

  abbrev whole : M Value
  whole = deeper (in_frame here (in_block d.body (acts calls d.body))) >>= λ f. give (result_of f)

  whole_is : whole s ≡ and_then (back_at s.depth (left_at outer (inside body))) (λ f. give (result_of f))
  whole_is =
      ap (λ (x : Ends Flow). and_then x (λ f. give (result_of f))) (enters here (in_block d.body (acts calls d.body)) s n inner outer p e l o)
      ∙ ap (λ (b : Statements). and_then (back_at s.depth (left_at outer (inside b))) (λ f. give (result_of f))) is

  pub entered_fine : (w : Flow) → inside body ≡ fine w t → whole s ≡ fine (result_of w) (record t { locals = outer; depth = s.depth })
  entered_fine w h = whole_is ∙ ap (λ (x : Ends Flow). and_then (back_at s.depth (left_at outer x)) (λ f. give (result_of f))) h

  pub entered_fails : (f : Fault) → Fails f t (inside body) → Fails f (record t { locals = outer; depth = s.depth }) (whole s)
  entered_fails (faults.Raised x) h = whole_is ∙ ap (λ (x : Ends Flow). and_then (back_at s.depth (left_at outer x)) (λ f. give (result_of f))) h
  entered_fails faults.Stopped h = whole_is ∙ ap (λ (x : Ends Flow). and_then (back_at s.depth (left_at outer x)) (λ f. give (result_of f))) h
  entered_fails faults.NoMemory h = tt

-- ---- a call

word_plain : (c : ℕ) → is_word_char c ≡ true → nat_lt c 128 ≡ true
word_plain c h = grind (arith, nat_tests)

words_plain : (cs : List ℕ) → list_all is_word_char cs ≡ true → is_plain cs ≡ true
words_plain [] h = refl
words_plain (c ∷ cs) h = both (nat_lt c 128) _ (word_plain c (first (is_word_char c) _ h)) (words_plain cs (second (is_word_char c) _ h))

-- A name is ASCII.
pub name_plain : (x : Text) → IsTrue (is_name x) → chars x ≡ x
name_plain x h = chars-plain x (words_plain x (first (list_all is_word_char x) _ (second (begins_with_letter x) _ h)))

pub raised_by : {X A : Type 0} (view : X → A) (r : Result X Fault) (kind : ℕ) (message : List ℕ) (s : Moment) → IsRaised r kind message → Gives view r s (raise kind message s)
raised_by view (Ok x) kind message s h = absurd h
raised_by {A = A} view (Err (faults.Raised x)) kind message s h = ap (λ (y : Thrown). throw {A = A} y s) (sym h)
raised_by view (Err faults.Stopped) kind message s h = absurd h
raised_by view (Err faults.NoMemory) kind message s h = tt

module _ {X : Type 0} (view : X → Value) (r : Result X Fault) (room : ℕ) (d : Definition) (vs : List Value) (given : Given) (s t : Moment) (p : 0 < room) where
  pub called_bound : (k : ℕ) (e : Definition) (here : Locals) (values : Names) → k ≡ room - 1 → e ≡ d → here ≡ record { own = own_names d; values = values } → Some values ≡ bound_values d vs given
      → Gives view r t ((deeper (in_frame here (in_block e.body (acts (call k) e.body))) >>= λ f. give (result_of f)) s) → Gives view r t (called room d vs given s)
  called_bound k e here values ke ee he be h =
      let h1 = subst (λ (k : ℕ). Gives view r t ((deeper (in_frame here (in_block e.body (acts (call k) e.body))) >>= λ f. give (result_of f)) s)) ke h in
      let h2 = subst (λ (e : Definition). Gives view r t ((deeper (in_frame here (in_block e.body (acts (call (room - 1)) e.body))) >>= λ f. give (result_of f)) s)) ee h1 in
      let h3 = subst (λ (here : Locals). Gives view r t ((deeper (in_frame here (in_block d.body (acts (call (room - 1)) d.body))) >>= λ f. give (result_of f)) s)) he h2 in
      let h4 = subst (λ (o : Option Names). Gives view r t (enter (call (room - 1)) d o s)) be h3 in
      subst (λ (m : M Value). Gives view r t (m s)) (sym (called_at room d vs given p)) h4

  pub called_refused : (title : Text) → None ≡ bound_values d vs given → title ≡ d.title → IsTrue (is_name d.title) → IsRaised r type_error_class (chars title ++ codes "() got bad arguments") → Gives view r s (called room d vs given s)
  called_refused title be te name h =
      let h1 = raised_by view r 23 (chars title ++ codes "() got bad arguments") s h in
      let h2 = subst (λ (x : Text). Gives view r s (raise type_error_class (x ++ codes "() got bad arguments") s)) (ap chars te ∙ name_plain d.title name) h1 in
      let h3 = subst (λ (o : Option Names). Gives view r s (enter (call (room - 1)) d o s)) be h2 in
      subst (λ (m : M Value). Gives view r s (m s)) (sym (called_at room d vs given p)) h3
