-- What a text's run is, by its tree and by the line of its fault, and where it begins.
use Rattle.std.proofs.Common.{◌≡◌, ◌∙◌, ap, sym, subst, arith, ℕ, ◌+◌, ◌-◌, ◌*◌, ◌≤◌, List, [], ◌∷◌, ◌++◌, length, Option, Some, None, Result, Ok}
use Rattle.std.specs.Str.{chars}
use Rattle.std.specs.declared.alloc.Global.{Global}
use Rattle.std.specs.declared.string.String.{String}
use Rattle.std.proofs.lemmas.Str.{chars-nil}
use Rattle.kishu_language.specs.declared.profile.Profile.{Profile}
use Rattle.kishu_meaning.specs.declared.result.Output as rust
use Rattle.kishu_language_laws.specs.reading.ExactText.{read_only, line_only}
use Rattle.kishu_meaning.specs.cells.Meaning.{run, run_tree, unread, begun, cell, printed}
use Rattle.kishu_meaning.specs.moments.Moment.{Moment, most_steps}
use Rattle.kishu_language.specs.grammar.Parse.{Parse, Line}
use Rattle.kishu_language.specs.trees.Tree.{Text, Statement}
use Rattle.kishu_meaning.specs.values.Values.{Names, Node, Output, State, output_of}
use Rattle.kishu_lexer.specs.declared.fault.SyntaxFault.{SyntaxFault}
use Rattle.kishu_lexer.specs.declared.fault.SyntaxFault.TheVariants.{Syntax}
use Rattle.kishu_parser.specs.Statements.{FaultOf}
use Rattle.kishu_machine.specs.declared.fault.Fault.{Fault}
use Rattle.kishu_machine.specs.declared.machine.Machine.{Machine}
use Rattle.kishu_machine.specs.Machine.{Gives, GrownBy, ReadsBy, outputs_in, shown_of}

-- ---- a text and its tree

module _ (profile : Profile) (text : Text) (state : State) where
  pub run_of_tree : (tree : List Statement) → Parse profile text tree → run profile text state ≡ run_tree profile (Ok tree) state
  unfolding run
  run_of_tree tree h = ap (λ (r : Result (List Statement) ℕ). run_tree profile r state) (read_only profile text tree h)

  pub run_of_fault : (line : ℕ) → Line profile text line → run profile text state ≡ unread line state
  unfolding run
  run_of_fault line h = ap (λ (r : Result (List Statement) ℕ). run_tree profile r state) (line_only profile text line h)

-- The line of a fault that says a line.
pub line_of : (f : SyntaxFault) (line : ℕ) (P : ℕ → Type 0) → f ≡ Syntax line → FaultOf P f → P line
line_of f line P h k = subst (λ (f : SyntaxFault). FaultOf P f) h k

-- One output, behind nothing that was printed.
pub alone : (o : Output) (out : rust.Output) → output_of out ≡ o → printed (chars []) ++ outputs_in (Some out) ≡ o ∷ []
alone o out h = ap (λ cs. printed cs ++ outputs_in (Some out)) chars-nil ∙ ap (λ x. x ∷ []) h

-- ---- where a run begins

abbrev started : Profile → List Node → Names → List (List ℕ) → List ℕ → Moment
started profile nodes bound accessed out = record {
  profile = profile;
  names = bound;
  nodes = nodes;
  accessed = accessed;
  locals = None;
  handled = None;
  left = most_steps;
  depth = 0;
  out = chars out;
}

module _ (profile : Profile) (nodes nodes' : List Node) (bound bound' : Names) (accessed : List (List ℕ)) (out : List ℕ) where
  begins : nodes ≡ nodes' → bound ≡ bound' → accessed ≡ [] → out ≡ [] → started profile nodes bound accessed out ≡ begun profile (record { names = bound'; nodes = nodes' })
  begins n b a o =
      ap (λ (x : List Node). started profile x bound accessed out) n
      ∙ ap (λ (x : Names). started profile nodes' x accessed out) b
      ∙ ap (λ (x : List (List ℕ)). started profile nodes' bound' x out) a
      ∙ ap (λ (x : List ℕ). started profile nodes' bound' [] x) o
      ∙ ap (λ (x : List ℕ). record (started profile nodes' bound' [] []) { out = x }) chars-nil

  pub cell_gives : (r : Result (Option (String Global)) Fault) (m : Moment) (tree tree' : List Statement) → tree ≡ tree' → nodes ≡ nodes' → bound ≡ bound' → accessed ≡ [] → out ≡ []
      → Gives shown_of r m (cell tree (started profile nodes bound accessed out)) → Gives shown_of r m (cell tree' (begun profile (record { names = bound'; nodes = nodes' })))
  cell_gives r m tree tree' t n b a o h =
      subst (λ (x : Moment). Gives shown_of r m (cell tree' x)) (begins n b a o)
      (subst (λ (ss : List Statement). Gives shown_of r m (cell ss (started profile nodes bound accessed out))) t h)

-- A run whose heap grew by what its steps pay for took no more steps than were counted.
pub charged : (m2 m3 : Machine) (n a b c charge : ℕ) → n ≤ length m2.heap → length m2.heap + 4 * m2.budget.left ≤ n + 4 * most_steps → most_steps + a ≤ m2.budget.left + b → GrownBy 0 m2 b m3 c → charge ≡ most_steps - m3.budget.left → a + charge ≤ c
charged m2 m3 n a b c charge p q r h e = omega (arith, p, q, r, h.0, h.1, h.2, e)

pub charged_most : (m2 m3 : Machine) (n a b c charge : ℕ) → n ≤ length m2.heap → length m2.heap + 4 * m2.budget.left ≤ n + 4 * most_steps → b + 128 * m2.budget.left ≤ a + 128 * most_steps → GrownBy 0 m2 b m3 c → ReadsBy 32 m2 b m3 c → charge ≡ most_steps - m3.budget.left → c ≤ a + 128 * charge + 128
charged_most m2 m3 n a b c charge p q r h k e = omega (arith, p, q, r, h.0, h.1, k, e)
