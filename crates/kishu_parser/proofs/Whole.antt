-- The trees of texts.
use Rattle.std.specs.Prelude.{◌≡◌, ℕ, Bool, true, false, not, List, [], length, Result, Ok}
use Rattle.std.specs.Str.{chars, bytes_eq}
use Rattle.std.proofs.lemmas.Slice.Eq.{bytes_eq-Decides}
use Rattle.std.proofs.Common.{refl, sym, ap, ◌∙◌, inl}
use Rattle.kishu_language.specs.declared.profile.Profile.{Profile}
use Rattle.kishu_language.specs.trees.Tree.{Text, Statement, Definition}
use Rattle.kishu_language.specs.trees.Tree as t
use Rattle.kishu_language.specs.grammar.Language.{Tokens}
use Rattle.kishu_language.specs.tokens.Tokens.{tokens}
use Rattle.kishu_language.specs.grammar.Parse.{plain_text, Parse, Line, LineDef}
use Rattle.kishu_language.specs.reading.ReadText.{pieces, tree_in, read_chars}
use Rattle.kishu_language_laws.specs.reading.ExactText.{line_found, no_line}
use Rattle.kishu_lexer.specs.declared.fault.SyntaxFault.{SyntaxFault}
use Rattle.kishu_lexer.specs.declared.fault.SyntaxFault.TheVariants as fault
use Rattle.kishu_parser.specs.Statements.{defined, FailsOn, FaultOf}

-- ---- a function and its code

abbrev code_in : Text → Statement → Text
code_in text (t.define x ps body code) = code
code_in text _ = text

abbrev function_in : Definition → Statement → Definition
function_in d (t.define x ps body code) = record { title = x; parameters = ps; body = body }
function_in d _ = d

pub same_code : (d e : Definition) (code text : Text) → defined d code ≡ defined e text → code ≡ text
same_code d e code text h = ap (code_in text) h

pub one_function : {text : Text} (d e : Definition) → defined d text ≡ defined e text → d ≡ e
one_function d e h = ap (function_in d) h

pub differs : (x code text : Text) (b : Bool) → x ≡ code → b ≡ not (bytes_eq x text) → b ≡ true → code ≡ text → ⊥
differs x code text b same is e h = let clash : true ≡ false = sym e ∙ is ∙ ap not ((bytes_eq-Decides x text).1 (same ∙ h)) in cc

pub equal : (x code text : Text) (b : Bool) → x ≡ code → b ≡ not (bytes_eq x text) → b ≡ false → code ≡ text
equal x code text b same is e = sym same ∙ by (bytes_eq x text) refl
  where
    by : (k : Bool) → bytes_eq x text ≡ k → x ≡ text
    by true h = (bytes_eq-Decides x text).0 h
    by false h = let clash : false ≡ true = sym e ∙ is ∙ ap not h in cc

-- ---- a text's tree

module _ (profile : Profile) (text source : Text) (ts : Tokens) (whole : source ≡ plain_text text) (read : tokens profile text ≡ Ok ts) where
  read_is : {x : Result (List Statement) ℕ} → pieces source (length ts) [] ts ≡ x → read_chars profile (chars text) ≡ x
  unfolding read_chars
  read_is e = ap (tree_in (plain_text text)) read ∙ ap (λ s. pieces s (length ts) [] ts) (sym whole) ∙ e

  pub fault_of : (e : SyntaxFault) → FailsOn (pieces source (length ts) [] ts) e → FaultOf (Line profile text) e
  fault_of (fault.Syntax line) h = line_found profile text line (read_is h)
  fault_of fault.NoMemory h = tt

-- A text with a tree has no fault.
pub no_fault : (profile : Profile) (text : Text) (tree : List Statement) (e : SyntaxFault) → FaultOf (Line profile text) e → Parse profile text tree → e ≡ fault.NoMemory
no_fault profile text tree (fault.Syntax line) h is = absurd (no_line profile text tree line is h)
no_fault profile text tree fault.NoMemory h is = refl

-- What has no tree is no function's code.
pub fault_besides : (profile : Profile) (text : Text) (e : SyntaxFault) → FaultOf (Line profile text) e → FaultOf (LineDef profile text) e
fault_besides profile text (fault.Syntax line) h = inl h
fault_besides profile text fault.NoMemory h = tt
