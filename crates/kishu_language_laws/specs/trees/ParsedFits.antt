-- The tree of a text fits: its names are names, and the code of each function in it reads as that function.
use Rattle.kishu_language.specs.Limits.{longest_text}
use Rattle.std.specs.Prelude.{◌≤◌, List, [], ◌∷◌, length}
use Rattle.std.specs.Str.{IsUtf8}
use Rattle.std.proofs.Common.{arith}
use Rattle.kishu_language.specs.declared.profile.Profile.{Profile}
use Rattle.kishu_language.specs.trees.Tree.{Text, Statement, Definition, statements}
use Rattle.kishu_language.specs.grammar.Parse.{plain_text, Parse, ParseDef}
use Rattle.kishu_language.specs.trees.Fits.{CodeFits, ExpressionFits, StatementsFit, IsCodeOf}
use Rattle.kishu_language.specs.trees.Tree as t
use Rattle.kishu_language_laws.specs.reading.ExactText.{read_only}
use Rattle.kishu_language_laws.specs.trees.HeightLaws.{tree_height}
use Rattle.kishu_language.specs.grammar.Targets.{is_target}
use Rattle.kishu_language.specs.trees.Holds.{any}
use Rattle.kishu_language_laws.specs.trees.Placed.{StatementsPlaced}
use Rattle.kishu_language_laws.specs.trees.FitLaws.{coded_statements}
use Rattle.kishu_language.specs.trees.FunctionCodes.{CodesRead}
use Rattle.kishu_language_laws.specs.codes.CodeLaws.{codes_read}
use Rattle.kishu_language_laws.specs.trees.NamedTokens.{names, tokens_named}
use Rattle.kishu_language_laws.specs.trees.KnownStatements.{all_told, programs}

-- The names in the tree of a text are names, its places are places and its targets targets.
pub parsed_places : (profile : Profile) (text : Text) (tree : List Statement) → Parse profile text tree → StatementsPlaced (statements tree)
parsed_places profile text tree h = all_told names tree ((programs names (plain_text text)).leads h.0 [] tree (tokens_named profile text h.0 h.1) h.2).1

code_fits : (profile : Profile) (code : Text) (d : Definition) → length code ≤ longest_text → ParseDef profile code d → CodeFits code d
code_fits profile code d small h = (small, λ other. ∣ read_only other code (t.define d.title d.parameters d.body code ∷ []) h ∣₁)

-- With codes that read, it fits.
pub tree_fits : (profile : Profile) (text : Text) (tree : List Statement) → length text ≤ longest_text → Parse profile text tree → CodesRead profile text tree → StatementsFit (statements tree)
tree_fits profile text tree small h read = coded_statements any any is_target ExpressionFits CodeFits (λ e k. k) (λ e k. k.0) (statements tree) (parsed_places profile text tree h)
    (λ d code inside. (let r = read d code inside in code_fits profile code d (omega (arith, r.1, small)) r.0))

-- The tree of a text of at most 1 MiB fits.
pub text_fits : (profile : Profile) (text : Text) → IsUtf8 text → length text ≤ longest_text → (tree : List Statement) → Parse profile text tree → StatementsFit (statements tree)
text_fits profile text utf8 small tree h = tree_fits profile text tree small h (codes_read profile text utf8 tree h)

-- The code of a function, by the relation of text and tree, is one by the reading.
pub code_of_parsed : (profile : Profile) (code : Text) (d : Definition) → IsUtf8 code → length code ≤ longest_text → ParseDef profile code d → IsCodeOf profile code d
code_of_parsed profile code d utf8 small h =
    let fit = text_fits profile code utf8 small (t.define d.title d.parameters d.body code ∷ []) h in
    record {
      reads = read_only profile code (t.define d.title d.parameters d.body code ∷ []) h;
      name = fit.0.0;
      fits = (fit.0.1, fit.0.2);
      low = (let k = tree_height profile code (t.define d.title d.parameters d.body code ∷ []) h in omega (arith, k));
    }
