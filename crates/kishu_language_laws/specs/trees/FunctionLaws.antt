-- Each function of a text is spelled by tokens of its own, and by themselves they are that function, with the code that it has in the text.
use Rattle.std.specs.Prelude.{◌≡◌, Ok, ◌-◌, ℕ, suc, List, [], ◌∷◌}
use Rattle.std.proofs.Common.{refl, sym, subst, arith, inr}
use Rattle.std.proofs.lemmas.List.{append-nil}
use Rattle.kishu_language.specs.declared.profile.Profile.{Profile}
use Rattle.kishu_language.specs.trees.Tree.{Text, Statement, Definition, statements}
use Rattle.kishu_language.specs.trees.Tree as t
use Rattle.kishu_language.specs.grammar.Language.{Tokens, done, more}
use Rattle.kishu_language.specs.grammar.Grammar.{deepest}
use Rattle.kishu_language.specs.grammar.Refusals.{top}
use Rattle.kishu_language.specs.trees.Code.{code_of}
use Rattle.kishu_language.specs.grammar.Statements as s
use Rattle.kishu_language.specs.grammar.Parse.{plain_text, Parse, ParseDef}
use Rattle.kishu_language.specs.tokens.Tokens.{tokens}
use Rattle.kishu_language_laws.specs.staying.Carries.{same_kind, kinds_of, all_of_kind, likewise}
use Rattle.kishu_language_laws.specs.staying.CarriesStatements.{definitions}
use Rattle.kishu_language.specs.trees.Inside.{InStatements, Apart}
use Rattle.kishu_language_laws.specs.trees.InsideStatements.{all_held, program_held}

-- how deep what stands in a statement at the top may be
abbrev pub below_top : ℕ
below_top = deepest - 1

pub program_functions : (source : Text) (ts us : Tokens) (ss : List Statement) → s.program source ts us ss → (d : Statement) → InStatements d (statements ss) → Apart below_top source ts d
program_functions source ts us ss h = all_held source below_top ts ss ((program_held source below_top ts (omega arith)).leads ts us ss ([], refl) h).1

pub tree_functions : (profile : Profile) (text : Text) (tree : List Statement) → (h : Parse profile text tree) → (d : Statement) → InStatements d (statements tree) → Apart below_top (plain_text text) h.0 d
tree_functions profile text tree h = program_functions (plain_text text) h.0 [] tree h.2

-- The tokens of a function are a statement at the top.
pub define_at_top : (source : Text) (k : ℕ) (ts : Tokens) (d : Definition) → s.definition source k (s.chunk source k) ts [] d
    → s.chunk source (suc k) top ts [] (t.define d.title d.parameters d.body (code_of source ts) ∷ [])
unfolding s.chunk s.compound s.define
define_at_top source k ts d h = inr ([], _, inr (inr (inr (inr (ts, tt, (refl, refl), ([], (d, ts), (h, sym (append-nil ts)), (refl, refl)))))), (refl, refl))

one_statement : (source : Text) (ts : Tokens) (d : Statement) → s.chunk source deepest top ts [] (d ∷ []) → s.program source ts [] (d ∷ [])
unfolding s.program
one_statement source ts d h = ([], (d ∷ []) ∷ [], more ([], d ∷ [], h, (refl, refl)) done, (refl, refl))

-- ---- in another text

-- Only the kinds of its tokens count.
pub definition_by_kinds : (source source' : Text) (k : ℕ) (ts us : Tokens) (d : Definition) → kinds_of ts ≡ kinds_of us → s.definition source k (s.chunk source k) ts [] d → s.definition source' k (s.chunk source' k) us [] d
definition_by_kinds source source' k ts us d e h =
    subst (λ (v : Tokens). s.definition source' k (s.chunk source' k) v [] d) (append-nil us)
    (likewise (definitions same_kind source source' k k (omega arith)) ts us [] [] d (all_of_kind ts us e) (subst (λ (v : Tokens). s.definition source k (s.chunk source k) v [] d) (sym (append-nil ts)) h))

-- A text whose tokens are of the kinds of a function's, and are its whole code, is that function.
pub function_by_kinds : (profile : Profile) (source : Text) (all : Tokens) (d : Statement) (a : Apart below_top source all d) (code : Text) (us : Tokens)
    → tokens profile code ≡ Ok us → kinds_of a.own ≡ kinds_of us → code_of (plain_text code) us ≡ code → ParseDef profile code a.function
function_by_kinds profile source all d a code us read e whole =
    let f = a.function in
    let alone = define_at_top (plain_text code) below_top us f (definition_by_kinds source (plain_text code) below_top a.own us f e a.spelled) in
    (us, read, subst (λ c. s.program (plain_text code) us [] (t.define f.title f.parameters f.body c ∷ [])) whole (one_statement (plain_text code) us _ alone))
