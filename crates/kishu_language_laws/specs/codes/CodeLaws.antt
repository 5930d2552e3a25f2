-- The code of each function of a text, taken by itself, reads as that function.
use Rattle.std.proofs.Common.{◌≡◌, ◌≤◌, ℕ, true, List, [], ◌∷◌, ◌++◌, length, refl, sym, ap, subst, ◌∙◌, arith, append_assoc}
use Rattle.std.proofs.lemmas.Str.{chars-encodes, encodes-chars, scalars-chars}
use Rattle.std.specs.Prelude.{Ok}
use Rattle.std.specs.Str.{IsUtf8, chars, encode_utf8_all, all_scalars}
use Rattle.kishu_language.specs.declared.profile.Profile.{Profile}
use Rattle.kishu_language.specs.tokens.PlainLines.{plain_lines}
use Rattle.kishu_language.specs.tokens.Layout.{Token, width, layout}
use Rattle.kishu_language.specs.tokens.Tokens.{tokens}
use Rattle.kishu_language.specs.trees.Tree.{Text, Statement, Definition, statements}
use Rattle.kishu_language.specs.trees.Tree as t
use Rattle.kishu_language.specs.grammar.Language.{Tokens}
use Rattle.kishu_language.specs.trees.Code.{is_layout, code_of}
use Rattle.kishu_language.specs.grammar.Parse.{plain_text, Parse, ParseDef}
use Rattle.kishu_language.specs.trees.Inside.{InStatements, Apart}
use Rattle.kishu_language_laws.specs.trees.FunctionLaws.{below_top, tree_functions, function_by_kinds}
use Rattle.kishu_language.specs.trees.FunctionCodes.{CodesRead}
use Rattle.kishu_language_laws.specs.codes.CodeTokens.{is_rest}
use Rattle.kishu_language_laws.specs.codes.CodeDefinition.{definition_rest, definition_first}
use Rattle.kishu_language_laws.specs.codes.CodeAlone.{ByItself, by_itself}
use Rattle.kishu_language_laws.specs.codes.CodeTexts.{scalars_before, scalars_behind, plain_scalars, has_none, plain_none, none_before, none_behind, plain_already, bytes_width, width_parts, plain_narrow, code_between, code_whole}

-- a function of a text, as its code alone reads
record FunctionRead (profile : Profile) (text : Text) (d : Statement) : Type 0 where
  function : Definition
  code : Text
  is : d ≡ t.define function.title function.parameters function.body code
  reads : ParseDef profile code function
  small : length code ≤ length text

-- the tokens of text by its characters
tokens_are : (profile : Profile) (text : Text) → tokens profile text ≡ layout (plain_lines (chars text))
tokens_are profile text = refl

-- ---- a part of a text with plain line ends

module _ (cs front code back : List ℕ) (whole : cs ≡ front ++ (code ++ back)) where
  part_scalars : all_scalars cs ≡ true → all_scalars code ≡ true
  part_scalars h = scalars_before code back (scalars_behind front (code ++ back) (sym (ap all_scalars whole) ∙ h))

  part_plain : has_none cs ≡ true → has_none code ≡ true
  part_plain h = none_before code back (none_behind front (code ++ back) (sym (ap has_none whole) ∙ h))

  part_narrow : width code ≤ width cs
  part_narrow = omega (arith, ap width whole, width_parts front (code ++ back), width_parts code back)

-- ---- a function

module _ (profile : Profile) (text : Text) (utf8 : IsUtf8 text) where
  record Parted (own : List Token) (own_code : List ℕ) : Type 0 where
    scalars : all_scalars own_code ≡ true
    plain : has_none own_code ≡ true
    cut : code_of (plain_text text) own ≡ encode_utf8_all own_code
    small : length (encode_utf8_all own_code) ≤ length text

  parted : (own : List Token) (b : ByItself (plain_lines (chars text)) own) → Parted own b.code
  parted own b = record {
    scalars = part_scalars (plain_lines (chars text)) b.front b.code b.back b.whole (plain_scalars (chars text) (scalars-chars text utf8));
    plain = part_plain (plain_lines (chars text)) b.front b.code b.back b.whole (plain_none (chars text));
    cut = ap (λ (v : List ℕ). code_of (encode_utf8_all v) own) b.whole ∙ code_between b.front b.code b.back own b.first b.last;
    small = omega (arith, bytes_width b.code, part_narrow (plain_lines (chars text)) b.front b.code b.back b.whole, plain_narrow (chars text), bytes_width (chars text), ap length (encodes-chars text utf8));
  }

  -- its characters are those of the code, and its line ends are plain
  module _ (code : List ℕ) (scalars : all_scalars code ≡ true) (plain : has_none code ≡ true) where
    same_chars : plain_lines (chars (encode_utf8_all code)) ≡ code
    same_chars = ap plain_lines (chars-encodes code scalars) ∙ plain_already code plain

    code_tokens : (us : Tokens) → layout code ≡ Ok us → tokens profile (encode_utf8_all code) ≡ Ok us
    code_tokens us h = tokens_are profile (encode_utf8_all code) ∙ ap layout same_chars ∙ h

    code_is_whole : (us : Tokens) (b : code_of (encode_utf8_all code) us ≡ encode_utf8_all code) → code_of (plain_text (encode_utf8_all code)) us ≡ encode_utf8_all code
    code_is_whole us b = ap (λ (v : List ℕ). code_of (encode_utf8_all v) us) same_chars ∙ b

  -- by the function's tokens
  read_by : (ts : Tokens) (d : Statement) (a : Apart below_top (plain_text text) ts d) → ByItself (plain_lines (chars text)) a.own → FunctionRead profile text d
  read_by ts d a b =
      let p = parted a.own b in
      let code = encode_utf8_all b.code in
      record {
        function = a.function;
        code = code;
        is = a.cut ∙ ap (λ (v : Text). t.define a.function.title a.function.parameters a.function.body v) p.cut;
        reads = function_by_kinds profile (plain_text text) ts d a code b.tokens (code_tokens b.code p.scalars p.plain b.tokens b.read) b.kinds
            (code_is_whole b.code p.scalars p.plain b.tokens (code_whole b.code b.tokens b.code_first b.code_last));
        small = p.small;
      }

  -- its tokens by themselves
  alone : (ts : Tokens) (d : Statement) (a : Apart below_top (plain_text text) ts d) → tokens profile text ≡ Ok ts → ByItself (plain_lines (chars text)) a.own
  alone ts d a h =
      let f = definition_first (plain_text text) below_top a.own [] a.function a.spelled in
      let rest : is_rest (f.0 ∷ f.1) [] 0 ≡ true = sym (ap (λ (v : Tokens). is_rest v [] 0) f.2) ∙ definition_rest (plain_text text) below_top a.own a.function a.spelled in
      let whole : ts ≡ a.before ++ (f.0 ∷ (f.1 ++ a.after)) = a.whole ∙ append_assoc a.before a.own a.after ∙ ap (λ (v : Tokens). a.before ++ (v ++ a.after)) f.2 in
      subst (λ (v : Tokens). ByItself (plain_lines (chars text)) v) (sym f.2)
      (by_itself (plain_lines (chars text)) f.0 f.1 a.after (ap is_layout f.3) rest ts a.before (sym (tokens_are profile text) ∙ h) whole)

-- Where a text has a tree, each function in it is what its code reads as.
functions_read : (profile : Profile) (text : Text) → IsUtf8 text → (tree : List Statement) → Parse profile text tree → (d : Statement) → InStatements d (statements tree) → FunctionRead profile text d
functions_read profile text utf8 tree h d inside =
    let a = tree_functions profile text tree h d inside in
    read_by profile text utf8 h.0 d a (alone profile text utf8 h.0 d a h.1)

abbrev code_in : Text → Statement → Text
code_in other (t.define x ps body code) = code
code_in other _ = other

abbrev function_in : Definition → Statement → Definition
function_in other (t.define x ps body code) = record { title = x; parameters = ps; body = body }
function_in other _ = other

pub codes_read : (profile : Profile) (text : Text) → IsUtf8 text → (tree : List Statement) → Parse profile text tree → CodesRead profile text tree
codes_read profile text utf8 tree h d code inside =
    let r = functions_read profile text utf8 tree h (t.define d.title d.parameters d.body code) inside in
    let same : r.function ≡ d = sym (ap (function_in d) r.is) in
    let code_is : r.code ≡ code = sym (ap (code_in code) r.is) in
    (subst (λ (v : Text). ParseDef profile v d) code_is (subst (λ (f : Definition). ParseDef profile r.code f) same r.reads), subst (λ (v : Text). length v ≤ length text) code_is r.small)
