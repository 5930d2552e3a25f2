-- The tree of a text is sound.
use Rattle.kishu_language.specs.Limits.{longest_text}
use Rattle.std.proofs.Common.{◌≡◌, ◌≤◌, ℕ, true, List, [], ◌∷◌, ◌++◌, length, refl, sym, ap, subst, ◌∙◌, arith, append_assoc}
use Rattle.std.proofs.lemmas.Str.{scalars-chars}
use Rattle.std.specs.Prelude.{Ok}
use Rattle.std.specs.Str.{IsUtf8, chars, encode_utf8_all, all_scalars}
use Rattle.kishu_language.specs.declared.profile.Profile.{Profile}
use Rattle.kishu_language.specs.tokens.PlainLines.{plain_lines}
use Rattle.kishu_language.specs.tokens.Layout.{Token}
use Rattle.kishu_language.specs.tokens.Tokens.{tokens}
use Rattle.kishu_language.specs.trees.Tree.{Text, Statement, Definition, statements}
use Rattle.kishu_language.specs.trees.Tree as t
use Rattle.kishu_language.specs.trees.Code.{is_layout, code_of}
use Rattle.kishu_language.specs.trees.Inside.{InStatements, Apart}
use Rattle.kishu_language.specs.grammar.Language.{Tokens}
use Rattle.kishu_language.specs.grammar.Parse.{plain_text, Parse}
use Rattle.kishu_language.specs.reading.ReadText.{read_chars}
use Rattle.kishu_language_laws.specs.reading.ExactText.{read_found, read_only}
use Rattle.kishu_language_laws.specs.trees.FunctionLaws.{below_top, tree_functions}
use Rattle.kishu_language_laws.specs.codes.CodeTokens.{is_rest}
use Rattle.kishu_language_laws.specs.codes.CodeDefinition.{definition_rest, definition_first}
use Rattle.kishu_language_laws.specs.codes.CodeAlone.{ByItself, by_itself}
use Rattle.kishu_language_laws.specs.codes.CodeTexts.{scalars_before, scalars_behind, plain_scalars, code_between}
use Rattle.kishu_language_laws.specs.codes.CodeLaws.{codes_read}
use Rattle.kishu_language.specs.grammar.Targets.{is_target}
use Rattle.kishu_language.specs.trees.Holds.{any_code, StatementsHold}
use Rattle.kishu_language_laws.specs.trees.Placed.{PlaceHolds}
use Rattle.kishu_language_laws.specs.trees.FitLaws.{coded_statements}
use Rattle.kishu_language_laws.specs.trees.KnownStatements.{all_told, programs}
use Rattle.kishu_state_laws.specs.trees.Sound.{any_test, ExpressionSound, StatementsSound, NumberSound, TextSound, CodeSound, CodedSound}
use Rattle.kishu_state_laws.specs.trees.Tokens.{sound, tokens_sound}

-- ---- the code of a function is a part of the text's plain lines

part_scalars : (cs front code back : List ℕ) → cs ≡ front ++ (code ++ back) → all_scalars cs ≡ true → all_scalars code ≡ true
part_scalars cs front code back whole h = scalars_before code back (scalars_behind front (code ++ back) (sym (ap all_scalars whole) ∙ h))

module _ (profile : Profile) (text : Text) (utf8 : IsUtf8 text) where
  alone : (ts : Tokens) (d : Statement) (a : Apart below_top (plain_text text) ts d) → tokens profile text ≡ Ok ts → ByItself (plain_lines (chars text)) a.own
  alone ts d a h =
      let f = definition_first (plain_text text) below_top a.own [] a.function a.spelled in
      let rest : is_rest (f.0 ∷ f.1) [] 0 ≡ true = sym (ap (λ (v : Tokens). is_rest v [] 0) f.2) ∙ definition_rest (plain_text text) below_top a.own a.function a.spelled in
      let whole : ts ≡ a.before ++ (f.0 ∷ (f.1 ++ a.after)) = a.whole ∙ append_assoc a.before a.own a.after ∙ ap (λ (v : Tokens). a.before ++ (v ++ a.after)) f.2 in
      subst (λ (v : Tokens). ByItself (plain_lines (chars text)) v) (sym f.2)
      (by_itself (plain_lines (chars text)) f.0 f.1 a.after (ap is_layout f.3) rest ts a.before h whole)

  cut_utf8 : (own : List Token) → ByItself (plain_lines (chars text)) own → IsUtf8 (code_of (plain_text text) own)
  cut_utf8 own b =
      let scalars = part_scalars (plain_lines (chars text)) b.front b.code b.back b.whole (plain_scalars (chars text) (scalars-chars text utf8)) in
      let cut : code_of (plain_text text) own ≡ encode_utf8_all b.code = ap (λ (v : List ℕ). code_of (encode_utf8_all v) own) b.whole ∙ code_between b.front b.code b.back own b.first b.last in
      (b.code, (scalars, sym cut))

  abbrev code_in : Text → Statement → Text
  code_in other (t.define x ps body code) = code
  code_in other _ = other

  code_utf8 : (tree : List Statement) → Parse profile text tree → (d : Definition) (code : Text) → InStatements (t.define d.title d.parameters d.body code) (statements tree) → IsUtf8 code
  code_utf8 tree h d code inside =
      let s = t.define d.title d.parameters d.body code in
      let a = tree_functions profile text tree h s inside in
      subst (λ (v : Text). IsUtf8 v) (sym (ap (code_in code) a.cut)) (cut_utf8 a.own (alone h.0 s a h.1))

-- ---- the tree

module _ (profile : Profile) (text : Text) (utf8 : IsUtf8 text) (small : length text ≤ longest_text) where
  code_sound : (tree : List Statement) → Parse profile text tree → (d : Definition) (code : Text) → InStatements (t.define d.title d.parameters d.body code) (statements tree) → CodeSound code d.parameters
  code_sound tree h d code inside =
      let r = codes_read profile text utf8 tree h d code inside in
      let fits : length code ≤ longest_text = omega (arith, r.1, small) in
      let utf = code_utf8 profile text utf8 tree h d code inside in
      λ other. record {
        utf8 = utf;
        short = fits;
        function = d;
        reads = read_only other code (t.define d.title d.parameters d.body code ∷ []) r.0;
        filled = refl;
      }

  parsed_told : (tree : List Statement) → Parse profile text tree → StatementsHold NumberSound TextSound is_target (PlaceHolds NumberSound TextSound) any_code (statements tree)
  parsed_told tree h = all_told sound tree ((programs sound (plain_text text)).leads h.0 [] tree (tokens_sound profile text h.0 (scalars-chars text utf8) h.1) h.2).1

  -- The tree that is read of a text is sound.
  pub tree_sound : (tree : List Statement) → read_chars profile (chars text) ≡ Ok tree → StatementsSound (statements tree)
  tree_sound tree e =
      let h = read_found profile text tree e in
      coded_statements NumberSound TextSound any_test ExpressionSound CodedSound (λ e k. refl) (λ e k. k.0) (statements tree) (parsed_told tree h) (code_sound tree h)
