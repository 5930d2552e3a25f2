-- Code that is read as a function.
use Rattle.std.specs.Prelude.{◌≡◌, ◌≤◌, ℕ, ◌+◌, ◌-◌, map, drop, Bool, true, false, ◌&&◌, if◌then◌else◌, List, [], ◌∷◌, length, Option, Some, None, Result, Ok, Err}
use Rattle.std.specs.Cmp.Lexicographic.{bytes_decides}
use Rattle.std.specs.Str.{IsUtf8, bytes_eq, chars}
use Rattle.std.proofs.Common.{refl, sym, ap, ◌∙◌, subst, inl, inr, arith, add-zero, length-drop}
use Rattle.std.proofs.lemmas.List.{nil_from_length}
use Rattle.std.specs.declared.alloc.Global.{Global}
use Rattle.std.specs.declared.rc.RcStr.{RcStr}
use Rattle.std.proofs.lemmas.Bool.{cases_Bool, false≢true, and_parts}
use Rattle.kishu_language.specs.Limits.{longest_text}
use Rattle.kishu_language.specs.declared.profile.Profile.{Profile}
use Rattle.kishu_language.specs.declared.tree.Def.{Def}
use Rattle.kishu_language.specs.declared.tree.Expr.{Expr}
use Rattle.kishu_language.specs.trees.StatementRows.{parameters_at}
use Rattle.kishu_language.specs.grammar.Parse.{Parse, ParseDef}
use Rattle.kishu_language.specs.reading.ReadText.{read_chars}
use Rattle.kishu_language.specs.trees.Fits.{IsCodeOf}
use Rattle.kishu_language.specs.trees.Tree.{Text, Statement, Definition, definition_of, parameter_of}
use Rattle.kishu_language.specs.trees.Tree as t
use Rattle.kishu_language_laws.specs.reading.ExactText.{read_found, read_only}
use Rattle.kishu_language_laws.specs.trees.ParsedFits.{code_of_parsed}
use Rattle.kishu_meaning.specs.values.Sound.{with_default, default_count}
use Rattle.kishu_reading.specs.FromBytes.{is_utf8, is_code, is_there, code_defaults, defaults_in, defaults_of}
use Rattle.kishu_loading.proofs.Texts.{utf8_true, utf8_false}

module _ (profile : Profile) (code : Text) where
  -- A text that parses as a function is its code, and has as many defaults.
  pub defaults_are : (d : Definition) → ParseDef profile code d → code_defaults profile code ≡ Some (default_count d)
  unfolding code_defaults
  defaults_are d h =
      ap (defaults_in code) (read_only profile code (t.define d.title d.parameters d.body code ∷ []) h)
      ∙ ap (λ b. if b then Some (with_default d.parameters) else None) ((bytes_decides code code).1 refl)

  pub is_code_of : (d : Definition) → IsUtf8 code → ParseDef profile code d → is_code profile code ≡ true
  is_code_of d u h = ap (λ b. b && is_there (code_defaults profile code)) (utf8_true code u) ∙ ap is_there (defaults_are d h)

  pub no_text : (IsUtf8 code → ⊥) → is_code profile code ≡ false
  no_text n = ap (λ b. b && is_there (code_defaults profile code)) (utf8_false code n)

  if_there : (b : Bool) (n : ℕ) → is_there (if b then Some n else None) ≡ true → b ≡ true
  if_there true n h = refl
  if_there false n h = absurd (false≢true h)

  found_as : (s : Statement) → read_chars profile (chars code) ≡ Ok (s ∷ []) → is_there (defaults_of code s) ≡ true
      → (d : Definition) × ParseDef profile code d
  found_as (t.define title ps body own) e h = (
    record { title = title; parameters = ps; body = body },
    subst (λ x. Parse profile code (t.define title ps body x ∷ []))
        ((bytes_decides own code).0 (if_there (bytes_eq own code) (with_default ps) h)) (read_found profile code (t.define title ps body own ∷ []) e),
  )
  found_as s e h = absurd (false≢true h)

  found_in : (r : Result (List Statement) ℕ) → read_chars profile (chars code) ≡ r → is_there (defaults_in code r) ≡ true
      → (d : Definition) × ParseDef profile code d
  found_in (Err line) e h = absurd (false≢true h)
  found_in (Ok []) e h = absurd (false≢true h)
  found_in (Ok (s ∷ [])) e h = found_as s e h
  found_in (Ok (s ∷ u ∷ us)) e h = absurd (false≢true h)

  -- A text that parses as no function is no code.
  pub no_code : ((d : Definition) → ParseDef profile code d → ⊥) → is_code profile code ≡ false
  unfolding code_defaults
  no_code n = elim (cases_Bool (is_code profile code)) [
    | inl y ↦ absurd (let h = found_in (read_chars profile (chars code)) refl
        (and_parts (is_utf8 code) (is_there (code_defaults profile code)) y).1 in n h.0 h.1)
    | inr f ↦ f
  ]

-- ---- defaults

module _ (n i : ℕ) (items : List (RcStr Global × Option Expr)) (all : length items ≤ i) where
  none : drop i items ≡ []
  none = nil_from_length (drop i items) (length-drop i items ∙ (let z : length items - i ≡ 0 = omega arith in z))

  -- Where all were counted, the count is that of all.
  pub counted_all : n + with_default (map parameter_of (drop i items)) ≡ with_default (map parameter_of items)
      → n ≡ with_default (map parameter_of items)
  counted_all told = sym (add-zero n) ∙ sym (ap (λ xs. n + with_default (map parameter_of xs)) none) ∙ told

pub of_parameters : (d : Def) (items : List (RcStr Global × Option Expr)) → items ≡ d.params.items
    → with_default (map parameter_of items) ≡ default_count (definition_of d)
of_parameters d items e = ap (λ xs. with_default (map parameter_of xs)) e ∙ sym (ap with_default (parameters_at d))

-- what a function's node keeps
pub kept_code : (profile : Profile) (code bytes : Text) (d e : Def) → IsUtf8 code → length code ≤ longest_text
    → ParseDef profile code (definition_of d) → bytes ≡ code → e ≡ d → ∥ IsCodeOf profile bytes (definition_of e) ∥₁
kept_code profile code bytes d e utf8 small found same this =
    ∣ subst (λ k. IsCodeOf profile bytes (definition_of k)) (sym this) (subst (λ k. IsCodeOf profile k (definition_of d)) (sym same)
    (code_of_parsed profile code (definition_of d) utf8 small found)) ∣₁
