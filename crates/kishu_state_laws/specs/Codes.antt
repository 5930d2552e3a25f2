-- A text that reads as a function, as the code's types tell it, is that function's code.
use Rattle.std.specs.Prelude.{◌≡◌, ℕ, ◌≤◌, Bool, true, false, if◌then◌else◌, List, [], ◌∷◌, length, Ok, Err, Result}
use Rattle.std.specs.Coded.{Coded-set, coded_list, coded_ℕ}
use Rattle.std.specs.Cmp.Lexicographic.{bytes_decides}
use Rattle.std.specs.Str.{IsUtf8, bytes_eq, chars}
use Rattle.std.proofs.Common.{refl, sym, ap, ◌∙◌}
use Rattle.std.proofs.Math.Logic.{∥∥₁_elim}
use Rattle.kishu_language.specs.Limits.{longest_text}
use Rattle.kishu_language.specs.declared.profile.Profile.{Profile}
use Rattle.kishu_language.specs.trees.Tree.{Text, Statement, Definition}
use Rattle.kishu_language.specs.trees.Tree as t
use Rattle.kishu_language.specs.reading.ReadText.{read_chars, ReadsDef}
use Rattle.kishu_meaning.specs.values.Sound.{with_default, default_count}
use Rattle.kishu_objects.specs.State.{IsCode}

-- the number of defaults of the function that a text is alone, and none otherwise
defaults_of : Text → Statement → List ℕ
defaults_of code (t.define x ps body own) = if bytes_eq own code then with_default ps ∷ [] else []
defaults_of code _ = []

pub defaults_alone : Text → Result (List Statement) ℕ → List ℕ
defaults_alone code (Ok (s ∷ [])) = defaults_of code s
defaults_alone code _ = []

pub told : (profile : Profile) (code : Text) (d : Definition) → ReadsDef profile code d → defaults_alone code (read_chars profile (chars code)) ≡ default_count d ∷ []
unfolding defaults_of defaults_alone
told profile code d h = ap (defaults_alone code) h ∙ ap (λ b. if b then default_count d ∷ [] else []) ((bytes_decides code code).1 refl)

-- what such a text reads as
record Alone (code : Text) (n : ℕ) (r : Result (List Statement) ℕ) : Type 0 where
  function : Definition
  is : r ≡ Ok (t.define function.title function.parameters function.body code ∷ [])
  many : n ≡ default_count function

pub head_is : {a b : ℕ} → a ∷ [] ≡ b ∷ [] → a ≡ b
head_is e = cc

alone_if : (code : Text) (n : ℕ) (d : Definition) (own : Text) (b : Bool) → bytes_eq own code ≡ b → (if b then default_count d ∷ [] else []) ≡ n ∷ [] → Alone code n (Ok (t.define d.title d.parameters d.body own ∷ []))
alone_if code n d own true e h = record { function = d; is = ap (λ c. Ok (t.define d.title d.parameters d.body c ∷ [])) ((bytes_decides own code).0 e); many = sym (head_is h) }
alone_if code n d own false e h = absurd cc

alone_of : (code : Text) (n : ℕ) (s : Statement) → defaults_of code s ≡ n ∷ [] → Alone code n (Ok (s ∷ []))
unfolding defaults_of
alone_of code n (t.define x ps body own) h = alone_if code n (record { title = x; parameters = ps; body = body }) own (bytes_eq own code) refl h
alone_of code n t.pass h = absurd cc
alone_of code n t.break h = absurd cc
alone_of code n t.continue h = absurd cc
alone_of code n (t.return e) h = absurd cc
alone_of code n (t.raise e) h = absurd cc
alone_of code n (t.assert e message) h = absurd cc
alone_of code n (t.delete es) h = absurd cc
alone_of code n (t.global xs) h = absurd cc
alone_of code n (t.import x) h = absurd cc
alone_of code n (t.update e operator operand) h = absurd cc
alone_of code n (t.assign es e) h = absurd cc
alone_of code n (t.choose as' other) h = absurd cc
alone_of code n (t.while e body) h = absurd cc
alone_of code n (t.for e walked body) h = absurd cc
alone_of code n (t.try body hs other last) h = absurd cc
alone_of code n (t.finally body last) h = absurd cc

found : (code : Text) (n : ℕ) (r : Result (List Statement) ℕ) → defaults_alone code r ≡ n ∷ [] → Alone code n r
unfolding defaults_alone
found code n (Ok []) h = absurd cc
found code n (Ok (s ∷ [])) h = alone_of code n s h
found code n (Ok (s ∷ (u ∷ ss))) h = absurd cc
found code n (Err line) h = absurd cc

-- A text that reads as a function, of which only that much is known, is its code, with as many defaults as the function has.
pub code_of_read : (profile : Profile) (code : Text) (d : Definition) (n : ℕ) → IsUtf8 code → length code ≤ longest_text → ∥ ReadsDef profile code d ∥₁ → n ≡ default_count d → IsCode profile code n
code_of_read profile code d n utf8 short h e =
    let count : defaults_alone code (read_chars profile (chars code)) ≡ default_count d ∷ [] = ∥∥₁_elim h (Coded-set (coded_list coded_ℕ) _ _) (told profile code d) in
    let a = found code (default_count d) (read_chars profile (chars code)) count in
    record { utf8 = utf8; short = short; function = a.function; reads = a.is; filled = e ∙ a.many }
