-- What a call answers, by the rules alone.
use Rattle.std.proofs.Common.{◌≡◌, ℕ, List}
use Rattle.std.specs.Prelude.{Result, Ok, Err, IfOk, MatchResult}
use Rattle.kishu_language.specs.declared.token.Token as rust
use Rattle.kishu_language.specs.tokens.Layout.{Token, layout}
use Rattle.kishu_language.specs.rules.TokenRules.{ByRules, AllWritten}
use Rattle.kishu_token_laws.specs.TokenLaws.{to_rules, from_rules}
use Rattle.kishu_token_laws.specs.TokenPlaces.{all_written}
use Rattle.kishu_lexer.specs.declared.fault.SyntaxFault.{SyntaxFault}
use Rattle.kishu_lexer.specs.declared.fault.SyntaxFault.TheVariants as fault
use Rattle.kishu_lexer.specs.Machine.{Answers, tokens_of}
use Rattle.kishu_lexer.proofs.Rules.{by_rules}
use Rattle.kishu_lexer.proofs.Complete.{by_reading}

-- the tokens are those of the rules
pub rules_alone : {Z : Type 0} (cs chars : List ℕ) (r : Result Z SyntaxFault) (items : Z → List rust.Token) → cs ≡ chars → Answers (layout cs) r items → IfOk r (λ v. ByRules chars (tokens_of (items v)))
rules_alone cs chars (Ok v) items e h = to_rules chars (tokens_of (items v)) (by_reading cs chars (Ok v) items e h)
rules_alone cs chars (Err l) items e h = tt

-- each stands at the places of its piece
pub written_alone : {Z : Type 0} (cs chars : List ℕ) (r : Result Z SyntaxFault) (items : Z → List rust.Token) → cs ≡ chars → Answers (layout cs) r items → IfOk r (λ v. AllWritten chars (tokens_of (items v)))
written_alone cs chars (Ok v) items e h = all_written chars (tokens_of (items v)) (to_rules chars (tokens_of (items v)) (by_reading cs chars (Ok v) items e h))
written_alone cs chars (Err l) items e h = tt

-- the rules give a text no others, and no fault is answered where they give some
pub only_alone : {Z : Type 0} (cs chars : List ℕ) (ts : List Token) (r : Result Z SyntaxFault) (items : Z → List rust.Token) → cs ≡ chars → Answers (layout cs) r items → ByRules chars ts
    → MatchResult r (λ v. tokens_of (items v) ≡ ts) (λ e. e ≡ fault.NoMemory)
only_alone cs chars ts r items e h t = by_rules cs chars ts r items e h (from_rules chars ts t)
