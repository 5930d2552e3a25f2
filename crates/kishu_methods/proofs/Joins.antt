-- Texts that are joined.
use Rattle.std.proofs.Common.{◌≡◌, ◌∙◌, ◌-◌, ap, sym, refl, arith, ℕ, List, [], ◌∷◌, ◌++◌, length, Option, Some, None, option_map, flat_map, append_assoc, length-append, Result, Ok, Err, OnOk, is_ok, if◌then◌else◌, map, subst}
use Rattle.std.specs.Prelude.{IsTrue}
use Rattle.std.specs.Str.{chars, IsUtf8}
use Rattle.std.specs.String.{string_bytes}
use Rattle.std.specs.declared.alloc.Global.{Global}
use Rattle.std.specs.declared.string.String.{String}
use Rattle.std.proofs.lemmas.List.{map_push}
use Rattle.std.proofs.lemmas.Str.{chars-append}
use Rattle.kishu_meaning.specs.declared.value.Value as rust_value
use Rattle.kishu_meaning.specs.values.Values.{Value, text, value_of}
use Rattle.kishu_meaning.specs.values.Sound.{are_sound}
use Rattle.kishu_meaning.specs.calls.Methods.{texts_in}
use Rattle.kishu_meaning.specs.values.Texts.{joined, code_points}
use Rattle.std.specs.declared.rc.RcStr.{RcStr}
use Rattle.kishu_methods.specs.TextValues.{text_in, texts_of}

grown : (ts : List (List ℕ)) (cs : List ℕ) (o : Option (List (List ℕ)))
    → option_map (λ (more : List (List ℕ)). (ts ++ cs ∷ []) ++ more) o ≡ option_map (λ (more : List (List ℕ)). ts ++ more) (option_map (λ (parts : List (List ℕ)). cs ∷ parts) o)
grown ts cs None = refl
grown ts cs (Some more) = ap Some (append_assoc ts (cs ∷ []) more)

-- one more value that is a text
pub texts_more : (ts : List (List ℕ)) (cs : List ℕ) (v : Value) (vs : List Value) → v ≡ text cs
    → option_map (λ (more : List (List ℕ)). (ts ++ cs ∷ []) ++ more) (texts_in vs) ≡ option_map (λ (more : List (List ℕ)). ts ++ more) (texts_in (v ∷ vs))
texts_more ts cs v vs e = grown ts cs (texts_in vs) ∙ ap (λ (w : Value). option_map (λ (more : List (List ℕ)). ts ++ more) (texts_in (w ∷ vs))) (sym e)

-- one that is none
pub no_texts : (ts : List (List ℕ)) (v : Value) (vs : List Value) → text_in v ≡ None → option_map (λ (more : List (List ℕ)). ts ++ more) (texts_in (v ∷ vs)) ≡ None
no_texts ts (text cs) vs e = absurd (cc e)
no_texts ts v vs e = refl

-- each of the texts has the other one before it, but the first
pub length-joined_by : (by : List ℕ) (ts : List (List ℕ)) → length (flat_map (λ (next : List ℕ). by ++ next) ts) - length by ≡ length (joined by ts)
length-joined_by by [] = omega arith
length-joined_by by (t ∷ ts) =
    let rest = flat_map (λ (next : List ℕ). by ++ next) ts in
    omega (arith, length-append (by ++ t) rest, length-append by t, length-append t rest)

pub pushed_text : {T E : Type 0} (r : Result T E) (new old more : List ℕ) → IsUtf8 old → new ≡ (if is_ok r then old ++ more else old) → OnOk r (chars new ≡ chars old ++ chars more)
pushed_text (Ok x) new old more v e = ap chars e ∙ chars-append old more v
pushed_text (Err x) new old more v e = tt

pub nothing_left : {X : Type 0} (l : List X) → length l ≡ 0 → l ≡ []
nothing_left [] h = refl
nothing_left (x ∷ xs) h = absurd (omega arith)

-- the first of the texts that are left is put behind the values
pub text_pushed : (old new : List rust_value.Value) (x : String Global) (v : rust_value.Value) (its rest : List (String Global)) (all : List Value)
    → new ≡ old ++ v ∷ [] → value_of v ≡ text (chars (string_bytes x)) → its ≡ x ∷ rest
    → map value_of old ++ map text (code_points its) ≡ all → map value_of new ++ map text (code_points rest) ≡ all
text_pushed old new x v its rest all e ev eits h =
    let more = map text (code_points rest) in
    ap (λ l. map value_of l ++ more) e ∙ ap (λ l. l ++ more) (map_push value_of old v) ∙ append_assoc (map value_of old) (value_of v ∷ []) more
    ∙ ap (λ w. map value_of old ++ w ∷ more) ev ∙ sym (ap (λ l. map value_of old ++ map text (code_points l)) eits) ∙ h

-- texts have no nodes
texts_are_sound : (n : ℕ) (ts : List (List ℕ)) → IsTrue (are_sound n (map text ts))
texts_are_sound n [] = refl
texts_are_sound n (t ∷ ts) = texts_are_sound n ts

pub sound_texts : (n : ℕ) (vs : List Value) (ts : List (List ℕ)) → vs ≡ map text ts → IsTrue (are_sound n vs)
sound_texts n vs ts e = subst (λ (ws : List Value). IsTrue (are_sound n ws)) (sym e) (texts_are_sound n ts)

pub nothing_joined : (by : List ℕ) (ts : List (RcStr Global)) → length ts ≡ 0 → joined by (texts_of ts) ≡ []
nothing_joined by [] h = refl
nothing_joined by (t ∷ ts) h = absurd (cc h)
