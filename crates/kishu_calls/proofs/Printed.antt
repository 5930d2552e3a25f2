-- What was printed, as one output where it is anything.
use Rattle.std.proofs.Common.{◌≡◌, ◌∙◌, refl, ap, sym, arith, ℕ, Bool, true, false, List, [], ◌∷◌, length, Some}
use Rattle.std.specs.Prelude.{◌==◌}
use Rattle.std.specs.Str.{chars, encode_utf8_all, IsUtf8}
use Rattle.std.proofs.lemmas.Bool.Decides.{nat_tests}
use Rattle.std.specs.String.{string_bytes}
use Rattle.std.specs.declared.alloc.Global.{Global}
use Rattle.std.specs.declared.string.String.{String}
use Rattle.std.proofs.lemmas.Str.{chars-nil, encodes-chars, IsUtf8-string_bytes}
use Rattle.kishu_meaning.specs.declared.result.Outcome.TheVariants as outcomes
use Rattle.kishu_meaning.specs.declared.result.Output as rust
use Rattle.kishu_meaning.specs.cells.Meaning.{ended, printed, shown_output, uncaught}
use Rattle.kishu_meaning.specs.moments.Moment.{Moment, Thrown, Ends, fine, raised}
use Rattle.kishu_meaning.specs.comparing.Show.{class_name}
use Rattle.kishu_meaning.specs.values.Values.{fault, stream, shown, output_of}
use Rattle.kishu_meaning.specs.cells.Ways.{kind_of_thrown}
use Rattle.kishu_machine.specs.Machine.{outputs_in}

no_bytes : (bs : List ℕ) → length bs ≡ 0 → [] ≡ printed (chars bs)
no_bytes [] h = sym (ap printed chars-nil)
no_bytes (b ∷ bs) h = absurd (omega arith)

is_zero : (n : ℕ) (b : Bool) → b ≡ (n == 0) → b ≡ true → n ≡ 0
is_zero n b e h = grind (arith, nat_tests)

is_some : (n : ℕ) (b : Bool) → b ≡ (n == 0) → b ≡ false → n ≡ 0 → ⊥
is_some n b e h z = grind (arith, nat_tests)

pub printed_none : (bs : List ℕ) (b : Bool) → b ≡ (length bs == 0) → b ≡ true → [] ≡ printed (chars bs)
printed_none bs b e h = no_bytes bs (is_zero (length bs) b e h)

none_encoded : (cs : List ℕ) → length cs ≡ 0 → length (encode_utf8_all cs) ≡ 0
none_encoded [] h = refl
none_encoded (c ∷ cs) h = absurd (omega arith)

some_printed : (cs : List ℕ) → (length cs ≡ 0 → ⊥) → stream (encode_utf8_all cs) ∷ [] ≡ printed cs
some_printed [] h = absurd (h refl)
some_printed (c ∷ cs) h = refl

pub printed_some : (bs : List ℕ) (b : Bool) → IsUtf8 bs → b ≡ (length bs == 0) → b ≡ false → stream bs ∷ [] ≡ printed (chars bs)
printed_some bs b v e h =
    ap (λ y. stream y ∷ []) (sym (encodes-chars bs v))
    ∙ some_printed (chars bs) (λ z. is_some (length bs) b e h (omega (arith, none_encoded (chars bs) z, ap length (encodes-chars bs v))))

-- the text of a value that a cell shows
pub shown_text : (o : rust.Output) (t : String Global) (bs : List ℕ) → output_of o ≡ shown bs → bs ≡ string_bytes t → outputs_in (Some o) ≡ shown_output (Some (chars (string_bytes t)))
shown_text o t bs h e = ap (λ y. y ∷ []) (h ∙ ap shown (e ∙ sym (encodes-chars (string_bytes t) (IsUtf8-string_bytes t))))

-- ---- an exception that nothing caught

module _ (x : Thrown) (e : Ends (List ℕ)) (kind : ℕ) (bs : List ℕ) (s : Moment) where
  pub uncaught_shown : (t : String Global) → e ≡ fine (chars (string_bytes t)) s → bs ≡ string_bytes t → kind ≡ kind_of_thrown s.nodes x → uncaught x e ≡ ended outcomes.Raised (fault (class_name kind) bs ∷ []) s
  uncaught_shown t h b k =
      ap (uncaught x) h ∙ ap (λ n. ended outcomes.Raised (fault (class_name n) (encode_utf8_all (chars (string_bytes t))) ∷ []) s) (sym k)
      ∙ ap (λ y. ended outcomes.Raised (fault (class_name kind) y ∷ []) s) (encodes-chars (string_bytes t) (IsUtf8-string_bytes t) ∙ sym b)
