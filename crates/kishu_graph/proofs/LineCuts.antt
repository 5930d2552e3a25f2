-- A line is cut off a text byte by byte.
use Rattle.std.proofs.Common.{◌≡◌, ◌≤◌, ◌<◌, ◌+◌, ℕ, zero, suc, Bool, true, false, List, [], ◌∷◌, ◌++◌, length, get_or, take, drop, refl, sym, ap, ◌∙◌, append_assoc}
use Rattle.std.proofs.lemmas.List.{drop_more, drop_all, take_more, take_all, append-nil}
use Rattle.std.specs.Prelude.{◌||◌, ◌==◌}
use Rattle.kishu_language.specs.tokens.Lines.{line_feed}
use Rattle.kishu_language.specs.tokens.PlainLines.{carriage_return}
use Rattle.kishu_store.specs.CommitLines.{first_line, first_characters, goes_on}

-- the line of what is left, of which so many characters may still come
abbrev pub rest_of_line : ℕ → List ℕ → List ℕ
rest_of_line left text = first_characters left (first_line text)

-- a byte that ends no line
abbrev pub is_end : ℕ → Bool
is_end c = (c == line_feed) || (c == carriage_return)

inside : (n c : ℕ) (cs : List ℕ) → is_end c ≡ false → goes_on c ≡ true → rest_of_line n (c ∷ cs) ≡ c ∷ rest_of_line n cs
inside zero c cs p q = rw (p, q) refl
inside (suc n) c cs p q = rw (p, q) refl

first_byte : (n c : ℕ) (cs : List ℕ) → is_end c ≡ false → goes_on c ≡ false → rest_of_line (suc n) (c ∷ cs) ≡ c ∷ rest_of_line n cs
first_byte n c cs p q = rw (p, q) refl

last_byte : (c : ℕ) (cs : List ℕ) → is_end c ≡ false → goes_on c ≡ false → rest_of_line 0 (c ∷ cs) ≡ []
last_byte c cs p q = rw (p, q) refl

line_end : (n c : ℕ) (cs : List ℕ) → is_end c ≡ true → rest_of_line n (c ∷ cs) ≡ []
line_end n c cs p = rw p refl

module _ (text : List ℕ) (i d : ℕ) (h : i < length text) where
  abbrev byte : ℕ
  byte = get_or text i d

  -- one more byte is taken
  taken : (n m : ℕ) → rest_of_line n (byte ∷ drop (i + 1) text) ≡ byte ∷ rest_of_line m (drop (i + 1) text)
      → take i text ++ rest_of_line n (drop i text) ≡ take (i + 1) text ++ rest_of_line m (drop (i + 1) text)
  taken n m e =
      ap (λ (l : List ℕ). take i text ++ rest_of_line n l) (drop_more text i d h)
      ∙ ap (λ (l : List ℕ). take i text ++ l) e
      ∙ sym (append_assoc (take i text) (byte ∷ []) (rest_of_line m (drop (i + 1) text)))
      ∙ ap (λ (l : List ℕ). l ++ rest_of_line m (drop (i + 1) text)) (sym (take_more text i d h))

  pub goes_inside : (n : ℕ) → is_end byte ≡ false → goes_on byte ≡ true → take i text ++ rest_of_line n (drop i text) ≡ take (i + 1) text ++ rest_of_line n (drop (i + 1) text)
  goes_inside n p q = taken n n (inside n byte (drop (i + 1) text) p q)

  pub goes_further : (n : ℕ) → is_end byte ≡ false → goes_on byte ≡ false → take i text ++ rest_of_line (suc n) (drop i text) ≡ take (i + 1) text ++ rest_of_line n (drop (i + 1) text)
  goes_further n p q = taken (suc n) n (first_byte n byte (drop (i + 1) text) p q)

  -- it ends here
  stops : (n : ℕ) → rest_of_line n (byte ∷ drop (i + 1) text) ≡ [] → take i text ++ rest_of_line n (drop i text) ≡ take i text
  stops n e = ap (λ (l : List ℕ). take i text ++ rest_of_line n l) (drop_more text i d h) ∙ ap (λ (l : List ℕ). take i text ++ l) e ∙ append-nil (take i text)

  pub stops_short : (n : ℕ) → is_end byte ≡ true → take i text ++ rest_of_line n (drop i text) ≡ take i text
  stops_short n p = stops n (line_end n byte (drop (i + 1) text) p)

  pub stops_full : is_end byte ≡ false → goes_on byte ≡ false → take i text ++ rest_of_line 0 (drop i text) ≡ take i text
  stops_full p q = stops 0 (last_byte byte (drop (i + 1) text) p q)

pub ends_whole : (text : List ℕ) (n i : ℕ) → length text ≤ i → take i text ++ rest_of_line n (drop i text) ≡ text
ends_whole text n i h = ap (λ (l : List ℕ). take i text ++ rest_of_line n l) (drop_all i text h) ∙ append-nil (take i text) ∙ take_all i text h
