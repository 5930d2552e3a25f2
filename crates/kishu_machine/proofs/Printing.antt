-- What `print` does, part by part.
use Rattle.std.proofs.Common.{◌≡◌, ◌∙◌, ap, sym, ℕ, ◌+◌, ◌*◌, ◌-◌, List, ◌++◌, length}
use Rattle.kishu_meaning.specs.calls.Callees.{print}
use Rattle.kishu_meaning.specs.moments.Moment.{Moment, Ends, M, fine, and_then, spend, put_out}
use Rattle.kishu_meaning.specs.comparing.Show.{show_all}
use Rattle.kishu_meaning.specs.values.Texts.{joined}
use Rattle.kishu_meaning.specs.values.Values.{Value, none}

module _ (separator ending : List ℕ) where
  abbrev put_all : List (List ℕ) → M Value
  put_all texts s = and_then (put_out (joined separator texts ++ ending) s) (λ _ t. fine none t)

  abbrev pay_all : List (List ℕ) → M Value
  pay_all texts s = and_then (spend (length separator * (length texts - 1) + length ending) s) (λ _. put_all texts)

  pub printed : (vs : List Value) (texts : List (List ℕ)) (s0 s1 s2 : Moment) (out : List ℕ) → show_all vs s0 ≡ fine texts s1 → spend (length separator * (length texts - 1) + length ending) s1 ≡ fine tt s2
      → out ≡ s2.out ++ (joined separator texts ++ ending) → print separator ending vs s0 ≡ fine none (record s2 { out = out })
  printed vs texts s0 s1 s2 out h k p =
      ap (λ (e : Ends (List (List ℕ))). and_then e pay_all) h
      ∙ ap (λ (e : Ends (Unit {0})). and_then e (λ _. put_all texts)) k
      ∙ ap (λ (o : List ℕ). fine none (record s2 { out = o })) (sym p)
