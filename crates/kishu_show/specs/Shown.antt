-- How the calls that make a text answer.
use Rattle.std.specs.Prelude.{◌≡◌, ℕ, List, Result, Ok, Err}
use Rattle.std.specs.Str.{chars}
use Rattle.std.specs.String.{string_bytes}
use Rattle.kishu_meaning.specs.moments.Counting.{Counted, Count, answer, too_deep, spent, give}
use Rattle.kishu_meaning.specs.comparing.Show.{◌⊕◌}
use Rattle.kishu_show.specs.declared.draft.Draft.{Draft}
use Rattle.kishu_show.specs.declared.fault.ShowFault.{ShowFault}
use Rattle.kishu_show.specs.declared.fault.ShowFault.TheVariants as faults

-- A call returned this, with so many steps left, as the definition says. Of a call that finds no memory nothing is said.
abbrev pub Gives : {A B : Type 0} → (A → B) → Result A ShowFault → ℕ → Counted B → Type 0
Gives view (Ok a) n e = e ≡ answer (view a) n
Gives view (Err faults.Depth) n e = e ≡ too_deep n
Gives view (Err faults.Spent) n e = e ≡ spent n
Gives view (Err faults.NoMemory) n e = Unit {0}

-- ---- a text in the making

abbrev pub text_of : Draft → List ℕ
text_of d = chars (string_bytes d.text)

-- what is made behind the text
abbrev pub onto : Draft → Count (List ℕ) → Counted (List ℕ)
onto d m = (give (text_of d) ⊕ m) d.left

-- The text became this, with a further part behind it.
abbrev pub Makes : Result (Unit {0}) ShowFault → Draft → Counted (List ℕ) → Type 0
Makes r d e = Gives (λ _. text_of d) r d.left e
