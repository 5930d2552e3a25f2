-- The ids that were seen, as a set of texts and as a list.
use Rattle.std.proofs.Common.{◌≡◌, ℕ, suc, Bool, true, false, cond, not, ◌||◌, List, ◌∷◌, Some, is_eq, refl, sym, ap, ◌∙◌}
use Rattle.std.proofs.lemmas.Bool.{false≢true}
use Rattle.std.proofs.lemmas.Map.Text.{is_eq-slice_cmp}
use Rattle.std.proofs.lemmas.Slice.Eq.{bytes_eq-Decides}
use Rattle.std.specs.Cmp.Lexicographic.{slice_cmp}
use Rattle.std.specs.List.{list_any}
use Rattle.std.specs.Ordering.{nat_cmp}
use Rattle.std.specs.Str.{bytes_eq}
use Rattle.serde_json.specs.Data.{Data, Items, item}
use Rattle.kishu_model.specs.notebooks.Cells.{id_of}
use Rattle.kishu_model.specs.notebooks.Notebook.{repeated_from}

same_truth : (p q : Bool) → (p ≡ true → q ≡ true) → (q ≡ true → p ≡ true) → p ≡ q
same_truth true true f g = refl
same_truth true false f g = absurd (false≢true (f refl))
same_truth false true f g = absurd (false≢true (g refl))
same_truth false false f g = refl

bytes_eq-comm : (a b : List ℕ) → bytes_eq a b ≡ bytes_eq b a
bytes_eq-comm a b =
    same_truth (bytes_eq a b) (bytes_eq b a) (λ p. (bytes_eq-Decides b a).1 (sym ((bytes_eq-Decides a b).0 p))) (λ p. (bytes_eq-Decides a b).1 (sym ((bytes_eq-Decides b a).0 p)))

either_or : (t b : Bool) → cond t true b ≡ (t || b)
either_or true b = refl
either_or false b = refl

-- what adding a text told of it
pub was_new : (added there : Bool) → added ≡ not there → added ≡ true → there ≡ false
was_new added true is new = absurd (false≢true (sym is ∙ new))
was_new added false is new = refl

pub was_there : (added there : Bool) → added ≡ not there → added ≡ false → there ≡ true
was_there added true is old = refl
was_there added false is old = absurd (false≢true (sym old ∙ is))

-- a set with one text more
pub one_more : (q id : List ℕ) (b : Bool) → cond (is_eq (slice_cmp nat_cmp id q)) true b ≡ (bytes_eq q id || b)
one_more q id b = ap (λ (t : Bool). cond t true b) (is_eq-slice_cmp id q ∙ bytes_eq-comm id q) ∙ either_or (bytes_eq q id) b

-- a cell whose id is new, and one whose id was seen
pub passes : (ids : List (List ℕ)) (i n : ℕ) (id : List ℕ) (c : Data) (cs : Items) → n ≡ suc i → id ≡ id_of c → list_any (bytes_eq id) ids ≡ false → repeated_from (id ∷ ids) n cs ≡ repeated_from ids i (item c cs)
passes ids i n id c cs next is new =
    let unseen : list_any (bytes_eq (id_of c)) ids ≡ false = ap (λ (t : List ℕ). list_any (bytes_eq t) ids) (sym is) ∙ new in
    ap (λ (m : ℕ). repeated_from (id ∷ ids) m cs) next ∙ ap (λ (t : List ℕ). repeated_from (t ∷ ids) (suc i) cs) is ∙ sym (ap (λ (b : Bool). cond b (Some i) (repeated_from (id_of c ∷ ids) (suc i) cs)) unseen)

pub stops : (ids : List (List ℕ)) (i : ℕ) (id : List ℕ) (c : Data) (cs : Items) → id ≡ id_of c → list_any (bytes_eq id) ids ≡ true → Some i ≡ repeated_from ids i (item c cs)
stops ids i id c cs is old =
    let seen : list_any (bytes_eq (id_of c)) ids ≡ true = ap (λ (t : List ℕ). list_any (bytes_eq t) ids) (sym is) ∙ old in
    sym (ap (λ (b : Bool). cond b (Some i) (repeated_from (id_of c ∷ ids) (suc i) cs)) seen)
