-- The bytes of a table's pictures.
use Rattle.std.specs.Prelude.{◌≡◌, ◌+◌, ℕ, List, [], ◌∷◌, length, map}
use Rattle.std.proofs.Common.{refl, sym, ap, ◌∙◌}
use Rattle.std.proofs.lemmas.List.Sums.{sum_by-cons}
use Rattle.kishu_checkout.specs.Fetched.{taken_by}
use Rattle.kishu_store.specs.Tables.{Table, bytes_in, len_in}

-- They are as many bytes together as the rows tell.
pub taken_all : (bytes : List (List ℕ)) (t : Table) → map (λ p. length p) bytes ≡ map len_in t → taken_by bytes ≡ bytes_in t
taken_all [] [] e = refl
taken_all (b ∷ bs) (r ∷ t) e =
    let here : length b ≡ r.len = cc (e) in
    let rest = taken_all bs t (cc (e)) in
    sum_by-cons (λ (p : List ℕ). length p) b bs ∙ ap (λ n. n + taken_by bs) here ∙ ap (λ n. r.len + n) rest ∙ sym (sum_by-cons len_in r t)
taken_all [] (r ∷ t) e = absurd (cc (e))
taken_all (b ∷ bs) [] e = absurd (cc (e))
