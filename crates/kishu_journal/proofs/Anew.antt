-- A short file that is begun anew.
use Rattle.std.proofs.Common.{◌≡◌, ◌≤◌, ℕ, ◌+◌, List, [], ◌∷◌, ◌++◌, length, drop, sym, ◌∙◌, ap, arith, length-append}
use Rattle.std.proofs.lemmas.List.{drop_all, append-nil}
use Rattle.kishu_host.specs.Host.{overwrite}
use Rattle.kishu_store.specs.Holds.{header, fresh_length, front, Ends}
use Rattle.kishu_store_laws.specs.Laws.{length-header}

pub anew : (bytes file : List ℕ) → bytes ≡ header ++ (0 ∷ []) → length file ≤ fresh_length → overwrite 0 bytes file ≡ front [] ++ (0 ∷ [])
anew bytes file is short =
    let past : drop (0 + length bytes) file ≡ [] = drop_all (0 + length bytes) file (omega (arith, short, ap length is, length-append header (0 ∷ []), length-header)) in
    ap (λ (l : List ℕ). bytes ++ l) past ∙ append-nil bytes ∙ is ∙ ap (λ (l : List ℕ). l ++ (0 ∷ [])) (sym (append-nil header))

pub anew-ends : (file : List ℕ) → file ≡ front [] ++ (0 ∷ []) → Ends file []
anew-ends file is = record { gate = 0; rest = []; split = is; closed = omega arith; fit = tt }
