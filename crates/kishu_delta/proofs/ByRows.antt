-- A picture for each row of a table is one for each of its groups, since no two rows have one group. So a list that fits may be given by groups.
use Rattle.std.specs.Prelude.{◌≡◌, ℕ, true, false, if◌then◌else◌, List, [], ◌∷◌, length, map}
use Rattle.std.proofs.Common.{refl, ap, ◌∙◌, subst, inl, inr, arith}
use Rattle.kishu_history.specs.Tables.{IsTable}
use Rattle.kishu_history_laws.specs.Choices.{group_decides, in_map, not_told}
use Rattle.kishu_history_laws.specs.tables.TableLaws.{rise_differ}
use Rattle.kishu_objects.specs.Lists.{In, AllDiffer}
use Rattle.kishu_store.specs.Groups.{Group, first_name, is_group}
use Rattle.kishu_store.specs.Tables.{Table, first_in}

-- From a list of pictures along the rows the picture of a group.
abbrev picture_along : Table → List (List ℕ) → Group → List ℕ
picture_along [] ps g = []
picture_along (r ∷ t) [] g = []
picture_along (r ∷ t) (p ∷ ps) g = if is_group g r.group then p else picture_along t ps g

mapped : {A B : Type 0} (f g : A → B) (xs : List A) → ((a : A) → In a xs → f a ≡ g a) → map f xs ≡ map g xs
mapped f g [] h = refl
mapped f g (x ∷ xs) h = ap (λ y. y ∷ map f xs) (h x (inl refl)) ∙ ap (λ l. g x ∷ l) (mapped f g xs (λ a m. h a (inr m)))

differ_along : (t : Table) → AllDiffer (map first_in t) → (ps : List (List ℕ)) → length ps ≡ length t → map (λ r. picture_along t ps r.group) t ≡ ps
differ_along [] d [] e = refl
differ_along [] d (p ∷ ps) e = absurd (omega (arith, e))
differ_along (r ∷ t) d [] e = absurd (omega (arith, e))
differ_along (r ∷ t) d (p ∷ ps) e =
    let own : is_group r.group r.group ≡ true = (group_decides r.group r.group).1 refl in
    let here : picture_along (r ∷ t) (p ∷ ps) r.group ≡ p = ap (λ b. if b then p else picture_along t ps r.group) own in
    let rest : map (λ q. picture_along (r ∷ t) (p ∷ ps) q.group) t ≡ map (λ q. picture_along t ps q.group) t = mapped (λ q. picture_along (r ∷ t) (p ∷ ps) q.group) (λ q. picture_along t ps q.group) t (λ q m.
    let other : is_group q.group r.group ≡ false = not_told (is_group q.group r.group) (group_decides q.group r.group) (λ f. d.0 (subst (λ x. In x (map first_in t)) (ap first_name f) (in_map first_in t q m))) in
    ap (λ b. if b then p else picture_along t ps q.group) other) in
    ap (λ x. x ∷ map (λ q. picture_along (r ∷ t) (p ∷ ps) q.group) t) here
    ∙ ap (λ l. p ∷ l) (rest ∙ differ_along t d.1 ps (omega (arith, e)))

-- Along the rows it is that list.
pub along_rows : (t : Table) → IsTable t → (ps : List (List ℕ)) → length ps ≡ length t → map (λ r. picture_along t ps r.group) t ≡ ps
along_rows t k ps e = differ_along t (rise_differ (map first_in t) k.rise) ps e
