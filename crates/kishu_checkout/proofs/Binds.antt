-- Names that are bound one after another: onto none, and as they are bound elsewhere.
use Rattle.std.specs.Prelude.{◌≡◌, ℕ, zero, suc, ◌<◌, Bool, ◌&&◌, IsTrue, List, [], ◌∷◌, ◌++◌, length, map, get_or, drop, Some}
use Rattle.std.specs.Cmp.Lexicographic.{slice_cmp}
use Rattle.std.specs.List.{list_all}
use Rattle.std.specs.List.Sorted.{IsStrictlySortedBy}
use Rattle.std.specs.Ordering.{nat_cmp, ordering_reverse}
use Rattle.std.specs.Rc.{rc_str_bytes}
use Rattle.std.specs.declared.alloc.Global.{Global}
use Rattle.std.specs.declared.cmp.Ordering.TheVariants.{Less, Greater}
use Rattle.std.specs.declared.rc.RcStr.{RcStr}
use Rattle.std.proofs.Common.{refl, sym, ap, subst, ◌∙◌, inl, inr, arith, append-nil, append_assoc}
use Rattle.std.proofs.lemmas.Bool.{and_parts}
use Rattle.std.proofs.lemmas.List.{length-map}
use Rattle.std.proofs.lemmas.Cmp.{nat_list_cmp_total}
use Rattle.kishu_language.specs.tokens.Names.{is_name}
use Rattle.kishu_meaning.specs.values.Sound.{is_valid}
use Rattle.kishu_meaning.specs.values.Values.{Value, Names, State, find, bind}
use Rattle.kishu_objects.specs.Lists.{In, Rise}
use Rattle.kishu_objects.specs.Loading.{bind_all}
use Rattle.kishu_objects.specs.Picture.{named, listed}
use Rattle.kishu_objects_laws.specs.NameLaws.{below_in, find_in}
use Rattle.kishu_history_laws.specs.states.NameLaws.{in_find}
use Rattle.kishu_checkout.specs.Groups.{titles}

-- ---- names behind all others

-- It is behind each of these.
abbrev IsBehind : List ℕ → Names → Type 0
IsBehind x ns = (y : List ℕ) → In y (titles ns) → slice_cmp nat_cmp y x ≡ Less

greater : (x y : List ℕ) → slice_cmp nat_cmp y x ≡ Less → slice_cmp nat_cmp x y ≡ Greater
greater x y e = nat_list_cmp_total.antisymm x y ∙ ap ordering_reverse e

bind_last : (x : List ℕ) (v : Value) (ns : Names) → IsBehind x ns → bind x v ns ≡ ns ++ ((x, v) ∷ [])
bind_last x v [] h = refl
bind_last x v (b ∷ ns) h = (let e = greater x b.0 (h b.0 (inl refl)) in rw e (ap (λ l. b ∷ l) (bind_last x v ns (λ y m. h y (inr m)))))

stands_there : (b : List ℕ × Value) (ns bs : Names) → In b.0 (titles (ns ++ (b ∷ bs)))
stands_there b [] bs = inl refl
stands_there b (n ∷ ns) bs = inr (stands_there b ns bs)

is_behind : (b : List ℕ × Value) (ns bs : Names) → Rise (titles (ns ++ (b ∷ bs))) → IsBehind b.0 ns
unfolding IsStrictlySortedBy
is_behind b [] bs r y m = absurd m
is_behind b (n ∷ ns) bs r y (inl e) =
    subst (λ z. slice_cmp nat_cmp z b.0 ≡ Less) (sym e) (below_in b.0 n.0 (titles (ns ++ (b ∷ bs))) r.0 (stands_there b ns bs))
is_behind b (n ∷ ns) bs r y (inr m) = is_behind b ns bs r.1 y m

bind_behind : (bs ns : Names) → Rise (titles (ns ++ bs)) → bind_all bs ns ≡ ns ++ bs
bind_behind [] ns r = sym (append-nil ns)
bind_behind (b ∷ bs) ns r =
    let same : (ns ++ (b ∷ [])) ++ bs ≡ ns ++ (b ∷ bs) = append_assoc ns (b ∷ []) bs in
    ap (bind_all bs) (bind_last b.0 b.1 ns (is_behind b ns bs r))
    ∙ bind_behind bs (ns ++ (b ∷ [])) (subst (λ l. Rise (titles l)) (sym same) r)
    ∙ same

-- ---- a picture's names

pub titles_moved : (f : ℕ → ℕ) (ns : Names) → titles (map (named f) ns) ≡ titles ns
titles_moved f [] = refl
titles_moved f (b ∷ ns) = ap (λ xs. b.0 ∷ xs) (titles_moved f ns)

-- bound onto none they stand as they are
pub moved_names : (f : ℕ → ℕ) (p : State) → Rise (listed p) → bind_all (map (named f) p.names) [] ≡ map (named f) p.names
moved_names f p rise = bind_behind (map (named f) p.names) [] (subst (λ xs. Rise xs) (sym (titles_moved f p.names)) rise)

-- ---- names of a list, bound as they are elsewhere

-- what stands at a place of the list
pub at_place : (ns : Names) (xs : List (RcStr Global)) (i : ℕ) → titles ns ≡ map rc_str_bytes xs → i < length xs
    → (x : RcStr Global) → x ≡ get_or xs i x → (v : Value) × (drop i ns ≡ (rc_str_bytes x, v) ∷ drop (suc i) ns)
at_place [] [] i e l x is = absurd (omega (arith, l))
at_place [] (y ∷ xs) i e l x is = absurd (cc (e))
at_place (b ∷ ns) [] i e l x is = absurd (omega (arith, l))
at_place (b ∷ ns) (y ∷ xs) zero e l x is =
    let h : b.0 ≡ rc_str_bytes y = cc (e) in
    (b.1, ap (λ z. (z, b.1) ∷ ns) (h ∙ ap rc_str_bytes (sym is)))
at_place (b ∷ ns) (y ∷ xs) (suc i) e l x is =
    let h : titles ns ≡ map rc_str_bytes xs = cc (e) in
    at_place ns xs i h (omega (arith, l)) x is

pub titles_long : (ns : Names) (xs : List (RcStr Global)) → titles ns ≡ map rc_str_bytes xs → length ns ≡ length xs
titles_long ns xs e = sym (length-map ns (λ b. b.0)) ∙ ap length e ∙ length-map xs rc_str_bytes

dropped_in : (i : ℕ) (ns : Names) (b : List ℕ × Value) → In b (drop i ns) → In b ns
dropped_in zero ns b m = m
dropped_in (suc i) [] b m = absurd m
dropped_in (suc i) (n ∷ ns) b m = inr (dropped_in i ns b m)

pub found_there : (ns rest : Names) (i : ℕ) (x : List ℕ) (v : Value) → Rise (titles ns) → drop i ns ≡ (x, v) ∷ rest → find x ns ≡ Some v
found_there ns rest i x v r e = in_find ns (x, v) r (dropped_in i ns (x, v) (subst (λ l. In (x, v) l) (sym e) (inl refl)))

-- ---- what a namespace keeps

abbrev kept : List ℕ × Value → Bool
kept b = is_name b.0 && is_valid b.1

kept_in : (ns : Names) (b : List ℕ × Value) → IsTrue (list_all kept ns) → In b ns → IsTrue (kept b)
kept_in [] b h m = absurd m
kept_in (n ∷ ns) b h (inl e) = subst (λ z. IsTrue (kept z)) (sym e) (and_parts (kept n) (list_all kept ns) h).0
kept_in (n ∷ ns) b h (inr m) = kept_in ns b (and_parts (kept n) (list_all kept ns) h).1 m

pub kept_found : (ns : Names) (x : List ℕ) (v : Value) → IsTrue (list_all kept ns) → find x ns ≡ Some v → IsTrue (is_name x) × IsTrue (is_valid v)
kept_found ns x v h e = and_parts (is_name x) (is_valid v) (kept_in ns (x, v) h (find_in x ns v e))
