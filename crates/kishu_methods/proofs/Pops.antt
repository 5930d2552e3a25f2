-- The last item of a list.
use Rattle.std.proofs.Common.{◌≡◌, ◌∙◌, ap, sym, refl, ℕ, List, [], ◌∷◌, Option, Some, None}
use Rattle.std.specs.Prelude.{slice_get, unwrap_or, codes}
use Rattle.kishu_meaning.specs.declared.budget.Budget.{Budget}
use Rattle.kishu_meaning.specs.calls.Methods.{pop_last}
use Rattle.kishu_meaning.specs.moments.Moment.{raised, fresh}
use Rattle.kishu_meaning.specs.values.Classes.{index_error_class}
use Rattle.kishu_meaning.specs.values.Values.{Value, text, Node, list}
use Rattle.kishu_meaning.specs.values.Nodes.{changed, found, last_item, last_of, without_last, list_in, pop}
use Rattle.kishu_methods.specs.Called.{moment_of}
use Rattle.kishu_methods.proofs.Changes.{unchanged}

pub some_same : {A : Type 0} (a b : A) → Some a ≡ Some b → a ≡ b
some_same a b h = ap (λ o. unwrap_or o a) h

-- what is read in the node of a list
pub list_read : (ns : List Node) (i : ℕ) (n : Node) (vs : List Value) (o : Option (List Value)) → slice_get ns i ≡ Some n → slice_get ns i ≡ Some (list vs) → o ≡ list_in n → o ≡ Some vs
list_read ns i n vs o p q r = r ∙ ap list_in (some_same n (list vs) (sym p ∙ q))

pub last_found : (ns : List Node) (i : ℕ) (vs : List Value) → slice_get ns i ≡ Some (list vs) → found last_item i ns ≡ last_of vs
last_found ns i vs h = rw h refl

has_last : {A : Type 0} (a : A) (as' : List A) → last_of (a ∷ as') ≡ None → ⊥
has_last a [] h = cc
has_last a (b ∷ bs) h = has_last b bs h

none_left : {A : Type 0} (as' : List A) → last_of as' ≡ None → without_last as' ≡ as'
none_left [] h = refl
none_left (a ∷ as') h = absurd (has_last a as' h)

-- Nothing is taken off an empty list.
pub pops_nothing : (ns : List Node) (i : ℕ) (vs : List Value) → slice_get ns i ≡ Some (list vs) → last_of vs ≡ None → changed pop i ns ≡ ns
pops_nothing ns i vs h e = unchanged pop i ns (list vs) h (ap list (none_left vs e))

-- where there is none
pub pops_from_empty : (ns ms : List Node) (i : ℕ) (vs : List Value) (cs : List ℕ) (b : Budget) → slice_get ns i ≡ Some (list vs) → found last_item i ns ≡ None → ms ≡ changed pop i ns → cs ≡ codes "pop from empty list"
    → pop_last i vs (moment_of ns b) ≡ raised (fresh index_error_class (text cs ∷ [])) (moment_of ms b)
pops_from_empty ns ms i vs cs b h f p q =
    let e : last_of vs ≡ None = sym (last_found ns i vs h) ∙ f in
    rw (e, p, pops_nothing ns i vs h e, q) refl
