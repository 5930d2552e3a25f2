-- Answers said of what was found, as answers said of the graph.
use Rattle.std.proofs.Common.{◌≡◌, ◌⊎◌, inl, inr, ℕ, List, Option, Some, Result, Ok, Err, subst}
use Rattle.std.specs.Prelude.{IfOk, IfErr}
use Rattle.kishu_store.specs.Graph.{Graph, Target}
use Rattle.kishu_graph.specs.declared.fault.GraphFault.{GraphFault}
use Rattle.kishu_graph.specs.declared.fault.GraphFault.TheVariants.{NoMemory}
use Rattle.kishu_graph.specs.Kept.{Kept, HasShapeOf}
use Rattle.kishu_graph.specs.Refusals.{unless_there, unless_named, HasMoved, HasBranched}

pub branched-by : (kept new : Kept) (name : List ℕ) (o : Option ℕ) (F : Graph → Option ℕ) (r : Result ℕ GraphFault) → ((g : Graph) → HasShapeOf kept g → o ≡ F g)
    → IfOk r (λ c. (g : Graph) → HasShapeOf kept g → HasBranched name o g c kept new) → IfOk r (λ c. (g : Graph) → HasShapeOf kept g → HasBranched name (F g) g c kept new)
branched-by kept new name o F (Ok c) e h = λ g s. subst (λ (x : Option ℕ). HasBranched name x g c kept new) (e g s) (h g s)
branched-by kept new name o F (Err f) e h = tt

pub named-by : (kept : Kept) (name : List ℕ) (o : Option ℕ) (F : Graph → Option ℕ) (r : Result ℕ GraphFault) → ((g : Graph) → HasShapeOf kept g → o ≡ F g)
    → IfErr r (λ f. (f ≡ NoMemory) ⊎ ((g : Graph) → HasShapeOf kept g → unless_named name o g ≡ Some f)) → IfErr r (λ f. (f ≡ NoMemory) ⊎ ((g : Graph) → HasShapeOf kept g → unless_named name (F g) g ≡ Some f))
named-by kept name o F (Ok c) e h = tt
named-by kept name o F (Err f) e (inl p) = inl p
named-by kept name o F (Err f) e (inr h) = inr (λ g s. subst (λ (x : Option ℕ). unless_named name x g ≡ Some f) (e g s) (h g s))

pub moved-by : (kept new : Kept) (o : Option Target) (F : Graph → Option Target) (r : Result ℕ GraphFault) → ((g : Graph) → HasShapeOf kept g → o ≡ F g)
    → IfOk r (λ c. (g : Graph) → HasShapeOf kept g → HasMoved o g c kept new) → IfOk r (λ c. (g : Graph) → HasShapeOf kept g → HasMoved (F g) g c kept new)
moved-by kept new o F (Ok c) e h = λ g s. subst (λ (x : Option Target). HasMoved x g c kept new) (e g s) (h g s)
moved-by kept new o F (Err f) e h = tt

pub there-by : (kept : Kept) (o : Option Target) (F : Graph → Option Target) (r : Result ℕ GraphFault) → ((g : Graph) → HasShapeOf kept g → o ≡ F g)
    → IfErr r (λ f. (g : Graph) → HasShapeOf kept g → unless_there o g ≡ Some f) → IfErr r (λ f. (g : Graph) → HasShapeOf kept g → unless_there (F g) g ≡ Some f)
there-by kept o F (Ok c) e h = tt
there-by kept o F (Err f) e h = λ g s. subst (λ (x : Option Target). unless_there x g ≡ Some f) (e g s) (h g s)
