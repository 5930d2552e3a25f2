-- Repetitions with operators or marks between are read exactly.
use Rattle.std.specs.Prelude.{◌≡◌, ℕ, suc, Bool, true, false, ◌&&◌, List, [], ◌∷◌}
use Rattle.std.proofs.Common.{sym, ap, subst, ◌∙◌, arith, ⊎_elim}
use Rattle.kishu_language.specs.declared.token.Mark.{Mark}
use Rattle.kishu_language.specs.declared.token.Mark.TheVariants as m
use Rattle.kishu_language.specs.trees.Tree.{Expression}
use Rattle.kishu_language.specs.grammar.Language.{Tokens, Language}
use Rattle.kishu_language.specs.grammar.Language as l
use Rattle.kishu_language.specs.grammar.Grammar as g
use Rattle.kishu_language.specs.reading.Reader.{Reader, rest, sees}
use Rattle.kishu_language.specs.reading.Reader as r
use Rattle.kishu_language.specs.reading.ReadExpressions.{expr_begins}
use Rattle.kishu_language.specs.reading.ReadExpressions as f
use Rattle.kishu_language_laws.specs.reading.Exact.{Reads, Begins, anything, pure_reads, bind_reads, either_swapped, begins_then, mark_reads, mark_begins, list_reads, list_after}
use Rattle.kishu_language_laws.specs.reading.Follow.{follow, Stop, not_true}

-- item { operator item }
module _ {A : Type 0} (item : Language Expression) (read : Reader Expression) (n : ℕ) (starts : Tokens → Bool)
    (operator : Language A) (read_operator : Reader A) (begins : Tokens → Bool) (O : Tokens → Type 0) (make : Expression → List (A × Expression) → Expression)
    (reads : Reads item read (Stop n)) (item_begins : Begins item starts)
    (operator_reads : Reads operator read_operator O) (operator_begins : Begins operator begins)
    (level : (ts : Tokens) → begins ts ≡ true → follow ts ≡ suc n) (met : (ts : Tokens) → starts ts ≡ true → O ts) where
  right_reads : (by : A) → Reads {A = A × Expression} (l.◌>>=◌ item (λ right. l.pure (by, right))) (r.◌>>=◌ read (λ right. r.pure (by, right))) (Stop n)
  right_reads by = bind_reads (Stop n) reads (λ right. pure_reads) (λ a ts us b h s. subst (Stop n) (sym h.0) s)

  one_reads : Reads (g.operation item operator) (f.operation read read_operator) (Stop n)
  one_reads = bind_reads O operator_reads right_reads (λ by ts us b h s. met ts (item_begins.begins ts h.0 h.1 h.2))

  one_begins : Begins (g.operation item operator) begins
  one_begins = begins_then _ (Stop n) operator_begins right_reads

  ends : (ts : Tokens) → Stop (suc n) ts → (begins ts ≡ false) × Stop n ts
  ends ts s = (not_true (begins ts) (λ h. omega (arith, level ts h)), omega arith)

  goes_on : (ts us : Tokens) (a : A × Expression) → g.operation item operator ts us a → Stop n ts
  goes_on ts us a h = omega (arith, level ts (one_begins.begins ts us a h))

  following_reads : (first : Expression)
      → Reads (l.◌>>=◌ (l.many (g.operation item operator)) (λ following. l.pure (g.unless_alone make first following)))
      (r.◌>>=◌ (r.many begins (f.operation read read_operator)) (λ following. r.pure (g.unless_alone make first following))) (Stop (suc n))
  following_reads first = bind_reads (Stop (suc n)) (list_reads (Stop n) one_reads begins (Stop (suc n)) one_begins ends goes_on []) (λ following. pure_reads) (λ a ts us b h s. subst (Stop (suc n)) (sym h.0) s)

  pub operated_reads : Reads (g.operated item operator make) (f.operated read begins read_operator make) (Stop (suc n))
  operated_reads = bind_reads (Stop n) reads following_reads
      (λ first ts us b h s. list_after (Stop n) one_reads begins (Stop (suc n)) one_begins ends goes_on [] h.1 ts h.0 h.2 (subst (Stop (suc n)) (sym h.3.0) s))

  pub operated_begins : Begins (g.operated item operator make) starts
  operated_begins = begins_then _ (Stop (suc n)) item_begins following_reads

-- item { mark item }
module _ {A : Type 0} (by : Mark) (item : Language A) (read : Reader A) (S : Tokens → Type 0)
    (reads : Reads item read S) (begins : Begins item expr_begins) (at_mark : (ts : Tokens) → sees by ts ≡ true → S ts) where
  -- what follows the items
  abbrev pub Ends : Tokens → Type 0
  Ends ts = (f.another by ts ≡ false) × S ts

  next_reads : Reads (l.◌>>◌ (l.mark by) item) (r.◌>>◌ (r.mark by) read) S
  next_reads = bind_reads anything mark_reads (λ _. reads) (λ a ts us b h s. tt)

  next_begins : Begins (l.◌>>◌ (l.mark by) item) (f.another by)
  unfolding f.another
  next_begins = record {
    begins = λ ts us a h. (λ i. (mark_begins.begins ts h.0 h.1 h.2 i) && (ap (λ (v : Tokens). expr_begins (rest v)) h.2.1 ∙ begins.begins h.0 us a h.3) i);
    shorter = λ ts us a h. (begins_then _ S mark_begins (λ _. reads)).shorter ts us a h;
  }

  goes_on_list : (ts us : Tokens) (a : A) → l.◌>>◌ (l.mark by) item ts us a → S ts
  goes_on_list ts us a h = at_mark ts (mark_begins.begins ts h.0 h.1 h.2)

  pub separated_reads : Reads (g.separated by item) (f.separated by read) Ends
  separated_reads = bind_reads S reads (λ first. list_reads S next_reads (f.another by) Ends next_begins (λ ts k. k) goes_on_list (first ∷ []))
      (λ first ts us b h s. list_after S next_reads (f.another by) Ends next_begins (λ ts k. k) goes_on_list (first ∷ []) b ts us h s)

  pub separated_begins : Begins (g.separated by item) expr_begins
  separated_begins = begins_then _ Ends begins (λ first. list_reads S next_reads (f.another by) Ends next_begins (λ ts k. k) goes_on_list (first ∷ []))

-- item { "," item } [ "," ]
module _ {A B : Type 0} (item : Language A) (read : Reader A) (S T : Tokens → Type 0) (open_end closed_end : List A → B)
    (reads : Reads item read S) (begins : Begins item expr_begins) (at_comma : (ts : Tokens) → sees m.Comma ts ≡ true → S ts)
    (at_end : (ts : Tokens) → T ts → (sees m.Comma ts ≡ false) × S ts × (expr_begins ts ≡ false)) where
  ending : (all : List A) → Reads (l.◌or◌ (l.pure (open_end all)) (l.◌>>◌ (l.mark m.Comma) (l.pure (closed_end all))))
      (r.either (sees m.Comma) (r.◌>>◌ (r.mark m.Comma) (r.pure (closed_end all))) (r.pure (open_end all))) T
  ending all = either_swapped (bind_reads anything mark_reads (λ _. pure_reads) (λ a ts us b h s. tt)) pure_reads
      (λ ts us a h s. mark_begins.begins ts h.0 h.1 h.2) (λ ts us a h s. subst (λ v. sees m.Comma v ≡ false) (sym h.0) (at_end us s).0)

  list_ends : (all : List A) (ts us : Tokens) (b : B) → l.◌or◌ (l.pure (open_end all)) (l.◌>>◌ (l.mark m.Comma) (l.pure (closed_end all))) ts us b → T us → Ends m.Comma item read S reads begins at_comma ts
  unfolding f.another
  list_ends all ts us b h s = ⊎_elim
      (λ k. subst (λ v. (f.another m.Comma v ≡ false) × S v) (sym k.0) (ap (λ c. c && expr_begins (rest us)) (at_end us s).0, (at_end us s).1))
      (λ k. (ap (λ (v : Tokens). sees m.Comma v && expr_begins (rest v)) k.2.1 ∙ ap (λ c. c && expr_begins k.0) (sym (ap (sees m.Comma) k.2.1) ∙ mark_begins.begins ts k.0 k.1 k.2) ∙ ap expr_begins k.3.0 ∙ (at_end us s).2, at_comma ts (mark_begins.begins ts k.0 k.1 k.2))) h

  pub listed_reads : Reads (g.listed item open_end closed_end) (f.listed read open_end closed_end) T
  listed_reads = bind_reads (Ends m.Comma item read S reads begins at_comma) (separated_reads m.Comma item read S reads begins at_comma) ending list_ends

  pub listed_begins : Begins (g.listed item open_end closed_end) expr_begins
  listed_begins = begins_then _ T (separated_begins m.Comma item read S reads begins at_comma) ending

-- [ item { "," item } [ "," ] ]
module _ {A : Type 0} (item : Language A) (read : Reader A) (S T : Tokens → Type 0)
    (reads : Reads item read S) (begins : Begins item expr_begins) (at_comma : (ts : Tokens) → sees m.Comma ts ≡ true → S ts)
    (at_end : (ts : Tokens) → T ts → (sees m.Comma ts ≡ false) × S ts × (expr_begins ts ≡ false)) where
  pub any_listed_reads : Reads (g.any_listed item) (f.any_listed read) T
  any_listed_reads = either_swapped (listed_reads item read S T (λ all. all) (λ all. all) reads begins at_comma at_end) pure_reads
      (λ ts us a h s. (listed_begins item read S T (λ all. all) (λ all. all) reads begins at_comma at_end).begins ts us a h)
      (λ ts us a h s. subst (λ v. expr_begins v ≡ false) (sym h.0) (at_end us s).2)
