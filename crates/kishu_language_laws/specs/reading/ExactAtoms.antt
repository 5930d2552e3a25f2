-- Atoms are read exactly.
use Rattle.std.specs.Prelude.{◌≡◌, ℕ, ◌<◌, Bool, true, false, [], ◌∷◌, Some, is_some}
use Rattle.std.proofs.Common.{refl, sym, ap, subst, ◌∙◌, arith, ⊎_elim}
use Rattle.kishu_language.specs.declared.token.Mark.{Mark}
use Rattle.kishu_language.specs.declared.token.Mark.TheVariants as m
use Rattle.kishu_language.specs.tokens.Layout.{Kind}
use Rattle.kishu_language.specs.tokens.Layout as kind
use Rattle.kishu_language.specs.trees.Tree.{Expression}
use Rattle.kishu_language.specs.trees.Tree as t
use Rattle.kishu_language.specs.grammar.Language.{Tokens, Language}
use Rattle.kishu_language.specs.grammar.Language as l
use Rattle.kishu_language.specs.grammar.Grammar.{Phrase, exprs, expr}
use Rattle.kishu_language.specs.grammar.Grammar as g
use Rattle.kishu_language.specs.reading.Reader.{Reader, sees_some, sees}
use Rattle.kishu_language.specs.reading.Reader as r
use Rattle.kishu_language.specs.reading.ReadExpressions.{starts_with, begins_operand, expr_begins}
use Rattle.kishu_language.specs.reading.ReadExpressions as f
use Rattle.kishu_language_laws.specs.reading.Exact.{Reads, Begins, anything, pure_reads, bind_reads, either_reads, either_swapped, begins_then, begins_or, begins_by, fewer_ends, mark_reads, mark_begins, token_reads, token_begins, name_finds, integer_finds, text_finds, one_of_reads, one_of_begins, some_reads, some_begins}
use Rattle.kishu_language_laws.specs.reading.Follow.{kind_follow, follow, Stop, not_true, sees_is, sees_starts}
use Rattle.kishu_language_laws.specs.reading.ExactLists.{any_listed_reads}
use Rattle.kishu_language_laws.specs.reading.ExactInner.{Ends_phrase, Closed, close_exprs, close_expr, comma_expr, close_list, Inner, marked_reads, marked_begins, guarded_reads, guarded_begins}

-- which alternative of an atom begins so
abbrev pub mark_atom : Mark → ℕ
mark_atom m.LeftParenthesis = 3
mark_atom m.LeftBracket = 4
mark_atom m.LeftBrace = 5
mark_atom _ = 6

abbrev pub kind_atom : Kind → ℕ
kind_atom (kind.name x) = 0
kind_atom (kind.integer z) = 1
kind_atom (kind.quoted x) = 2
kind_atom (kind.mark k) = mark_atom k
kind_atom kind.newline = 7
kind_atom kind.indent = 7
kind_atom kind.dedent = 7

abbrev pub which_atom : Tokens → ℕ
which_atom [] = 7
which_atom (u ∷ ts) = kind_atom u.kind

name_atom : (ts : Tokens) → sees_some r.a_name ts ≡ true → which_atom ts ≡ 0
name_atom [] h = absurd cc
name_atom (u ∷ ts) h = by_kind u.kind h
  where
    by_kind : (k : Kind) → is_some (r.a_name k) ≡ true → kind_atom k ≡ 0
    by_kind (kind.name x) h = refl
    by_kind (kind.integer z) h = absurd cc
    by_kind (kind.quoted x) h = absurd cc
    by_kind kind.newline h = absurd cc
    by_kind kind.indent h = absurd cc
    by_kind kind.dedent h = absurd cc
    by_kind (kind.mark k) h = absurd cc

integer_atom : (ts : Tokens) → sees_some r.an_integer ts ≡ true → which_atom ts ≡ 1
integer_atom [] h = absurd cc
integer_atom (u ∷ ts) h = by_kind u.kind h
  where
    by_kind : (k : Kind) → is_some (r.an_integer k) ≡ true → kind_atom k ≡ 1
    by_kind (kind.integer z) h = refl
    by_kind (kind.name x) h = absurd cc
    by_kind (kind.quoted x) h = absurd cc
    by_kind kind.newline h = absurd cc
    by_kind kind.indent h = absurd cc
    by_kind kind.dedent h = absurd cc
    by_kind (kind.mark k) h = absurd cc

text_atom : (ts : Tokens) → sees_some r.a_text ts ≡ true → which_atom ts ≡ 2
text_atom [] h = absurd cc
text_atom (u ∷ ts) h = by_kind u.kind h
  where
    by_kind : (k : Kind) → is_some (r.a_text k) ≡ true → kind_atom k ≡ 2
    by_kind (kind.quoted x) h = refl
    by_kind (kind.name x) h = absurd cc
    by_kind (kind.integer z) h = absurd cc
    by_kind kind.newline h = absurd cc
    by_kind kind.indent h = absurd cc
    by_kind kind.dedent h = absurd cc
    by_kind (kind.mark k) h = absurd cc

sees_atom : (k : Mark) (ts : Tokens) → sees k ts ≡ true → which_atom ts ≡ mark_atom k
sees_atom k ts h = let p = sees_is k ts h in ap which_atom p.1 ∙ ap kind_atom p.2

text_follow : (ts : Tokens) → sees_some r.a_text ts ≡ true → follow ts ≡ 0
text_follow [] h = absurd cc
text_follow (u ∷ ts) h = by_kind u.kind h
  where
    by_kind : (k : Kind) → is_some (r.a_text k) ≡ true → kind_follow k ≡ 0
    by_kind (kind.quoted x) h = refl
    by_kind (kind.name x) h = absurd cc
    by_kind (kind.integer z) h = absurd cc
    by_kind kind.newline h = absurd cc
    by_kind kind.indent h = absurd cc
    by_kind kind.dedent h = absurd cc
    by_kind (kind.mark k) h = absurd cc

name_reads : Reads g.name f.name anything
name_reads = bind_reads anything (token_reads name_finds) (λ x. pure_reads) (λ a ts us b h s. tt)

name_begins : Begins g.name (sees_some r.a_name)
name_begins = begins_then _ anything (token_begins name_finds) (λ x. pure_reads)

integer_reads : Reads g.integer f.integer anything
integer_reads = bind_reads anything (token_reads integer_finds) (λ x. pure_reads) (λ a ts us b h s. tt)

integer_begins : Begins g.integer (sees_some r.an_integer)
integer_begins = begins_then _ anything (token_begins integer_finds) (λ x. pure_reads)

text_end : (ts : Tokens) → Stop 0 ts → (sees_some r.a_text ts ≡ false) × anything ts
text_end ts s = (not_true (sees_some r.a_text ts) (λ h. omega (arith, text_follow ts h)), tt)

parts_reads : Reads (l.some (l.token kind.quoted)) (r.some (sees_some r.a_text) (r.token r.a_text)) (Stop 0)
parts_reads = some_reads anything (token_reads text_finds) (sees_some r.a_text) (Stop 0) (token_begins text_finds) text_end (λ ts us a h. tt)

text_reads : Reads g.text f.text (Stop 0)
text_reads = bind_reads (Stop 0) parts_reads (λ parts. pure_reads) (λ a ts us b h s. subst (Stop 0) (sym h.0) s)

text_begins : Begins g.text (sees_some r.a_text)
text_begins = begins_then _ (Stop 0)
    (some_begins anything (token_reads text_finds) (sees_some r.a_text) (Stop 0) (token_begins text_finds) text_end (λ ts us a h. tt) (token_begins text_finds))
    (λ parts. pure_reads)

constant_atom : (k : Mark) (a : Expression) → g.constant_of k ≡ Some a → mark_atom k ≡ 6
constant_atom m.None a h = refl
constant_atom m.True a h = refl
constant_atom m.False a h = refl
constant_atom _ a h = absurd cc

constant_operand : (k : Mark) (a : Expression) → g.constant_of k ≡ Some a → begins_operand k ≡ true
constant_operand m.None a h = refl
constant_operand m.True a h = refl
constant_operand m.False a h = refl
constant_operand _ a h = absurd cc

name_operand : (ts : Tokens) → sees_some r.a_name ts ≡ true → starts_with begins_operand ts ≡ true
name_operand [] h = absurd cc
name_operand (u ∷ ts) h = by_kind u.kind h
  where
    by_kind : (k : Kind) → is_some (r.a_name k) ≡ true → f.kind_begins begins_operand k ≡ true
    by_kind (kind.name x) h = refl
    by_kind (kind.integer z) h = absurd cc
    by_kind (kind.quoted x) h = absurd cc
    by_kind kind.newline h = absurd cc
    by_kind kind.indent h = absurd cc
    by_kind kind.dedent h = absurd cc
    by_kind (kind.mark k) h = absurd cc

integer_operand : (ts : Tokens) → sees_some r.an_integer ts ≡ true → starts_with begins_operand ts ≡ true
integer_operand [] h = absurd cc
integer_operand (u ∷ ts) h = by_kind u.kind h
  where
    by_kind : (k : Kind) → is_some (r.an_integer k) ≡ true → f.kind_begins begins_operand k ≡ true
    by_kind (kind.name x) h = absurd cc
    by_kind (kind.integer z) h = refl
    by_kind (kind.quoted x) h = absurd cc
    by_kind kind.newline h = absurd cc
    by_kind kind.indent h = absurd cc
    by_kind kind.dedent h = absurd cc
    by_kind (kind.mark k) h = absurd cc

text_operand : (ts : Tokens) → sees_some r.a_text ts ≡ true → starts_with begins_operand ts ≡ true
text_operand [] h = absurd cc
text_operand (u ∷ ts) h = by_kind u.kind h
  where
    by_kind : (k : Kind) → is_some (r.a_text k) ≡ true → f.kind_begins begins_operand k ≡ true
    by_kind (kind.name x) h = absurd cc
    by_kind (kind.integer z) h = absurd cc
    by_kind (kind.quoted x) h = refl
    by_kind kind.newline h = absurd cc
    by_kind kind.indent h = absurd cc
    by_kind kind.dedent h = absurd cc
    by_kind (kind.mark k) h = absurd cc

-- no earlier alternative of an atom
unseen_atom : (n : ℕ) (test : Tokens → Bool) → ((ts : Tokens) → test ts ≡ true → which_atom ts ≡ n) → (ts : Tokens) → n < which_atom ts → test ts ≡ false
unseen_atom n test is ts lt = not_true (test ts) (λ h. omega (arith, is ts h))

module _ (room : Bool) (inner : Phrase → Language Expression) (read : Phrase → Reader Expression) (deeper : Inner inner read) where
  parenthesised_tail : Reads (l.◌>>=◌ (l.◌or◌ (l.pure (g.several [])) (l.◌>>=◌ (inner exprs) (λ e. l.pure (t.paren e)))) (λ inside. l.◌>>◌ (l.mark m.RightParenthesis) (l.pure inside)))
      (r.◌>>=◌ (r.either expr_begins (r.◌>>=◌ (read exprs) (λ e. r.pure (t.paren e))) (r.pure (g.several []))) (λ inside. r.◌>>◌ (r.mark m.RightParenthesis) (r.pure inside))) anything
  parenthesised_tail = bind_reads (λ ts. sees m.RightParenthesis ts ≡ true)
      (either_swapped
      (bind_reads (Ends_phrase exprs) (deeper.reads exprs) (λ e. pure_reads) (λ a ts us b h s. subst (Ends_phrase exprs) (sym h.0) (close_exprs m.RightParenthesis (refl, refl) us s)))
      pure_reads
      (λ ts us a h s. (deeper.begins exprs).begins ts h.0 h.1 h.2)
      (λ ts us a h s. subst (λ v. expr_begins v ≡ false) (sym h.0) (close_exprs m.RightParenthesis (refl, refl) us s).1))
      (λ inside. bind_reads anything mark_reads (λ _. pure_reads) (λ a ts us b h s. tt))
      (λ inside ts us b h s. mark_begins.begins ts h.0 h.1 h.2)

  parenthesised_reads : Reads (g.parenthesised inner) (f.parenthesised read) anything
  unfolding g.parenthesised f.parenthesised
  parenthesised_reads = marked_reads m.LeftParenthesis parenthesised_tail

  parenthesised_begins : Begins (g.parenthesised inner) (sees m.LeftParenthesis)
  unfolding g.parenthesised
  parenthesised_begins = marked_begins m.LeftParenthesis parenthesised_tail

  list_tail : Reads (l.◌>>=◌ (g.any_listed (inner expr)) (λ found. l.◌>>◌ (l.mark m.RightBracket) (l.pure (t.list (t.expressions found)))))
      (r.◌>>=◌ (f.any_listed (read expr)) (λ found. r.◌>>◌ (r.mark m.RightBracket) (r.pure (t.list (t.expressions found))))) anything
  list_tail = bind_reads Closed
      (any_listed_reads (inner expr) (read expr) (Stop 8) Closed (deeper.reads expr) (deeper.begins expr) comma_expr (close_list m.RightBracket (refl, refl)))
      (λ found. bind_reads anything mark_reads (λ _. pure_reads) (λ a ts us b h s. tt))
      (λ found ts us b h s. mark_begins.begins ts h.0 h.1 h.2)

  list_atom_reads : Reads (g.list inner) (f.list read) anything
  unfolding g.list f.list
  list_atom_reads = marked_reads m.LeftBracket list_tail

  list_atom_begins : Begins (g.list inner) (sees m.LeftBracket)
  unfolding g.list
  list_atom_begins = marked_begins m.LeftBracket list_tail

  pair_reads : Reads (g.pair inner) (f.pair read) (Stop 8)
  unfolding g.pair f.pair
  pair_reads = bind_reads (Stop 8) (deeper.reads expr)
      (λ key. bind_reads anything mark_reads (λ _. bind_reads (Stop 8) (deeper.reads expr) (λ value. pure_reads) (λ a ts us b h s. subst (Stop 8) (sym h.0) s)) (λ a ts us b h s. tt))
      (λ key ts us b h s. close_expr m.Colon refl ts (mark_begins.begins ts h.0 h.1 h.2))

  pair_begins : Begins (g.pair inner) expr_begins
  unfolding g.pair
  pair_begins = begins_then _ (Stop 8) (deeper.begins expr)
      (λ key. bind_reads anything mark_reads (λ _. bind_reads (Stop 8) (deeper.reads expr) (λ value. pure_reads) (λ a ts us b h s. subst (Stop 8) (sym h.0) s)) (λ a ts us b h s. tt))

  dict_tail : Reads (l.◌>>=◌ (g.any_listed (g.pair inner)) (λ found. l.◌>>◌ (l.mark m.RightBrace) (l.pure (t.dict (t.pairs found)))))
      (r.◌>>=◌ (f.any_listed (f.pair read)) (λ found. r.◌>>◌ (r.mark m.RightBrace) (r.pure (t.dict (t.pairs found))))) anything
  dict_tail = bind_reads (λ ts. sees m.RightBrace ts ≡ true)
      (any_listed_reads (g.pair inner) (f.pair read) (Stop 8) (λ ts. sees m.RightBrace ts ≡ true) pair_reads pair_begins comma_expr (close_list m.RightBrace (refl, refl)))
      (λ found. bind_reads anything mark_reads (λ _. pure_reads) (λ a ts us b h s. tt))
      (λ found ts us b h s. mark_begins.begins ts h.0 h.1 h.2)

  dict_reads : Reads (g.dict inner) (f.dict read) anything
  unfolding g.dict f.dict
  dict_reads = marked_reads m.LeftBrace dict_tail

  dict_begins : Begins (g.dict inner) (sees m.LeftBrace)
  unfolding g.dict
  dict_begins = marked_begins m.LeftBrace dict_tail

  -- ---- atoms

  constant_is : (ts us : Tokens) (a : Expression) → l.one_of g.constant_of ts us a → which_atom ts ≡ 6
  constant_is ts us a h = ap which_atom h.2 ∙ ap kind_atom h.3 ∙ constant_atom h.1 a h.4

  dict_is : (ts us : Tokens) (a : Expression) → g.bracketed room (g.dict inner) ts us a → which_atom ts ≡ 5
  dict_is ts us a h = sees_atom m.LeftBrace ts ((guarded_begins dict_begins).begins ts us a h)

  list_is : (ts us : Tokens) (a : Expression) → g.bracketed room (g.list inner) ts us a → which_atom ts ≡ 4
  list_is ts us a h = sees_atom m.LeftBracket ts ((guarded_begins list_atom_begins).begins ts us a h)

  parenthesised_is : (ts us : Tokens) (a : Expression) → g.bracketed room (g.parenthesised inner) ts us a → which_atom ts ≡ 3
  parenthesised_is ts us a h = sees_atom m.LeftParenthesis ts ((guarded_begins parenthesised_begins).begins ts us a h)

  abbrev from_dict : Language Expression
  from_dict = l.◌or◌ (g.bracketed room (g.dict inner)) (l.one_of g.constant_of)

  abbrev from_list : Language Expression
  from_list = l.◌or◌ (g.bracketed room (g.list inner)) from_dict

  abbrev from_parenthesised : Language Expression
  from_parenthesised = l.◌or◌ (g.bracketed room (g.parenthesised inner)) from_list

  abbrev from_text : Language Expression
  from_text = l.◌or◌ g.text from_parenthesised

  abbrev from_integer : Language Expression
  from_integer = l.◌or◌ g.integer from_text

  dict_least : (ts us : Tokens) (a : Expression) → from_dict ts us a → 4 < which_atom ts
  dict_least ts us a h = ⊎_elim (λ k. omega (arith, dict_is ts us a k)) (λ k. omega (arith, constant_is ts us a k)) h

  list_least : (ts us : Tokens) (a : Expression) → from_list ts us a → 3 < which_atom ts
  list_least ts us a h = ⊎_elim (λ k. omega (arith, list_is ts us a k)) (λ k. omega (arith, dict_least ts us a k)) h

  parenthesised_least : (ts us : Tokens) (a : Expression) → from_parenthesised ts us a → 2 < which_atom ts
  parenthesised_least ts us a h = ⊎_elim (λ k. omega (arith, parenthesised_is ts us a k)) (λ k. omega (arith, list_least ts us a k)) h

  text_least : (ts us : Tokens) (a : Expression) → from_text ts us a → 1 < which_atom ts
  text_least ts us a h = ⊎_elim (λ k. omega (arith, text_atom ts (text_begins.begins ts us a k))) (λ k. omega (arith, parenthesised_least ts us a k)) h

  integer_least : (ts us : Tokens) (a : Expression) → from_integer ts us a → 0 < which_atom ts
  integer_least ts us a h = ⊎_elim (λ k. omega (arith, integer_atom ts (integer_begins.begins ts us a k))) (λ k. omega (arith, text_least ts us a k)) h

  pub atom_reads : Reads (g.atom room inner) (f.atom room read) (Stop 0)
  unfolding g.atom f.atom
  atom_reads =
      either_reads (fewer_ends name_reads (λ ts s. tt))
      (either_reads (fewer_ends integer_reads (λ ts s. tt))
      (either_reads text_reads
      (either_reads (fewer_ends (guarded_reads parenthesised_reads) (λ ts s. tt))
      (either_reads (fewer_ends (guarded_reads list_atom_reads) (λ ts s. tt))
      (either_reads (fewer_ends (guarded_reads dict_reads) (λ ts s. tt)) (one_of_reads g.constant_of)
      (λ ts us a h s. (guarded_begins dict_begins).begins ts us a h) (λ ts us a h s. unseen_atom 5 (sees m.LeftBrace) (sees_atom m.LeftBrace) ts (omega (arith, constant_is ts us a h))))
      (λ ts us a h s. (guarded_begins list_atom_begins).begins ts us a h) (λ ts us a h s. unseen_atom 4 (sees m.LeftBracket) (sees_atom m.LeftBracket) ts (dict_least ts us a h)))
      (λ ts us a h s. (guarded_begins parenthesised_begins).begins ts us a h) (λ ts us a h s. unseen_atom 3 (sees m.LeftParenthesis) (sees_atom m.LeftParenthesis) ts (list_least ts us a h)))
      (λ ts us a h s. text_begins.begins ts us a h) (λ ts us a h s. unseen_atom 2 (sees_some r.a_text) text_atom ts (parenthesised_least ts us a h)))
      (λ ts us a h s. integer_begins.begins ts us a h) (λ ts us a h s. unseen_atom 1 (sees_some r.an_integer) integer_atom ts (text_least ts us a h)))
      (λ ts us a h s. name_begins.begins ts us a h) (λ ts us a h s. unseen_atom 0 (sees_some r.a_name) name_atom ts (integer_least ts us a h))

  mark_operand : (k : Mark) → begins_operand k ≡ true → (ts : Tokens) → sees k ts ≡ true → starts_with begins_operand ts ≡ true
  mark_operand k is ts h = sees_starts begins_operand k ts h ∙ is

  pub atom_begins : Begins (g.atom room inner) (starts_with begins_operand)
  unfolding g.atom
  atom_begins =
      begins_or (begins_by name_begins name_operand)
      (begins_or (begins_by integer_begins integer_operand)
      (begins_or (begins_by text_begins text_operand)
      (begins_or (begins_by (guarded_begins parenthesised_begins) (mark_operand m.LeftParenthesis refl))
      (begins_or (begins_by (guarded_begins list_atom_begins) (mark_operand m.LeftBracket refl))
      (begins_or (begins_by (guarded_begins dict_begins) (mark_operand m.LeftBrace refl))
      (record {
        begins = λ ts us a h. ap (starts_with begins_operand) h.2 ∙ ap (f.kind_begins begins_operand) h.3 ∙ constant_operand h.1 a h.4;
        shorter = λ ts us a h. (one_of_begins g.constant_of).shorter ts us a h;
      }))))))
