-- What stands behind an atom is read exactly.
use Rattle.std.specs.Prelude.{◌≡◌, Bool, true, false, not, ◌&&◌, Option, Some, None}
use Rattle.std.proofs.Common.{refl, sym, ap, subst, ◌∙◌, inl, inr, ⊎_elim}
use Rattle.kishu_language.specs.declared.token.Mark.TheVariants as m
use Rattle.kishu_language.specs.trees.Tree.{Expression, Trailer, Argument}
use Rattle.kishu_language.specs.trees.Tree as t
use Rattle.kishu_language.specs.grammar.Language.{Tokens, Language}
use Rattle.kishu_language.specs.grammar.Language as l
use Rattle.kishu_language.specs.grammar.Grammar.{Phrase, exprs, expr}
use Rattle.kishu_language.specs.grammar.Grammar as g
use Rattle.kishu_language.specs.reading.Reader.{Reader, rest, sees, sees_one}
use Rattle.kishu_language.specs.reading.Reader as r
use Rattle.kishu_language.specs.reading.ReadExpressions.{begins_expr, expr_begins, begins_trailer}
use Rattle.kishu_language.specs.reading.ReadExpressions as f
use Rattle.kishu_language_laws.specs.reading.Exact.{Reads, Begins, anything, pure_reads, where_reads, bind_reads, either_reads, either_swapped, begins_then, begins_or, begins_by, same_reads, same_begins, fewer_ends, mark_reads, mark_begins, token_reads, token_begins, name_finds, optional_reads}
use Rattle.kishu_language_laws.specs.reading.Follow.{Stop, not_true, starts_unseen}
use Rattle.kishu_language_laws.specs.reading.ExactLists.{any_listed_reads}
use Rattle.kishu_language_laws.specs.reading.ExactOperators.{other_mark, sees_table}
use Rattle.kishu_language_laws.specs.reading.ExactInner.{Ends_phrase, Closed, close_exprs, close_expr, comma_expr, close_list, Inner, name_is_expr, marked_reads, marked_begins, guarded_reads, guarded_begins}

-- behind a plain argument
abbrev pub EndsArgument : Tokens → Type 0
EndsArgument ts = Stop 8 ts × (sees m.Assign ts ≡ false)

module _ (room : Bool) (inner : Phrase → Language Expression) (read : Phrase → Reader Expression) (deeper : Inner inner read) where
  attribute_reads : Reads (g.attribute inner) (f.attribute read) anything
  unfolding g.attribute f.attribute
  attribute_reads = bind_reads anything mark_reads (λ _. bind_reads anything (token_reads name_finds) (λ x. pure_reads) (λ a ts us b h s. tt)) (λ a ts us b h s. tt)

  keyword_reads : Reads (g.keyword_argument inner)
      (r.◌>>=◌ (r.token r.a_name) (λ x. r.◌>>◌ (r.mark m.Assign) (r.◌>>=◌ (read expr) (λ value. r.pure (t.keyword x value))))) EndsArgument
  unfolding g.keyword_argument
  keyword_reads = bind_reads anything (token_reads name_finds)
      (λ x. bind_reads anything mark_reads
      (λ _. bind_reads (Stop 8) (deeper.reads expr) (λ value. pure_reads) (λ a ts us b h s. subst (Stop 8) (sym h.0) s.0)) (λ a ts us b h s. tt))
      (λ a ts us b h s. tt)

  keyword_seen : (ts us : Tokens) (a : Argument) → g.keyword_argument inner ts us a → f.keyword_begins ts ≡ true
  unfolding g.keyword_argument f.keyword_begins
  keyword_seen ts us a h = (λ i. ((token_begins name_finds).begins ts h.0 h.1 h.2 i) && (ap (λ (v : Tokens). sees m.Assign (rest v)) h.2.1 ∙ mark_begins.begins h.0 h.3.0 h.3.1 h.3.2) i)

  plain_reads : Reads (l.◌>>=◌ (inner expr) (λ value. l.pure (t.plain value))) (r.◌>>=◌ (read expr) (λ value. r.pure (t.plain value))) EndsArgument
  plain_reads = bind_reads (Stop 8) (deeper.reads expr) (λ value. pure_reads) (λ a ts us b h s. subst (Stop 8) (sym h.0) s.0)

  argument_reads : Reads (g.argument inner) (f.argument read) EndsArgument
  unfolding g.argument f.argument
  argument_reads = either_swapped keyword_reads plain_reads (λ ts us a h s. keyword_seen ts us a h)
      (λ ts us a h s. not_true (f.keyword_begins ts) (λ e. (let k : sees m.Assign h.0 ≡ true = deeper.named ts h.0 h.1 h.2 (subst (Stop 8) (sym h.3.0) s.0) e in let k2 : true ≡ false = sym k ∙ ap (sees m.Assign) h.3.0 ∙ s.1 in absurd cc)))

  argument_begins : Begins (g.argument inner) expr_begins
  unfolding g.argument g.keyword_argument
  argument_begins = begins_or (begins_then _ EndsArgument (deeper.begins expr) (λ value. pure_reads))
      (begins_by (begins_then _ EndsArgument (token_begins name_finds) (λ x. bind_reads anything mark_reads
      (λ _. bind_reads (Stop 8) (deeper.reads expr) (λ value. pure_reads) (λ a ts us b h s. subst (Stop 8) (sym h.0) s.0)) (λ a ts us b h s. tt))) name_is_expr)

  call_tail : Reads (l.◌>>=◌ (g.any_listed (g.argument inner)) (λ found. l.◌>>◌ (l.mark m.RightParenthesis) (l.◌>>◌ (l.where_true (g.arguments_fit found)) (l.pure (t.call (t.arguments found))))))
      (r.◌>>=◌ (f.any_listed (f.argument read)) (λ found. r.◌>>◌ (r.mark m.RightParenthesis) (r.◌>>◌ (r.where_true (g.arguments_fit found)) (r.pure (t.call (t.arguments found)))))) anything
  call_tail = bind_reads (λ ts. sees m.RightParenthesis ts ≡ true)
      (any_listed_reads (g.argument inner) (f.argument read) EndsArgument (λ ts. sees m.RightParenthesis ts ≡ true) argument_reads argument_begins
      (λ ts h. (comma_expr ts h, other_mark m.Comma m.Assign ts h refl))
      (λ ts h. (let c = close_list m.RightParenthesis (refl, refl) ts h in (c.0, (c.1, other_mark m.RightParenthesis m.Assign ts h refl), c.2))))
      (λ found. bind_reads anything mark_reads (λ _. bind_reads anything where_reads (λ _. pure_reads) (λ a ts us b h s. tt)) (λ a ts us b h s. tt))
      (λ found ts us b h s. mark_begins.begins ts h.0 h.1 h.2)

  call_reads : Reads (g.call inner) (f.call read) anything
  unfolding g.call f.call
  call_reads = marked_reads m.LeftParenthesis call_tail

  call_begins : Begins (g.call inner) (sees m.LeftParenthesis)
  unfolding g.call
  call_begins = marked_begins m.LeftParenthesis call_tail

  attribute_begins : Begins (g.attribute inner) (sees m.Dot)
  unfolding g.attribute
  attribute_begins = begins_then _ anything mark_begins (λ _. bind_reads anything (token_reads name_finds) (λ x. pure_reads) (λ a ts us b h s. tt))

  -- what ends a bound
  abbrev EndsBound : Tokens → Type 0
  EndsBound ts = Stop 8 ts × (expr_begins ts ≡ false)

  bound_reads : Reads (l.optional (inner expr)) (f.bound read) EndsBound
  bound_reads = optional_reads expr_begins EndsBound (fewer_ends (deeper.reads expr) (λ ts s. s.0)) (deeper.begins expr) (λ ts s. s.1)

  -- the rest of a slice, behind its start
  slice_tail : Option Expression → Language Trailer
  slice_tail start =
      l.◌>>◌ (l.mark m.Colon) (l.◌>>=◌ (l.optional (inner expr)) (λ stop. l.◌>>=◌ (l.◌or◌ (l.pure None) (l.◌>>◌ (l.mark m.Colon) (l.optional (inner expr))))
      (λ step. l.pure (t.slice (t.bound_of start) (t.bound_of stop) (t.bound_of step)))))

  closed_bound : (ts : Tokens) → Closed ts → EndsBound ts
  closed_bound ts h = (close_expr m.RightBracket refl ts h, (close_exprs m.RightBracket (refl, refl) ts h).1)

  colon_bound : (ts : Tokens) → sees m.Colon ts ≡ true → EndsBound ts
  colon_bound ts h = (close_expr m.Colon refl ts h, (close_exprs m.Colon (refl, refl) ts h).1)

  step_reads : Reads (l.◌or◌ (l.pure None) (l.◌>>◌ (l.mark m.Colon) (l.optional (inner expr)))) (r.either (sees m.Colon) (r.◌>>◌ (r.mark m.Colon) (f.bound read)) (r.pure None)) Closed
  step_reads = either_swapped (bind_reads anything mark_reads (λ _. fewer_ends bound_reads closed_bound) (λ a ts us b h s. tt)) pure_reads
      (λ ts us a h s. mark_begins.begins ts h.0 h.1 h.2) (λ ts us a h s. subst (λ v. sees m.Colon v ≡ false) (sym h.0) (other_mark m.RightBracket m.Colon us s refl))

  step_ends : (ts us : Tokens) (a : Option Expression) → l.◌or◌ (l.pure None) (l.◌>>◌ (l.mark m.Colon) (l.optional (inner expr))) ts us a → Closed us → EndsBound ts
  step_ends ts us a h s = ⊎_elim (λ k. subst EndsBound (sym k.0) (closed_bound us s)) (λ k. colon_bound ts (mark_begins.begins ts k.0 k.1 k.2)) h

  slice_after_reads : (start : Option Expression) → Reads (slice_tail start) (f.slice_after read start) Closed
  unfolding slice_tail f.slice_after
  slice_after_reads start = bind_reads anything mark_reads
      (λ _. bind_reads EndsBound bound_reads
      (λ stop. bind_reads Closed step_reads (λ step. pure_reads) (λ a ts us b h s. subst Closed (sym h.0) s))
      (λ stop ts us b h s. step_ends ts h.0 h.1 h.2 (subst Closed (sym h.3.0) s)))
      (λ a ts us b h s. tt)

  -- between the brackets, as it is read
  inside_language : Language Trailer
  inside_language = l.◌or◌ (slice_tail None) (l.◌>>=◌ (inner exprs) (λ index. l.◌or◌ (l.◌>>◌ (l.where_true (not (f.is_several index))) (slice_tail (Some index))) (l.pure (t.index index))))

  tail_colon : (start : Option Expression) (ts us : Tokens) (a : Trailer) → slice_tail start ts us a → sees m.Colon ts ≡ true
  unfolding slice_tail
  tail_colon start ts us a h = mark_begins.begins ts h.0 h.1 h.2

  behind_index : (index : Expression) → Reads (l.◌or◌ (l.◌>>◌ (l.where_true (not (f.is_several index))) (slice_tail (Some index))) (l.pure (t.index index)))
      (r.either (sees m.Colon) (r.◌>>◌ (r.where_true (not (f.is_several index))) (f.slice_after read (Some index))) (r.pure (t.index index))) Closed
  behind_index index = either_reads (bind_reads anything where_reads (λ _. slice_after_reads (Some index)) (λ a ts us b h s. tt)) pure_reads
      (λ ts us a h s. ap (sees m.Colon) h.2.0 ∙ tail_colon (Some index) h.0 us a h.3)
      (λ ts us a h s. subst (λ v. sees m.Colon v ≡ false) (sym h.0) (other_mark m.RightBracket m.Colon us s refl))

  behind_ends : (index : Expression) (ts us : Tokens) (b : Trailer)
      → l.◌or◌ (l.◌>>◌ (l.where_true (not (f.is_several index))) (slice_tail (Some index))) (l.pure (t.index index)) ts us b → Closed us → Ends_phrase exprs ts
  behind_ends index ts us b h s = ⊎_elim
      (λ k. close_exprs m.Colon (refl, refl) ts (ap (sees m.Colon) k.2.0 ∙ tail_colon (Some index) k.0 us b k.3))
      (λ k. subst (Ends_phrase exprs) (sym k.0) (close_exprs m.RightBracket (refl, refl) us s)) h

  inside_reads : Reads inside_language (r.either (sees m.Colon) (f.slice_after read None) (r.◌>>=◌ (read exprs) (λ index. r.either (sees m.Colon) (r.◌>>◌ (r.where_true (not (f.is_several index))) (f.slice_after read (Some index))) (r.pure (t.index index))))) Closed
  unfolding inside_language
  inside_reads = either_reads (slice_after_reads None)
      (bind_reads (Ends_phrase exprs) (deeper.reads exprs) behind_index behind_ends)
      (λ ts us a h s. tail_colon None ts us a h)
      (λ ts us a h s. starts_unseen begins_expr m.Colon ts ((deeper.begins exprs).begins ts h.0 h.1 h.2) refl)

  bracket_language : Language Trailer
  bracket_language = l.◌>>◌ (l.mark m.LeftBracket) (l.◌>>=◌ inside_language (λ found. l.◌>>◌ (l.mark m.RightBracket) (l.pure found)))

  bracket_tail : Reads (l.◌>>=◌ inside_language (λ found. l.◌>>◌ (l.mark m.RightBracket) (l.pure found)))
      (r.◌>>=◌ (r.either (sees m.Colon) (f.slice_after read None) (r.◌>>=◌ (read exprs) (λ index. r.either (sees m.Colon) (r.◌>>◌ (r.where_true (not (f.is_several index))) (f.slice_after read (Some index))) (r.pure (t.index index)))))
      (λ found. r.◌>>◌ (r.mark m.RightBracket) (r.pure found))) anything
  bracket_tail = bind_reads Closed inside_reads (λ found. bind_reads anything mark_reads (λ _. pure_reads) (λ a ts us b h s. tt)) (λ found ts us b h s. mark_begins.begins ts h.0 h.1 h.2)

  bracket_reads : Reads bracket_language (f.item_or_slice read) anything
  unfolding bracket_language f.item_or_slice
  bracket_reads = marked_reads m.LeftBracket bracket_tail

  bracket_begins : Begins bracket_language (sees m.LeftBracket)
  unfolding bracket_language
  bracket_begins = marked_begins m.LeftBracket bracket_tail

  not_false : (b : Bool) → not b ≡ true → b ≡ false
  not_false true h = absurd cc
  not_false false h = refl

  slice_of : (ts mid at till end us : Tokens) (start : Option Expression) (found a : Trailer) (u v : Unit {0}) → l.mark m.LeftBracket ts mid u
      → l.optional (inner expr) mid at start → slice_tail start at till found → l.mark m.RightBracket till end v → end ≡ us → found ≡ a → g.slice inner ts us a
  unfolding slice_tail g.slice
  slice_of ts mid at till end us start found a u v left bound k right ends is =
      (mid, u, left, (at, start, bound, (k.0, k.1, k.2, (k.3.0, k.3.1, k.3.2, (k.3.3.0, k.3.3.1, k.3.3.2, (end, v, subst (λ (x : Tokens). l.mark m.RightBracket x end v) (sym k.3.3.3.0) right, (ends, k.3.3.3.1 ∙ is)))))))

  of_inside : (ts mid till end us : Tokens) (found a : Trailer) (u v : Unit {0}) → l.mark m.LeftBracket ts mid u → inside_language mid till found → l.mark m.RightBracket till end v → end ≡ us → found ≡ a
      → l.◌or◌ (g.item inner) (g.slice inner) ts us a
  unfolding inside_language g.item
  of_inside ts mid till end us found a u v left h right ends is = ⊎_elim
      (λ k. inr (slice_of ts mid mid till end us None found a u v left (inl (refl, refl)) k right ends is))
      (λ k. ⊎_elim
      (λ j. inr (slice_of ts mid j.0 till end us (Some k.1) found a u v left (inr (k.0, k.1, deeper.narrow mid k.0 k.1 k.2 (not_false (f.is_several k.1) j.2.1), (j.2.0, refl))) j.3 right ends is))
      (λ j. inl (mid, u, left, (k.0, k.1, k.2, (end, v, subst (λ (x : Tokens). l.mark m.RightBracket x end v) (sym j.0) right, (ends, j.1 ∙ is))))) k.3) h

  of_brackets : (ts us : Tokens) (a : Trailer) → bracket_language ts us a → l.◌or◌ (g.item inner) (g.slice inner) ts us a
  unfolding bracket_language
  of_brackets ts us a h = of_inside ts h.0 h.3.0 h.3.3.0 us h.3.1 a h.1 h.3.3.1 h.2 h.3.2 h.3.3.2 h.3.3.3.0 h.3.3.3.1

  to_inside : (mid at till : Tokens) (start : Option Expression) (found : Trailer) → l.optional (inner expr) mid at start → slice_tail start at till found → inside_language mid till found
  unfolding inside_language
  to_inside mid at till start found bound tail = ⊎_elim
      (λ k. inl (subst (λ s. slice_tail s mid till found) (sym k.1) (subst (λ (x : Tokens). slice_tail start x till found) (sym k.0) tail)))
      (λ k. inr (
        k.0,
        k.1,
        deeper.widen mid k.0 k.1 k.2,
        inl (
          k.0,
          tt,
          (refl, ap not (deeper.single mid k.0 k.1 k.2)),
          subst (λ s. slice_tail s k.0 till found) (sym k.3.1) (subst (λ (x : Tokens). slice_tail start x till found) (sym k.3.0) tail),
        ),
      )) bound

  to_tail : (at till : Tokens) (start stop step : Option Expression) (c d : Tokens) (w : Unit {0}) → l.mark m.Colon at c w → l.optional (inner expr) c d stop
      → l.◌or◌ (l.pure None) (l.◌>>◌ (l.mark m.Colon) (l.optional (inner expr))) d till step → slice_tail start at till (t.slice (t.bound_of start) (t.bound_of stop) (t.bound_of step))
  unfolding slice_tail
  to_tail at till start stop step c d w colon second third = (c, w, colon, (d, stop, second, (till, step, third, (refl, refl))))

  -- the grammar's items and slices are just these
  to_brackets : (ts us : Tokens) (a : Trailer) → l.◌or◌ (g.item inner) (g.slice inner) ts us a → bracket_language ts us a
  unfolding bracket_language g.item g.slice inside_language
  to_brackets ts us a h = ⊎_elim
      (λ k. (k.0, k.1, k.2, (k.3.0, t.index k.3.1, inr (k.3.0, k.3.1, k.3.2, inr (refl, refl)), k.3.3)))
      (λ k. let s = k.3 in let c = s.3 in let d = c.3 in let e = d.3 in
      (k.0, k.1, k.2, (e.0, t.slice (t.bound_of s.1) (t.bound_of d.1) (t.bound_of e.1), to_inside k.0 s.0 e.0 s.1 _ s.2 (to_tail s.0 e.0 s.1 d.1 e.1 c.0 d.0 c.1 c.2 d.2 e.2), e.3))) h

  item_or_slice_reads : Reads (l.◌or◌ (g.item inner) (g.slice inner)) (f.item_or_slice read) anything
  item_or_slice_reads = same_reads bracket_reads of_brackets to_brackets

  item_or_slice_begins : Begins (l.◌or◌ (g.item inner) (g.slice inner)) (sees m.LeftBracket)
  item_or_slice_begins = same_begins bracket_begins to_brackets

  pub trailer_reads : Reads (g.trailer room inner) (f.trailer room read) anything
  unfolding g.trailer f.trailer
  trailer_reads = either_reads attribute_reads
      (guarded_reads
      (either_reads call_reads item_or_slice_reads (λ ts us a h s. call_begins.begins ts us a h)
      (λ ts us a h s. other_mark m.LeftBracket m.LeftParenthesis ts (item_or_slice_begins.begins ts us a h) refl)))
      (λ ts us a h s. attribute_begins.begins ts us a h)
      (λ ts us a h s. ap (sees m.Dot) h.2.0 ∙ ⊎_elim
      (λ k. other_mark m.LeftParenthesis m.Dot h.0 (call_begins.begins h.0 us a k) refl)
      (λ k. other_mark m.LeftBracket m.Dot h.0 (item_or_slice_begins.begins h.0 us a k) refl) h.3)

  pub trailer_begins : Begins (g.trailer room inner) (sees_one begins_trailer)
  unfolding g.trailer
  trailer_begins = begins_or (begins_by attribute_begins (λ ts h. sees_table begins_trailer m.Dot tt ts refl h))
      (guarded_begins
      (begins_or (begins_by call_begins (λ ts h. sees_table begins_trailer m.LeftParenthesis tt ts refl h))
      (begins_by item_or_slice_begins (λ ts h. sees_table begins_trailer m.LeftBracket tt ts refl h))))
