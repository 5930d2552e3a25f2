-- The tree of a text, or the line of its fault, is read exactly.
use Rattle.std.specs.Prelude.{◌≡◌, ◌≢◌, ◌⊎◌, ℕ, zero, suc, ◌<◌, ◌≤◌, true, List, [], ◌∷◌, ◌++◌, length, Option, Some, None, Result, Ok, Err}
use Rattle.std.specs.List.{flat_map}
use Rattle.std.specs.Str.{chars}
use Rattle.std.proofs.Common.{refl, sym, ap, subst, ◌∙◌, arith, inl, inr, ⊎_elim}
use Rattle.std.proofs.lemmas.List.{flat_map_more}
use Rattle.kishu_language.specs.declared.profile.Profile.{Profile}
use Rattle.kishu_language.specs.tokens.Layout.{Token}
use Rattle.kishu_language.specs.tokens.Tokens.{tokens}
use Rattle.kishu_language.specs.trees.Tree.{Text, Statement}
use Rattle.kishu_language.specs.grammar.Language.{Tokens, Many, done, more}
use Rattle.kishu_language.specs.grammar.Language as l
use Rattle.kishu_language.specs.grammar.Grammar.{deepest}
use Rattle.kishu_language.specs.grammar.Refusals.{top}
use Rattle.kishu_language.specs.grammar.Statements.{chunk, program}
use Rattle.kishu_language.specs.grammar.Pieces.{starts_piece, next_piece, FirstBad, here, later, first_line}
use Rattle.kishu_language.specs.grammar.Parse.{plain_text, Parse, Line}
use Rattle.kishu_language.specs.reading.ReadText.{piece, and_pieces, pieces, tree_in, read_chars}
use Rattle.kishu_language_laws.specs.reading.ExactBlocks.{chunks_read}
use Rattle.kishu_language_laws.specs.reading.ExactPieces.{piece_shorter, chunk_starts, cut, piece_found, piece_only, piece_none}

ok_is : {A E : Type 0} {x y : A} → ◌≡◌ {A = Result A E} (Ok x) (Ok y) → x ≡ y
ok_is e = cc

err_is : {A E : Type 0} {x y : E} → ◌≡◌ {A = Result A E} (Err x) (Err y) → x ≡ y
err_is e = cc

abbrev flat : List (List Statement) → List Statement
flat parts = flat_map (λ part. part) parts

flat_more : (parts : List (List Statement)) (found : List Statement) → flat parts ++ found ≡ flat (parts ++ found ∷ [])
flat_more parts found = flat_map_more (λ part. part) [] parts found

pieces_ok : (line : ℕ) (o : Option (List Statement)) (f : List Statement → Result (List Statement) ℕ) (tree : List Statement) → and_pieces line o f ≡ Ok tree
    → (found : List Statement) × (o ≡ Some found) × (f found ≡ Ok tree)
pieces_ok line None f tree e = absurd cc
pieces_ok line (Some found) f tree e = (found, refl, e)

pieces_err : (line : ℕ) (o : Option (List Statement)) (f : List Statement → Result (List Statement) ℕ) (at : ℕ) → and_pieces line o f ≡ Err at
    → ((o ≡ None) × (line ≡ at)) ⊎ ((found : List Statement) × (o ≡ Some found) × (f found ≡ Err at))
pieces_err line None f at e = inl (refl, err_is e)
pieces_err line (Some found) f at e = inr (found, refl, e)

no_value : {A : Type 0} (o : Option A) → ((a : A) → o ≡ Some a → ⊥) → o ≡ None
no_value None h = refl
no_value (Some a) h = absurd (h a refl)

module _ (source : Text) where
  -- ---- trees

  pieces_found : (n : ℕ) (parts : List (List Statement)) (ts : Tokens) (tree : List Statement) → length ts ≤ n → pieces source n (flat parts) ts ≡ Ok tree
      → (all : List (List Statement)) × Many (l.one_more (chunk source deepest top)) parts ts [] all × (flat all ≡ tree)
  pieces_found zero parts [] tree fits e = (parts, done, ok_is e)
  pieces_found zero parts (u ∷ ts) tree fits e = absurd (omega arith)
  pieces_found (suc n) parts [] tree fits e = (parts, done, ok_is e)
  pieces_found (suc n) parts (u ∷ ts) tree fits e =
      let k = pieces_ok u.line (piece source (u ∷ ts)) (λ next. pieces source n (flat parts ++ next) (next_piece (u ∷ ts))) tree e in
      let rest = pieces_found n (parts ++ k.0 ∷ []) (next_piece (u ∷ ts)) tree (omega (arith, piece_shorter u ts 0))
      (ap (λ v. pieces source n v (next_piece (u ∷ ts))) (sym (flat_more parts k.0)) ∙ k.2) in
      (rest.0, more (next_piece (u ∷ ts), k.0, piece_found source (u ∷ ts) k.0 k.1, (refl, refl)) rest.1, rest.2)

  chunks_start : {parts all : List (List Statement)} {ts : Tokens} → Many (l.one_more (chunk source deepest top)) parts ts [] all → starts_piece ts ≡ true
  chunks_start done = refl
  chunks_start (more {ts = ts} h k) = chunk_starts ts (((chunks_read source deepest).begins top).begins ts h.0 h.1 h.2)

  one_piece : (n : ℕ) (found : List Statement) (next : List Statement) (ts vs : Tokens) → length vs < length ts → piece source ts ≡ Some next → next_piece ts ≡ vs
      → pieces source (suc n) found ts ≡ pieces source n (found ++ next) vs
  one_piece n found next [] vs less e cuts = absurd (omega arith)
  one_piece n found next (u ∷ ts) vs less e cuts =
      ap (λ o. and_pieces u.line o (λ next. pieces source n (found ++ next) (next_piece (u ∷ ts)))) e ∙ ap (pieces source n (found ++ next)) cuts

  pieces_only : (n : ℕ) (parts all : List (List Statement)) (ts : Tokens) → length ts ≤ n → Many (l.one_more (chunk source deepest top)) parts ts [] all
      → pieces source n (flat parts) ts ≡ Ok (flat all)
  pieces_only zero parts all ts fits done = refl
  pieces_only (suc n) parts all ts fits done = refl
  pieces_only zero parts all ts fits (more h k) = absurd (omega (arith, ((chunks_read source deepest).begins top).shorter ts h.0 h.1 h.2))
  pieces_only (suc n) parts all ts fits (more {b = next} {us = vs} h k) =
      let found = subst (λ (v : Tokens). chunk source deepest top ts v h.1) h.3.0 h.2 in
      let less = ((chunks_read source deepest).begins top).shorter ts vs h.1 found in
      let cuts = cut source ts vs h.1 found (chunks_start k) in
      let is = piece_only source ts h.1 (subst (λ (v : Tokens). chunk source deepest top ts v h.1) (sym cuts) found) in
      one_piece n (flat parts) h.1 ts vs less is cuts
      ∙ ap (λ v. pieces source n v vs) (flat_more parts h.1 ∙ ap flat h.3.1)
      ∙ pieces_only n next all vs (omega (arith, less)) k

  program_found : (ts : Tokens) (tree : List Statement) → pieces source (length ts) [] ts ≡ Ok tree → program source ts [] tree
  unfolding program
  program_found ts tree e = let k = pieces_found (length ts) [] ts tree (omega arith) e in ([], k.0, k.1, (refl, k.2))

  program_only : (ts : Tokens) (tree : List Statement) → program source ts [] tree → pieces source (length ts) [] ts ≡ Ok tree
  unfolding program
  program_only ts tree h =
      pieces_only (length ts) [] h.1 ts (omega arith) (subst (λ (v : Tokens). Many (l.one_more (chunk source deepest top)) [] ts v h.1) h.3.0 h.2) ∙ ap (λ v. Ok v) h.3.1

  -- ---- faults

  bad_found : (n : ℕ) (found : List Statement) (ts : Tokens) (line : ℕ) → length ts ≤ n → pieces source n found ts ≡ Err line → (at : Tokens) × FirstBad source ts at × (line ≡ first_line at)
  bad_found zero found ts line fits e = absurd cc
  bad_found (suc n) found [] line fits e = absurd cc
  bad_found (suc n) found (u ∷ ts) line fits e = ⊎_elim
      (λ k. (u ∷ ts, here (λ none. cc) (piece_none source (u ∷ ts) k.0), sym k.1))
      (λ k. (let rest = bad_found n (found ++ k.0) (next_piece (u ∷ ts)) line (omega (arith, piece_shorter u ts 0)) k.2 in
      (rest.0, later (k.0, piece_found source (u ∷ ts) k.0 k.1) rest.1, rest.2)))
      (pieces_err u.line (piece source (u ∷ ts)) (λ next. pieces source n (found ++ next) (next_piece (u ∷ ts))) line e)

  no_piece : (n : ℕ) (found : List Statement) (ts : Tokens) → length ts ≤ n → ts ≢ [] → piece source ts ≡ None → pieces source n found ts ≡ Err (first_line ts)
  no_piece n found [] fits some e = absurd (some refl)
  no_piece zero found (u ∷ ts) fits some e = absurd (omega arith)
  no_piece (suc n) found (u ∷ ts) fits some e = ap (λ o. and_pieces u.line o (λ next. pieces source n (found ++ next) (next_piece (u ∷ ts)))) e

  bad_only : (n : ℕ) (found : List Statement) (ts at : Tokens) → length ts ≤ n → FirstBad source ts at → pieces source n found ts ≡ Err (first_line at)
  bad_only n found ts at fits (here some bad) = no_piece n found ts fits some (no_value (piece source ts) (λ next e. bad (next, piece_found source ts next e)))
  bad_only zero found ts at fits (later is k) = absurd (omega (arith, ((chunks_read source deepest).begins top).shorter ts (next_piece ts) is.0 is.1))
  bad_only (suc n) found ts at fits (later is k) =
      let less = ((chunks_read source deepest).begins top).shorter ts (next_piece ts) is.0 is.1 in
      one_piece n found is.0 ts (next_piece ts) less (piece_only source ts is.0 is.1) refl ∙ bad_only n (found ++ is.0) (next_piece ts) at (omega (arith, less)) k

tree_ok : (source : Text) (o : Result (List Token) ℕ) (tree : List Statement) → tree_in source o ≡ Ok tree → (ts : Tokens) × (o ≡ Ok ts) × (pieces source (length ts) [] ts ≡ Ok tree)
tree_ok source (Ok ts) tree e = (ts, refl, e)
tree_ok source (Err at) tree e = absurd cc

tree_err : (source : Text) (o : Result (List Token) ℕ) (line : ℕ) → tree_in source o ≡ Err line → (o ≡ Err line) ⊎ ((ts : Tokens) × (o ≡ Ok ts) × (pieces source (length ts) [] ts ≡ Err line))
tree_err source (Ok ts) line e = inr (ts, refl, e)
tree_err source (Err at) line e = inl (ap (λ v. Err v) (err_is e))

-- ---- what is read of a text

module _ (profile : Profile) (text : Text) where
  -- The tree that is read is one that the text has.
  pub read_found : (tree : List Statement) → read_chars profile (chars text) ≡ Ok tree → Parse profile text tree
  unfolding read_chars
  read_found tree e = let k = tree_ok (plain_text text) (tokens profile text) tree e in (k.0, k.1, program_found (plain_text text) k.0 tree k.2)

  -- A tree that the text has is read.
  pub read_only : (tree : List Statement) → Parse profile text tree → read_chars profile (chars text) ≡ Ok tree
  unfolding read_chars
  read_only tree h = ap (tree_in (plain_text text)) h.1 ∙ program_only (plain_text text) h.0 tree h.2

  -- The line that is read is that of the text's fault.
  pub line_found : (line : ℕ) → read_chars profile (chars text) ≡ Err line → Line profile text line
  unfolding read_chars
  line_found line e = ⊎_elim (λ k. inl k)
      (λ k. (let bad = bad_found (plain_text text) (length k.0) [] k.0 line (omega arith) k.2 in inr (k.0, bad.0, k.1, bad.1, bad.2)))
      (tree_err (plain_text text) (tokens profile text) line e)

  -- The line of the text's fault is read.
  pub line_only : (line : ℕ) → Line profile text line → read_chars profile (chars text) ≡ Err line
  unfolding read_chars
  line_only line h = ⊎_elim (λ k. ap (tree_in (plain_text text)) k)
      (λ k. ap (tree_in (plain_text text)) k.2 ∙ bad_only (plain_text text) (length k.0) [] k.0 k.1 (omega arith) k.3 ∙ ap (λ v. Err v) (sym k.4)) h

  -- A text has one tree at most, one line at most, and not both.
  pub one_parse : (tree other : List Statement) → Parse profile text tree → Parse profile text other → tree ≡ other
  one_parse tree other h k = ok_is (sym (read_only tree h) ∙ read_only other k)

  pub no_line : (tree : List Statement) (line : ℕ) → Parse profile text tree → Line profile text line → ⊥
  no_line tree line h k = let both : Ok tree ≡ Err line = sym (read_only tree h) ∙ line_only line k in cc
