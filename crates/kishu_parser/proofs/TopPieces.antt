-- The top-level pieces of a text are read exactly.
use Rattle.std.specs.Prelude.{◌≡◌, ◌≢◌, ℕ, zero, suc, ◌+◌, ◌-◌, ◌<◌, ◌≤◌, List, [], ◌∷◌, ◌++◌, map, length, Option, Some, None, Result, Ok, Err}
use Rattle.std.proofs.Common.{refl, sym, ap, subst, ◌∙◌, arith, append_assoc}
use Rattle.std.proofs.lemmas.List.{map-append, append-nil}
use Rattle.kishu_language.specs.declared.profile.Profile.{Profile}
use Rattle.kishu_language.specs.trees.Tree.{Text, Statement, statement_of}
use Rattle.kishu_language.specs.grammar.Language.{Tokens}
use Rattle.kishu_language.specs.tokens.Tokens.{tokens}
use Rattle.kishu_language.specs.grammar.Pieces.{next_piece, first_line}
use Rattle.kishu_language.specs.grammar.Parse.{plain_text, Line}
use Rattle.kishu_language.specs.reading.ReadText.{piece, and_pieces, pieces}
use Rattle.kishu_language_laws.specs.reading.ExactPieces.{piece_shorter, piece_found, piece_only}
use Rattle.kishu_lexer.specs.declared.fault.SyntaxFault.{SyntaxFault}
use Rattle.kishu_lexer.specs.declared.fault.SyntaxFault.TheVariants as fault
use Rattle.kishu_parser.specs.declared.pieces.Piece as rust
use Rattle.kishu_parser.specs.Statements.{AnswersPiece, FailsOn, FaultOf}
use Rattle.kishu_parser.specs.TopLevel.{Lined, piece_of, AllPieces, none, then, HasPieces, and_piece, lined}
use Rattle.kishu_parser.proofs.Counts.{one_more}
use Rattle.kishu_parser.proofs.Whole.{fault_of}

opens : (source : Text) (n : ℕ) (found : List Lined) (ts : Tokens) → 0 < length ts
    → lined source (suc n) found ts ≡ and_piece (first_line ts) (piece source ts) (λ more. lined source n (found ++ (first_line ts, more) ∷ []) (next_piece ts))
opens source n found [] some = absurd (omega arith)
opens source n found (t ∷ ts) some = refl

pub lined_finished : (source : Text) (n : ℕ) (found : List Lined) (ts : Tokens) → length ts ≡ 0 → lined source n found ts ≡ Ok found
lined_finished source zero found ts empty = refl
lined_finished source (suc n) found [] empty = refl
lined_finished source (suc n) found (t ∷ ts) empty = absurd (omega arith)

pub lined_begun : (source : Text) (ts us : Tokens) (n : ℕ) (found : List Lined) → us ≡ ts → n ≡ length us → found ≡ [] → lined source (length ts) [] ts ≡ lined source (n - 0) found us
lined_begun source ts us n found e size empty =
    let count : length us ≡ n - 0 = omega arith in
    ap (λ v. lined source (length v) [] v) (sym e) ∙ ap (λ k. lined source k [] us) count ∙ ap (λ v. lined source (n - 0) v us) (sym empty)

pub lined_fails : {x : Result (List Lined) ℕ} (source : Text) (n at : ℕ) (found : List Lined) (ts : Tokens) (e : SyntaxFault) → at < n → x ≡ lined source (n - at) found ts → 0 < length ts
    → AnswersPiece (piece source ts) (first_line ts) (Err e) → FailsOn x e
lined_fails source n at found ts (fault.Syntax line) below so_far some h =
    one_more (λ k. lined source k found ts) n at below so_far ∙ opens source (n - (at + 1)) found ts some
    ∙ ap (λ o. and_piece (first_line ts) o (λ more. lined source (n - (at + 1)) (found ++ (first_line ts, more) ∷ []) (next_piece ts))) h.0 ∙ ap (λ i. Err i) (sym h.1)
lined_fails source n at found ts fault.NoMemory below so_far some h = tt

pub lined_joins : {x : Result (List Lined) ℕ} (source : Text) (n at : ℕ) (old new : List rust.Piece) (p : rust.Piece) (ts us : Tokens) → at < n → x ≡ lined source (n - at) (map piece_of old) ts → 0 < length ts
    → p.line ≡ first_line ts → piece source ts ≡ Some (map statement_of p.statements.items) → us ≡ next_piece ts → new ≡ old ++ p ∷ [] → x ≡ lined source (n - (at + 1)) (map piece_of new) us
lined_joins source n at old new p ts us below so_far some line is next all =
    let more = map statement_of p.statements.items in
    one_more (λ k. lined source k (map piece_of old) ts) n at below so_far ∙ opens source (n - (at + 1)) (map piece_of old) ts some
    ∙ ap (λ o. and_piece (first_line ts) o (λ more. lined source (n - (at + 1)) (map piece_of old ++ (first_line ts, more) ∷ []) (next_piece ts))) is
    ∙ ap (λ l. lined source (n - (at + 1)) (map piece_of old ++ (l, more) ∷ []) (next_piece ts)) (sym line)
    ∙ ap (λ v. lined source (n - (at + 1)) (map piece_of old ++ (p.line, more) ∷ []) v) (sym next)
    ∙ ap (λ v. lined source (n - (at + 1)) v us) (sym (ap (map piece_of) all ∙ map-append piece_of old (p ∷ [])))

-- ---- the same as the relation

by_piece : (line : ℕ) (o : Option (List Statement)) (f : List Statement → Result (List Lined) ℕ) (all : List Lined) → and_piece line o f ≡ Ok all
    → (found : List Statement) × (o ≡ Some found) × (f found ≡ Ok all)
by_piece line None f all e = absurd cc
by_piece line (Some found) f all e = (found, refl, e)

module _ (source : Text) where
  found : (n : ℕ) (before : List Lined) (ts : Tokens) (all : List Lined) → length ts ≤ n → lined source n before ts ≡ Ok all → (after : List Lined) × AllPieces source ts after × (all ≡ before ++ after)
  found zero before [] all fits e = ([], none, same e ∙ sym (append-nil before))
    where
      same : ◌≡◌ {A = Result (List Lined) ℕ} (Ok before) (Ok all) → all ≡ before
      same e = cc
  found zero before (u ∷ ts) all fits e = absurd (omega arith)
  found (suc n) before [] all fits e = ([], none, same e ∙ sym (append-nil before))
    where
      same : ◌≡◌ {A = Result (List Lined) ℕ} (Ok before) (Ok all) → all ≡ before
      same e = cc
  found (suc n) before (u ∷ ts) all fits e =
      let k = by_piece u.line (piece source (u ∷ ts)) (λ more. lined source n (before ++ (u.line, more) ∷ []) (next_piece (u ∷ ts))) all e in
      let more = found n (before ++ (u.line, k.0) ∷ []) (next_piece (u ∷ ts)) all (omega (arith, piece_shorter u ts 0)) k.2 in
      ((u.line, k.0) ∷ more.0, then (λ empty. cc) (piece_found source (u ∷ ts) k.0 k.1) more.1, more.2 ∙ append_assoc before ((u.line, k.0) ∷ []) more.0)

  read : (n : ℕ) (before : List Lined) (ts : Tokens) (found : List Statement) → ts ≢ [] → length ts ≤ suc n → piece source ts ≡ Some found
      → lined source (suc n) before ts ≡ lined source n (before ++ (first_line ts, found) ∷ []) (next_piece ts)
  read n before [] found some fits e = absurd (some refl)
  read n before (u ∷ ts) found some fits e = ap (λ o. and_piece u.line o (λ more. lined source n (before ++ (u.line, more) ∷ []) (next_piece (u ∷ ts)))) e

  shorter : (n : ℕ) (ts : Tokens) → ts ≢ [] → length ts ≤ suc n → length (next_piece ts) ≤ n
  shorter n [] some fits = absurd (some refl)
  shorter n (u ∷ ts) some fits = omega (arith, piece_shorter u ts 0)

  too_short : (ts : Tokens) → ts ≢ [] → length ts ≤ 0 → ⊥
  too_short [] some fits = some refl
  too_short (u ∷ ts) some fits = omega arith

  only : (n : ℕ) (before : List Lined) (ts : Tokens) (after : List Lined) → length ts ≤ n → AllPieces source ts after → lined source n before ts ≡ Ok (before ++ after)
  only zero before ts after fits none = ap (λ v. Ok v) (sym (append-nil before))
  only (suc n) before ts after fits none = ap (λ v. Ok v) (sym (append-nil before))
  only zero before ts after fits (then some h k) = absurd (too_short ts some fits)
  only (suc n) before ts after fits (then {found = found} {after = later} some h k) =
      read n before ts found some fits (piece_only source ts found h)
      ∙ only n (before ++ (first_line ts, found) ∷ []) (next_piece ts) later (shorter n ts some fits) k
      ∙ ap (λ v. Ok v) (append_assoc before ((first_line ts, found) ∷ []) later)

  faults : (n : ℕ) (before : List Lined) (other : List Statement) (ts : Tokens) (line : ℕ) → lined source n before ts ≡ Err line → pieces source n other ts ≡ Err line
  faults zero before other ts line e = absurd cc
  faults (suc n) before other [] line e = absurd cc
  faults (suc n) before other (u ∷ ts) line e = by (piece source (u ∷ ts)) (λ found. faults n (before ++ (u.line, found) ∷ []) (other ++ found) (next_piece (u ∷ ts)) line) e
    where
      by : (o : Option (List Statement)) → ((found : List Statement) → lined source n (before ++ (u.line, found) ∷ []) (next_piece (u ∷ ts)) ≡ Err line → pieces source n (other ++ found) (next_piece (u ∷ ts)) ≡ Err line)
          → and_piece u.line o (λ more. lined source n (before ++ (u.line, more) ∷ []) (next_piece (u ∷ ts))) ≡ Err line → and_pieces u.line o (λ more. pieces source n (other ++ more) (next_piece (u ∷ ts))) ≡ Err line
      by None later e = same e
        where
          same : ◌≡◌ {A = Result (List Lined) ℕ} (Err u.line) (Err line) → ◌≡◌ {A = Result (List Statement) ℕ} (Err u.line) (Err line)
          same e = let at : u.line ≡ line = cc in ap (λ v. Err v) at
      by (Some found) later e = later found e

module _ (profile : Profile) (text source : Text) (ts : Tokens) (whole : source ≡ plain_text text) (given : tokens profile text ≡ Ok ts) where
  pub has_pieces : (all : List Lined) → lined source (length ts) [] ts ≡ Ok all → HasPieces profile text all
  has_pieces all e =
      let k = found source (length ts) [] ts all (omega arith) e in
      (ts, given, subst (λ s. AllPieces s ts all) whole (subst (λ v. AllPieces source ts v) (sym k.2) k.1))

  lined_is : (all : List Lined) → HasPieces profile text all → lined source (length ts) [] ts ≡ Ok all
  lined_is all h =
      let same : h.0 ≡ ts = ok_is (sym h.1 ∙ given) in
      only source (length ts) [] ts all (omega arith) (subst (λ s. AllPieces s ts all) (sym whole) (subst (λ (v : Tokens). AllPieces (plain_text text) v all) same h.2))
    where
      ok_is : {x y : Tokens} → ◌≡◌ {A = Result Tokens ℕ} (Ok x) (Ok y) → x ≡ y
      ok_is e = cc

  pub only_pieces : (all other : List Lined) → lined source (length ts) [] ts ≡ Ok all → HasPieces profile text other → all ≡ other
  only_pieces all other e h = let both : Ok all ≡ Ok other = sym e ∙ lined_is other h in cc

  pub no_pieces : (e : SyntaxFault) (all : List Lined) → FailsOn (lined source (length ts) [] ts) e → HasPieces profile text all → e ≡ fault.NoMemory
  no_pieces (fault.Syntax line) all f h = let both : Err line ≡ Ok all = sym f ∙ lined_is all h in absurd cc
  no_pieces fault.NoMemory all f h = refl

  pub pieces_fault : (e : SyntaxFault) → FailsOn (lined source (length ts) [] ts) e → FaultOf (Line profile text) e
  pieces_fault (fault.Syntax line) f = fault_of profile text source ts whole given (fault.Syntax line) (faults source (length ts) [] [] ts line f)
  pieces_fault fault.NoMemory f = tt
