-- One body, one record.
use Rattle.std.specs.Prelude.{◌≡◌, ◌<◌, ◌^◌, ℕ, ◌+◌, List, [], ◌∷◌, ◌++◌, length, map, flat_map, refl}
use Rattle.std.proofs.Common.{sym, ◌∙◌, ap, arith, length-append}
use Rattle.std.proofs.lemmas.List.{append-nil}
use Rattle.kishu_language.specs.declared.profile.Profile.{Profile}
use Rattle.kishu_bytes.specs.Numbers.{four, profile_number}
use Rattle.kishu_bytes_laws.specs.NumberLaws.{append-unique, four-unique}
use Rattle.kishu_store.specs.Groups.{Group}
use Rattle.kishu_store.specs.Entries.{Entry, commit, move, name, to_commit, to_branch, Record, lengths_in}
use Rattle.kishu_store.specs.EntryBytes.{text_bytes, name_bytes, many, group_bytes, stored_bytes, head_of, body_of}
use Rattle.kishu_store.specs.Rules.{KeepsCommit, IsEntry, IsRecord}
use Rattle.kishu_store_laws.specs.Cuts.{name-unique, texts-cut, groups-cut, all_stored-cut}

-- ---- lengths

pub length-commit : (p : ℕ) (f : Profile) (cs : List (List ℕ)) (ds : List Group) (ss : List (Group × ℕ)) → length (head_of (commit p f cs ds ss)) ≡ 6 + (length (many text_bytes cs) + (length (many group_bytes ds) + length (many stored_bytes ss)))
unfolding head_of
length-commit p f cs ds ss = omega (arith, length-append (many text_bytes cs) (many group_bytes ds ++ many stored_bytes ss), length-append (many group_bytes ds) (many stored_bytes ss))

-- of a commit of one cell
pub length-one_cell : (p : ℕ) (f : Profile) (text : List ℕ) → length (head_of (commit p f (text ∷ []) [] [])) ≡ 22 + length text
length-one_cell p f text = omega (arith, length-commit p f (text ∷ []) [] [], length-append (text_bytes text) [], length-append (four (length text)) text)

pub length-body : (r : Record) → length (body_of r) ≡ 4 + (length (head_of r.entry) + length (flat_map (λ p. p) r.pictures))
unfolding body_of
length-body r = omega (arith, length-append (head_of r.entry) (flat_map (λ p. p) r.pictures))

-- ---- heads

-- commits whose heads are one
module _ (p q : ℕ) (f g : Profile) (cs bs : List (List ℕ)) (ds es : List Group) (ss ts : List (Group × ℕ)) (ka : KeepsCommit p f cs ds ss) (kb : KeepsCommit q g bs es ts) (la : length (head_of (commit p f cs ds ss)) < 2 ^ 32) (lb : length (head_of (commit q g bs es ts)) < 2 ^ 32) (e : head_of (commit p f cs ds ss) ≡ head_of (commit q g bs es ts)) where
  parents : (p ≡ q) × (profile_number f ∷ (many text_bytes cs ++ (many group_bytes ds ++ many stored_bytes ss)) ≡ profile_number g ∷ (many text_bytes bs ++ (many group_bytes es ++ many stored_bytes ts)))
  unfolding head_of
  parents = four-unique p q (profile_number f ∷ (many text_bytes cs ++ (many group_bytes ds ++ many stored_bytes ss))) (profile_number g ∷ (many text_bytes bs ++ (many group_bytes es ++ many stored_bytes ts))) ka.parent kb.parent (cc (e))

  cells : (cs ≡ bs) × (many group_bytes ds ++ many stored_bytes ss ≡ many group_bytes es ++ many stored_bytes ts)
  cells =
      let rest : many text_bytes cs ++ (many group_bytes ds ++ many stored_bytes ss) ≡ many text_bytes bs ++ (many group_bytes es ++ many stored_bytes ts) = cc (parents.1) in
      texts-cut cs bs (many group_bytes ds ++ many stored_bytes ss) (many group_bytes es ++ many stored_bytes ts) ka.cells kb.cells (omega (arith, la, length-commit p f cs ds ss)) (omega (arith, lb, length-commit q g bs es ts)) rest

  dropped : (ds ≡ es) × (many stored_bytes ss ≡ many stored_bytes ts)
  dropped =
      groups-cut ds es (many stored_bytes ss) (many stored_bytes ts) ka.dropped.each kb.dropped.each (omega (arith, la, length-commit p f cs ds ss)) (omega (arith, lb, length-commit q g bs es ts)) cells.1

  stored : ss ≡ ts
  stored =
      (all_stored-cut ss ts [] [] ka.stored.each kb.stored.each (omega (arith, la, length-commit p f cs ds ss)) (omega (arith, lb, length-commit q g bs es ts))
      (append-nil (many stored_bytes ss) ∙ dropped.1 ∙ sym (append-nil (many stored_bytes ts)))).0

  one_commit : commit p f cs ds ss ≡ commit q g bs es ts
  one_commit = (let profiles : f ≡ g = ka.profile ∙ sym kb.profile in let a = parents.0 in let b = cells.0 in let c = dropped.0 in let d = stored in cc)

-- the bytes by which heads of other kinds differ
pub first_byte : {x y : List ℕ} {m n : ℕ} → m ∷ x ≡ n ∷ y → m ≡ n
first_byte e = cc (e)

pub second_byte : {x y : List ℕ} {k l m n : ℕ} → k ∷ m ∷ x ≡ l ∷ n ∷ y → m ≡ n
second_byte e = cc (e)

-- two entries that keep the rules and have one head are one
pub head-unique : (a b : Entry) → IsEntry a → IsEntry b → head_of a ≡ head_of b → a ≡ b
unfolding head_of
head-unique (commit p f cs ds ss) (commit q g bs es ts) ka kb e = one_commit p q f g cs bs ds es ss ts ka.rules kb.rules ka.short kb.short e
head-unique (commit p f cs ds ss) (move (to_commit n)) ka kb e = absurd (let d = first_byte e in omega (arith, d))
head-unique (commit p f cs ds ss) (move (to_branch t)) ka kb e = absurd (let d = first_byte e in omega (arith, d))
head-unique (commit p f cs ds ss) (name t n) ka kb e = absurd (let d = first_byte e in omega (arith, d))
head-unique (move (to_commit m)) (commit p f cs ds ss) ka kb e = absurd (let d = first_byte e in omega (arith, d))
head-unique (move (to_commit m)) (move (to_commit n)) ka kb e = (let k = four-unique m n [] [] ka.rules kb.rules (cc (e)) in ap (λ (z : ℕ). move (to_commit z)) k.0)
head-unique (move (to_commit m)) (move (to_branch t)) ka kb e = absurd (let d = second_byte e in omega (arith, d))
head-unique (move (to_commit m)) (name t n) ka kb e = absurd (let d = first_byte e in omega (arith, d))
head-unique (move (to_branch s)) (commit p f cs ds ss) ka kb e = absurd (let d = first_byte e in omega (arith, d))
head-unique (move (to_branch s)) (move (to_commit n)) ka kb e = absurd (let d = second_byte e in omega (arith, d))
head-unique (move (to_branch s)) (move (to_branch t)) ka kb e = (let same : s ≡ t = cc (e) in ap (λ (z : List ℕ). move (to_branch z)) same)
head-unique (move (to_branch s)) (name t n) ka kb e = absurd (let d = first_byte e in omega (arith, d))
head-unique (name s m) (commit p f cs ds ss) ka kb e = absurd (let d = first_byte e in omega (arith, d))
head-unique (name s m) (move (to_commit n)) ka kb e = absurd (let d = first_byte e in omega (arith, d))
head-unique (name s m) (move (to_branch t)) ka kb e = absurd (let d = first_byte e in omega (arith, d))
head-unique (name s m) (name t n) ka kb e =
    let tail : name_bytes s ++ four m ≡ name_bytes t ++ four n = cc (e) in
    let titles = name-unique s t (four m) (four n) tail in
    let numbers = four-unique m n [] [] ka.rules.1 kb.rules.1 (append-nil (four m) ∙ titles.1 ∙ sym (append-nil (four n))) in
    cc (titles.0, numbers.0)

-- ---- bodies

-- pictures of the same lengths, one behind another
joined-unique : (ps qs : List (List ℕ)) → map length ps ≡ map length qs → flat_map (λ p. p) ps ≡ flat_map (λ p. p) qs → ps ≡ qs
joined-unique [] [] sizes e = refl
joined-unique [] (q ∷ qs) sizes e = absurd (let d : 0 ≡ length (map length (q ∷ qs)) = ap length sizes in omega (arith, d))
joined-unique (p ∷ ps) [] sizes e = absurd (let d : length (map length (p ∷ ps)) ≡ 0 = ap length sizes in omega (arith, d))
joined-unique (p ∷ ps) (q ∷ qs) sizes e =
    let first = append-unique p q (flat_map (λ p. p) ps) (flat_map (λ p. p) qs) (cc (sizes)) e in
    let rest = joined-unique ps qs (cc (sizes)) first.1 in
    cc (first.0, rest)

-- the entry of a record
pub entry-is : (r : Record) → IsRecord r → IsEntry r.entry
entry-is r k = record { rules = k.rules; short = omega (arith, k.small, length-body r) }

-- two records with one body are one
pub body-unique : (a b : Record) → IsRecord a → IsRecord b → body_of a ≡ body_of b → a ≡ b
unfolding body_of
body-unique a b ka kb e =
    let ha = head_of a.entry in
    let hb = head_of b.entry in
    let pa = flat_map (λ p. p) a.pictures in
    let pb = flat_map (λ p. p) b.pictures in
    let sizes = four-unique (length ha) (length hb) (ha ++ pa) (hb ++ pb) (entry-is a ka).short (entry-is b kb).short e in
    let parts = append-unique ha hb pa pb sizes.0 sizes.1 in
    let entries = head-unique a.entry b.entry (entry-is a ka) (entry-is b kb) parts.0 in
    let lengths : map length a.pictures ≡ map length b.pictures = ka.pictures ∙ ap lengths_in entries ∙ sym kb.pictures in
    let pictures = joined-unique a.pictures b.pictures lengths parts.1 in
    ap (λ (x : Entry). with_both x a.pictures) entries ∙ ap (λ (ps : List (List ℕ)). with_both b.entry ps) pictures
  where
    with_both : Entry → List (List ℕ) → Record
    with_both x ps = record { entry = x; pictures = ps }
