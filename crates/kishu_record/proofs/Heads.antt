-- The heads of commits, moves and names, part by part.
use Rattle.std.proofs.Common.{◌≡◌, ◌≢◌, ◌<◌, ◌^◌, ℕ, List, [], ◌∷◌, ◌++◌, length, arith, sym, ◌∙◌, ap, length-append}
use Rattle.std.specs.List.{AllByRecursion}
use Rattle.std.proofs.lemmas.List.{append-nil}
use Rattle.kishu_language.specs.declared.profile.Profile.{Profile}
use Rattle.kishu_bytes.specs.Numbers.{four, profile_number}
use Rattle.kishu_bytes_laws.specs.NumberLaws.{four-unique}
use Rattle.kishu_store.specs.Limits.{newest_profile}
use Rattle.kishu_store.specs.Groups.{Group, IsGroup, AreGroups, IsStored, AreStored}
use Rattle.kishu_store.specs.Entries.{Entry, commit, move, name, to_commit, to_branch}
use Rattle.kishu_store.specs.EntryBytes.{text_bytes, name_bytes, many, group_bytes, stored_bytes, head_of}
use Rattle.kishu_store.specs.Rules.{IsCell, AreCells, IsTitle, KeepsCommit, IsEntry}
use Rattle.kishu_store_laws.specs.Cuts.{name-unique, texts-cut, groups-cut, all_stored-cut}
use Rattle.kishu_store_laws.specs.EntryLaws.{first_byte, second_byte}
use Rattle.kishu_record.proofs.Lists.{same_item, left_short}

-- what a commit tells behind its profile
abbrev pub lists_bytes : List (List ℕ) → List Group → List (Group × ℕ) → List ℕ
lists_bytes cs ds ss = many text_bytes cs ++ (many group_bytes ds ++ many stored_bytes ss)

-- The bytes are those of a commit behind its kind.
pub record IsCommit (rest : List ℕ) : Type 0 where
  pub p : ℕ
  pub f : Profile
  pub cs : List (List ℕ)
  pub ds : List Group
  pub ss : List (Group × ℕ)
  pub keeps : KeepsCommit p f cs ds ss
  pub is : rest ≡ four p ++ (profile_number f ∷ lists_bytes cs ds ss)

pub commit_head : (rest : List ℕ) (e : Entry) → IsEntry e → 1 ∷ rest ≡ head_of e → IsCommit rest
unfolding head_of
commit_head rest (commit p f cs ds ss) k is = record { p = p; f = f; cs = cs; ds = ds; ss = ss; keeps = k.rules; is = cc (is) }
commit_head rest (move (to_commit n)) k is = absurd (let d = first_byte is in omega (arith, d))
commit_head rest (move (to_branch t)) k is = absurd (let d = first_byte is in omega (arith, d))
commit_head rest (name t n) k is = absurd (let d = first_byte is in omega (arith, d))

-- behind the parent's number
pub behind_parent : (rest x : List ℕ) (n : ℕ) (h : IsCommit rest) → n < 2 ^ 32 → rest ≡ four n ++ x → x ≡ profile_number newest_profile ∷ lists_bytes h.cs h.ds h.ss
behind_parent rest x n h small e =
    (four-unique n h.p x (profile_number h.f ∷ lists_bytes h.cs h.ds h.ss) small h.keeps.parent (sym e ∙ h.is)).1 ∙ ap (λ (f : Profile). profile_number f ∷ lists_bytes h.cs h.ds h.ss) h.keeps.profile

-- behind the profile
pub behind_profile : {x y z : List ℕ} {a b : ℕ} → x ≡ a ∷ y → x ≡ b ∷ z → y ≡ z
behind_profile e f = cc (e, f)

-- what was read of a commit, part by part
module _ (rest x y : List ℕ) (n : ℕ) (f : Profile) (short : length rest < 2 ^ 32) (small : n < 2 ^ 32) (e1 : rest ≡ four n ++ x) (e2 : x ≡ profile_number f ∷ y) (h : IsCommit rest) where
  pub lists_is : y ≡ lists_bytes h.cs h.ds h.ss
  lists_is = behind_profile e2 (behind_parent rest x n h small e1)

  y_short : length y < 2 ^ 32
  y_short = omega (arith, short, ap length e1, length-append (four n) x, ap length e2)

  module _ (cs : List (List ℕ)) (z : List ℕ) (fc : AreCells cs) (e3 : y ≡ many text_bytes cs ++ z) where
    pub cells_are : (cs ≡ h.cs) × (z ≡ many group_bytes h.ds ++ many stored_bytes h.ss)
    cells_are = same_item (many text_bytes) (AllByRecursion IsCell) texts-cut y z (many group_bytes h.ds ++ many stored_bytes h.ss) cs h.cs y_short fc h.keeps.cells e3 lists_is

    z_short : length z < 2 ^ 32
    z_short = left_short y (many text_bytes cs) z y_short e3

    module _ (ds : List Group) (v : List ℕ) (fd : AreGroups ds) (e4 : z ≡ many group_bytes ds ++ v) where
      pub dropped_are : v ≡ many stored_bytes h.ss ++ []
      dropped_are =
          (same_item (many group_bytes) (AllByRecursion IsGroup) groups-cut z v (many stored_bytes h.ss) ds h.ds z_short fd.each h.keeps.dropped.each e4 cells_are.1).1 ∙ sym (append-nil (many stored_bytes h.ss))

      pub nothing_left : (ss : List (Group × ℕ)) (u : List ℕ) → AreStored ss → v ≡ many stored_bytes ss ++ u → u ≡ []
      nothing_left ss u fs e5 = (same_item (many stored_bytes) (AllByRecursion IsStored) all_stored-cut v u [] ss h.ss (left_short z (many group_bytes ds) v z_short e4) fs.each h.keeps.stored.each e5 dropped_are).1

pub commit_found : (rest x y z v u : List ℕ) (n : ℕ) (f : Profile) (cs : List (List ℕ)) (ds : List Group) (ss : List (Group × ℕ)) → rest ≡ four n ++ x → x ≡ profile_number f ∷ y → y ≡ many text_bytes cs ++ z → z ≡ many group_bytes ds ++ v
    → v ≡ many stored_bytes ss ++ u → u ≡ [] → 1 ∷ rest ≡ head_of (commit n f cs ds ss)
unfolding head_of
commit_found rest x y z v u n f cs ds ss e1 e2 e3 e4 e5 e6 =
    let last : v ≡ many stored_bytes ss = e5 ∙ ap (λ (l : List ℕ). many stored_bytes ss ++ l) e6 ∙ append-nil (many stored_bytes ss) in
    let behind : x ≡ profile_number f ∷ lists_bytes cs ds ss = e2 ∙ ap (λ (l : List ℕ). profile_number f ∷ l) (e3 ∙ ap (λ (l : List ℕ). many text_bytes cs ++ l) (e4 ∙ ap (λ (l : List ℕ). many group_bytes ds ++ l) last)) in
    ap (λ (l : List ℕ). 1 ∷ l) (e1 ∙ ap (λ (l : List ℕ). four n ++ l) behind)

-- ---- moves

-- the number of the commit to which a move goes
pub record IsNumber (rest : List ℕ) : Type 0 where
  pub n : ℕ
  pub small : n < 2 ^ 32
  pub is : rest ≡ four n

pub number_head : (rest : List ℕ) (e : Entry) → IsEntry e → 2 ∷ 0 ∷ rest ≡ head_of e → IsNumber rest
unfolding head_of
number_head rest (commit p f cs ds ss) k is = absurd (let d = first_byte is in omega (arith, d))
number_head rest (move (to_commit n)) k is = record { n = n; small = k.rules; is = cc (is) }
number_head rest (move (to_branch t)) k is = absurd (let d = second_byte is in omega (arith, d))
number_head rest (name t n) k is = absurd (let d = first_byte is in omega (arith, d))

pub number_left : (rest x : List ℕ) (m : ℕ) → m < 2 ^ 32 → rest ≡ four m ++ x → IsNumber rest → x ≡ []
number_left rest x m small e h = (four-unique m h.n x [] small h.small (sym e ∙ h.is ∙ sym (append-nil (four h.n)))).1

pub number_found : (rest x : List ℕ) (m : ℕ) → rest ≡ four m ++ x → x ≡ [] → 2 ∷ 0 ∷ rest ≡ head_of (move (to_commit m))
unfolding head_of
number_found rest x m e f = ap (λ (l : List ℕ). 2 ∷ 0 ∷ l) (e ∙ ap (λ (l : List ℕ). four m ++ l) f ∙ append-nil (four m))

-- the name of the branch to which it goes
pub record IsTitled (rest : List ℕ) : Type 0 where
  pub t : List ℕ
  pub title : IsTitle t
  pub is : rest ≡ name_bytes t ++ []

pub title_head : (rest : List ℕ) (e : Entry) → IsEntry e → 2 ∷ 1 ∷ rest ≡ head_of e → IsTitled rest
unfolding head_of
title_head rest (commit p f cs ds ss) k is = absurd (let d = first_byte is in omega (arith, d))
title_head rest (move (to_commit n)) k is = absurd (let d = second_byte is in omega (arith, d))
title_head rest (move (to_branch t)) k is = (let same : rest ≡ name_bytes t = cc (is) in record { t = t; title = k.rules; is = same ∙ sym (append-nil (name_bytes t)) })
title_head rest (name t n) k is = absurd (let d = first_byte is in omega (arith, d))

pub title_left : (rest x s : List ℕ) → rest ≡ name_bytes s ++ x → IsTitled rest → x ≡ []
title_left rest x s e h = (name-unique s h.t x [] (sym e ∙ h.is)).1

pub title_found : (rest x s : List ℕ) → rest ≡ name_bytes s ++ x → x ≡ [] → 2 ∷ 1 ∷ rest ≡ head_of (move (to_branch s))
unfolding head_of
title_found rest x s e f = ap (λ (l : List ℕ). 2 ∷ 1 ∷ l) (e ∙ ap (λ (l : List ℕ). name_bytes s ++ l) f ∙ append-nil (name_bytes s))

-- ---- names

pub record IsNamed (rest : List ℕ) : Type 0 where
  pub t : List ℕ
  pub n : ℕ
  pub title : IsTitle t
  pub small : n < 2 ^ 32
  pub is : rest ≡ name_bytes t ++ four n

pub name_head : (rest : List ℕ) (e : Entry) → IsEntry e → 3 ∷ rest ≡ head_of e → IsNamed rest
unfolding head_of
name_head rest (commit p f cs ds ss) k is = absurd (let d = first_byte is in omega (arith, d))
name_head rest (move (to_commit n)) k is = absurd (let d = first_byte is in omega (arith, d))
name_head rest (move (to_branch t)) k is = absurd (let d = first_byte is in omega (arith, d))
name_head rest (name t n) k is = record { t = t; n = n; title = k.rules.0; small = k.rules.1; is = cc (is) }

pub named_number : (rest x s : List ℕ) (h : IsNamed rest) → rest ≡ name_bytes s ++ x → x ≡ four h.n ++ []
named_number rest x s h e = (name-unique s h.t x (four h.n) (sym e ∙ h.is)).1 ∙ sym (append-nil (four h.n))

pub named_left : (rest x y s : List ℕ) (m : ℕ) → m < 2 ^ 32 → rest ≡ name_bytes s ++ x → x ≡ four m ++ y → IsNamed rest → y ≡ []
named_left rest x y s m small e f h = (four-unique m h.n y [] small h.small (sym f ∙ named_number rest x s h e)).1

pub named_found : (rest x y s : List ℕ) (m : ℕ) → rest ≡ name_bytes s ++ x → x ≡ four m ++ y → y ≡ [] → 3 ∷ rest ≡ head_of (name s m)
unfolding head_of
named_found rest x y s m e f g = ap (λ (l : List ℕ). 3 ∷ l) (e ∙ ap (λ (l : List ℕ). name_bytes s ++ l) (f ∙ ap (λ (l : List ℕ). four m ++ l) g ∙ append-nil (four m)))

-- ---- kinds

pub some_head : (e : Entry) → [] ≡ head_of e → ⊥
unfolding head_of
some_head (commit p f cs ds ss) is = (let d : 0 ≡ length (head_of (commit p f cs ds ss)) = ap length is in omega (arith, d))
some_head (move (to_commit n)) is = (let d : 0 ≡ length (head_of (move (to_commit n))) = ap length is in omega (arith, d))
some_head (move (to_branch t)) is = (let d : 0 ≡ length (head_of (move (to_branch t))) = ap length is in omega (arith, d))
some_head (name t n) is = (let d : 0 ≡ length (head_of (name t n)) = ap length is in omega (arith, d))

pub no_kind : (rest : List ℕ) (b : ℕ) (e : Entry) → b ∷ rest ≡ head_of e → b ≢ 1 → b ≢ 2 → b ≢ 3 → ⊥
unfolding head_of
no_kind rest b (commit p f cs ds ss) is one two three = one (first_byte is)
no_kind rest b (move (to_commit n)) is one two three = two (first_byte is)
no_kind rest b (move (to_branch t)) is one two three = two (first_byte is)
no_kind rest b (name t n) is one two three = three (first_byte is)

pub some_goal : (e : Entry) → 2 ∷ [] ≡ head_of e → ⊥
unfolding head_of
some_goal (commit p f cs ds ss) is = absurd (let d = first_byte is in omega (arith, d))
some_goal (move (to_commit n)) is = (let d : 1 ≡ length (head_of (move (to_commit n))) = ap length is in omega (arith, d))
some_goal (move (to_branch t)) is = (let d : 1 ≡ length (head_of (move (to_branch t))) = ap length is in omega (arith, d))
some_goal (name t n) is = absurd (let d = first_byte is in omega (arith, d))

pub no_goal : (rest : List ℕ) (b : ℕ) (e : Entry) → 2 ∷ b ∷ rest ≡ head_of e → b ≢ 0 → b ≢ 1 → ⊥
unfolding head_of
no_goal rest b (commit p f cs ds ss) is none one = absurd (let d = first_byte is in omega (arith, d))
no_goal rest b (move (to_commit n)) is none one = none (second_byte is)
no_goal rest b (move (to_branch t)) is none one = one (second_byte is)
no_goal rest b (name t n) is none one = absurd (let d = first_byte is in omega (arith, d))
