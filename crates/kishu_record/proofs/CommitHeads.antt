-- Heads of commits that were read in place.
use Rattle.std.proofs.Common.{◌≡◌, ◌<◌, ◌^◌, ℕ, List, ◌∷◌, length, map, ap, sym, ◌∙◌, arith}
use Rattle.std.specs.List.{sum}
use Rattle.kishu_language.specs.declared.profile.Profile.{Profile}
use Rattle.kishu_store.specs.Entries.{Entry, commit, lengths_in}
use Rattle.kishu_store.specs.EntryBytes.{head_of}
use Rattle.kishu_store.specs.Groups.{Group}
use Rattle.kishu_store.specs.Rules.{IsEntry}
use Rattle.kishu_store_laws.specs.EntryLaws.{first_byte, head-unique}
use Rattle.kishu_record.specs.Commits.{IsCommitHead, LacksCommit, SpellsCommit, commit_told}
use Rattle.kishu_record.specs.Entries.{stored_of}
use Rattle.kishu_record.specs.declared.commits.CommitHead.{CommitHead}
use Rattle.kishu_record.proofs.Lists.{map_twice}

-- its first byte
pub commit_kind : (rest : List ℕ) (b p : ℕ) (f : Profile) (cs : List (List ℕ)) (ds : List Group) (ss : List (Group × ℕ)) → b ∷ rest ≡ head_of (commit p f cs ds ss) → b ≡ 1
unfolding head_of
commit_kind rest b p f cs ds ss is = first_byte is

module _ (head rest : List ℕ) (pictures : ℕ) (c : CommitHead) (s : SpellsCommit (1 ∷ rest) c) (short : length head < 2 ^ 32) (is : head ≡ 1 ∷ rest) where
  is_entry : IsEntry (commit_told c s.others)
  is_entry = record { rules = s.rules; short = omega (arith, short, ap length (is ∙ s.is)) }

  told_lengths : sum (lengths_in (commit_told c s.others)) ≡ sum (map (λ x. x.1) c.stored.items)
  told_lengths = ap sum (map_twice (λ (x : Group × ℕ). x.1) stored_of c.stored.items)

  -- it is that commit's, where its pictures take so many bytes
  pub told_head : sum (map (λ x. x.1) c.stored.items) ≡ pictures → IsCommitHead head pictures c
  told_head same = record { others = s.others; count = s.count; is_head = record { entry = is_entry; is = is ∙ s.is; sum = told_lengths ∙ same } }

  -- else it is no commit's
  pub told_none : (sum (map (λ x. x.1) c.stored.items) ≡ pictures → ⊥) → LacksCommit head pictures
  told_none other p f cs ds ss h =
      let one : commit_told c s.others ≡ commit p f cs ds ss = head-unique (commit_told c s.others) (commit p f cs ds ss) is_entry h.entry (sym (is ∙ s.is) ∙ h.is) in
      other (sym told_lengths ∙ ap (λ (e : Entry). sum (lengths_in e)) one ∙ h.sum)
