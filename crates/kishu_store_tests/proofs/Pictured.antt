-- Worked records: a first commit with the cell `a`, which stores the name `a` with a picture of so many bytes. One byte too many, and it doesn't fit.
use Rattle.std.proofs.Common.{◌≡◌, ◌<◌, ◌≤◌, ◌+◌, ◌^◌, ℕ, List, [], ◌∷◌, ◌++◌, length, refl, sym, ◌∙◌, ap, subst, arith, length-append}
use Rattle.std.specs.Char.{encode_utf8}
use Rattle.std.specs.List.Sorted.{IsStrictlySortedBy}
use Rattle.std.specs.Str.{chars, is_utf8}
use Rattle.std.proofs.lemmas.Str.{IsUtf8-from_is_utf8}
use Rattle.kishu_language.specs.declared.profile.Profile.TheVariants.{One}
use Rattle.kishu_language.specs.tokens.Names.{reserved_words}
use Rattle.kishu_store.specs.Entries.{Entry, Record, commit}
use Rattle.kishu_store.specs.EntryBytes.{body_of, head_of}
use Rattle.kishu_store.specs.Groups.{Group, IsGroup}
use Rattle.kishu_store.specs.Histories.{Follows, FollowsAt, new_history}
use Rattle.kishu_store.specs.Rules.{IsCell, IsEntry, IsRecord}
use Rattle.kishu_journal.specs.Found.{with_pictures}

abbrev pub a_text : List ℕ
a_text = 97 ∷ []

abbrev pub a_group : Group
a_group = a_text ∷ []

abbrev pub pictured : ℕ → Entry
pictured n = commit 0 One (a_text ∷ []) [] ((a_group, n) ∷ [])

a_cell : IsCell a_text
unfolding is_utf8 chars encode_utf8
a_cell = record { short = omega arith; utf8 = IsUtf8-from_is_utf8 a_text refl }

a_group-is : IsGroup a_group
unfolding IsStrictlySortedBy reserved_words
a_group-is = record { some = omega arith; names = (refl, tt); rise = (tt, tt) }

pub pictured-entry : (n : ℕ) → n < 2 ^ 64 → IsEntry (pictured n)
unfolding head_of IsStrictlySortedBy
pictured-entry n small = record {
  rules = record {
    parent = omega arith;
    profile = refl;
    some = omega arith;
    cells = (a_cell, tt);
    dropped = record { each = tt; rise = tt };
    stored = record { each = ((a_group-is, small), tt); rise = (tt, tt) };
  };
  short = omega arith;
}

-- ---- the two bytes 7 and 8

abbrev pub two_bytes : Record
two_bytes = with_pictures (pictured 2) ((7 ∷ 8 ∷ []) ∷ [])

pub two_bytes-body : 0 ∷ 0 ∷ 0 ∷ 37 ∷ 1 ∷ 0 ∷ 0 ∷ 0 ∷ 0 ∷ 1 ∷ 0 ∷ 0 ∷ 0 ∷ 1 ∷ 0 ∷ 0 ∷ 0 ∷ 1 ∷ 97 ∷ 0 ∷ 0 ∷ 0 ∷ 0 ∷ 0 ∷ 0 ∷ 0 ∷ 1 ∷ 0 ∷ 0 ∷ 0 ∷ 1 ∷ 1 ∷ 97 ∷ 0 ∷ 0 ∷ 0 ∷ 0 ∷ 0 ∷ 0 ∷ 0 ∷ 2 ∷ 7 ∷ 8 ∷ [] ≡ body_of two_bytes
unfolding body_of head_of
two_bytes-body = refl

pub two_bytes-rules : IsRecord two_bytes
unfolding head_of body_of
two_bytes-rules = record { rules = (pictured-entry 2 (omega arith)).rules; pictures = refl; small = omega arith }

pub two_bytes-fits : Follows new_history (pictured 2)
two_bytes-fits = record { graph = record { room = omega arith; goes_on = refl }; table = (record { dropped = refl; apart = refl; small = omega arith }, tt) }

-- ---- 2^28 bytes and one more

pub too_large : (body : ℕ) → FollowsAt body new_history (pictured 268435457) → ⊥
too_large body k = (let small = k.table.0.small in omega (arith, small))
