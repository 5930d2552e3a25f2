-- The definitions at small values, worked out by hand.
use Rattle.std.proofs.Common.{◌≡◌, refl, ℕ, List, [], ◌∷◌, true, false, Some, None, inl, inr, arith}
use Rattle.kishu_host.specs.Host.{overwrite, Rises}
use Rattle.kishu_host.specs.Story.{Event, Wrote, Synced, Put, file_after, out_after, is_valid, torn_of}
use Rattle.kishu_host.specs.Crash.{range, is_written, greatest_length, synced_file, ranges_since, MayHold}
use Rattle.kishu_host.specs.Memory.{told, next, is_refused}

-- a file of four bytes: one written and synced, then two writes and a put
events : List Event
events = Wrote 4 (50 ∷ 60 ∷ []) ∷ Put (7 ∷ []) ∷ Wrote 0 (10 ∷ []) ∷ Synced ∷ Wrote 1 (20 ∷ []) ∷ []

first : List ℕ
first = 1 ∷ 2 ∷ 3 ∷ 4 ∷ []

file : file_after first events ≡ 10 ∷ 20 ∷ 3 ∷ 4 ∷ 50 ∷ 60 ∷ []
unfolding events first
file = refl

out : out_after events ≡ 7 ∷ []
unfolding events
out = refl

valid : is_valid first events ≡ true
unfolding events first
valid = refl

-- no write begins past the end
gap : is_valid first (Wrote 5 (9 ∷ []) ∷ []) ≡ false
unfolding first
gap = refl

synced : synced_file first events ≡ 1 ∷ 20 ∷ 3 ∷ 4 ∷ []
unfolding events first
synced = refl

since : ranges_since events ≡ range 4 2 ∷ range 0 1 ∷ []
unfolding events
since = refl

torn : torn_of 165 first events ≡ 165 ∷ 20 ∷ 3 ∷ 4 ∷ 165 ∷ 165 ∷ []
unfolding events first
torn = refl

greatest : greatest_length 4 (ranges_since events) ≡ 6
unfolding events
greatest = refl

written : is_written 5 (ranges_since events) ≡ true
unfolding events
written = refl

not_written : is_written 1 (ranges_since events) ≡ false
unfolding events
not_written = refl

inside : overwrite 1 (8 ∷ 9 ∷ []) first ≡ 1 ∷ 8 ∷ 9 ∷ 4 ∷ []
unfolding first
inside = refl

past_the_end : overwrite 3 (8 ∷ 9 ∷ []) first ≡ 1 ∷ 2 ∷ 3 ∷ 8 ∷ 9 ∷ []
unfolding first
past_the_end = refl

-- the call fails where its number is listed, or is at least the stop
listed : is_refused (3 ∷ 5 ∷ []) None 5 ≡ true
listed = refl

unlisted : is_refused (3 ∷ 5 ∷ []) None 4 ≡ false
unlisted = refl

stopped : is_refused [] (Some 4) 4 ≡ true
stopped = refl

before_the_stop : is_refused [] (Some 4) 3 ≡ false
before_the_stop = refl

-- numbers end at 2^64-1
raised : next 7 ≡ 8
raised = refl

last : next 18446744073709551615 ≡ 18446744073709551615
last = refl

almost_last : told 18446744073709551614 ≡ Some 18446744073709551614
almost_last = refl

untold : told 18446744073709551615 ≡ None
untold = refl

-- a count has risen where it is greater or can't rise, and not where it stands below
risen : Rises 4 5
risen = inl (omega arith)

at_the_last : Rises 18446744073709551615 18446744073709551615
at_the_last = inr (omega arith)

not_risen : Rises 5 5 → ⊥
not_risen h = omega (arith, h)

-- a byte outside the written ranges stays, so a stop can't leave this file
kept : MayHold (1 ∷ 2 ∷ []) (range 1 1 ∷ []) (9 ∷ 2 ∷ []) → ⊥
kept held = let e : 9 ≡ 1 = held.kept 0 (omega arith) refl in omega (arith, e)

-- nor a shorter one, nor a longer one than there was
no_shorter : MayHold (1 ∷ 2 ∷ []) (range 1 1 ∷ []) (1 ∷ []) → ⊥
no_shorter held = omega (arith, held.no_shorter)

no_longer : MayHold (1 ∷ 2 ∷ []) (range 1 2 ∷ []) (1 ∷ 2 ∷ 3 ∷ 4 ∷ []) → ⊥
no_longer held = omega (arith, held.no_longer)
