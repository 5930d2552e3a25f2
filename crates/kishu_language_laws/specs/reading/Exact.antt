-- When a reader reads exactly what a language spells, up to tokens that do not go on with it: one law for each way to put readers together.
use Rattle.std.specs.Prelude.{◌≡◌, ◌⊎◌, ℕ, zero, suc, ◌-◌, ◌<◌, ◌≤◌, ℤ, Bool, true, false, cond, List, [], ◌∷◌, ◌++◌, length, take, Option, Some, None, is_some}
use Rattle.std.proofs.Common.{refl, sym, ap, subst, ◌∙◌, arith, append_assoc, inl, inr, ⊎_elim}
use Rattle.std.proofs.lemmas.List.{length-append, take_at}
use denote.Enum.Bare.{same_true, true_same}
use Rattle.kishu_language.specs.contracts.token.Mark.{the_type}
use Rattle.kishu_language.specs.declared.token.Mark.{Mark}
use Rattle.kishu_language.specs.tokens.Layout.{Token, Kind, same}
use Rattle.kishu_language.specs.tokens.Layout as kind
use Rattle.kishu_language.specs.grammar.Language.{Tokens, Language, Many, done, more}
use Rattle.kishu_language.specs.grammar.Language as l
use Rattle.kishu_language.specs.reading.Reader.{Outcome, Reader, and_then, next, and_rest, sees_some, in_table, is_mark, where_so, sees, sees_one, either, climb, turns}
use Rattle.kishu_language.specs.reading.Reader as r

-- The second list is the end of the first.
abbrev pub Part : Tokens → Tokens → Type 0
Part ts us = (front : Tokens) × (ts ≡ front ++ us)

pub record Reads {A : Type 0} (p : Language A) (f : Reader A) (Stops : List Token → Type 0) : Type 0 where
  pub sound : (ts us : Tokens) (a : A) → f ts ≡ Some (a, us) → p ts us a
  pub complete : (ts us : Tokens) (a : A) → p ts us a → Stops us → f ts ≡ Some (a, us)
  pub no_longer : (ts us : Tokens) (a : A) → p ts us a → length us ≤ length ts
  pub part : (ts us : Tokens) (a : A) → p ts us a → Part ts us

-- all of whose phrases begin so, and take a token
pub record Begins {A : Type 0} (p : Language A) (test : List Token → Bool) : Type 0 where
  pub begins : (ts us : Tokens) (a : A) → p ts us a → test ts ≡ true
  pub shorter : (ts us : Tokens) (a : A) → p ts us a → length us < length ts

-- whatever follows
abbrev pub anything : Tokens → Type 0
anything ts = Unit {0}

pub some_is : {A : Type 0} {x y : A} → Some x ≡ Some y → x ≡ y
some_is e = cc

part_same : {ts us : Tokens} → ts ≡ us → Part ts us
part_same e = ([], e)

pub part_on : {ts us vs : Tokens} → Part ts us → Part us vs → Part ts vs
part_on {vs = vs} p q = (p.0 ++ q.0, p.1 ∙ ap (λ v. p.0 ++ v) q.1 ∙ sym (append_assoc p.0 q.0 vs))

then_some : {A B : Type 0} (o : Outcome A) (g : A → Reader B) (y : B × Tokens) → and_then o g ≡ Some y → (x : A × Tokens) × (o ≡ Some x) × (g x.0 x.1 ≡ Some y)
then_some (Some x) g y e = (x, refl, e)
then_some None g y e = absurd cc

pub by_test : {X : Type 0} (b : Bool) (x y : X) (P : Type 0) (z : X) → (b ≡ true → x ≡ z → P) → (b ≡ false → y ≡ z → P) → cond b x y ≡ z → P
by_test true x y P z f g e = f refl e
by_test false x y P z f g e = g refl e

pub pure_reads : {A : Type 0} {a : A} {S : Tokens → Type 0} → Reads (l.pure a) (r.pure a) S
pure_reads = record {
  sound = λ ts us b e. (let k : _ ≡ (b, us) = some_is e in (ap (λ p. p.1) k, ap (λ p. p.0) k));
  complete = λ ts us b h s. (λ i. Some (h.1 i, h.0 i));
  no_longer = λ ts us b h. omega (arith, ap length h.0);
  part = λ ts us b h. part_same h.0;
}

pub none_reads : {A : Type 0} {S : Tokens → Type 0} → Reads (l.none {A = A}) r.refuse S
none_reads = record {
  sound = λ ts us a e. absurd cc;
  complete = λ ts us a h s. absurd h;
  no_longer = λ ts us a h. absurd h;
  part = λ ts us a h. absurd h;
}

pub none_begins : {A : Type 0} {test : Tokens → Bool} → Begins (l.none {A = A}) test
none_begins = record { begins = λ ts us a h. absurd h; shorter = λ ts us a h. absurd h }

pub where_reads : {b : Bool} {S : Tokens → Type 0} → Reads (l.where_true b) (r.where_true b) S
where_reads {b = b} = record {
  sound = λ ts us a e. by_test b (Some (tt, ts)) None ((ts ≡ us) × (b ≡ true)) (Some (a, us))
      (λ is k. (let p : (tt, ts) ≡ (a, us) = some_is k in (ap (λ p. p.1) p, is)))
      (λ _ k. absurd cc) e;
  complete = λ ts us a h s. ap (λ c. cond c (Some (tt, ts)) None) h.1 ∙ ap (λ (v : Tokens). Some (tt, v)) h.0;
  no_longer = λ ts us a h. omega (arith, ap length h.0);
  part = λ ts us a h. part_same h.0;
}

pub bind_reads : {A B : Type 0} {p : Language A} {f : Reader A} {q : A → Language B} {g : A → Reader B} {T : Tokens → Type 0} (S : Tokens → Type 0)
    → Reads p f S → ((a : A) → Reads (q a) (g a) T) → ((a : A) (ts us : Tokens) (b : B) → q a ts us b → T us → S ts)
    → Reads (l.◌>>=◌ p q) (r.◌>>=◌ f g) T
bind_reads {f = f} {g = g} S first second stops = record {
  sound = λ ts us b e. (let k = then_some (f ts) (g) (b, us) e in (k.0.1, k.0.0, first.sound ts k.0.1 k.0.0 k.1, (second k.0.0).sound k.0.1 us b k.2));
  complete = λ ts us b h s.
      ap (λ o. and_then o g) (first.complete ts h.0 h.1 h.2 (stops h.1 h.0 us b h.3 s)) ∙ (second h.1).complete h.0 us b h.3 s;
  no_longer = λ ts us b h. omega (arith, first.no_longer ts h.0 h.1 h.2, (second h.1).no_longer h.0 us b h.3);
  part = λ ts us b h. part_on (first.part ts h.0 h.1 h.2) ((second h.1).part h.0 us b h.3);
}

pub either_reads : {A : Type 0} {test : Tokens → Bool} {p q : Language A} {f g : Reader A} {S : Tokens → Type 0}
    → Reads p f S → Reads q g S
    → ((ts us : Tokens) (a : A) → p ts us a → S us → test ts ≡ true)
    → ((ts us : Tokens) (a : A) → q ts us a → S us → test ts ≡ false)
    → Reads (l.◌or◌ p q) (either test f g) S
either_reads {test = test} {p = p} {q = q} {f = f} {g = g} first second has lacks = record {
  sound = λ ts us a e. by_test (test ts) (f ts) (g ts) (p ts us a ⊎ q ts us a) (Some (a, us)) (λ _ e. inl (first.sound ts us a e)) (λ _ e. inr (second.sound ts us a e)) e;
  complete = λ ts us a h s. ⊎_elim
      (λ k. ap (λ b. cond b (f ts) (g ts)) (has ts us a k s) ∙ first.complete ts us a k s)
      (λ k. ap (λ b. cond b (f ts) (g ts)) (lacks ts us a k s) ∙ second.complete ts us a k s) h;
  no_longer = λ ts us a h. ⊎_elim (first.no_longer ts us a) (second.no_longer ts us a) h;
  part = λ ts us a h. ⊎_elim (first.part ts us a) (second.part ts us a) h;
}

-- the same with the other one tried first
pub either_swapped : {A : Type 0} {test : Tokens → Bool} {p q : Language A} {f g : Reader A} {S : Tokens → Type 0}
    → Reads p f S → Reads q g S
    → ((ts us : Tokens) (a : A) → p ts us a → S us → test ts ≡ true)
    → ((ts us : Tokens) (a : A) → q ts us a → S us → test ts ≡ false)
    → Reads (l.◌or◌ q p) (either test f g) S
either_swapped {test = test} {p = p} {q = q} {f = f} {g = g} first second has lacks =
    let both = either_reads {test = test} {p = p} {q = q} {f = f} {g = g} first second has lacks in
    record {
      sound = λ ts us a e. ⊎_elim inr inl (both.sound ts us a e);
      complete = λ ts us a h s. both.complete ts us a (⊎_elim inr inl h) s;
      no_longer = λ ts us a h. both.no_longer ts us a (⊎_elim inr inl h);
      part = λ ts us a h. both.part ts us a (⊎_elim inr inl h);
    }

-- ---- repetitions

module _ {A : Type 0} (test : Tokens → Bool) (step : A → Language A) (f : A → Reader A) (S T : Tokens → Type 0)
    (reads : (a : A) → Reads (step a) (f a) S) (begins : (a : A) → Begins (step a) test)
    (ends : (ts : Tokens) → T ts → (test ts ≡ false) × S ts) (goes_on : (a b : A) (ts us : Tokens) → step a ts us b → S ts) where
  many_no_longer : {a b : A} {ts us : Tokens} → Many step a ts us b → length us ≤ length ts
  many_no_longer done = omega arith
  many_no_longer (more h t) = omega (arith, (reads _).no_longer _ _ _ h, many_no_longer t)

  many_part : {a b : A} {ts us : Tokens} → Many step a ts us b → Part ts us
  many_part done = part_same refl
  many_part (more h t) = part_on ((reads _).part _ _ _ h) (many_part t)

  many_sound : (n : ℕ) (a : A) (ts us : Tokens) (b : A) → climb test f n a ts ≡ Some (b, us) → Many step a ts us b
  many_sound zero a ts us b e = let k : (a, ts) ≡ (b, us) = some_is e in subst (λ (x : A × Tokens). Many step a ts x.1 x.0) k done
  many_sound (suc n) a ts us b e =
      by_test (test ts) (and_then (f a ts) (climb test f n)) (Some (a, ts)) (Many step a ts us b) (Some (b, us))
      (λ _ e. let k = then_some (f a ts) (climb test f n) (b, us) e in more ((reads a).sound ts k.0.1 k.0.0 k.1) (many_sound n k.0.0 k.0.1 us b k.2))
      (λ _ e. let k : (a, ts) ≡ (b, us) = some_is e in subst (λ (x : A × Tokens). Many step a ts x.1 x.0) k done) e

  -- what follows a turn stops it
  pub after : {a b : A} {ts us : Tokens} → Many step a ts us b → T us → S ts
  after done t = (ends _ t).1
  after (more h k) t = goes_on _ _ _ _ h

  many_complete : (n : ℕ) (a b : A) (ts us : Tokens) → length ts ≤ n → Many step a ts us b → T us → climb test f n a ts ≡ Some (b, us)
  many_complete zero a b ts us fits done t = refl
  many_complete (suc n) a b ts us fits done t = ap (λ c. cond c (and_then (f a ts) (climb test f n)) (Some (a, ts))) (ends _ t).0
  many_complete zero a b ts us fits (more h k) t = absurd (omega (arith, (begins _).shorter _ _ _ h))
  many_complete (suc n) a b ts us fits (more {b = c} {us = vs} h k) t =
      ap (λ c. cond c (and_then (f a ts) (climb test f n)) (Some (a, ts))) ((begins _).begins _ _ _ h)
      ∙ ap (λ o. and_then o (climb test f n)) ((reads _).complete _ _ _ h (after k t))
      ∙ many_complete n c b vs us (omega (arith, (begins _).shorter _ _ _ h)) k t

  pub many_reads : (a : A) → Reads (Many step a) (turns test f a) T
  many_reads a = record {
    sound = λ ts us b e. many_sound (length ts) a ts us b e;
    complete = λ ts us b h t. many_complete (length ts) a b ts us (omega arith) h t;
    no_longer = λ ts us b h. many_no_longer h;
    part = λ ts us b h. many_part h;
  }

-- ---- how phrases begin

pub begins_then : {A B : Type 0} {p : Language A} {q : A → Language B} {test : Tokens → Bool} (g : A → Reader B) (T : Tokens → Type 0)
    → Begins p test → ((a : A) → Reads (q a) (g a) T) → Begins (l.◌>>=◌ p q) test
begins_then g T first second = record {
  begins = λ ts us b h. first.begins ts h.0 h.1 h.2;
  shorter = λ ts us b h. omega (arith, first.shorter ts h.0 h.1 h.2, (second h.1).no_longer h.0 us b h.3);
}

pub begins_or : {A : Type 0} {p q : Language A} {test : Tokens → Bool} → Begins p test → Begins q test → Begins (l.◌or◌ p q) test
begins_or first second = record {
  begins = λ ts us a h. ⊎_elim (first.begins ts us a) (second.begins ts us a) h;
  shorter = λ ts us a h. ⊎_elim (first.shorter ts us a) (second.shorter ts us a) h;
}

pub begins_by : {A : Type 0} {p : Language A} {test other : Tokens → Bool} → Begins p test → ((ts : Tokens) → test ts ≡ true → other ts ≡ true) → Begins p other
begins_by first implies = record {
  begins = λ ts us a h. implies ts (first.begins ts us a h);
  shorter = first.shorter;
}

-- ---- lists

module _ {A : Type 0} {item : Language A} {f : Reader A} (S : Tokens → Type 0) (reads : Reads item f S) where
  pub one_more_reads : (all : List A) → Reads (l.one_more item all) (r.one_more f all) S
  one_more_reads all = bind_reads S reads (λ next. pure_reads) (λ a ts us b h s. subst S (sym h.0) s)

  pub one_more_begins : {test : Tokens → Bool} → Begins item test → (all : List A) → Begins (l.one_more item all) test
  one_more_begins first all = begins_then _ S first (λ next. pure_reads)

  module _ (test : Tokens → Bool) (T : Tokens → Type 0) (begins : Begins item test) (ends : (ts : Tokens) → T ts → (test ts ≡ false) × S ts) (goes_on : (ts us : Tokens) (a : A) → item ts us a → S ts) where
    more_goes_on : (all b : List A) (ts us : Tokens) → l.one_more item all ts us b → S ts
    more_goes_on all b ts us h = goes_on ts h.0 h.1 h.2

    pub list_reads : (all : List A) → Reads (Many (l.one_more item) all) (turns test (r.one_more f) all) T
    list_reads all = many_reads test (l.one_more item) (r.one_more f) S T one_more_reads (one_more_begins begins) ends more_goes_on all

    pub list_after : (a b : List A) (ts us : Tokens) → Many (l.one_more item) a ts us b → T us → S ts
    list_after a b ts us h s = after test (l.one_more item) (r.one_more f) S T one_more_reads (one_more_begins begins) ends more_goes_on h s

    -- one at least
    pub some_reads : Reads (l.some item) (r.some test f) T
    some_reads = bind_reads S reads (λ first. list_reads (first ∷ [])) (λ first ts us b h s. list_after (first ∷ []) b ts us h s)

    pub some_begins : {other : Tokens → Bool} → Begins item other → Begins (l.some item) other
    some_begins first = begins_then _ T first (λ a. list_reads (a ∷ []))

-- it, or nothing
pub optional_reads : {A : Type 0} {item : Language A} {f : Reader A} (test : Tokens → Bool) (S : Tokens → Type 0) → Reads item f S → Begins item test → ((ts : Tokens) → S ts → test ts ≡ false) → Reads (l.optional item) (r.optional test f) S
optional_reads {item = item} {f = f} test S reads begins ends = either_swapped
    (bind_reads S reads (λ a. pure_reads) (λ a ts us b h s. subst S (sym h.0) s))
    pure_reads
    (λ ts us a h s. begins.begins ts h.0 h.1 h.2)
    (λ ts us a h s. ends ts (subst S (sym h.0) s))

-- ---- the same language, and fewer ends

pub same_reads : {A : Type 0} {p q : Language A} {f : Reader A} {S : Tokens → Type 0} → Reads p f S
    → ((ts us : Tokens) (a : A) → p ts us a → q ts us a) → ((ts us : Tokens) (a : A) → q ts us a → p ts us a) → Reads q f S
same_reads reads into back = record {
  sound = λ ts us a e. into ts us a (reads.sound ts us a e);
  complete = λ ts us a h s. reads.complete ts us a (back ts us a h) s;
  no_longer = λ ts us a h. reads.no_longer ts us a (back ts us a h);
  part = λ ts us a h. reads.part ts us a (back ts us a h);
}

pub same_begins : {A : Type 0} {p q : Language A} {test : Tokens → Bool} → Begins p test → ((ts us : Tokens) (a : A) → q ts us a → p ts us a) → Begins q test
same_begins first back = record {
  begins = λ ts us a h. first.begins ts us a (back ts us a h);
  shorter = λ ts us a h. first.shorter ts us a (back ts us a h);
}

pub fewer_ends : {A : Type 0} {p : Language A} {f : Reader A} {S T : Tokens → Type 0} → Reads p f S → ((ts : Tokens) → T ts → S ts) → Reads p f T
fewer_ends reads implies = record {
  sound = reads.sound;
  complete = λ ts us a h t. reads.complete ts us a h (implies us t);
  no_longer = reads.no_longer;
  part = reads.part;
}

take_front : (ts us front : Tokens) → ts ≡ front ++ us → take (length ts - length us) ts ≡ front
take_front ts us front e =
    let n : length ts - length us ≡ length front = omega (arith, ap length e, length-append front us) in
    ap (λ v. take v ts) n ∙ ap (take (length front)) e ∙ take_at front us _ refl

-- a value with its tokens
pub spelled_reads : {A : Type 0} {p : Language A} {f : Reader A} {S : Tokens → Type 0} → Reads p f S → Reads (l.spelled p) (r.spelled f) S
spelled_reads {A = A} {p = p} {f = f} reads = record {
  sound = λ ts us b e.
      (let k = then_some (f ts) (λ a us. Some ((a, take (length ts - length us) ts), us)) (b, us) e in
      let h = reads.sound ts k.0.1 k.0.0 k.1 in
      let front = reads.part ts k.0.1 k.0.0 h in
      let same : ◌≡◌ {A = (A × Tokens) × Tokens} ((k.0.0, take (length ts - length k.0.1) ts), k.0.1) (b, us) = some_is k.2 in
      subst (λ (x : (A × Tokens) × Tokens). p ts x.1 x.0.0 × (ts ≡ x.0.1 ++ x.1)) same
      (h, front.1 ∙ ap (λ v. v ++ k.0.1) (sym (take_front ts k.0.1 front.0 front.1))));
  complete = λ ts us b h s.
      ap (λ o. and_then o (λ a us. Some ((a, take (length ts - length us) ts), us))) (reads.complete ts us b.0 h.0 s)
      ∙ ap (λ v. Some ((b.0, v), us)) (take_front ts us b.1 h.1);
  no_longer = λ ts us b h. reads.no_longer ts us b.0 h.0;
  part = λ ts us b h. (b.1, h.1);
}

-- ---- tokens

-- one token that has such a thing
abbrev pub found_token : {A : Type 0} → (Kind → Option A) → Language A
found_token found = λ from to a. (t : Token) × (from ≡ t ∷ to) × (found t.kind ≡ Some a)

module _ {A : Type 0} (found : Kind → Option A) where
  read_found : (t : Token) (ts us : Tokens) (a : A) (o : Option A) → found t.kind ≡ o → and_rest (t ∷ ts) o ≡ Some (a, us) → found_token found (t ∷ ts) us a
  read_found t ts us a None k e = absurd cc
  read_found t ts us a (Some b) k e =
      let p : (b, ts) ≡ (a, us) = some_is e in (t, ap (λ (v : Tokens). t ∷ v) (ap (λ p. p.1) p), k ∙ ap (λ p. Some p.0) p)

  read_token : (ts us : Tokens) (a : A) → r.token found ts ≡ Some (a, us) → found_token found ts us a
  read_token [] us a e = absurd cc
  read_token (t ∷ ts) us a e = read_found t ts us a (found t.kind) refl e

  pub found_reads : {S : Tokens → Type 0} → Reads (found_token found) (r.token found) S
  found_reads = record {
    sound = read_token;
    complete = λ ts us a h s. ap (r.token found) h.1 ∙ ap (and_rest (h.0 ∷ us)) h.2;
    no_longer = λ ts us a h. omega (arith, ap length h.1);
    part = λ ts us a h. (h.0 ∷ [], h.1);
  }

  pub found_begins : Begins (found_token found) (sees_some found)
  found_begins = record {
    begins = λ ts us a h. ap (sees_some found) h.1 ∙ ap is_some h.2;
    shorter = λ ts us a h. omega (arith, ap length h.1);
  }

-- The reader finds what the kind carries.
pub record Finds {A : Type 0} (kind : A → Kind) (found : Kind → Option A) : Type 0 where
  pub there : (a : A) → found (kind a) ≡ Some a
  pub only : (k : Kind) (a : A) → found k ≡ Some a → k ≡ kind a

module _ {A : Type 0} {carries : A → Kind} {found : Kind → Option A} (finds : Finds carries found) where
  token_found : (ts us : Tokens) (a : A) → l.token carries ts us a → found_token found ts us a
  token_found ts us a h = (h.0, h.1, ap found h.2 ∙ finds.there a)

  pub token_reads : {S : Tokens → Type 0} → Reads (l.token carries) (r.token found) S
  token_reads = same_reads (found_reads found) (λ ts us a h. (h.0, h.1, finds.only h.0.kind a h.2)) token_found

  pub token_begins : Begins (l.token carries) (sees_some found)
  token_begins = same_begins (found_begins found) token_found

pub name_finds : Finds kind.name r.a_name
name_finds = record { there = λ a. refl; only = only }
  where
    only : (k : Kind) (a : List ℕ) → r.a_name k ≡ Some a → k ≡ kind.name a
    only (kind.name x) a h = ap kind.name (some_is h)
    only (kind.integer z) a h = absurd cc
    only (kind.quoted x) a h = absurd cc
    only kind.newline a h = absurd cc
    only kind.indent a h = absurd cc
    only kind.dedent a h = absurd cc
    only (kind.mark m) a h = absurd cc

pub integer_finds : Finds kind.integer r.an_integer
integer_finds = record { there = λ a. refl; only = only }
  where
    only : (k : Kind) (a : ℤ) → r.an_integer k ≡ Some a → k ≡ kind.integer a
    only (kind.integer z) a h = ap kind.integer (some_is h)
    only (kind.name x) a h = absurd cc
    only (kind.quoted x) a h = absurd cc
    only kind.newline a h = absurd cc
    only kind.indent a h = absurd cc
    only kind.dedent a h = absurd cc
    only (kind.mark m) a h = absurd cc

pub text_finds : Finds kind.quoted r.a_text
text_finds = record { there = λ a. refl; only = only }
  where
    only : (k : Kind) (a : List ℕ) → r.a_text k ≡ Some a → k ≡ kind.quoted a
    only (kind.quoted x) a h = ap kind.quoted (some_is h)
    only (kind.name x) a h = absurd cc
    only (kind.integer z) a h = absurd cc
    only kind.newline a h = absurd cc
    only kind.indent a h = absurd cc
    only kind.dedent a h = absurd cc
    only (kind.mark m) a h = absurd cc

pub so_true : (b : Bool) (a : Unit {0}) → where_so b ≡ Some a → b ≡ true
so_true true a h = refl
so_true false a h = absurd cc

pub mark_finds : (m : Mark) → Finds (λ _. kind.mark m) (is_mark m)
mark_finds m = record { there = λ a. ap where_so (true_same the_type m m refl); only = only }
  where
    only : (k : Kind) (a : Unit {0}) → is_mark m k ≡ Some a → k ≡ kind.mark m
    only (kind.mark n) a h = ap kind.mark (same_true the_type tt n m (so_true (same n m) a h))
    only (kind.name x) a h = absurd cc
    only (kind.integer z) a h = absurd cc
    only (kind.quoted x) a h = absurd cc
    only kind.newline a h = absurd cc
    only kind.indent a h = absurd cc
    only kind.dedent a h = absurd cc

pub mark_reads : {m : Mark} {S : Tokens → Type 0} → Reads (l.mark m) (r.mark m) S
mark_reads {m = m} = token_reads (mark_finds m)

pub mark_begins : {m : Mark} → Begins (l.mark m) (sees m)
mark_begins {m = m} = token_begins (mark_finds m)

module _ {A : Type 0} (table : Mark → Option A) where
  one_found : (ts us : Tokens) (a : A) → l.one_of table ts us a → found_token (in_table table) ts us a
  one_found ts us a h = (h.0, h.2, ap (in_table table) h.3 ∙ h.4)

  pub of_kind : (k : Kind) (a : A) → in_table table k ≡ Some a → (m : Mark) × (k ≡ kind.mark m) × (table m ≡ Some a)
  of_kind (kind.mark m) a h = (m, refl, h)
  of_kind (kind.name x) a h = absurd cc
  of_kind (kind.integer z) a h = absurd cc
  of_kind (kind.quoted x) a h = absurd cc
  of_kind kind.newline a h = absurd cc
  of_kind kind.indent a h = absurd cc
  of_kind kind.dedent a h = absurd cc

  pub one_of_reads : {S : Tokens → Type 0} → Reads (l.one_of table) (r.one_of table) S
  one_of_reads = same_reads (found_reads (in_table table))
      (λ ts us a h. (let k = of_kind h.0.kind a h.2 in (h.0, k.0, h.1, k.1, k.2))) one_found

  pub one_of_begins : Begins (l.one_of table) (sees_one table)
  one_of_begins = same_begins (found_begins (in_table table)) one_found
