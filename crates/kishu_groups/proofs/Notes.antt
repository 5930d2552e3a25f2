-- Noting nodes keeps what the marks tell: from which name a node is reached, and which names are linked.
use Rattle.std.specs.Prelude.{◌≡◌, ℕ, zero, suc, ◌+◌, ◌<◌, ◌≤◌, ◌⊎◌, nat_eq, true, false, List, [], ◌∷◌, ◌++◌, map, length, get_or, slice_get, Option, Some, None}
use Rattle.std.specs.List.{list_any, position_or_len}
use Rattle.std.proofs.Common.{refl, ap, sym, ◌∙◌, subst, arith, inl, inr, length-append}
use Rattle.std.proofs.lemmas.Bool.{cases_Bool}
use Rattle.kishu_meaning.specs.values.Values.{Value, node, State, find}
use Rattle.kishu_objects.specs.Lists.{In}
use Rattle.kishu_objects.specs.Picture.{numbers, place, roots, with_value}
use Rattle.kishu_objects.specs.Groups.{Reaches, Touch, Linked, itself, further}
use Rattle.kishu_objects_laws.specs.ListLaws.{in_at, in_contains, same_or_not, any_in, at_place, true_not_false}
use Rattle.kishu_objects_laws.specs.OrderLaws.{roots_cons, in_numbers}
use Rattle.kishu_objects_laws.specs.WalkLaws.{noted_all, noted_all_append}
use Rattle.kishu_groups.specs.Classes.{joined, each_alone}
use Rattle.kishu_groups.specs.Gathering.{AreFirsts}
use Rattle.kishu_groups.specs.Marks.{Marks, AreMarks, Kept, label_of, note, note_all, note_names}
use Rattle.kishu_groups.proofs.Joins.{IsJoined, joined_is, joined_size, get_there, there_short, alone_length, alone_get, alone_firsts}

-- ---- the nodes that are found

pub found_all : (l : ℕ) (is : List ℕ) (m : Marks) → (note_all l is m).found ≡ noted_all m.found is
found_all l [] m = refl
found_all l (i ∷ is) m = found_all l is (note l i m)

pub found_names : (s : State) (j : ℕ) (xs : List (List ℕ)) (m : Marks) → (note_names s.names j xs m).found ≡ noted_all m.found (roots s xs)
found_names s j [] m = refl
found_names s j (x ∷ xs) m =
    let ns = numbers (map (λ (b : List ℕ × Value). b.1) (with_value x (find x s.names))) in
    found_names s (suc j) xs (note_all j ns m) ∙ ap (λ f. noted_all f (roots s xs)) (found_all j ns m)
    ∙ sym (noted_all_append m.found ns (roots s xs)) ∙ ap (noted_all m.found) (sym (roots_cons s x xs))

-- ---- one node

place_is : (ks : List ℕ) (i : ℕ) → In i ks → position_or_len (nat_eq i) ks ≡ place ks i
place_is [] i h = absurd h
place_is (k ∷ ks) i h = elim (same_or_not i k) [
  | inl e ↦ elim (same_or_not k i) [ inl f ↦ rw (e.1, f.1) refl | inr m ↦ absurd (m.0 (sym e.0)) ]
  | inr n ↦ elim (same_or_not k i) [
    | inl f ↦ absurd (n.0 (sym f.0))
    | inr m ↦ elim h [ inl e ↦ absurd (n.0 e) | inr r ↦ (let a = place_is ks i r in rw (n.1, m.1) (omega (arith, a))) ]
  ]
]

-- where the node was found, at that place
place_there : (i : ℕ) (ks : List ℕ) → list_any (nat_eq i) ks ≡ true → slice_get ks (position_or_len (nat_eq i) ks) ≡ Some i
place_there i ks e =
    let k = any_in (nat_eq i) ks e in
    let h : In i ks = elim (same_or_not i k.0) [ inl f ↦ subst (λ z. In z ks) (sym f.0) k.1 | inr n ↦ absurd (true_not_false (sym k.2 ∙ n.1)) ] in
    ap (slice_get ks) (place_is ks i h) ∙ at_place ks i h

pub there_front : {A : Type 0} (xs zs : List A) (k : ℕ) (a : A) → slice_get xs k ≡ Some a → slice_get (xs ++ zs) k ≡ Some a
there_front [] zs k a e = absurd (cc)
there_front (x ∷ xs) zs zero a e = e
there_front (x ∷ xs) zs (suc k) a e = there_front xs zs k a e

pub there_back : {A : Type 0} (xs : List A) (a : A) (k : ℕ) → k ≡ length xs → slice_get (xs ++ a ∷ []) k ≡ Some a
there_back [] a zero e = refl
there_back [] a (suc k) e = absurd (omega arith)
there_back (x ∷ xs) a zero e = absurd (omega arith)
there_back (x ∷ xs) a (suc k) e = there_back xs a k (omega arith)

-- what is at a place of a list with one more
pub push_cases : {A : Type 0} (xs : List A) (a b : A) (k : ℕ) → slice_get (xs ++ a ∷ []) k ≡ Some b
    → (slice_get xs k ≡ Some b) ⊎ ((k ≡ length xs) × (a ≡ b))
push_cases [] a b zero e = inr (refl, cc)
push_cases [] a b (suc k) e = absurd (cc)
push_cases (x ∷ xs) a b zero e = inl e
push_cases (x ∷ xs) a b (suc k) e = elim (push_cases xs a b k e) [ inl f ↦ inl f | inr f ↦ inr ((let g = f.0 in omega arith), f.1) ]

pub no_place : {A : Type 0} (xs : List A) (k : ℕ) (a : A) → length xs ≤ k → slice_get xs k ≡ Some a → ⊥
no_place xs k a l e = (let s = there_short xs k a e in omega arith)

-- The node has a number of the class of a.
pub record Belongs (m : Marks) (k a : ℕ) : Type 0 where
  pub place : ℕ
  pub label : ℕ
  pub found : slice_get m.found place ≡ Some k
  pub labelled : slice_get m.labels place ≡ Some label
  pub one : slice_get m.firsts label ≡ slice_get m.firsts a

-- Nothing that was told is taken back.
pub record Grows (m n : Marks) : Type 0 where
  pub found : (p k : ℕ) → slice_get m.found p ≡ Some k → slice_get n.found p ≡ Some k
  pub labels : (p k : ℕ) → slice_get m.labels p ≡ Some k → slice_get n.labels p ≡ Some k
  pub one : (a b : ℕ) → slice_get m.firsts a ≡ slice_get m.firsts b → slice_get n.firsts a ≡ slice_get n.firsts b

pub grows_none : (m : Marks) → Grows m m
grows_none m = record { found = λ p k e. e; labels = λ p k e. e; one = λ a b e. e }

pub grows_on : (m n o : Marks) → Grows m n → Grows n o → Grows m o
grows_on m n o g h = record {
  found = λ p k e. h.found p k (g.found p k e);
  labels = λ p k e. h.labels p k (g.labels p k e);
  one = λ a b e. h.one a b (g.one a b e);
}

pub belongs_on : (m n : Marks) (k a : ℕ) → Grows m n → Belongs m k a → Belongs n k a
belongs_on m n k a g b = record {
  place = b.place;
  label = b.label;
  found = g.found b.place k b.found;
  labelled = g.labels b.place b.label b.labelled;
  one = g.one b.label a b.one;
}

abbrev pub made : List ℕ → List ℕ → List ℕ → Marks
made found labels firsts = record { found = found; labels = labels; firsts = firsts }

note_old : (l i : ℕ) (m : Marks) → list_any (nat_eq i) m.found ≡ true → note l i m ≡ made m.found m.labels (joined (label_of m i) l m.firsts)
note_old l i m e = rw e refl

note_new : (l i : ℕ) (m : Marks) → list_any (nat_eq i) m.found ≡ false → note l i m ≡ made (m.found ++ i ∷ []) (m.labels ++ l ∷ []) m.firsts
note_new l i m e = rw e refl

-- Each node is reached from the name of its number, and names whose numbers are in one class are linked.
pub record Tells (s : State) (of : List (List ℕ)) (m : Marks) : Type 0 where
  pub marks : AreMarks m
  pub many : length m.firsts ≡ length of
  pub firsts : AreFirsts m.firsts
  pub reached : (p k l : ℕ) (x : List ℕ) → slice_get m.found p ≡ Some k → slice_get m.labels p ≡ Some l → slice_get of l ≡ Some x → Reaches s x k
  pub linked : (a b : ℕ) (x y : List ℕ) → slice_get of a ≡ Some x → slice_get of b ≡ Some y → slice_get m.firsts a ≡ slice_get m.firsts b
      → Linked s of x y

pub linked_on : (s : State) (of : List (List ℕ)) (x y z : List ℕ) → Linked s of x y → Linked s of y z → Linked s of x z
linked_on s of x y z a itself = a
linked_on s of x y z a (further w v l c t) = further w z (linked_on s of x y w a l) c t

-- What one more node leaves.
pub record Noted (s : State) (of : List (List ℕ)) (m n : Marks) : Type 0 where
  pub tells : Tells s of n
  pub grows : Grows m n

module _ (s : State) (of : List (List ℕ)) (l : ℕ) (x : List ℕ) (at : slice_get of l ≡ Some x) (i : ℕ) (reach : Reaches s x i) (m : Marks)
    (t : Tells s of m) where
  label_there : l < length m.firsts
  label_there = (let k = there_short of l x at in let n = t.many in omega arith)

  has : In x of
  has = in_at of l x at

  module _ (old : list_any (nat_eq i) m.found ≡ true) where
    abbrev spot : ℕ
    spot = position_or_len (nat_eq i) m.found

    found : slice_get m.found spot ≡ Some i
    found = place_there i m.found old

    labelled : slice_get m.labels spot ≡ Some (label_of m i)
    labelled = get_there m.labels spot 0 (let k = there_short m.found spot i found in let n = t.marks.sized in omega arith)

    label_low : label_of m i < length m.firsts
    label_low = t.marks.labelled spot (label_of m i) labelled

    abbrev other : List ℕ
    other = get_or of (label_of m i) []

    other_at : slice_get of (label_of m i) ≡ Some other
    other_at = get_there of (label_of m i) [] (let k = label_low in let n = t.many in omega arith)

    touch : Touch s other x
    touch = (i, t.reached spot i (label_of m i) other found labelled other_at, reach)

    touch_back : Touch s x other
    touch_back = (i, reach, t.reached spot i (label_of m i) other found labelled other_at)

    is_joined : IsJoined (label_of m i) l m.firsts (joined (label_of m i) l m.firsts)
    is_joined = joined_is m.firsts t.firsts (label_of m i) l label_low label_there

    abbrev after : Marks
    after = made m.found m.labels (joined (label_of m i) l m.firsts)

    old_linked : (a b : ℕ) (y z : List ℕ) → slice_get of a ≡ Some y → slice_get of b ≡ Some z → slice_get after.firsts a ≡ slice_get after.firsts b
        → Linked s of y z
    old_linked a b y z ea eb h =
        let many = t.many in
        let la = there_short of a y ea in
        let lb = there_short of b z eb in
        elim (is_joined.told a b (get_or m.firsts a 0) (get_or m.firsts b 0) (get_there m.firsts a 0 (omega arith))
        (get_there m.firsts b 0 (omega arith)) h) [
          | inl e ↦ t.linked a b y z ea eb e
          | inr e ↦ elim e [
            | inl f ↦ linked_on s of y x z (further other x (t.linked a (label_of m i) y other ea other_at f.0) (in_contains of x has) touch)
                (t.linked l b x z at eb (sym f.1))
            | inr f ↦ linked_on s of y other z
                (further x other (t.linked a l y x ea at f.0) (in_contains of other (in_at of (label_of m i) other other_at)) touch_back)
                (t.linked (label_of m i) b other z other_at eb (sym f.1))
          ]
        ]

    old_tells : Tells s of after
    old_tells = record {
      marks = record { sized = t.marks.sized; labelled = λ p k e. (let a = t.marks.labelled p k e in let b = is_joined.size in omega arith) };
      many = is_joined.size ∙ t.many;
      firsts = is_joined.firsts;
      reached = t.reached;
      linked = old_linked;
    }

    old_grows : Grows m after
    old_grows = record { found = λ p k e. e; labels = λ p k e. e; one = is_joined.same }

    old_belongs : Belongs after i l
    old_belongs = record { place = spot; label = label_of m i; found = found; labelled = labelled; one = is_joined.both }

  abbrev longer : Marks
  longer = made (m.found ++ i ∷ []) (m.labels ++ l ∷ []) m.firsts

  new_labelled : (p k : ℕ) → slice_get (m.labels ++ l ∷ []) p ≡ Some k → k < length m.firsts
  new_labelled p k e = elim (push_cases m.labels l k p e) [
    | inl f ↦
        t.marks.labelled p k f
    | inr f ↦ (let g = f.1 in let h = label_there in omega arith)
  ]

  new_reached : (p k q : ℕ) (y : List ℕ) → slice_get (m.found ++ i ∷ []) p ≡ Some k → slice_get (m.labels ++ l ∷ []) p ≡ Some q
      → slice_get of q ≡ Some y → Reaches s y k
  new_reached p k q y ef el ey =
      let sized = t.marks.sized in
      elim (push_cases m.found i k p ef) [
        | inl f ↦ elim (push_cases m.labels l q p el) [
          | inl g ↦ t.reached p k q y f g ey
          | inr g ↦ absurd (let a = there_short m.found p k f in let b = g.0 in omega arith)
        ]
        | inr f ↦ elim (push_cases m.labels l q p el) [
          | inl g ↦ absurd (let a = there_short m.labels p q g in let b = f.0 in omega arith)
          | inr g ↦ (
              let e : Some x ≡ Some y = sym at ∙ ap (slice_get of) g.1 ∙ ey in
              let h : x ≡ y = cc in
              subst (λ z. Reaches s y z) f.1 (subst (λ z. Reaches s z i) h reach)
              )
        ]
      ]

  new_tells : Tells s of longer
  new_tells = record {
    marks = record {
      sized = (let a = length-append m.labels (l ∷ []) in let b = length-append m.found (i ∷ []) in let c = t.marks.sized in
          omega arith);
      labelled = new_labelled;
    };
    many = t.many;
    firsts = t.firsts;
    reached = new_reached;
    linked = t.linked;
  }

  new_grows : Grows m longer
  new_grows = record { found = λ p k e. there_front m.found (i ∷ []) p k e; labels = λ p k e. there_front m.labels (l ∷ []) p k e; one = λ a b e. e }

  new_belongs : Belongs longer i l
  new_belongs = record {
    place = length m.found;
    label = l;
    found = there_back m.found i (length m.found) refl;
    labelled = there_back m.labels l (length m.found) (sym t.marks.sized);
    one = refl;
  }

  pub note_noted : Noted s of m (note l i m)
  note_noted = elim (cases_Bool (list_any (nat_eq i) m.found)) [
    | inl e ↦ subst (λ n. Noted s of m n) (sym (note_old l i m e)) (record { tells = old_tells e; grows = old_grows e })
    | inr e ↦ subst (λ n. Noted s of m n) (sym (note_new l i m e)) (record { tells = new_tells; grows = new_grows })
  ]

  pub note_belongs : Belongs (note l i m) i l
  note_belongs = elim (cases_Bool (list_any (nat_eq i) m.found)) [
    | inl e ↦ subst (λ n. Belongs n i l) (sym (note_old l i m e)) (old_belongs e)
    | inr e ↦ subst (λ n. Belongs n i l) (sym (note_new l i m e)) new_belongs
  ]

-- ---- many nodes

module _ (s : State) (of : List (List ℕ)) where
  pub all_noted : (l : ℕ) (x : List ℕ) → slice_get of l ≡ Some x → (is : List ℕ) → ((i : ℕ) → In i is → Reaches s x i) → (m : Marks) → Tells s of m
      → Noted s of m (note_all l is m)
  all_noted l x at [] reach m t = record { tells = t; grows = grows_none m }
  all_noted l x at (i ∷ is) reach m t =
      let one = note_noted s of l x at i (reach i (inl refl)) m t in
      let rest = all_noted l x at is (λ k h. reach k (inr h)) (note l i m) one.tells in
      record { tells = rest.tells; grows = grows_on m (note l i m) (note_all l is (note l i m)) one.grows rest.grows }

  pub all_belong : (l : ℕ) (x : List ℕ) → slice_get of l ≡ Some x → (is : List ℕ) → ((i : ℕ) → In i is → Reaches s x i) → (m : Marks) → Tells s of m
      → (k : ℕ) → In k is → Belongs (note_all l is m) k l
  all_belong l x at [] reach m t k h = absurd h
  all_belong l x at (i ∷ is) reach m t k (inl e) =
      let one = note_noted s of l x at i (reach i (inl refl)) m t in
      let rest = all_noted l x at is (λ k h. reach k (inr h)) (note l i m) one.tells in
      subst (λ z. Belongs (note_all l (i ∷ is) m) z l) (sym e)
      (belongs_on (note l i m) (note_all l is (note l i m)) i l rest.grows (note_belongs s of l x at i (reach i (inl refl)) m t))
  all_belong l x at (i ∷ is) reach m t k (inr h) =
      let one = note_noted s of l x at i (reach i (inl refl)) m t in
      all_belong l x at is (λ k h. reach k (inr h)) (note l i m) one.tells k h

  -- ---- the nodes of names

  root_reached : (x : List ℕ) (o : Option Value) → find x s.names ≡ o → (i : ℕ) → In i (numbers (map (λ (b : List ℕ × Value). b.1) (with_value x o)))
      → Reaches s x i
  root_reached x None e i h = absurd h
  root_reached x (Some v) e i h = ([], e ∙ ap Some (value_is v (in_numbers (v ∷ []) i h)))
    where
      value_is : (v : Value) → In (node i) (v ∷ []) → v ≡ node i
      value_is v (inl f) = sym f
      value_is v (inr f) = absurd f

  root_noted : (x : List ℕ) (i : ℕ) (o : Option Value) → o ≡ Some (node i) → In i (numbers (map (λ (b : List ℕ × Value). b.1) (with_value x o)))
  root_noted x i o e = subst (λ (z : Option Value). In i (numbers (map (λ (b : List ℕ × Value). b.1) (with_value x z)))) (sym e) (inl refl)

  -- The names of the rest of the list have their numbers from j on.
  abbrev pub From : ℕ → List (List ℕ) → Type 0
  From j xs = (k : ℕ) (x : List ℕ) → slice_get xs k ≡ Some x → slice_get of (j + k) ≡ Some x

  from_next : (j : ℕ) (x : List ℕ) (xs : List (List ℕ)) → From j (x ∷ xs) → From (suc j) xs
  from_next j x xs from k y e = (let a : j + suc k ≡ suc j + k = omega arith in subst (λ n. slice_get of n ≡ Some y) a (from (suc k) y e))

  from_first : (j : ℕ) (x : List ℕ) (xs : List (List ℕ)) → From j (x ∷ xs) → slice_get of j ≡ Some x
  from_first j x xs from = (let a : j + 0 ≡ j = omega arith in subst (λ n. slice_get of n ≡ Some x) a (from 0 x refl))

  pub names_noted : (j : ℕ) (xs : List (List ℕ)) → From j xs → (m : Marks) → Tells s of m → Noted s of m (note_names s.names j xs m)
  names_noted j [] from m t = record { tells = t; grows = grows_none m }
  names_noted j (x ∷ xs) from m t =
      let ns = numbers (map (λ (b : List ℕ × Value). b.1) (with_value x (find x s.names))) in
      let one = all_noted j x (from_first j x xs from) ns (root_reached x (find x s.names) refl) m t in
      let rest = names_noted (suc j) xs (from_next j x xs from) (note_all j ns m) one.tells in
      record { tells = rest.tells; grows = grows_on m (note_all j ns m) (note_names s.names (suc j) xs (note_all j ns m)) one.grows rest.grows }

  pub names_belong : (j : ℕ) (xs : List (List ℕ)) → From j xs → (m : Marks) → Tells s of m → (k : ℕ) (x : List ℕ) (i : ℕ) → slice_get xs k ≡ Some x
      → find x s.names ≡ Some (node i) → Belongs (note_names s.names j xs m) i (j + k)
  names_belong j [] from m t k x i e f = absurd (cc)
  names_belong j (y ∷ xs) from m t zero x i e f =
      let ns = numbers (map (λ (b : List ℕ × Value). b.1) (with_value y (find y s.names))) in
      let one = all_noted j y (from_first j y xs from) ns (root_reached y (find y s.names) refl) m t in
      let rest = names_noted (suc j) xs (from_next j y xs from) (note_all j ns m) one.tells in
      let g : y ≡ x = cc in
      let here = all_belong j y (from_first j y xs from) ns (root_reached y (find y s.names) refl) m t i
      (root_noted y i (find y s.names) (ap (λ z. find z s.names) g ∙ f)) in
      let a : j ≡ j + 0 = omega arith in
      subst (λ n. Belongs (note_names s.names j (y ∷ xs) m) i n) a
      (belongs_on (note_all j ns m) (note_names s.names (suc j) xs (note_all j ns m)) i j rest.grows here)
  names_belong j (y ∷ xs) from m t (suc k) x i e f =
      let ns = numbers (map (λ (b : List ℕ × Value). b.1) (with_value y (find y s.names))) in
      let one = all_noted j y (from_first j y xs from) ns (root_reached y (find y s.names) refl) m t in
      let a : suc j + k ≡ j + suc k = omega arith in
      subst (λ n. Belongs (note_names s.names j (y ∷ xs) m) i n) a
      (names_belong (suc j) xs (from_next j y xs from) (note_all j ns m) one.tells k x i e f)

  -- Before the walk.
  pub start_tells : Tells s of (made [] [] (each_alone (length of)))
  start_tells = record {
    marks = record { sized = refl; labelled = λ p l e. absurd (cc) };
    many = alone_length (length of);
    firsts = alone_firsts (length of);
    reached = λ p k l x e f g. absurd (cc);
    linked = λ a b x y e f h. (
        let g : Some a ≡ Some b = sym (alone_get (length of) a (there_short of a x e)) ∙ h ∙ alone_get (length of) b (there_short of b y f) in
        let i : a ≡ b = cc in
        let j : Some x ≡ Some y = sym e ∙ ap (slice_get of) i ∙ f in
        let k : x ≡ y = cc in
        subst (λ z. Linked s of x z) k itself
        );
  }

-- ---- marks stay marks

pub note_kept : (l i : ℕ) (m : Marks) → AreMarks m → l < length m.firsts → Kept m (note l i m)
note_kept l i m marks low = elim (cases_Bool (list_any (nat_eq i) m.found)) [
  | inl e ↦ subst (λ n. Kept m n) (sym (note_old l i m e)) (record {
    marks = record {
      sized = marks.sized;
      labelled = λ p k f. (let a = marks.labelled p k f in let b = joined_size (label_of m i) l m.firsts in omega arith);
    };
    many = joined_size (label_of m i) l m.firsts;
  })
  | inr e ↦ subst (λ n. Kept m n) (sym (note_new l i m e)) (record {
    marks = record {
      sized = (let a = length-append m.labels (l ∷ []) in let b = length-append m.found (i ∷ []) in let c = marks.sized in omega arith);
      labelled = λ p k f. elim (push_cases m.labels l k p f) [ inl g ↦ marks.labelled p k g | inr g ↦ (let h = g.1 in omega arith) ];
    };
    many = refl;
  })
]

pub all_kept : (l : ℕ) (is : List ℕ) (m : Marks) → AreMarks m → l < length m.firsts → Kept m (note_all l is m)
all_kept l [] m marks low = record { marks = marks; many = refl }
all_kept l (i ∷ is) m marks low =
    let one = note_kept l i m marks low in
    let rest = all_kept l is (note l i m) one.marks (let a = one.many in omega arith) in
    record { marks = rest.marks; many = rest.many ∙ one.many }
