-- Names that begin with a text, among names that ascend byte by byte.
use Rattle.std.proofs.Common.{◌≡◌, ◌∙◌, ◌&&◌, ◌++◌, ℕ, Bool, true, false, Global, List, [], ◌∷◌, String}
use Rattle.std.proofs.Common.{ap, arith, filter, if◌then◌else◌, inl, inr, nat_eq, refl, sym}
use Rattle.std.specs.BTreeMap.Range.{entries_between, range_contains}
use Rattle.std.specs.Bool.{⊤}
use Rattle.std.specs.Cmp.Lexicographic.{slice_cmp}
use Rattle.std.specs.declared.cmp.Ordering.{Ordering}
use Rattle.std.specs.declared.cmp.Ordering.TheVariants.{Less, Equal}
use Rattle.std.specs.declared.ops.Bound.TheVariants.{Included, Unbounded}
use Rattle.std.specs.List.{AllByRecursion, starts_with, take_while}
use Rattle.std.specs.List.Sorted.{IsStrictlySortedBy}
use Rattle.std.specs.Map.{keys_of}
use Rattle.std.specs.Ordering.{is_le, nat_cmp, ordering_then}
use Rattle.std.specs.String.{string_bytes, string_cmp}
use Rattle.std.proofs.lemmas.Bool.{and_parts, false≢true}
use Rattle.std.proofs.lemmas.Bool.Decides.{nat_tests}
use Rattle.std.proofs.lemmas.List.Sums.{take_while-cons}
use Rattle.pl_base.proofs.Among.{In}

-- ---- a text and one name

alike : (x y : ℕ) → nat_eq x y ≡ true → nat_cmp x y ≡ Equal
alike x y same = grind (arith, nat_tests)

-- what begins with a text is not below it
pub begins_from : (text name : List ℕ) → starts_with nat_eq name text ≡ true
    → is_le (slice_cmp nat_cmp text name) ≡ true
begins_from [] [] begins = refl
begins_from [] (y ∷ ys) begins = refl
begins_from (x ∷ xs) [] begins = absurd (false≢true begins)
begins_from (x ∷ xs) (y ∷ ys) begins =
    let parts = and_parts (nat_eq x y) (starts_with nat_eq ys xs) begins in
    ap (λ o. is_le (ordering_then o (slice_cmp nat_cmp xs ys))) (alike x y parts.0)
    ∙ begins_from xs ys parts.1

heads : (t a b : ℕ) (o p : Ordering) → nat_eq t b ≡ true → is_le (ordering_then (nat_cmp t a) o) ≡ true
    → ordering_then (nat_cmp a b) p ≡ Less → (nat_eq t a ≡ true) × (is_le o ≡ true) × (p ≡ Less)
heads t a b o p same upto below =
    (grind (arith, nat_tests), grind (arith, nat_tests), grind (arith, nat_tests))

-- between a text and a name that begins with it all names do
pub begins_between : (text a b : List ℕ) → is_le (slice_cmp nat_cmp text a) ≡ true
    → slice_cmp nat_cmp a b ≡ Less → starts_with nat_eq b text ≡ true → starts_with nat_eq a text ≡ true
begins_between [] a b upto below begins = refl
begins_between (t ∷ ts) [] b upto below begins = absurd (false≢true upto)
begins_between (t ∷ ts) (x ∷ xs) [] upto below begins = absurd (false≢true begins)
begins_between (t ∷ ts) (x ∷ xs) (y ∷ ys) upto below begins =
    let parts = and_parts (nat_eq t y) (starts_with nat_eq ys ts) begins in
    let h = heads t x y (slice_cmp nat_cmp ts xs) (slice_cmp nat_cmp xs ys) parts.0 upto below in
    ap (λ b. b && starts_with nat_eq xs ts) h.0 ∙ begins_between ts xs ys h.1 h.2 parts.1

-- ---- all names

module _ (text : String Global) where
  -- the name of an entry begins with the text
  abbrev pub begins : String Global × ℕ → Bool
  begins e = starts_with nat_eq (string_bytes e.0) (string_bytes text)

  -- the entries from the text on
  abbrev pub from_text : List (String Global × ℕ) → List (String Global × ℕ)
  from_text es = entries_between string_cmp (Included text) Unbounded es

  -- an entry is not below the text
  abbrev pub upto : String Global × ℕ → Bool
  upto e = range_contains string_cmp (Included text) Unbounded e.0

  no_more : (e : String Global × ℕ) (es : List (String Global × ℕ)) → upto e ≡ true → begins e ≡ false
      → AllByRecursion (λ k. string_cmp e.0 k ≡ Less) (keys_of es) → filter begins es ≡ []
  no_more e [] from fails behind = refl
  no_more e (x ∷ xs) from fails behind = choose (begins x) refl (no_more e xs from fails behind.1)
    where
      choose : (b : Bool) → begins x ≡ b → filter begins xs ≡ []
          → (if b then x ∷ filter begins xs else filter begins xs) ≡ []
      choose true is rest =
          absurd (false≢true (sym fails
          ∙ begins_between (string_bytes text) (string_bytes e.0) (string_bytes x.0)
          (and_parts (is_le (string_cmp text e.0)) true from).0 behind.0 is))
      choose false is rest = rest

  -- those that begin with it stand together, from the first that is not below it on
  pub stand_together : (es : List (String Global × ℕ)) → IsStrictlySortedBy string_cmp (keys_of es)
      → filter begins es ≡ take_while begins (from_text es)
  unfolding IsStrictlySortedBy
  stand_together [] ordered = refl
  stand_together (e ∷ es) ordered = choose (upto e) refl (begins e) refl (stand_together es ordered.1)
    where
      choose : (a : Bool) → upto e ≡ a → (b : Bool) → begins e ≡ b
          → filter begins es ≡ take_while begins (from_text es)
          → (if b then e ∷ filter begins es else filter begins es)
          ≡ take_while begins (if a then e ∷ from_text es else from_text es)
      choose true from true is rest = rw (take_while-cons begins e (from_text es), is) (ap (λ l. e ∷ l) rest)
      choose true from false is rest =
          rw (take_while-cons begins e (from_text es), is) (no_more e es from is ordered.0)
      choose false below true is rest =
          absurd (false≢true (sym below ∙ ap (λ b. b && true)
          (begins_from (string_bytes text) (string_bytes e.0) is)))
      choose false below false is rest = rest

-- a list does not go on as the one before it
abbrev pub Stops : {A : Type 0} → (A → Bool) → List A → Type 0
Stops p [] = ⊤
Stops p (x ∷ xs) = p x ≡ false

-- what is taken stands in front of the place where that stops
pub in_taken : {A : Type 0} (p : A → Bool) (front back : List A) → Stops p back → (z : A)
    → In z (take_while p (front ++ back)) → In z front
in_taken p [] [] stops z member = member
in_taken p [] (x ∷ back) stops z member = rw (take_while-cons p x back, stops) at member
in_taken p (y ∷ front) back stops z member =
    choose (p y) (in_taken p front back stops z) (rw (take_while-cons p y (front ++ back)) at member)
  where
    choose : (b : Bool) → (In z (take_while p (front ++ back)) → In z front)
        → In z (if b then y ∷ take_while p (front ++ back) else []) → In z (y ∷ front)
    choose true rest (inl e) = inl e
    choose true rest (inr h) = inr (rest h)
    choose false rest h = absurd h
