-- Truth values, and what is some or none.
use Rattle.std.proofs.Common.{◌≡◌, ◌≢◌, ◌==◌, ◌∙◌, ◌&&◌, ◌||◌, Bool, true, false, not, List, [], ◌∷◌}
use Rattle.std.proofs.Common.{Option, Some, None, arith, is_some, length, refl, suc, sym}
use Rattle.std.specs.Option.{IsSome, is_none, option_or}
use Rattle.std.proofs.lemmas.Bool.{eqb-true, false≢true, or_left}

-- two tests agree where each tells the other
pub same_tests : (a b : Bool) → (a ≡ true → b ≡ true) → (b ≡ true → a ≡ true) → a ≡ b
same_tests true b there back = sym (there refl)
same_tests false true there back = back refl
same_tests false false there back = refl

pub no_test : (b : Bool) → (b ≡ true → ⊥) → b ≡ false
no_test true never = absurd (never refl)
no_test false never = refl

pub negated : (a b : Bool) → (not a && b) ≡ true → a ≡ false
negated true b is = sym is
negated false b is = refl

pub not_false : (b : Bool) → not b ≡ false → b ≡ true
not_false true is = refl
not_false false is = sym is

pub or_more : (a b c : Bool) → (a ≡ true → b ≡ true) → (a || c) ≡ true → (b || c) ≡ true
or_more true b c more some = or_left b c (more refl)
or_more false true c more some = refl
or_more false false c more some = some

pub is_none_at : {X : Type 0} (o : Option X) → is_some o ≡ false → o ≡ None
is_none_at None is = refl
is_none_at (Some x) is = absurd (cc)

pub none_there : {X : Type 0} (o : Option X) → is_none o ≡ true → o ≡ None
none_there None is = refl
none_there (Some x) is = absurd (false≢true is)

pub some_there : {X : Type 0} (o : Option X) → IsSome o → (x : X) × (o ≡ Some x)
some_there None some = absurd (cc)
some_there (Some x) some = (x, refl)

pub no_elements : {X : Type 0} (xs : List X) → (xs ≢ [] → ⊥) → xs ≡ []
no_elements [] none = refl
no_elements (x ∷ xs) none = absurd (none (λ same. absurd (cc)))

pub no_length : {X : Type 0} (xs : List X) → (length xs == 0) ≡ true → xs ≡ []
no_length [] is = refl
no_length (x ∷ xs) is = absurd (omega (arith, eqb-true (suc (length xs)) 0 is))

-- ---- one test, or another

pub or_same : (a b : Bool) → (b ≡ true → a ≡ true) → (a || b) ≡ a
or_same true b so = refl
or_same false true so = sym (so refl)
or_same false false so = refl

-- what is told where the first test passes, and where the second is asked
pub or_first : (a b told : Bool) → told ≡ a → told ≡ true → told ≡ (a || b)
or_first true b told is here = is
or_first false b told is here = absurd (false≢true (sym is ∙ here))

pub or_second : (a b told other : Bool) → told ≡ a → told ≡ false → other ≡ b → other ≡ (a || b)
or_second true b told other is none there = absurd (false≢true (sym none ∙ is))
or_second false b told other is none there = there

pub neither : {X : Type 0} (first second : Option X) → option_or first second ≡ None → (first ≡ None) × (second ≡ None)
neither None second none = (refl, none)
neither (Some x) second none = absurd (cc)
