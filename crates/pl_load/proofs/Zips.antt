-- Two lists side by side: what holds of each pair, what is made of the pairs, and what stands
-- beside a number.
use Rattle.std.proofs.Common.{◌≡◌, ◌≢◌, ◌∙◌, ◌∷◌, ◌++◌, ◌==◌, [], ℕ, List, ap, arith, eq-eqb, if◌then◌else◌, length}
use Rattle.std.proofs.Common.{map, refl, subst, sym}
use Rattle.std.specs.List.{AllByRecursion, AllZip, flat_map, zip}
use Rattle.std.proofs.lemmas.Bool.{ne_eqb}
use Rattle.pl_base.proofs.LookUps.{Apart}

-- ---- what holds of each pair

module _ {X Y : Type 0} where
  pub zip_weaker : (P Q : X → Y → Type 0) (xs : List X) (ys : List Y) → ((x : X) (y : Y) → P x y → Q x y)
      → AllZip P xs ys → AllZip Q xs ys
  zip_weaker P Q [] [] more all = tt
  zip_weaker P Q [] (y ∷ ys) more all = absurd all
  zip_weaker P Q (x ∷ xs) [] more all = absurd all
  zip_weaker P Q (x ∷ xs) (y ∷ ys) more all = (more x y all.0, zip_weaker P Q xs ys more all.1)

  pub zip_both : (P Q R : X → Y → Type 0) (xs : List X) (ys : List Y)
      → ((x : X) (y : Y) → P x y → Q x y → R x y) → AllZip P xs ys → AllZip Q xs ys → AllZip R xs ys
  zip_both P Q R [] [] join ps qs = tt
  zip_both P Q R [] (y ∷ ys) join ps qs = absurd ps
  zip_both P Q R (x ∷ xs) [] join ps qs = absurd ps
  zip_both P Q R (x ∷ xs) (y ∷ ys) join ps qs = (join x y ps.0 qs.0, zip_both P Q R xs ys join ps.1 qs.1)

  -- with what holds of each of the second list
  pub zip_second : (P : X → Y → Type 0) (Q : Y → Type 0) (R : X → Y → Type 0) (xs : List X) (ys : List Y)
      → ((x : X) (y : Y) → P x y → Q y → R x y) → AllZip P xs ys → AllByRecursion Q ys → AllZip R xs ys
  zip_second P Q R [] [] join ps qs = tt
  zip_second P Q R [] (y ∷ ys) join ps qs = absurd ps
  zip_second P Q R (x ∷ xs) [] join ps qs = absurd ps
  zip_second P Q R (x ∷ xs) (y ∷ ys) join ps qs = (join x y ps.0 qs.0, zip_second P Q R xs ys join ps.1 qs.1)

  -- what a pair tells of the one, and of the other
  pub firsts : (R : X → Y → Type 0) (P : X → Type 0) (xs : List X) (ys : List Y)
      → ((x : X) (y : Y) → R x y → P x) → AllZip R xs ys → AllByRecursion P xs
  firsts R P [] ys tells all = tt
  firsts R P (x ∷ xs) [] tells all = absurd all
  firsts R P (x ∷ xs) (y ∷ ys) tells all = (tells x y all.0, firsts R P xs ys tells all.1)

  pub seconds : (R : X → Y → Type 0) (P : Y → Type 0) (xs : List X) (ys : List Y)
      → ((x : X) (y : Y) → R x y → P y) → AllZip R xs ys → AllByRecursion P ys
  seconds R P xs [] tells all = tt
  seconds R P [] (y ∷ ys) tells all = absurd all
  seconds R P (x ∷ xs) (y ∷ ys) tells all = (tells x y all.0, seconds R P xs ys tells all.1)

-- by way of a list between
pub zip_through : {X Y Z : Type 0} (R : X → Y → Type 0) (S : Y → Z → Type 0) (xs : List X) (ys : List Y) (zs : List Z)
    → AllZip R xs ys → AllZip S ys zs → AllZip (λ x z. (y : Y) × R x y × S y z) xs zs
zip_through R S [] [] [] rs ss = tt
zip_through R S [] [] (z ∷ zs) rs ss = absurd ss
zip_through R S [] (y ∷ ys) zs rs ss = absurd rs
zip_through R S (x ∷ xs) [] zs rs ss = absurd rs
zip_through R S (x ∷ xs) (y ∷ ys) [] rs ss = absurd ss
zip_through R S (x ∷ xs) (y ∷ ys) (z ∷ zs) rs ss = ((y, rs.0, ss.0), zip_through R S xs ys zs rs.1 ss.1)

-- of pairs and others, what holds of the first of each pair
pub zip_paired : {X Y Z : Type 0} (R : X × Y → Z → Type 0) (xs : List X) (ys : List Y) (zs : List Z)
    → length xs ≡ length ys → AllZip R (zip xs ys) zs → AllZip (λ x z. (y : Y) × R (x, y) z) xs zs
zip_paired R [] ys [] long all = tt
zip_paired R [] [] (z ∷ zs) long all = absurd all
zip_paired R [] (y ∷ ys) (z ∷ zs) long all = absurd all
zip_paired R (x ∷ xs) [] zs long all = absurd (omega (arith, long))
zip_paired R (x ∷ xs) (y ∷ ys) [] long all = absurd all
zip_paired R (x ∷ xs) (y ∷ ys) (z ∷ zs) long all =
    ((y, all.0), zip_paired R xs ys zs (omega (arith, long)) all.1)

-- of the second of each pair
pub zip_paired_back : {X Y Z : Type 0} (R : X × Y → Z → Type 0) (xs : List X) (ys : List Y) (zs : List Z)
    → length xs ≡ length ys → AllZip R (zip xs ys) zs → AllZip (λ y z. (x : X) × R (x, y) z) ys zs
zip_paired_back R [] [] [] long all = tt
zip_paired_back R [] [] (z ∷ zs) long all = absurd all
zip_paired_back R [] (y ∷ ys) zs long all = absurd (omega (arith, long))
zip_paired_back R (x ∷ xs) [] zs long all = absurd (omega (arith, long))
zip_paired_back R (x ∷ xs) (y ∷ ys) [] long all = absurd all
zip_paired_back R (x ∷ xs) (y ∷ ys) (z ∷ zs) long all =
    ((x, all.0), zip_paired_back R xs ys zs (omega (arith, long)) all.1)

-- lists of which the same is made
pub zip_alike : {X Y A : Type 0} (f : X → A) (g : Y → A) (xs : List X) (ys : List Y) → map f xs ≡ map g ys
    → AllZip (λ x y. f x ≡ g y) xs ys
zip_alike f g [] [] same = tt
zip_alike f g [] (y ∷ ys) same = absurd (cc)
zip_alike f g (x ∷ xs) [] same = absurd (cc)
zip_alike f g (x ∷ xs) (y ∷ ys) same =
    let head : f x ≡ g y = cc in
    let tail : map f xs ≡ map g ys = cc in
    (head, zip_alike f g xs ys tail)

pub alike_made : {X Y A : Type 0} (f : X → A) (g : Y → A) (xs : List X) (ys : List Y)
    → AllZip (λ x y. f x ≡ g y) xs ys → map f xs ≡ map g ys
alike_made f g [] [] all = refl
alike_made f g [] (y ∷ ys) all = absurd all
alike_made f g (x ∷ xs) [] all = absurd all
alike_made f g (x ∷ xs) (y ∷ ys) all =
    let rest = alike_made f g xs ys all.1 in
    λ i. all.0 i ∷ rest i

-- lists that are made of the same one
pub zip_made : {X A B : Type 0} (R : A → B → Type 0) (f : X → A) (g : X → B) (xs : List X)
    → AllZip R (map f xs) (map g xs) → AllByRecursion (λ x. R (f x) (g x)) xs
zip_made R f g [] all = tt
zip_made R f g (x ∷ xs) all = (all.0, zip_made R f g xs all.1)

pub zip_read : {X A B : Type 0} (R : A → B → Type 0) (f : X → A) (g : X → B) (xs : List X) (firsts : List A)
    (seconds : List B) → firsts ≡ map f xs → seconds ≡ map g xs → AllZip R firsts seconds
    → AllByRecursion (λ x. R (f x) (g x)) xs
zip_read {X} {A} {B} R f g xs firsts seconds first second all =
    zip_made R f g xs
    (subst (λ (ys : List A). AllZip R ys (map g xs)) first (subst (λ (zs : List B). AllZip R firsts zs) second all))

-- ---- what is made of the pairs

module _ {X Y Z : Type 0} (make : X × Y → Z) where
  pub all_made : (P : Z → Type 0) (xs : List X) (ys : List Y) → AllZip (λ x y. P (make (x, y))) xs ys
      → AllByRecursion P (map make (zip xs ys))
  all_made P [] [] all = tt
  all_made P [] (y ∷ ys) all = absurd all
  all_made P (x ∷ xs) [] all = absurd all
  all_made P (x ∷ xs) (y ∷ ys) all = (all.0, all_made P xs ys all.1)

  -- the first and the second list again, or what is made of them
  pub first_again : {W : Type 0} (g : Z → W) (h : X → W) (xs : List X) (ys : List Y)
      → AllZip (λ x y. g (make (x, y)) ≡ h x) xs ys → map g (map make (zip xs ys)) ≡ map h xs
  first_again g h [] [] all = refl
  first_again g h [] (y ∷ ys) all = absurd all
  first_again g h (x ∷ xs) [] all = absurd all
  first_again g h (x ∷ xs) (y ∷ ys) all =
      let rest = first_again g h xs ys all.1 in
      λ i. all.0 i ∷ rest i

  pub second_again : {W : Type 0} (g : Z → W) (h : Y → W) (xs : List X) (ys : List Y)
      → AllZip (λ x y. g (make (x, y)) ≡ h y) xs ys → map g (map make (zip xs ys)) ≡ map h ys
  second_again g h [] [] all = refl
  second_again g h [] (y ∷ ys) all = absurd all
  second_again g h (x ∷ xs) [] all = absurd all
  second_again g h (x ∷ xs) (y ∷ ys) all =
      let rest = second_again g h xs ys all.1 in
      λ i. all.0 i ∷ rest i

-- the first list, where each of the second gives its other
pub given_back : {X Y : Type 0} (v : Y → X) (xs : List X) (ys : List Y) → AllZip (λ x y. v y ≡ x) xs ys → map v ys ≡ xs
given_back v [] [] all = refl
given_back v [] (y ∷ ys) all = absurd all
given_back v (x ∷ xs) [] all = absurd all
given_back v (x ∷ xs) (y ∷ ys) all =
    let rest = given_back v xs ys all.1 in
    λ i. all.0 i ∷ rest i

pub flat_alike : {X Y A : Type 0} (f : X → List A) (g : Y → List A) (xs : List X) (ys : List Y)
    → AllZip (λ x y. g y ≡ f x) xs ys → flat_map f xs ≡ flat_map g ys
flat_alike f g [] [] all = refl
flat_alike f g [] (y ∷ ys) all = absurd all
flat_alike f g (x ∷ xs) [] all = absurd all
flat_alike {X} {Y} {A} f g (x ∷ xs) (y ∷ ys) all =
    let here : f x ≡ g y = sym all.0 in
    let rest : flat_map f xs ≡ flat_map g ys = flat_alike f g xs ys all.1 in
    λ i. here i ++ rest i

pub map_same : {X : Type 0} (xs : List X) → map (λ (x : X). x) xs ≡ xs
map_same [] = refl
map_same {X} (x ∷ xs) = ap (λ (ys : List X). x ∷ ys) (map_same xs)

-- ---- what stands beside a number

-- what is made of the one that stands beside the first with this number, and something else where
-- there is none
abbrev pub beside : {X Y A : Type 0} → (Y → ℕ) → (X → A) → A → List X → List Y → ℕ → A
beside key f other [] ys n = other
beside key f other (x ∷ xs) [] n = other
beside key f other (x ∷ xs) (y ∷ ys) n = if key y == n then f x else beside key f other xs ys n

-- where numbers stand once, each one's is what stands beside it
pub beside_own : {X Y A : Type 0} (R : X → Y → Type 0) (key : Y → ℕ) (f : X → A) (other : A) (xs : List X) (ys : List Y)
    → AllZip R xs ys → Apart key ys → AllZip (λ x y. beside key f other xs ys (key y) ≡ f x) xs ys
beside_own R key f other [] [] all apart = tt
beside_own R key f other [] (y ∷ ys) all apart = absurd all
beside_own R key f other (x ∷ xs) [] all apart = absurd all
beside_own {X} {Y} {A} R key f other (x ∷ xs) (y ∷ ys) all apart = (
  ap (λ b. if b then f x else beside key f other xs ys (key y)) (eq-eqb (key y) (key y) refl),
  zip_second (λ u v. beside key f other xs ys (key v) ≡ f u) (λ v. key v ≢ key y)
      (λ u v. beside key f other (x ∷ xs) (y ∷ ys) (key v) ≡ f u) xs ys
      (λ u v here apart_of.
      ap (λ b. if b then f x else beside key f other xs ys (key v))
      (ne_eqb (key y) (key v) (λ same. apart_of (sym same)))
      ∙ here)
      (beside_own R key f other xs ys all.1 apart.1) apart.0,
)
