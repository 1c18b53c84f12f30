-- Lists of slots that are linked in a ring, from the slot 0 along others and back to it, whatever
-- the links are.
use Rattle.std.proofs.Common.{◌≡◌, ◌≢◌, ◌∙◌, ◌≤◌, ◌∷◌, [], ◌++◌, ℕ, List, Option, Some, ap, arith}
use Rattle.std.proofs.Common.{length, refl, subst, suc, sym}
use Rattle.std.proofs.lemmas.Option.{same_Some}
use Rattle.pl_base.specs.declared.id.Slot.{Slot}
use Rattle.pl_rail.specs.Rails.{AreLinked, last_from, none}

abbrev pub Named : Type 0
Named = Slot → Option Slot

-- from a slot along others to 0
abbrev pub Ends : Named → Named → Slot → List Slot → Type 0
Ends f b a xs = AreLinked f b a (xs ++ none ∷ [])

-- none of these is the slot
abbrev pub Differ : Slot → List Slot → Type 0
Differ a [] = Unit {0}
Differ a (x ∷ xs) = (x ≢ a) × Differ a xs

-- ---- parts

pub differ_parts : (a : Slot) (xs ys : List Slot) → Differ a (xs ++ ys) → Differ a xs × Differ a ys
differ_parts a [] ys apart = (tt, apart)
differ_parts a (x ∷ xs) ys apart =
    let rest = differ_parts a xs ys apart.1 in
    ((apart.0, rest.0), rest.1)

pub differ_both : (a : Slot) (xs ys : List Slot) → Differ a xs → Differ a ys → Differ a (xs ++ ys)
differ_both a [] ys first second = second
differ_both a (x ∷ xs) ys first second = (first.0, differ_both a xs ys first.1 second)

-- the links from the last one on
pub parted : (f b : Named) (a : Slot) (xs ys : List Slot) → AreLinked f b a (xs ++ ys)
    → AreLinked f b a xs × AreLinked f b (last_from a xs) ys
parted f b a [] ys linked = (tt, linked)
parted f b a (x ∷ xs) ys linked =
    let rest = parted f b x xs ys linked.2 in
    ((linked.0, linked.1, rest.0), rest.1)

pub together : (f b : Named) (a : Slot) (xs ys : List Slot) → AreLinked f b a xs → AreLinked f b (last_from a xs) ys
    → AreLinked f b a (xs ++ ys)
together f b a [] ys first second = second
together f b a (x ∷ xs) ys first second = (first.0, first.1, together f b x xs ys first.2 second)

-- ---- there is one list, and each slot stands in it once

pub one : (f b : Named) (a : Slot) (xs ys : List Slot) → Ends f b a xs → Differ none xs → Ends f b a ys → Differ none ys
    → xs ≡ ys
one f b a [] [] to_xs some_xs to_ys some_ys = refl
one f b a [] (y ∷ ys) to_xs some_xs to_ys some_ys =
    absurd (some_ys.0 (same_Some y none (sym to_ys.0 ∙ to_xs.0)))
one f b a (x ∷ xs) [] to_xs some_xs to_ys some_ys =
    absurd (some_xs.0 (same_Some x none (sym to_xs.0 ∙ to_ys.0)))
one f b a (x ∷ xs) (y ∷ ys) to_xs some_xs to_ys some_ys =
    let same : x ≡ y = same_Some x y (sym to_xs.0 ∙ to_ys.0) in
    let from_y : Ends f b y xs = subst (λ k. Ends f b k xs) same to_xs.2 in
    ap (λ k. k ∷ xs) same ∙ ap (λ l. y ∷ l) (one f b y xs ys from_y some_xs.1 to_ys.2 some_ys.1)

-- a slot from which the list goes on is in no shorter rest of it
apart_from : (f b : Named) (a : Slot) (xs : List Slot) (c : Slot) (ys : List Slot) → Ends f b a xs → Differ none xs
    → Ends f b c ys → Differ none ys → length ys ≤ length xs → Differ a ys
apart_from f b a xs c [] to_xs some_xs to_ys some_ys short = tt
apart_from f b a xs c (y ∷ ys) to_xs some_xs to_ys some_ys short = (
  λ same.
      let from_a : Ends f b a ys = subst (λ k. Ends f b k ys) same to_ys.2 in
      let long : length xs ≡ length ys = ap length (one f b a xs ys to_xs some_xs from_a some_ys.1) in
      absurd (longer (length xs) (length ys) short long),
  apart_from f b a xs y ys to_xs some_xs to_ys.2 some_ys.1 (shorter (length xs) (length ys) short),
)
  where
    longer : (n m : ℕ) → suc m ≤ n → n ≡ m → ⊥
    longer n m short long = absurd (omega arith)

    shorter : (n m : ℕ) → suc m ≤ n → m ≤ n
    shorter n m short = omega arith

pub once : (f b : Named) (a : Slot) (xs : List Slot) → Ends f b a xs → Differ none xs → Differ a xs
once f b a xs to_xs some_xs = apart_from f b a xs a xs to_xs some_xs to_xs some_xs (whole (length xs))
  where
    whole : (n : ℕ) → n ≤ n
    whole n = omega arith

-- a member is in no other place of the list
pub once_in_front : (f b : Named) (a : Slot) (xs : List Slot) (m : Slot) (ys : List Slot) → Ends f b a (xs ++ m ∷ ys)
    → Differ none (xs ++ m ∷ ys) → Differ m xs
once_in_front f b a [] m ys linked some = tt
once_in_front f b a (x ∷ xs) m ys linked some =
    let never = (differ_parts x xs (m ∷ ys) (once f b x (xs ++ m ∷ ys) linked.2 some.1)).1.0 in
    (λ same. never (sym same), once_in_front f b x xs m ys linked.2 some.1)

-- what is linked from a member on
pub from_member : (f b : Named) (a : Slot) (xs : List Slot) (m : Slot) (ys : List Slot) → Ends f b a (xs ++ m ∷ ys)
    → Ends f b m ys
from_member f b a [] m ys linked = linked.2
from_member f b a (x ∷ xs) m ys linked = from_member f b x xs m ys linked.2

pub before_member : (f b : Named) (a : Slot) (xs : List Slot) (m : Slot) (ys : List Slot) → Ends f b a (xs ++ m ∷ ys)
    → (f (last_from a xs) ≡ Some m) × (b m ≡ Some (last_from a xs))
before_member f b a [] m ys linked = (linked.0, linked.1)
before_member f b a (x ∷ xs) m ys linked = before_member f b x xs m ys linked.2

-- ---- a member goes

-- what links were and are, where a member between two slots went
pub record Without (f b : Named) (g c : Named) (p m q : Slot) : Type 0 where
  pub forth : f p ≡ Some m
  pub back : b q ≡ Some m
  pub joined : g p ≡ Some q
  pub joined_back : c q ≡ Some p
  pub behind : (n : Slot) → n ≢ p → n ≢ m → g n ≡ f n
  pub before : (n : Slot) → n ≢ q → n ≢ m → c n ≡ b n

pair_without : (f b g c : Named) (p m q : Slot) → Without f b g c p m q → (a x : Slot) → f a ≡ Some x → b x ≡ Some a
    → a ≢ m → x ≢ m → (g a ≡ Some x) × (c x ≡ Some a)
pair_without f b g c p m q gone a x forth back apart_a apart_x = (
  gone.behind a (λ same. apart_x (same_Some x m (sym forth ∙ ap f same ∙ gone.forth))) apart_a ∙ forth,
  gone.before x (λ same. apart_a (same_Some a m (sym back ∙ ap b same ∙ gone.back))) apart_x ∙ back,
)

kept_without : (f b g c : Named) (p m q : Slot) → Without f b g c p m q → (a : Slot) (xs : List Slot)
    → AreLinked f b a xs → a ≢ m → Differ m xs → AreLinked g c a xs
kept_without f b g c p m q gone a [] linked apart others = tt
kept_without f b g c p m q gone a (x ∷ xs) linked apart others =
    let pair = pair_without f b g c p m q gone a x linked.0 linked.1 apart others.0 in
    (pair.0, pair.1, kept_without f b g c p m q gone x xs linked.2 others.0 others.1)

pub without : (f b g c : Named) (m q : Slot) (a : Slot) (xs rest : List Slot)
    → Without f b g c (last_from a xs) m q → AreLinked f b a (xs ++ m ∷ q ∷ rest) → a ≢ m → Differ m xs
    → Differ m (q ∷ rest) → AreLinked g c a (xs ++ q ∷ rest)
without f b g c m q a [] rest gone linked apart front back =
    (gone.joined, gone.joined_back, kept_without f b g c a m q gone q rest linked.2.2 back.0 back.1)
without f b g c m q a (x ∷ xs) rest gone linked apart front back =
    let pair = pair_without f b g c (last_from x xs) m q gone a x linked.0 linked.1 apart front.0 in
    (pair.0, pair.1, without f b g c m q x xs rest gone linked.2 front.0 front.1 back)

-- ---- a member comes

-- what links were and are, where a member came between two slots
pub record With (f b : Named) (g c : Named) (p m q : Slot) : Type 0 where
  pub forth : f p ≡ Some q
  pub joined : g p ≡ Some m
  pub joined_back : c m ≡ Some p
  pub goes_on : g m ≡ Some q
  pub goes_back : c q ≡ Some m
  pub behind : (n : Slot) → n ≢ p → n ≢ m → g n ≡ f n
  pub before : (n : Slot) → n ≢ q → n ≢ m → c n ≡ b n

pair_with : (f b g c : Named) (p m q : Slot) → With f b g c p m q → (a x : Slot) → f a ≡ Some x → b x ≡ Some a
    → a ≢ m → x ≢ m → x ≢ q → (g a ≡ Some x) × (c x ≡ Some a)
pair_with f b g c p m q come a x forth back apart_a apart_x other = (
  come.behind a (λ same. other (same_Some x q (sym forth ∙ ap f same ∙ come.forth))) apart_a ∙ forth,
  come.before x other apart_x ∙ back,
)

kept_with : (f b g c : Named) (p m q : Slot) → With f b g c p m q → (a : Slot) (xs : List Slot)
    → AreLinked f b a xs → a ≢ m → Differ m xs → Differ q xs → AreLinked g c a xs
kept_with f b g c p m q come a [] linked apart others further = tt
kept_with f b g c p m q come a (x ∷ xs) linked apart others further =
    let pair = pair_with f b g c p m q come a x linked.0 linked.1 apart others.0 further.0 in
    (pair.0, pair.1, kept_with f b g c p m q come x xs linked.2 others.0 others.1 further.1)

pub with_member : (f b g c : Named) (m q : Slot) (a : Slot) (xs rest : List Slot)
    → With f b g c (last_from a xs) m q → AreLinked f b a (xs ++ q ∷ rest) → a ≢ m → Differ m xs
    → Differ m (q ∷ rest) → Differ q xs → Differ q rest → AreLinked g c a (xs ++ m ∷ q ∷ rest)
with_member f b g c m q a [] rest come linked apart front back once_front once_back = (
  come.joined,
  come.joined_back,
  (come.goes_on, come.goes_back, kept_with f b g c a m q come q rest linked.2 back.0 back.1 once_back),
)
with_member f b g c m q a (x ∷ xs) rest come linked apart front back once_front once_back =
    let pair = pair_with f b g c (last_from x xs) m q come a x linked.0 linked.1 apart front.0 once_front.0 in
    (pair.0, pair.1, with_member f b g c m q x xs rest come linked.2 front.0 front.1 back once_front.1 once_back)

-- ---- a list of which no link changed

pub unchanged_links : (f b g c : Named) (a : Slot) (xs : List Slot) → ((n : Slot) → g n ≡ f n)
    → ((n : Slot) → c n ≡ b n) → AreLinked f b a xs → AreLinked g c a xs
unchanged_links f b g c a [] behind before linked = tt
unchanged_links f b g c a (x ∷ xs) behind before linked =
    (behind a ∙ linked.0, before x ∙ linked.1, unchanged_links f b g c x xs behind before linked.2)

-- each of these has links that did not change
abbrev pub AreSame : Named → Named → List Slot → Type 0
AreSame g f [] = Unit {0}
AreSame g f (x ∷ xs) = (g x ≡ f x) × AreSame g f xs

pub kept_links : (f b g c : Named) (a z : Slot) (xs : List Slot) → g a ≡ f a → c z ≡ b z → AreSame g f xs → AreSame c b xs
    → AreLinked f b a (xs ++ z ∷ []) → AreLinked g c a (xs ++ z ∷ [])
kept_links f b g c a z [] here end behind before linked = (here ∙ linked.0, end ∙ linked.1, tt)
kept_links f b g c a z (x ∷ xs) here end behind before linked =
    (here ∙ linked.0, before.0 ∙ linked.1, kept_links f b g c x z xs behind.0 end behind.1 before.1 linked.2)
