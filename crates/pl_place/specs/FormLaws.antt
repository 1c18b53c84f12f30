-- Laws: what a text says has the form that every query has.
use Rattle.std.proofs.Common.{◌≡◌, ◌==◌, ℕ, ℤ, pos, Bool, true, false, not, List, [], ◌∷◌}
use Rattle.std.proofs.Common.{◌&&◌, ◌||◌, ap, refl}
use Rattle.std.proofs.Common.{Option, Some, None, if◌then◌else◌, length, map, nat_le, nat_lt, neg_ℤ}
use Rattle.std.proofs.Common.{arith, zero, suc, ◌^◌}
use Rattle.std.specs.Char.{is_ascii_uppercase, to_ascii_lowercase}
use Rattle.std.specs.List.{filter, list_all, list_any}
use Rattle.std.specs.Option.{is_some, option_and_then, option_map}
use Rattle.std.specs.Str.{is_utf8}
use Rattle.std.proofs.lemmas.Bool.Decides.{nat_tests}
use Rattle.std.proofs.lemmas.Bool.{and_from, and_parts, le-leb, ltb-true}
use Rattle.pl_base.specs.declared.transition.Transition.{Transition}
use Rattle.pl_base.specs.NumberText.{number_of}
use Rattle.pl_base.specs.Transition.{transition_number, transitions}
use Rattle.pl_place.specs.declared.kinds.TimeRef.{TimeRef}
use Rattle.pl_place.specs.PlaceText.{by_number, is_among, with_time}
use Rattle.pl_place.specs.QueryForm.{are_terms, ascend, has_domain, has_tags, has_time}
use Rattle.pl_place.specs.QueryForm.{is_count, is_domain}
use Rattle.pl_place.specs.Values.{count_asked, count_of, domain_of, negative, positive, terms_asked}

-- a reference has its time
pub timed : (time : Option ℤ) (reference : Option TimeRef)
    → has_time time (with_time time reference) ≡ true
timed None reference = refl
timed (Some time) reference = refl

-- terms that are asked for are not empty
pub terms_formed : (text : Option (List ℕ)) → are_terms (option_and_then terms_asked text) ≡ true
terms_formed None = refl
terms_formed (Some text) = choose (length text == 0) refl
  where
    choose : (v : Bool) → (length text == 0) ≡ v → are_terms (if v then None else Some text) ≡ true
    choose true is = refl
    choose false is = ap not is

negative_formed : (n : ℕ) (b : Bool)
    → is_count (option_and_then count_asked (if b then Some (neg_ℤ (pos n)) else None)) ≡ true
negative_formed zero true = refl
negative_formed (suc n) true = refl
negative_formed n false = refl

positive_formed : (n : ℕ) (b : Bool) → nat_lt n 2_147_483_648 ≡ b
    → is_count (option_and_then count_asked (if b then Some (pos n) else None)) ≡ true
positive_formed n true is =
    let below = ltb-true n 2_147_483_648 is in
    le-leb n 2_147_483_647 (omega (arith, below))
positive_formed n false is = refl

signed_negative : (n : Option ℕ)
    → is_count (option_and_then count_asked (option_and_then (negative 32) n)) ≡ true
signed_negative None = refl
signed_negative (Some n) = negative_formed n (nat_le n (2 ^ 31))

signed_positive : (n : Option ℕ)
    → is_count (option_and_then count_asked (option_and_then (positive 32) n)) ≡ true
signed_positive None = refl
signed_positive (Some n) = positive_formed n (nat_lt n (2 ^ 31)) refl

count_formed : (text : List ℕ) → is_count (option_and_then count_asked (count_of text)) ≡ true
count_formed [] = refl
count_formed (b ∷ text) = choose (b == 45) (signed_negative (number_of text)) (signed_positive
    (number_of (b ∷ text)))
  where
    choose : (v : Bool)
        → is_count (option_and_then count_asked (option_and_then (negative 32) (number_of text)))
        ≡ true
        → is_count (option_and_then count_asked (option_and_then (positive 32) (number_of
        (b ∷ text)))) ≡ true
        → is_count (option_and_then count_asked
        (if v then option_and_then (negative 32) (number_of text)
        else option_and_then (positive 32) (number_of (b ∷ text)))) ≡ true
    choose true below above = below
    choose false below above = above

-- a number of visits that is asked for is not too great
pub visits_formed : (text : Option (List ℕ))
    → is_count (option_and_then count_asked (option_and_then count_of text)) ≡ true
visits_formed None = refl
visits_formed (Some text) = count_formed text

-- nothing is asked of a domain that is none
pub host_formed : (domain : Option (List ℕ)) (told : Bool)
    → has_domain domain (is_some domain && told) ≡ true
host_formed None told = refl
host_formed (Some domain) told = refl

lower : (b : ℕ) → is_ascii_uppercase (to_ascii_lowercase b) ≡ false
lower b = grind (arith, nat_tests)

all_lower : (text : List ℕ) → list_any is_ascii_uppercase (map to_ascii_lowercase text) ≡ false
all_lower [] = refl
all_lower (b ∷ text) = rw (lower b) (all_lower text)

domain_told : (text : List ℕ) (b : Bool)
    → is_domain (option_map (map to_ascii_lowercase) (if b then Some text else None)) ≡ true
domain_told text true = ap not (all_lower text)
domain_told text false = refl

-- a domain is in lower case
pub domain_formed : (text : Option (List ℕ)) → is_domain (option_and_then domain_of text) ≡ true
domain_formed None = refl
domain_formed (Some text) = domain_told text (is_utf8 text)

either : (a b : Bool) → (not a || not (not a && b)) ≡ true
either true b = refl
either false true = refl
either false false = refl

-- nothing is asked of tags where there are none
pub tags_formed : (tags : List (List ℕ)) (told : Bool)
    → has_tags tags (not (length tags == 0) && told) ≡ true
tags_formed tags told = either (length tags == 0) told

-- ---- transitions

module _ (q : Transition → Bool) where
  after : Transition → Transition → Bool
  after t u = nat_lt (transition_number t) (transition_number u)

  after_less : (t : Transition) (ts : List Transition) → list_all (after t) ts ≡ true
      → list_all (after t) (filter q ts) ≡ true
  after_less t [] all = refl
  after_less t (u ∷ us) all = choose (q u) refl (after_less t us parts.1)
    where
      parts : (after t u ≡ true) × (list_all (after t) us ≡ true)
      parts = and_parts _ _ all

      choose : (v : Bool) → q u ≡ v → list_all (after t) (filter q us) ≡ true
          → list_all (after t) (filter q (u ∷ us)) ≡ true
      choose true is rest = rw is (and_from _ _ parts.0 rest)
      choose false is rest = rw is rest

  ascend_less : (ts : List Transition) → ascend ts ≡ true → ascend (filter q ts) ≡ true
  unfolding after
  ascend_less [] up = refl
  ascend_less (t ∷ ts) up = choose (q t) refl (ascend_less ts parts.1)
    where
      parts : (list_all (after t) ts ≡ true) × (ascend ts ≡ true)
      parts = and_parts _ _ up

      choose : (v : Bool) → q t ≡ v → ascend (filter q ts) ≡ true
          → ascend (filter q (t ∷ ts)) ≡ true
      choose true is rest = rw is (and_from _ _ (after_less t ts parts.0) rest)
      choose false is rest = rw is rest

pub ascend-by_number : (told : List Transition) → ascend (by_number told) ≡ true
ascend-by_number told = ascend_less (is_among told) transitions refl
