-- What holds of the parts of every query.
use Rattle.std.specs.Prelude.{ℕ, ℤ, ◌==◌, ◌&&◌, ◌||◌, not, Bool, true, false, List}
use Rattle.std.specs.Prelude.{[], ◌∷◌, length, nat_le, Option, Some, None, is_some}
use Rattle.std.specs.Char.{is_ascii_uppercase}
use Rattle.std.specs.List.{list_all, list_any}
use Rattle.std.specs.Prelude.{nat_lt}
use Rattle.pl_base.specs.declared.id.ItemId.{ItemId}
use Rattle.pl_base.specs.declared.transition.Transition.{Transition}
use Rattle.pl_base.specs.Transition.{transition_number}
use Rattle.pl_place.specs.declared.kinds.TimeRef.{TimeRef}
use Rattle.pl_place.specs.declared.kinds.TimeRef.TheVariants.{Epoch, Today, Now}

-- the reference of a time that is none is the first moment of 1970
abbrev pub is_epoch : TimeRef → Bool
is_epoch Epoch = true
is_epoch Today = false
is_epoch Now = false

-- a reference has its time
abbrev pub has_time : Option ℤ → TimeRef → Bool
has_time time reference = is_some time || is_epoch reference

-- terms are not empty
abbrev pub are_terms : Option (List ℕ) → Bool
are_terms None = true
are_terms (Some text) = not (length text == 0)

-- the greatest number of visits that a condition names
abbrev pub most_visits : ℕ
most_visits = 2_147_483_647

-- a number of visits is not greater
abbrev pub is_count : Option ℕ → Bool
is_count None = true
is_count (Some count) = nat_le count most_visits

-- a domain has no upper-case letter of ASCII
abbrev pub is_domain : Option (List ℕ) → Bool
is_domain None = true
is_domain (Some domain) = not (list_any is_ascii_uppercase domain)

-- nothing is asked of a domain that is none
abbrev pub has_domain : Option (List ℕ) → Bool → Bool
has_domain domain is_host = is_some domain || not is_host

-- two items are the same
abbrev pub is_same_item : ItemId → ItemId → Bool
is_same_item a b = a.0 == b.0

-- nothing is asked of tags where there are none
abbrev pub has_tags : List (List ℕ) → Bool → Bool
has_tags tags not_tags = not (length tags == 0) || not not_tags

-- transitions stand by their numbers, each once
abbrev pub ascend : List Transition → Bool
ascend [] = true
ascend (t ∷ ts) =
    list_all (λ u. nat_lt (transition_number t) (transition_number u)) ts && ascend ts
