-- The two lists of pages that are offered, as they are filled.
use Rattle.std.specs.Prelude.{◌≡◌, ℕ, ℤ, ◌==◌, ◌++◌, ◌-◌, ◌<◌, Bool, true, false, List, [], ◌∷◌}
use Rattle.std.specs.Prelude.{length, map, reverse, take, if◌then◌else◌}
use Rattle.std.specs.List.{filter, list_any}
use Rattle.pl_base.specs.declared.id.PageId.{PageId}
use Rattle.pl_base.specs.Store.{Page, Store}
use Rattle.pl_sketch.specs.declared.sketch.Sketch.{Sketch}
use Rattle.pl_words.specs.declared.bar_text.BarText.{BarText}
use Rattle.pl_words.specs.declared.stands.Standing.{Standing}
use Rattle.pl_words.specs.declared.stands.Standing.TheVariants.{Boundary, Inside, Nowhere}
use Rattle.pl_bar.specs.declared.offers.Offers.{Offers}
use Rattle.pl_bar.specs.AddressBar.{first_tier, second_tier}
use Rattle.pl_bar.specs.Cost.{is_counted}

-- a list, and behind it as many of others as make so many
abbrev pub filled_up : {A : Type 0} → ℕ → List A → List A → List A
filled_up most xs others = xs ++ take (most - length xs) others

-- the front of a list up to the element with which so many pass the test
abbrev pub up_to : {A : Type 0} → (A → Bool) → ℕ → List A → List A
up_to test count [] = []
up_to test count (x ∷ xs) =
    if count == 0 then [] else x ∷ up_to test (if test x then count - 1 else count) xs

-- the ids of entries by frecency that are gone through from the last to the first
abbrev pub ids_of : List ((ℤ × PageId) × Sketch) → List PageId
ids_of entries = map (λ (entry : (ℤ × PageId) × Sketch). entry.0.1) (reverse entries)

-- one of these pages has this id
abbrev pub has_id : List Page → PageId → Bool
has_id pages id = list_any (λ (p : Page). p.id.0 == id.0) pages

-- a page with this id has another frecency than 0
abbrev pub has_counted : Store → PageId → Bool
has_counted store id = has_id (filter (is_counted store) store.pages) id

-- a page of the first tier has this id
abbrev pub in_first : Store → BarText → PageId → Bool
in_first store asked id = has_id (first_tier store asked.marks asked.words) id

-- a page of the second tier has this id
abbrev pub in_second : Store → BarText → PageId → Bool
in_second store asked id = has_id (second_tier store asked.marks asked.words) id

-- each word stands on a boundary
abbrev pub is_boundary : Standing → Bool
is_boundary Boundary = true
is_boundary Inside = false
is_boundary Nowhere = false

-- each word stands in the page, and not each on a boundary
abbrev pub is_inside : Standing → Bool
is_inside Boundary = false
is_inside Inside = true
is_inside Nowhere = false

-- the standing tells in which tier the page with this id is, if in one
pub record TellsTier (store : Store) (asked : BarText) (id : PageId) (standing : Standing)
    : Type 0 where
  pub first : is_boundary standing ≡ in_first store asked id
  pub second : is_inside standing ≡ in_second store asked id

-- each list goes on with the pages of its tier among these, as far as there is room; what the
-- second has does not matter once the first is full
pub record GoOn (store : Store) (asked : BarText) (ids : List PageId) (old new : Offers)
    : Type 0 where
  pub most : new.max ≡ old.max
  pub first :
      new.first.items ≡ filled_up old.max old.first.items (filter (in_first store asked) ids)
  pub second : length new.first.items < old.max → new.second.items
      ≡ filled_up old.max old.second.items (filter (in_second store asked) ids)
