-- What is told of owners whose links may name anything: each is a slot, which has a list among
-- those of all owners.
use Rattle.std.proofs.Common.{◌≡◌, ◌∙◌, ◌+◌, ◌*◌, ◌<◌, ◌≤◌, ◌∷◌, [], ◌++◌, ℕ, List, ap, arith}
use Rattle.std.proofs.Common.{get_or, IsSome, is_some, length, None, Option, refl, Some, subst}
use Rattle.std.proofs.Common.{suc, sym, take, true, zero}
use Rattle.std.specs.List.{AllZip, sum_by}
use Rattle.std.specs.Option.{option_and_then, option_map}
use Rattle.std.proofs.lemmas.List.{get_or_default, take_more}
use Rattle.std.proofs.lemmas.List.Sums.{sum_by-take-le, sum_by_more}
use Rattle.pl_base.specs.declared.id.Slot.{Slot}
use Rattle.pl_owned.specs.declared.owned.Member.{Member}
use Rattle.pl_owned.specs.declared.owned.Owned.{Owned}
use Rattle.pl_owned.specs.Owned.{HasOwned, list_at, owned_by, reads}
use Rattle.pl_rail.specs.declared.owner.Owner.TheVariants.{At}
use Rattle.pl_rail.specs.declared.owner.Side.TheVariants.{Behind}
use Rattle.pl_rail.specs.Rails.{end_at}
use Rattle.pl_sheets.specs.Sheets.{Pages}
use Rattle.pl_slot.specs.declared.links.Link.TheVariants.{First, Next, Previous}
use Rattle.pl_slot.specs.declared.links.Rail.{Rail}
use Rattle.pl_slot.specs.declared.row.SlotRow.{SlotRow}
use Rattle.pl_slot.specs.Arena.{row_at, slot_count}
use Rattle.pl_slot.specs.Links.{link_at, link_in, sides_at}
use Rattle.pl_slot.specs.Slot.{slot_bytes, slot_kind}
use Rattle.pl_slot.specs.SlotReading.{slot_in}
use Rattle.pl_slot.proofs.LinkLaws.{link_slot}
use Rattle.pl_slot.proofs.SlotPlaces.{slot_bounds}

-- ---- what is told of an owner

-- the list of all owners, in which there is one for each number up to the last slot's
module _ (rail : Rail) (owner : Slot) (pages : Pages) (members : List Member) (count : ℕ) (owned : Owned)
    (there : IsSome (end_at Behind rail (At owner) pages)) (count_is : count ≡ slot_count pages)
    (has : HasOwned members (count + 1) owned) where
  owner_below : owner.0 < count + 1
  owner_below =
      let bounds = slot_bounds owner.0 pages (link_slot rail First owner pages pages refl there) in
      let within : owner.0 ≤ slot_count pages = bounds.1 in
      omega (arith, within, count_is)

  pub list_there : owner.0 < length owned.lists.items
  list_there = omega (arith, owner_below, has.long)

  pub list_is : (wanted : List Slot) → wanted ≡ list_at owned owner.0 → wanted ≡ owned_by members owner
  list_is wanted is = is ∙ has.lists owner owner_below

-- an element is the same whatever stands for those past the end
pub at_itself : {X : Type 0} (xs : List X) (i : ℕ) (d : X) → i < length xs → get_or xs i d ≡ get_or xs i (get_or xs i d)
at_itself xs i d within = get_or_default xs i d (get_or xs i d) within

-- ---- a list for each owner

zip_push : {A B : Type 0} (R : A → B → Type 0) (xs : List A) (ys : List B) (x : A) (y : B) → AllZip R xs ys → R x y
    → AllZip R (xs ++ x ∷ []) (ys ++ y ∷ [])
zip_push R [] [] x y zip here = (here, tt)
zip_push R [] (b ∷ ys) x y zip here = absurd zip
zip_push R (a ∷ xs) [] x y zip here = absurd zip
zip_push R (a ∷ xs) (b ∷ ys) x y zip here = (zip.0, zip_push R xs ys x y zip.1 here)

pub zip_more : {A B : Type 0} (R : A → B → Type 0) (xs : List A) (ys : List B) (i : ℕ) (x : A) (y : B) → i < length xs
    → x ≡ get_or xs i x → AllZip R (take i xs) ys → R x y → AllZip R (take (i + 1) xs) (ys ++ y ∷ [])
zip_more R xs ys i x y within is zip here =
    subst (λ l. AllZip R l (ys ++ y ∷ [])) (sym (take_more xs i x within ∙ ap (λ k. take i xs ++ k ∷ []) (sym is)))
    (zip_push R (take i xs) ys x y zip here)

-- what goes with one of them
pub record Zipped {A B : Type 0} (R : A → B → Type 0) (x : A) : Type 0 where
  pub other : B
  pub so : R x other

pub zip_here : {A B : Type 0} (R : A → B → Type 0) (xs : List A) (ys : List B) (i : ℕ) (x : A) → AllZip R xs ys
    → i < length xs → x ≡ get_or xs i x → Zipped R x
zip_here R [] ys i x zip within is = absurd (omega arith)
zip_here R (a ∷ xs) [] i x zip within is = absurd zip
zip_here R (a ∷ xs) (b ∷ ys) zero x zip within is =
    record { other = b; so = subst (λ k. R k b) (sym is) zip.0 }
zip_here R (a ∷ xs) (b ∷ ys) (suc i) x zip within is = zip_here R xs ys i x zip.1 (omega arith) is

-- ---- what links of a slot there are

previous_place : (row : SlotRow) (place : Option ℕ)
    → is_some (option_map (λ n. slot_in n (slot_bytes row)) (option_map (λ n. n + 4) place)) ≡ true
    → is_some (option_map (λ n. slot_in n (slot_bytes row)) place) ≡ true
previous_place row None is = is
previous_place row (Some n) is = refl

previous_row : (rail : Rail) (row : Option SlotRow) → is_some (option_and_then (link_in rail Next) row) ≡ true
    → is_some (option_and_then (link_in rail Previous) row) ≡ true
previous_row rail None is = is
previous_row rail (Some row) is = previous_place row (sides_at rail (slot_kind row)) is

-- a slot that has a link to the next one has one to the one before
pub previous_there : (rail : Rail) (n : ℕ) (pages : Pages) → IsSome (link_at rail Next n pages)
    → IsSome (link_at rail Previous n pages)
unfolding link_at
previous_there rail n pages is = previous_row rail (row_at n pages) is

-- ---- what is read

module _ (members : List Member) (owners : List Slot) (i : ℕ) (within : i < length owners) (before now : ℕ)
    (few : now ≤ before + sum_by (reads members) (take i owners)) where
  -- one owner's list is right
  pub reads_more : (d : Slot) (wanted : List Slot) (later : ℕ) → wanted ≡ owned_by members (get_or owners i d)
      → later ≤ now + 3 * length wanted + 2 → later ≤ before + sum_by (reads members) (take (i + 1) owners)
  reads_more d wanted later is counted =
      let long : length wanted ≡ length (owned_by members (get_or owners i d)) = ap length is in
      omega (arith, few, counted, long, sum_by_more (reads members) owners i d within)

  -- it is not
  pub reads_past : (live later : ℕ) → later ≤ now + 3 * live + 4
      → later ≤ before + sum_by (reads members) owners + 3 * live + 4
  reads_past live later counted = omega (arith, few, counted, sum_by-take-le (reads members) owners i)
