-- Lists made of the same one, and lists that are sorted by what they are made of.
use Rattle.std.proofs.Common.{◌≡◌, ◌∙◌, ◌∷◌, ◌==◌, [], List, ap, filter, map, refl}
use Rattle.std.proofs.Common.{if◌then◌else◌}
use Rattle.std.specs.List.{zip}
use Rattle.pl_base.specs.declared.id.Slot.{Slot}
use Rattle.pl_base.specs.Sorting.{put_in_place, sorted_by}
use Rattle.pl_base.specs.Store.{Visit}
use Rattle.pl_base.specs.Visits.{in_place, is_later, latest_first}
use Rattle.pl_base.proofs.ListLaws.{filter-map, map-map}
use Rattle.pl_owned.specs.declared.owned.Member.{Member}
use Rattle.pl_owned.specs.Owned.{owned_by}

pub zip_maps : {X A B : Type 0} (f : X → A) (g : X → B) (xs : List X)
    → zip (map f xs) (map g xs) ≡ map (λ x. (f x, g x)) xs
zip_maps f g [] = refl
zip_maps {X} {A} {B} f g (x ∷ xs) = ap (λ (ps : List (A × B)). (f x, g x) ∷ ps) (zip_maps f g xs)

-- the slots that name an owner, of members that are made of rows
pub owned_map : {X : Type 0} (owner_of slot_of : X → Slot) (xs : List X) (owner : Slot)
    → owned_by (map (λ x. record { owner = owner_of x; slot = slot_of x }) xs) owner
    ≡ map slot_of (filter (λ x. (owner_of x).0 == owner.0) xs)
owned_map {X} owner_of slot_of xs owner =
    ap (map (λ (m : Member). m.slot))
    (filter-map (λ (m : Member). m.owner.0 == owner.0)
    (λ (x : X). record { owner = owner_of x; slot = slot_of x }) xs)
    ∙ map-map (λ (m : Member). m.slot) (λ (x : X). record { owner = owner_of x; slot = slot_of x })
    (filter (λ (x : X). (owner_of x).0 == owner.0) xs)

-- ---- sorts

placed_later : (v : Visit) (ws : List Visit) → put_in_place is_later v ws ≡ in_place v ws
placed_later v [] = refl
placed_later v (w ∷ ws) =
    ap (λ (us : List Visit). if is_later v w then v ∷ w ∷ ws else w ∷ us) (placed_later v ws)

pub sorted_later : (vs : List Visit) → sorted_by is_later vs ≡ latest_first vs
sorted_later [] = refl
sorted_later (v ∷ vs) = ap (put_in_place is_later v) (sorted_later vs) ∙ placed_later v (latest_first vs)
