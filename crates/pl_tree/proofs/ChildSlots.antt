-- A child more takes no slot of the titles.
use Rattle.std.proofs.Common.{◌≡◌, ◌==◌, Bool, true, false, List, [], ◌∷◌}
use Rattle.std.proofs.Common.{ap, arith, if◌then◌else◌, refl}
use Rattle.std.proofs.lemmas.List.Sums.{sum_by-cons}
use Rattle.pl_base.specs.declared.id.ItemId.{ItemId}
use Rattle.pl_base.specs.Live.{chunks}
use Rattle.pl_base.specs.Store.{Item}
use Rattle.pl_base.proofs.ItemLaws.{title_slots}
use Rattle.pl_tree.specs.declared.place.Place.{Place}
use Rattle.pl_tree.specs.Changes.{put, with_child}

pub slots_child : (parent : ItemId) (place : Place) (id : ItemId) (items : List Item)
    → title_slots (with_child parent place id items) ≡ title_slots items
slots_child parent place id [] = refl
slots_child parent place id (i ∷ items) = choose (i.id.0 == parent.0) (slots_child parent place id items)
  where
    same_title : (b : Bool) → (if b then record i { children = put place id i.children } else i).title ≡ i.title
    same_title true = refl
    same_title false = refl

    choose : (b : Bool) → title_slots (with_child parent place id items) ≡ title_slots items
        → title_slots ((if b then record i { children = put place id i.children } else i)
        ∷ with_child parent place id items) ≡ title_slots (i ∷ items)
    choose b rest =
        omega (
          arith,
          sum_by-cons (λ (j : Item). chunks j.title)
              (if b then record i { children = put place id i.children } else i) (with_child parent place id items),
          sum_by-cons (λ (j : Item). chunks j.title) i items,
          ap chunks (same_title b),
        )
