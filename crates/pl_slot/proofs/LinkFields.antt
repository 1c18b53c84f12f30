-- The links of a row are its fields.
use Rattle.std.proofs.Common.{◌≡◌, ◌∙◌, ℕ, List, None, Option, Some, ap, is_some, refl, true}
use Rattle.std.specs.Option.{option_and_then, option_map}
use Rattle.pl_base.specs.declared.id.Slot.{Slot}
use Rattle.pl_base.specs.declared.item.ItemKind.{ItemKind}
use Rattle.pl_base.specs.declared.transition.Transition.{Transition}
use Rattle.pl_base.specs.ItemKind.{item_kind_at}
use Rattle.pl_base.specs.Transition.{transition_at}
use Rattle.pl_slot.specs.declared.kind.SlotKind.TheVariants as kinds
use Rattle.pl_slot.specs.declared.links.Link.{Link}
use Rattle.pl_slot.specs.declared.links.Link.TheVariants.{First, Last, Next, Previous}
use Rattle.pl_slot.specs.declared.links.Rail.{Rail}
use Rattle.pl_slot.specs.declared.links.Rail.TheVariants.{Children, Live, OriginPages, PageVisits, References, Targets}
use Rattle.pl_slot.specs.declared.row.SlotRow.{SlotRow}
use Rattle.pl_slot.specs.declared.row.SlotRow.TheVariants.{Free, Item, Origin, Place, Text, Visit}
use Rattle.pl_slot.specs.Links.{link_in, link_place}
use Rattle.pl_slot.specs.Slot.{IsSlotRow, slot_bytes}
use Rattle.pl_slot.specs.SlotReading.{item_in, mark_in, origin_in, place_in, slot_in, visit_in}
use Rattle.pl_slot.proofs.FitsLaws.{free_has, text_has}
use Rattle.pl_slot.proofs.RowsRead.{row_back}

-- the field of a link
abbrev pub link_of : Rail → Link → SlotRow → Option Slot
link_of Live Previous (Origin a b c d e) = Some a
link_of Live Next (Origin a b c d e) = Some b
link_of OriginPages First (Origin a b c d e) = Some c
link_of OriginPages Last (Origin a b c d e) = Some d
link_of Live Previous (Place a b c d e f g h i j k l m n o p q r) = Some c
link_of Live Next (Place a b c d e f g h i j k l m n o p q r) = Some d
link_of OriginPages Previous (Place a b c d e f g h i j k l m n o p q r) = Some g
link_of OriginPages Next (Place a b c d e f g h i j k l m n o p q r) = Some h
link_of PageVisits First (Place a b c d e f g h i j k l m n o p q r) = Some i
link_of PageVisits Last (Place a b c d e f g h i j k l m n o p q r) = Some j
link_of References First (Place a b c d e f g h i j k l m n o p q r) = Some k
link_of References Last (Place a b c d e f g h i j k l m n o p q r) = Some l
link_of Live Previous (Visit a b c d e f g h i j k l m) = Some b
link_of Live Next (Visit a b c d e f g h i j k l m) = Some c
link_of PageVisits Previous (Visit a b c d e f g h i j k l m) = Some f
link_of PageVisits Next (Visit a b c d e f g h i j k l m) = Some g
link_of Targets Previous (Visit a b c d e f g h i j k l m) = Some i
link_of Targets Next (Visit a b c d e f g h i j k l m) = Some j
link_of Targets First (Visit a b c d e f g h i j k l m) = Some k
link_of Targets Last (Visit a b c d e f g h i j k l m) = Some l
link_of Live Previous (Item a b c d e f g h i j k l m n o p) = Some b
link_of Live Next (Item a b c d e f g h i j k l m n o p) = Some c
link_of Children Previous (Item a b c d e f g h i j k l m n o p) = Some f
link_of Children Next (Item a b c d e f g h i j k l m n o p) = Some g
link_of Children First (Item a b c d e f g h i j k l m n o p) = Some h
link_of Children Last (Item a b c d e f g h i j k l m n o p) = Some i
link_of References Previous (Item a b c d e f g h i j k l m n o p) = Some k
link_of References Next (Item a b c d e f g h i j k l m n o p) = Some l
link_of rail link row = None

-- as it is read from bytes
origin_link : (rail : Rail) (link : Link) (bytes : List ℕ)
    → option_map (λ at. slot_in at bytes) (link_place rail link kinds.Origin) ≡ link_of rail link (origin_in bytes)
origin_link Live First bytes = refl
origin_link Live Last bytes = refl
origin_link Live Previous bytes = refl
origin_link Live Next bytes = refl
origin_link OriginPages First bytes = refl
origin_link OriginPages Last bytes = refl
origin_link OriginPages Previous bytes = refl
origin_link OriginPages Next bytes = refl
origin_link PageVisits First bytes = refl
origin_link PageVisits Last bytes = refl
origin_link PageVisits Previous bytes = refl
origin_link PageVisits Next bytes = refl
origin_link Targets First bytes = refl
origin_link Targets Last bytes = refl
origin_link Targets Previous bytes = refl
origin_link Targets Next bytes = refl
origin_link Children First bytes = refl
origin_link Children Last bytes = refl
origin_link Children Previous bytes = refl
origin_link Children Next bytes = refl
origin_link References First bytes = refl
origin_link References Last bytes = refl
origin_link References Previous bytes = refl
origin_link References Next bytes = refl

place_link : (rail : Rail) (link : Link) (bytes : List ℕ)
    → option_map (λ at. slot_in at bytes) (link_place rail link kinds.Place) ≡ link_of rail link (place_in bytes)
place_link Live First bytes = refl
place_link Live Last bytes = refl
place_link Live Previous bytes = refl
place_link Live Next bytes = refl
place_link OriginPages First bytes = refl
place_link OriginPages Last bytes = refl
place_link OriginPages Previous bytes = refl
place_link OriginPages Next bytes = refl
place_link PageVisits First bytes = refl
place_link PageVisits Last bytes = refl
place_link PageVisits Previous bytes = refl
place_link PageVisits Next bytes = refl
place_link Targets First bytes = refl
place_link Targets Last bytes = refl
place_link Targets Previous bytes = refl
place_link Targets Next bytes = refl
place_link Children First bytes = refl
place_link Children Last bytes = refl
place_link Children Previous bytes = refl
place_link Children Next bytes = refl
place_link References First bytes = refl
place_link References Last bytes = refl
place_link References Previous bytes = refl
place_link References Next bytes = refl

visit_link : (rail : Rail) (link : Link) (bytes : List ℕ) (transition : Transition)
    → option_map (λ at. slot_in at bytes) (link_place rail link kinds.Visit)
    ≡ link_of rail link (visit_in bytes transition)
visit_link Live First bytes transition = refl
visit_link Live Last bytes transition = refl
visit_link Live Previous bytes transition = refl
visit_link Live Next bytes transition = refl
visit_link OriginPages First bytes transition = refl
visit_link OriginPages Last bytes transition = refl
visit_link OriginPages Previous bytes transition = refl
visit_link OriginPages Next bytes transition = refl
visit_link PageVisits First bytes transition = refl
visit_link PageVisits Last bytes transition = refl
visit_link PageVisits Previous bytes transition = refl
visit_link PageVisits Next bytes transition = refl
visit_link Targets First bytes transition = refl
visit_link Targets Last bytes transition = refl
visit_link Targets Previous bytes transition = refl
visit_link Targets Next bytes transition = refl
visit_link Children First bytes transition = refl
visit_link Children Last bytes transition = refl
visit_link Children Previous bytes transition = refl
visit_link Children Next bytes transition = refl
visit_link References First bytes transition = refl
visit_link References Last bytes transition = refl
visit_link References Previous bytes transition = refl
visit_link References Next bytes transition = refl

item_link : (rail : Rail) (link : Link) (bytes : List ℕ) (kind : ItemKind)
    → option_map (λ at. slot_in at bytes) (link_place rail link kinds.Item) ≡ link_of rail link (item_in bytes kind)
item_link Live First bytes kind = refl
item_link Live Last bytes kind = refl
item_link Live Previous bytes kind = refl
item_link Live Next bytes kind = refl
item_link OriginPages First bytes kind = refl
item_link OriginPages Last bytes kind = refl
item_link OriginPages Previous bytes kind = refl
item_link OriginPages Next bytes kind = refl
item_link PageVisits First bytes kind = refl
item_link PageVisits Last bytes kind = refl
item_link PageVisits Previous bytes kind = refl
item_link PageVisits Next bytes kind = refl
item_link Targets First bytes kind = refl
item_link Targets Last bytes kind = refl
item_link Targets Previous bytes kind = refl
item_link Targets Next bytes kind = refl
item_link Children First bytes kind = refl
item_link Children Last bytes kind = refl
item_link Children Previous bytes kind = refl
item_link Children Next bytes kind = refl
item_link References First bytes kind = refl
item_link References Last bytes kind = refl
item_link References Previous bytes kind = refl
item_link References Next bytes kind = refl

-- a kind without links
none_there : (bytes : List ℕ) (place : Option ℕ) → (is_some place ≡ true → ⊥)
    → option_map (λ at. slot_in at bytes) place ≡ None
none_there bytes None never = refl
none_there bytes (Some at) never = absurd (never refl)

pub link_field : (rail : Rail) (link : Link) (row : SlotRow) → IsSlotRow row → link_in rail link row ≡ link_of rail link row
link_field rail link (Free next) fits =
    none_there (slot_bytes (Free next)) (link_place rail link kinds.Free) (free_has rail link)
    ∙ none_of rail link
  where
    none_of : (rail : Rail) (link : Link) → None ≡ link_of rail link (Free next)
    none_of Live First = refl
    none_of Live Last = refl
    none_of Live Previous = refl
    none_of Live Next = refl
    none_of OriginPages First = refl
    none_of OriginPages Last = refl
    none_of OriginPages Previous = refl
    none_of OriginPages Next = refl
    none_of PageVisits First = refl
    none_of PageVisits Last = refl
    none_of PageVisits Previous = refl
    none_of PageVisits Next = refl
    none_of Targets First = refl
    none_of Targets Last = refl
    none_of Targets Previous = refl
    none_of Targets Next = refl
    none_of Children First = refl
    none_of Children Last = refl
    none_of Children Previous = refl
    none_of Children Next = refl
    none_of References First = refl
    none_of References Last = refl
    none_of References Previous = refl
    none_of References Next = refl
link_field rail link (Origin a b c d e) fits =
    origin_link rail link (slot_bytes (Origin a b c d e))
    ∙ ap (option_and_then (link_of rail link)) (row_back (Origin a b c d e) fits)
link_field rail link (Place a b c d e f g h i j k l m n o p q r) fits =
    place_link rail link (slot_bytes (Place a b c d e f g h i j k l m n o p q r))
    ∙ ap (option_and_then (link_of rail link)) (row_back (Place a b c d e f g h i j k l m n o p q r) fits)
link_field rail link (Visit a b c d e f g h i j k l m) fits =
    of_kind (transition_at (mark_in bytes)) (row_back (Visit a b c d e f g h i j k l m) fits)
  where
    bytes : List ℕ
    bytes = slot_bytes (Visit a b c d e f g h i j k l m)

    of_kind : (read : Option Transition) → option_map (visit_in bytes) read ≡ Some (Visit a b c d e f g h i j k l m)
        → option_map (λ at. slot_in at bytes) (link_place rail link kinds.Visit)
        ≡ link_of rail link (Visit a b c d e f g h i j k l m)
    of_kind None is = absurd (cc)
    of_kind (Some t) is = visit_link rail link bytes t ∙ ap (option_and_then (link_of rail link)) is
link_field rail link (Item a b c d e f g h i j k l m n o p) fits =
    of_kind (item_kind_at (mark_in bytes)) (row_back (Item a b c d e f g h i j k l m n o p) fits)
  where
    bytes : List ℕ
    bytes = slot_bytes (Item a b c d e f g h i j k l m n o p)

    of_kind : (read : Option ItemKind) → option_map (item_in bytes) read ≡ Some (Item a b c d e f g h i j k l m n o p)
        → option_map (λ at. slot_in at bytes) (link_place rail link kinds.Item)
        ≡ link_of rail link (Item a b c d e f g h i j k l m n o p)
    of_kind None is = absurd (cc)
    of_kind (Some t) is = item_link rail link bytes t ∙ ap (option_and_then (link_of rail link)) is
link_field rail link (Text a b c) fits =
    none_there (slot_bytes (Text a b c)) (link_place rail link kinds.Text) (text_has rail link)
    ∙ none_of rail link
  where
    none_of : (rail : Rail) (link : Link) → None ≡ link_of rail link (Text a b c)
    none_of Live First = refl
    none_of Live Last = refl
    none_of Live Previous = refl
    none_of Live Next = refl
    none_of OriginPages First = refl
    none_of OriginPages Last = refl
    none_of OriginPages Previous = refl
    none_of OriginPages Next = refl
    none_of PageVisits First = refl
    none_of PageVisits Last = refl
    none_of PageVisits Previous = refl
    none_of PageVisits Next = refl
    none_of Targets First = refl
    none_of Targets Last = refl
    none_of Targets Previous = refl
    none_of Targets Next = refl
    none_of Children First = refl
    none_of Children Last = refl
    none_of Children Previous = refl
    none_of Children Next = refl
    none_of References First = refl
    none_of References Last = refl
    none_of References Previous = refl
    none_of References Next = refl
