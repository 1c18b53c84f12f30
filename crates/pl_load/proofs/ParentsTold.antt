-- What was read tells of its items: each stands in the slot that says its id, each row names the
-- slot of its item's parent, and chains link the slots of the children.
use Rattle.std.proofs.Common.{◌≡◌, ◌≢◌, ◌∙◌, ◌∷◌, ◌==◌, [], List, Some, arith, eqb-true}
use Rattle.std.proofs.Common.{inl, inr, length, map, suc, sym, true}
use Rattle.std.specs.List.{All, AllPairs, AllZip, zip}
use Rattle.std.proofs.lemmas.Bool.{or_cases}
use Rattle.std.proofs.lemmas.List.Elements.{All-from_recursion}
use Rattle.std.proofs.lemmas.Slice.Zip.{AllZip-long}
use Rattle.pl_base.specs.declared.id.ItemId.{ItemId}
use Rattle.pl_base.specs.declared.id.Slot.{Slot}
use Rattle.pl_base.specs.Good.{IsGood, child_ids}
use Rattle.pl_base.specs.Rows.{Kept}
use Rattle.pl_base.specs.Store.{Item as TreeItem, item_id}
use Rattle.pl_base.proofs.IdsLaws.{same_slot}
use Rattle.pl_base.proofs.ListLaws.{map-map, weaker}
use Rattle.pl_load.specs.Members.{parent_members}
use Rattle.pl_load.specs.Owners.{NameOwners, names_parent}
use Rattle.pl_load.specs.Reads.{AreRead, AreReadFrom, Reads}
use Rattle.pl_load.proofs.ItemSlots.{HaveSlots, item_by_kind}
use Rattle.pl_load.proofs.Layouts.{AreParents}
use Rattle.pl_load.proofs.KeptRows.{are_read, item_slots_are, items_read, items_said}
use Rattle.pl_load.proofs.Layouts.{kept_of, layout_of}
use Rattle.pl_load.proofs.ListParts.{all_pass}
use Rattle.pl_load.proofs.MetSlots.{item_there}
use Rattle.pl_load.proofs.Parents as parents
use Rattle.pl_load.proofs.Parents.{NamesParent}
use Rattle.pl_owned.specs.Owned.{IsListed}
use Rattle.pl_rail.specs.declared.owner.Owner.TheVariants.{At, Header}
use Rattle.pl_rail.specs.Rails.{Lists, is_member, none}
use Rattle.pl_reading.specs.Live.{HoldsItem}
use Rattle.pl_reading.specs.Read.{IsItemOf, IsItemRead}
use Rattle.pl_record.specs.declared.rows.Item.{Item}
use Rattle.pl_record.specs.Records.{Layout}
use Rattle.pl_record.specs.Rows.{item_in}
use Rattle.pl_sheets.specs.Sheets.{Pages}
use Rattle.pl_slot.specs.declared.kind.LiveKind.TheVariants as kinds
use Rattle.pl_slot.specs.declared.links.Rail.TheVariants.{Children, Live}
use Rattle.pl_slot.specs.Links.{kind_at}
use Rattle.pl_stored.specs.Stored.{stored_store}

-- ---- lists side by side

-- of pairs and others, what holds of the second of each pair
seconds_paired : {X Y Z : Type 0} (R : X × Y → Z → Type 0) (S : Y → Z → Type 0)
    (xs : List X) (ys : List Y) (zs : List Z)
    → length xs ≡ length ys → ((x : X) (y : Y) (z : Z) → R (x, y) z → S y z) → AllZip R (zip xs ys) zs
    → AllZip S ys zs
seconds_paired R S [] [] [] long tells all = tt
seconds_paired R S [] [] (z ∷ zs) long tells all = absurd all
seconds_paired R S [] (y ∷ ys) zs long tells all = absurd (omega (arith, long))
seconds_paired R S (x ∷ xs) [] zs long tells all = absurd (omega (arith, long))
seconds_paired R S (x ∷ xs) (y ∷ ys) [] long tells all = absurd all
seconds_paired R S (x ∷ xs) (y ∷ ys) (z ∷ zs) long tells all = (
  tells x y z all.0,
  seconds_paired R S xs ys zs (omega (arith, long)) tells all.1,
)

-- the same is made of both lists
pub made_alike : {X Y A : Type 0} (R : X → Y → Type 0) (f : X → A) (g : Y → A) (xs : List X) (ys : List Y)
    → ((x : X) (y : Y) → R x y → f x ≡ g y) → AllZip R xs ys → map f xs ≡ map g ys
made_alike R f g [] [] tells all = λ i. []
made_alike R f g [] (y ∷ ys) tells all = absurd all
made_alike R f g (x ∷ xs) [] tells all = absurd all
made_alike R f g (x ∷ xs) (y ∷ ys) tells all =
    let here = tells x y all.0 in
    let rest = made_alike R f g xs ys tells all.1 in
    λ i. here i ∷ rest i

-- no two behind the first are the same
pairs_behind : {X : Type 0} (R : X → X → Type 0) (x : X) (xs : List X) → AllPairs R (x ∷ xs) → AllPairs R xs
pairs_behind R x xs pairs = λ i j d before within.
    pairs (suc i) (suc j) d (omega (arith, before)) (omega (arith, within))

-- ---- items

module _ (pages : Pages) (reads : Reads) (from : AreReadFrom pages reads)
    (good : IsGood (stored_store reads.stored)) (owners : NameOwners pages reads) where
  abbrev at : Layout
  at = layout_of pages reads

  abbrev kept : Kept
  kept = kept_of reads

  pub in_slots : HaveSlots pages kept.items at.item reads.item_slots
  in_slots =
      record {
        are = item_slots_are pages reads from good ∙ map-map at.item (λ (i : TreeItem). i.id) kept.items;
        ascending = good.item_ids.ascending;
        says =
            All-from_recursion (λ (i : TreeItem). item_in pages (at.item i.id) ≡ Some i.id) kept.items
            (items_said pages reads from good);
      }

  -- the list of each item says the ids of its children
  said : AllZip (λ (list : List Slot) (i : TreeItem). map (item_in pages) list ≡ map Some i.children) from.children
      kept.items
  said =
      seconds_paired (IsItemOf pages)
      (λ (list : List Slot) (i : TreeItem). map (item_in pages) list ≡ map Some i.children) reads.items from.children
      reads.stored.items
      (AllZip-long (HoldsItem pages) reads.item_slots reads.items from.items
      ∙ sym (AllZip-long (IsListed Children (parent_members reads.item_slots reads.items) pages) reads.item_slots
      from.children from.parents))
      (λ i list s read. read.children) from.stored_items

  pub children_linked : All (λ (i : TreeItem). Lists Children (At (at.item i.id)) (map at.item i.children) pages)
      kept.items
  children_linked =
      parents.chains pages kept.items at.item reads.item_slots reads.items from.children in_slots from.parents said
      (item_there pages reads from)

  -- each row names no parent, or the slot of an item
  parents_named : All (λ (r : Item). NamesParent reads.item_slots r.parent) reads.items
  parents_named =
      All-from_recursion (λ (r : Item). NamesParent reads.item_slots r.parent) reads.items
      (weaker (λ (r : Item). names_parent pages r ≡ true) (λ (r : Item). NamesParent reads.item_slots r.parent)
      reads.items
      (λ r names.
      elim (or_cases (r.parent.0 == 0) (is_member Live (Header kinds.Item) pages r.parent) names) [
        | inl nothing ↦ inl (same_slot r.parent none (eqb-true r.parent.0 0 nothing))
        | inr member ↦ inr (item_there pages reads from r.parent (item_by_kind (kind_at r.parent.0 pages) member))
      ])
      (all_pass (names_parent pages) reads.items owners.parents))

  pub children_once : AllPairs (λ (a b : ItemId). a ≢ b) (child_ids kept.items)
  children_once = pairs_behind (λ (a b : ItemId). a ≢ b) (item_id 1) (child_ids kept.items) good.tree.once

  pub parents_are : AreParents pages reads
  parents_are =
      parents.parents_agree pages kept.items at.item reads.item_slots reads.items from.children in_slots from.parents
      said (item_there pages reads from)
      (made_alike (λ (i : Item) (s : TreeItem). (slots : List Slot) × IsItemRead pages i slots s) (λ (r : Item). r.id)
      (λ (i : TreeItem). i.id) reads.items reads.stored.items (λ r s read. sym read.1.id)
      (items_read pages reads from)) parents_named children_once

  -- what was read are the rows of a store
  pub rows_read : AreRead at kept reads
  rows_read = are_read pages reads from good parents_are
