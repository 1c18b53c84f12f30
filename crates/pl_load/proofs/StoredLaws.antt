-- What the code needs to read rows with their texts, and that any reading of the file has the same.
use Rattle.std.proofs.Common.{◌∙◌, ◌≡◌, ◌≤◌, ◌∷◌, ◌==◌, [], List, Some, arith, eqb-true}
use Rattle.std.proofs.Common.{inl, inr, map, refl, sym, true}
use Rattle.std.proofs.lemmas.Bool.{or_cases}
use Rattle.std.proofs.lemmas.List.Elements.{All-from_recursion, recursion_from_All}
use Rattle.std.specs.List.{All, AllByRecursion, flat_map, list_all, zip}
use Rattle.std.specs.Option.{IsSome}
use Rattle.std.proofs.lemmas.Bool.{cases_Bool, true≢false}
use Rattle.pl_base.specs.declared.id.Slot.{Slot}
use Rattle.pl_base.proofs.ListLaws.{from_map, to_map, weaker}
use Rattle.pl_base.proofs.LookUps.{front, rest_of}
use Rattle.pl_load.specs.Members.{ItemIn, parent_member, parent_members}
use Rattle.pl_load.specs.Owners.{names_parent}
use Rattle.pl_load.proofs.ListParts.{all_pass}
use Rattle.pl_owned.specs.declared.owned.Member.{Member}
use Rattle.pl_rail.specs.declared.owner.Owner.TheVariants.{At, Header}
use Rattle.pl_rail.specs.declared.owner.Side.TheVariants.{Behind}
use Rattle.pl_rail.specs.Rails.{end_at, is_member}
use Rattle.pl_rail.proofs.MemberCount.{no_member}
use Rattle.pl_reading.specs.Texts.{IsHeld, page_texts, row_texts}
use Rattle.pl_record.specs.declared.rows.Item.{Item}
use Rattle.pl_record.specs.declared.rows.Place.{Place}
use Rattle.pl_record.proofs.RowKinds.{link_there}
use Rattle.pl_sheets.specs.Sheets.{Pages}
use Rattle.pl_slot.specs.declared.kind.LiveKind.TheVariants as live
use Rattle.pl_slot.specs.declared.kind.SlotKind.TheVariants as kinds
use Rattle.pl_slot.specs.declared.links.Link.TheVariants.{First}
use Rattle.pl_slot.specs.declared.links.Rail.TheVariants.{Children, Live}
use Rattle.pl_slot.specs.Arena.{is_slot, slot_count}
use Rattle.pl_slot.specs.Links.{kind_at}
use Rattle.pl_slot.proofs.SlotPlaces.{slot_bounds}

-- ---- the texts of pages and of items are among all texts

module _ (pages : Pages) where
  pub record TextsOf (p : Place) : Type 0 where
    pub url : IsHeld pages p.url
    pub title : IsHeld pages p.title

  of_pages : (ps : List Place) → AllByRecursion (IsHeld pages) (flat_map page_texts ps) → AllByRecursion TextsOf ps
  of_pages [] held = tt
  of_pages (p ∷ ps) held = (record { url = held.0; title = held.1.0 }, of_pages ps held.1.1)

  module _ (ps : List Place) (is : List Item) (held : All (IsHeld pages) (row_texts ps is)) where
    each : AllByRecursion (IsHeld pages) (row_texts ps is)
    each = recursion_from_All (IsHeld pages) (row_texts ps is) held

    both_held : AllByRecursion TextsOf ps
    both_held =
        of_pages ps (front (IsHeld pages) (flat_map page_texts ps) (map (λ (i : Item). i.title) is) each)

    pub urls_held : All (λ (p : Place). IsHeld pages p.url) ps
    urls_held =
        All-from_recursion (λ (p : Place). IsHeld pages p.url) ps
        (weaker TextsOf (λ (p : Place). IsHeld pages p.url) ps (λ p both. both.url) both_held)

    pub titles_held : All (λ (p : Place). IsHeld pages p.title) ps
    titles_held =
        All-from_recursion (λ (p : Place). IsHeld pages p.title) ps
        (weaker TextsOf (λ (p : Place). IsHeld pages p.title) ps (λ p both. both.title) both_held)

    pub item_titles_held : All (λ (i : Item). IsHeld pages i.title) is
    item_titles_held =
        All-from_recursion (λ (i : Item). IsHeld pages i.title) is
        (from_map (IsHeld pages) (λ (i : Item). i.title) is
        (rest_of (IsHeld pages) (flat_map page_texts ps) (map (λ (i : Item). i.title) is) each))

  -- ---- items own chains of children, and name slots

  pub have_children : (slots : List Slot)
      → All (λ (s : Slot). kind_at s.0 pages ≡ Some kinds.Item) slots
      → All (λ (s : Slot). IsSome (end_at Behind Children (At s) pages)) slots
  have_children slots kinds_are i d within =
      link_there Children First _ kinds.Item 28 pages (kinds_are i d within) refl

  member_low : (slot : Slot) → is_member Live (Header live.Item) pages slot ≡ true → slot.0 ≤ slot_count pages
  member_low slot member = elim (cases_Bool (is_slot slot.0 pages)) [
    | inl there ↦ (slot_bounds slot.0 pages there).1
    | inr missing ↦
        absurd (true≢false (sym member ∙ no_member Live (Header live.Item) pages slot missing))
  ]

  parent_low : (i : Item) → names_parent pages i ≡ true → i.parent.0 ≤ slot_count pages
  parent_low i named =
      elim (or_cases (i.parent.0 == 0) (is_member Live (Header live.Item) pages i.parent) named) [
        | inl zero ↦ omega (arith, eqb-true i.parent.0 0 zero)
        | inr member ↦ member_low i.parent member
      ]

  low_pairs : (slots : List Slot) (is : List Item) → AllByRecursion (λ (i : Item). i.parent.0 ≤ slot_count pages) is
      → AllByRecursion (λ (r : ItemIn). (parent_member r).owner.0 ≤ slot_count pages) (zip slots is)
  low_pairs [] is low = tt
  low_pairs (s ∷ slots) [] low = tt
  low_pairs (s ∷ slots) (i ∷ is) low = (low.0, low_pairs slots is low.1)

  pub owners_low : (slots : List Slot) (is : List Item) → list_all (names_parent pages) is ≡ true
      → All (λ (m : Member). m.owner.0 ≤ slot_count pages) (parent_members slots is)
  owners_low slots is named =
      All-from_recursion (λ (m : Member). m.owner.0 ≤ slot_count pages) (parent_members slots is)
      (to_map (λ (m : Member). m.owner.0 ≤ slot_count pages) parent_member (zip slots is)
      (low_pairs slots is
      (weaker (λ (i : Item). names_parent pages i ≡ true) (λ (i : Item). i.parent.0 ≤ slot_count pages) is parent_low
      (all_pass (names_parent pages) is named))))
