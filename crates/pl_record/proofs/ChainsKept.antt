-- Chains where slots have the links that they had, and may be the members that they were.
use Rattle.std.proofs.Common.{◌≡◌, ◌∙◌, ◌∷◌, ◌++◌, [], ℕ, List, Some, ap, inl, inr, map, refl, sym, true}
use Rattle.std.specs.List.{list_all, slice_index_or}
use Rattle.std.proofs.lemmas.Bool.{and_from, and_parts, cases_eq}
use Rattle.pl_base.specs.declared.id.Slot.{Slot}
use Rattle.pl_base.specs.declared.id.VisitId.{VisitId}
use Rattle.pl_base.specs.Rows.{Kept, KeptOrigin, page_visits}
use Rattle.pl_base.specs.Store.{Item, Visit}
use Rattle.pl_base.specs.Tree.{references}
use Rattle.pl_record.specs.Chains.{HasAlone, HasChains, HasLive, IsAlone, item_slots, page_slots, pages_in, visit_slots}
use Rattle.pl_record.specs.Records.{Layout}
use Rattle.pl_rail.specs.declared.owner.Owner.{Owner}
use Rattle.pl_rail.specs.declared.owner.Owner.TheVariants.{At, Header}
use Rattle.pl_rail.specs.declared.owner.Side.{Side}
use Rattle.pl_rail.specs.declared.owner.Side.TheVariants.{Before, Behind}
use Rattle.pl_rail.specs.Rails.{AreLinked, Lists, end_at, end_in, end_link, is_kind, is_member, member_kind, neighbour}
use Rattle.pl_rail.specs.Rails.{none, side_link}
use Rattle.pl_rail.proofs.SideLaws.{at_end, at_link}
use Rattle.pl_sheets.specs.Sheets.{Pages}
use Rattle.pl_slot.specs.declared.kind.LiveKind.{LiveKind}
use Rattle.pl_slot.specs.declared.kind.LiveKind.TheVariants as kinds
use Rattle.pl_slot.specs.declared.links.Link.{Link}
use Rattle.pl_slot.specs.declared.links.Link.TheVariants.{Next, Previous}
use Rattle.pl_slot.specs.declared.links.Rail.{Rail}
use Rattle.pl_slot.specs.declared.links.Rail.TheVariants.{Children, Live, OriginPages, PageVisits, References, Targets}
use Rattle.pl_slot.specs.Arena.{KeepsFields, header_of}
use Rattle.pl_slot.specs.Header as headers
use Rattle.pl_slot.specs.Header.{ends_of}
use Rattle.pl_slot.specs.Links.{kind_at, link_at}

-- ---- slots of the same kinds, with the same links

-- each slot that may be a member of a chain still may
abbrev pub KeepsMembers : Pages → Pages → Type 0
KeepsMembers old new =
    (rail : Rail) (owner : Owner) (slot : Slot) → is_member rail owner old slot ≡ true
    → is_member rail owner new slot ≡ true

-- each link that a slot has it still has
abbrev pub KeepsLinks : Pages → Pages → Type 0
KeepsLinks old new =
    (rail : Rail) (link : Link) (n : ℕ) (to : Slot) → link_at rail link n old ≡ Some to
    → link_at rail link n new ≡ Some to

-- the header has the ends that it had
abbrev pub KeepsEnds : Pages → Pages → Type 0
KeepsEnds old new = (kind : LiveKind) → ends_of kind (header_of new) ≡ ends_of kind (header_of old)

pub same_kinds : (old new : Pages) → ((n : ℕ) → kind_at n new ≡ kind_at n old) → KeepsMembers old new
same_kinds old new kinds rail owner slot member = ap (λ k. is_kind k (member_kind rail owner)) (kinds slot.0) ∙ member

pub same_links : (old new : Pages)
    → ((rail : Rail) (link : Link) (n : ℕ) → link_at rail link n new ≡ link_at rail link n old) → KeepsLinks old new
same_links old new links rail link n to is = links rail link n ∙ is

pub same_header : (old new : Pages) → header_of new ≡ header_of old → KeepsEnds old new
same_header old new header kind = ap (ends_of kind) header

-- the header keeps its other fields, or all but its free slots
pub fields_ends : (old new : Pages) → KeepsFields old new → KeepsEnds old new
fields_ends old new kept kinds.Origin = ap (λ (h : headers.Header). h.origins) kept
fields_ends old new kept kinds.Place = ap (λ (h : headers.Header). h.places) kept
fields_ends old new kept kinds.Visit = ap (λ (h : headers.Header). h.visits) kept
fields_ends old new kept kinds.Item = ap (λ (h : headers.Header). h.items) kept

pub freed_ends : (next : Slot) (old new : Pages) → header_of new ≡ record (header_of old) { first_free = next }
    → KeepsEnds old new
freed_ends next old new kept kinds.Origin = ap (λ (h : headers.Header). h.origins) kept
freed_ends next old new kept kinds.Place = ap (λ (h : headers.Header). h.places) kept
freed_ends next old new kept kinds.Visit = ap (λ (h : headers.Header). h.visits) kept
freed_ends next old new kept kinds.Item = ap (λ (h : headers.Header). h.items) kept

-- ---- their chains

module _ (old new : Pages) (members : KeepsMembers old new) (links : KeepsLinks old new)
    (ends : KeepsEnds old new) where
  end_kept : (side : Side) (rail : Rail) (owner : Owner) (to : Slot) → end_at side rail owner old ≡ Some to
      → end_at side rail owner new ≡ Some to
  end_kept side rail (At slot) to is = links rail (end_link side) slot.0 to is
  end_kept side Live (Header kind) to is = ap (λ e. Some (end_in side e)) (ends kind) ∙ is
  end_kept side OriginPages (Header kind) to is = is
  end_kept side PageVisits (Header kind) to is = is
  end_kept side Targets (Header kind) to is = is
  end_kept side Children (Header kind) to is = is
  end_kept side References (Header kind) to is = is

  neighbour_kept : (side : Side) (rail : Rail) (owner : Owner) (slot to : Slot)
      → neighbour side rail owner old slot ≡ Some to → neighbour side rail owner new slot ≡ Some to
  neighbour_kept side rail owner slot to is = elim (cases_eq slot.0 0) [
    | inl zero ↦
        at_end side rail owner new slot zero
        ∙ end_kept side rail owner to (sym (at_end side rail owner old slot zero) ∙ is)
    | inr some ↦
        at_link side rail owner new slot some
        ∙ links rail (side_link side) slot.0 to (sym (at_link side rail owner old slot some) ∙ is)
  ]

  linked_kept : (rail : Rail) (owner : Owner) (slot : Slot) (slots : List Slot)
      → AreLinked (neighbour Behind rail owner old) (neighbour Before rail owner old) slot slots
      → AreLinked (neighbour Behind rail owner new) (neighbour Before rail owner new) slot slots
  linked_kept rail owner slot [] linked = tt
  linked_kept rail owner slot (next ∷ slots) linked = (
    neighbour_kept Behind rail owner slot next linked.0,
    neighbour_kept Before rail owner next slot linked.1,
    linked_kept rail owner next slots linked.2,
  )

  members_kept : (rail : Rail) (owner : Owner) (slots : List Slot) → list_all (is_member rail owner old) slots ≡ true
      → list_all (is_member rail owner new) slots ≡ true
  members_kept rail owner [] all = refl
  members_kept rail owner (slot ∷ slots) all =
      let parts = and_parts (is_member rail owner old slot) (list_all (is_member rail owner old) slots) all in
      and_from (is_member rail owner new slot) (list_all (is_member rail owner new) slots)
      (members rail owner slot parts.0) (members_kept rail owner slots parts.1)

  pub list_kept : (rail : Rail) (owner : Owner) (slots : List Slot) → Lists rail owner slots old
      → Lists rail owner slots new
  list_kept rail owner slots lists =
      record {
        members = members_kept rail owner slots lists.members;
        linked = linked_kept rail owner none (slots ++ none ∷ []) lists.linked;
      }

  pub alone_kept : (rail : Rail) (slot : Slot) → IsAlone rail slot old → IsAlone rail slot new
  alone_kept rail slot alone =
      record {
        before = links rail Previous slot.0 none alone.before;
        behind = links rail Next slot.0 none alone.behind;
      }

  module _ (at : Layout) (kept : Kept) (targets : VisitId → List Visit) where
    pub live_kept : HasLive at kept old → HasLive at kept new
    live_kept live =
        record {
          origins =
              list_kept Live (Header kinds.Origin) (map (λ (o : KeptOrigin). o.origin) kept.origins) live.origins;
          places = list_kept Live (Header kinds.Place) (page_slots at kept.pages) live.places;
          visits = list_kept Live (Header kinds.Visit) (visit_slots at kept.visits) live.visits;
          items =
              list_kept Live (Header kinds.Item) (item_slots at (map (λ (i : Item). i.id) kept.items)) live.items;
        }

    pub chains_kept : HasChains at kept targets old → HasChains at kept targets new
    chains_kept chains =
        record {
          origins = λ k d within.
              list_kept OriginPages (At (slice_index_or kept.origins k d).origin)
              (page_slots at (pages_in kept (slice_index_or kept.origins k d).origin)) (chains.origins k d within);
          visits = λ k d within.
              list_kept PageVisits (At (at.page (slice_index_or kept.pages k d).page.id))
              (visit_slots at (page_visits kept (slice_index_or kept.pages k d).page.id)) (chains.visits k d within);
          references = λ k d within.
              list_kept References (At (at.page (slice_index_or kept.pages k d).page.id))
              (item_slots at (references kept.items (slice_index_or kept.pages k d).page.id))
              (chains.references k d within);
          targeted = λ k d within.
              list_kept Targets (At (at.visit (slice_index_or kept.visits k d).id))
              (visit_slots at (targets (slice_index_or kept.visits k d).id)) (chains.targeted k d within);
          children = λ k d within.
              list_kept Children (At (at.item (slice_index_or kept.items k d).id))
              (item_slots at (slice_index_or kept.items k d).children) (chains.children k d within);
        }

    pub alone_all_kept : HasAlone at kept old → HasAlone at kept new
    alone_all_kept alone =
        record {
          visits = λ k d within none.
              alone_kept Targets (at.visit (slice_index_or kept.visits k d).id) (alone.visits k d within none);
          roots = λ k d within none.
              alone_kept Children (at.item (slice_index_or kept.items k d).id) (alone.roots k d within none);
          others = λ k d within none.
              alone_kept References (at.item (slice_index_or kept.items k d).id) (alone.others k d within none);
        }
