-- Chains and slots of rows whose pages are others, with the ids and origins that they had.
use Rattle.std.proofs.Common.{◌≡◌, ◌∙◌, ◌∷◌, ◌++◌, ◌==◌, [], ℕ, Bool, List, ap, eqb, false, filter, if◌then◌else◌, map}
use Rattle.std.proofs.Common.{refl}
use Rattle.std.proofs.Common.{subst, sym, true}
use Rattle.std.specs.List.{IsDistinct, flat_map, slice_index_or}
use Rattle.std.proofs.lemmas.List.Elements.{All-map}
use Rattle.pl_base.specs.declared.id.Slot.{Slot}
use Rattle.pl_base.specs.declared.id.VisitId.{VisitId}
use Rattle.pl_base.specs.Rows.{Kept, KeptOrigin, KeptPage, page_visits}
use Rattle.pl_base.specs.Store.{Item, Visit}
use Rattle.pl_base.specs.Tree.{references}
use Rattle.pl_record.specs.Chains.{HasAlone, HasChains, HasLive, item_slots, page_slots, visit_slots}
use Rattle.pl_record.specs.LinkedRows.{AreIndexed, Entries}
use Rattle.pl_record.specs.Records.{HoldsOnce, Layout, row_slots, text_slots}
use Rattle.pl_rail.specs.declared.owner.Owner.TheVariants.{At, Header}
use Rattle.pl_rail.specs.Rails.{Lists}
use Rattle.pl_sheets.specs.Sheets.{Pages}
use Rattle.pl_slot.specs.Arena.{is_among}
use Rattle.pl_slot.specs.declared.kind.LiveKind.TheVariants as kinds
use Rattle.pl_slot.specs.declared.links.Rail.TheVariants.{Live, OriginPages, PageVisits, References}

-- the rows with these pages
abbrev pub with_pages : List KeptPage → Kept → Kept
with_pages pages kept = record kept { pages = pages }

module _ (f : KeptPage → KeptPage) (ids : (p : KeptPage) → (f p).page.id ≡ p.page.id)
    (origins : (p : KeptPage) → (f p).origin ≡ p.origin) where
  pub slots_same : (at : Layout) (ps : List KeptPage) → page_slots at (map f ps) ≡ page_slots at ps
  slots_same at [] = refl
  slots_same at (p ∷ ps) = λ i. at.page (ids p i) ∷ slots_same at ps i

  in_same : (at : Layout) (origin : Slot) (ps : List KeptPage)
      → page_slots at (filter (λ (p : KeptPage). p.origin.0 == origin.0) (map f ps))
      ≡ page_slots at (filter (λ (p : KeptPage). p.origin.0 == origin.0) ps)
  in_same at origin [] = refl
  in_same at origin (p ∷ ps) =
      ap (λ (b : Bool). page_slots at
      (if b then f p ∷ filter (λ (q : KeptPage). q.origin.0 == origin.0) (map f ps)
      else filter (λ (q : KeptPage). q.origin.0 == origin.0) (map f ps)))
      (ap (λ (s : Slot). s.0 == origin.0) (origins p))
      ∙ choose (p.origin.0 == origin.0) (in_same at origin ps)
    where
      choose : (b : Bool)
          → page_slots at (filter (λ (q : KeptPage). q.origin.0 == origin.0) (map f ps))
          ≡ page_slots at (filter (λ (q : KeptPage). q.origin.0 == origin.0) ps)
          → page_slots at
          (if b then f p ∷ filter (λ (q : KeptPage). q.origin.0 == origin.0) (map f ps)
          else filter (λ (q : KeptPage). q.origin.0 == origin.0) (map f ps))
          ≡ page_slots at
          (if b then p ∷ filter (λ (q : KeptPage). q.origin.0 == origin.0) ps
          else filter (λ (q : KeptPage). q.origin.0 == origin.0) ps)
      choose true rest = λ i. at.page (ids p i) ∷ rest i
      choose false rest = rest

  texts_same : (at : Layout) (ps : List KeptPage)
      → flat_map (λ (p : KeptPage). at.url p.page.id ++ at.title p.page.id) (map f ps)
      ≡ flat_map (λ (p : KeptPage). at.url p.page.id ++ at.title p.page.id) ps
  texts_same at [] = refl
  texts_same at (p ∷ ps) = λ i. (at.url (ids p i) ++ at.title (ids p i)) ++ texts_same at ps i

  pub numbers_same : (at : Layout) (ps : List KeptPage)
      → map (λ (p : KeptPage). (at.page p.page.id).0) (map f ps) ≡ map (λ (p : KeptPage). (at.page p.page.id).0) ps
  numbers_same at [] = refl
  numbers_same at (p ∷ ps) = λ i. (at.page (ids p i)).0 ∷ numbers_same at ps i

  pub entries_mapped : (at : Layout) (kept : Kept) (ps vs is : Entries) → AreIndexed at kept ps vs is
      → AreIndexed at (with_pages (map f kept.pages) kept) ps vs is
  entries_mapped at kept ps vs is indexed =
      record { pages = indexed.pages ∙ sym (same kept.pages); visits = indexed.visits; items = indexed.items }
    where
      same : (qs : List KeptPage)
          → map {B = ℕ × Slot} (λ (p : KeptPage). (p.page.id.0, at.page p.page.id)) (map f qs)
          ≡ map {B = ℕ × Slot} (λ (p : KeptPage). (p.page.id.0, at.page p.page.id)) qs
      same [] = refl
      same (q ∷ qs) = λ i. ((ids q i).0, at.page (ids q i)) ∷ same qs i

  module _ (at : Layout) (kept : Kept) (pages : Pages) where
    pub live_mapped : HasLive at kept pages → HasLive at (with_pages (map f kept.pages) kept) pages
    live_mapped live =
        record {
          origins = live.origins;
          places =
              subst (λ slots. Lists Live (Header kinds.Place) slots pages) (sym (slots_same at kept.pages)) live.places;
          visits = live.visits;
          items = live.items;
        }

    pub chains_mapped : (targets : VisitId → List Visit) → HasChains at kept targets pages
        → HasChains at (with_pages (map f kept.pages) kept) targets pages
    chains_mapped targets chains =
        record {
          origins = λ k d within.
              subst (λ slots. Lists OriginPages (At (slice_index_or kept.origins k d).origin) slots pages)
              (sym (in_same at (slice_index_or kept.origins k d).origin kept.pages)) (chains.origins k d within);
          visits =
              All-map (λ (p : KeptPage). Lists PageVisits (At (at.page p.page.id))
              (visit_slots at (page_visits kept p.page.id)) pages) f kept.pages
              (λ k d within.
              subst (λ id. Lists PageVisits (At (at.page id)) (visit_slots at (page_visits kept id)) pages)
              (sym (ids (slice_index_or kept.pages k d))) (chains.visits k d within));
          references =
              All-map (λ (p : KeptPage). Lists References (At (at.page p.page.id))
              (item_slots at (references kept.items p.page.id)) pages) f kept.pages
              (λ k d within.
              subst (λ id. Lists References (At (at.page id)) (item_slots at (references kept.items id)) pages)
              (sym (ids (slice_index_or kept.pages k d))) (chains.references k d within));
          targeted = chains.targeted;
          children = chains.children;
        }

    pub alone_mapped : HasAlone at kept pages → HasAlone at (with_pages (map f kept.pages) kept) pages
    alone_mapped alone = record { visits = alone.visits; roots = alone.roots; others = alone.others }

    pub once_mapped : HoldsOnce at kept pages → HoldsOnce at (with_pages (map f kept.pages) kept) pages
    once_mapped once =
        record {
          once = subst (λ slots. IsDistinct eqb slots) (sym all_same) once.once;
          whole = λ n live. subst (λ slots. is_among n slots ≡ true) (sym all_same) (once.whole n live);
        }
      where
        all_same : row_slots at (with_pages (map f kept.pages) kept) ++ text_slots at
            (with_pages (map f kept.pages) kept)
            ≡ row_slots at kept ++ text_slots at kept
        all_same =
            λ i.
            (map (λ (o : KeptOrigin). o.origin.0) kept.origins
            ++ numbers_same at kept.pages i
            ++ map (λ (v : Visit). (at.visit v.id).0) kept.visits
            ++ map (λ (j : Item). (at.item j.id).0) kept.items)
            ++ (texts_same at kept.pages i ++ flat_map (λ (j : Item). at.item_title j.id) kept.items)
