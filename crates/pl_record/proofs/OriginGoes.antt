-- What the slots of a store hold, and how they are chained, without an origin.
use Rattle.std.proofs.Common.{◌≡◌, ◌∙◌, ◌∷◌, ◌==◌, ◌+◌, ◌++◌, ◌≤◌, [], ℕ, List, None, Some, ap, arith, eq-eqb}
use Rattle.std.proofs.Common.{eqb, eqb-true, false, filter, find, if◌then◌else◌, map, not, refl, subst, sym, true}
use Rattle.std.proofs.lemmas.Bool.{or_parts}
use Rattle.std.proofs.lemmas.List.{map-append}
use Rattle.std.proofs.lemmas.List.Elements.{All-filter}
use Rattle.pl_base.specs.declared.id.Slot.{Slot}
use Rattle.pl_base.specs.declared.id.VisitId.{VisitId}
use Rattle.pl_base.specs.Rows.{Kept, KeptOrigin, has_origin, with_origins}
use Rattle.pl_base.specs.Store.{Visit}
use Rattle.pl_base.proofs.KeyCounts.{count, count-append, count-cons, tick}
use Rattle.pl_base.proofs.LookUps.{found_passes}
use Rattle.pl_record.specs.ChainMap.{with_chain}
use Rattle.pl_record.specs.Chains.{page_slots, pages_in}
use Rattle.pl_record.proofs.NamedSlots.{found_of}
use Rattle.pl_record.specs.Records.{HoldsRow, HoldsRows, HoldsTexts, Layout, origin_record}
use Rattle.pl_record.specs.Rows.{record_at}
use Rattle.pl_record.specs.SlotChanges.{RemovesOrigin}
use Rattle.pl_record.proofs.Filled.{IsFilled}
use Rattle.pl_record.proofs.LaidSlots.{among_holds}
use Rattle.pl_record.proofs.RowsBeside.{alone_beside, kinds_times, once_fewer, rows_beside, same_left, texts_beside}
use Rattle.pl_record.proofs.SlotCounts.{few_once, slot_times, times}
use Rattle.pl_record.proofs.Splits.{Only, only_slot}
use Rattle.pl_rail.specs.declared.owner.Owner.TheVariants.{At, Header}
use Rattle.pl_rail.specs.Rails.{HasMember, Lists}
use Rattle.pl_sheets.specs.Sheets.{Pages}
use Rattle.pl_slot.specs.declared.kind.LiveKind.TheVariants as kinds
use Rattle.pl_slot.specs.declared.links.Rail.TheVariants.{Live, OriginPages}
use Rattle.pl_slot.specs.Arena.{is_among}

-- the origins but the one with this name
abbrev pub other_origins : Slot → List KeptOrigin → List KeptOrigin
other_origins origin origins = filter (λ (o : KeptOrigin). not (o.origin.0 == origin.0)) origins

module _ (at : Layout) (kept : Kept) (targets : VisitId → List Visit) (slot : Slot) (old : Pages)
    (there : has_origin kept slot ≡ true) (filled : IsFilled at kept targets old) where
  abbrev now : Kept
  now = with_origins (other_origins slot kept.origins) kept

  found : (o : KeptOrigin) × (find (λ (a : KeptOrigin). a.origin.0 == slot.0) kept.origins ≡ Some o)
  found = found_of (λ (a : KeptOrigin). a.origin.0 == slot.0) kept.origins there

  here : found.0.origin ≡ slot
  here =
      ap (λ (n : ℕ). record { 0 = n })
      (eqb-true found.0.origin.0 slot.0
      (found_passes (λ (a : KeptOrigin). a.origin.0 == slot.0) kept.origins found.0 found.1))

  parts : Only (λ (a : KeptOrigin). a.origin.0 == slot.0) kept.origins found.0
  parts =
      only_slot (λ (a : KeptOrigin). a.origin.0) (λ (a : KeptOrigin). a.origin.0) slot.0 kept.origins found.0
      (λ n. omega (arith, kinds_times at kept n, few_once at kept old filled.slots n)) (λ a b same. same) found.1

  abbrev slots_of : List KeptOrigin → List Slot
  slots_of origins = map (λ (o : KeptOrigin). o.origin) origins

  in_chain : filled.chains Live (Header kinds.Origin) ≡ slots_of parts.front ++ slot ∷ slots_of parts.back
  in_chain =
      filled.named.live_origins ∙ ap slots_of parts.whole
      ∙ map-append (λ (o : KeptOrigin). o.origin) parts.front (found.0 ∷ parts.back)
      ∙ ap (λ s. slots_of parts.front ++ s ∷ slots_of parts.back) here

  pub of_header : HasMember Live (Header kinds.Origin) slot old
  of_header =
      record {
        front = slots_of parts.front;
        back = slots_of parts.back;
        lists =
            subst (λ slots. Lists Live (Header kinds.Origin) slots old) in_chain
            (filled.are.lists Live (Header kinds.Origin) refl);
      }

  fewer : (n : ℕ) → slot_times at now n + times n (slot.0 ∷ []) ≡ slot_times at kept n
  fewer n =
      omega (
        arith,
        kinds_times at kept n,
        kinds_times at now n,
        ap (count (λ (o : KeptOrigin). o.origin.0) n) parts.whole,
        ap (count (λ (o : KeptOrigin). o.origin.0) n) parts.others,
        count-append (λ (o : KeptOrigin). o.origin.0) n parts.front (found.0 ∷ parts.back),
        count-append (λ (o : KeptOrigin). o.origin.0) n parts.front parts.back,
        count-cons (λ (o : KeptOrigin). o.origin.0) n found.0 parts.back,
        ap (λ (s : Slot). tick (eqb s.0 n)) here,
        count-cons (λ (m : ℕ). m) n slot.0 [],
      )

  module _ (new : Pages) (goes : RemovesOrigin slot old new) where
    gone : (n : ℕ) → is_among n (slot.0 ∷ []) ≡ true → record_at n new ≡ None
    gone n among =
        among_holds (λ m. record_at m new ≡ None) n (slot.0 ∷ []) (
          goes.records slot.0
              ∙ ap (λ b. if b then None else record_at slot.0 old) (eq-eqb slot.0 slot.0 refl),
          tt,
        )
        among

    others : (n : ℕ) → is_among n (slot.0 ∷ []) ≡ false → record_at n new ≡ record_at n old
    others n apart =
        goes.records n ∙ ap (λ b. if b then None else record_at n old) (or_parts (n == slot.0) false apart).0

    still : (n : ℕ) → 1 ≤ slot_times at now n → record_at n new ≡ record_at n old
    still = same_left at kept now (slot.0 ∷ []) old new filled.slots gone others fewer

    rows : HoldsRows at now new
    rows =
        rows_beside at now old new still
        (record {
          origins =
              All-filter (λ (o : KeptOrigin). not (o.origin.0 == slot.0))
              (λ (o : KeptOrigin). HoldsRow (origin_record o) old)
              kept.origins filled.rows.origins;
          places = filled.rows.places;
          visits = filled.rows.visits;
          items = filled.rows.items;
        })

    texts : HoldsTexts at now new
    texts =
        texts_beside at now old new still
        (record {
          urls = filled.texts.urls;
          titles = filled.texts.titles;
          item_titles = filled.texts.item_titles;
        })

    pub origin_goes : IsFilled at (with_origins (other_origins slot kept.origins) kept) targets new
    origin_goes =
        let alone = alone_beside at kept old new goes.alone filled.alone in
        record {
          chains =
              with_chain Live (Header kinds.Origin) (slots_of parts.front ++ slots_of parts.back) filled.chains;
          are = goes.chains filled.chains (slots_of parts.front) (slots_of parts.back) filled.are in_chain;
          named = record {
            live_origins =
                sym (ap slots_of parts.others ∙ map-append (λ (o : KeptOrigin). o.origin) parts.front parts.back);
            live_places = filled.named.live_places;
            live_visits = filled.named.live_visits;
            live_items = filled.named.live_items;
            origins =
                All-filter (λ (o : KeptOrigin). not (o.origin.0 == slot.0))
                (λ (o : KeptOrigin). filled.chains OriginPages (At o.origin) ≡ page_slots at (pages_in kept o.origin))
                kept.origins filled.named.origins;
            visits = filled.named.visits;
            references = filled.named.references;
            targeted = filled.named.targeted;
            children = filled.named.children;
          };
          apart = filled.apart;
          rows = rows;
          texts = texts;
          slots = once_fewer at kept now (slot.0 ∷ []) old new filled.slots gone others fewer;
          alone = record { visits = alone.visits; roots = alone.roots; others = alone.others };
        }
