-- What the slots of a store hold, and how they are chained, with an origin more, which has no page
-- yet.
use Rattle.std.proofs.Common.{◌≡◌, ◌∙◌, ◌∷◌, ◌==◌, ◌+◌, ◌++◌, ◌≤◌, [], ℕ, List, Some, ap, arith, eq-eqb, eqb-true}
use Rattle.std.proofs.Common.{false, if◌then◌else◌, refl, sym, true}
use Rattle.std.specs.List.{IsDistinct}
use Rattle.std.proofs.lemmas.Bool.{or_parts, true≢false}
use Rattle.std.proofs.lemmas.List.{map-append}
use Rattle.std.proofs.lemmas.List.Elements.{All-push}
use Rattle.pl_base.specs.declared.id.Slot.{Slot}
use Rattle.pl_base.specs.declared.id.VisitId.{VisitId}
use Rattle.pl_base.specs.Rows.{IsWellKept, Kept, KeptOrigin, KeptPage, with_origin}
use Rattle.pl_base.specs.Store.{Visit}
use Rattle.pl_base.proofs.KeyCounts.{count-append, count-cons}
use Rattle.pl_base.proofs.ListLaws.{weaker}
use Rattle.pl_base.proofs.LookUps.{none_kept}
use Rattle.pl_base.proofs.Truths.{no_test}
use Rattle.pl_record.specs.Chains.{page_slots, pages_in}
use Rattle.pl_record.specs.Records.{HoldsRow, HoldsRows, Layout, origin_record}
use Rattle.pl_record.specs.Rows.{origin_row, record_at}
use Rattle.pl_record.specs.SlotChanges.{InsertsOrigin, with_origin_slot}
use Rattle.pl_record.proofs.ChainMaps.{fresh_linkless, linkless_empty}
use Rattle.pl_record.proofs.Filled.{IsFilled}
use Rattle.pl_record.proofs.LaidChains.{NamesChains}
use Rattle.pl_record.proofs.LaidSlots.{among_holds, kind_live, named_kinds}
use Rattle.pl_record.proofs.RecordMaps.{record_held}
use Rattle.pl_record.proofs.RowsBeside.{alone_beside, kinds_times, once_more, rows_beside, same_before, texts_beside}
use Rattle.pl_record.proofs.SlotCounts.{few_times, slot_times, times}
use Rattle.pl_rail.specs.declared.owner.Owner.TheVariants.{At}
use Rattle.pl_sheets.specs.Sheets.{Pages}
use Rattle.pl_slot.specs.declared.kind.SlotKind.TheVariants as kinds
use Rattle.pl_slot.specs.declared.links.Rail.TheVariants.{OriginPages}
use Rattle.pl_slot.specs.Arena.{is_among, is_live}
use Rattle.pl_slot.specs.Links.{kind_at}

module _ (at : Layout) (kept : Kept) (targets : VisitId → List Visit) (slot : Slot) (old new : Pages)
    (well : IsWellKept kept) (filled : IsFilled at kept targets old) (comes : InsertsOrigin slot old new) where
  abbrev now : Kept
  now = with_origin slot kept

  fresh : (n : ℕ) → is_among n (slot.0 ∷ []) ≡ true → is_live n old ≡ false
  fresh n among = among_holds (λ m. is_live m old ≡ false) n (slot.0 ∷ []) (comes.fresh, tt) among

  others : (n : ℕ) → is_among n (slot.0 ∷ []) ≡ false → record_at n new ≡ record_at n old
  others n apart =
      comes.records n
      ∙ ap (λ b. if b then Some (origin_row 0) else record_at n old) (or_parts (n == slot.0) false apart).0

  still : (n : ℕ) → 1 ≤ slot_times at kept n → record_at n new ≡ record_at n old
  still = same_before at kept (slot.0 ∷ []) old new filled.rows filled.texts fresh others

  pub no_pages : pages_in kept slot ≡ []
  no_pages =
      none_kept (λ (p : KeptPage). p.origin.0 == slot.0) kept.pages
      (weaker (λ (p : KeptPage). kind_at p.origin.0 old ≡ Some kinds.Origin)
      (λ (p : KeptPage). (p.origin.0 == slot.0) ≡ false) kept.pages
      (λ p kind.
      no_test (p.origin.0 == slot.0) (λ same.
      true≢false (sym (kind_live p.origin.0 kinds.Origin old kind (λ free. absurd (cc)))
      ∙ ap (λ n. is_live n old) (eqb-true p.origin.0 slot.0 same) ∙ comes.fresh)))
      (named_kinds at kept old filled.rows well))

  named : NamesChains at now targets (with_origin_slot slot filled.chains)
  named =
      record {
        live_origins =
            ap (λ slots. slots ++ slot ∷ []) filled.named.live_origins
            ∙ sym (map-append (λ (o : KeptOrigin). o.origin) kept.origins (record { origin = slot; total = 0 } ∷ []));
        live_places = filled.named.live_places;
        live_visits = filled.named.live_visits;
        live_items = filled.named.live_items;
        origins =
            All-push (λ (o : KeptOrigin). filled.chains OriginPages (At o.origin)
            ≡ page_slots at (pages_in kept o.origin)) kept.origins (record { origin = slot; total = 0 })
            filled.named.origins
            (linkless_empty filled.chains old filled.are OriginPages slot (fresh_linkless slot.0 old comes.fresh)
            ∙ sym (ap (page_slots at) no_pages));
        visits = filled.named.visits;
        references = filled.named.references;
        targeted = filled.named.targeted;
        children = filled.named.children;
      }

  rows : HoldsRows at now new
  rows =
      let before : HoldsRows at kept new = rows_beside at kept old new still filled.rows in
      let here : record_at slot.0 new ≡ Some (origin_row 0) =
      comes.records slot.0
      ∙ ap (λ b. if b then Some (origin_row 0) else record_at slot.0 old) (eq-eqb slot.0 slot.0 refl) in
      record {
        origins =
            All-push (λ (o : KeptOrigin). HoldsRow (origin_record o) new) kept.origins
            (record { origin = slot; total = 0 }) before.origins
            (record_held (origin_record (record { origin = slot; total = 0 })) new here);
        places = before.places;
        visits = before.visits;
        items = before.items;
      }

  more : (n : ℕ) → slot_times at now n ≡ slot_times at kept n + times n (slot.0 ∷ [])
  more n =
      omega (
        arith,
        kinds_times at kept n,
        kinds_times at now n,
        count-append (λ (o : KeptOrigin). o.origin.0) n kept.origins (record { origin = slot; total = 0 } ∷ []),
        count-cons (λ (o : KeptOrigin). o.origin.0) n (record { origin = slot; total = 0 }) [],
        count-cons (λ (m : ℕ). m) n slot.0 [],
      )

  pub origin_comes : IsFilled at (with_origin slot kept) targets new
  unfolding IsDistinct
  origin_comes =
      let texts = texts_beside at kept old new still filled.texts in
      let alone = alone_beside at kept old new comes.alone filled.alone in
      record {
        chains = with_origin_slot slot filled.chains;
        are = comes.chains filled.chains filled.are;
        named = named;
        apart = filled.apart;
        rows = rows;
        texts = record { urls = texts.urls; titles = texts.titles; item_titles = texts.item_titles };
        slots =
            once_more at kept (slot.0 ∷ []) old new filled.rows filled.texts fresh others at now filled.slots
            (few_times (slot.0 ∷ []) (tt, tt)) more;
        alone = record { visits = alone.visits; roots = alone.roots; others = alone.others };
      }
