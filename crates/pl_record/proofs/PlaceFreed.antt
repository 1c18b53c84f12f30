-- The slots of a page that goes: its own, and those of its texts.
use Rattle.std.proofs.Common.{◌≡◌, ◌≢◌, ◌∙◌, ◌==◌, ◌≤◌, ◌∷◌, ◌++◌, [], ℕ, List, None, Option, Some, ap, arith}
use Rattle.std.proofs.Common.{cond, eq-eqb, eqb-true, false, inl, inr, is_some, not, refl, subst, sym, true}
use Rattle.std.specs.Option.{option_map}
use Rattle.std.proofs.lemmas.Bool.{and_parts, cases_Bool, not-true, or_cases, or_parts, true≢false}
use Rattle.std.proofs.lemmas.List.Folds.{list_any-append}
use Rattle.pl_base.specs.declared.id.Slot.{Slot}
use Rattle.pl_base.proofs.Truths.{is_none_at, no_test}
use Rattle.pl_record.specs.ChainMap.{AreApart, AreChains, ChainMap, IsLoose, with_chain}
use Rattle.pl_record.specs.declared.rows.Place.{Place}
use Rattle.pl_record.specs.Records.{unlinked}
use Rattle.pl_record.specs.Rows.{place_row, record_at, row_in}
use Rattle.pl_record.specs.SlotChanges.{FreesPlace, HoldsBare, RemovesPlace, without_page_slot}
use Rattle.pl_record.proofs.Bases.{both_only}
use Rattle.pl_record.proofs.ChainMaps.{live_apart, loose_beside, one_chain}
use Rattle.pl_record.proofs.ChainMaps.{unlinked_chains, unlinked_loose}
use Rattle.pl_record.proofs.ChainMapsKept.{only_one}
use Rattle.pl_record.proofs.ChainMapsKept.{alone_beside, alone_rail, freed_chains}
use Rattle.pl_record.proofs.LaidSlots.{among_either}
use Rattle.pl_record.proofs.PagesTold.{kind_told}
use Rattle.pl_record.proofs.RecordMaps.{beside_records, given_records, part_record, rail_records, record_held}
use Rattle.pl_record.proofs.RecordMaps.{record_part}
use Rattle.pl_record.proofs.RowSets.{texts_by_parts}
use Rattle.pl_record.proofs.SlotsBeside.{held_idle}
use Rattle.pl_record.proofs.SlotSteps.{Detaches, sideless_alone, body_then, fields_body, given_beside, given_body}
use Rattle.pl_record.proofs.SlotSteps.{given_chain, link_missing, place_ends, place_sides}
use Rattle.pl_record.proofs.SlotSteps.{rail_body, row_by_kind, sideless_loose}
use Rattle.pl_rail.specs.declared.owner.Owner.TheVariants.{At, Header}
use Rattle.pl_rail.specs.Rails.{HasMember, Lists, first_of, last_of, or_none, page_by}
use Rattle.pl_sheets.specs.Sheets.{Pages, page_count}
use Rattle.pl_slot.specs.declared.kind.LiveKind.TheVariants as live
use Rattle.pl_slot.specs.declared.kind.SlotKind.TheVariants as kinds
use Rattle.pl_slot.specs.declared.links.Link.TheVariants.{First, Previous}
use Rattle.pl_slot.specs.declared.links.Rail.{Rail}
use Rattle.pl_slot.specs.declared.links.Rail.TheVariants.{Live, OriginPages, PageVisits, References}
use Rattle.pl_slot.specs.declared.row.SlotRow.{SlotRow}
use Rattle.pl_slot.specs.declared.row.SlotRow.TheVariants as rows
use Rattle.pl_slot.specs.Arena.{ChangesOnly, is_among, is_free, is_live, live_at, row_at}
use Rattle.pl_slot.specs.Links.{is_rail, kind_at}
use Rattle.pl_slot.specs.Slot.{slot_kind}
use Rattle.pl_slot.proofs.LinkPlaces.{same_rail}
use Rattle.pl_text.specs.Chunks.{FreesSlots, Hold, HoldsPart, chunk_row, pages_of}
use Rattle.pl_text.proofs.Freeing.{GivenBack}
use Rattle.pl_text.proofs.HeldTexts.{held_kept}
use Rattle.pl_text.proofs.Storing.{fields_freed}

place_live : kinds.Place ≢ kinds.Free
place_live same = absurd (cc)

rails_apart : Live ≢ OriginPages
rails_apart same = absurd (cc)

visits_apart : (rail : Rail) → is_rail PageVisits rail ≡ false → PageVisits ≢ rail
visits_apart rail other same = true≢false (ap (is_rail PageVisits) same ∙ other)

items_apart : (rail : Rail) → is_rail References rail ≡ false → References ≢ rail
items_apart rail other same = true≢false (ap (is_rail References) same ∙ other)

-- a free slot has no record
pub free_gone : (n : ℕ) (pages : Pages) → is_free n pages ≡ true → record_at n pages ≡ None
free_gone n pages free =
    ap (option_map unlinked)
    (is_none_at (live_at n pages)
    (not-true (is_live n pages) (and_parts (is_some (row_at n pages)) (not (is_live n pages)) free).1))

-- ---- the slot of a page that goes

module _ (origin slot : Slot) (old out bare : Pages) (leaves : Detaches OriginPages (At origin) slot old out)
    (goes : Detaches Live (Header live.Place) slot out bare) (place : kind_at slot.0 old ≡ Some kinds.Place) where
  pub bare_kind : kind_at slot.0 bare ≡ Some kinds.Place
  bare_kind = goes.rest.kinds slot.0 ∙ leaves.rest.kinds slot.0 ∙ place

module _ (origin slot : Slot) (old out bare new : Pages) (leaves : Detaches OriginPages (At origin) slot old out)
    (goes : Detaches Live (Header live.Place) slot out bare) (place : kind_at slot.0 old ≡ Some kinds.Place)
    (given : GivenBack slot bare new) (no_visit : Lists PageVisits (At slot) [] old)
    (no_item : Lists References (At slot) [] old) where
  it_is : kind_at slot.0 bare ≡ Some kinds.Place
  it_is = bare_kind origin slot old out bare leaves goes place

  module _ (chains : ChainMap) (front back before behind : List Slot) (are : AreChains chains old)
      (apart : AreApart OriginPages chains) (in_origin : chains OriginPages (At origin) ≡ front ++ slot ∷ back)
      (in_header : chains Live (Header live.Place) ≡ before ++ slot ∷ behind) where
    abbrev without : ChainMap
    without = with_chain OriginPages (At origin) (front ++ back) chains

    abbrev without_both : ChainMap
    without_both = without_page_slot origin (front ++ back) (before ++ behind) chains

    out_chains : AreChains without out
    out_chains =
        unlinked_chains OriginPages (At origin) slot front back chains apart in_origin old out are leaves.list
        leaves.owners leaves.others leaves.rest

    bare_chains : AreChains without_both bare
    bare_chains =
        unlinked_chains Live (Header live.Place) slot before behind without (live_apart without out out_chains)
        in_header out bare out_chains goes.list goes.owners goes.others goes.rest

    in_none : (r : Rail) → IsLoose r slot without_both
    in_none r = elim (cases_Bool (is_rail r Live)) [
      | inl same ↦
          subst (λ k. IsLoose k slot without_both) (sym (same_rail r Live same))
          (unlinked_loose Live (Header live.Place) slot before behind without (live_apart without out out_chains)
          in_header out out_chains)
      | inr other ↦ elim (cases_Bool (is_rail r OriginPages)) [
        | inl same ↦
            subst (λ k. IsLoose k slot without_both) (sym (same_rail r OriginPages same))
            (loose_beside Live (Header live.Place) (before ++ behind) without OriginPages slot refl
            (unlinked_loose OriginPages (At origin) slot front back chains apart in_origin old are))
        | inr also ↦ sideless_loose without_both bare bare_chains r slot kinds.Place it_is (place_sides r other also)
      ]
    ]

    -- the lists of visits and items that the page owns are empty
    still_empty : (r : Rail) → r ≢ Live → r ≢ OriginPages → Lists r (At slot) [] old
        → without_both r (At slot) ≡ []
    still_empty r other also empty =
        sym (one_chain without_both bare bare_chains r (At slot) []
        (goes.others r (At slot) [] other (leaves.others r (At slot) [] also empty)))

    none_left : (r : Rail) → without_both r (At slot) ≡ []
    none_left r = elim (cases_Bool (is_rail r PageVisits)) [
      | inl same ↦
          subst (λ k. without_both k (At slot) ≡ []) (sym (same_rail r PageVisits same))
          (still_empty PageVisits (visits_apart Live refl) (visits_apart OriginPages refl) no_visit)
      | inr other ↦ elim (cases_Bool (is_rail r References)) [
        | inl same ↦
            subst (λ k. without_both k (At slot) ≡ []) (sym (same_rail r References same))
            (still_empty References (items_apart Live refl) (items_apart OriginPages refl) no_item)
        | inr also ↦
            bare_chains.none r (At slot)
            (link_missing r First slot.0 kinds.Place bare it_is (place_ends r other also))
      ]
    ]

    chains_left : AreChains without_both new
    chains_left = given_chain slot bare new given without_both bare_chains in_none none_left

  module _ (of_origin : HasMember OriginPages (At origin) slot old)
      (of_header : HasMember Live (Header live.Place) slot old) (as_many : page_count new ≡ page_count bare) where
    abbrev around_origin : List ℕ
    around_origin =
        page_by (At origin) (or_none (last_of of_origin.front)) ∷ page_by (At origin) slot
        ∷ page_by (At origin) (or_none (first_of of_origin.back)) ∷ []

    abbrev around_header : List ℕ
    around_header =
        page_by (Header live.Place) (or_none (last_of of_header.front)) ∷ page_by (Header live.Place) slot
        ∷ page_by (Header live.Place) (or_none (first_of of_header.back)) ∷ []

    last_pages : ChangesOnly (around_header ++ pages_of (slot.0 ∷ [])) out new
    last_pages =
        both_only around_header (pages_of (slot.0 ∷ [])) out bare new (omega (arith, goes.rest.as_many))
        (goes.pages of_header.front of_header.back
        (leaves.others Live (Header live.Place) (of_header.front ++ slot ∷ of_header.back) rails_apart of_header.lists))
        given.pages

    pub frees_place : FreesPlace origin slot old new
    frees_place =
        record {
          records = λ n.
              given_records slot.0 given.first bare new given.rows n
              ∙ ap (λ r. cond (n == slot.0) None r)
              (rail_records Live (Header live.Place) out bare goes.rest n
              ∙ rail_records OriginPages (At origin) old out leaves.rest n);
          chains = λ chains front back before behind are apart in_origin in_header.
              chains_left chains front back before behind are apart in_origin in_header;
          alone = λ r s other also alone.
              sideless_alone (slot.0 ∷ []) bare new (given_beside slot bare new given)
              (λ n among rail apart beside.
              link_missing rail Previous n kinds.Place bare (ap (λ k. kind_at k bare) (only_one n slot.0 among) ∙ it_is)
              (place_sides rail apart beside)) r s other also
              (alone_rail Live (Header live.Place) out bare r s goes.rest other
              (alone_rail OriginPages (At origin) old out r s leaves.rest also alone));
          count = given.count ∙ goes.rest.count ∙ leaves.rest.count;
          body =
              body_then old out new (rail_body OriginPages (At origin) old out leaves.rest)
              (body_then out bare new (rail_body Live (Header live.Place) out bare goes.rest)
              (given_body slot bare new given));
          longer = omega (arith, leaves.rest.as_many, goes.rest.as_many, as_many);
          these = around_origin ++ around_header ++ pages_of (slot.0 ∷ []);
          pages =
              both_only around_origin (around_header ++ pages_of (slot.0 ∷ [])) old out new
              (omega (arith, leaves.rest.as_many)) (leaves.pages of_origin.front of_origin.back of_origin.lists)
              last_pages;
        }

-- ---- with the slots of its texts

module _ (slot : Slot) (old : Pages) (held : HoldsBare slot old) where
  pub bare_place : kind_at slot.0 old ≡ Some kinds.Place
  bare_place =
      kind_told slot (place_row held.place) old
      (record_held (record { slot = slot; row = place_row held.place }) old held.row)

  -- no slot of a text is that of the page
  apart_text : (ns text : List ℕ) → Hold ns text old → is_among slot.0 ns ≡ false
  apart_text ns text holds =
      no_test (is_among slot.0 ns) (λ among.
      choose (live_at slot.0 old) (λ row is. held_idle ns text old holds slot.0 row among is)
      (row_by_kind slot.0 kinds.Place old bare_place place_live))
    where
      choose : (o : Option SlotRow) → ((row : SlotRow) → o ≡ Some row → slot_kind row ≡ kinds.Text)
          → option_map slot_kind o ≡ Some kinds.Place → ⊥
      choose None texts is = absurd (cc)
      choose (Some row) texts is =
          let text = texts row refl in
          let never : Some kinds.Text ≡ Some kinds.Place = ap Some (sym text) ∙ is in
          absurd (cc)

  module _ (left : Pages) (frees : FreesPlace held.place.origin slot old left) where
    -- the texts are held as before
    text_left : (ns text : List ℕ) → Hold ns text old → Hold ns text left
    text_left ns text holds =
        texts_by_parts old left
        (λ n part next is.
        record_part n part next left
        (frees.records n ∙ ap (λ b. cond b None (record_at n old)) (other_slot n part next is)
        ∙ part_record n part next old is)) ns text holds
      where
        other_slot : (n : ℕ) (part : List ℕ) (next : Slot) → HoldsPart n part next old → (n == slot.0) ≡ false
        other_slot n part next is =
            no_test (n == slot.0) (λ same.
            let both : Some (place_row held.place) ≡ Some (chunk_row part next) =
            sym held.row ∙ ap (λ k. record_at k old) (sym (eqb-true n slot.0 same)) ∙ part_record n part next old is in
            absurd (cc))

    pub url_left : Hold held.url_slots held.url left
    url_left = text_left held.url_slots held.url held.url_held

    module _ (freed : Pages) (first : FreesSlots held.url_slots left freed) where
      pub title_left : Hold held.title_slots held.title freed
      title_left =
          held_kept held.title_slots held.title left freed
          (λ n among.
          first.others n (no_test (is_among n held.url_slots) (λ url. true≢false (sym among ∙ held.apart n url))))
          (text_left held.title_slots held.title held.title_held)

      module _ (new : Pages) (second : FreesSlots held.title_slots freed new) where
        all_gone : (n : ℕ) → is_among n (slot.0 ∷ held.url_slots ++ held.title_slots) ≡ true → record_at n new ≡ None
        all_gone n among = elim (or_cases (n == slot.0) (is_among n (held.url_slots ++ held.title_slots)) among) [
          | inl same ↦
              ap (λ k. record_at k new) (eqb-true n slot.0 same)
              ∙ beside_records held.title_slots freed new second.others slot.0
              (apart_text held.title_slots held.title held.title_held)
              ∙ beside_records held.url_slots left freed first.others slot.0
              (apart_text held.url_slots held.url held.url_held)
              ∙ frees.records slot.0 ∙ ap (λ b. cond b None (record_at slot.0 old)) (eq-eqb slot.0 slot.0 refl)
          | inr text ↦ elim (among_either n held.url_slots held.title_slots text) [
            | inl url ↦
                beside_records held.title_slots freed new second.others n (held.apart n url)
                ∙ free_gone n freed (first.free n url)
            | inr title ↦ free_gone n new (second.free n title)
          ]
        ]

        all_others : (n : ℕ) → is_among n (slot.0 ∷ held.url_slots ++ held.title_slots) ≡ false
            → record_at n new ≡ record_at n old
        all_others n other =
            let parts = or_parts (n == slot.0) (is_among n (held.url_slots ++ held.title_slots)) other in
            let texts =
            or_parts (is_among n held.url_slots) (is_among n held.title_slots)
            (sym (list_any-append (λ m. n == m) held.url_slots held.title_slots) ∙ parts.1) in
            beside_records held.title_slots freed new second.others n texts.1
            ∙ beside_records held.url_slots left freed first.others n texts.0 ∙ frees.records n
            ∙ ap (λ b. cond b None (record_at n old)) parts.0

        pub removes_place : page_count left ≤ page_count freed → page_count freed ≤ page_count new
            → RemovesPlace held.url_slots held.title_slots held.place.origin slot old new
        removes_place more last =
            record {
              gone = all_gone;
              others = all_others;
              chains = λ chains front back before behind are apart in_origin in_header.
                  let without =
                  without_page_slot held.place.origin (front ++ back) (before ++ behind) chains in
                  freed_chains without held.title_slots held.title freed new
                  (freed_chains without held.url_slots held.url left freed
                  (frees.chains chains front back before behind are apart in_origin in_header) url_left first)
                  title_left second;
              alone = λ r s other also alone.
                  alone_beside r s held.title_slots freed new second.others
                  (held_idle held.title_slots held.title freed title_left)
                  (alone_beside r s held.url_slots left freed first.others
                  (held_idle held.url_slots held.url left url_left) (frees.alone r s other also alone));
              count = omega (arith, second.count, first.count, frees.count);
              body =
                  body_then old left new frees.body
                  (body_then left freed new (fields_body left freed (fields_freed held.url_slots left freed first))
                  (fields_body freed new (fields_freed held.title_slots freed new second)));
              longer = omega (arith, frees.longer, more, last);
              these = frees.these ++ (pages_of held.url_slots ++ pages_of held.title_slots);
              pages =
                  both_only frees.these (pages_of held.url_slots ++ pages_of held.title_slots) old left new frees.longer
                  frees.pages
                  (both_only (pages_of held.url_slots) (pages_of held.title_slots) left freed new more first.pages
                  second.pages);
            }

-- ---- the page that is read

place_in : Option SlotRow → Place → Place
place_in
    (Some
    (rows.Place typed hidden lp ln id origin op on fv lv fr lr url_text url_length title_text title_length frecency
    count))
    other =
    record {
      id = id;
      mark = record { frecency = frecency; count = count; typed = typed; hidden = hidden };
      origin = origin;
      url = record { slot = url_text; length = url_length };
      title = record { slot = title_text; length = title_length };
    }
place_in row other = other

-- it is the one that the slot is held to have
pub place_read : (slot : Slot) (old : Pages) (held : HoldsBare slot old) (p : Place)
    → row_in slot old ≡ Some (place_row p) → p ≡ held.place
unfolding place_in
place_read slot old held p read =
    ap (λ o. place_in o p)
    (sym read ∙ record_held (record { slot = slot; row = place_row held.place }) old held.row)
