-- What the slots of a store hold, and how they are chained, without a page.
use Rattle.std.proofs.Common.{◌≡◌, ◌∙◌, ◌∷◌, ◌==◌, ◌+◌, ◌++◌, ◌≤◌, ℕ, Bool, List, Some, ap, arith, eq-eqb}
use Rattle.std.proofs.Common.{eqb, eqb-true, false, filter, if◌then◌else◌, not, refl, subst, sym, true}
use Rattle.std.specs.Cmp.{nat_eq_equiv}
use Rattle.std.specs.List.{slice_index_or, sum_by}
use Rattle.std.specs.Option.{IsSome}
use Rattle.std.proofs.lemmas.List.{map-append}
use Rattle.std.proofs.lemmas.List.Elements.{All-filter, filter-append}
use Rattle.std.proofs.lemmas.List.Sums.{sum_by-append, sum_by-cons}
use Rattle.pl_base.specs.declared.id.PageId.{PageId}
use Rattle.pl_base.specs.declared.id.Slot.{Slot}
use Rattle.pl_base.specs.declared.id.VisitId.{VisitId}
use Rattle.pl_base.specs.Rows.{Kept, KeptOrigin, KeptPage, has_origin, other_pages, page_at, page_visits}
use Rattle.pl_base.specs.Store.{Visit}
use Rattle.pl_base.specs.Tree.{references}
use Rattle.pl_base.proofs.KeyCounts.{count, count-append, count-cons, tick}
use Rattle.pl_base.proofs.LookUps.{found_passes}
use Rattle.pl_base.proofs.PageLaws.{id_at}
use Rattle.pl_record.specs.ChainMap.{with_chain}
use Rattle.pl_record.specs.Chains.{item_slots, page_slots, pages_in, visit_slots}
use Rattle.pl_record.proofs.NamedSlots.{found_all, found_of}
use Rattle.pl_record.specs.Records.{HoldsRow, HoldsRows, HoldsTexts, Layout, page_record}
use Rattle.pl_record.specs.Rows.{record_at}
use Rattle.pl_record.specs.SlotChanges.{RemovesPlace}
use Rattle.pl_record.proofs.ChainMaps.{unlinked_apart}
use Rattle.pl_record.proofs.Filled.{IsFilled}
use Rattle.pl_record.proofs.LaidChains.{NamesChains}
use Rattle.pl_record.proofs.PageMaps.{with_pages}
use Rattle.pl_record.proofs.RowsBeside.{alone_beside, kinds_times, once_fewer, rows_beside, same_left, texts_beside}
use Rattle.pl_record.proofs.SlotCounts.{among_some, few_once, none_among, page_texts, slot_times, times}
use Rattle.pl_record.proofs.Splits.{Only, only_slot}
use Rattle.pl_rail.specs.declared.owner.Owner.TheVariants.{At, Header}
use Rattle.pl_rail.specs.declared.owner.Side.TheVariants.{Behind}
use Rattle.pl_rail.specs.Rails.{HasMember, Lists, end_at}
use Rattle.pl_sheets.specs.Sheets.{Pages}
use Rattle.pl_slot.specs.declared.kind.LiveKind.TheVariants as kinds
use Rattle.pl_slot.specs.declared.links.Rail.TheVariants.{Live, OriginPages, PageVisits, References}
use Rattle.pl_slot.specs.Arena.{is_among}
use Rattle.pl_text.specs.Chunks.{Hold}

module _ (at : Layout) (kept : Kept) (targets : VisitId → List Visit) (id : PageId) (p : KeptPage) (old : Pages)
    (found : page_at kept id ≡ Some p) (there : has_origin kept p.origin ≡ true)
    (filled : IsFilled at kept targets old) where
  abbrev now : Kept
  now = with_pages (other_pages id kept.pages) kept

  abbrev is_gone : KeptPage → Bool
  is_gone q = q.page.id.0 == id.0

  same : p.page.id ≡ id
  same = id_at kept id p found

  parts : Only is_gone kept.pages p
  parts =
      only_slot (λ (q : KeptPage). q.page.id.0) (λ (q : KeptPage). (at.page q.page.id).0) id.0 kept.pages p
      (λ n. omega (arith, kinds_times at kept n, few_once at kept old filled.slots n))
      (λ a b one. ap (λ (n : ℕ). (at.page (record { 0 = n })).0) one) found

  -- ---- chains

  places_were : page_slots at kept.pages ≡ page_slots at parts.front ++ at.page id ∷ page_slots at parts.back
  places_were =
      ap (page_slots at) parts.whole
      ∙ map-append (λ (q : KeptPage). at.page q.page.id) parts.front (p ∷ parts.back)
      ∙ ap (λ i. page_slots at parts.front ++ at.page i ∷ page_slots at parts.back) same

  -- the pages of an origin, of those in front and of those behind
  abbrev own : Slot → List KeptPage → List KeptPage
  own x pages = filter (λ (q : KeptPage). q.origin.0 == x.0) pages

  abbrev own_slots : Slot → List KeptPage → List Slot
  own_slots x pages = page_slots at (own x pages)

  abbrev with : Slot → Bool → List Slot
  with x is = own_slots x parts.front ++ (if is then at.page id ∷ own_slots x parts.back else own_slots x parts.back)

  were : (x : Slot) → own_slots x kept.pages ≡ with x (p.origin.0 == x.0)
  were x =
      ap (own_slots x) parts.whole
      ∙ ap (page_slots at) (filter-append (λ (q : KeptPage). q.origin.0 == x.0) parts.front (p ∷ parts.back))
      ∙ map-append (λ (q : KeptPage). at.page q.page.id) (own x parts.front) (own x (p ∷ parts.back))
      ∙ ap (λ slots. own_slots x parts.front ++ slots) (choose (p.origin.0 == x.0))
    where
      choose : (b : Bool) → page_slots at (if b then p ∷ own x parts.back else own x parts.back)
          ≡ (if b then at.page id ∷ own_slots x parts.back else own_slots x parts.back)
      choose true = ap (λ i. at.page i ∷ own_slots x parts.back) same
      choose false = refl

  are_left : (x : Slot) → own_slots x (other_pages id kept.pages) ≡ own_slots x parts.front ++ own_slots x parts.back
  are_left x =
      ap (own_slots x) parts.others
      ∙ ap (page_slots at) (filter-append (λ (q : KeptPage). q.origin.0 == x.0) parts.front parts.back)
      ∙ map-append (λ (q : KeptPage). at.page q.page.id) (own x parts.front) (own x parts.back)

  in_origin : filled.chains OriginPages (At p.origin)
      ≡ own_slots p.origin parts.front ++ at.page id ∷ own_slots p.origin parts.back
  in_origin =
      let o = found_of (λ (a : KeptOrigin). a.origin.0 == p.origin.0) kept.origins there in
      let here : o.0.origin ≡ p.origin =
      ap (λ (n : ℕ). record { 0 = n })
      (eqb-true o.0.origin.0 p.origin.0
      (found_passes (λ (a : KeptOrigin). a.origin.0 == p.origin.0) kept.origins o.0 o.1)) in
      subst (λ x. filled.chains OriginPages (At x) ≡ own_slots x kept.pages) here
      (found_all (λ (a : KeptOrigin). filled.chains OriginPages (At a.origin) ≡ page_slots at (pages_in kept a.origin))
      (λ (a : KeptOrigin). a.origin.0 == p.origin.0) kept.origins o.0 filled.named.origins o.1)
      ∙ were p.origin ∙ ap (with p.origin) (eq-eqb p.origin.0 p.origin.0 refl)

  -- the page is in the chain of its origin, and in that of all pages
  pub of_origin : IsSome (end_at Behind OriginPages (At p.origin) old)
      → HasMember OriginPages (At p.origin) (at.page id) old
  of_origin some =
      record {
        front = own_slots p.origin parts.front;
        back = own_slots p.origin parts.back;
        lists =
            subst (λ slots. Lists OriginPages (At p.origin) slots old) in_origin
            (filled.are.lists OriginPages (At p.origin) some);
      }

  pub of_header : HasMember Live (Header kinds.Place) (at.page id) old
  of_header =
      record {
        front = page_slots at parts.front;
        back = page_slots at parts.back;
        lists =
            subst (λ slots. Lists Live (Header kinds.Place) slots old) (filled.named.live_places ∙ places_were)
            (filled.are.lists Live (Header kinds.Place) refl);
      }

  origin_named : (o : KeptOrigin) → filled.chains OriginPages (At o.origin) ≡ page_slots at (pages_in kept o.origin)
      → with_chain OriginPages (At p.origin) (own_slots p.origin parts.front ++ own_slots p.origin parts.back)
      filled.chains OriginPages (At o.origin)
      ≡ page_slots at (pages_in now o.origin)
  origin_named o is = choose (o.origin.0 == p.origin.0) refl ∙ sym (are_left o.origin)
    where
      choose : (b : Bool) → (o.origin.0 == p.origin.0) ≡ b
          → (if b then own_slots p.origin parts.front ++ own_slots p.origin parts.back
          else filled.chains OriginPages (At o.origin))
          ≡ own_slots o.origin parts.front ++ own_slots o.origin parts.back
      choose true one =
          ap (λ (n : ℕ). own_slots (record { 0 = n }) parts.front ++ own_slots (record { 0 = n }) parts.back)
          (sym (eqb-true o.origin.0 p.origin.0 one))
      choose false differs =
          is ∙ were o.origin ∙ ap (with o.origin) (nat_eq_equiv.symm p.origin.0 o.origin.0 ∙ differs)

  named : NamesChains at now targets
      (with_chain Live (Header kinds.Place) (page_slots at parts.front ++ page_slots at parts.back)
      (with_chain OriginPages (At p.origin) (own_slots p.origin parts.front ++ own_slots p.origin parts.back)
      filled.chains))
  named =
      record {
        live_origins = filled.named.live_origins;
        live_places =
            sym (ap (page_slots at) parts.others
            ∙ map-append (λ (q : KeptPage). at.page q.page.id) parts.front parts.back);
        live_visits = filled.named.live_visits;
        live_items = filled.named.live_items;
        origins = λ k d within. origin_named (slice_index_or kept.origins k d) (filled.named.origins k d within);
        visits =
            All-filter (λ (q : KeptPage). not (is_gone q))
            (λ (q : KeptPage). filled.chains PageVisits (At (at.page q.page.id))
            ≡ visit_slots at (page_visits kept q.page.id)) kept.pages filled.named.visits;
        references =
            All-filter (λ (q : KeptPage). not (is_gone q))
            (λ (q : KeptPage). filled.chains References (At (at.page q.page.id))
            ≡ item_slots at (references kept.items q.page.id)) kept.pages filled.named.references;
        targeted = filled.named.targeted;
        children = filled.named.children;
      }

  -- ---- each slot has one

  fewer : (n : ℕ) → slot_times at now n + times n ((at.page id).0 ∷ at.url id ++ at.title id) ≡ slot_times at kept n
  fewer n =
      omega (
        arith,
        kinds_times at kept n,
        kinds_times at now n,
        ap (count (λ (q : KeptPage). (at.page q.page.id).0) n) parts.whole,
        ap (count (λ (q : KeptPage). (at.page q.page.id).0) n) parts.others,
        count-append (λ (q : KeptPage). (at.page q.page.id).0) n parts.front (p ∷ parts.back),
        count-append (λ (q : KeptPage). (at.page q.page.id).0) n parts.front parts.back,
        count-cons (λ (q : KeptPage). (at.page q.page.id).0) n p parts.back,
        ap (λ (i : PageId). tick (eqb (at.page i).0 n)) same,
        ap (sum_by (λ (q : KeptPage). times n (page_texts at q))) parts.whole,
        ap (sum_by (λ (q : KeptPage). times n (page_texts at q))) parts.others,
        sum_by-append (λ (q : KeptPage). times n (page_texts at q)) parts.front (p ∷ parts.back),
        sum_by-append (λ (q : KeptPage). times n (page_texts at q)) parts.front parts.back,
        sum_by-cons (λ (q : KeptPage). times n (page_texts at q)) p parts.back,
        ap (λ (i : PageId). times n (at.url i ++ at.title i)) same,
        count-cons (λ (m : ℕ). m) n (at.page id).0 (at.url id ++ at.title id),
      )

  -- no slot has parts of both texts
  pub texts_apart : (n : ℕ) → is_among n (at.url id) ≡ true → is_among n (at.title id) ≡ false
  texts_apart n among =
      none_among n (at.title id)
      (omega (
        arith,
        among_some n (at.url id) among,
        fewer n,
        few_once at kept old filled.slots n,
        count-cons (λ (m : ℕ). m) n (at.page id).0 (at.url id ++ at.title id),
        count-append (λ (m : ℕ). m) n (at.url id) (at.title id),
      ))

  module _ (new : Pages) (goes : RemovesPlace (at.url id) (at.title id) p.origin (at.page id) old new) where
    still : (n : ℕ) → 1 ≤ slot_times at now n → record_at n new ≡ record_at n old
    still =
        same_left at kept now ((at.page id).0 ∷ at.url id ++ at.title id) old new filled.slots goes.gone goes.others
        fewer

    rows : HoldsRows at now new
    rows =
        rows_beside at now old new still
        (record {
          origins = filled.rows.origins;
          places =
              All-filter (λ (q : KeptPage). not (is_gone q))
              (λ (q : KeptPage). HoldsRow (page_record at q) old) kept.pages
              filled.rows.places;
          visits = filled.rows.visits;
          items = filled.rows.items;
        })

    texts : HoldsTexts at now new
    texts =
        texts_beside at now old new still
        (record {
          urls =
              All-filter (λ (q : KeptPage). not (is_gone q)) (λ (q : KeptPage). Hold (at.url q.page.id) q.page.url old)
              kept.pages filled.texts.urls;
          titles =
              All-filter (λ (q : KeptPage). not (is_gone q))
              (λ (q : KeptPage). Hold (at.title q.page.id) q.page.title old)
              kept.pages filled.texts.titles;
          item_titles = filled.texts.item_titles;
        })

    pub place_goes : IsFilled at (with_pages (other_pages id kept.pages) kept) targets new
    place_goes =
        let alone = alone_beside at kept old new goes.alone filled.alone in
        record {
          chains =
              with_chain Live (Header kinds.Place) (page_slots at parts.front ++ page_slots at parts.back)
              (with_chain OriginPages (At p.origin) (own_slots p.origin parts.front ++ own_slots p.origin parts.back)
              filled.chains);
          are =
              goes.chains filled.chains (own_slots p.origin parts.front) (own_slots p.origin parts.back)
              (page_slots at parts.front) (page_slots at parts.back) filled.are filled.apart in_origin
              (filled.named.live_places ∙ places_were);
          named = named;
          apart =
              unlinked_apart OriginPages (At p.origin) (at.page id) (own_slots p.origin parts.front)
              (own_slots p.origin parts.back) filled.chains filled.apart in_origin;
          rows = rows;
          texts = texts;
          slots =
              once_fewer at kept now ((at.page id).0 ∷ at.url id ++ at.title id) old new filled.slots goes.gone
              goes.others fewer;
          alone = record { visits = alone.visits; roots = alone.roots; others = alone.others };
        }
