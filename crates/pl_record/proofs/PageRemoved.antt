-- A page that has no visit and no item goes from linked slots: what the calls ask, and what they
-- leave.
use Rattle.std.proofs.Common.{◌≡◌, ◌∙◌, ◌==◌, ◌∷◌, [], ℕ, Bool, List, Some, ap, eqb-true, false, filter, if◌then◌else◌}
use Rattle.std.proofs.Common.{◌||◌, Option, is_some, length, map, not, refl, subst, sym, true}
use Rattle.std.proofs.lemmas.Bool.{true≢false}
use Rattle.std.specs.List.{list_any}
use Rattle.std.specs.Option.{IsSome}
use Rattle.pl_base.specs.declared.id.PageId.{PageId}
use Rattle.pl_base.specs.declared.id.Slot.{Slot}
use Rattle.pl_base.specs.declared.id.VisitId.{VisitId}
use Rattle.pl_base.specs.Good.{is_visited}
use Rattle.pl_base.specs.Marks.{is_referenced}
use Rattle.pl_base.specs.Rows.{Kept, KeptOrigin, KeptPage, has_origin, other_pages, page_at, page_visits, store_of}
use Rattle.pl_base.specs.Store.{Item, Visit}
use Rattle.pl_base.specs.Tree.{is_page, references}
use Rattle.pl_base.specs.Visits.{latest_first}
use Rattle.pl_base.proofs.LookUps.{found_passes, none_kept, none_pass}
use Rattle.pl_base.proofs.PageLaws.{id_at}
use Rattle.pl_record.specs.ChainMap.{AreChains, ChainMap}
use Rattle.pl_record.specs.Chains.{item_slots, page_slots, pages_in, visit_slots}
use Rattle.pl_record.specs.declared.rows.Place.{Place}
use Rattle.pl_record.specs.LastPage.{LeavesOrigin}
use Rattle.pl_record.specs.LinkedRows.{AreLinked, Entries, IsBaseOf, slot_at}
use Rattle.pl_record.proofs.NamedSlots.{found_all, found_of}
use Rattle.pl_record.specs.Records.{Layout, page_record}
use Rattle.pl_record.specs.Rows.{place_row, row_in}
use Rattle.pl_record.specs.SlotChanges.{HoldsBare, KeepsBody, RemovesPlace}
use Rattle.pl_record.proofs.Bases.{base_kept}
use Rattle.pl_record.proofs.Filled.{IsFilled, filled, origin_owns}
use Rattle.pl_record.proofs.LaidChains.{chains_laid}
use Rattle.pl_record.proofs.LookUps.{Found}
use Rattle.pl_record.proofs.OriginGoes as goes
use Rattle.pl_record.proofs.OriginsCounted.{all_named}
use Rattle.pl_record.proofs.PageGone.{is_shared, without_page}
use Rattle.pl_record.proofs.PageMaps.{with_pages}
use Rattle.pl_record.proofs.PagesTold.{page_found, same_row}
use Rattle.pl_record.proofs.PlaceGoes as place_laws
use Rattle.pl_record.proofs.PlaceGoes.{place_goes}
use Rattle.pl_record.proofs.RecordMaps.{held_record}
use Rattle.pl_rail.specs.declared.owner.Owner.TheVariants.{At, Header}
use Rattle.pl_rail.specs.declared.owner.Side.TheVariants.{Behind}
use Rattle.pl_rail.specs.Rails.{HasMember, Lists, end_at, first_of}
use Rattle.pl_sheets.specs.Sheets.{Pages}
use Rattle.pl_slot.specs.declared.kind.LiveKind.TheVariants as kinds
use Rattle.pl_slot.specs.declared.links.Rail.TheVariants.{Live, OriginPages, PageVisits, References}
use Rattle.pl_slot.specs.Arena.{IsArena, first_in}
use Rattle.pl_text.specs.Chunks.{Hold}

abbrev is_nothing : {X : Type 0} → List X → Bool
is_nothing [] = true
is_nothing (x ∷ xs) = false

-- some pass a test where those that pass are some
any_passes : {X : Type 0} (test : X → Bool) (xs : List X) → list_any test xs ≡ not (is_nothing (filter test xs))
any_passes test [] = refl
any_passes {X} test (x ∷ xs) = choose (test x) (any_passes test xs)
  where
    choose : (b : Bool) → list_any test xs ≡ not (is_nothing (filter test xs))
        → (b || list_any test xs) ≡ not (is_nothing (if b then x ∷ filter test xs else filter test xs))
    choose true rest = refl
    choose false rest = rest

-- an origin whose first page is none has no page
pub emptied : (origin : Slot) (pages : Pages) → IsSome (end_at Behind OriginPages (At origin) pages)
    → ((chains : ChainMap) × AreChains chains pages) → (found : Option Slot)
    → ((slots : List Slot) → Lists OriginPages (At origin) slots pages → found ≡ first_of slots)
    → is_some found ≡ false → Lists OriginPages (At origin) [] pages
emptied origin pages some chained found first none =
    choose (chained.0 OriginPages (At origin)) (chained.1.lists OriginPages (At origin) some)
  where
    choose : (slots : List Slot) → Lists OriginPages (At origin) slots pages → Lists OriginPages (At origin) [] pages
    choose [] lists = lists
    choose (s ∷ slots) lists = absurd (true≢false (sym (ap is_some (first (s ∷ slots) lists)) ∙ none))

-- the page is gone, and its origin where it was the last one
pub record Dropped (at : Layout) (kept : Kept) (targets : VisitId → List Visit) (id : PageId) (origin : Slot) (more : ℕ)
    (old new : Pages) : Type 0 where
  pub filled : IsFilled at (without_page id (is_shared origin (other_pages id kept.pages)) origin kept) targets new
  pub more_is : more ≡ (if is_shared origin (other_pages id kept.pages) then 0 else 1)
  pub body : KeepsBody old new
  pub arena : IsArena new
  pub base : (bytes : List ℕ) → IsBaseOf old bytes → IsBaseOf new bytes

module _ (kept : Kept) (targets : VisitId → List Visit) (old : Pages) (pages visits items : Entries)
    (l : AreLinked kept targets old pages visits items) (id : PageId) (slot : Slot)
    (some : slot_at pages id.0 ≡ Some slot) (place : Place) (read : row_in slot old ≡ Some (place_row place)) where
  abbrev pub page : Found (λ (p : KeptPage). l.at.page p.page.id) (page_at kept id) slot
  page = page_found kept targets old pages visits items l id slot some

  abbrev pub row : KeptPage
  row = page.row

  abbrev is_it : KeptPage → Bool
  is_it p = p.page.id.0 == id.0

  named : row.page.id ≡ id
  named = id_at kept id row page.there

  here : l.at.page id ≡ slot
  here = ap l.at.page (sym named) ∙ page.here

  told : place_row place ≡ (page_record l.at row).row
  told = same_row kept targets old pages visits items l id slot place some read

  pub origin_is : place.origin ≡ row.origin
  origin_is =
      let same : place_row place ≡ (page_record l.at row).row = told in
      cc

  pub url_long : length row.page.url ≡ place.url.length
  url_long =
      let same : place_row place ≡ (page_record l.at row).row = told in
      cc

  pub title_long : length row.page.title ≡ place.title.length
  title_long =
      let same : place_row place ≡ (page_record l.at row).row = told in
      cc

  whole : IsFilled l.at kept targets old
  whole = filled l.at kept targets old l.rows l.laid

  there : has_origin kept row.origin ≡ true
  there =
      found_all (λ (p : KeptPage). has_origin kept p.origin ≡ true) is_it kept.pages row
      (all_named kept l.rows.well.origins) page.there

  -- ---- what is asked first

  module _ (unvisited : is_visited (store_of kept) id ≡ false) (unreferenced : is_referenced (store_of kept) id ≡ false)
    where
      no_visits : visit_slots l.at (page_visits kept id) ≡ []
      no_visits =
          ap (λ vs. visit_slots l.at (latest_first vs))
          (none_kept (λ (v : Visit). v.page.0 == id.0) kept.visits
          (none_pass (λ (v : Visit). v.page.0 == id.0) kept.visits unvisited))

      no_items : item_slots l.at (references kept.items id) ≡ []
      no_items =
          ap (λ (is : List Item). item_slots l.at (map (λ (i : Item). i.id) is))
          (none_kept (λ (i : Item). is_page id i.page) kept.items
          (none_pass (λ (i : Item). is_page id i.page) kept.items unreferenced))

      visits_listed : Lists PageVisits (At slot) (visit_slots l.at (page_visits kept id)) old
      visits_listed =
          subst (λ s. Lists PageVisits (At s) (visit_slots l.at (page_visits kept id)) old) here
          (subst (λ i. Lists PageVisits (At (l.at.page i)) (visit_slots l.at (page_visits kept i)) old) named
          (found_all (λ (p : KeptPage). Lists PageVisits (At (l.at.page p.page.id))
          (visit_slots l.at (page_visits kept p.page.id)) old) is_it kept.pages row l.laid.chains.visits page.there))

      items_listed : Lists References (At slot) (item_slots l.at (references kept.items id)) old
      items_listed =
          subst (λ s. Lists References (At s) (item_slots l.at (references kept.items id)) old) here
          (subst (λ i. Lists References (At (l.at.page i)) (item_slots l.at (references kept.items i)) old) named
          (found_all (λ (p : KeptPage). Lists References (At (l.at.page p.page.id))
          (item_slots l.at (references kept.items p.page.id)) old) is_it kept.pages row l.laid.chains.references
          page.there))

      url_begins : place.url.slot ≡ first_in (l.at.url row.page.id)
      url_begins =
          let same : place_row place ≡ (page_record l.at row).row = told in
          cc

      title_begins : place.title.slot ≡ first_in (l.at.title row.page.id)
      title_begins =
          let same : place_row place ≡ (page_record l.at row).row = told in
          cc

      pub bare : HoldsBare slot old
      bare =
          record {
            place = place;
            row = held_record (record { slot = slot; row = place_row place }) old refl read;
            url = row.page.url;
            url_slots = l.at.url id;
            url_begins = url_begins ∙ ap (λ i. first_in (l.at.url i)) named;
            url_held =
                subst (λ i. Hold (l.at.url i) row.page.url old) named
                (found_all (λ (p : KeptPage). Hold (l.at.url p.page.id) p.page.url old) is_it kept.pages row
                l.laid.texts.urls page.there);
            title = row.page.title;
            title_slots = l.at.title id;
            title_begins = title_begins ∙ ap (λ i. first_in (l.at.title i)) named;
            title_held =
                subst (λ i. Hold (l.at.title i) row.page.title old) named
                (found_all (λ (p : KeptPage). Hold (l.at.title p.page.id) p.page.title old) is_it kept.pages row
                l.laid.texts.titles page.there);
            apart = place_laws.texts_apart l.at kept targets id row old page.there there whole;
            of_origin =
                subst (λ o. HasMember OriginPages (At o) slot old) (sym origin_is)
                (subst (λ s. HasMember OriginPages (At row.origin) s old) here
                (place_laws.of_origin l.at kept targets id row old page.there there whole
                (origin_owns l.at kept old l.laid.rows row.origin there)));
            of_header =
                subst (λ s. HasMember Live (Header kinds.Place) s old) here
                (place_laws.of_header l.at kept targets id row old page.there there whole);
            no_visit = subst (λ slots. Lists PageVisits (At slot) slots old) no_visits visits_listed;
            no_item = subst (λ slots. Lists References (At slot) slots old) no_items items_listed;
          }

      -- ---- the page is gone

      module _ (a : Pages) (removed : (held : HoldsBare slot old)
          → RemovesPlace held.url_slots held.title_slots held.place.origin slot old a) (arena : IsArena a) where
        abbrev now : Kept
        now = with_pages (other_pages id kept.pages) kept

        pub gone : RemovesPlace (l.at.url id) (l.at.title id) row.origin (l.at.page id) old a
        unfolding bare
        gone =
            subst (λ o. RemovesPlace (l.at.url id) (l.at.title id) o (l.at.page id) old a) origin_is
            (subst (λ s. RemovesPlace (l.at.url id) (l.at.title id) place.origin s old a) (sym here) (removed bare))

        left : IsFilled l.at now targets a
        left = place_goes l.at kept targets id row old page.there there whole a gone

        still_there : has_origin now place.origin ≡ true
        still_there = subst (λ o. has_origin kept o ≡ true) (sym origin_is) there

        pub asked : IsSome (end_at Behind OriginPages (At place.origin) a)
        asked = origin_owns l.at now a left.rows place.origin still_there

        pub member : HasMember Live (Header kinds.Origin) place.origin a
        member = goes.of_header l.at now targets place.origin a still_there left

        pub chained_then : (chains : ChainMap) × AreChains chains a
        chained_then = (left.chains, left.are)

        listed : Lists OriginPages (At place.origin) (page_slots l.at (pages_in now place.origin)) a
        listed =
            let o = found_of (λ (b : KeptOrigin). b.origin.0 == place.origin.0) kept.origins still_there in
            subst (λ s. Lists OriginPages (At s) (page_slots l.at (pages_in now s)) a)
            (ap (λ (n : ℕ). record { 0 = n })
            (eqb-true o.0.origin.0 place.origin.0
            (found_passes (λ (b : KeptOrigin). b.origin.0 == place.origin.0) kept.origins o.0 o.1)))
            (found_all (λ (b : KeptOrigin). Lists OriginPages (At b.origin) (page_slots l.at (pages_in now b.origin)) a)
            (λ (b : KeptOrigin). b.origin.0 == place.origin.0) kept.origins o.0
            (chains_laid l.at now targets left.chains a left.are left.named left.rows).origins o.1)

        module _ (b : Pages) (more : ℕ) (leaves : (slots : List Slot) → Lists OriginPages (At place.origin) slots a
            → LeavesOrigin place.origin slots more a b) where
          shared_as : (shared : Bool) → is_shared place.origin (other_pages id kept.pages) ≡ shared
              → IsFilled l.at (without_page id shared place.origin kept) targets b
              → more ≡ (if shared then 0 else 1) → KeepsBody a b → IsArena b
              → ((bytes : List ℕ) → IsBaseOf a bytes → IsBaseOf b bytes)
              → Dropped l.at kept targets id place.origin more a b
          shared_as shared is f number body still base =
              record {
                filled = subst (λ s. IsFilled l.at (without_page id s place.origin kept) targets b) (sym is) f;
                more_is = number ∙ ap (λ s. if s then 0 else 1) (sym is);
                body = body;
                arena = still;
                base = base;
              }

          choose : (qs : List KeptPage) → pages_in now place.origin ≡ qs
              → LeavesOrigin place.origin (page_slots l.at qs) more a b
              → Dropped l.at kept targets id place.origin more a b
          choose [] is parts =
              shared_as false
              (any_passes (λ (q : KeptPage). q.origin.0 == place.origin.0) (other_pages id kept.pages)
              ∙ ap (λ ps. not (is_nothing ps)) is)
              (goes.origin_goes l.at now targets place.origin a still_there left b parts.1) parts.0 parts.1.body parts.2
              (base_kept _ a b arena.whole parts.1.pages)
          choose (q ∷ qs) is parts =
              shared_as true
              (any_passes (λ (p : KeptPage). p.origin.0 == place.origin.0) (other_pages id kept.pages)
              ∙ ap (λ ps. not (is_nothing ps)) is)
              (subst (IsFilled l.at now targets) (sym parts.1) left) parts.0
              (subst (KeepsBody a) (sym parts.1)
              (record { form = refl; day = refl; ids = refl; live = refl; rest = refl }))
              (subst IsArena (sym parts.1) arena)
              (λ bytes base. subst (λ c. IsBaseOf c bytes) (sym parts.1) base)

          pub dropped : Dropped l.at kept targets id place.origin more a b
          dropped =
              choose (pages_in now place.origin) refl (leaves (page_slots l.at (pages_in now place.origin)) listed)

          pub dropped_base : (bytes : List ℕ) → IsBaseOf old bytes → IsBaseOf b bytes
          dropped_base bytes base =
              dropped.base bytes (base_kept gone.these old a l.laid.arena.whole gone.pages bytes base)
