-- The names of origins, where what was read are the rows of a store: each origin has a slot of its
-- own, and pages name the same one exactly where they have the same origin.
use Rattle.std.proofs.Common.{◌≡◌, ◌≢◌, ◌≤◌, ◌<◌, ◌∙◌, ◌∷◌, ◌++◌, ◌==◌, [], ℕ, Bool, List, Some, All, ap, arith}
use Rattle.std.proofs.Common.{filter, inl, inr, map, refl, subst, sym, true}
use Rattle.std.specs.List.{AllByRecursion, AllPairs, Contains, flat_map, list_any, zip}
use Rattle.std.proofs.lemmas.Bool.{cases_Bool}
use Rattle.std.proofs.lemmas.List.Elements.{All-from_recursion, All-weaker, recursion_from_All}
use Rattle.pl_base.specs.declared.id.Slot.{Slot}
use Rattle.pl_base.specs.Good.{IsGood}
use Rattle.pl_base.specs.Rows.{AreAlike, Kept, KeptOrigin, KeptPage, NamesOrigins, origin_names, page_origins}
use Rattle.pl_base.proofs.KeyCounts.{count, count-append, pairs_from_once}
use Rattle.pl_base.proofs.ListLaws.{All-from_map, AllPairs-from_map, from_map, list_any-map, map-map, weaker}
use Rattle.pl_base.proofs.LookUps.{none_kept, none_pass}
use Rattle.pl_load.specs.Chained.{HasOwnLists}
use Rattle.pl_load.specs.Members.{origin_members}
use Rattle.pl_load.specs.Owners.{NameOwners, names_origin}
use Rattle.pl_load.specs.Reads.{AreRead, AreReadFrom, Reads, met_slots, numbers, place_at}
use Rattle.pl_load.proofs.HeldRows.{held_rows}
use Rattle.pl_load.proofs.Layouts.{kept_of, kept_page, layout_of}
use Rattle.pl_load.proofs.ListParts.{all_pass}
use Rattle.pl_load.proofs.MetSlots.{origin_there}
use Rattle.pl_load.proofs.OwnedLists.{pages_owned}
use Rattle.pl_load.proofs.ParentsTold.{parents_are, rows_read}
use Rattle.pl_origins.specs.Names as names_specs
use Rattle.pl_origins.specs.Names.{AreNamed, Named, named}
use Rattle.pl_owned.specs.Owned.{owned_by}
use Rattle.pl_rail.specs.Rails.{is_in}
use Rattle.pl_reading.specs.Texts.{row_texts, text_parts}
use Rattle.pl_record.specs.declared.rows.Place.{Place}
use Rattle.pl_record.specs.Chains.{page_slots}
use Rattle.pl_record.specs.Records.{HoldsRows, Layout}
use Rattle.pl_record.proofs.LaidSlots.{kind_live, origin_kinds}
use Rattle.pl_record.proofs.OriginsCounted.{has_number}
use Rattle.pl_record.proofs.SlotCounts.{few_times}
use Rattle.pl_record.proofs.SlotSteps.{origin_by_kind}
use Rattle.pl_sheets.specs.Sheets.{Pages}
use Rattle.pl_slot.specs.declared.kind.SlotKind.TheVariants as kinds
use Rattle.pl_slot.specs.Links.{kind_at}
use Rattle.pl_slot.proofs.ArenaLaws.{live_slot}
use Rattle.pl_slot.proofs.SlotPlaces.{slot_bounds}
use Rattle.pl_stored.specs.declared.stored.StoredPage.{StoredPage}
use Rattle.pl_stored.specs.Stored.{stored_store}

-- ---- lists

-- where something passes a test, one of the list does
some_kept : {X : Type 0} (test : X → Bool) (xs : List X) → filter test xs ≢ [] → list_any test xs ≡ true
some_kept test xs some = elim (cases_Bool (list_any test xs)) [
  | inl is ↦ is
  | inr none ↦ absurd (some (none_kept test xs (none_pass test xs none)))
]

-- ---- the URL of a page, with the name of its origin

abbrev named_page : KeptPage → Named
named_page p = record { url = p.page.url; name = p.origin }

named_are : (ps : List Place) (ss : List StoredPage)
    → map named_page (map kept_page (zip ps ss)) ≡ named ss (map (λ (p : Place). p.origin) ps)
named_are [] [] = refl
named_are [] (s ∷ ss) = refl
named_are (p ∷ ps) [] = refl
named_are (p ∷ ps) (s ∷ ss) =
    ap (λ (ns : List Named). record { url = s.url; name = p.origin } ∷ ns) (named_are ps ss)

-- ---- the names

module _ (pages : Pages) (reads : Reads) (from : AreReadFrom pages reads)
    (good : IsGood (stored_store reads.stored)) (owners : NameOwners pages reads) (own : HasOwnLists pages reads)
    (names : AreNamed (named reads.stored.pages (map (λ (p : Place). p.origin) reads.places))) where
  abbrev at : Layout
  at = layout_of pages reads

  abbrev kept : Kept
  kept = kept_of reads

  are : AreRead at kept reads
  are = rows_read pages reads from good owners

  held : HoldsRows at kept pages
  held = held_rows pages reads from good (parents_are pages reads from good owners)

  -- no slot is that of two origins
  distinct : AllPairs (λ (a b : KeptOrigin). a.origin ≢ b.origin) kept.origins
  distinct =
      let slots : numbers reads.origins ≡ map (λ (o : KeptOrigin). o.origin.0) kept.origins =
      ap numbers are.origins ∙ map-map (λ (s : Slot). s.0) (λ (o : KeptOrigin). o.origin) kept.origins in
      let pairs : AllPairs (λ (m n : ℕ). m ≢ n) (map (λ (o : KeptOrigin). o.origin.0) kept.origins) =
      subst (λ (ns : List ℕ). AllPairs (λ (m n : ℕ). m ≢ n) ns) slots
      (pairs_from_once (λ (m : ℕ). m) (numbers reads.origins) (λ n. origins_once n)) in
      let each = AllPairs-from_map (λ (m n : ℕ). m ≢ n) (λ (o : KeptOrigin). o.origin.0) kept.origins pairs in
      λ i j d before within same. each i j d before within (ap (λ (s : Slot). s.0) same)
    where
      origins_once : (n : ℕ) → count (λ (m : ℕ). m) n (numbers reads.origins) ≤ 1
      origins_once n =
          let o : List ℕ = numbers reads.origins in
          let p : List ℕ = numbers reads.place_slots in
          let v : List ℕ = numbers reads.visit_slots in
          let i : List ℕ = numbers reads.item_slots in
          omega (
            arith,
            few_times (met_slots pages reads) from.once n,
            count-append (λ (m : ℕ). m) n (o ++ p ++ v ++ i)
                (flat_map (text_parts pages) (row_texts reads.places reads.items)),
            count-append (λ (m : ℕ). m) n (o ++ p ++ v) i,
            count-append (λ (m : ℕ). m) n (o ++ p) v,
            count-append (λ (m : ℕ). m) n o p,
          )

  -- slot 0 is that of none
  some : All (λ (a : KeptOrigin). 0 < a.origin.0) kept.origins
  some =
      All-from_recursion (λ (a : KeptOrigin). 0 < a.origin.0) kept.origins
      (weaker (λ (a : KeptOrigin). kind_at a.origin.0 pages ≡ Some kinds.Origin) (λ (a : KeptOrigin). 0 < a.origin.0)
      kept.origins
      (λ a is.
      (slot_bounds a.origin.0 pages
      (live_slot a.origin.0 pages (kind_live a.origin.0 kinds.Origin pages is (λ free. absurd (cc))))).0)
      (origin_kinds at kept pages held))

  -- each page names one of them
  known : All (λ (p : KeptPage). Contains (origin_names kept) p.origin.0) kept.pages
  known =
      All-from_recursion (λ (p : KeptPage). Contains (origin_names kept) p.origin.0) kept.pages
      (from_map (λ (p : Place). Contains (origin_names kept) p.origin.0) (place_at at) kept.pages
      (subst (AllByRecursion (λ (p : Place). Contains (origin_names kept) p.origin.0)) are.places
      (weaker (λ (p : Place). names_origin pages p ≡ true)
      (λ (p : Place). Contains (origin_names kept) p.origin.0) reads.places (λ p names_one. there p names_one)
      (all_pass (names_origin pages) reads.places owners.origins))))
    where
      there : (p : Place) → names_origin pages p ≡ true → Contains (origin_names kept) p.origin.0
      there p names_one =
          has_number (λ (a : KeptOrigin). a.origin.0) kept.origins p.origin.0
          (sym (list_any-map (λ (s : Slot). s.0 == p.origin.0) (λ (a : KeptOrigin). a.origin) kept.origins)
          ∙ sym (ap (is_in p.origin) are.origins)
          ∙ origin_there pages reads from p.origin (origin_by_kind (kind_at p.origin.0 pages) names_one))

  -- each of them has a page
  used : All (λ (a : KeptOrigin). Contains (page_origins kept) a.origin.0) kept.origins
  used =
      All-from_recursion (λ (a : KeptOrigin). Contains (page_origins kept) a.origin.0) kept.origins
      (from_map (λ (o : Slot). Contains (page_origins kept) o.0) (λ (a : KeptOrigin). a.origin) kept.origins
      (subst (AllByRecursion (λ (o : Slot). Contains (page_origins kept) o.0)) are.origins
      (weaker (λ (o : Slot). owned_by (origin_members reads.place_slots reads.places) o ≢ [])
      (λ (o : Slot). Contains (page_origins kept) o.0) reads.origins (λ o has. paged o has)
      (recursion_from_All (λ (o : Slot). owned_by (origin_members reads.place_slots reads.places) o ≢ [])
      reads.origins own.some_page))))
    where
      paged : (o : Slot) → owned_by (origin_members reads.place_slots reads.places) o ≢ []
          → Contains (page_origins kept) o.0
      paged o has =
          has_number (λ (p : KeptPage). p.origin.0) kept.pages o.0
          (some_kept (λ (p : KeptPage). p.origin.0 == o.0) kept.pages
          (λ none. has (pages_owned at kept reads are o ∙ ap (page_slots at) none)))

  -- two have the same name exactly where they have the same origin
  same : All (λ (p : KeptPage). All (AreAlike p) kept.pages) kept.pages
  same =
      All-weaker (λ (p : KeptPage). All (names_specs.AreAlike (named_page p)) (map named_page kept.pages))
      (λ (p : KeptPage). All (AreAlike p) kept.pages)
      (λ p alike. All-from_map (names_specs.AreAlike (named_page p)) named_page kept.pages alike) kept.pages
      (All-from_map (λ (a : Named). All (names_specs.AreAlike a) (map named_page kept.pages)) named_page kept.pages
      (subst AreNamed (sym (named_are reads.places reads.stored.pages)) names))

  pub names_origins : NamesOrigins kept
  names_origins = record { distinct = distinct; some = some; known = known; used = used; same = same }
