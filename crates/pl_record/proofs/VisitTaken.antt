-- The slot of a visit that comes, among its page's visits and its source's targets.
use Rattle.std.proofs.Common.{◌≡◌, ◌≢◌, ◌∙◌, ◌==◌, ◌||◌, ◌∷◌, ◌++◌, [], ℕ, List, None, Option, Some, ap, arith, cond}
use Rattle.std.proofs.Common.{IfSome, IsSome, false, is_some, refl, subst, sym, true}
use Rattle.std.specs.Option.{option_and_then, option_map}
use Rattle.std.proofs.lemmas.Bool.{or_parts, or_right, true≢false}
use Rattle.pl_base.specs.declared.date.Micros.{Micros}
use Rattle.pl_base.specs.declared.id.Slot.{Slot}
use Rattle.pl_base.proofs.Truths.{no_test}
use Rattle.pl_record.specs.ChainMap.{AreApart, AreChains, ChainMap, IsLoose, with_chain}
use Rattle.pl_record.specs.Chains.{IsAlone}
use Rattle.pl_record.specs.declared.rows.Visit.{Visit}
use Rattle.pl_record.specs.Records.{unlinked}
use Rattle.pl_record.specs.Rows.{record_at, visit_row}
use Rattle.pl_record.specs.SlotChanges.{Appends}
use Rattle.pl_record.specs.VisitChanges.{IsPlaceInTime, PutsTarget, TakesVisit, date_in, is_after, put_in_time}
use Rattle.pl_record.specs.VisitChanges.{visit_date}
use Rattle.pl_record.proofs.Bases.{both_only}
use Rattle.pl_record.proofs.ChainMaps.{apart_beside, chain_live, fresh_linkless, has_place, inserted_chains, live_apart}
use Rattle.pl_record.proofs.ChainMaps.{loose_beside}
use Rattle.pl_record.proofs.ChainMapsKept.{alone_rail, only_one, set_live_here, unlinked_bare}
use Rattle.pl_record.proofs.LaidSlots.{kind_live}
use Rattle.pl_record.proofs.LiveChains.{link_live}
use Rattle.pl_record.proofs.OneChains.{map_once}
use Rattle.pl_record.proofs.RecordMaps.{beside_records, rail_records, taken_records}
use Rattle.pl_record.proofs.RowKinds.{link_there}
use Rattle.pl_record.proofs.SlotSteps.{Takes, appended_chains, around, body_then, fields_body, kind_kept, rail_body}
use Rattle.pl_record.proofs.SlotSteps.{taken_alone, taken_beside, taken_chain, taken_kind, taken_loose}
use Rattle.pl_record.proofs.TargetPut.{Inserts, pages_around}
use Rattle.pl_rail.specs.declared.owner.Owner.TheVariants.{At, Header}
use Rattle.pl_rail.specs.declared.owner.Side.TheVariants.{Behind}
use Rattle.pl_rail.specs.Rails.{HasPlace, Lists, end_at, is_in, last_of, named, none, or_none, page_by}
use Rattle.pl_rail.proofs.ListLaws.{in_front}
use Rattle.pl_sheets.specs.Sheets.{Pages}
use Rattle.pl_slot.specs.declared.kind.LiveKind.TheVariants as live
use Rattle.pl_slot.specs.declared.kind.SlotKind.{SlotKind}
use Rattle.pl_slot.specs.declared.kind.SlotKind.TheVariants as kinds
use Rattle.pl_slot.specs.declared.links.Link.TheVariants.{First, Next, Previous}
use Rattle.pl_slot.specs.declared.links.Rail.{Rail}
use Rattle.pl_slot.specs.declared.links.Rail.TheVariants.{Live, PageVisits, Targets}
use Rattle.pl_slot.specs.declared.row.SlotRow.{SlotRow}
use Rattle.pl_slot.specs.declared.row.SlotRow.TheVariants.{Free}
use Rattle.pl_slot.specs.Arena.{ChangesOnly, header_page, is_among, is_live, live_row, row_at, slot_page}
use Rattle.pl_slot.specs.Links.{is_rail, kind_at, link_at, link_in}
use Rattle.pl_slot.specs.Slot.{slot_bytes}
use Rattle.pl_slot.specs.SlotReading.{slot_in}
use Rattle.pl_slot.proofs.ArenaLaws.{then_only}
use Rattle.pl_text.proofs.Freeing.{beside}

place_live : kinds.Place ≢ kinds.Free
place_live same = absurd (cc)

visit_live : kinds.Visit ≢ kinds.Free
visit_live same = absurd (cc)

-- ---- the chains

-- with the slot as the last visit, and then also among its page's
abbrev pub with_last_visit : Slot → ChainMap → ChainMap
with_last_visit slot chains =
    with_chain Live (Header live.Visit) (chains Live (Header live.Visit) ++ slot ∷ []) chains

abbrev pub with_page_visit : Pages → Visit → Slot → ChainMap → ChainMap
with_page_visit pages v slot chains =
    with_chain PageVisits (At v.page) (put_in_time pages v.date slot (chains PageVisits (At v.page)))
    (with_last_visit slot chains)

-- ---- dates are those of records

date_by_record : (pages : Pages) (s : Slot)
    → date_in pages s ≡ option_and_then visit_date (record_at s.0 pages)
date_by_record pages s = choose (row_at s.0 pages)
  where
    choose : (o : Option SlotRow)
        → option_and_then visit_date (option_map unlinked o)
        ≡ option_and_then visit_date (option_map unlinked (option_and_then live_row o))
    choose None = refl
    choose (Some (Free next)) = refl
    choose (Some row) = refl

put_same : (old new : Pages) (date : Micros) (slot : Slot) (xs : List Slot)
    → ((s : Slot) → is_in s xs ≡ true → date_in new s ≡ date_in old s)
    → put_in_time new date slot xs ≡ put_in_time old date slot xs
put_same old new date slot [] same = refl
put_same old new date slot (x ∷ xs) same =
    let rest : put_in_time new date slot xs ≡ put_in_time old date slot xs =
    put_same old new date slot xs (λ s among. same s (or_right (x.0 == s.0) (is_in s xs) among)) in
    let here = same x (in_front x [] xs) in
    λ i. cond (is_after date (here i)) (x ∷ rest i) (slot ∷ x ∷ xs)

-- ---- the slot as the last visit

module _ (v : Visit) (slot : Slot) (old taken last : Pages) (takes : Takes slot (visit_row v) old taken)
    (lives : Appends Live (Header live.Visit) slot taken last) where
  live_beside : (n : ℕ) → is_live n old ≡ true → is_among n (slot.0 ∷ []) ≡ false
  live_beside n is =
      no_test (is_among n (slot.0 ∷ [])) (λ among.
      true≢false (sym is ∙ ap (λ k. is_live k old) (only_one n slot.0 among) ∙ takes.taken.fresh))

  pub last_chains : (chains : ChainMap) → AreChains chains old → AreChains (with_last_visit slot chains) last
  last_chains chains are =
      let now = taken_chain slot (visit_row v) old taken takes refl chains are in
      appended_chains Live (Header live.Visit) slot chains taken last now (live_apart chains taken now) refl lives

  pub last_loose : (r : Rail) → is_rail r Live ≡ false → (chains : ChainMap) → AreChains chains old
      → IsLoose r slot (with_last_visit slot chains)
  last_loose r other chains are =
      loose_beside Live (Header live.Visit) (chains Live (Header live.Visit) ++ slot ∷ []) chains r slot other
      (taken_loose slot (visit_row v) old taken takes chains are r)

  -- what was a page or a visit is one still
  last_kind : (n : ℕ) (kind : SlotKind) → kind ≢ kinds.Free → kind_at n old ≡ Some kind → kind_at n last ≡ Some kind
  last_kind n kind other is =
      lives.rest.kinds n
      ∙ kind_kept n kind old taken
      (taken_beside slot (visit_row v) old taken takes n (live_beside n (kind_live n kind old is other))) other is

  pub own_kind : kind_at slot.0 last ≡ Some kinds.Visit
  own_kind =
      lives.rest.kinds slot.0 ∙ taken_kind slot (visit_row v) old taken takes kinds.Visit refl

  last_pages : (known : ChainMap) → AreChains known old
      → ChangesOnly (header_page ∷ slot_page slot.0
      ∷ page_by (Header live.Visit) (or_none (last_of (known Live (Header live.Visit)))) ∷ []) old last
  last_pages known were =
      then_only (header_page ∷ slot_page slot.0 ∷ [])
      (before ∷ page_by (Header live.Visit) slot ∷ header_page ∷ []) (header_page ∷ slot_page slot.0 ∷ before ∷ [])
      old taken last apart takes.longer takes.pages
      (lives.pages (known Live (Header live.Visit))
      ((taken_chain slot (visit_row v) old taken takes refl known were).lists Live (Header live.Visit) refl))
    where
      before : ℕ
      before = page_by (Header live.Visit) (or_none (last_of (known Live (Header live.Visit))))

      apart : (p : ℕ) → is_among p (header_page ∷ slot_page slot.0 ∷ before ∷ []) ≡ false
          → (is_among p (header_page ∷ slot_page slot.0 ∷ []) ≡ false)
          × (is_among p (before ∷ page_by (Header live.Visit) slot ∷ header_page ∷ []) ≡ false)
      apart p other =
          let one = or_parts (p == header_page) (is_among p (slot_page slot.0 ∷ before ∷ [])) other in
          let two = or_parts (p == slot_page slot.0) (is_among p (before ∷ [])) one.1 in (
            beside (p == header_page) (is_among p (slot_page slot.0 ∷ [])) one.0 (ap (λ b. b || false) two.0),
            around (Header live.Visit) (or_none (last_of (known Live (Header live.Visit)))) slot none p one.0 two.0
                (or_parts (p == before) false two.1).0 one.0,
          )

  -- it names no neighbour among targets
  new_alone : IsAlone Targets slot taken
  new_alone =
      let row = set_live_here slot.0 (visit_row v) old taken takes.taken.live in
      record {
        before =
            link_live Targets Previous slot.0 taken ∙ ap (option_and_then (link_in Targets Previous)) row
            ∙ ap Some (unlinked_bare (visit_row v) refl Targets Previous (slot_in 32 (slot_bytes (visit_row v))) refl);
        behind =
            link_live Targets Next slot.0 taken ∙ ap (option_and_then (link_in Targets Next)) row
            ∙ ap Some (unlinked_bare (visit_row v) refl Targets Next (slot_in 36 (slot_bytes (visit_row v))) refl);
      }

  -- ---- among its page's

  module _ (page_is : kind_at v.page.0 old ≡ Some kinds.Place) where
    page_there : IsSome (end_at Behind PageVisits (At v.page) last)
    page_there =
        link_there PageVisits First v.page.0 kinds.Place 28 last
        (last_kind v.page.0 kinds.Place place_live page_is) refl

    pub page_lists : (chains : ChainMap) → AreChains chains old
        → Lists PageVisits (At v.page) (chains PageVisits (At v.page)) last
    page_lists chains are = (last_chains chains are).lists PageVisits (At v.page) page_there

    module _ (after : Option Slot)
        (place : (visits : List Slot) → Lists PageVisits (At v.page) visits last
        → IsPlaceInTime v.date after visits last)
      where
        page_place : (chains : ChainMap) → AreChains chains old
            → IsPlaceInTime v.date after (chains PageVisits (At v.page)) last
        page_place chains are = place (chains PageVisits (At v.page)) (page_lists chains are)

        pub visit_place : (chains : ChainMap) → AreChains chains old → HasPlace PageVisits (At v.page) after last
        visit_place chains are =
            let p = page_place chains are in
            has_place (with_last_visit slot chains) last (last_chains chains are) PageVisits (At v.page) p.front p.back
            after page_there p.is p.last

        -- those of the page had their dates before
        placed : (chains : ChainMap) (are : AreChains chains old)
            → put_in_time old v.date slot (chains PageVisits (At v.page))
            ≡ (page_place chains are).front ++ slot ∷ (page_place chains are).back
        placed chains are =
            sym (put_same old last v.date slot (chains PageVisits (At v.page)) (λ s among.
            date_by_record last s
            ∙ ap (option_and_then visit_date)
            (rail_records Live (Header live.Visit) taken last lives.rest s.0
            ∙ beside_records (slot.0 ∷ []) old taken (taken_beside slot (visit_row v) old taken takes) s.0
            (live_beside s.0 (chain_live chains old are PageVisits (At v.page) s among)))
            ∙ sym (date_by_record old s)))
            ∙ (page_place chains are).placed slot

        module _ (next : Pages) (inserts : Inserts PageVisits (At v.page) after slot last next) where
          pub page_chains : (chains : ChainMap) → AreChains chains old → AreApart PageVisits chains
              → AreChains (with_page_visit old v slot chains) next
          page_chains chains are apart =
              let p = page_place chains are in
              subst (λ l. AreChains (with_chain PageVisits (At v.page) l (with_last_visit slot chains)) next)
              (sym (placed chains are))
              (inserted_chains PageVisits (At v.page) slot p.front p.back (with_last_visit slot chains)
              (apart_beside Live (Header live.Visit) (chains Live (Header live.Visit) ++ slot ∷ []) chains PageVisits
              refl
              apart) p.is after last next (last_chains chains are) page_there p.last inserts.list inserts.owners
              inserts.others inserts.rest)

          pub target_apart : (chains : ChainMap) → AreApart Targets chains
              → AreApart Targets (with_page_visit old v slot chains)
          target_apart chains apart =
              apart_beside PageVisits (At v.page) (put_in_time old v.date slot (chains PageVisits (At v.page)))
              (with_last_visit slot chains) Targets refl
              (apart_beside Live (Header live.Visit) (chains Live (Header live.Visit) ++ slot ∷ []) chains Targets refl
              apart)

          loose_then : (s : Slot) (chains : ChainMap) → IsLoose Targets s chains
              → IsLoose Targets s (with_page_visit old v slot chains)
          loose_then s chains loose =
              loose_beside PageVisits (At v.page) (put_in_time old v.date slot (chains PageVisits (At v.page)))
              (with_last_visit slot chains) Targets s refl
              (loose_beside Live (Header live.Visit) (chains Live (Header live.Visit) ++ slot ∷ []) chains Targets s
              refl
              loose)

          pub target_loose : (chains : ChainMap) → AreChains chains old
              → IsLoose Targets slot (with_page_visit old v slot chains)
          target_loose chains are =
              loose_then slot chains (taken_loose slot (visit_row v) old taken takes chains are Targets)

          pub still_own : kind_at slot.0 next ≡ Some kinds.Visit
          still_own = inserts.rest.kinds slot.0 ∙ own_kind

          pub still_source : IfSome (named v.source) (λ s. kind_at s.0 old ≡ Some kinds.Visit)
              → IfSome (named v.source) (λ s. kind_at s.0 next ≡ Some kinds.Visit)
          still_source is = choose (named v.source) is
            where
              choose : (o : Option Slot) → IfSome o (λ s. kind_at s.0 old ≡ Some kinds.Visit)
                  → IfSome o (λ s. kind_at s.0 next ≡ Some kinds.Visit)
              choose None known = tt
              choose (Some s) known = inserts.rest.kinds s.0 ∙ last_kind s.0 kinds.Visit visit_live known

          -- ---- among its source's targets

          module _ (new : Pages) (puts : PutsTarget v slot next new) (known : ChainMap) (were : AreChains known old)
              (apart : AreApart PageVisits known) where
            same_map : (chains : ChainMap) → AreChains chains old → chains ≡ known
            same_map chains are =
                let one : (c : ChainMap) × AreChains c old = (chains, are) in
                let other : (c : ChainMap) × AreChains c old = (known, were) in
                ap (λ (p : (c : ChainMap) × AreChains c old). p.0) (map_once old one other)

            next_alone : (r : Rail) (s : Slot) → is_rail r Live ≡ false → is_rail r PageVisits ≡ false
                → IsAlone r s taken → IsAlone r s next
            next_alone r s not_live not_page alone =
                alone_rail PageVisits (At v.page) last next r s inserts.rest not_page
                (alone_rail Live (Header live.Visit) taken last r s lives.rest not_live alone)

            still_alone : (chains : ChainMap) → AreChains chains old → (r : Rail) (s : Slot) → is_rail r Live ≡ false
                → is_rail r PageVisits ≡ false → (is_rail r Targets ≡ true → IsLoose Targets s chains)
                → IsAlone r s old → IsAlone r s new
            still_alone chains are r s not_live not_page loose alone =
                puts.alone (with_page_visit old v slot known) (page_chains known were apart) r s
                (λ is. (
                  λ same.
                      true≢false (ap is_some (sym alone.before ∙ ap (λ (k : Slot). link_at r Previous k.0 old) same
                      ∙ fresh_linkless slot.0 old takes.taken.fresh r Previous)),
                  loose_then s known (subst (λ c. IsLoose Targets s c) (same_map chains are) (loose is)),
                ))
                (next_alone r s not_live not_page (taken_alone slot (visit_row v) old taken takes r s alone))

            pub takes_visit : TakesVisit v slot old new
            takes_visit =
                let p = page_place known were in
                let first : List ℕ =
                header_page ∷ slot_page slot.0
                ∷ page_by (Header live.Visit) (or_none (last_of (known Live (Header live.Visit)))) ∷ [] in
                let middle : List ℕ = pages_around (At v.page) p.front slot p.back in
                record {
                  fresh = takes.taken.fresh;
                  records = λ n.
                      puts.records n ∙ rail_records PageVisits (At v.page) last next inserts.rest n
                      ∙ rail_records Live (Header live.Visit) taken last lives.rest n
                      ∙ taken_records slot.0 (visit_row v) old taken takes.taken.live n;
                  chains = λ chains are beside also.
                      puts.chains (with_page_visit old v slot chains) (page_chains chains are beside)
                      (target_apart chains also);
                  alone = still_alone;
                  own = λ zero_is. puts.own zero_is (next_alone Targets slot refl refl new_alone);
                  count = puts.count ∙ inserts.rest.count ∙ lives.rest.count ∙ takes.taken.count;
                  body =
                      body_then old taken new (fields_body old taken takes.fields)
                      (body_then taken last new (rail_body Live (Header live.Visit) taken last lives.rest)
                      (body_then last next new (rail_body PageVisits (At v.page) last next inserts.rest) puts.body));
                  longer = omega (arith, takes.longer, lives.rest.as_many, inserts.rest.as_many, puts.as_many);
                  these = first ++ (middle ++ puts.these);
                  few = omega (arith, puts.few);
                  pages =
                      both_only first (middle ++ puts.these) old last new
                      (omega (arith, takes.longer, lives.rest.as_many)) (last_pages known were)
                      (both_only middle puts.these last next new (omega (arith, inserts.rest.as_many))
                      (inserts.pages p.front p.back
                      (subst (λ l. Lists PageVisits (At v.page) l last) p.is (page_lists known were)) p.last)
                      puts.pages);
                }
