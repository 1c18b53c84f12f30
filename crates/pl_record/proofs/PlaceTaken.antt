-- The slots of a page that comes: its own behind all pages, also of its origin, and those of its
-- URL.
use Rattle.std.proofs.Common.{◌≡◌, ◌≢◌, ◌∙◌, ◌==◌, ◌||◌, ◌≤◌, ◌∷◌, ◌++◌, [], ℕ, List, IsSome, Some, ap, arith}
use Rattle.std.proofs.Common.{cond, eq-eqb, eqb-true, false, inl, inr, is_some, length, refl, sym, true}
use Rattle.std.proofs.lemmas.Bool.{cases_Bool, or_cases, or_parts, true≢false}
use Rattle.pl_base.specs.declared.id.PageId.{PageId}
use Rattle.pl_base.specs.declared.id.Slot.{Slot}
use Rattle.pl_base.proofs.Truths.{no_test}
use Rattle.pl_record.specs.ChainMap.{AreChains, ChainMap, IsLoose, with_chain}
use Rattle.pl_record.specs.Records.{unlinked}
use Rattle.pl_record.specs.Rows.{record_at}
use Rattle.pl_record.specs.SlotChanges.{Appends, InsertsPlace, KeepsAll, TakesPlace, new_place}
use Rattle.pl_record.proofs.Bases.{both_only}
use Rattle.pl_record.proofs.ChainMaps.{apart_beside, live_apart, loose_beside}
use Rattle.pl_record.proofs.ChainMapsKept.{alone_beside, alone_rail, only_one, stored_chains}
use Rattle.pl_record.proofs.LaidSlots.{kind_live}
use Rattle.pl_record.proofs.RecordMaps.{beside_records, rail_records, record_live, taken_records, text_moved}
use Rattle.pl_record.proofs.RowKinds.{link_there}
use Rattle.pl_record.proofs.SlotsBeside.{fresh_idle}
use Rattle.pl_record.proofs.SlotSteps.{Takes, among_more, appended_chains, around, body_then, both_within, fields_body}
use Rattle.pl_record.proofs.SlotSteps.{kind_kept, rail_body, taken_alone, taken_beside, taken_chain, taken_loose}
use Rattle.pl_rail.specs.declared.owner.Owner.TheVariants.{At, Header}
use Rattle.pl_rail.specs.declared.owner.Side.TheVariants.{Behind}
use Rattle.pl_rail.specs.Rails.{end_at, last_of, none, or_none, page_by}
use Rattle.pl_sheets.specs.Sheets.{Pages, page_count}
use Rattle.pl_slot.specs.declared.kind.LiveKind.TheVariants as live
use Rattle.pl_slot.specs.declared.kind.SlotKind.TheVariants as kinds
use Rattle.pl_slot.specs.declared.links.Link.TheVariants.{First}
use Rattle.pl_slot.specs.declared.links.Rail.TheVariants.{Live, OriginPages}
use Rattle.pl_slot.specs.declared.row.SlotRow.{SlotRow}
use Rattle.pl_slot.specs.Arena.{ChangesOnly, IsArena, KeepsFields, header_page, is_among, is_live, slot_page}
use Rattle.pl_slot.specs.Links.{kind_at}
use Rattle.pl_slot.proofs.TakenLaws.{keeps_both}
use Rattle.pl_text.specs.Chunks.{FreesSlots, StoresText, pages_of}
use Rattle.pl_text.proofs.Freeing.{beside}
use Rattle.pl_text.proofs.HeldTexts.{member_live}
use Rattle.pl_text.proofs.Storing.{fields_freed, given_up, given_up_count}

origin_live : kinds.Origin ≢ kinds.Free
origin_live same = absurd (cc)

-- ---- the slot of a page, behind all pages and those of its origin

module _ (row : SlotRow) (origin slot : Slot) (old taken last : Pages) (takes : Takes slot row old taken)
    (bare : unlinked row ≡ row) (lives : Appends Live (Header live.Place) slot taken last) where
  -- with the slot as the last page
  abbrev pub with_place : ChainMap → ChainMap
  with_place chains = with_chain Live (Header live.Place) (chains Live (Header live.Place) ++ slot ∷ []) chains

  pub place_live : (chains : ChainMap) → AreChains chains old → AreChains (with_place chains) last
  place_live chains are =
      let now = taken_chain slot row old taken takes bare chains are in
      appended_chains Live (Header live.Place) slot chains taken last now (live_apart chains taken now) refl lives

  pub place_loose : (chains : ChainMap) → AreChains chains old → IsLoose OriginPages slot (with_place chains)
  place_loose chains are =
      loose_beside Live (Header live.Place) (chains Live (Header live.Place) ++ slot ∷ []) chains OriginPages slot refl
      (taken_loose slot row old taken takes chains are OriginPages)

  module _ (is : kind_at origin.0 old ≡ Some kinds.Origin) where
    -- the origin still owns pages
    pub origin_there : IsSome (end_at Behind OriginPages (At origin) last)
    origin_there =
        link_there OriginPages First origin.0 kinds.Origin 12 last
        (lives.rest.kinds origin.0
        ∙ kind_kept origin.0 kinds.Origin old taken
        (taken_beside slot row old taken takes origin.0 (no_test (is_among origin.0 (slot.0 ∷ [])) (λ among.
        true≢false (sym (kind_live origin.0 kinds.Origin old is origin_live)
        ∙ ap (λ n. is_live n old) (only_one origin.0 slot.0 among) ∙ takes.taken.fresh)))) origin_live is) refl

    module _ (new : Pages) (pages : Appends OriginPages (At origin) slot last new) (known : ChainMap)
        (were : AreChains known old) where
      abbrev before : ℕ
      before = page_by (Header live.Place) (or_none (last_of (known Live (Header live.Place))))

      abbrev next : ℕ
      next = page_by (At origin) (or_none (last_of (known OriginPages (At origin))))

      abbrev these : List ℕ
      these = header_page ∷ slot_page slot.0 ∷ slot_page origin.0 ∷ before ∷ next ∷ []

      record Apart (p : ℕ) : Type 0 where
        head : (p == header_page) ≡ false
        own : (p == slot_page slot.0) ≡ false
        origins : (p == slot_page origin.0) ≡ false
        front : (p == before) ≡ false
        side : (p == next) ≡ false

      apart_from : (p : ℕ) → is_among p these ≡ false → Apart p
      apart_from p other =
          let one =
          or_parts (p == header_page) (is_among p (slot_page slot.0 ∷ slot_page origin.0 ∷ before ∷ next ∷ [])) other in
          let two = or_parts (p == slot_page slot.0) (is_among p (slot_page origin.0 ∷ before ∷ next ∷ [])) one.1 in
          let three = or_parts (p == slot_page origin.0) (is_among p (before ∷ next ∷ [])) two.1 in
          let four = or_parts (p == before) (is_among p (next ∷ [])) three.1 in
          record {
            head = one.0;
            own = two.0;
            origins = three.0;
            front = four.0;
            side = (or_parts (p == next) false four.1).0;
          }

      taken_pages : ChangesOnly these old taken
      taken_pages =
          among_more (header_page ∷ slot_page slot.0 ∷ []) these old taken
          (λ p other.
          let a = apart_from p other in
          beside (p == header_page) (is_among p (slot_page slot.0 ∷ [])) a.head (ap (λ b. b || false) a.own))
          takes.pages

      live_pages : ChangesOnly these taken last
      live_pages =
          among_more (before ∷ page_by (Header live.Place) slot ∷ header_page ∷ []) these taken last
          (λ p other.
          let a = apart_from p other in
          around (Header live.Place) (or_none (last_of (known Live (Header live.Place)))) slot none p a.head a.own
          a.front a.head)
          (lives.pages (known Live (Header live.Place))
          ((taken_chain slot row old taken takes bare known were).lists Live (Header live.Place) refl))

      origin_pages : ChangesOnly these last new
      origin_pages =
          among_more (next ∷ page_by (At origin) slot ∷ slot_page origin.0 ∷ []) these last new
          (λ p other.
          let a = apart_from p other in
          around (At origin) (or_none (last_of (known OriginPages (At origin)))) slot none p a.origins a.own a.side
          a.origins)
          (pages.pages (known OriginPages (At origin))
          ((place_live known were).lists OriginPages (At origin) origin_there))

      pub takes_place : TakesPlace row origin slot old new
      takes_place =
          record {
            fresh = takes.taken.fresh;
            records = λ n.
                rail_records OriginPages (At origin) last new pages.rest n
                ∙ rail_records Live (Header live.Place) taken last lives.rest n
                ∙ taken_records slot.0 row old taken takes.taken.live n
                ∙ ap (λ r. cond (n == slot.0) (Some r) (record_at n old)) bare;
            chains = λ chains are apart.
                appended_chains OriginPages (At origin) slot (with_place chains) last new (place_live chains are)
                (apart_beside Live (Header live.Place) (chains Live (Header live.Place) ++ slot ∷ []) chains OriginPages
                refl apart) origin_there pages;
            alone = λ r s other also alone.
                alone_rail OriginPages (At origin) last new r s pages.rest also
                (alone_rail Live (Header live.Place) taken last r s lives.rest other
                (taken_alone slot row old taken takes r s alone));
            count = pages.rest.count ∙ lives.rest.count ∙ takes.taken.count;
            body =
                body_then old taken new (fields_body old taken takes.fields)
                (body_then taken last new (rail_body Live (Header live.Place) taken last lives.rest)
                (rail_body OriginPages (At origin) last new pages.rest));
            longer = omega (arith, takes.longer, lives.rest.as_many, pages.rest.as_many);
            before = before;
            beside = next;
            pages =
                both_within these old taken new takes.longer taken_pages
                (both_within these taken last new (omega (arith, lives.rest.as_many)) live_pages origin_pages);
          }

-- ---- with the slots of its URL

module _ (url : List ℕ) (text : Slot) (old stored : Pages) (stores : StoresText text url old stored) where
  -- where an origin was is one still
  pub origin_stored : (origin : Slot) → kind_at origin.0 old ≡ Some kinds.Origin
      → kind_at origin.0 stored ≡ Some kinds.Origin
  origin_stored origin is =
      kind_kept origin.0 kinds.Origin old stored (stores.others origin.0 (no_test (is_among origin.0 stores.slots)
      (λ among. true≢false (sym (kind_live origin.0 kinds.Origin old is origin_live) ∙ stores.fresh origin.0 among))))
      origin_live is

  module _ (page : PageId) (origin slot : Slot) (new : Pages)
      (takes : TakesPlace (new_place page origin text (length url)) origin slot stored new) where
    -- the slot is none of those of the text
    apart_text : is_among slot.0 stores.slots ≡ false
    apart_text =
        no_test (is_among slot.0 stores.slots) (λ among.
        true≢false (sym (member_live slot.0 stores.slots url stored stores.held among) ∙ takes.fresh))

    fresh_all : (n : ℕ) → is_among n (slot.0 ∷ stores.slots) ≡ true → is_live n old ≡ false
    fresh_all n among = elim (or_cases (n == slot.0) (is_among n stores.slots) among) [
      | inl same ↦
          ap (λ k. is_live k old) (eqb-true n slot.0 same) ∙ ap is_some (sym (stores.others slot.0 apart_text))
          ∙ takes.fresh
      | inr further ↦ stores.fresh n further
    ]

    beside_slot : (n : ℕ) → (n == slot.0) ≡ false → record_at n new ≡ record_at n stored
    beside_slot n other =
        takes.records n
        ∙ ap (λ b. cond b (Some (new_place page origin text (length url))) (record_at n stored)) other

    still_held : (n : ℕ) (r : SlotRow) → record_at n stored ≡ Some r → record_at n new ≡ Some r
    still_held n r is = elim (cases_Bool (n == slot.0)) [
      | inl same ↦
          absurd (true≢false (sym (record_live n stored ∙ ap is_some is)
          ∙ ap (λ k. is_live k stored) (eqb-true n slot.0 same) ∙ takes.fresh))
      | inr other ↦ beside_slot n other ∙ is
    ]

    pub inserts_place : KeepsFields old stored → page_count old ≤ page_count stored
        → InsertsPlace page url origin slot old new
    inserts_place fields more =
        record {
          text = stores.slots;
          fresh = fresh_all;
          apart = apart_text;
          row =
              takes.records slot.0
              ∙ ap (λ b. cond b (Some (new_place page origin text (length url))) (record_at slot.0 stored))
              (eq-eqb slot.0 slot.0 refl)
              ∙ ap (λ t. Some (new_place page origin t (length url))) stores.first;
          held = text_moved stored new still_held stores.slots url stores.held;
          others = λ n other.
              let parts = or_parts (n == slot.0) (is_among n stores.slots) other in
              beside_slot n parts.0 ∙ beside_records stores.slots old stored stores.others n parts.1;
          chains = λ chains are apart.
              takes.chains chains (stored_chains chains text url old stored are stores fields) apart;
          alone = λ r s other also alone.
              takes.alone r s other also
              (alone_beside r s stores.slots old stored stores.others (fresh_idle stores.slots old stores.fresh) alone);
          count = omega (arith, takes.count, stores.count);
          body = body_then old stored new (fields_body old stored fields) takes.body;
          longer = omega (arith, more, takes.longer);
          before = takes.before;
          beside = takes.beside;
          pages =
              both_only (pages_of stores.slots)
              (header_page ∷ slot_page slot.0 ∷ slot_page origin.0 ∷ takes.before ∷ takes.beside ∷ []) old stored new
              more stores.pages takes.pages;
        }

  -- they are given back where none is left for the page
  pub place_refused : (new : Pages) → KeepsFields old stored → FreesSlots stores.slots stored new
      → (IsArena old → IsArena new) → KeepsAll old new
  place_refused new fields frees arena =
      record {
        live = given_up text url old stored new stores frees;
        count = given_up_count text url old stored new stores frees;
        fields = keeps_both old stored new fields (fields_freed stores.slots stored new frees);
        arena = arena;
      }
