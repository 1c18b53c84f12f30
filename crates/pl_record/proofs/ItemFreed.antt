-- The slots of an item that goes: its own, and those of its title.
use Rattle.std.proofs.Common.{◌≡◌, ◌≢◌, ◌∙◌, ◌==◌, ◌≤◌, ◌∷◌, ◌++◌, ℕ, Bool, List, None, Option, Some, ap, arith}
use Rattle.std.proofs.Common.{cond, eq-eqb, eqb-true, false, inl, inr, refl, subst, sym, true, []}
use Rattle.std.specs.Option.{option_map}
use Rattle.std.proofs.lemmas.Bool.{cases_Bool, or_cases, or_parts, true≢false}
use Rattle.pl_base.specs.declared.id.Slot.{Slot}
use Rattle.pl_base.proofs.Truths.{no_test}
use Rattle.pl_record.specs.ChainMap.{AreApart, AreChains, ChainMap, IsLoose}
use Rattle.pl_record.specs.Chains.{IsAlone}
use Rattle.pl_record.specs.declared.rows.Item.{Item}
use Rattle.pl_record.specs.ItemChanges.{FreesItem, HoldsLeaf, LeavesOwner, RemovesItem, without_child_slot}
use Rattle.pl_record.specs.ItemChanges.{without_item_slot, without_reference_slot}
use Rattle.pl_record.specs.Rows.{item_row, record_at, row_in}
use Rattle.pl_record.specs.VisitChanges.{Leaves, without_member, without_slot}
use Rattle.pl_record.proofs.Bases.{both_only}
use Rattle.pl_record.proofs.ChainMaps.{apart_beside, live_apart, loose_beside, one_chain}
use Rattle.pl_record.proofs.ChainMapsKept.{alone_beside, alone_live, alone_rail, freed_chains, only_one}
use Rattle.pl_record.proofs.PagesTold.{kind_told}
use Rattle.pl_record.proofs.PlaceFreed.{free_gone}
use Rattle.pl_record.proofs.RecordMaps.{beside_records, given_records, part_record, rail_records, record_held}
use Rattle.pl_record.proofs.RecordMaps.{record_part}
use Rattle.pl_record.proofs.RowSets.{texts_by_parts}
use Rattle.pl_record.proofs.SlotsBeside.{held_idle}
use Rattle.pl_record.proofs.SlotSteps.{body_then, fields_body, given_beside, given_body, given_chain, link_missing}
use Rattle.pl_record.proofs.SlotSteps.{rail_body, row_by_kind, sideless_loose}
use Rattle.pl_record.proofs.TargetsDropped.{by_header}
use Rattle.pl_record.proofs.VisitFreed.{around, around_only, left_chains, left_loose, member_moved}
use Rattle.pl_rail.specs.declared.owner.Owner.TheVariants.{At, Header}
use Rattle.pl_rail.specs.Rails.{HasMember, Lists, is_in}
use Rattle.pl_rail.proofs.ListLaws.{one_list}
use Rattle.pl_rail.proofs.SideLaws.{other_number}
use Rattle.pl_sheets.specs.Sheets.{Pages, page_count}
use Rattle.pl_slot.specs.declared.kind.LiveKind.TheVariants as live
use Rattle.pl_slot.specs.declared.kind.SlotKind.TheVariants as kinds
use Rattle.pl_slot.specs.declared.links.Link.TheVariants.{First}
use Rattle.pl_slot.specs.declared.links.Rail.{Rail}
use Rattle.pl_slot.specs.declared.links.Rail.TheVariants.{Children, Live, OriginPages, PageVisits, References, Targets}
use Rattle.pl_slot.specs.declared.row.SlotRow.{SlotRow}
use Rattle.pl_slot.specs.declared.row.SlotRow.TheVariants as rows
use Rattle.pl_slot.specs.Arena.{ChangesOnly, is_among, live_at}
use Rattle.pl_slot.specs.Links.{ends_at, is_rail, kind_at, sides_at}
use Rattle.pl_slot.specs.Slot.{slot_kind}
use Rattle.pl_slot.proofs.LinkPlaces.{same_rail}
use Rattle.pl_text.specs.Chunks.{FreesSlots, Hold, HoldsPart, chunk_row, pages_of}
use Rattle.pl_text.proofs.Freeing.{GivenBack}
use Rattle.pl_text.proofs.Storing.{fields_freed}

-- ---- which links the slot of an item has

item_sides : (r : Rail) → is_rail r Live ≡ false → is_rail r Children ≡ false → is_rail r References ≡ false
    → sides_at r kinds.Item ≡ None
item_sides Live a b c = absurd (true≢false a)
item_sides Children a b c = absurd (true≢false b)
item_sides References a b c = absurd (true≢false c)
item_sides OriginPages a b c = refl
item_sides PageVisits a b c = refl
item_sides Targets a b c = refl

item_ends : (r : Rail) → is_rail r Children ≡ false → ends_at r kinds.Item ≡ None
item_ends Children other = absurd (true≢false other)
item_ends Live other = refl
item_ends OriginPages other = refl
item_ends PageVisits other = refl
item_ends Targets other = refl
item_ends References other = refl

items_children : References ≢ Children
items_children same = true≢false (ap (is_rail References) same)

children_items : Children ≢ References
children_items same = true≢false (ap (is_rail Children) same)

live_children : Live ≢ Children
live_children same = true≢false (ap (is_rail Live) same)

live_items : Live ≢ References
live_items same = true≢false (ap (is_rail Live) same)

children_live : Children ≢ Live
children_live same = true≢false (ap (is_rail Children) same)

pub item_live : kinds.Item ≢ kinds.Free
item_live same = absurd (cc)

-- ---- the slot of an item that goes

module _ (i : Item) (slot : Slot) (old : Pages) (item : kind_at slot.0 old ≡ Some kinds.Item)
    (of_all : HasMember Live (Header live.Item) slot old)
    (of_page : i.page.0 ≢ 0 → HasMember References (At i.page) slot old)
    (no_child : Lists Children (At slot) [] old) (left : Pages)
    (parent : LeavesOwner Children i.parent slot old left) where
  -- it is still among the items of its page
  pub page_member : i.page.0 ≢ 0 → HasMember References (At i.page) slot left
  page_member some =
      member_moved Children References (At i.page) slot old left parent.others items_children (of_page some)

  module _ (out : Pages) (page : LeavesOwner References i.page slot left out) where
    pub all_member : HasMember Live (Header live.Item) slot out
    all_member =
        member_moved References Live (Header live.Item) slot left out page.others live_items
        (member_moved Children Live (Header live.Item) slot old left parent.others live_children of_all)

    module _ (bare : Pages) (goes : Leaves Live (Header live.Item) slot out bare) where
      pub still_item : kind_at slot.0 bare ≡ Some kinds.Item
      still_item = goes.rest.kinds slot.0 ∙ page.kinds slot.0 ∙ parent.kinds slot.0 ∙ item

      module _ (new : Pages) (given : GivenBack slot bare new) where
        module _ (chains : ChainMap) (are : AreChains chains old) (of_parents : AreApart Children chains)
            (of_pages : AreApart References chains) (no_parent : i.parent.0 ≡ 0 → IsLoose Children slot chains)
            (no_page : i.page.0 ≡ 0 → IsLoose References slot chains) where
          abbrev first : ChainMap
          first = without_child_slot i slot chains

          abbrev second : ChainMap
          second = without_reference_slot i slot first

          abbrev third : ChainMap
          third = without_member Live (Header live.Item) slot second

          first_are : AreChains first left
          first_are = parent.chains chains are of_parents

          first_apart : AreApart References first
          first_apart = choose (i.parent.0 == 0)
            where
              choose : (b : Bool)
                  → AreApart References (cond b chains (without_member Children (At i.parent) slot chains))
              choose true = of_pages
              choose false =
                  apart_beside Children (At i.parent) (without_slot slot (chains Children (At i.parent))) chains
                  References refl of_pages

          first_loose : i.page.0 ≡ 0 → IsLoose References slot first
          first_loose none = choose (i.parent.0 == 0)
            where
              choose : (b : Bool)
                  → IsLoose References slot (cond b chains (without_member Children (At i.parent) slot chains))
              choose true = no_page none
              choose false =
                  loose_beside Children (At i.parent) (without_slot slot (chains Children (At i.parent))) chains
                  References slot refl (no_page none)

          second_are : AreChains second out
          second_are = page.chains first first_are first_apart

          second_children : IsLoose Children slot second
          second_children = choose (i.page.0 == 0)
            where
              before : IsLoose Children slot first
              before = parent.loose chains are of_parents no_parent

              choose : (b : Bool)
                  → IsLoose Children slot (cond b first (without_member References (At i.page) slot first))
              choose true = before
              choose false =
                  loose_beside References (At i.page) (without_slot slot (first References (At i.page))) first
                  Children slot refl before

          second_items : IsLoose References slot second
          second_items = page.loose first first_are first_apart first_loose

          second_apart : AreApart Live second
          second_apart = live_apart second out second_are

          third_are : AreChains third bare
          third_are =
              left_chains Live (Header live.Item) slot out bare goes all_member second second_are second_apart

          beside_live : (r : Rail) → is_rail r Live ≡ false → IsLoose r slot second → IsLoose r slot third
          beside_live r other loose =
              loose_beside Live (Header live.Item) (without_slot slot (second Live (Header live.Item))) second r
              slot other loose

          in_none : (r : Rail) → IsLoose r slot third
          in_none r = elim (cases_Bool (is_rail r Live)) [
            | inl same ↦
                subst (λ k. IsLoose k slot third) (sym (same_rail r Live same))
                (left_loose Live (Header live.Item) slot out bare goes all_member second second_are second_apart)
            | inr other ↦ elim (cases_Bool (is_rail r Children)) [
              | inl same ↦
                  subst (λ k. IsLoose k slot third) (sym (same_rail r Children same))
                  (beside_live Children refl second_children)
              | inr also ↦ elim (cases_Bool (is_rail r References)) [
                | inl same ↦
                    subst (λ k. IsLoose k slot third) (sym (same_rail r References same))
                    (beside_live References refl second_items)
                | inr further ↦
                    sideless_loose third bare third_are r slot kinds.Item still_item
                    (item_sides r other also further)
              ]
            ]
          ]

          none_left : third Children (At slot) ≡ []
          none_left =
              sym (one_chain third bare third_are Children (At slot) []
              (goes.others Children (At slot) [] children_live
              (page.others Children (At slot) [] children_items (parent.empty no_child))))

          owns_none : (r : Rail) → third r (At slot) ≡ []
          owns_none r = elim (cases_Bool (is_rail r Children)) [
            | inl same ↦ subst (λ k. third k (At slot) ≡ []) (sym (same_rail r Children same)) none_left
            | inr other ↦
                third_are.none r (At slot)
                (link_missing r First slot.0 kinds.Item bare still_item (item_ends r other))
          ]

          all_left : AreChains (without_item_slot i slot chains) new
          all_left = given_chain slot bare new given third third_are in_none owns_none

        others_lone : (chains : ChainMap) → AreChains chains old → (r : Rail) (other : Slot) → other ≢ slot
            → is_rail r Live ≡ false → (is_rail r Children ≡ true → IsLoose Children other chains)
            → (is_rail r References ≡ true → IsLoose References other chains) → IsAlone r other old
            → IsAlone r other new
        others_lone chains are r other apart not_live no_parent no_page alone =
            alone_live r other bare new
            (given_beside slot bare new given other.0
            (no_test (is_among other.0 (slot.0 ∷ []))
            (λ among. other_number other slot apart (only_one other.0 slot.0 among))))
            (alone_rail Live (Header live.Item) out bare r other goes.rest not_live
            (page.alone r other (λ _. apart) (λ same some slots lists.
            let has = of_page some in
            ap (is_in other)
            (one_list References (At i.page) slots (has.front ++ slot ∷ has.back) left lists
            (parent.others References (At i.page) (has.front ++ slot ∷ has.back) items_children has.lists)
            ∙ one_chain chains old are References (At i.page) (has.front ++ slot ∷ has.back) has.lists)
            ∙ no_page same (At i.page))
            (parent.alone r other (λ _. apart) (λ same some slots lists.
            ap (is_in other) (one_chain chains old are Children (At i.parent) slots lists)
            ∙ no_parent same (At i.parent)) alone)))

        abbrev around_all : List ℕ
        around_all = around Live (Header live.Item) slot out bare goes all_member

        last_pages : ChangesOnly (around_all ++ pages_of (slot.0 ∷ [])) out new
        last_pages =
            both_only around_all (pages_of (slot.0 ∷ [])) out bare new (omega (arith, goes.rest.as_many))
            (around_only Live (Header live.Item) slot out bare goes all_member) given.pages

        pub frees_item : page_count new ≡ page_count bare → FreesItem i slot old new
        frees_item as_many =
            record {
              records = λ n.
                  given_records slot.0 given.first bare new given.rows n
                  ∙ ap (λ r. cond (n == slot.0) None r)
                  (rail_records Live (Header live.Item) out bare goes.rest n ∙ page.records n ∙ parent.records n);
              chains = all_left;
              alone = others_lone;
              count = given.count ∙ goes.rest.count ∙ page.count ∙ parent.count;
              body =
                  body_then old left new (by_header old left parent.header)
                  (body_then left out new (by_header left out page.header)
                  (body_then out bare new (rail_body Live (Header live.Item) out bare goes.rest)
                  (given_body slot bare new given)));
              longer = omega (arith, parent.as_many, page.as_many, goes.rest.as_many, as_many);
              these = parent.these ++ (page.these ++ (around_all ++ pages_of (slot.0 ∷ [])));
              pages =
                  both_only parent.these (page.these ++ (around_all ++ pages_of (slot.0 ∷ []))) old left new
                  (omega (arith, parent.as_many)) parent.pages
                  (both_only page.these (around_all ++ pages_of (slot.0 ∷ [])) left out new
                  (omega (arith, page.as_many)) page.pages last_pages);
            }

-- ---- with the slots of its title

module _ (slot : Slot) (old : Pages) (held : HoldsLeaf slot old) where
  pub leaf_item : kind_at slot.0 old ≡ Some kinds.Item
  leaf_item =
      kind_told slot (item_row held.item) old
      (record_held (record { slot = slot; row = item_row held.item }) old held.row)

  -- no slot of the title is that of the item
  apart_title : is_among slot.0 held.text ≡ false
  apart_title =
      no_test (is_among slot.0 held.text) (λ among.
      choose (live_at slot.0 old) (λ row is. held_idle held.text held.title old held.held slot.0 row among is)
      (row_by_kind slot.0 kinds.Item old leaf_item item_live))
    where
      choose : (o : Option SlotRow) → ((row : SlotRow) → o ≡ Some row → slot_kind row ≡ kinds.Text)
          → option_map slot_kind o ≡ Some kinds.Item → ⊥
      choose None texts is = absurd (cc)
      choose (Some row) texts is =
          let text = texts row refl in
          let never : Some kinds.Text ≡ Some kinds.Item = ap Some (sym text) ∙ is in
          absurd (cc)

  module _ (left : Pages) (frees : FreesItem held.item slot old left) where
    -- the title is held as before
    pub title_left : Hold held.text held.title left
    title_left =
        texts_by_parts old left
        (λ n part next is.
        record_part n part next left
        (frees.records n ∙ ap (λ b. cond b None (record_at n old)) (other_slot n part next is)
        ∙ part_record n part next old is)) held.text held.title held.held
      where
        other_slot : (n : ℕ) (part : List ℕ) (next : Slot) → HoldsPart n part next old → (n == slot.0) ≡ false
        other_slot n part next is =
            no_test (n == slot.0) (λ same.
            let both : Some (item_row held.item) ≡ Some (chunk_row part next) =
            sym held.row ∙ ap (λ k. record_at k old) (sym (eqb-true n slot.0 same)) ∙ part_record n part next old is in
            absurd (cc))

    module _ (new : Pages) (freed : FreesSlots held.text left new) where
      all_gone : (n : ℕ) → is_among n (slot.0 ∷ held.text) ≡ true → record_at n new ≡ None
      all_gone n among = elim (or_cases (n == slot.0) (is_among n held.text) among) [
        | inl same ↦
            ap (λ k. record_at k new) (eqb-true n slot.0 same)
            ∙ beside_records held.text left new freed.others slot.0 apart_title
            ∙ frees.records slot.0 ∙ ap (λ b. cond b None (record_at slot.0 old)) (eq-eqb slot.0 slot.0 refl)
        | inr title ↦ free_gone n new (freed.free n title)
      ]

      all_others : (n : ℕ) → is_among n (slot.0 ∷ held.text) ≡ false → record_at n new ≡ record_at n old
      all_others n other =
          let parts = or_parts (n == slot.0) (is_among n held.text) other in
          beside_records held.text left new freed.others n parts.1
          ∙ frees.records n ∙ ap (λ b. cond b None (record_at n old)) parts.0

      pub removes_item : page_count left ≤ page_count new → RemovesItem held.item held.text slot old new
      removes_item more =
          record {
            gone = all_gone;
            others = all_others;
            chains = λ chains are of_parents of_pages no_parent no_page.
                freed_chains (without_item_slot held.item slot chains) held.text held.title left new
                (frees.chains chains are of_parents of_pages no_parent no_page) title_left freed;
            alone = λ chains are r other apart not_live no_parent no_page alone.
                alone_beside r other held.text left new freed.others (held_idle held.text held.title left title_left)
                (frees.alone chains are r other apart not_live no_parent no_page alone);
            count = omega (arith, freed.count, frees.count);
            body =
                body_then old left new frees.body
                (fields_body left new (fields_freed held.text left new freed));
            longer = omega (arith, frees.longer, more);
            these = frees.these ++ pages_of held.text;
            pages =
                both_only frees.these (pages_of held.text) old left new frees.longer frees.pages freed.pages;
          }

-- ---- the item that is read

item_of : Option SlotRow → Item → Item
item_of (Some (rows.Item kind lp ln id parent sp sn fc lc page rp rn text size added modified)) other =
    record {
      id = id;
      kind = kind;
      parent = parent;
      page = page;
      title = record { slot = text; length = size };
      added = added;
      modified = modified;
    }
item_of row other = other

-- a row tells one item
pub same_item : (i j : Item) (o : Option SlotRow) → o ≡ Some (item_row i) → o ≡ Some (item_row j) → i ≡ j
unfolding item_of
same_item i j o first second = ap (λ k. item_of k i) (sym first ∙ second)

-- it is the one that the slot is held to have
pub item_read : (slot : Slot) (pages : Pages) (i j : Item) → row_in slot pages ≡ Some (item_row i)
    → record_at slot.0 pages ≡ Some (item_row j) → i ≡ j
item_read slot pages i j read held =
    same_item i j (row_in slot pages) read
    (record_held (record { slot = slot; row = item_row j }) pages held)
