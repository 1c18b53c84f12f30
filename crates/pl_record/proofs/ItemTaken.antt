-- The slot of an item that comes, among its parent's children and its page's items.
use Rattle.std.proofs.Common.{◌≡◌, ◌≢◌, ◌∙◌, ◌==◌, ◌||◌, ◌∷◌, ◌++◌, [], ℕ, List, None, Option, Some, ap, arith}
use Rattle.std.proofs.Common.{IfSome, IsSome, false, is_some, refl, subst, sym, true}
use Rattle.std.specs.Option.{option_and_then}
use Rattle.std.proofs.lemmas.Bool.{or_parts, true≢false}
use Rattle.pl_base.specs.declared.id.Slot.{Slot}
use Rattle.pl_base.proofs.Truths.{no_test}
use Rattle.pl_record.specs.ChainMap.{AreApart, AreChains, ChainMap, IsLoose, with_chain}
use Rattle.pl_record.specs.Chains.{IsAlone}
use Rattle.pl_record.specs.declared.rows.Item.{Item}
use Rattle.pl_record.specs.ItemChanges.{KeepsLoneItems, PutsReference, TakesItem, put_behind, with_child_slot}
use Rattle.pl_record.specs.Rows.{item_row}
use Rattle.pl_record.specs.SlotChanges.{Appends}
use Rattle.pl_record.proofs.Bases.{both_only}
use Rattle.pl_record.proofs.ChainMaps.{apart_beside, fresh_linkless, has_place, inserted_chains, live_apart}
use Rattle.pl_record.proofs.ChainMaps.{loose_beside}
use Rattle.pl_record.proofs.ChainMapsKept.{alone_rail, only_one, set_live_here, unlinked_bare}
use Rattle.pl_record.proofs.ChildPlace.{IsChildPlace, child_place}
use Rattle.pl_record.proofs.LaidSlots.{kind_live}
use Rattle.pl_record.proofs.LiveChains.{link_live}
use Rattle.pl_record.proofs.OneChains.{map_once}
use Rattle.pl_record.proofs.RecordMaps.{rail_records, taken_records}
use Rattle.pl_record.proofs.ReferencePut.{alone_inserted}
use Rattle.pl_record.proofs.RowKinds.{link_there}
use Rattle.pl_record.proofs.SlotSteps.{Takes, appended_chains, around, body_then, fields_body, kind_kept, rail_body}
use Rattle.pl_record.proofs.SlotSteps.{taken_alone, taken_beside, taken_chain, taken_kind, taken_loose}
use Rattle.pl_record.proofs.TargetPut.{Inserts, pages_around}
use Rattle.pl_rail.specs.declared.owner.Owner.TheVariants.{At, Header}
use Rattle.pl_rail.specs.declared.owner.Side.TheVariants.{Behind}
use Rattle.pl_rail.specs.Rails.{HasMember, HasPlace, Lists, end_at, last_of, named, none, or_none, page_by}
use Rattle.pl_sheets.specs.Sheets.{Pages}
use Rattle.pl_slot.specs.declared.kind.LiveKind.TheVariants as live
use Rattle.pl_slot.specs.declared.kind.SlotKind.{SlotKind}
use Rattle.pl_slot.specs.declared.kind.SlotKind.TheVariants as kinds
use Rattle.pl_slot.specs.declared.links.Link.TheVariants.{First, Next, Previous}
use Rattle.pl_slot.specs.declared.links.Rail.{Rail}
use Rattle.pl_slot.specs.declared.links.Rail.TheVariants.{Children, Live, References}
use Rattle.pl_slot.specs.Arena.{ChangesOnly, header_page, is_among, is_live, slot_page}
use Rattle.pl_slot.specs.Links.{is_rail, kind_at, link_at, link_in}
use Rattle.pl_slot.specs.Slot.{slot_bytes}
use Rattle.pl_slot.specs.SlotReading.{slot_in}
use Rattle.pl_slot.proofs.ArenaLaws.{then_only}
use Rattle.pl_text.proofs.Freeing.{beside}

place_live : kinds.Place ≢ kinds.Free
place_live same = absurd (cc)

item_live : kinds.Item ≢ kinds.Free
item_live same = absurd (cc)

-- ---- the chains

-- with the slot as the last item, and then also among its parent's children
abbrev pub with_last_item : Slot → ChainMap → ChainMap
with_last_item slot chains =
    with_chain Live (Header live.Item) (chains Live (Header live.Item) ++ slot ∷ []) chains

abbrev pub with_child_item : Item → Option Slot → Slot → ChainMap → ChainMap
with_child_item i after slot chains = with_child_slot i.parent after slot (with_last_item slot chains)

-- ---- the slot as the last item

module _ (i : Item) (slot : Slot) (old taken last : Pages) (takes : Takes slot (item_row i) old taken)
    (lives : Appends Live (Header live.Item) slot taken last) where
  live_beside : (n : ℕ) → is_live n old ≡ true → is_among n (slot.0 ∷ []) ≡ false
  live_beside n is =
      no_test (is_among n (slot.0 ∷ [])) (λ among.
      true≢false (sym is ∙ ap (λ k. is_live k old) (only_one n slot.0 among) ∙ takes.taken.fresh))

  pub last_chains : (chains : ChainMap) → AreChains chains old → AreChains (with_last_item slot chains) last
  last_chains chains are =
      let now = taken_chain slot (item_row i) old taken takes refl chains are in
      appended_chains Live (Header live.Item) slot chains taken last now (live_apart chains taken now) refl lives

  pub last_loose : (r : Rail) → is_rail r Live ≡ false → (chains : ChainMap) → AreChains chains old
      → IsLoose r slot (with_last_item slot chains)
  last_loose r other chains are =
      loose_beside Live (Header live.Item) (chains Live (Header live.Item) ++ slot ∷ []) chains r slot other
      (taken_loose slot (item_row i) old taken takes chains are r)

  -- what was a page or an item is one still
  last_kind : (n : ℕ) (kind : SlotKind) → kind ≢ kinds.Free → kind_at n old ≡ Some kind → kind_at n last ≡ Some kind
  last_kind n kind other is =
      lives.rest.kinds n
      ∙ kind_kept n kind old taken
      (taken_beside slot (item_row i) old taken takes n (live_beside n (kind_live n kind old is other))) other is

  pub own_kind : kind_at slot.0 last ≡ Some kinds.Item
  own_kind = lives.rest.kinds slot.0 ∙ taken_kind slot (item_row i) old taken takes kinds.Item refl

  last_pages : (known : ChainMap) → AreChains known old
      → ChangesOnly (header_page ∷ slot_page slot.0
      ∷ page_by (Header live.Item) (or_none (last_of (known Live (Header live.Item)))) ∷ []) old last
  last_pages known were =
      then_only (header_page ∷ slot_page slot.0 ∷ [])
      (before ∷ page_by (Header live.Item) slot ∷ header_page ∷ []) (header_page ∷ slot_page slot.0 ∷ before ∷ [])
      old taken last apart takes.longer takes.pages
      (lives.pages (known Live (Header live.Item))
      ((taken_chain slot (item_row i) old taken takes refl known were).lists Live (Header live.Item) refl))
    where
      before : ℕ
      before = page_by (Header live.Item) (or_none (last_of (known Live (Header live.Item))))

      apart : (p : ℕ) → is_among p (header_page ∷ slot_page slot.0 ∷ before ∷ []) ≡ false
          → (is_among p (header_page ∷ slot_page slot.0 ∷ []) ≡ false)
          × (is_among p (before ∷ page_by (Header live.Item) slot ∷ header_page ∷ []) ≡ false)
      apart p other =
          let one = or_parts (p == header_page) (is_among p (slot_page slot.0 ∷ before ∷ [])) other in
          let two = or_parts (p == slot_page slot.0) (is_among p (before ∷ [])) one.1 in (
            beside (p == header_page) (is_among p (slot_page slot.0 ∷ [])) one.0 (ap (λ b. b || false) two.0),
            around (Header live.Item) (or_none (last_of (known Live (Header live.Item)))) slot none p one.0 two.0
                (or_parts (p == before) false two.1).0 one.0,
          )

  -- it names no neighbour among items of a page
  new_alone : IsAlone References slot taken
  new_alone =
      let row = set_live_here slot.0 (item_row i) old taken takes.taken.live in
      record {
        before =
            link_live References Previous slot.0 taken ∙ ap (option_and_then (link_in References Previous)) row
            ∙ ap Some (unlinked_bare (item_row i) refl References Previous (slot_in 40 (slot_bytes (item_row i))) refl);
        behind =
            link_live References Next slot.0 taken ∙ ap (option_and_then (link_in References Next)) row
            ∙ ap Some (unlinked_bare (item_row i) refl References Next (slot_in 44 (slot_bytes (item_row i))) refl);
      }

  -- ---- among its parent's children

  module _ (parent_is : kind_at i.parent.0 old ≡ Some kinds.Item) (after : Option Slot)
      (member : IfSome after (λ s. HasMember Children (At i.parent) s old)) where
    parent_there : IsSome (end_at Behind Children (At i.parent) last)
    parent_there =
        link_there Children First i.parent.0 kinds.Item 28 last (last_kind i.parent.0 kinds.Item item_live parent_is)
        refl

    children_place : (chains : ChainMap) → AreChains chains old → IsChildPlace after (chains Children (At i.parent))
    children_place chains are =
        child_place i.parent after (chains Children (At i.parent)) old
        (are.lists Children (At i.parent) (link_there Children First i.parent.0 kinds.Item 28 old parent_is refl))
        member

    pub item_place : (chains : ChainMap) → AreChains chains old → HasPlace Children (At i.parent) after last
    item_place chains are =
        let p = children_place chains are in
        has_place (with_last_item slot chains) last (last_chains chains are) Children (At i.parent) p.front p.back
        after parent_there p.is p.last

    module _ (next : Pages) (inserts : Inserts Children (At i.parent) after slot last next) where
      pub child_chains : (chains : ChainMap) → AreChains chains old → AreApart Children chains
          → AreChains (with_child_item i after slot chains) next
      child_chains chains are apart =
          let p = children_place chains are in
          subst (λ l. AreChains (with_chain Children (At i.parent) l (with_last_item slot chains)) next)
          (sym (p.placed slot))
          (inserted_chains Children (At i.parent) slot p.front p.back (with_last_item slot chains)
          (apart_beside Live (Header live.Item) (chains Live (Header live.Item) ++ slot ∷ []) chains Children refl
          apart) p.is after last next (last_chains chains are) parent_there p.last inserts.list inserts.owners
          inserts.others
          inserts.rest)

      pub reference_apart : (chains : ChainMap) → AreApart References chains
          → AreApart References (with_child_item i after slot chains)
      reference_apart chains apart =
          apart_beside Children (At i.parent) (put_behind after slot (chains Children (At i.parent)))
          (with_last_item slot chains) References refl
          (apart_beside Live (Header live.Item) (chains Live (Header live.Item) ++ slot ∷ []) chains References refl
          apart)

      loose_then : (s : Slot) (chains : ChainMap) → IsLoose References s chains
          → IsLoose References s (with_child_item i after slot chains)
      loose_then s chains loose =
          loose_beside Children (At i.parent) (put_behind after slot (chains Children (At i.parent)))
          (with_last_item slot chains) References s refl
          (loose_beside Live (Header live.Item) (chains Live (Header live.Item) ++ slot ∷ []) chains References s refl
          loose)

      pub reference_loose : (chains : ChainMap) → AreChains chains old
          → IsLoose References slot (with_child_item i after slot chains)
      reference_loose chains are =
          loose_then slot chains (taken_loose slot (item_row i) old taken takes chains are References)

      pub still_own : kind_at slot.0 next ≡ Some kinds.Item
      still_own = inserts.rest.kinds slot.0 ∙ own_kind

      pub still_page : IfSome (named i.page) (λ s. kind_at s.0 old ≡ Some kinds.Place)
          → IfSome (named i.page) (λ s. kind_at s.0 next ≡ Some kinds.Place)
      still_page is = choose (named i.page) is
        where
          choose : (o : Option Slot) → IfSome o (λ s. kind_at s.0 old ≡ Some kinds.Place)
              → IfSome o (λ s. kind_at s.0 next ≡ Some kinds.Place)
          choose None known = tt
          choose (Some s) known = inserts.rest.kinds s.0 ∙ last_kind s.0 kinds.Place place_live known

      -- ---- among its page's items

      module _ (new : Pages) (puts : PutsReference i slot next new) (known : ChainMap) (were : AreChains known old)
          (apart : AreApart Children known) where
        same_map : (chains : ChainMap) → AreChains chains old → chains ≡ known
        same_map chains are =
            let one : (c : ChainMap) × AreChains c old = (chains, are) in
            let other : (c : ChainMap) × AreChains c old = (known, were) in
            ap (λ (p : (c : ChainMap) × AreChains c old). p.0) (map_once old one other)

        -- a slot with a neighbour's link was live, and so is none that came
        was_other : (r : Rail) (s : Slot) → IsAlone r s old → s ≢ slot
        was_other r s alone same =
            true≢false (ap is_some (sym alone.before ∙ ap (λ (k : Slot). link_at r Previous k.0 old) same
            ∙ fresh_linkless slot.0 old takes.taken.fresh r Previous))

        still_alone : (chains : ChainMap) → AreChains chains old → KeepsLoneItems chains old new
        still_alone chains are r s not_live no_child no_item alone =
            let other = was_other r s alone in
            let same = same_map chains are in
            puts.alone (with_child_item i after slot known) (child_chains known were apart) r s
            (λ is. (other, loose_then s known (subst (λ c. IsLoose References s c) same (no_item is))))
            (alone_inserted Children (At i.parent) after slot (known Children (At i.parent)) last next inserts
            ((last_chains known were).lists Children (At i.parent) parent_there) r s
            (λ is. (other, subst (λ c. IsLoose Children s c) same (no_child is) (At i.parent)))
            (alone_rail Live (Header live.Item) taken last r s lives.rest not_live
            (taken_alone slot (item_row i) old taken takes r s alone)))

        pub takes_item : TakesItem i after slot old new
        takes_item =
            let p = children_place known were in
            let first : List ℕ =
            header_page ∷ slot_page slot.0
            ∷ page_by (Header live.Item) (or_none (last_of (known Live (Header live.Item)))) ∷ [] in
            let middle : List ℕ = pages_around (At i.parent) p.front slot p.back in
            record {
              fresh = takes.taken.fresh;
              records = λ n.
                  puts.records n ∙ rail_records Children (At i.parent) last next inserts.rest n
                  ∙ rail_records Live (Header live.Item) taken last lives.rest n
                  ∙ taken_records slot.0 (item_row i) old taken takes.taken.live n;
              chains = λ chains are one also.
                  puts.chains (with_child_item i after slot chains) (child_chains chains are one)
                  (reference_apart chains also);
              alone = still_alone;
              own = λ zero_is.
                  puts.own zero_is
                  (alone_rail Children (At i.parent) last next References slot inserts.rest refl
                  (alone_rail Live (Header live.Item) taken last References slot lives.rest refl new_alone));
              count = puts.count ∙ inserts.rest.count ∙ lives.rest.count ∙ takes.taken.count;
              body =
                  body_then old taken new (fields_body old taken takes.fields)
                  (body_then taken last new (rail_body Live (Header live.Item) taken last lives.rest)
                  (body_then last next new (rail_body Children (At i.parent) last next inserts.rest) puts.body));
              longer = omega (arith, takes.longer, lives.rest.as_many, inserts.rest.as_many, puts.as_many);
              these = first ++ (middle ++ puts.these);
              pages =
                  both_only first (middle ++ puts.these) old last new
                  (omega (arith, takes.longer, lives.rest.as_many)) (last_pages known were)
                  (both_only middle puts.these last next new (omega (arith, inserts.rest.as_many))
                  (inserts.pages p.front p.back
                  (subst (λ l. Lists Children (At i.parent) l last) p.is
                  ((last_chains known were).lists Children (At i.parent) parent_there)) p.last) puts.pages);
            }
