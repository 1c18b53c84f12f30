-- The slots of an item that comes: its own in its chains, and those of its title.
use Rattle.std.proofs.Common.{◌≡◌, ◌≢◌, ◌∙◌, ◌==◌, ◌≤◌, ◌∷◌, ◌++◌, ℕ, List, IfSome, None, Option, Some, ap, arith}
use Rattle.std.proofs.Common.{cond, eq-eqb, eqb-true, false, inl, inr, is_some, length, refl, sym, true}
use Rattle.std.proofs.lemmas.Bool.{cases_Bool, or_cases, or_parts, true≢false}
use Rattle.pl_base.specs.declared.id.Slot.{Slot}
use Rattle.pl_base.proofs.Truths.{no_test}
use Rattle.pl_record.specs.ChainMap.{AreChains, ChainMap}
use Rattle.pl_record.specs.declared.rows.Item.{Item}
use Rattle.pl_record.specs.ItemChanges.{InsertsItem, TakesItem}
use Rattle.pl_record.specs.Rows.{item_row, record_at}
use Rattle.pl_record.specs.SlotChanges.{KeepsAll}
use Rattle.pl_record.proofs.Bases.{both_only}
use Rattle.pl_record.proofs.ChainMaps.{has_member, one_chain}
use Rattle.pl_record.proofs.ChainMapsKept.{alone_beside, stored_chains}
use Rattle.pl_record.proofs.LaidSlots.{kind_live}
use Rattle.pl_record.proofs.RecordMaps.{beside_records, record_live, text_moved}
use Rattle.pl_record.proofs.SlotsBeside.{fresh_idle}
use Rattle.pl_record.proofs.SlotSteps.{body_then, fields_body, kind_kept}
use Rattle.pl_rail.specs.declared.owner.Owner.{Owner}
use Rattle.pl_rail.specs.Rails.{HasMember, named}
use Rattle.pl_sheets.specs.Sheets.{Pages, page_count}
use Rattle.pl_slot.specs.declared.kind.SlotKind.{SlotKind}
use Rattle.pl_slot.specs.declared.kind.SlotKind.TheVariants as kinds
use Rattle.pl_slot.specs.declared.links.Rail.TheVariants.{Children}
use Rattle.pl_slot.specs.declared.row.SlotRow.{SlotRow}
use Rattle.pl_slot.specs.Arena.{IsArena, KeepsFields, is_among, is_live}
use Rattle.pl_slot.specs.Links.{kind_at}
use Rattle.pl_slot.proofs.TakenLaws.{keeps_both}
use Rattle.pl_text.specs.Chunks.{FreesSlots, StoresText, pages_of}
use Rattle.pl_text.proofs.HeldTexts.{member_live}
use Rattle.pl_text.proofs.Storing.{fields_freed, given_up, given_up_count}

place_live : kinds.Place ≢ kinds.Free
place_live same = absurd (cc)

item_live : kinds.Item ≢ kinds.Free
item_live same = absurd (cc)

module _ (title : List ℕ) (text : Slot) (old stored : Pages) (stores : StoresText text title old stored) where
  -- what a slot was it is still, if it was not free
  kind_stored : (n : ℕ) (kind : SlotKind) → kind ≢ kinds.Free → kind_at n old ≡ Some kind
      → kind_at n stored ≡ Some kind
  kind_stored n kind some is =
      kind_kept n kind old stored (stores.others n (no_test (is_among n stores.slots) (λ among.
      true≢false (sym (kind_live n kind old is some) ∙ stores.fresh n among)))) some is

  pub parent_stored : (parent : Slot) → kind_at parent.0 old ≡ Some kinds.Item
      → kind_at parent.0 stored ≡ Some kinds.Item
  parent_stored parent is = kind_stored parent.0 kinds.Item item_live is

  pub page_stored : (page : Slot) → IfSome (named page) (λ s. kind_at s.0 old ≡ Some kinds.Place)
      → IfSome (named page) (λ s. kind_at s.0 stored ≡ Some kinds.Place)
  page_stored page is = choose (named page) is
    where
      choose : (o : Option Slot) → IfSome o (λ s. kind_at s.0 old ≡ Some kinds.Place)
          → IfSome o (λ s. kind_at s.0 stored ≡ Some kinds.Place)
      choose None known = tt
      choose (Some s) known = kind_stored s.0 kinds.Place place_live known

  pub after_stored : (chains : ChainMap) → AreChains chains old → KeepsFields old stored → (owner : Owner)
      (after : Option Slot) → IfSome after (λ s. HasMember Children owner s old)
      → IfSome after (λ s. HasMember Children owner s stored)
  after_stored chains are fields owner None member = tt
  after_stored chains are fields owner (Some s) member =
      has_member chains stored (stored_chains chains text title old stored are stores fields) Children owner
      member.front s member.back
      (sym (one_chain chains old are Children owner (member.front ++ s ∷ member.back) member.lists))

  module _ (i : Item) (after : Option Slot) (slot : Slot) (new : Pages)
      (takes : TakesItem (record i { title = record { slot = text; length = length title } }) after slot stored new)
    where
      abbrev row : Slot → SlotRow
      row begins = item_row (record i { title = record { slot = begins; length = length title } })

      -- the slot is none of those of the text
      apart_text : is_among slot.0 stores.slots ≡ false
      apart_text =
          no_test (is_among slot.0 stores.slots) (λ among.
          true≢false (sym (member_live slot.0 stores.slots title stored stores.held among) ∙ takes.fresh))

      fresh_all : (n : ℕ) → is_among n (slot.0 ∷ stores.slots) ≡ true → is_live n old ≡ false
      fresh_all n among = elim (or_cases (n == slot.0) (is_among n stores.slots) among) [
        | inl same ↦
            ap (λ k. is_live k old) (eqb-true n slot.0 same) ∙ ap is_some (sym (stores.others slot.0 apart_text))
            ∙ takes.fresh
        | inr further ↦ stores.fresh n further
      ]

      beside_slot : (n : ℕ) → (n == slot.0) ≡ false → record_at n new ≡ record_at n stored
      beside_slot n other = takes.records n ∙ ap (λ b. cond b (Some (row text)) (record_at n stored)) other

      still_held : (n : ℕ) (r : SlotRow) → record_at n stored ≡ Some r → record_at n new ≡ Some r
      still_held n r is = elim (cases_Bool (n == slot.0)) [
        | inl same ↦
            absurd (true≢false (sym (record_live n stored ∙ ap is_some is)
            ∙ ap (λ k. is_live k stored) (eqb-true n slot.0 same) ∙ takes.fresh))
        | inr other ↦ beside_slot n other ∙ is
      ]

      pub inserts_item : KeepsFields old stored → page_count old ≤ page_count stored
          → InsertsItem i title after slot old new
      inserts_item fields more =
          record {
            text = stores.slots;
            fresh = fresh_all;
            apart = apart_text;
            row =
                takes.records slot.0
                ∙ ap (λ b. cond b (Some (row text)) (record_at slot.0 stored)) (eq-eqb slot.0 slot.0 refl)
                ∙ ap (λ t. Some (row t)) stores.first;
            held = text_moved stored new still_held stores.slots title stores.held;
            others = λ n other.
                let parts = or_parts (n == slot.0) (is_among n stores.slots) other in
                beside_slot n parts.0 ∙ beside_records stores.slots old stored stores.others n parts.1;
            chains = λ chains are one also.
                takes.chains chains (stored_chains chains text title old stored are stores fields) one also;
            alone = λ chains are r s not_live no_child no_item alone.
                takes.alone chains (stored_chains chains text title old stored are stores fields) r s not_live no_child
                no_item
                (alone_beside r s stores.slots old stored stores.others (fresh_idle stores.slots old stores.fresh)
                alone);
            own = takes.own;
            count = omega (arith, takes.count, stores.count);
            body = body_then old stored new (fields_body old stored fields) takes.body;
            longer = omega (arith, more, takes.longer);
            these = pages_of stores.slots ++ takes.these;
            pages =
                both_only (pages_of stores.slots) takes.these old stored new more stores.pages takes.pages;
          }

  -- they are given back where none is left for the item
  pub item_refused : (new : Pages) → KeepsFields old stored → FreesSlots stores.slots stored new
      → (IsArena old → IsArena new) → KeepsAll old new
  item_refused new fields frees arena =
      record {
        live = given_up text title old stored new stores frees;
        count = given_up_count text title old stored new stores frees;
        fields = keeps_both old stored new fields (fields_freed stores.slots stored new frees);
        arena = arena;
      }
