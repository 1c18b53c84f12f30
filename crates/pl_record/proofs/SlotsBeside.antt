-- What slots that held parts of texts, or nothing, leave of rows, texts and chains when they
-- change.
use Rattle.std.proofs.Common.{◌≡◌, ◌≢◌, ◌∙◌, ◌==◌, ◌∷◌, [], ℕ, List, None, Option, Some, ap, drop, eqb-true, false, inl}
use Rattle.std.proofs.Common.{inr, is_some, refl, sym, take, true}
use Rattle.std.specs.Option.{IsSome, option_and_then, option_map}
use Rattle.std.proofs.lemmas.Bool.{cases_Bool, or_cases, true≢false}
use Rattle.pl_record.specs.Records.{HoldsRow, Record, unlinked}
use Rattle.pl_record.proofs.ChainsKept.{KeepsLinks, KeepsMembers}
use Rattle.pl_record.proofs.ChainMaps.{HasNoLinks}
use Rattle.pl_record.proofs.LiveChains.{link_live, live_link, same_member, text_link}
use Rattle.pl_record.proofs.PagesTold.{unlinked_kind}
use Rattle.pl_record.proofs.RowSets.{row_of_live}
use Rattle.pl_record.proofs.RowsWritten.{kind_live}
use Rattle.pl_rail.specs.declared.owner.Side.TheVariants.{Behind}
use Rattle.pl_rail.specs.Rails.{side_link}
use Rattle.pl_rail.proofs.ListLaws.{member_link}
use Rattle.pl_sheets.specs.Sheets.{Pages}
use Rattle.pl_slot.specs.declared.kind.SlotKind.TheVariants as kinds
use Rattle.pl_slot.specs.declared.links.Link.{Link}
use Rattle.pl_slot.specs.declared.links.Rail.{Rail}
use Rattle.pl_slot.specs.declared.row.SlotRow.{SlotRow}
use Rattle.pl_slot.specs.Arena.{first_in, is_among, is_live, live_at, live_row, row_at}
use Rattle.pl_slot.specs.Links.{link_at, link_in}
use Rattle.pl_slot.specs.Slot.{payload_size, slot_kind}
use Rattle.pl_text.specs.Chunks.{Hold, KeepsLive, chunk_row}
use Rattle.pl_text.proofs.HeldTexts.{held_kept}

-- none of the slots is live with a row, but for parts of texts
abbrev pub AreIdle : List ℕ → Pages → Type 0
AreIdle ns pages =
    (n : ℕ) (row : SlotRow) → is_among n ns ≡ true → live_at n pages ≡ Some row → slot_kind row ≡ kinds.Text

-- a slot that holds a part of a text, or is not live, has no link
pub idle_linkless : (ns : List ℕ) (pages : Pages) → AreIdle ns pages → (n : ℕ) → is_among n ns ≡ true
    → HasNoLinks n pages
idle_linkless ns pages idle n among r l =
    link_live r l n pages ∙ choose (live_at n pages) (λ row is. idle n row among is)
  where
    choose : (o : Option SlotRow) → ((row : SlotRow) → o ≡ Some row → slot_kind row ≡ kinds.Text)
        → option_and_then (link_in r l) o ≡ None
    choose None text = refl
    choose (Some row) text = text_link r l row (text row refl)

module _ (ns : List ℕ) (old new : Pages) (others : KeepsLive ns old new) (idle : AreIdle ns old) where
  -- a row that is none of a text, or of a free slot, is as it was
  row_kept : (n : ℕ) (row : SlotRow) → slot_kind row ≢ kinds.Free → slot_kind row ≢ kinds.Text
      → row_at n old ≡ Some row → row_at n new ≡ Some row
  row_kept n row live other at =
      let is_live : live_at n old ≡ Some row = ap (option_and_then live_row) at ∙ kind_live row live in
      elim (cases_Bool (is_among n ns)) [
        | inl among ↦ absurd (other (idle n row among is_live))
        | inr beside ↦ row_of_live n row new (others n beside ∙ is_live)
      ]

  pub row_beside : (r : Record) → slot_kind r.row ≢ kinds.Free → slot_kind r.row ≢ kinds.Text → HoldsRow r old
      → HoldsRow r new
  row_beside r live other held = choose (row_at r.slot.0 old) (λ row is. is) held
    where
      choose : (o : Option SlotRow) → ((row : SlotRow) → o ≡ Some row → row_at r.slot.0 old ≡ Some row)
          → option_map unlinked o ≡ Some r.row → HoldsRow r new
      choose None at held = absurd (cc)
      choose (Some row) at held =
          let same : unlinked row ≡ r.row = cc in
          let kind : slot_kind row ≡ slot_kind r.row = sym (unlinked_kind row) ∙ ap slot_kind same in
          ap (option_map unlinked)
          (row_kept r.slot.0 row (λ is. live (sym kind ∙ is)) (λ is. other (sym kind ∙ is)) (at row refl))
          ∙ ap Some same

  -- a slot with a link holds the live row that it held
  linked_kept : (rail : Rail) (link : Link) (n : ℕ) → IsSome (link_at rail link n old) → live_at n new ≡ live_at n old
  linked_kept rail link n some = elim (cases_Bool (is_among n ns)) [
    | inl among ↦ absurd (true≢false (sym some ∙ ap is_some (idle_linkless ns old idle n among rail link)))
    | inr beside ↦ others n beside
  ]

  pub links_beside : KeepsLinks old new
  links_beside rail link n to is =
      live_link rail link n old new (linked_kept rail link n (ap is_some is)) ∙ is

  pub members_beside : KeepsMembers old new
  members_beside rail owner slot member =
      same_member rail owner slot old new
      (linked_kept rail (side_link Behind) slot.0 (member_link rail owner Behind old slot member)) ∙ member

  -- a text with none of the slots is held as it was
  pub text_beside : (ms text : List ℕ) → ((n : ℕ) → is_among n ms ≡ true → is_among n ns ≡ false) → Hold ms text old
      → Hold ms text new
  text_beside ms text apart held = held_kept ms text old new (λ n among. others n (apart n among)) held

-- the slots of a text, and such as are not live, are idle
pub held_idle : (ns text : List ℕ) (pages : Pages) → Hold ns text pages → AreIdle ns pages
held_idle [] text pages held n row among live = absurd (true≢false (sym among))
held_idle (m ∷ ns) text pages held n row among live = elim (or_cases (n == m) (is_among n ns) among) [
  | inl here ↦
      let both : Some row ≡ Some (chunk_row (take payload_size text) (first_in ns)) =
      sym live ∙ ap (λ k. live_at k pages) (eqb-true n m here) ∙ held.1 in
      let same : row ≡ chunk_row (take payload_size text) (first_in ns) = cc in
      ap slot_kind same
  | inr further ↦ held_idle ns (drop payload_size text) pages held.2 n row further live
]

pub fresh_idle : (ns : List ℕ) (pages : Pages) → ((n : ℕ) → is_among n ns ≡ true → is_live n pages ≡ false)
    → AreIdle ns pages
fresh_idle ns pages fresh n row among live = absurd (true≢false (sym (ap is_some live) ∙ fresh n among))
