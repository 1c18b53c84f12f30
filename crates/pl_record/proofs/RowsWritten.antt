-- Rows that are written in place of others, with the links that these had.
use Rattle.std.proofs.Common.{◌≡◌, ◌∙◌, ◌++◌, ◌∷◌, ◌^◌, ◌<◌, [], ℕ, ℤ, Bool, List, Some, ap, eq-eqb}
use Rattle.std.proofs.Common.{if◌then◌else◌, inl, inr, is_some, refl, sym, true, w64}
use Rattle.std.specs.Int.RustNames.{FitsSigned}
use Rattle.std.specs.Option.{option_and_then, option_map}
use Rattle.std.proofs.lemmas.Bool.{cases_eq, ne_eqb}
use Rattle.pl_base.specs.declared.id.PageId.{PageId}
use Rattle.pl_base.specs.declared.id.Slot.{Slot}
use Rattle.pl_base.specs.declared.row.Mark.{Mark}
use Rattle.pl_record.specs.declared.rows.TextAt.{TextAt}
use Rattle.pl_record.specs.Rows.{SetsRow, with_mark, with_source, with_title, with_total}
use Rattle.pl_sheets.specs.Sheets.{Pages}
use Rattle.pl_slot.specs.declared.kind.SlotKind.TheVariants as kinds
use Rattle.pl_slot.specs.declared.links.Link.{Link}
use Rattle.pl_slot.specs.declared.links.Link.TheVariants.{First, Last, Next, Previous}
use Rattle.pl_slot.specs.declared.links.Rail.{Rail}
use Rattle.pl_slot.specs.declared.links.Rail.TheVariants.{Children, Live, OriginPages, PageVisits, References, Targets}
use Rattle.pl_slot.specs.declared.row.SlotRow.{SlotRow}
use Rattle.pl_slot.specs.declared.row.SlotRow.TheVariants.{Free, Item, Origin, Place, Text, Visit}
use Rattle.pl_slot.specs.Arena.{ChangesOnly, IsArena, IsSet, header_of, is_live, live_count, live_row}
use Rattle.pl_slot.specs.Arena.{row_at, slot_page}
use Rattle.pl_slot.specs.Links.{kind_at, link_at, link_in}
use Rattle.pl_slot.specs.Slot.{AreFours, IsSlotRow, slot_kind}
use Rattle.pl_slot.proofs.ArenaLaws.{row_elsewhere, row_here}
use Rattle.pl_slot.proofs.LinkFields.{link_field, link_of}

-- ---- a row in place of another

pub row_set : (slot : Slot) (change : SlotRow → SlotRow) (row next : SlotRow) (old new : Pages)
    → row_at slot.0 old ≡ Some row → next ≡ change row → slot_kind next ≡ slot_kind row → IsSlotRow row
    → IsSlotRow next → ((rail : Rail) (link : Link) → link_of rail link next ≡ link_of rail link row)
    → IsSet slot.0 next old new → header_of new ≡ header_of old → live_count new ≡ live_count old
    → ChangesOnly (slot_page slot.0 ∷ []) old new → IsArena new → SetsRow slot change old new
unfolding kind_at link_at
row_set slot change row next old new at made kind fits fits_next links set header count pages arena =
    record {
      rows = λ n. set n ∙ elim (cases_eq n slot.0) [
        | inl same ↦
            ap (λ b. if b then Some next else row_at n old) (eq-eqb n slot.0 same)
            ∙ ap Some made
            ∙ sym (ap (option_map change) (ap (λ k. row_at k old) same ∙ at))
            ∙ sym (ap (λ b. if b then option_map change (row_at n old) else row_at n old) (eq-eqb n slot.0 same))
        | inr apart ↦
            ap (λ b. if b then Some next else row_at n old) (ne_eqb n slot.0 apart)
            ∙ sym (ap (λ b. if b then option_map change (row_at n old) else row_at n old) (ne_eqb n slot.0 apart))
      ];
      kinds = λ n. elim (cases_eq n slot.0) [
        | inl same ↦
            ap (option_map slot_kind) (here n same) ∙ ap Some kind ∙ sym (ap (option_map slot_kind) (there n same))
        | inr apart ↦ ap (option_map slot_kind) (row_elsewhere n slot.0 next old new set apart)
      ];
      links = λ rail link n. elim (cases_eq n slot.0) [
        | inl same ↦
            ap (option_and_then (link_in rail link)) (here n same)
            ∙ link_field rail link next fits_next ∙ links rail link ∙ sym (link_field rail link row fits)
            ∙ sym (ap (option_and_then (link_in rail link)) (there n same))
        | inr apart ↦ ap (option_and_then (link_in rail link)) (row_elsewhere n slot.0 next old new set apart)
      ];
      header = header;
      count = count;
      pages = pages;
      arena = arena;
    }
  where
    here : (n : ℕ) → n ≡ slot.0 → row_at n new ≡ Some next
    here n same = ap (λ k. row_at k new) same ∙ row_here slot.0 next old new set

    there : (n : ℕ) → n ≡ slot.0 → row_at n old ≡ Some row
    there n same = ap (λ k. row_at k old) same ∙ at

pub row_live : (n : ℕ) (row : SlotRow) (pages : Pages) → row_at n pages ≡ Some row → live_row row ≡ Some row
    → is_live n pages ≡ true
row_live n row pages at live = ap (λ o. is_some (option_and_then live_row o)) at ∙ ap is_some live

-- ---- numbers of a row

pub fours_parts : (ns ms : List ℕ) → AreFours (ns ++ ms) → AreFours ns × AreFours ms
fours_parts [] ms fours = (tt, fours)
fours_parts (n ∷ ns) ms fours =
    let rest = fours_parts ns ms fours.1 in
    ((fours.0, rest.0), rest.1)

pub fours_both : (ns ms : List ℕ) → AreFours ns → AreFours ms → AreFours (ns ++ ms)
fours_both [] ms first last = last
fours_both (n ∷ ns) ms first last = (first.0, fours_both ns ms first.1 last)

-- ---- a page with another mark

place_links : (a b x y : Bool) (c d : Slot) (e : PageId) (f g h i j k l m t : Slot) (n u : ℕ) (o v : Slot) (p w : ℕ)
    (q z : ℤ) (r s : ℕ) (rail : Rail) (link : Link)
    → link_of rail link (Place x y c d e f g h i j k l t u v w z s)
    ≡ link_of rail link (Place a b c d e f g h i j k l m n o p q r)
place_links a b x y c d e f g h i j k l m t n u o v p w q z r s rail link = of_place rail link
  where
    of_place : (rail : Rail) (link : Link)
        → link_of rail link (Place x y c d e f g h i j k l t u v w z s)
        ≡ link_of rail link (Place a b c d e f g h i j k l m n o p q r)
    of_place Live First = refl
    of_place Live Last = refl
    of_place Live Previous = refl
    of_place Live Next = refl
    of_place OriginPages First = refl
    of_place OriginPages Last = refl
    of_place OriginPages Previous = refl
    of_place OriginPages Next = refl
    of_place PageVisits First = refl
    of_place PageVisits Last = refl
    of_place PageVisits Previous = refl
    of_place PageVisits Next = refl
    of_place Targets First = refl
    of_place Targets Last = refl
    of_place Targets Previous = refl
    of_place Targets Next = refl
    of_place Children First = refl
    of_place Children Last = refl
    of_place Children Previous = refl
    of_place Children Next = refl
    of_place References First = refl
    of_place References Last = refl
    of_place References Previous = refl
    of_place References Next = refl

pub mark_links : (mark : Mark) (row : SlotRow) (rail : Rail) (link : Link)
    → link_of rail link (with_mark mark row) ≡ link_of rail link row
mark_links mark (Free next) rail link = refl
mark_links mark (Origin a b c d e) rail link = refl
mark_links mark (Place a b c d e f g h i j k l m n o p q r) rail link =
    place_links a b mark.typed mark.hidden c d e f g h i j k l m m n n o o p p q mark.frecency r mark.count rail link
mark_links mark (Visit a b c d e f g h i j k l m) rail link = refl
mark_links mark (Item a b c d e f g h i j k l m n o p) rail link = refl
mark_links mark (Text a b c) rail link = refl

pub mark_kind : (mark : Mark) (row : SlotRow) → slot_kind (with_mark mark row) ≡ slot_kind row
mark_kind mark (Free next) = refl
mark_kind mark (Origin a b c d e) = refl
mark_kind mark (Place a b c d e f g h i j k l m n o p q r) = refl
mark_kind mark (Visit a b c d e f g h i j k l m) = refl
mark_kind mark (Item a b c d e f g h i j k l m n o p) = refl
mark_kind mark (Text a b c) = refl

pub mark_fits : (mark : Mark) (row : SlotRow) → mark.count < 2 ^ 32 → FitsSigned w64 mark.frecency → IsSlotRow row
    → IsSlotRow (with_mark mark row)
mark_fits mark (Free next) count frecency fits = fits
mark_fits mark (Origin a b c d e) count frecency fits = fits
mark_fits mark (Place a b c d e f g h i j k l m n o p q r) count frecency fits = (
  fours_both
      (c.0 ∷ d.0 ∷ e.0 ∷ f.0 ∷ g.0 ∷ h.0 ∷ i.0 ∷ j.0 ∷ k.0 ∷ l.0 ∷ m.0 ∷ n ∷ o.0 ∷ p ∷ []) (mark.count ∷ [])
      (fours_parts (c.0 ∷ d.0 ∷ e.0 ∷ f.0 ∷ g.0 ∷ h.0 ∷ i.0 ∷ j.0 ∷ k.0 ∷ l.0 ∷ m.0 ∷ n ∷ o.0 ∷ p ∷ []) (r ∷ [])
      fits.0).0 (count, tt),
  frecency,
)
mark_fits mark (Visit a b c d e f g h i j k l m) count frecency fits = fits
mark_fits mark (Item a b c d e f g h i j k l m n o p) count frecency fits = fits
mark_fits mark (Text a b c) count frecency fits = fits

-- ---- a page with another title

pub title_links : (text : TextAt) (row : SlotRow) (rail : Rail) (link : Link)
    → link_of rail link (with_title text row) ≡ link_of rail link row
title_links text (Free next) rail link = refl
title_links text (Origin a b c d e) rail link = refl
title_links text (Place a b c d e f g h i j k l m n o p q r) rail link =
    place_links a b a b c d e f g h i j k l m m n n o text.slot p text.length q q r r rail link
title_links text (Visit a b c d e f g h i j k l m) rail link = refl
title_links text (Item a b c d e f g h i j k l m n o p) rail link = refl
title_links text (Text a b c) rail link = refl

pub title_kind : (text : TextAt) (row : SlotRow) → slot_kind (with_title text row) ≡ slot_kind row
title_kind text (Free next) = refl
title_kind text (Origin a b c d e) = refl
title_kind text (Place a b c d e f g h i j k l m n o p q r) = refl
title_kind text (Visit a b c d e f g h i j k l m) = refl
title_kind text (Item a b c d e f g h i j k l m n o p) = refl
title_kind text (Text a b c) = refl

pub title_fits : (text : TextAt) (row : SlotRow) → text.slot.0 < 2 ^ 32 → text.length < 2 ^ 32 → IsSlotRow row
    → IsSlotRow (with_title text row)
title_fits text (Free next) slot length fits = fits
title_fits text (Origin a b c d e) slot length fits = fits
title_fits text (Place a b c d e f g h i j k l m n o p q r) slot length fits =
    let parts =
    fours_parts (c.0 ∷ d.0 ∷ e.0 ∷ f.0 ∷ g.0 ∷ h.0 ∷ i.0 ∷ j.0 ∷ k.0 ∷ l.0 ∷ m.0 ∷ n ∷ [])
    (o.0 ∷ p ∷ r ∷ []) fits.0 in (
      fours_both (c.0 ∷ d.0 ∷ e.0 ∷ f.0 ∷ g.0 ∷ h.0 ∷ i.0 ∷ j.0 ∷ k.0 ∷ l.0 ∷ m.0 ∷ n ∷ [])
          (text.slot.0 ∷ text.length ∷ r ∷ []) parts.0 (slot, (length, parts.1.1.1)),
      fits.1,
    )
title_fits text (Visit a b c d e f g h i j k l m) slot length fits = fits
title_fits text (Item a b c d e f g h i j k l m n o p) slot length fits = fits
title_fits text (Text a b c) slot length fits = fits

-- ---- an origin with another total

pub total_links : (total : ℕ) (row : SlotRow) (rail : Rail) (link : Link)
    → link_of rail link (with_total total row) ≡ link_of rail link row
total_links total (Free next) rail link = refl
total_links total (Origin a b c d e) rail link = of_origin rail link
  where
    of_origin : (rail : Rail) (link : Link)
        → link_of rail link (Origin a b c d total) ≡ link_of rail link (Origin a b c d e)
    of_origin Live First = refl
    of_origin Live Last = refl
    of_origin Live Previous = refl
    of_origin Live Next = refl
    of_origin OriginPages First = refl
    of_origin OriginPages Last = refl
    of_origin OriginPages Previous = refl
    of_origin OriginPages Next = refl
    of_origin PageVisits First = refl
    of_origin PageVisits Last = refl
    of_origin PageVisits Previous = refl
    of_origin PageVisits Next = refl
    of_origin Targets First = refl
    of_origin Targets Last = refl
    of_origin Targets Previous = refl
    of_origin Targets Next = refl
    of_origin Children First = refl
    of_origin Children Last = refl
    of_origin Children Previous = refl
    of_origin Children Next = refl
    of_origin References First = refl
    of_origin References Last = refl
    of_origin References Previous = refl
    of_origin References Next = refl
total_links total (Place a b c d e f g h i j k l m n o p q r) rail link = refl
total_links total (Visit a b c d e f g h i j k l m) rail link = refl
total_links total (Item a b c d e f g h i j k l m n o p) rail link = refl
total_links total (Text a b c) rail link = refl

pub total_kind : (total : ℕ) (row : SlotRow) → slot_kind (with_total total row) ≡ slot_kind row
total_kind total (Free next) = refl
total_kind total (Origin a b c d e) = refl
total_kind total (Place a b c d e f g h i j k l m n o p q r) = refl
total_kind total (Visit a b c d e f g h i j k l m) = refl
total_kind total (Item a b c d e f g h i j k l m n o p) = refl
total_kind total (Text a b c) = refl

pub total_fits : (total : ℕ) (row : SlotRow) → total < 2 ^ 64 → IsSlotRow row → IsSlotRow (with_total total row)
total_fits total (Free next) small fits = fits
total_fits total (Origin a b c d e) small fits = (fits.0, small)
total_fits total (Place a b c d e f g h i j k l m n o p q r) small fits = fits
total_fits total (Visit a b c d e f g h i j k l m) small fits = fits
total_fits total (Item a b c d e f g h i j k l m n o p) small fits = fits
total_fits total (Text a b c) small fits = fits

-- ---- which rows are live

pub kind_live : (row : SlotRow) → (slot_kind row ≡ kinds.Free → ⊥) → live_row row ≡ Some row
kind_live (Free next) live = absurd (live refl)
kind_live (Origin a b c d e) live = refl
kind_live (Place a b c d e f g h i j k l m n o p q r) live = refl
kind_live (Visit a b c d e f g h i j k l m) live = refl
kind_live (Item a b c d e f g h i j k l m n o p) live = refl
kind_live (Text a b c) live = refl

-- ---- a visit with another source

pub source_links : (source : Slot) (row : SlotRow) (rail : Rail) (link : Link)
    → link_of rail link (with_source source row) ≡ link_of rail link row
source_links source (Free next) rail link = refl
source_links source (Origin a b c d e) rail link = refl
source_links source (Place a b c d e f g h i j k l m n o p q r) rail link = refl
source_links source (Visit a b c d e f g h i j k l m) rail link = of_visit rail link
  where
    of_visit : (rail : Rail) (link : Link)
        → link_of rail link (Visit a b c d e f g source i j k l m)
        ≡ link_of rail link (Visit a b c d e f g h i j k l m)
    of_visit Live First = refl
    of_visit Live Last = refl
    of_visit Live Previous = refl
    of_visit Live Next = refl
    of_visit OriginPages First = refl
    of_visit OriginPages Last = refl
    of_visit OriginPages Previous = refl
    of_visit OriginPages Next = refl
    of_visit PageVisits First = refl
    of_visit PageVisits Last = refl
    of_visit PageVisits Previous = refl
    of_visit PageVisits Next = refl
    of_visit Targets First = refl
    of_visit Targets Last = refl
    of_visit Targets Previous = refl
    of_visit Targets Next = refl
    of_visit Children First = refl
    of_visit Children Last = refl
    of_visit Children Previous = refl
    of_visit Children Next = refl
    of_visit References First = refl
    of_visit References Last = refl
    of_visit References Previous = refl
    of_visit References Next = refl
source_links source (Item a b c d e f g h i j k l m n o p) rail link = refl
source_links source (Text a b c) rail link = refl

pub source_kind : (source : Slot) (row : SlotRow) → slot_kind (with_source source row) ≡ slot_kind row
source_kind source (Free next) = refl
source_kind source (Origin a b c d e) = refl
source_kind source (Place a b c d e f g h i j k l m n o p q r) = refl
source_kind source (Visit a b c d e f g h i j k l m) = refl
source_kind source (Item a b c d e f g h i j k l m n o p) = refl
source_kind source (Text a b c) = refl

pub source_fits : (source : Slot) (row : SlotRow) → source.0 < 2 ^ 32 → IsSlotRow row
    → IsSlotRow (with_source source row)
source_fits source (Free next) small fits = fits
source_fits source (Origin a b c d e) small fits = fits
source_fits source (Place a b c d e f g h i j k l m n o p q r) small fits = fits
source_fits source (Visit a b c d e f g h i j k l m) small fits =
    let parts =
    fours_parts (b.0 ∷ c.0 ∷ d.0 ∷ e.0 ∷ f.0 ∷ g.0 ∷ []) (h.0 ∷ i.0 ∷ j.0 ∷ k.0 ∷ l.0 ∷ []) fits.0 in (
      fours_both (b.0 ∷ c.0 ∷ d.0 ∷ e.0 ∷ f.0 ∷ g.0 ∷ []) (source.0 ∷ i.0 ∷ j.0 ∷ k.0 ∷ l.0 ∷ []) parts.0
          (small, parts.1.1),
      fits.1,
    )
source_fits source (Item a b c d e f g h i j k l m n o p) small fits = fits
source_fits source (Text a b c) small fits = fits
