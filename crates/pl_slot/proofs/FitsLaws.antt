-- The numbers of a row that bytes spell have as many bytes as their fields.
use Rattle.std.proofs.Common.{◌≡◌, ◌∙◌, ◌∷◌, [], ◌^◌, ◌<◌, ℕ, ℤ, List, Some, Option, ap, arith, is_some, map, subst, sym, true, w32, w64}
use Rattle.std.specs.Int.{cast_signed, cast_unsigned, from_le_bytes, to_le_bytes}
use Rattle.std.specs.Int.RustNames.{FitsSigned}
use Rattle.std.specs.Option.{option_map}
use Rattle.std.proofs.Math.Facts.{Fits-of_lt, sfits_to_z}
use Rattle.std.proofs.lemmas.Bool.{true≢false}
use Rattle.pl_base.proofs.KindNumbers.{kind_again, transition_again}
use Rattle.pl_slot.specs.declared.kind.SlotKind.TheVariants as kinds
use Rattle.pl_slot.specs.declared.links.Link.{Link}
use Rattle.pl_slot.specs.declared.links.Link.TheVariants.{First, Last, Previous, Next}
use Rattle.pl_slot.specs.declared.links.Rail.{Rail}
use Rattle.pl_slot.specs.declared.links.Rail.TheVariants.{Live}
use Rattle.pl_slot.specs.declared.row.SlotRow.{SlotRow}
use Rattle.pl_slot.specs.declared.row.SlotRow.TheVariants.{Free, Origin, Place, Visit, Item, Text}
use Rattle.pl_slot.specs.Links.{link_place}
use Rattle.pl_slot.specs.Slot.{AreFours, IsSlotRow, slot_bytes, slot_kind}
use Rattle.pl_slot.specs.SlotReading.{item_in, row_in, visit_in}

small_4 : (n : ℕ) → from_le_bytes w32 (to_le_bytes w32 n) < 2 ^ 32
small_4 n = omega arith

small_8 : (n : ℕ) → from_le_bytes w64 (to_le_bytes w64 n) < 2 ^ 64
small_8 n = omega arith

small_signed : (n : ℕ) → n < 2 ^ 64 → FitsSigned w64 (cast_signed w64 n)
small_signed n small = sfits_to_z {w = w64} {n = n} (Fits-of_lt {w = w64} {n = n} small)

-- numbers that are those of their 4 bytes
abbrev read_again : List ℕ → List ℕ
read_again ns = map (λ n. from_le_bytes w32 (to_le_bytes w32 n)) ns

fours_fit : (ns : List ℕ) → read_again ns ≡ ns → AreFours ns
fours_fit [] same = tt
fours_fit (n ∷ ns) same = (
  subst (λ k. k < 2 ^ 32) (heads (from_le_bytes w32 (to_le_bytes w32 n)) n (read_again ns) ns same) (small_4 n),
  fours_fit ns (tails (from_le_bytes w32 (to_le_bytes w32 n)) n (read_again ns) ns same),
)
  where
    heads : (a b : ℕ) (xs ys : List ℕ) → a ∷ xs ≡ b ∷ ys → a ≡ b
    heads a b xs ys same = cc

    tails : (a b : ℕ) (xs ys : List ℕ) → a ∷ xs ≡ b ∷ ys → xs ≡ ys
    tails a b xs ys same = cc

eight_fits : (n : ℕ) → from_le_bytes w64 (to_le_bytes w64 n) ≡ n → n < 2 ^ 64
eight_fits n same = subst (λ k. k < 2 ^ 64) same (small_8 n)

signed_fits : (z : ℤ) → cast_signed w64 (from_le_bytes w64 (to_le_bytes w64 (cast_unsigned w64 z))) ≡ z → FitsSigned w64 z
signed_fits z same =
    subst (FitsSigned w64) same
    (small_signed (from_le_bytes w64 (to_le_bytes w64 (cast_unsigned w64 z))) (small_8 (cast_unsigned w64 z)))

-- ---- the numbers of rows, by their sizes

abbrev fours : Option SlotRow → List ℕ
fours (Some (Origin a b c d e)) = a.0 ∷ b.0 ∷ c.0 ∷ d.0 ∷ []
fours (Some (Place a b c d e f g h i j k l m n o p q r)) =
    c.0 ∷ d.0 ∷ e.0 ∷ f.0 ∷ g.0 ∷ h.0 ∷ i.0 ∷ j.0 ∷ k.0 ∷ l.0 ∷ m.0 ∷ n ∷ o.0 ∷ p ∷ r ∷ []
fours (Some (Visit a b c d e f g h i j k l m)) =
    b.0 ∷ c.0 ∷ d.0 ∷ e.0 ∷ f.0 ∷ g.0 ∷ h.0 ∷ i.0 ∷ j.0 ∷ k.0 ∷ l.0 ∷ []
fours (Some (Item a b c d e f g h i j k l m n o p)) =
    b.0 ∷ c.0 ∷ d.0 ∷ e.0 ∷ f.0 ∷ g.0 ∷ h.0 ∷ i.0 ∷ j.0 ∷ k.0 ∷ l.0 ∷ m.0 ∷ n ∷ []
fours row = []

abbrev eight : Option SlotRow → ℕ
eight (Some (Origin a b c d e)) = e
eight (Some (Visit a b c d e f g h i j k l m)) = m.0
eight (Some (Item a b c d e f g h i j k l m n o p)) = o.0
eight row = 0

abbrev second_eight : Option SlotRow → ℕ
second_eight (Some (Item a b c d e f g h i j k l m n o p)) = p.0
second_eight row = 0

abbrev signed_eight : ℤ → Option SlotRow → ℤ
signed_eight other (Some (Place a b c d e f g h i j k l m n o p q r)) = q
signed_eight other row = other

-- a free slot has no link, nor has a part of a text
pub free_has : (rail : Rail) (link : Link) → is_some (link_place rail link kinds.Free) ≡ true → ⊥
free_has Live First has = true≢false (sym has)
free_has Live Last has = true≢false (sym has)
free_has Live Previous has = true≢false (sym has)
free_has Live Next has = true≢false (sym has)
free_has rail First has = true≢false (sym has)
free_has rail Last has = true≢false (sym has)
free_has rail Previous has = true≢false (sym has)
free_has rail Next has = true≢false (sym has)

pub text_has : (rail : Rail) (link : Link) → is_some (link_place rail link kinds.Text) ≡ true → ⊥
text_has Live First has = true≢false (sym has)
text_has Live Last has = true≢false (sym has)
text_has Live Previous has = true≢false (sym has)
text_has Live Next has = true≢false (sym has)
text_has rail First has = true≢false (sym has)
text_has rail Last has = true≢false (sym has)
text_has rail Previous has = true≢false (sym has)
text_has rail Next has = true≢false (sym has)

-- the numbers of a row that is read from its own bytes
pub row_fits : (rail : Rail) (link : Link) (row : SlotRow) → is_some (link_place rail link (slot_kind row)) ≡ true
    → row_in (slot_bytes row) ≡ Some row → IsSlotRow row
row_fits rail link (Origin a b c d e) has is =
    (fours_fit (a.0 ∷ b.0 ∷ c.0 ∷ d.0 ∷ []) (ap fours is), eight_fits e (ap eight is))
row_fits rail link (Place a b c d e f g h i j k l m n o p q r) has is = (
  fours_fit
      (c.0 ∷ d.0 ∷ e.0 ∷ f.0 ∷ g.0 ∷ h.0 ∷ i.0 ∷ j.0 ∷ k.0 ∷ l.0 ∷ m.0 ∷ n ∷ o.0 ∷ p ∷ r ∷ []) (ap fours is),
  signed_fits q (ap (signed_eight q) is),
)
row_fits rail link (Visit a b c d e f g h i j k l m) has is =
    let read : option_map (visit_in (slot_bytes (Visit a b c d e f g h i j k l m))) (Some a)
    ≡ Some (Visit a b c d e f g h i j k l m) =
    sym (ap (option_map (visit_in (slot_bytes (Visit a b c d e f g h i j k l m)))) (transition_again a)) ∙ is in (
      fours_fit (b.0 ∷ c.0 ∷ d.0 ∷ e.0 ∷ f.0 ∷ g.0 ∷ h.0 ∷ i.0 ∷ j.0 ∷ k.0 ∷ l.0 ∷ []) (ap fours read),
      eight_fits m.0 (ap eight read),
    )
row_fits rail link (Item a b c d e f g h i j k l m n o p) has is =
    let read : option_map (item_in (slot_bytes (Item a b c d e f g h i j k l m n o p))) (Some a)
    ≡ Some (Item a b c d e f g h i j k l m n o p) =
    sym (ap (option_map (item_in (slot_bytes (Item a b c d e f g h i j k l m n o p)))) (kind_again a)) ∙ is in (
      fours_fit (b.0 ∷ c.0 ∷ d.0 ∷ e.0 ∷ f.0 ∷ g.0 ∷ h.0 ∷ i.0 ∷ j.0 ∷ k.0 ∷ l.0 ∷ m.0 ∷ n ∷ []) (ap fours read),
      eight_fits o.0 (ap eight read),
      eight_fits p.0 (ap second_eight read),
    )
row_fits rail link (Free next) has is = absurd (free_has rail link has)
row_fits rail link (Text a b c) has is = absurd (text_has rail link has)
