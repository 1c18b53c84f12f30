-- That a text is held in one way.
use Rattle.std.proofs.Common.{◌≡◌, ◌∙◌, ◌≤◌, ◌∷◌, [], ℕ, List, length, sym, take, drop}
use mathlib.Core.HLevel.{is_prop→PathP}
use Rattle.std.proofs.Props.{props}
use Rattle.pl_base.specs.declared.id.Slot.{Slot}
use Rattle.pl_sheets.specs.Sheets.{Pages}
use Rattle.pl_slot.specs.Arena.{first_in}
use Rattle.pl_slot.specs.Slot.{payload_size}
use Rattle.pl_text.specs.Chunks.{HasText, Hold, HoldsPart, HoldsText}
use Rattle.pl_text.proofs.HeldTexts.{one_text}

pub Hold-prop : (ns text : List ℕ) (pages : Pages) → IsProp (Hold ns text pages)
Hold-prop [] text pages a b = empty_once a b
  where
    empty_once : IsProp (text ≡ [])
    empty_once = Prim.hlevel props
Hold-prop (n ∷ ns) text pages a b =
    let some : a.0 ≡ b.0 = some_once a.0 b.0 in
    let part : a.1 ≡ b.1 = part_once a.1 b.1 in
    let rest : a.2 ≡ b.2 = Hold-prop ns (drop payload_size text) pages a.2 b.2 in
    λ i. (some i, part i, rest i)
  where
    some_once : IsProp (1 ≤ length text)
    some_once = Prim.hlevel props

    part_once : IsProp (HoldsPart n (take payload_size text) (first_in ns) pages)
    part_once = Prim.hlevel props

slot_once : (a b : Slot) → IsProp (a ≡ b)
slot_once a b = Prim.hlevel props

size_once : (a b : ℕ) → IsProp (a ≡ b)
size_once a b = Prim.hlevel props

HoldsText-prop : (slot : Slot) (text : List ℕ) (pages : Pages) → IsProp (HoldsText slot text pages)
HoldsText-prop slot text pages a b =
    let same : a.slots ≡ b.slots =
    (one_text a.slots b.slots text text pages a.held b.held (sym a.first ∙ b.first)).slots in
    λ i.
    record {
      slots = same i;
      first = is_prop→PathP (λ j. slot ≡ first_in (same j)) (λ j. slot_once slot (first_in (same j))) a.first b.first i;
      held = is_prop→PathP (λ j. Hold (same j) text pages) (λ j. Hold-prop (same j) text pages) a.held b.held i;
    }

pub HasText-prop : (slot : Slot) (size : ℕ) (pages : Pages) → IsProp (HasText slot size pages)
HasText-prop slot size pages a b =
    let same : a.0 ≡ b.0 =
    (one_text a.1.slots b.1.slots a.0 b.0 pages a.1.held b.1.held (sym a.1.first ∙ b.1.first)).texts in
    λ i. (
      same i,
      is_prop→PathP (λ j. HoldsText slot (same j) pages) (λ j. HoldsText-prop slot (same j) pages) a.1 b.1 i,
      is_prop→PathP (λ j. length (same j) ≡ size) (λ j. size_once (length (same j)) size) a.2 b.2 i,
    )
