-- A loop that follows the links of what may be a text.
use Rattle.std.proofs.Common.{◌≡◌, ◌≢◌, ◌∙◌, ◌+◌, ◌-◌, ◌/◌, ◌%◌, ◌<◌, ◌≤◌, ◌∷◌, ◌++◌, [], ℕ, List, ap, append_assoc, arith}
use Rattle.std.proofs.Common.{drop, inl, inr, length, length-append, length-drop, min, refl, subst, sym, take}
use Rattle.std.proofs.lemmas.Bool.{cases_lt}
use Rattle.std.proofs.lemmas.List.{append-nil, length-take, nil_from_length, take-append-drop}
use Rattle.std.proofs.Math.ListN.{drop_of_length-le}
use Rattle.std.proofs.Math.Seq.{drop-append_seam, take-append_seam}
use Rattle.pl_base.specs.declared.id.Slot.{Slot}
use Rattle.pl_sheets.specs.Sheets.{Pages}
use Rattle.pl_slot.specs.Arena.{first_in, live_at, slot_count}
use Rattle.pl_slot.specs.Slot.{payload_size}
use Rattle.pl_text.specs.Chunks.{AreChunks, chunk_count, HasText, Hold, HoldsPart, HoldsSize, HoldsText}
use Rattle.pl_text.proofs.HeldTexts.{held_count, number_of, part_next}
use Rattle.pl_text.proofs.SlotsOfTexts.{held_few}

-- ---- a part and what is behind it

record Cut (part rest : List ℕ) : Type 0 where
  front : take payload_size (part ++ rest) ≡ part
  back : drop payload_size (part ++ rest) ≡ rest

cut_full : (part rest : List ℕ) → length part ≡ payload_size → Cut part rest
cut_full part rest long =
    record {
      front = ap (λ (k : ℕ). take k (part ++ rest)) (sym long) ∙ take-append_seam part rest;
      back = ap (λ (k : ℕ). drop k (part ++ rest)) (sym long) ∙ drop-append_seam part rest;
    }

cut_last : (part rest : List ℕ) → length part ≤ payload_size → rest ≡ [] → Cut part rest
cut_last part rest few none =
    let whole : part ++ rest ≡ part = ap (λ l. part ++ l) none ∙ append-nil part in
    let behind : drop payload_size part ≡ [] = drop_of_length-le part few in
    record {
      front =
          ap (λ (l : List ℕ). take payload_size l) whole ∙ sym (append-nil (take payload_size part))
          ∙ ap (λ l. take payload_size part ++ l) (sym behind) ∙ take-append-drop payload_size part;
      back = ap (λ (l : List ℕ). drop payload_size l) whole ∙ behind ∙ sym none;
    }

cut : (part rest : List ℕ) (left : ℕ) → length part ≡ min left payload_size → length rest ≡ left - length part
    → Cut part rest
cut part rest left long other = elim (cases_lt left payload_size) [
  | inl less ↦ cut_last part rest (omega arith) (nil_from_length rest (omega arith))
  | inr more ↦ cut_full part rest (omega arith)
]

-- ---- the loop

pub slot_zero : (s : Slot) → s.0 ≡ 0 → s ≡ first_in []
slot_zero s zero = λ i. record { 0 = zero i }

pub rounded_up : (size : ℕ) → size / 120 + min 1 (size % 120) ≡ chunk_count size
rounded_up size = omega arith

pub record Joined (slot : Slot) (slots text : List ℕ) (pages : Pages) : Type 0 where
  pub first : slot ≡ first_in slots
  pub held : Hold slots text pages

-- slots were found that hold a text together with those that hold what is left, from the next one
-- on; if there is such a text, so much of it is left there
pub record Follows (slot next : Slot) (size left before now : ℕ) (found : List ℕ) (pages : Pages) : Type 0 where
  pub front : List ℕ
  pub long : length front + left ≡ size
  pub joins : (ns rest : List ℕ) → next ≡ first_in ns → Hold ns rest pages → length rest ≡ left
      → Joined slot (found ++ ns) (front ++ rest) pages
  pub only : HasText slot size pages → HasText next left pages
  pub counted : now + chunk_count left ≤ before + chunk_count size

pub follows_none : (slot : Slot) (size before : ℕ) (pages : Pages) → Follows slot slot size size before before [] pages
follows_none slot size before pages =
    record {
      front = [];
      long = omega arith;
      joins = λ ns rest first held long. record { first = first; held = held };
      only = λ has. has;
      counted = omega arith;
    }

-- the first part of what is left
pub record PartIn (next : Slot) (left : ℕ) (pages : Pages) : Type 0 where
  pub behind : Slot
  pub part : HoldsSize next.0 (min left payload_size) behind pages
  pub rest : HasText behind (left - min left payload_size) pages

part_in : (next : Slot) (left : ℕ) (pages : Pages) → 1 ≤ left → HasText next left pages → PartIn next left pages
part_in next left pages some has = from has.1.slots has.1.first has.1.held
  where
    from : (slots : List ℕ) → next ≡ first_in slots → Hold slots has.0 pages → PartIn next left pages
    from [] first held = absurd (omega (arith, some, has.2, ap length held))
    from (n ∷ ns) first held =
        let same : next.0 ≡ n = number_of next (first_in (n ∷ ns)) first in
        let turn : min payload_size (length has.0) ≡ min left payload_size = omega (arith, has.2) in
        record {
          behind = first_in ns;
          part = (take payload_size has.0, ap (λ k. live_at k pages) same ∙ held.1, length-take payload_size has.0 ∙ turn);
          rest = (
            drop payload_size has.0,
            record { slots = ns; first = refl; held = held.2 },
            length-drop payload_size has.0 ∙ omega (arith, has.2),
          );
        }

chunks_less : (left size : ℕ) → 1 ≤ left → size ≡ min left payload_size
    → chunk_count (left - size) + 1 ≡ chunk_count left
chunks_less left size some is = omega arith

module _ (slot next : Slot) (size left before now : ℕ) (found : List ℕ) (pages : Pages)
    (follows : Follows slot next size left before now found pages) (some : 1 ≤ left)
    (long : ℕ) (long_is : long ≡ min left payload_size) where
  pub follows_on : (behind : Slot) (later : ℕ) → HoldsSize next.0 long behind pages → later ≤ now + 1
      → Follows slot behind size (left - long) before later (found ++ next.0 ∷ []) pages
  follows_on behind later holds few =
      let part : List ℕ = holds.0 in
      let row : HoldsPart next.0 part behind pages = holds.1 in
      let length_is : length part ≡ long = holds.2 in
      record {
        front = follows.front ++ part;
        long = omega (arith, follows.long, length_is, long_is, length-append follows.front part);
        joins = λ ns rest first held rest_long.
            let parts : Cut part rest = cut part rest left (length_is ∙ long_is) (rest_long ∙ omega (arith, length_is)) in
            let row_is : HoldsPart next.0 (take payload_size (part ++ rest)) (first_in ns) pages =
            subst (λ s. HoldsPart next.0 (take payload_size (part ++ rest)) s pages) first
            (subst (λ p. HoldsPart next.0 p behind pages) (sym parts.front) row) in
            let rest_is : Hold ns (drop payload_size (part ++ rest)) pages =
            subst (λ t. Hold ns t pages) (sym parts.back) held in
            let enough : 1 ≤ length (part ++ rest) =
            omega (arith, some, length_is, long_is, length-append part rest) in
            let joined =
            follows.joins (next.0 ∷ ns) (part ++ rest) refl (enough, row_is, rest_is)
            (length-append part rest ∙ omega (arith, rest_long, length_is, long_is)) in
            let slots_are : (found ++ next.0 ∷ []) ++ ns ≡ found ++ next.0 ∷ ns = append_assoc found (next.0 ∷ []) ns in
            record {
              first = joined.first ∙ ap first_in (sym slots_are);
              held =
                  subst (λ l. Hold l ((follows.front ++ part) ++ rest) pages) (sym slots_are)
                  (subst (λ t. Hold (found ++ next.0 ∷ ns) t pages) (sym (append_assoc follows.front part rest))
                  joined.held);
            };
        only = λ has.
            let there = part_in next left pages some (follows.only has) in
            let same : there.behind ≡ behind =
            part_next next.0 there.part.0 part there.behind behind pages there.part.1 row in
            subst (λ s. HasText s (left - long) pages) same
            (subst (λ n. HasText there.behind (left - n) pages) (sym long_is) there.rest);
        counted = omega (arith, follows.counted, few, chunks_less left long some long_is);
      }

  pub follows_lost : ((behind : Slot) → HoldsSize next.0 long behind pages → ⊥) → HasText slot size pages → ⊥
  follows_lost none has =
      let there = part_in next left pages some (follows.only has) in
      none there.behind (subst (λ n. HoldsSize next.0 n there.behind pages) (sym long_is) there.part)

-- at the end
pub follows_found : (slot next : Slot) (size before now : ℕ) (found : List ℕ) (pages : Pages)
    → Follows slot next size 0 before now found pages → next ≡ first_in [] → AreChunks found slot size pages
follows_found slot next size before now found pages follows none =
    let joined = follows.joins [] [] none refl refl in
    record {
      first = joined.first ∙ ap first_in (append-nil found);
      text = follows.front;
      held =
          subst (λ t. Hold found t pages) (append-nil follows.front)
          (subst (λ l. Hold l (follows.front ++ []) pages) (append-nil found) joined.held);
      size_is = omega (arith, follows.long);
    }

pub follows_past : (slot next : Slot) (size before now : ℕ) (found : List ℕ) (pages : Pages)
    → Follows slot next size 0 before now found pages → next ≢ first_in [] → HasText slot size pages → ⊥
follows_past slot next size before now found pages follows some has =
    let left = follows.only has in
    from left.0 left.2 left.1.slots left.1.first left.1.held
  where
    from : (text : List ℕ) → length text ≡ 0 → (slots : List ℕ) → next ≡ first_in slots → Hold slots text pages → ⊥
    from text none [] first held = some first
    from text none (n ∷ ns) first held = omega (arith, held.0, none)

-- no text takes more slots than there are
pub too_many : (slot : Slot) (size : ℕ) (pages : Pages) → slot_count pages < chunk_count size
    → HasText slot size pages → ⊥
too_many slot size pages many has =
    let holds : HoldsText slot has.0 pages = has.1 in
    let count : length holds.slots ≡ chunk_count size =
    held_count holds.slots has.0 pages holds.held ∙ ap chunk_count has.2 in
    over (slot_count pages) (length holds.slots) (chunk_count size) many count
    (held_few holds.slots has.0 pages holds.held)
  where
    over : (slots held wanted : ℕ) → slots < wanted → held ≡ wanted → held ≤ slots → ⊥
    over slots held wanted many count few = omega arith
