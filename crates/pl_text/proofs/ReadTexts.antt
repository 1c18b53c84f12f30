-- A loop that reads a text, slot by slot.
use Rattle.std.proofs.Common.{◌≡◌, ◌≢◌, ◌∙◌, ◌+◌, ◌-◌, ◌<◌, ◌≤◌, ◌∷◌, ◌++◌, [], ℕ, List, ap, append_assoc, arith}
use Rattle.std.proofs.Common.{drop, length, length-append, length-drop, sym, take}
use Rattle.std.proofs.lemmas.List.{append-nil, take-append-drop}
use Rattle.pl_base.specs.declared.id.Slot.{Slot}
use Rattle.pl_sheets.specs.Sheets.{Pages}
use Rattle.pl_slot.specs.Arena.{first_in, live_at}
use Rattle.pl_slot.specs.Slot.{payload_size}
use Rattle.pl_text.specs.Chunks.{chunk_count, chunk_row, HasText, Hold, HoldsPart, HoldsText, IsPart}
use Rattle.pl_text.proofs.HeldTexts.{held_count, not_zero, number_of, one_text}

-- of the text from one slot on these bytes are read, and what is left is held from the next one on;
-- steps are counted from some before on
pub record Reads (slot next : Slot) (size before now : ℕ) (bytes : List ℕ) (pages : Pages) : Type 0 where
  pub slots : List ℕ
  pub left : List ℕ
  pub first : next ≡ first_in slots
  pub held : Hold slots left pages
  pub joined : (text : List ℕ) → HoldsText slot text pages → text ≡ bytes ++ left
  pub long : length bytes + length left ≡ size
  pub counted : now + length slots ≡ before + chunk_count size

pub reads_none : (slot : Slot) (size before : ℕ) (pages : Pages) → HasText slot size pages
    → Reads slot slot size before before [] pages
reads_none slot size before pages has =
    let holds : HoldsText slot has.0 pages = has.1 in
    record {
      slots = holds.slots;
      left = has.0;
      first = holds.first;
      held = holds.held;
      joined = λ other held.
          (one_text held.slots holds.slots other has.0 pages held.held holds.held (sym held.first ∙ holds.first)).texts;
      long = omega (arith, has.2);
      counted =
          ap (λ n. before + n) (held_count holds.slots has.0 pages holds.held ∙ ap chunk_count has.2);
    }

-- the slot that comes next, where there is one
pub record Here (next : Slot) (left : List ℕ) (slots : List ℕ) (pages : Pages) : Type 0 where
  pub rest : List ℕ
  pub slots_are : slots ≡ next.0 ∷ rest
  pub some : 1 ≤ length left
  pub part : HoldsPart next.0 (take payload_size left) (first_in rest) pages
  pub held : Hold rest (drop payload_size left) pages

pub here : (next : Slot) (slots left : List ℕ) (pages : Pages) → next.0 ≢ 0 → next ≡ first_in slots
    → Hold slots left pages → Here next left slots pages
here next [] left pages some first held = absurd (some (number_of next (first_in []) first))
here next (n ∷ ns) left pages some first held =
    let same : next.0 ≡ n = number_of next (first_in (n ∷ ns)) first in
    record {
      rest = ns;
      slots_are = ap (λ k. k ∷ ns) (sym same);
      some = held.0;
      part = ap (λ k. live_at k pages) same ∙ held.1;
      held = held.2;
    }

module _ (slot next : Slot) (size before now : ℕ) (bytes : List ℕ) (pages : Pages)
    (reads : Reads slot next size before now bytes pages) (some : next.0 ≢ 0) where
  pub reads_part : IsPart next.0 pages
  reads_part =
      let at = here next reads.slots reads.left pages some reads.first reads.held in
      (take payload_size reads.left, first_in at.rest, at.part)

  pub reads_on : (behind : Slot) (more : List ℕ)
      → ((part : List ℕ) (after : Slot) → HoldsPart next.0 part after pages → behind ≡ after)
      → ((part : List ℕ) (after : Slot) → HoldsPart next.0 part after pages → more ≡ bytes ++ part)
      → Reads slot behind size before (now + 1) more pages
  reads_on behind more is_behind is_more =
      let at = here next reads.slots reads.left pages some reads.first reads.held in
      let part = take payload_size reads.left in
      let rest = drop payload_size reads.left in
      let longer : more ≡ bytes ++ part = is_more part (first_in at.rest) at.part in
      let whole : part ++ rest ≡ reads.left = take-append-drop payload_size reads.left in
      record {
        slots = at.rest;
        left = rest;
        first = is_behind part (first_in at.rest) at.part;
        held = at.held;
        joined = λ text holds.
            reads.joined text holds ∙ ap (λ l. bytes ++ l) (sym whole) ∙ sym (append_assoc bytes part rest)
            ∙ ap (λ l. l ++ rest) (sym longer);
        long =
            omega (arith, reads.long, ap length longer, length-append bytes part, length-append part rest, ap length whole);
        counted = omega (arith, reads.counted, ap length at.slots_are);
      }

  -- each part has a byte
  pub reads_less : (more : List ℕ)
      → ((part : List ℕ) (after : Slot) → HoldsPart next.0 part after pages → more ≡ bytes ++ part)
      → size - length more < size - length bytes
  reads_less more is_more =
      let at = here next reads.slots reads.left pages some reads.first reads.held in
      let part = take payload_size reads.left in
      let rest = drop payload_size reads.left in
      let longer : more ≡ bytes ++ part = is_more part (first_in at.rest) at.part in
      let whole : part ++ rest ≡ reads.left = take-append-drop payload_size reads.left in
      omega (
        arith,
        reads.long,
        at.some,
        ap length longer,
        length-append bytes part,
        length-append part rest,
        ap length whole,
        length-drop payload_size reads.left,
      )

-- at the end all is read
pub reads_all : (slot next : Slot) (size before now : ℕ) (bytes : List ℕ) (pages : Pages)
    → Reads slot next size before now bytes pages → next.0 ≡ 0 → (text : List ℕ) → HoldsText slot text pages
    → bytes ≡ text
reads_all slot next size before now bytes pages reads none text holds =
    from reads.slots reads.first reads.held
  where
    from : (slots : List ℕ) → next ≡ first_in slots → Hold slots reads.left pages → bytes ≡ text
    from [] first held =
        sym (reads.joined text holds ∙ ap (λ l. bytes ++ l) held ∙ append-nil bytes)
    from (n ∷ ns) first held =
        absurd (not_zero n (chunk_row (take payload_size reads.left) (first_in ns)) pages held.1
        (sym (number_of next (first_in (n ∷ ns)) first) ∙ none))

pub reads_counted : (slot next : Slot) (size before now : ℕ) (bytes : List ℕ) (pages : Pages)
    → Reads slot next size before now bytes pages → next.0 ≡ 0 → now ≡ before + chunk_count size
reads_counted slot next size before now bytes pages reads none = from reads.slots reads.first reads.held reads.counted
  where
    from : (slots : List ℕ) → next ≡ first_in slots → Hold slots reads.left pages
        → now + length slots ≡ before + chunk_count size → now ≡ before + chunk_count size
    from [] first held counted = omega (arith, counted)
    from (n ∷ ns) first held counted =
        absurd (not_zero n (chunk_row (take payload_size reads.left) (first_in ns)) pages held.1
        (sym (number_of next (first_in (n ∷ ns)) first) ∙ none))
