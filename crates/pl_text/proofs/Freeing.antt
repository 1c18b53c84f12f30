-- A loop that frees the slots of a text.
use Rattle.std.proofs.Common.{◌≡◌, ◌≢◌, ◌∙◌, ◌+◌, ◌≤◌, ◌∷◌, ◌++◌, ◌||◌, ◌&&◌, ◌==◌, [], ℕ, List, Bool, ap, append_assoc, arith}
use Rattle.std.proofs.Common.{drop, eq-eqb, false, inl, inr, is_some, length-append, map, not, refl, subst, sym}
use Rattle.std.proofs.Common.{take, true}
use Rattle.std.proofs.lemmas.Bool.{cases_eq, ne_eqb, or_cases, true≢false}
use Rattle.std.proofs.lemmas.List.{append-nil, map-append}
use Rattle.std.proofs.lemmas.List.Folds.{list_any-append}
use Rattle.std.specs.Option.{option_and_then}
use Rattle.pl_base.specs.declared.id.Slot.{Slot}
use Rattle.pl_sheets.specs.Sheets.{Pages, page_count}
use Rattle.pl_slot.specs.declared.row.SlotRow.TheVariants.{Free}
use Rattle.pl_slot.specs.Arena.{ChangesOnly, first_in, header_of, header_page, is_among, is_free, IsSet}
use Rattle.pl_slot.specs.Arena.{live_count, live_row, row_at, slot_page}
use Rattle.pl_slot.specs.Header.{Header}
use Rattle.pl_slot.specs.Slot.{payload_size}
use Rattle.pl_slot.proofs.ArenaLaws.{only_itself, row_elsewhere, row_here, then_only}
use Rattle.pl_text.specs.Chunks.{chunk_row, FreesSlots, Hold, HoldsPart, HoldsText, IsPart, pages_of}
use Rattle.pl_text.proofs.HeldTexts.{held_kept, held_once, not_zero, number_of, one_text}
use Rattle.pl_text.proofs.ReadTexts.{here}

-- ---- pages

pub neither : (a b : Bool) → (a || b) ≡ false → (a ≡ false) × (b ≡ false)
neither true b none = absurd (true≢false none)
neither false b none = (refl, none)

pub beside : (a b : Bool) → a ≡ false → b ≡ false → (a || b) ≡ false
beside a b first second = ap (λ c. c || b) first ∙ second

-- a page that is none of these is none of those of the front, nor that of the last
pub apart_pages : (n p : ℕ) (ns : List ℕ) → is_among p (pages_of (ns ++ n ∷ [])) ≡ false
    → (is_among p (pages_of ns) ≡ false) × (is_among p (pages_of (n ∷ [])) ≡ false)
apart_pages n p ns other =
    let head = neither (p == header_page) (is_among p (map slot_page (ns ++ n ∷ []))) other in
    let parts : (is_among p (map slot_page ns) || is_among p (slot_page n ∷ [])) ≡ false =
    sym (list_any-append (λ m. p == m) (map slot_page ns) (slot_page n ∷ []))
    ∙ ap (λ l. is_among p l) (sym (map-append slot_page ns (n ∷ []))) ∙ head.1 in
    let tail = neither (is_among p (map slot_page ns)) (is_among p (slot_page n ∷ [])) parts in (
      beside (p == header_page) (is_among p (map slot_page ns)) head.0 tail.0,
      beside (p == header_page) (is_among p (slot_page n ∷ [])) head.0 tail.1,
    )

-- ---- a slot more that is free

pub record GivenBack (slot : Slot) (old new : Pages) : Type 0 where
  pub first : Slot
  pub rows : IsSet slot.0 (Free first) old new
  pub header : header_of new ≡ record (header_of old) { first_free = slot }
  pub count : live_count new + 1 ≡ live_count old
  pub pages : ChangesOnly (pages_of (slot.0 ∷ [])) old new

free_by_row : (m : ℕ) (old new : Pages) → row_at m new ≡ row_at m old → is_free m old ≡ true → is_free m new ≡ true
free_by_row m old new same free =
    ap (λ r. is_some r && not (is_some (option_and_then live_row r))) same ∙ free

pub frees_more : (slot : Slot) (gone : List ℕ) (old middle new : Pages) → page_count old ≤ page_count middle
    → FreesSlots gone old middle → GivenBack slot middle new → FreesSlots (gone ++ slot.0 ∷ []) old new
frees_more slot gone old middle new longer freed given =
    record {
      free = λ m among. elim (cases_eq m slot.0) [
        | inl same ↦
            ap (λ k. is_free k new) same
            ∙ ap (λ r. is_some r && not (is_some (option_and_then live_row r)))
            (row_here slot.0 (Free given.first) middle new given.rows)
        | inr apart ↦
            free_by_row m middle new (row_elsewhere m slot.0 (Free given.first) middle new given.rows apart)
            (freed.free m (front m apart among))
      ];
      others = λ m other.
          let parts = neither (is_among m gone) (is_among m (slot.0 ∷ []))
          (sym (list_any-append (λ k. m == k) gone (slot.0 ∷ [])) ∙ other) in
          ap (option_and_then live_row)
          (row_elsewhere m slot.0 (Free given.first) middle new given.rows (not_last m parts.1))
          ∙ freed.others m parts.0;
      count = omega (arith, freed.count, given.count, length-append gone (slot.0 ∷ []));
      header =
          let h : header_of new ≡ record (header_of old) { first_free = slot } =
          given.header ∙ ap (λ (f : Header). record f { first_free = slot }) freed.header in
          h ∙ ap (λ (s : Slot). record (header_of old) { first_free = s }) (sym (ap (λ (f : Header). f.first_free) h));
      pages =
          then_only (pages_of gone) (pages_of (slot.0 ∷ [])) (pages_of (gone ++ slot.0 ∷ [])) old middle new
          (λ p other. apart_pages slot.0 p gone other) longer freed.pages given.pages;
    }
  where
    front : (m : ℕ) → m ≢ slot.0 → is_among m (gone ++ slot.0 ∷ []) ≡ true → is_among m gone ≡ true
    front m apart among =
        elim (or_cases (is_among m gone) (is_among m (slot.0 ∷ []))
        (sym (list_any-append (λ k. m == k) gone (slot.0 ∷ [])) ∙ among)) [
          | inl there ↦ there
          | inr last ↦
              absurd (true≢false (sym last ∙ ap (λ b. b || false) (ne_eqb m slot.0 apart)))
        ]

    not_last : (m : ℕ) → is_among m (slot.0 ∷ []) ≡ false → m ≢ slot.0
    not_last m none same = absurd (true≢false (sym (ap (λ b. b || false) (eq-eqb m slot.0 same)) ∙ none))

-- ---- the loop

-- of the slots of a text those in front are free, and the others hold what is left
pub record Frees (slot next : Slot) (old new : Pages) : Type 0 where
  pub gone : List ℕ
  pub left : List ℕ
  pub text : List ℕ
  pub rest : List ℕ
  pub first : slot ≡ first_in (gone ++ left)
  pub whole : Hold (gone ++ left) text old
  pub next_is : next ≡ first_in left
  pub held : Hold left rest new
  pub freed : FreesSlots gone old new

pub frees_none : (slot : Slot) (pages : Pages) → (text : List ℕ) → HoldsText slot text pages
    → Frees slot slot pages pages
frees_none slot pages text holds =
    record {
      gone = [];
      left = holds.slots;
      text = text;
      rest = text;
      first = holds.first;
      whole = holds.held;
      next_is = holds.first;
      held = holds.held;
      freed = record {
        free = λ n among. absurd (true≢false (sym among));
        others = λ n other. refl;
        count = omega arith;
        header = refl;
        pages = only_itself (pages_of []) pages;
      };
    }

pub frees_part : (slot next : Slot) (old new : Pages) → Frees slot next old new → next.0 ≢ 0 → IsPart next.0 new
frees_part slot next old new frees some =
    let at = here next frees.left frees.rest new some frees.next_is frees.held in
    (take payload_size frees.rest, first_in at.rest, at.part)

pub frees_on : (slot next behind : Slot) (old middle new : Pages) → page_count old ≤ page_count middle
    → Frees slot next old middle → next.0 ≢ 0
    → ((part : List ℕ) (after : Slot) → HoldsPart next.0 part after middle → behind ≡ after)
    → GivenBack next middle new → Frees slot behind old new
frees_on slot next behind old middle new longer frees some is_behind given =
    let at = here next frees.left frees.rest middle some frees.next_is frees.held in
    let parts : (frees.gone ++ next.0 ∷ []) ++ at.rest ≡ frees.gone ++ frees.left =
    append_assoc frees.gone (next.0 ∷ []) at.rest ∙ ap (λ l. frees.gone ++ l) (sym at.slots_are) in
    let never : is_among next.0 at.rest ≡ false =
    held_once next.0 at.rest frees.rest middle (at.some, at.part, at.held) in
    record {
      gone = frees.gone ++ next.0 ∷ [];
      left = at.rest;
      text = frees.text;
      rest = drop payload_size frees.rest;
      first = frees.first ∙ ap first_in (sym parts);
      whole = subst (λ l. Hold l frees.text old) (sym parts) frees.whole;
      next_is = is_behind (take payload_size frees.rest) (first_in at.rest) at.part;
      held =
          held_kept at.rest (drop payload_size frees.rest) middle new
          (λ m among. ap (option_and_then live_row)
          (row_elsewhere m next.0 (Free given.first) middle new given.rows
          (λ same. true≢false (sym among ∙ ap (λ k. is_among k at.rest) same ∙ never))))
          at.held;
      freed = frees_more next frees.gone old middle new longer frees.freed given;
    }

-- at the end all slots of the text are free
pub frees_all : (slot next : Slot) (old new : Pages) → Frees slot next old new → next.0 ≡ 0
    → (slots text : List ℕ) → slot ≡ first_in slots → Hold slots text old → FreesSlots slots old new
frees_all slot next old new frees none slots text first held =
    let gone_is : frees.gone ++ frees.left ≡ frees.gone = left_none frees.left frees.rest frees.next_is frees.held in
    let same = one_text (frees.gone ++ frees.left) slots frees.text text old frees.whole held (sym frees.first ∙ first) in
    subst (λ l. FreesSlots l old new) (sym gone_is ∙ same.slots) frees.freed
  where
    left_none : (left rest : List ℕ) → next ≡ first_in left → Hold left rest new → frees.gone ++ left ≡ frees.gone
    left_none [] rest first held = append-nil frees.gone
    left_none (n ∷ ns) rest first held =
        absurd (not_zero n (chunk_row (take payload_size rest) (first_in ns)) new held.1
        (sym (number_of next (first_in (n ∷ ns)) first) ∙ none))
