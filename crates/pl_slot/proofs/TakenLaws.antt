-- A slot is free, and then it is taken.
use Rattle.std.proofs.Common.{◌≡◌, ◌≢◌, ◌∙◌, ◌==◌, ◌+◌, ◌∷◌, [], ap, cond, is_some, not, refl, rules, Some, subst, sym}
use Rattle.std.proofs.lemmas.Bool.{and_parts, not-true}
use Rattle.pl_base.specs.declared.id.Slot.{Slot}
use Rattle.pl_sheets.specs.Sheets.{Pages}
use Rattle.pl_slot.specs.declared.row.SlotRow.{SlotRow}
use Rattle.pl_slot.specs.Arena.{ChangesOnly, IsArena, IsLiveRow, IsSet, IsTaken, KeepsFields, header_of, header_page, is_live}
use Rattle.pl_slot.specs.Arena.{live_count, row_at, slot_page}
use Rattle.pl_slot.specs.Header.{Header}
use Rattle.pl_slot.specs.Taking.{MakesFree}
use Rattle.pl_slot.proofs.ArenaLaws.{only_itself, row_elsewhere, sets_live, then_only}
use Rattle.pl_slot.proofs.TakingLaws.{first_is_free}

-- a slot is free already
pub free_already : (pages : Pages) → (header_of pages).first_free.0 ≢ 0 → MakesFree pages pages
free_already pages some =
    record {
      free = some;
      live = λ n. refl;
      rows = λ n there. refl;
      still = λ n there. there;
      count = refl;
      header = refl;
      pages = only_itself (header_page ∷ slot_page (header_of pages).first_free.0 ∷ []) pages;
      longer = search rules;
    }

pub keeps_both : (old middle new : Pages) → KeepsFields old middle → KeepsFields middle new → KeepsFields old new
keeps_both old middle new first second =
    second ∙ ap (λ (h : Header). record h { pages = (header_of new).pages; first_free = (header_of new).first_free }) first

pub taken_then : (slot : Slot) (row : SlotRow) (old middle new : Pages) → MakesFree old middle
    → slot ≡ (header_of middle).first_free → IsArena middle → IsLiveRow row → IsSet slot.0 row middle new
    → live_count new ≡ live_count middle + 1 → IsTaken slot.0 row old new
taken_then slot row old middle new makes first arena fits set count =
    let free = first_is_free middle arena makes.free in
    let parts =
    and_parts (is_some (row_at (header_of middle).first_free.0 middle))
    (not (is_live (header_of middle).first_free.0 middle)) free in
    record {
      fresh =
          sym (ap is_some (makes.live slot.0)) ∙ ap (λ (s : Slot). is_live s.0 middle) first
          ∙ not-true (is_live (header_of middle).first_free.0 middle) parts.1;
      live = λ n.
          sets_live slot.0 row middle new fits set n ∙ ap (λ r. cond (n == slot.0) (Some row) r) (makes.live n);
      others = λ n apart there. row_elsewhere n slot.0 row middle new set apart ∙ makes.rows n there;
      count = count ∙ ap (λ k. k + 1) makes.count;
    }

pub pages_then : (slot : Slot) (old middle new : Pages) → MakesFree old middle → slot ≡ (header_of middle).first_free
    → ChangesOnly (header_page ∷ slot_page slot.0 ∷ []) middle new
    → ChangesOnly (header_page ∷ slot_page slot.0 ∷ []) old new
pages_then slot old middle new makes first only =
    then_only (header_page ∷ slot_page slot.0 ∷ []) (header_page ∷ slot_page slot.0 ∷ [])
    (header_page ∷ slot_page slot.0 ∷ []) old middle new (λ p other. (other, other)) makes.longer
    (subst (λ (s : Slot). ChangesOnly (header_page ∷ slot_page s.0 ∷ []) old middle) (sym first) makes.pages) only
