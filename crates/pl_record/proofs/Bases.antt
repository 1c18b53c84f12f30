-- What a change of pages tells of the bytes that may have been before, and of how many have
-- changed.
use Rattle.std.proofs.Common.{◌≡◌, ◌∙◌, ◌+◌, ◌-◌, ◌<◌, ◌≤◌, ℕ, Bool, List, Some, ap, arith, false, length, sym}
use Rattle.std.proofs.Common.{◌++◌, ◌==◌, inl, inr}
use Rattle.std.proofs.lemmas.Bool.{cases_lt, or_parts, true≢false}
use Rattle.std.proofs.lemmas.List.{get_or_past}
use Rattle.std.proofs.lemmas.List.Folds.{list_any-append}
use Rattle.pl_base.specs.Touched.{IsAtMostMore, bytes_before}
use Rattle.pl_record.specs.LinkedRows.{IsBaseOf, changes}
use Rattle.pl_sheets.specs.Sheets.{ArePages, Pages, has_changed, page_count}
use Rattle.pl_slot.specs.Arena.{ChangesOnly, IsArena, header_of, is_among}
use Rattle.pl_slot.proofs.ArenaLaws.{then_only}
use Rattle.pl_slot.proofs.CountLaws.{passed, passed_few, passed_past}

-- bytes that may have been before still may
pub base_kept : (these : List ℕ) (old new : Pages) → ArePages old → ChangesOnly these old new → (bytes : List ℕ)
    → IsBaseOf old bytes → IsBaseOf new bytes
base_kept these old new are only bytes base =
    record {
      len = base.len ∙ ap bytes_before (sym only.before);
      same = λ page some below none.
          let there : page < page_count old = omega (arith, only.before, are.before) in
          let still = only.unmarked page there none in
          base.same page some (omega (arith, only.before)) still.0 ∙ sym (ap (λ p. p.image) still.1);
    }

-- pages that change one after another
pub both_only : (xs ys : List ℕ) (old middle new : Pages) → page_count old ≤ page_count middle
    → ChangesOnly xs old middle → ChangesOnly ys middle new → ChangesOnly (xs ++ ys) old new
both_only xs ys old middle new longer first second =
    then_only xs ys (xs ++ ys) old middle new
    (λ p other.
    or_parts (is_among p xs) (is_among p ys) (sym (list_any-append (λ m. p == m) xs ys) ∙ other)) longer first second

-- those that were added have all changed, so that there are no fewer then
pub no_fewer : (these : List ℕ) (old new : Pages) → ArePages old → ArePages new → ChangesOnly these old new
    → page_count old ≤ page_count new
no_fewer these old new before now only = elim (cases_lt (page_count new) (page_count old)) [
  | inl fewer ↦
      let past : old.before ≤ page_count new = omega (arith, only.before, now.before) in
      let never = get_or_past new.changed (page_count new) false (omega arith) in
      absurd (true≢false (sym (before.added (page_count new) past fewer)
      ∙ (only.unmarked (page_count new) fewer never).0))
  | inr longer ↦ longer
]

-- ---- how many have changed

none_past : (pages : Pages) (k : ℕ) → page_count pages ≤ k → has_changed k pages ≡ false
none_past pages k past = get_or_past pages.changed k false past

abbrev is_changed : Pages → ℕ → Bool
is_changed pages page = has_changed page pages

changed_far : (pages : Pages) (count : ℕ) → page_count pages ≤ count
    → passed (is_changed pages) 0 count ≡ passed (is_changed pages) 0 (page_count pages)
changed_far pages count past =
    let far : page_count pages + (count - page_count pages) ≡ count = omega arith in
    ap (passed (is_changed pages) 0) (sym far)
    ∙ passed_past (is_changed pages) 0 (page_count pages) (count - page_count pages)
    (λ k above. none_past pages k (omega arith))

pub few_changed : (these : List ℕ) (old new : Pages) → page_count old ≤ page_count new → ChangesOnly these old new
    → changes new ≤ changes old + length these
few_changed these old new longer only =
    omega (
      arith,
      passed_few (is_changed old) (is_changed new) these 0 (page_count new) (λ k other. only.marks k other),
      changed_far old (page_count new) longer,
    )

pub at_most : (these : List ℕ) (more : ℕ) (old new : Pages) → page_count old ≤ page_count new
    → ChangesOnly these old new → length these ≤ more → IsAtMostMore more (Some (changes old)) (Some (changes new))
at_most these more old new longer only few = omega (arith, few_changed these old new longer only)

-- there are as many pages, where the header says so
pub same_count : (old new : Pages) → (header_of old).pages ≡ page_count old → IsArena new
    → header_of new ≡ header_of old → page_count new ≡ page_count old
same_count old new told after header = sym after.told ∙ ap (λ h. h.pages) header ∙ told
