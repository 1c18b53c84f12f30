-- What setting a field of the header makes of an arena.
use Rattle.std.proofs.Common.{◌≡◌, ◌∙◌, ◌+◌, ◌*◌, ◌^◌, ◌<◌, ◌≤◌, ◌∷◌, [], ℕ, ap, arith, w32}
use Rattle.std.specs.Int.{to_le_bytes}
use Rattle.pl_sheets.specs.Sheets.{Pages, page_count, with_bytes}
use Rattle.pl_slot.specs.declared.kind.LiveKind.{LiveKind}
use Rattle.pl_slot.specs.Arena.{IsArena, SetsHeader, header_of, header_page}
use Rattle.pl_slot.specs.Header.{Header, ends_place, with_first, with_last}
use Rattle.pl_slot.proofs.ArenaLaws.{PutWord, arena_kept, same_rows, then_only, word_put}
use Rattle.pl_slot.proofs.HeaderLaws.{first_keeps, first_place, first_set, first_word, last_keeps, last_set, with_word}
use Rattle.pl_slot.proofs.HeaderLaws.{word_below, word_count}

pub record FieldSet (change : Header → Header) (old new : Pages) : Type 0 where
  pub arena : IsArena new
  pub set : SetsHeader change old new
  pub as_many : page_count new ≡ page_count old

pub field_set : (k v : ℕ) (change : Header → Header) (old new : Pages) → IsArena old → k < word_count → v < 2 ^ 32
    → new ≡ with_bytes header_page (8 + 4 * k) (to_le_bytes w32 v) old → with_word k v old ≡ change (header_of old)
    → (change (header_of old)).pages ≡ (header_of old).pages
    → (change (header_of old)).first_free ≡ (header_of old).first_free → FieldSet change old new
field_set k v change old new arena there fits is made told first =
    let put : PutWord k v old new = word_put k v old new arena.whole arena.some_page there fits is in
    let header : header_of new ≡ change (header_of old) = put.header ∙ made in
    record {
      arena =
          arena_kept old new arena put.whole put.as_many put.rows (ap (λ (h : Header). h.pages) header ∙ told)
          (ap (λ (h : Header). h.first_free) header ∙ first);
      set = record {
        header = header;
        rows = put.rows;
        count = same_rows old new put.rows put.as_many;
        pages = put.pages;
      };
      as_many = put.as_many;
    }

pub both_set : (first second : Header → Header) (old middle new : Pages) → FieldSet first old middle
    → FieldSet second middle new → FieldSet (λ h. second (first h)) old new
both_set first second old middle new before behind =
    record {
      arena = behind.arena;
      set = record {
        header = behind.set.header ∙ ap second before.set.header;
        rows = λ n. behind.set.rows n ∙ before.set.rows n;
        count = behind.set.count ∙ before.set.count;
        pages =
            then_only (header_page ∷ []) (header_page ∷ []) (header_page ∷ []) old middle new (λ p other. (other, other))
            (same_count old middle before.as_many) before.set.pages behind.set.pages;
      };
      as_many = behind.as_many ∙ before.as_many;
    }
  where
    same_count : (old middle : Pages) → page_count middle ≡ page_count old → page_count old ≤ page_count middle
    same_count old middle same = omega (arith, same)

pub first_put : (kind : LiveKind) (at v : ℕ) (old new : Pages) → IsArena old → v < 2 ^ 32 → at ≡ ends_place kind
    → new ≡ with_bytes header_page at (to_le_bytes w32 v) old → FieldSet (with_first kind (record { 0 = v })) old new
first_put kind at v old new arena fits place is =
    field_set (first_word kind) v (with_first kind (record { 0 = v })) old new arena (omega (arith, word_below kind)) fits
    (is ∙ ap (λ k. with_bytes header_page k (to_le_bytes w32 v) old) (place ∙ first_place kind)) (first_set kind v old)
    (first_keeps kind (record { 0 = v }) (header_of old)).0 (first_keeps kind (record { 0 = v }) (header_of old)).1

pub last_put : (kind : LiveKind) (at v : ℕ) (old new : Pages) → IsArena old → v < 2 ^ 32 → at ≡ ends_place kind
    → new ≡ with_bytes header_page (at + 4) (to_le_bytes w32 v) old
    → FieldSet (with_last kind (record { 0 = v })) old new
last_put kind at v old new arena fits place is =
    field_set (first_word kind + 1) v (with_last kind (record { 0 = v })) old new arena (word_below kind) fits
    (is ∙ ap (λ k. with_bytes header_page k (to_le_bytes w32 v) old) (behind kind at place)) (last_set kind v old)
    (last_keeps kind (record { 0 = v }) (header_of old)).0 (last_keeps kind (record { 0 = v }) (header_of old)).1
  where
    behind : (kind : LiveKind) (at : ℕ) → at ≡ ends_place kind → at + 4 ≡ 8 + 4 * (first_word kind + 1)
    behind kind at place = omega (arith, place, first_place kind)
