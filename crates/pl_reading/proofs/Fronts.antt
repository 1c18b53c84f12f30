-- The bytes of a store, and what lies behind them.
use Rattle.std.proofs.Common.{◌≡◌, ◌∙◌, ◌+◌, ◌*◌, ◌≤◌, ℕ, List, ap, arith, length, sym, take}
use Rattle.std.proofs.lemmas.List.{take-take}
use Rattle.pl_base.specs.Touched.{bytes_before, page_size}
use Rattle.pl_reading.specs.File.{first_header, front_bytes}
use Rattle.pl_record.specs.Form.{pages_of}
use Rattle.pl_sheets.specs.Sheets.{page_count}
use Rattle.pl_slot.specs.Arena.{IsArena}
use Rattle.pl_slot.specs.Header.{Header, header_in}
use Rattle.pl_reading.proofs.FileLaws.{header_is, laid_bytes}

-- ---- the bytes of slots are as long as their header says

module _ (bytes : List ℕ) (arena : IsArena (pages_of bytes)) where
  laid_long : page_size + length bytes ≡ page_size * page_count (pages_of bytes)
  laid_long = sym (laid_bytes bytes) ∙ arena.whole.whole

  told : (first_header bytes).pages ≡ page_count (pages_of bytes)
  told = sym (ap (λ (h : Header). h.pages) (header_is bytes)) ∙ arena.told

  pub has_header : page_size ≤ length bytes
  has_header = omega (arith, laid_long, arena.some_page)

  pub as_long : bytes_before (first_header bytes).pages ≡ length bytes
  as_long = omega (arith, laid_long, told, arena.some_page)

  -- whatever lies behind them
  pub front_of_more : (more : List ℕ) → take (length bytes) more ≡ bytes → front_bytes more ≡ bytes
  front_of_more more begins =
      let same : take page_size more ≡ take page_size bytes =
      sym (take-take page_size (length bytes) more has_header) ∙ ap (take page_size) begins in
      ap (λ (page : List ℕ). take (bytes_before (header_in page).pages) more) same
      ∙ ap (λ (n : ℕ). take n more) as_long
      ∙ begins

-- ---- as many bytes as the header says have the same header

pub front_again : (bytes : List ℕ) → 2 ≤ (first_header bytes).pages → front_bytes (front_bytes bytes) ≡ front_bytes bytes
front_again bytes some =
    let most : ℕ = bytes_before (first_header bytes).pages in
    ap (λ (page : List ℕ). take (bytes_before (header_in page).pages) (take most bytes))
    (take-take page_size most bytes (omega (arith, some)))
    ∙ take-take most most bytes (omega arith)
