-- Texts of one length.
use Rattle.std.specs.Prelude.{ℕ, List}
use Rattle.std.specs.List.{All}
use Rattle.pl_base.specs.declared.id.Slot.{Slot}
use Rattle.pl_sheets.specs.Sheets.{Pages}
use Rattle.pl_text.specs.Chunks.{HasText}

-- the bytes of a URL
abbrev pub url_size : ℕ
url_size = 60

-- a URL begins in each of these slots
abbrev pub HaveUrls : List Slot → Pages → Type 0
HaveUrls slots pages = All (λ slot. HasText slot url_size pages) slots
