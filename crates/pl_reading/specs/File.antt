-- A file of linked slots: which of its bytes are the store's, and what its header must say.
use Rattle.std.specs.Prelude.{◌≡◌, ◌≤◌, ◌+◌, ◌-◌, ◌*◌, ◌/◌, ℕ, List, replicate, take}
use Rattle.pl_base.specs.Live.{slot_limit, slot_size}
use Rattle.pl_base.specs.Store.{Store}
use Rattle.pl_base.specs.Touched.{behind_gate, bytes_before, page_size}
use Rattle.pl_record.specs.Form.{StandsFor, form_name, header_size, pages_of}
use Rattle.pl_sheets.specs.Sheets.{Pages}
use Rattle.pl_slot.specs.Arena.{IsArena, header_of}
use Rattle.pl_slot.specs.Header.{Header, header_in}

-- what the header page says, with which the bytes from page 1 on begin
abbrev pub first_header : List ℕ → Header
first_header bytes = header_in (take page_size bytes)

-- of the bytes from page 1 on those of the store: as many pages as the header says. What lies
-- behind them is free
abbrev pub front_bytes : List ℕ → List ℕ
front_bytes bytes = take (bytes_before (first_header bytes).pages) bytes

-- the bytes from page 1 on hold a store
abbrev pub HoldStore : List ℕ → Store → Type 0
HoldStore bytes store = StandsFor (front_bytes bytes) store

-- ---- a file

-- what its header page says
abbrev pub file_header : List ℕ → Header
file_header file = first_header (behind_gate file)

-- the bytes of its store from page 1 on
abbrev pub stored_bytes : List ℕ → List ℕ
stored_bytes file = front_bytes (behind_gate file)

-- the pages that they make
abbrev pub stored_pages : List ℕ → Pages
stored_pages file = pages_of (stored_bytes file)

-- the bytes of a file stand for a store
abbrev pub FileStandsFor : List ℕ → Store → Type 0
FileStandsFor file store = HoldStore (behind_gate file) store

-- no store has more pages, with the gate's and the header's
abbrev pub most_pages : ℕ
most_pages = 2 + slot_limit * slot_size / page_size

-- a header names the form, a length that a store may have, and no byte behind its fields says
-- anything
pub record IsNamed (header : Header) : Type 0 where
  pub form : header.form ≡ form_name
  pub some : 2 ≤ header.pages
  pub few : header.pages ≤ most_pages
  pub rest : header.rest ≡ replicate (page_size - header_size) 0

-- the bytes of a file have the header and the slots of a store
pub record HasSlots (file : List ℕ) : Type 0 where
  pub arena : IsArena (stored_pages file)
  pub named : IsNamed (header_of (stored_pages file))
