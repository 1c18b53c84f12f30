-- What an opening reads of a file, and what rows are to the bytes that they were read from.
use Rattle.std.specs.Prelude.{◌≡◌, ⊤, ◌≤◌, ℕ, ◌*◌, List, length, take, drop, Option, Some, None}
use Rattle.std.specs.Prelude.{Result, Ok, Err, IfSome}
use Rattle.pl_base.specs.Rows.{store_of}
use Rattle.pl_base.specs.Store.{Store}
use Rattle.pl_base.specs.Touched.{page_size}
use Rattle.pl_linked.specs.declared.linked.Linked.{Linked}
use Rattle.pl_linked.specs.Linked.{bytes_of, kept_of}
use Rattle.pl_reading.specs.File.{HoldStore, file_header, front_bytes, most_pages}
use Rattle.pl_record.specs.Form.{StandsFor}
use Rattle.pl_store.specs.declared.ended.Ended.{Ended}
use Rattle.pl_store.specs.declared.ended.Ended.TheVariants as ended
use Rattle.pl_store.specs.declared.reader.Reader.{Reader}

-- the bytes from page 1 on stand for no store
abbrev pub HoldNone : List ℕ → Type 0
HoldNone bytes = (store : Store) → HoldStore bytes store → ⊥

-- so many pages of a file are its store's, with the gate's and the header's
pub record ArePagesOf (pages : ℕ) (file : List ℕ) : Type 0 where
  pub within : page_size * pages ≤ length file
  pub told : (file_header file).pages ≡ pages

-- what a file's header tells: the number of its store's pages, which no store exceeds, or that
-- there is none
abbrev pub TellsPages : Option ℕ → Option (List ℕ) → Type 0
TellsPages (Some pages) held = (2 ≤ pages) × (pages ≤ most_pages) × IfSome held (ArePagesOf pages)
TellsPages None held = IfSome held (λ file. HoldNone (drop page_size file))

-- a front of the bytes from page 1 on with all that are the store's
pub record IsStoreOf (bytes front : List ℕ) : Type 0 where
  pub begins : take (length front) bytes ≡ front
  pub whole : front_bytes front ≡ front_bytes bytes

-- the bytes from page 1 on stand for the store of these rows and for no other, and begin with their
-- own bytes
pub record IsReadFrom (own : Linked) (bytes : List ℕ) : Type 0 where
  pub stands : HoldStore bytes (store_of (kept_of own))
  pub only : (store : Store) → HoldStore bytes store → store ≡ store_of (kept_of own)
  pub begins : take (length (bytes_of own)) bytes ≡ bytes_of own
  pub own_form : StandsFor (bytes_of own) (store_of (kept_of own))

-- how the reading of a store ends, of a file whose gate is not set; it never tells how many bytes
-- there are
abbrev pub EndsReading : Option (List ℕ) → Result Reader Ended → Type 0
EndsReading held (Ok reader) = IfSome held (λ file. IsReadFrom reader.rows (drop page_size file))
EndsReading held (Err ended.DeviceFault) = ⊤
EndsReading held (Err ended.NoMemory) = ⊤
EndsReading held (Err ended.NotAStore) = IfSome held (λ file. HoldNone (drop page_size file))
EndsReading held (Err (ended.NotEmpty len)) = ⊥
