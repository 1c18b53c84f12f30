-- Which files stand for a store, and what a session and a prepared command are to a file.
use Rattle.std.specs.Prelude.{◌≡◌, ◌⊎◌, ◌↔◌, ℕ, true, List, length, take, Option, None, Some}
use Rattle.std.specs.List.{Any}
use Rattle.pl_base.specs.Rows as rows
use Rattle.pl_base.specs.Store.{Store}
use Rattle.pl_base.specs.Touched.{changed, bytes_before}
use Rattle.pl_desk.specs.Shown.{Rests}
use Rattle.pl_desk.specs.declared.desk.Desk.{Ghosts}
use Rattle.pl_gate.specs.Gate.{commit_bytes, has_gate, laid}
use Rattle.pl_gate.specs.States.{IsClosed}
use Rattle.pl_linked.specs.declared.linked.Linked.{Linked}
use Rattle.pl_linked.specs.Linked.{bytes_of, kept_of}
use Rattle.pl_reading.specs.File.{HoldStore}
use Rattle.pl_record.specs.Form.{StandsFor}
use Rattle.pl_store.specs.declared.memory.Memory.{Memory}
use Rattle.pl_store.specs.declared.pending.Pending.{Pending}
use Rattle.pl_store.specs.declared.reader.Reader.{Reader}
use Rattle.pl_store.specs.declared.session.Prepared.{Prepared}
use Rattle.pl_store.specs.declared.session.Session.{Session}

-- ---- files

-- the file has a gate, and with the journal laid over its pages where the gate is set they stand
-- for the store
pub record Stands (file : List ℕ) (store : Store) : Type 0 where
  pub gate : has_gate file ≡ true
  pub form : HoldStore (laid file) store

-- the file stands for one of two stores
abbrev pub StandsForEither : Store → Store → List ℕ → Type 0
StandsForEither before after file = Stands file before ⊎ Stands file after

-- the file stands for one of these stores
abbrev pub StandsForOneOf : List Store → List ℕ → Type 0
StandsForOneOf stores file = Any (Stands file) stores

-- so does each file that a stop may leave
abbrev pub LeavesOneOf : {D : Type 0} (desk : Ghosts D) → List Store → D → Type 0
LeavesOneOf desk stores now =
    (file : List ℕ) → desk.may_leave now file → StandsForOneOf stores file

-- two files that stand for the same store, or for none
abbrev pub StandsAlike : List ℕ → List ℕ → Type 0
StandsAlike file later = (store : Store) → Stands file store ↔ Stands later store

-- ---- a store in memory

-- the store in memory
abbrev pub memory_store : Memory → Store
memory_store memory = rows.store_of (kept_of memory.engine.rows)

-- how many slots it may take
abbrev pub memory_limit : Memory → ℕ
memory_limit memory = memory.engine.limit

-- ---- a store that is read

-- the reader's store
abbrev pub reader_store : Reader → Store
reader_store reader = rows.store_of (kept_of reader.rows)

-- the bytes of its store from page 1 on
abbrev pub reader_bytes : Reader → List ℕ
reader_bytes reader = bytes_of reader.rows

-- ---- a session

-- the session's store
abbrev pub session_store : Session → Store
session_store session = rows.store_of (kept_of session.engine.rows)

-- the bytes of its store from page 1 on
abbrev pub session_bytes : Session → List ℕ
session_bytes session = bytes_of session.engine.rows

-- how many slots of 128 bytes its store may take
abbrev pub session_limit : Session → ℕ
session_limit session = session.engine.limit

-- The desk's file holds the store of these rows: its gate is not set, it begins with the store's
-- pages, and a stop leaves just what a read gives.
pub record IsSettledFor {D : Type 0} (desk : Ghosts D) (own : Linked) (now : D) : Type 0 where
  pub rests : Rests desk now (IsClosed (bytes_of own))
  pub stands : StandsFor (bytes_of own) (rows.store_of (kept_of own))

-- it holds the reader's store
abbrev pub IsSettledToRead : {D : Type 0} (desk : Ghosts D) → Reader → D → Type 0
IsSettledToRead desk reader now = IsSettledFor desk reader.rows now

-- it holds the session's store
abbrev pub IsSettled : {D : Type 0} (desk : Ghosts D) → Session → D → Type 0
IsSettled desk session now = IsSettledFor desk session.engine.rows now

-- ---- a prepared command

-- the store after the command
abbrev pub next_store : Prepared → Store
next_store prepared = rows.store_of (kept_of prepared.engine.rows)

-- its bytes from page 1 on
abbrev pub next_bytes : Prepared → List ℕ
next_bytes prepared = bytes_of prepared.engine.rows

-- how many slots it may take
abbrev pub next_limit : Prepared → ℕ
next_limit prepared = prepared.engine.limit

-- there is no change to be written
abbrev pub writes_nothing : Prepared → Type 0
writes_nothing prepared = prepared.change ≡ None

-- how many pages a change has
abbrev pub pages_of_change : Option Pending → ℕ
pages_of_change None = 0
pages_of_change (Some pending) = length pending.touched.pages

-- how many pages a commit writes
abbrev pub pages_to_write : Prepared → ℕ
pages_to_write prepared = pages_of_change prepared.change

-- how many bytes are written of it: each page twice, with its number and a few more
abbrev pub bytes_of_change : Option Pending → ℕ
bytes_of_change None = 0
bytes_of_change (Some pending) = commit_bytes (length pending.touched.pages)

-- how many bytes
abbrev pub bytes_to_write : Prepared → ℕ
bytes_to_write prepared = bytes_of_change prepared.change

-- the change makes of the bytes before it the ones after it; where there is none, the ones before
-- it begin with the ones after it
abbrev pub LeadsTo : List ℕ → Option Pending → List ℕ → Type 0
LeadsTo before None after = take (length after) before ≡ after
LeadsTo before (Some pending) after =
    (changed pending.touched before ≡ after) × (length before ≡ bytes_before pending.touched.before)

-- the command was prepared in this session
pub record IsPreparedFrom (session : Session) (prepared : Prepared) : Type 0 where
  pub leads : LeadsTo (session_bytes session) prepared.change (next_bytes prepared)
  pub stands : StandsFor (next_bytes prepared) (next_store prepared)
