-- How the making of a store and the opening of a file end.
use Rattle.std.specs.Prelude.{◌≡◌, ⊤, ℕ, ◌<◌, true, false, List, [], Some, length, Result, Ok, Err}
use Rattle.std.specs.Prelude.{IfSome}
use Rattle.pl_base.specs.Rows.{store_of}
use Rattle.pl_base.specs.Store.{Store, opening}
use Rattle.pl_base.specs.Live.{slot_limit}
use Rattle.pl_desk.specs.Calls.{KeepsFile}
use Rattle.pl_desk.specs.Shown.{AtAnyMoment, Rests}
use Rattle.pl_desk.specs.declared.desk.Desk.{Ghosts}
use Rattle.pl_gate.specs.Gate.{has_gate, is_set}
use Rattle.pl_gate.specs.Recovery.{IsSettledAs}
use Rattle.pl_linked.specs.declared.linked.Linked.{Linked}
use Rattle.pl_linked.specs.Linked.{kept_of}
use Rattle.pl_store.specs.Session.{IsSettled, IsSettledFor, LeavesOneOf, Stands, StandsAlike}
use Rattle.pl_store.specs.Session.{StandsForOneOf, session_limit, session_store}
use Rattle.pl_store.specs.declared.ended.Ended.{Ended}
use Rattle.pl_store.specs.declared.ended.Ended.TheVariants as ended
use Rattle.pl_store.specs.declared.reader.Reader.{Reader}
use Rattle.pl_store.specs.declared.session.Session.{Session}

-- ---- files

-- the file stands for no store
abbrev pub StandsForNone : List ℕ → Type 0
StandsForNone file = (store : Store) → Stands file store → ⊥

-- the file is too short for a gate, or its gate is set over a journal that breaks the format; no
-- stop leaves either
abbrev pub LacksGate : List ℕ → Type 0
LacksGate file = has_gate file ≡ false

-- no stop left a change in the file that an opening brings to its end
abbrev pub IsFinished : List ℕ → Type 0
IsFinished file = is_set file ≡ false

-- ---- a new store

-- the session is that of the store before its first command, which an empty file holds now
pub record MakesStore {D : Type 0} (desk : Ghosts D) (session : Session) (old new : D) : Type 0
  where
    pub store : session_store session ≡ opening
    pub limit : session_limit session ≡ slot_limit
    pub was_empty : IfSome (desk.held old) (λ file. file ≡ [])
    pub settled : (file : List ℕ) → desk.held old ≡ Some file → IsSettled desk session new

-- the file has so many bytes, and is left as it was
pub record FindsBytes {D : Type 0} (desk : Ghosts D) (n : ℕ) (old new : D) : Type 0 where
  pub some : 0 < n
  pub counted : IfSome (desk.held old) (λ file. n ≡ length file)
  pub kept : KeepsFile desk old new

-- a file that has bytes is left as it was
abbrev pub SparesBytes : {D : Type 0} (desk : Ghosts D) → D → D → Type 0
SparesBytes desk old new =
    (file : List ℕ) → desk.held old ≡ Some file → 0 < length file → KeepsFile desk old new

-- how a making of a new store ends; it never finds that a file is no store
abbrev pub Makes : {D : Type 0} (desk : Ghosts D) → Result Session Ended → D → D → Type 0
Makes desk (Ok session) old new = MakesStore desk session old new
Makes desk (Err ended.DeviceFault) old new = SparesBytes desk old new
Makes desk (Err ended.NoMemory) old new = KeepsFile desk old new
Makes desk (Err ended.NotAStore) old new = ⊥
Makes desk (Err (ended.NotEmpty len)) old new = FindsBytes desk len old new

-- ---- a file that is opened

-- the rows are those of the one store that the file stands for, which holds it still
pub record OpensStore {D : Type 0} (desk : Ghosts D) (own : Linked) (old new : D) : Type 0 where
  pub stands : IfSome (desk.held old) (λ file. Stands file (store_of (kept_of own)))
  pub only : IfSome (desk.held old)
      (λ file. (store : Store) → Stands file store → store ≡ store_of (kept_of own))
  pub settled : (file : List ℕ) → desk.held old ≡ Some file → IsSettledFor desk own new

-- The file stands for no store, and still for none; one that no stop left is as it was. Of a good
-- journal the images are in their pages then, and the gate is not set.
pub record RefusesFile {D : Type 0} (desk : Ghosts D) (old new : D) : Type 0 where
  pub was_none : IfSome (desk.held old) StandsForNone
  pub still_none : IfSome (desk.held new) StandsForNone
  pub bad_gate : (file : List ℕ) → desk.held old ≡ Some file → LacksGate file
      → desk.held new ≡ desk.held old
  pub installed : (file : List ℕ) → desk.held old ≡ Some file → has_gate file ≡ true
      → IfSome (desk.held new) (IsSettledAs file)

-- how an opening of a file fails; it never tells how many bytes there are
abbrev pub FailsToOpen : {D : Type 0} (desk : Ghosts D) → Ended → D → D → Type 0
FailsToOpen desk ended.DeviceFault old new = ⊤
FailsToOpen desk ended.NoMemory old new =
    (file : List ℕ) → desk.held old ≡ Some file → Rests desk new (StandsAlike file)
FailsToOpen desk ended.NotAStore old new = RefusesFile desk old new
FailsToOpen desk (ended.NotEmpty len) old new = ⊥

-- how an opening of a file to be read ends
abbrev pub OpensToRead : {D : Type 0} (desk : Ghosts D) → Result Reader Ended → D → D → Type 0
OpensToRead desk (Ok reader) old new = OpensStore desk reader.rows old new
OpensToRead desk (Err ended) old new = FailsToOpen desk ended old new

-- how an opening of a file for commands ends
abbrev pub Opens : {D : Type 0} (desk : Ghosts D) → ℕ → Result Session Ended → D → D → Type 0
Opens desk limit (Ok session) old new =
    (session_limit session ≡ limit) × OpensStore desk session.engine.rows old new
Opens desk limit (Err ended) old new = FailsToOpen desk ended old new

-- ---- openings that are stopped

-- Each file that a stop shows from old to new, and each that it may leave then, stands for one of
-- these stores.
pub record StaysAmong {D : Type 0} (desk : Ghosts D) (stores : List Store) (old new : D) : Type 0
  where
    pub shown : AtAnyMoment desk old new (StandsForOneOf stores)
    pub left : LeavesOneOf desk stores new

-- ---- files that are left alone

-- a file in which no stop left a change is left as it was
abbrev pub KeepsFinished : {D : Type 0} (desk : Ghosts D) → D → D → Type 0
KeepsFinished desk old new = (file : List ℕ) → desk.held old ≡ Some file → IsFinished file
    → (desk.held new ≡ desk.held old) × (desk.written new ≡ desk.written old)
