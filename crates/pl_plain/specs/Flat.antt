-- A flat store seen as what is kept of a store. It has no file, and so no bytes.
use Rattle.std.specs.Prelude.{◌≡◌, ℕ, List, [], Option, Some}
use Rattle.pl_base.specs.Rows.{Kept}
use Rattle.pl_base.specs.Store.{Store}
use Rattle.pl_plain.specs.declared.flat.Flat.{Flat}
use Rattle.pl_plain.specs.FlatRows.{kept_from}

-- what a flat store keeps
abbrev pub kept_of : Flat → Kept
kept_of flat =
    kept_from flat.day flat.ids flat.pages.items flat.totals.items flat.visits.items flat.items

-- its bytes are none
abbrev pub bytes_of : Flat → List ℕ
bytes_of flat = []

-- nor were they any at the last `touched`
abbrev pub IsBase : Flat → List ℕ → Type 0
IsBase flat bytes = bytes ≡ []

-- the form of these bytes says nothing: any bytes stand for any store
abbrev pub StandsForAny : List ℕ → Store → Type 0
StandsForAny bytes store = Unit {0}

-- the next `touched` lists no page
abbrev pub pending_of : Flat → Option ℕ
pending_of flat = Some 0
