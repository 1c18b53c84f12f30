-- The members of chains, as the rows that were read name their owners.
use Rattle.std.specs.Prelude.{◌&&◌, ◌||◌, ◌==◌, Bool, List, map, nat_lt}
use Rattle.std.specs.List.{zip}
use Rattle.pl_base.specs.declared.id.Slot.{Slot}
use Rattle.pl_base.specs.Sorting.{sorted_by}
use Rattle.pl_owned.specs.declared.owned.Member.{Member}
use Rattle.pl_record.specs.declared.rows.Item.{Item}
use Rattle.pl_record.specs.declared.rows.Place.{Place}
use Rattle.pl_record.specs.declared.rows.Visit.{Visit}

-- a slot, and the row in it
abbrev pub PlaceIn : Type 0
PlaceIn = Slot × Place

abbrev pub VisitIn : Type 0
VisitIn = Slot × Visit

abbrev pub ItemIn : Type 0
ItemIn = Slot × Item

-- ---- pages, by their origins

abbrev pub origin_member : PlaceIn → Member
origin_member row = record { owner = row.1.origin; slot = row.0 }

abbrev pub origin_members : List Slot → List Place → List Member
origin_members slots places = map origin_member (zip slots places)

-- ---- visits, by their pages and by their sources

-- a visit of a later date, or of the same date and a greater id
abbrev pub is_newer : VisitIn → VisitIn → Bool
is_newer v w =
    nat_lt w.1.date.0 v.1.date.0 || ((w.1.date.0 == v.1.date.0) && nat_lt w.1.id.0 v.1.id.0)

abbrev pub page_member : VisitIn → Member
page_member row = record { owner = row.1.page; slot = row.0 }

-- the latest first
abbrev pub page_members : List Slot → List Visit → List Member
page_members slots visits = map page_member (sorted_by is_newer (zip slots visits))

abbrev pub source_member : VisitIn → Member
source_member row = record { owner = row.1.source; slot = row.0 }

abbrev pub source_members : List Slot → List Visit → List Member
source_members slots visits = map source_member (zip slots visits)

-- ---- items, by their parents and by their pages

abbrev pub parent_member : ItemIn → Member
parent_member row = record { owner = row.1.parent; slot = row.0 }

abbrev pub parent_members : List Slot → List Item → List Member
parent_members slots items = map parent_member (zip slots items)

abbrev pub reference_member : ItemIn → Member
reference_member row = record { owner = row.1.page; slot = row.0 }

abbrev pub reference_members : List Slot → List Item → List Member
reference_members slots items = map reference_member (zip slots items)
