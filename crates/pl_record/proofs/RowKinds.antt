-- The row of a slot of a known kind.
use Rattle.std.proofs.Common.{◌≡◌, ◌≢◌, ◌∙◌, ℕ, ℤ, Bool, None, Some, ap, inl, inr, refl, sym, true}
use Rattle.std.proofs.Common.{Option, subst}
use Rattle.std.specs.Option.{IsSome, option_and_then, option_map}
use Rattle.std.proofs.lemmas.Bool.{cases_Bool}
use Rattle.pl_base.specs.declared.date.Micros.{Micros}
use Rattle.pl_base.specs.declared.id.ItemId.{ItemId}
use Rattle.pl_base.specs.declared.id.PageId.{PageId}
use Rattle.pl_base.specs.declared.id.Slot.{Slot}
use Rattle.pl_base.specs.declared.id.VisitId.{VisitId}
use Rattle.pl_base.specs.declared.item.ItemKind.{ItemKind}
use Rattle.pl_base.specs.declared.transition.Transition.{Transition}
use Rattle.pl_sheets.specs.Sheets.{Pages}
use Rattle.pl_slot.specs.declared.kind.SlotKind.{SlotKind}
use Rattle.pl_slot.specs.declared.kind.SlotKind.TheVariants as kinds
use Rattle.pl_slot.specs.declared.row.SlotRow.{SlotRow}
use Rattle.pl_slot.specs.declared.row.SlotRow.TheVariants as rows
use Rattle.pl_slot.specs.Arena.{is_slot, row_at}
use Rattle.pl_slot.specs.declared.links.Link.{Link}
use Rattle.pl_slot.specs.declared.links.Rail.{Rail}
use Rattle.pl_slot.specs.Links.{kind_at, link_at, link_in, link_place}
use Rattle.pl_slot.specs.Slot.{slot_bytes, slot_kind}
use Rattle.pl_slot.specs.SlotReading.{slot_in}
use Rattle.pl_slot.proofs.SlotPlaces.{no_slot}

pub slot_of_kind : (n : ℕ) (kind : SlotKind) (pages : Pages) → kind_at n pages ≡ Some kind → is_slot n pages ≡ true
unfolding kind_at
slot_of_kind n kind pages is = elim (cases_Bool (is_slot n pages)) [
  | inl there ↦ there
  | inr outside ↦
      let never : None ≡ Some kind = sym (ap (option_map slot_kind) (no_slot n pages outside)) ∙ is in
      absurd (cc)
]

pub kind_of_row : (n : ℕ) (row : SlotRow) (kind : SlotKind) (pages : Pages) → row_at n pages ≡ Some row
    → kind_at n pages ≡ Some kind → slot_kind row ≡ kind
unfolding kind_at
kind_of_row n row kind pages read is =
    let both : Some (slot_kind row) ≡ Some kind = sym (ap (option_map slot_kind) read) ∙ is in
    cc

-- ---- a row of a kind is one

pub not_origin : (row : SlotRow) → slot_kind row ≡ kinds.Origin
    → ((lp ln fp la : Slot) (total : ℕ) → row ≢ rows.Origin lp ln fp la total) → ⊥
not_origin (rows.Free next) is none = absurd (cc)
not_origin (rows.Origin lp ln fp la total) is none = none lp ln fp la total refl
not_origin (rows.Place typed hidden lp ln id origin op on fv lv fr lr ut ul tt1 tl frecency count) is none = absurd (cc)
not_origin (rows.Visit transition lp ln id page pp pn source tp tn ft lt date) is none = absurd (cc)
not_origin (rows.Item kind lp ln id parent sp sn fc lc page rp rn tt1 tl added modified) is none = absurd (cc)
not_origin (rows.Text used next payload) is none = absurd (cc)

pub not_place : (row : SlotRow) → slot_kind row ≡ kinds.Place
    → ((typed hidden : Bool) (lp ln : Slot) (id : PageId) (origin op on fv lv fr lr ut : Slot) (ul : ℕ) (tt1 : Slot) (tl : ℕ)
    (frecency : ℤ) (count : ℕ) → row ≢ rows.Place typed hidden lp ln id origin op on fv lv fr lr ut ul tt1 tl frecency count) → ⊥
not_place (rows.Free next) is none = absurd (cc)
not_place (rows.Origin lp ln fp la total) is none = absurd (cc)
not_place (rows.Place typed hidden lp ln id origin op on fv lv fr lr ut ul tt1 tl frecency count) is none = none typed hidden lp ln id origin op on fv lv fr lr ut ul tt1 tl frecency count refl
not_place (rows.Visit transition lp ln id page pp pn source tp tn ft lt date) is none = absurd (cc)
not_place (rows.Item kind lp ln id parent sp sn fc lc page rp rn tt1 tl added modified) is none = absurd (cc)
not_place (rows.Text used next payload) is none = absurd (cc)

pub not_visit : (row : SlotRow) → slot_kind row ≡ kinds.Visit
    → ((transition : Transition) (lp ln : Slot) (id : VisitId) (page pp pn source tp tn ft lt : Slot) (date : Micros) → row ≢ rows.Visit transition lp ln id page pp pn source tp tn ft lt date) → ⊥
not_visit (rows.Free next) is none = absurd (cc)
not_visit (rows.Origin lp ln fp la total) is none = absurd (cc)
not_visit (rows.Place typed hidden lp ln id origin op on fv lv fr lr ut ul tt1 tl frecency count) is none = absurd (cc)
not_visit (rows.Visit transition lp ln id page pp pn source tp tn ft lt date) is none = none transition lp ln id page pp pn source tp tn ft lt date refl
not_visit (rows.Item kind lp ln id parent sp sn fc lc page rp rn tt1 tl added modified) is none = absurd (cc)
not_visit (rows.Text used next payload) is none = absurd (cc)

pub not_item : (row : SlotRow) → slot_kind row ≡ kinds.Item
    → ((kind : ItemKind) (lp ln : Slot) (id : ItemId) (parent sp sn fc lc page rp rn tt1 : Slot) (tl : ℕ)
    (added modified : Micros) → row ≢ rows.Item kind lp ln id parent sp sn fc lc page rp rn tt1 tl added modified) → ⊥
not_item (rows.Free next) is none = absurd (cc)
not_item (rows.Origin lp ln fp la total) is none = absurd (cc)
not_item (rows.Place typed hidden lp ln id origin op on fv lv fr lr ut ul tt1 tl frecency count) is none = absurd (cc)
not_item (rows.Visit transition lp ln id page pp pn source tp tn ft lt date) is none = absurd (cc)
not_item (rows.Item kind lp ln id parent sp sn fc lc page rp rn tt1 tl added modified) is none = none kind lp ln id parent sp sn fc lc page rp rn tt1 tl added modified refl
not_item (rows.Text used next payload) is none = absurd (cc)

-- ---- links that a kind has

pub link_there : (rail : Rail) (link : Link) (n : ℕ) (kind : SlotKind) (place : ℕ) (pages : Pages)
    → kind_at n pages ≡ Some kind → link_place rail link kind ≡ Some place → IsSome (link_at rail link n pages)
unfolding kind_at link_at
link_there rail link n kind place pages is has = choose (row_at n pages) is
  where
    choose : (row : Option SlotRow) → option_map slot_kind row ≡ Some kind
        → IsSome (option_and_then (link_in rail link) row)
    choose None none = absurd (cc)
    choose (Some row) some =
        let same : slot_kind row ≡ kind = cc in
        subst (λ (o : Option ℕ). IsSome (option_map (λ at. slot_in at (slot_bytes row)) o))
        (sym (ap (link_place rail link) same ∙ has)) refl
