-- That slots are chained in one way, and that a page without visits and items, and a visit from
-- which none came, are held in one way.
use mathlib.Core.HLevel.{is_prop→PathP}
use Rattle.std.proofs.Common.{◌≡◌, ◌≢◌, ◌∙◌, ◌++◌, ◌∷◌, [], ℕ, List, None, Option, Some, ap, false, is_some, refl, sym}
use Rattle.std.proofs.Common.{true}
use Rattle.std.proofs.Math.Path.{fun_ext}
use Rattle.std.proofs.Props.{props}
use Rattle.std.specs.List.{list_all}
use Rattle.std.specs.Option.{IsSome}
use Rattle.pl_base.specs.declared.id.Slot.{Slot}
use Rattle.pl_record.specs.ChainMap.{AreApart, AreChains, ChainMap}
use Rattle.pl_record.specs.declared.rows.Place.{Place}
use Rattle.pl_record.specs.declared.rows.Visit.{Visit}
use Rattle.pl_record.specs.Rows.{place_row, record_at, visit_row}
use Rattle.pl_record.specs.SlotChanges.{HoldsBare}
use Rattle.pl_record.specs.VisitChanges.{HoldsVisit}
use Rattle.pl_record.proofs.TextOnce.{Hold-prop}
use Rattle.pl_rail.specs.declared.owner.Owner.{Owner}
use Rattle.pl_rail.specs.declared.owner.Owner.TheVariants.{At, Header}
use Rattle.pl_rail.specs.declared.owner.Side.TheVariants.{Before, Behind}
use Rattle.pl_rail.specs.Rails.{AreLinked, HasMember, Lists, end_at, is_member, neighbour, none}
use Rattle.pl_rail.proofs.ChainLaws.{stands}
use Rattle.pl_rail.proofs.ListLaws.{one_list}
use Rattle.pl_rail.proofs.Rings.{Differ}
use Rattle.pl_sheets.specs.Sheets.{Pages}
use Rattle.pl_slot.specs.declared.kind.LiveKind.TheVariants as kinds
use Rattle.pl_slot.specs.declared.links.Rail.{Rail}
use Rattle.pl_slot.specs.declared.links.Rail.TheVariants.{Live, OriginPages, PageVisits, References, Targets}
use Rattle.pl_slot.specs.declared.row.SlotRow.{SlotRow}
use Rattle.pl_slot.specs.Arena.{first_in, is_among}
use Rattle.pl_text.specs.Chunks.{Hold}
use Rattle.pl_text.proofs.HeldTexts.{one_text}

-- ---- lists

linked_once : (behind before : Slot → Option Slot) (slot : Slot) (slots : List Slot)
    → IsProp (AreLinked behind before slot slots)
linked_once behind before slot [] a b = refl
linked_once behind before slot (next ∷ rest) a b =
    let forth : a.0 ≡ b.0 = named_once (behind slot) (Some next) a.0 b.0 in
    let back : a.1 ≡ b.1 = named_once (before next) (Some slot) a.1 b.1 in
    let further : a.2 ≡ b.2 = linked_once behind before next rest a.2 b.2 in
    λ i. (forth i, back i, further i)
  where
    named_once : (o p : Option Slot) → IsProp (o ≡ p)
    named_once o p = Prim.hlevel props

pub lists_once : (rail : Rail) (owner : Owner) (slots : List Slot) (pages : Pages) → IsProp (Lists rail owner slots pages)
lists_once rail owner slots pages a b =
    let members : a.members ≡ b.members = all_once a.members b.members in
    let linked : a.linked ≡ b.linked =
    linked_once (neighbour Behind rail owner pages) (neighbour Before rail owner pages) none (slots ++ none ∷ [])
    a.linked b.linked in
    λ i. record { members = members i; linked = linked i }
  where
    all_once : IsProp (list_all (is_member rail owner pages) slots ≡ true)
    all_once = Prim.hlevel props

pub listed_once : (rail : Rail) (owner : Owner) (pages : Pages) → IsProp ((slots : List Slot) × Lists rail owner slots pages)
listed_once rail owner pages a b =
    let same : a.0 ≡ b.0 = one_list rail owner a.0 b.0 pages a.1 b.1 in
    λ i. (
      same i,
      is_prop→PathP (λ j. Lists rail owner (same j) pages) (λ j. lists_once rail owner (same j) pages) a.1 b.1 i,
    )

-- ---- all chains

empty_once : (slots : List Slot) → IsProp (slots ≡ [])
empty_once slots = Prim.hlevel props

same_chains : (c d : ChainMap) (pages : Pages) → AreChains c pages → AreChains d pages → c ≡ d
same_chains c d pages mine its =
    fun_ext (λ rail. fun_ext (λ owner. choose rail owner (end_at Behind rail owner pages) refl))
  where
    choose : (rail : Rail) (owner : Owner) (o : Option Slot) → end_at Behind rail owner pages ≡ o
        → c rail owner ≡ d rail owner
    choose rail owner None is = mine.none rail owner is ∙ sym (its.none rail owner is)
    choose rail owner (Some slot) is =
        let there : IsSome (end_at Behind rail owner pages) = ap is_some is in
        one_list rail owner (c rail owner) (d rail owner) pages (mine.lists rail owner there)
        (its.lists rail owner there)

chains_once : (c : ChainMap) (pages : Pages) → IsProp (AreChains c pages)
chains_once c pages a b =
    let lists : a.lists ≡ b.lists =
    fun_ext (λ rail. fun_ext (λ owner. fun_ext (λ some.
    lists_once rail owner (c rail owner) pages (a.lists rail owner some) (b.lists rail owner some)))) in
    let none : a.none ≡ b.none =
    fun_ext (λ rail. fun_ext (λ owner. fun_ext (λ is.
    empty_once (c rail owner) (a.none rail owner is) (b.none rail owner is)))) in
    λ i. record { lists = lists i; none = none i }

apart_once : (rail : Rail) (c : ChainMap) → IsProp (AreApart rail c)
apart_once rail c = Prim.hlevel props

pub map_once : (pages : Pages) → IsProp ((c : ChainMap) × AreChains c pages)
map_once pages a b =
    let same : a.0 ≡ b.0 = same_chains a.0 b.0 pages a.1 b.1 in
    λ i. (same i, is_prop→PathP (λ j. AreChains (same j) pages) (λ j. chains_once (same j) pages) a.1 b.1 i)

pub apart_map_once : (rail : Rail) (pages : Pages)
    → IsProp ((c : ChainMap) × AreChains c pages × AreApart rail c)
apart_map_once rail pages a b =
    let same : a.0 ≡ b.0 = same_chains a.0 b.0 pages a.1 b.1 in
    λ i. (
      same i,
      is_prop→PathP (λ j. AreChains (same j) pages) (λ j. chains_once (same j) pages) a.1 b.1 i,
      is_prop→PathP (λ j. AreApart rail (same j)) (λ j. apart_once rail (same j)) a.2 b.2 i,
    )

pub apart_maps_once : (first second : Rail) (pages : Pages)
    → IsProp ((c : ChainMap) × AreChains c pages × AreApart first c × AreApart second c)
apart_maps_once first second pages a b =
    let same : a.0 ≡ b.0 = same_chains a.0 b.0 pages a.1 b.1 in
    λ i. (
      same i,
      is_prop→PathP (λ j. AreChains (same j) pages) (λ j. chains_once (same j) pages) a.1 b.1 i,
      is_prop→PathP (λ j. AreApart first (same j)) (λ j. apart_once first (same j)) a.2 b.2 i,
      is_prop→PathP (λ j. AreApart second (same j)) (λ j. apart_once second (same j)) a.3 b.3 i,
    )

-- ---- members

split_once : (slot : Slot) (front other back rest : List Slot) → Differ slot front → Differ slot other
    → front ++ slot ∷ back ≡ other ++ slot ∷ rest → (front ≡ other) × (back ≡ rest)
split_once slot [] [] back rest apart besides same =
    let tail : back ≡ rest = cc in
    (refl, tail)
split_once slot [] (y ∷ ys) back rest apart besides same =
    let head : slot ≡ y = cc in
    absurd (besides.0 (sym head))
split_once slot (x ∷ xs) [] back rest apart besides same =
    let head : x ≡ slot = cc in
    absurd (apart.0 head)
split_once slot (x ∷ xs) (y ∷ ys) back rest apart besides same =
    let head : x ≡ y = cc in
    let tail : xs ++ slot ∷ back ≡ ys ++ slot ∷ rest = cc in
    let parts = split_once slot xs ys back rest apart.1 besides.1 tail in
    ((λ i. head i ∷ parts.0 i), parts.1)

pub member_once : (rail : Rail) (owner : Owner) (slot : Slot) (pages : Pages) → IsProp (HasMember rail owner slot pages)
member_once rail owner slot pages a b =
    let same =
    split_once slot a.front b.front a.back b.back (stands rail owner a.front slot a.back pages a.lists).front_differs
    (stands rail owner b.front slot b.back pages b.lists).front_differs
    (one_list rail owner (a.front ++ slot ∷ a.back) (b.front ++ slot ∷ b.back) pages a.lists b.lists) in
    let front : a.front ≡ b.front = same.0 in
    let back : a.back ≡ b.back = same.1 in
    λ i.
    record {
      front = front i;
      back = back i;
      lists =
          is_prop→PathP (λ j. Lists rail owner (front j ++ slot ∷ back j) pages)
          (λ j. lists_once rail owner (front j ++ slot ∷ back j) pages) a.lists b.lists i;
    }

-- ---- pages

same_place : (p q : Place) → Some (place_row p) ≡ Some (place_row q) → p ≡ q
same_place p q both =
    let row : place_row p ≡ place_row q = cc in
    let typed : p.mark.typed ≡ q.mark.typed = cc in
    let hidden : p.mark.hidden ≡ q.mark.hidden = cc in
    let id : p.id ≡ q.id = cc in
    let origin : p.origin ≡ q.origin = cc in
    let url : p.url.slot ≡ q.url.slot = cc in
    let url_long : p.url.length ≡ q.url.length = cc in
    let title : p.title.slot ≡ q.title.slot = cc in
    let title_long : p.title.length ≡ q.title.length = cc in
    let frecency : p.mark.frecency ≡ q.mark.frecency = cc in
    let count : p.mark.count ≡ q.mark.count = cc in
    λ i.
    record {
      id = id i;
      mark = record { frecency = frecency i; count = count i; typed = typed i; hidden = hidden i };
      origin = origin i;
      url = record { slot = url i; length = url_long i };
      title = record { slot = title i; length = title_long i };
    }

pub slot_once : (a b : Slot) → IsProp (a ≡ b)
slot_once a b = Prim.hlevel props

pub row_once : (o p : Option SlotRow) → IsProp (o ≡ p)
row_once o p = Prim.hlevel props

texts_once : (xs ys : List ℕ)
    → IsProp ((n : ℕ) → is_among n xs ≡ true → is_among n ys ≡ false)
texts_once xs ys = Prim.hlevel props

pub bare_once : (slot : Slot) (pages : Pages) → IsProp (HoldsBare slot pages)
bare_once slot pages a b =
    let place : a.place ≡ b.place = same_place a.place b.place (sym a.row ∙ b.row) in
    let urls =
    one_text a.url_slots b.url_slots a.url b.url pages a.url_held b.url_held
    (sym a.url_begins ∙ ap (λ (p : Place). p.url.slot) place ∙ b.url_begins) in
    let titles =
    one_text a.title_slots b.title_slots a.title b.title pages a.title_held b.title_held
    (sym a.title_begins ∙ ap (λ (p : Place). p.title.slot) place ∙ b.title_begins) in
    let url : a.url ≡ b.url = urls.texts in
    let url_slots : a.url_slots ≡ b.url_slots = urls.slots in
    let title : a.title ≡ b.title = titles.texts in
    let title_slots : a.title_slots ≡ b.title_slots = titles.slots in
    let of_header : a.of_header ≡ b.of_header =
    member_once Live (Header kinds.Place) slot pages a.of_header b.of_header in
    let no_visit : a.no_visit ≡ b.no_visit = lists_once PageVisits (At slot) [] pages a.no_visit b.no_visit in
    let no_item : a.no_item ≡ b.no_item = lists_once References (At slot) [] pages a.no_item b.no_item in
    λ i.
    record {
      place = place i;
      row =
          is_prop→PathP (λ j. record_at slot.0 pages ≡ Some (place_row (place j)))
          (λ j. row_once (record_at slot.0 pages) (Some (place_row (place j)))) a.row b.row i;
      url = url i;
      url_slots = url_slots i;
      url_begins =
          is_prop→PathP (λ j. (place j).url.slot ≡ first_in (url_slots j))
          (λ j. slot_once (place j).url.slot (first_in (url_slots j))) a.url_begins b.url_begins i;
      url_held =
          is_prop→PathP (λ j. Hold (url_slots j) (url j) pages) (λ j. Hold-prop (url_slots j) (url j) pages)
          a.url_held b.url_held i;
      title = title i;
      title_slots = title_slots i;
      title_begins =
          is_prop→PathP (λ j. (place j).title.slot ≡ first_in (title_slots j))
          (λ j. slot_once (place j).title.slot (first_in (title_slots j))) a.title_begins b.title_begins i;
      title_held =
          is_prop→PathP (λ j. Hold (title_slots j) (title j) pages)
          (λ j. Hold-prop (title_slots j) (title j) pages) a.title_held b.title_held i;
      apart =
          is_prop→PathP (λ j. (n : ℕ) → is_among n (url_slots j) ≡ true → is_among n (title_slots j) ≡ false)
          (λ j. texts_once (url_slots j) (title_slots j)) a.apart b.apart i;
      of_origin =
          is_prop→PathP (λ j. HasMember OriginPages (At (place j).origin) slot pages)
          (λ j. member_once OriginPages (At (place j).origin) slot pages) a.of_origin b.of_origin i;
      of_header = of_header i;
      no_visit = no_visit i;
      no_item = no_item i;
    }

-- ---- visits

same_visit : (v w : Visit) → Some (visit_row v) ≡ Some (visit_row w) → v ≡ w
same_visit v w both =
    let row : visit_row v ≡ visit_row w = cc in
    let transition : v.transition ≡ w.transition = cc in
    let id : v.id ≡ w.id = cc in
    let page : v.page ≡ w.page = cc in
    let source : v.source ≡ w.source = cc in
    let date : v.date ≡ w.date = cc in
    λ i. record { id = id i; transition = transition i; page = page i; source = source i; date = date i }

member_of_source : (v : Visit) (slot : Slot) (pages : Pages)
    → IsProp (v.source.0 ≢ 0 → HasMember Targets (At v.source) slot pages)
member_of_source v slot pages a b =
    fun_ext (λ some. member_once Targets (At v.source) slot pages (a some) (b some))

pub visit_once : (slot : Slot) (pages : Pages) → IsProp (HoldsVisit slot pages)
visit_once slot pages a b =
    let visit : a.visit ≡ b.visit = same_visit a.visit b.visit (sym a.row ∙ b.row) in
    let of_header : a.of_header ≡ b.of_header =
    member_once Live (Header kinds.Visit) slot pages a.of_header b.of_header in
    let no_target : a.no_target ≡ b.no_target = lists_once Targets (At slot) [] pages a.no_target b.no_target in
    λ i.
    record {
      visit = visit i;
      row =
          is_prop→PathP (λ j. record_at slot.0 pages ≡ Some (visit_row (visit j)))
          (λ j. row_once (record_at slot.0 pages) (Some (visit_row (visit j)))) a.row b.row i;
      of_header = of_header i;
      of_page =
          is_prop→PathP (λ j. HasMember PageVisits (At (visit j).page) slot pages)
          (λ j. member_once PageVisits (At (visit j).page) slot pages) a.of_page b.of_page i;
      of_source =
          is_prop→PathP (λ j. (visit j).source.0 ≢ 0 → HasMember Targets (At (visit j).source) slot pages)
          (λ j. member_of_source (visit j) slot pages) a.of_source b.of_source i;
      no_target = no_target i;
    }
