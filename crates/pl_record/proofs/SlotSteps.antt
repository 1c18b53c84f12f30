-- Steps of a change of slots: a slot is taken, comes to the end of a chain or goes out of one, and
-- is given back.
use Rattle.std.proofs.Common.{◌≡◌, ◌≢◌, ◌∙◌, ◌==◌, ◌||◌, ◌+◌, ◌≤◌, ◌∷◌, ◌++◌, [], ℕ, Bool, List, None, Option, Some}
use Rattle.std.proofs.Common.{IsSome, ap, cond, false, is_some, refl, sym, true}
use Rattle.std.specs.Option.{option_and_then, option_map}
use Rattle.std.proofs.lemmas.Bool.{true≢false}
use Rattle.pl_base.specs.declared.date.Day.{Day}
use Rattle.pl_base.specs.declared.id.Ids.{Ids}
use Rattle.pl_base.specs.declared.id.Slot.{Slot}
use Rattle.pl_base.proofs.Truths.{no_test}
use Rattle.pl_record.specs.ChainMap.{AreApart, AreChains, ChainMap, IsLoose, with_chain}
use Rattle.pl_record.specs.Chains.{IsAlone}
use Rattle.pl_record.specs.Records.{unlinked}
use Rattle.pl_record.specs.SlotChanges.{Appends, KeepsAlone, KeepsBody}
use Rattle.pl_record.proofs.ChainMaps.{chain_member, changed_chains, fresh_loose}
use Rattle.pl_record.proofs.ChainMapsKept.{alone_beside, alone_live, given_chains, only_one, set_beside, set_free_here}
use Rattle.pl_record.proofs.ChainMapsKept.{set_live_beside, set_live_here, taken_chains, unlinked_bare}
use Rattle.pl_record.proofs.ChainsKept.{fields_ends, freed_ends}
use Rattle.pl_record.proofs.SlotsBeside.{fresh_idle}
use Rattle.pl_rail.specs.declared.owner.Owner.{Owner}
use Rattle.pl_rail.specs.declared.owner.Owner.TheVariants.{At, Header}
use Rattle.pl_rail.specs.declared.owner.Side.TheVariants.{Before, Behind}
use Rattle.pl_rail.specs.Rails.{AreLinked, ChangesAround, KeepsHeader, KeepsOwners, KeepsRails, KeepsRest, Lists}
use Rattle.pl_rail.specs.Rails.{end_at, is_in, is_kind, neighbour, none, page_by}
use Rattle.pl_rail.proofs.ListLaws.{member_link}
use Rattle.pl_sheets.specs.Sheets.{Pages, page_count}
use Rattle.pl_slot.specs.declared.kind.LiveKind.TheVariants as live
use Rattle.pl_slot.specs.declared.kind.SlotKind.{SlotKind}
use Rattle.pl_slot.specs.declared.kind.SlotKind.TheVariants as kinds
use Rattle.pl_slot.specs.declared.links.Link.{Link}
use Rattle.pl_slot.specs.declared.links.Link.TheVariants.{Next, Previous}
use Rattle.pl_slot.specs.declared.links.Rail.{Rail}
use Rattle.pl_slot.specs.declared.links.Rail.TheVariants.{Children, Live, OriginPages, PageVisits, References, Targets}
use Rattle.pl_slot.specs.declared.row.SlotRow.{SlotRow}
use Rattle.pl_slot.specs.declared.row.SlotRow.TheVariants.{Free}
use Rattle.pl_slot.specs.Arena.{ChangesOnly, IsTaken, KeepsFields, header_of, header_page, is_among, is_live, live_at}
use Rattle.pl_slot.specs.Arena.{live_row, row_at, slot_page}
use Rattle.pl_slot.specs.Header.{Header as Head}
use Rattle.pl_slot.specs.Links.{ends_at, is_rail, kind_at, link_at, link_in, link_place, sides_at}
use Rattle.pl_slot.specs.Slot.{slot_bytes, slot_kind}
use Rattle.pl_slot.specs.SlotReading.{slot_in}
use Rattle.pl_slot.proofs.ArenaLaws.{then_only}
use Rattle.pl_text.specs.Chunks.{KeepsLive}
use Rattle.pl_text.proofs.Freeing.{GivenBack, beside}

-- ---- the header but for chains and free slots

abbrev body : Head → List ℕ × Day × Ids × ℕ × List ℕ
body h = (h.form, h.day, h.ids, h.live, h.rest)

same_body : (old new : Pages) → body (header_of new) ≡ body (header_of old) → KeepsBody old new
same_body old new same =
    record {
      form = ap (λ b. b.0) same;
      day = ap (λ b. b.1) same;
      ids = ap (λ b. b.2) same;
      live = ap (λ b. b.3) same;
      rest = ap (λ b. b.4) same;
    }

pub body_then : (old middle new : Pages) → KeepsBody old middle → KeepsBody middle new → KeepsBody old new
body_then old middle new first second =
    record {
      form = second.form ∙ first.form;
      day = second.day ∙ first.day;
      ids = second.ids ∙ first.ids;
      live = second.live ∙ first.live;
      rest = second.rest ∙ first.rest;
    }

pub fields_body : (old new : Pages) → KeepsFields old new → KeepsBody old new
fields_body old new kept = same_body old new (ap body kept)

pub rail_body : (rail : Rail) (owner : Owner) (old new : Pages) → KeepsRest rail owner old new → KeepsBody old new
rail_body rail owner old new rest = choose owner rest.header
  where
    choose : (o : Owner) → KeepsHeader o old new → KeepsBody old new
    choose (At x) same = same_body old new (ap body same)
    choose (Header live.Origin) same = same_body old new (ap body same)
    choose (Header live.Place) same = same_body old new (ap body same)
    choose (Header live.Visit) same = same_body old new (ap body same)
    choose (Header live.Item) same = same_body old new (ap body same)

-- ---- which links a slot has, by its kind

-- a slot that holds the live row that it held is of the kind that it was
kind_by_row : (n : ℕ) (kind : SlotKind) (pages : Pages) → option_map slot_kind (live_at n pages) ≡ Some kind
    → kind_at n pages ≡ Some kind
unfolding kind_at
kind_by_row n kind pages is = choose (row_at n pages) is
  where
    choose : (o : Option SlotRow) → option_map slot_kind (option_and_then live_row o) ≡ Some kind
        → option_map slot_kind o ≡ Some kind
    choose None same = same
    choose (Some (Free next)) same = absurd (cc)
    choose (Some row) same = same

pub row_by_kind : (n : ℕ) (kind : SlotKind) (pages : Pages) → kind_at n pages ≡ Some kind → kind ≢ kinds.Free
    → option_map slot_kind (live_at n pages) ≡ Some kind
unfolding kind_at
row_by_kind n kind pages is other = choose (row_at n pages) is
  where
    choose : (o : Option SlotRow) → option_map slot_kind o ≡ Some kind
        → option_map slot_kind (option_and_then live_row o) ≡ Some kind
    choose None same = same
    choose (Some (Free next)) same =
        let free : kind ≡ kinds.Free = cc in
        absurd (other free)
    choose (Some row) same = same

pub kind_kept : (n : ℕ) (kind : SlotKind) (old new : Pages) → live_at n new ≡ live_at n old → kind ≢ kinds.Free
    → kind_at n old ≡ Some kind → kind_at n new ≡ Some kind
kind_kept n kind old new same other is =
    kind_by_row n kind new (ap (option_map slot_kind) same ∙ row_by_kind n kind old is other)

pub origin_by_kind : (kind : Option SlotKind) → is_kind kind (Some kinds.Origin) ≡ true → kind ≡ Some kinds.Origin
origin_by_kind None is = absurd (true≢false (sym is))
origin_by_kind (Some kinds.Origin) is = refl
origin_by_kind (Some kinds.Free) is = absurd (true≢false (sym is))
origin_by_kind (Some kinds.Place) is = absurd (true≢false (sym is))
origin_by_kind (Some kinds.Visit) is = absurd (true≢false (sym is))
origin_by_kind (Some kinds.Item) is = absurd (true≢false (sym is))
origin_by_kind (Some kinds.Text) is = absurd (true≢false (sym is))

pub link_missing : (r : Rail) (l : Link) (n : ℕ) (kind : SlotKind) (pages : Pages) → kind_at n pages ≡ Some kind
    → link_place r l kind ≡ None → link_at r l n pages ≡ None
unfolding link_at kind_at
link_missing r l n kind pages is missing = choose (row_at n pages) is
  where
    choose : (o : Option SlotRow) → option_map slot_kind o ≡ Some kind → option_and_then (link_in r l) o ≡ None
    choose None none = refl
    choose (Some row) some =
        let same : slot_kind row ≡ kind = cc in
        ap (option_map (λ place. slot_in place (slot_bytes row))) (ap (link_place r l) same ∙ missing)

pub origin_ends : (r : Rail) → is_rail r OriginPages ≡ false → ends_at r kinds.Origin ≡ None
origin_ends OriginPages other = absurd (true≢false other)
origin_ends Live other = refl
origin_ends PageVisits other = refl
origin_ends Targets other = refl
origin_ends Children other = refl
origin_ends References other = refl

pub origin_sides : (r : Rail) → is_rail r Live ≡ false → sides_at r kinds.Origin ≡ None
origin_sides Live other = absurd (true≢false other)
origin_sides OriginPages other = refl
origin_sides PageVisits other = refl
origin_sides Targets other = refl
origin_sides Children other = refl
origin_sides References other = refl

pub place_ends : (r : Rail) → is_rail r PageVisits ≡ false → is_rail r References ≡ false
    → ends_at r kinds.Place ≡ None
place_ends PageVisits other also = absurd (true≢false other)
place_ends References other also = absurd (true≢false also)
place_ends Live other also = refl
place_ends OriginPages other also = refl
place_ends Targets other also = refl
place_ends Children other also = refl

pub place_sides : (r : Rail) → is_rail r Live ≡ false → is_rail r OriginPages ≡ false
    → sides_at r kinds.Place ≡ None
place_sides Live other also = absurd (true≢false other)
place_sides OriginPages other also = absurd (true≢false also)
place_sides PageVisits other also = refl
place_sides Targets other also = refl
place_sides Children other also = refl
place_sides References other also = refl

-- a slot that cannot be a member is in no chain
pub sideless_loose : (chains : ChainMap) (pages : Pages) → AreChains chains pages → (r : Rail) (slot : Slot)
    (kind : SlotKind) → kind_at slot.0 pages ≡ Some kind → sides_at r kind ≡ None → IsLoose r slot chains
sideless_loose chains pages are r slot kind is without o =
    no_test (is_in slot (chains r o)) (λ among.
    true≢false (sym (member_link r o Behind pages slot (chain_member chains pages are r o slot among))
    ∙ ap is_some (link_missing r Next slot.0 kind pages is (ap (option_map (λ n. n + 4)) without))))

-- slots stand alone as before, where those that have changed had no neighbours in such rails
pub sideless_alone : (ns : List ℕ) (old new : Pages) → KeepsLive ns old new
    → ((n : ℕ) → is_among n ns ≡ true → (r : Rail) → is_rail r Live ≡ false → is_rail r OriginPages ≡ false
    → link_at r Previous n old ≡ None) → KeepsAlone old new
sideless_alone ns old new kept without r slot other also alone =
    alone_live r slot old new
    (kept slot.0 (no_test (is_among slot.0 ns) (λ among.
    true≢false (ap is_some (sym alone.before ∙ without slot.0 among r other also))))) alone

-- ---- a slot is taken for a row

pub record Takes (slot : Slot) (row : SlotRow) (old new : Pages) : Type 0 where
  pub taken : IsTaken slot.0 row old new
  pub fields : KeepsFields old new
  pub pages : ChangesOnly (header_page ∷ slot_page slot.0 ∷ []) old new
  pub longer : page_count old ≤ page_count new

module _ (slot : Slot) (row : SlotRow) (old new : Pages) (takes : Takes slot row old new) where
  pub taken_beside : KeepsLive (slot.0 ∷ []) old new
  taken_beside = set_live_beside slot.0 row old new takes.taken.live

  taken_here : live_at slot.0 new ≡ Some row
  taken_here = set_live_here slot.0 row old new takes.taken.live

  pub taken_kind : (kind : SlotKind) → slot_kind row ≡ kind → kind_at slot.0 new ≡ Some kind
  taken_kind kind is = kind_by_row slot.0 kind new (ap (option_map slot_kind) taken_here ∙ ap Some is)

  pub taken_chain : unlinked row ≡ row → (chains : ChainMap) → AreChains chains old → AreChains chains new
  taken_chain bare chains are =
      taken_chains chains slot row old new are takes.taken.fresh taken_beside taken_here (unlinked_bare row bare)
      (fields_ends old new takes.fields)

  -- the slot is in no chain
  pub taken_loose : (chains : ChainMap) → AreChains chains old → (r : Rail) → IsLoose r slot chains
  taken_loose chains are r = fresh_loose chains old are r slot takes.taken.fresh

  pub taken_alone : (r : Rail) (s : Slot) → IsAlone r s old → IsAlone r s new
  taken_alone r s alone =
      alone_beside r s (slot.0 ∷ []) old new taken_beside
      (fresh_idle (slot.0 ∷ []) old (λ n among.
      ap (λ k. is_live k old) (only_one n slot.0 among) ∙ takes.taken.fresh)) alone

-- ---- a slot is given back

module _ (slot : Slot) (old new : Pages) (given : GivenBack slot old new) where
  pub given_beside : KeepsLive (slot.0 ∷ []) old new
  given_beside = set_beside slot.0 (Free given.first) old new given.rows

  pub given_chain : (chains : ChainMap) → AreChains chains old → ((r : Rail) → IsLoose r slot chains)
      → ((r : Rail) → chains r (At slot) ≡ []) → AreChains chains new
  given_chain chains are loose empty =
      given_chains chains slot old new are loose empty given_beside
      (set_free_here slot.0 given.first old new given.rows) (freed_ends slot old new given.header)

  pub given_body : KeepsBody old new
  given_body = same_body old new (ap body given.header)

-- ---- a slot comes to the end of a chain

-- an owner of a list has a last member, or none
pub last_named : (rail : Rail) (owner : Owner) (slots : List Slot) (pages : Pages) → Lists rail owner slots pages
    → IsSome (end_at Before rail owner pages)
last_named rail owner slots pages lists = ends none slots lists.linked
  where
    ends : (a : Slot) (xs : List Slot)
        → AreLinked (neighbour Behind rail owner pages) (neighbour Before rail owner pages) a (xs ++ none ∷ [])
        → IsSome (end_at Before rail owner pages)
    ends a [] linked = ap is_some linked.1
    ends a (x ∷ xs) linked = ends x xs linked.2

pub appended_chains : (rail : Rail) (owner : Owner) (slot : Slot) (chains : ChainMap) (old new : Pages)
    → AreChains chains old → AreApart rail chains → IsSome (end_at Behind rail owner old)
    → Appends rail owner slot old new → AreChains (with_chain rail owner (chains rail owner ++ slot ∷ []) chains) new
appended_chains rail owner slot chains old new are apart some a =
    let there = are.lists rail owner some in
    changed_chains rail owner (chains rail owner ++ slot ∷ []) chains old new are apart some
    (a.list (chains rail owner) there) (a.owners (chains rail owner) there) a.others a.rest

-- ---- a member goes out of a chain

pub record Detaches (rail : Rail) (owner : Owner) (slot : Slot) (old new : Pages) : Type 0 where
  pub list : (front back : List Slot) → Lists rail owner (front ++ slot ∷ back) old
      → Lists rail owner (front ++ back) new
  pub owners : (slots : List Slot) → Lists rail owner slots old → KeepsOwners rail owner slots old new
  pub others : KeepsRails rail old new
  pub rest : KeepsRest rail owner old new
  pub pages : (front back : List Slot) → Lists rail owner (front ++ slot ∷ back) old
      → ChangesAround owner front slot back old new

-- ---- pages

either_page : (b : Bool) (p x y : ℕ) → (p == x) ≡ false → (p == y) ≡ false → (p == cond b x y) ≡ false
either_page true p x y first second = first
either_page false p x y first second = second

own_page : (owner : Owner) (slot : Slot) (p : ℕ) → (p == page_by owner none) ≡ false → (p == slot_page slot.0) ≡ false
    → (p == page_by owner slot) ≡ false
own_page (At x) slot p own here = either_page (slot.0 == 0) p (slot_page x.0) (slot_page slot.0) own here
own_page (Header kind) slot p own here = either_page (slot.0 == 0) p header_page (slot_page slot.0) own here

-- a page that is none of these is none of those around a slot
pub around : (owner : Owner) (before slot behind : Slot) (p : ℕ) → (p == page_by owner none) ≡ false
    → (p == slot_page slot.0) ≡ false → (p == page_by owner before) ≡ false → (p == page_by owner behind) ≡ false
    → is_among p (page_by owner before ∷ page_by owner slot ∷ page_by owner behind ∷ []) ≡ false
around owner before slot behind p own here first last =
    beside (p == page_by owner before) (is_among p (page_by owner slot ∷ page_by owner behind ∷ [])) first
    (beside (p == page_by owner slot) (is_among p (page_by owner behind ∷ [])) (own_page owner slot p own here)
    (ap (λ b. b || false) last))

-- pages that change are among more of them
pub among_more : (xs zs : List ℕ) (old new : Pages) → ((p : ℕ) → is_among p zs ≡ false → is_among p xs ≡ false)
    → ChangesOnly xs old new → ChangesOnly zs old new
among_more xs zs old new less only =
    record {
      before = only.before;
      marks = λ p other. only.marks p (less p other);
      images = λ p other. only.images p (less p other);
      unmarked = only.unmarked;
    }

pub both_within : (zs : List ℕ) (old middle new : Pages) → page_count old ≤ page_count middle
    → ChangesOnly zs old middle → ChangesOnly zs middle new → ChangesOnly zs old new
both_within zs old middle new longer first second =
    then_only zs zs zs old middle new (λ p other. (other, other)) longer first second
