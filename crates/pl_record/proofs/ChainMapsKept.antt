-- Changes of slots and of the header that leave the map of all chains as it was.
use Rattle.std.proofs.Common.{◌≡◌, ◌∙◌, ◌==◌, ◌∷◌, [], ℕ, Bool, List, None, Option, Some, ap, cond, eq-eqb, eqb-true}
use Rattle.std.proofs.Common.{false, inl, inr, IsSome, is_some, not, refl, subst, sym, true}
use Rattle.std.specs.List.{list_all}
use Rattle.std.specs.Option.{option_and_then}
use Rattle.std.proofs.lemmas.Bool.{and_parts, cases_Bool, not-true, or_cases, or_parts, true≢false}
use Rattle.std.proofs.lemmas.Option.{same_Some}
use Rattle.pl_base.specs.declared.id.Slot.{Slot}
use Rattle.pl_base.proofs.Truths.{is_none_at, no_test}
use Rattle.pl_record.specs.ChainMap.{AreChains, ChainMap, IsLoose}
use Rattle.pl_record.specs.Chains.{IsAlone}
use Rattle.pl_record.specs.Records.{unlinked}
use Rattle.pl_record.proofs.ChainMaps.{both_ends, end_kinds, fresh_linkless, HasNoLinks, linkless_empty, linkless_loose}
use Rattle.pl_record.proofs.ChainsKept.{KeepsEnds, fields_ends, freed_ends, list_kept, same_kinds, same_links}
use Rattle.pl_record.proofs.LiveChains.{ends_live, KeepsEndsOf, link_live, lists_live, live_link}
use Rattle.pl_record.proofs.SlotsBeside.{AreIdle, fresh_idle, held_idle, idle_linkless, links_beside}
use Rattle.pl_rail.specs.declared.owner.Owner.{Owner}
use Rattle.pl_rail.specs.declared.owner.Owner.TheVariants.{At, Header}
use Rattle.pl_rail.specs.declared.owner.Side.TheVariants.{Behind}
use Rattle.pl_rail.specs.Rails.{KeepsRest, Lists, end_at, none}
use Rattle.pl_rail.proofs.SideLaws.{numbered}
use Rattle.pl_sheets.specs.Sheets.{Pages}
use Rattle.pl_slot.specs.declared.links.Link.{Link}
use Rattle.pl_slot.specs.declared.links.Link.TheVariants.{First, Last, Next, Previous}
use Rattle.pl_slot.specs.declared.links.Rail.{Rail}
use Rattle.pl_slot.specs.declared.links.Rail.TheVariants.{Children, Live, OriginPages, PageVisits, References, Targets}
use Rattle.pl_slot.specs.declared.row.SlotRow.{SlotRow}
use Rattle.pl_slot.specs.declared.row.SlotRow.TheVariants as rows
use Rattle.pl_slot.specs.Arena.{IsSet, IsSetLive, KeepsFields, KeepsRows, header_of, is_among, is_live, live_at}
use Rattle.pl_slot.specs.Arena.{live_row, row_at}
use Rattle.pl_slot.specs.Links.{is_rail, kind_at, link_at, link_in}
use Rattle.pl_slot.proofs.ArenaLaws.{row_here}
use Rattle.pl_text.specs.Chunks.{FreesSlots, Hold, KeepsLive, StoresText}

-- ---- rows that name no slot

-- no link of a row names a slot
abbrev pub IsBareRow : SlotRow → Type 0
IsBareRow row = (r : Rail) (l : Link) (s : Slot) → link_in r l row ≡ Some s → s ≡ none

-- no link of what a slot holds names a slot
abbrev pub IsBare : ℕ → Pages → Type 0
IsBare n pages = (r : Rail) (l : Link) (s : Slot) → link_at r l n pages ≡ Some s → s ≡ none

abbrev names_none : Option Slot → Bool
names_none None = true
names_none (Some slot) = slot.0 == 0

abbrev all_none : SlotRow → Rail → Bool
all_none row rail = list_all (λ link. names_none (link_in rail link row)) (First ∷ Last ∷ Previous ∷ Next ∷ [])

of_rail : (p : Rail → Bool) → p Live ≡ true → p OriginPages ≡ true → p PageVisits ≡ true → p Targets ≡ true
    → p Children ≡ true → p References ≡ true → (rail : Rail) → p rail ≡ true
of_rail p a b c d e f Live = a
of_rail p a b c d e f OriginPages = b
of_rail p a b c d e f PageVisits = c
of_rail p a b c d e f Targets = d
of_rail p a b c d e f Children = e
of_rail p a b c d e f References = f

of_link : (p : Link → Bool) → list_all p (First ∷ Last ∷ Previous ∷ Next ∷ []) ≡ true → (link : Link) → p link ≡ true
of_link p all link = choose link
  where
    first : (p First ≡ true) × (list_all p (Last ∷ Previous ∷ Next ∷ []) ≡ true)
    first = and_parts (p First) (list_all p (Last ∷ Previous ∷ Next ∷ [])) all

    second : (p Last ≡ true) × (list_all p (Previous ∷ Next ∷ []) ≡ true)
    second = and_parts (p Last) (list_all p (Previous ∷ Next ∷ [])) first.1

    third : (p Previous ≡ true) × (list_all p (Next ∷ []) ≡ true)
    third = and_parts (p Previous) (list_all p (Next ∷ [])) second.1

    choose : (link : Link) → p link ≡ true
    choose First = first.0
    choose Last = second.0
    choose Previous = third.0
    choose Next = (and_parts (p Next) (list_all p []) third.1).0

by_row : (row : SlotRow) (rail : Rail) → all_none (unlinked row) rail ≡ true
by_row (rows.Free next) rail = of_rail (all_none (unlinked (rows.Free next))) refl refl refl refl refl refl rail
by_row (rows.Origin lp ln fp la total) rail =
    of_rail (all_none (unlinked (rows.Origin lp ln fp la total))) refl refl refl refl refl refl rail
by_row (rows.Place typed hidden lp ln id origin op on fv lv fr lr ut ul tt1 tl frecency count) rail =
    of_rail
    (all_none (unlinked (rows.Place typed hidden lp ln id origin op on fv lv fr lr ut ul tt1 tl frecency count)))
    refl refl refl refl refl refl rail
by_row (rows.Visit transition lp ln id page pp pn source tp tn ft lt date) rail =
    of_rail (all_none (unlinked (rows.Visit transition lp ln id page pp pn source tp tn ft lt date)))
    refl refl refl refl refl refl rail
by_row (rows.Item kind lp ln id parent sp sn fc lc page rp rn tt1 tl added modified) rail =
    of_rail (all_none (unlinked (rows.Item kind lp ln id parent sp sn fc lc page rp rn tt1 tl added modified)))
    refl refl refl refl refl refl rail
by_row (rows.Text used next payload) rail =
    of_rail (all_none (unlinked (rows.Text used next payload))) refl refl refl refl refl refl rail

pub unlinked_bare : (row : SlotRow) → unlinked row ≡ row → IsBareRow row
unlinked_bare row is r l s named =
    of_named (link_in r l (unlinked row)) s
    (of_link (λ link. names_none (link_in r link (unlinked row))) (by_row row r) l) (ap (link_in r l) is ∙ named)
  where
    of_named : (o : Option Slot) (s : Slot) → names_none o ≡ true → o ≡ Some s → s ≡ none
    of_named None s zero_is named = absurd (cc)
    of_named (Some t) s zero_is named = sym (same_Some t s named) ∙ ap numbered (eqb-true t.0 0 zero_is)

row_bare : (n : ℕ) (row : SlotRow) (pages : Pages) → live_at n pages ≡ Some row → IsBareRow row → IsBare n pages
row_bare n row pages is bare r l s named =
    bare r l s (sym (ap (option_and_then (link_in r l)) is) ∙ sym (link_live r l n pages) ∙ named)

linkless_bare : (n : ℕ) (pages : Pages) → HasNoLinks n pages → IsBare n pages
linkless_bare n pages without r l s named = absurd (true≢false (sym (ap is_some (sym (without r l) ∙ named))))

-- ---- slots in no chain, that own none, have changed

pub record IsUnchained (slot : Slot) (chains : ChainMap) : Type 0 where
  pub loose : (r : Rail) → IsLoose r slot chains
  pub empty : (r : Rail) → chains r (At slot) ≡ []

linkless_unchained : (slot : Slot) (chains : ChainMap) (pages : Pages) → AreChains chains pages
    → HasNoLinks slot.0 pages → IsUnchained slot chains
linkless_unchained slot chains pages are without =
    record {
      loose = λ r. linkless_loose chains pages are r slot without;
      empty = λ r. linkless_empty chains pages are r slot without;
    }

module _ (chains : ChainMap) (ns : List ℕ) (old new : Pages) (are : AreChains chains old) (kept : KeepsLive ns old new)
    (outside : (s : Slot) → is_among s.0 ns ≡ true → IsUnchained s chains)
    (bare : (n : ℕ) → is_among n ns ≡ true → IsBare n new) (ends : KeepsEnds old new) where
  -- the list of an owner whose ends are as they were
  still_listed : (r : Rail) (o : Owner) → KeepsEndsOf o old new → IsSome (end_at Behind r o new)
      → Lists r o (chains r o) new
  still_listed r o own some =
      lists_live r o (chains r o) old new
      (λ s within. kept s.0
      (no_test (is_among s.0 ns) (λ one. true≢false (sym within ∙ (outside s one).loose r o)))) own
      (are.lists r o (sym (ap is_some (ends_live Behind r o old new own)) ∙ some))

  still_none : (r : Rail) (o : Owner) → KeepsEndsOf o old new → end_at Behind r o new ≡ None → chains r o ≡ []
  still_none r o own missing = are.none r o (sym (ends_live Behind r o old new own) ∙ missing)

  -- one that has changed has an empty list
  none_listed : (r : Rail) (x : Slot) → is_among x.0 ns ≡ true → IsSome (link_at r First x.0 new)
      → Lists r (At x) (chains r (At x)) new
  none_listed r x among some =
      let last : IsSome (link_at r Last x.0 new) = both_ends r x.0 new some in
      let empty : Lists r (At x) [] new = record {
        members = refl;
        linked = (
          of_link_at (link_at r First x.0 new) some (λ s named. bare x.0 among r First s named),
          of_link_at (link_at r Last x.0 new) last (λ s named. bare x.0 among r Last s named),
          tt,
        );
      } in
      subst (λ l. Lists r (At x) l new) (sym ((outside x among).empty r)) empty
    where
      of_link_at : (o : Option Slot) → IsSome o → ((s : Slot) → o ≡ Some s → s ≡ none) → o ≡ Some none
      of_link_at None some named = absurd (true≢false (sym some))
      of_link_at (Some s) some named = ap Some (named s refl)

  all_listed : (r : Rail) (o : Owner) → IsSome (end_at Behind r o new) → Lists r o (chains r o) new
  all_listed r (Header kind) some = still_listed r (Header kind) (ends kind) some
  all_listed r (At x) some = elim (cases_Bool (is_among x.0 ns)) [
    | inl among ↦ none_listed r x among some
    | inr other ↦ still_listed r (At x) (kept x.0 other) some
  ]

  all_empty : (r : Rail) (o : Owner) → end_at Behind r o new ≡ None → chains r o ≡ []
  all_empty r (Header kind) missing = still_none r (Header kind) (ends kind) missing
  all_empty r (At x) missing = elim (cases_Bool (is_among x.0 ns)) [
    | inl among ↦ (outside x among).empty r
    | inr other ↦ still_none r (At x) (kept x.0 other) missing
  ]

  pub outside_chains : AreChains chains new
  outside_chains = record { lists = all_listed; none = all_empty }

-- slots of texts, and such as are not live, have changed
pub beside_chains : (chains : ChainMap) (ns : List ℕ) (old new : Pages) → AreChains chains old → KeepsLive ns old new
    → AreIdle ns old → AreIdle ns new → KeepsEnds old new → AreChains chains new
beside_chains chains ns old new are kept idle still_idle ends =
    outside_chains chains ns old new are kept
    (λ s among. linkless_unchained s chains old are (idle_linkless ns old idle s.0 among))
    (λ n among. linkless_bare n new (idle_linkless ns new still_idle n among)) ends

-- no live slot has changed
pub same_live_chains : (chains : ChainMap) (old new : Pages) → AreChains chains old → KeepsLive [] old new
    → KeepsEnds old new → AreChains chains new
same_live_chains chains old new are kept ends =
    beside_chains chains [] old new are kept (λ n row among _. absurd (true≢false (sym among)))
    (λ n row among _. absurd (true≢false (sym among))) ends

pub header_chains : (chains : ChainMap) (old new : Pages) → AreChains chains old → KeepsRows old new
    → KeepsEnds old new → AreChains chains new
header_chains chains old new are same ends =
    same_live_chains chains old new are (λ n _. ap (option_and_then live_row) (same n)) ends

-- ---- one slot is taken, or given back

pub only_one : (n m : ℕ) → is_among n (m ∷ []) ≡ true → n ≡ m
only_one n m among = elim (or_cases (n == m) false among) [
  | inl here ↦ eqb-true n m here
  | inr never ↦ absurd (true≢false (sym never))
]

pub set_live_beside : (slot : ℕ) (row : SlotRow) (old new : Pages) → IsSetLive slot row old new
    → KeepsLive (slot ∷ []) old new
set_live_beside slot row old new set n other =
    set n ∙ ap (λ b. cond b (Some row) (live_at n old)) (or_parts (n == slot) false other).0

pub set_live_here : (slot : ℕ) (row : SlotRow) (old new : Pages) → IsSetLive slot row old new
    → live_at slot new ≡ Some row
set_live_here slot row old new set = set slot ∙ ap (λ b. cond b (Some row) (live_at slot old)) (eq-eqb slot slot refl)

pub set_beside : (slot : ℕ) (row : SlotRow) (old new : Pages) → IsSet slot row old new → KeepsLive (slot ∷ []) old new
set_beside slot row old new set n other =
    ap (option_and_then live_row)
    (set n ∙ ap (λ b. cond b (Some row) (row_at n old)) (or_parts (n == slot) false other).0)

pub set_free_here : (slot : ℕ) (next : Slot) (old new : Pages) → IsSet slot (rows.Free next) old new
    → live_at slot new ≡ None
set_free_here slot next old new set = ap (option_and_then live_row) (row_here slot (rows.Free next) old new set)

pub taken_chains : (chains : ChainMap) (slot : Slot) (row : SlotRow) (old new : Pages) → AreChains chains old
    → is_live slot.0 old ≡ false → KeepsLive (slot.0 ∷ []) old new → live_at slot.0 new ≡ Some row → IsBareRow row
    → KeepsEnds old new → AreChains chains new
taken_chains chains slot row old new are fresh kept is bare ends =
    outside_chains chains (slot.0 ∷ []) old new are kept
    (λ s among.
    linkless_unchained s chains old are
    (fresh_linkless s.0 old (ap (λ n. is_live n old) (only_one s.0 slot.0 among) ∙ fresh)))
    (λ n among. row_bare n row new (ap (λ k. live_at k new) (only_one n slot.0 among) ∙ is) bare) ends

pub given_chains : (chains : ChainMap) (slot : Slot) (old new : Pages) → AreChains chains old
    → ((r : Rail) → IsLoose r slot chains) → ((r : Rail) → chains r (At slot) ≡ []) → KeepsLive (slot.0 ∷ []) old new
    → live_at slot.0 new ≡ None → KeepsEnds old new → AreChains chains new
given_chains chains slot old new are loose empty kept gone ends =
    outside_chains chains (slot.0 ∷ []) old new are kept
    (λ s among.
    subst (λ n. IsUnchained (numbered n) chains) (sym (only_one s.0 slot.0 among))
    (record { loose = loose; empty = empty }))
    (λ n among.
    linkless_bare n new (fresh_linkless n new (ap (λ k. is_live k new) (only_one n slot.0 among) ∙ ap is_some gone)))
    ends

-- ---- texts

pub stored_chains : (chains : ChainMap) (slot : Slot) (text : List ℕ) (old new : Pages) → AreChains chains old
    → StoresText slot text old new → KeepsFields old new → AreChains chains new
stored_chains chains slot text old new are stores kept =
    beside_chains chains stores.slots old new are stores.others (fresh_idle stores.slots old stores.fresh)
    (held_idle stores.slots text new stores.held) (fields_ends old new kept)

pub freed_chains : (chains : ChainMap) (ns text : List ℕ) (old new : Pages) → AreChains chains old → Hold ns text old
    → FreesSlots ns old new → AreChains chains new
freed_chains chains ns text old new are held frees =
    beside_chains chains ns old new are frees.others (held_idle ns text old held)
    (fresh_idle ns new (λ n among.
    not-true (is_live n new) (and_parts (is_some (row_at n new)) (not (is_live n new)) (frees.free n among)).1))
    (freed_ends (header_of new).first_free old new frees.header)

-- ---- rows are written with the links that they had

pub same_links_chains : (chains : ChainMap) (old new : Pages) → AreChains chains old
    → ((n : ℕ) → kind_at n new ≡ kind_at n old)
    → ((r : Rail) (l : Link) (n : ℕ) → link_at r l n new ≡ link_at r l n old) → KeepsEnds old new
    → AreChains chains new
same_links_chains chains old new are same links ends =
    record {
      lists = λ r o some.
          list_kept old new (same_kinds old new same) (same_links old new links) ends r o (chains r o)
          (are.lists r o (sym (end_kinds Behind r o old new same) ∙ some));
      none = λ r o missing.
          are.none r o (is_none_at (end_at Behind r o old)
          (sym (end_kinds Behind r o old new same) ∙ ap is_some missing));
    }

-- ---- slots that name no neighbour

-- a change of another rail
pub alone_rail : (rail : Rail) (owner : Owner) (old new : Pages) (r : Rail) (slot : Slot)
    → KeepsRest rail owner old new → is_rail r rail ≡ false → IsAlone r slot old → IsAlone r slot new
alone_rail rail owner old new r slot rest other alone =
    record {
      before = rest.links r Previous slot.0 other ∙ alone.before;
      behind = rest.links r Next slot.0 other ∙ alone.behind;
    }

-- a change of other slots
pub alone_live : (r : Rail) (slot : Slot) (old new : Pages) → live_at slot.0 new ≡ live_at slot.0 old
    → IsAlone r slot old → IsAlone r slot new
alone_live r slot old new same alone =
    record {
      before = live_link r Previous slot.0 old new same ∙ alone.before;
      behind = live_link r Next slot.0 old new same ∙ alone.behind;
    }

-- a change of texts, and of slots that are not live
pub alone_beside : (r : Rail) (slot : Slot) (ns : List ℕ) (old new : Pages) → KeepsLive ns old new → AreIdle ns old
    → IsAlone r slot old → IsAlone r slot new
alone_beside r slot ns old new kept idle alone =
    let links = links_beside ns old new kept idle in
    record {
      before = links r Previous slot.0 none alone.before;
      behind = links r Next slot.0 none alone.behind;
    }
