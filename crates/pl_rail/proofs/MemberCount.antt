-- That members which differ are no more than the live slots.
use Rattle.std.proofs.Common.{◌≡◌, ◌∙◌, ◌+◌, ◌<◌, ◌≤◌, ◌∷◌, [], ℕ, List, Bool, ap, arith}
use Rattle.std.proofs.Common.{eqb, eqb-true, false, filter, inl, inr, is_some, length, map, None, Option, refl, Some}
use Rattle.std.proofs.Common.{sym, true}
use Rattle.std.specs.List.{AllByRecursion, IsDistinct, list_all, list_any}
use Rattle.std.specs.Option.{option_and_then, option_map}
use Rattle.std.proofs.lemmas.Bool.{and_parts, ne_eqb, or_cases, true≢false}
use Rattle.std.proofs.lemmas.Cmp.{nat_eq_equiv}
use Rattle.std.proofs.lemmas.List.{length-map}
use Rattle.std.proofs.lemmas.Map.Made.{length-le_from_is_member}
use Rattle.pl_base.specs.declared.id.Slot.{Slot}
use Rattle.pl_rail.specs.declared.owner.Owner.{Owner}
use Rattle.pl_rail.specs.declared.owner.Owner.TheVariants as owners
use Rattle.pl_rail.specs.Rails.{is_kind, is_member, member_kind}
use Rattle.pl_rail.proofs.Rings.{Differ}
use Rattle.pl_rail.proofs.SideLaws.{numbered}
use Rattle.pl_sheets.specs.Sheets.{Pages}
use Rattle.pl_slot.specs.declared.kind.LiveKind.TheVariants as live
use Rattle.pl_slot.specs.declared.kind.SlotKind.{SlotKind}
use Rattle.pl_slot.specs.declared.kind.SlotKind.TheVariants as kinds
use Rattle.pl_slot.specs.declared.links.Rail.{Rail}
use Rattle.pl_slot.specs.declared.links.Rail.TheVariants.{Children, Live, OriginPages, PageVisits, References, Targets}
use Rattle.pl_slot.specs.declared.row.SlotRow.{SlotRow}
use Rattle.pl_slot.specs.declared.row.SlotRow.TheVariants.{Free}
use Rattle.pl_slot.specs.Arena.{is_live, is_slot, live_count, live_row, row_at, slot_count, slots_of}
use Rattle.pl_slot.specs.Links.{kind_at}
use Rattle.pl_slot.specs.Slot.{slot_kind}
use Rattle.pl_slot.proofs.ArenaLaws.{live_slot}
use Rattle.pl_slot.proofs.ChainCount.{among_range}
use Rattle.pl_slot.proofs.SlotPlaces.{no_slot, slot_bounds}

-- ---- members are live slots

no_kind_at : (n : ℕ) (pages : Pages) → is_slot n pages ≡ false → kind_at n pages ≡ None
unfolding kind_at
no_kind_at n pages missing = ap (option_map slot_kind) (no_slot n pages missing)

pub no_member : (rail : Rail) (owner : Owner) (pages : Pages) (slot : Slot) → is_slot slot.0 pages ≡ false
    → is_member rail owner pages slot ≡ false
no_member rail owner pages slot missing =
    ap (λ k. is_kind k (member_kind rail owner)) (no_kind_at slot.0 pages missing)

pub member_told : (rail : Rail) (owner : Owner) (pages : Pages) (slot : Slot) (row : SlotRow) (kind : SlotKind)
    (wanted : Option SlotKind) (result : Bool) → row_at slot.0 pages ≡ Some row → kind ≡ slot_kind row
    → wanted ≡ member_kind rail owner → result ≡ is_kind (Some kind) wanted → result ≡ is_member rail owner pages slot
unfolding kind_at
member_told rail owner pages slot row kind wanted result row_is kind_is wanted_is is =
    let same : is_kind (Some kind) wanted ≡ is_kind (Some (slot_kind row)) (member_kind rail owner) =
    λ i. is_kind (Some (kind_is i)) (wanted_is i) in
    is ∙ same ∙ ap (λ r. is_kind (option_map slot_kind r) (member_kind rail owner)) (sym row_is)

-- no free slot is a member
pub never_free : (rail : Rail) (owner : Owner) → is_kind (Some kinds.Free) (member_kind rail owner) ≡ false
never_free Live (owners.Header live.Origin) = refl
never_free Live (owners.Header live.Place) = refl
never_free Live (owners.Header live.Visit) = refl
never_free Live (owners.Header live.Item) = refl
never_free OriginPages (owners.At slot) = refl
never_free PageVisits (owners.At slot) = refl
never_free Targets (owners.At slot) = refl
never_free Children (owners.At slot) = refl
never_free References (owners.At slot) = refl
never_free rail owner = refl

row_live : (rail : Rail) (owner : Owner) (row : SlotRow)
    → is_kind (Some (slot_kind row)) (member_kind rail owner) ≡ true → is_some (live_row row) ≡ true
row_live rail owner (Free next) is = absurd (true≢false (sym is ∙ never_free rail owner))
row_live rail owner row is = refl

pub live_member : (rail : Rail) (owner : Owner) (pages : Pages) (slot : Slot) → is_member rail owner pages slot ≡ true
    → is_live slot.0 pages ≡ true
unfolding kind_at
live_member rail owner pages slot member = of_row (row_at slot.0 pages) member
  where
    of_row : (row : Option SlotRow) → is_kind (option_map slot_kind row) (member_kind rail owner) ≡ true
        → is_some (option_and_then live_row row) ≡ true
    of_row None is = absurd (true≢false (sym is))
    of_row (Some row) is = row_live rail owner row is

-- ---- slots that differ are no more than there are

abbrev pub numbers : List Slot → List ℕ
numbers slots = map (λ (s : Slot). s.0) slots

pub differ_numbers : (a : Slot) (xs : List Slot) → Differ a xs → AllByRecursion (λ m. eqb a.0 m ≡ false) (numbers xs)
differ_numbers a [] apart = tt
differ_numbers a (x ∷ xs) apart = (
  ne_eqb a.0 x.0 (λ same. apart.0 (ap numbered (sym same))),
  differ_numbers a xs apart.1,
)

pub live_among : (n : ℕ) (pages : Pages) → is_live n pages ≡ true
    → list_any (eqb n) (filter (λ k. is_live k pages) (slots_of pages)) ≡ true
live_among n pages is =
    let bounds = slot_bounds n pages (live_slot n pages is) in
    among_range (λ k. is_live k pages) n 1 (slot_count pages) bounds.0 (below n (slot_count pages) bounds.1) is
  where
    below : (n count : ℕ) → n ≤ count → n < 1 + count
    below n count within = omega arith

among_live : (rail : Rail) (owner : Owner) (pages : Pages) (xs : List Slot) (q : ℕ)
    → list_all (is_member rail owner pages) xs ≡ true → list_any (eqb q) (numbers xs) ≡ true → is_live q pages ≡ true
among_live rail owner pages [] q members among = absurd (true≢false (sym among))
among_live rail owner pages (x ∷ xs) q members among =
    let parts = and_parts (is_member rail owner pages x) (list_all (is_member rail owner pages) xs) members in
    elim (or_cases (eqb q x.0) (list_any (eqb q) (numbers xs)) among) [
      | inl here ↦ ap (λ n. is_live n pages) (eqb-true q x.0 here) ∙ live_member rail owner pages x parts.0
      | inr there ↦ among_live rail owner pages xs q parts.1 there
    ]

pub distinct_few : (rail : Rail) (owner : Owner) (pages : Pages) (xs : List Slot)
    → list_all (is_member rail owner pages) xs ≡ true → IsDistinct eqb (numbers xs) → length xs ≤ live_count pages
unfolding live_count
distinct_few rail owner pages xs members distinct =
    let most : length (numbers xs) ≤ length (filter (λ k. is_live k pages) (slots_of pages)) =
    length-le_from_is_member nat_eq_equiv (numbers xs) (filter (λ k. is_live k pages) (slots_of pages)) distinct
    (λ q among. live_among q pages (among_live rail owner pages xs q members among)) in
    less (length xs) (length (numbers xs)) (length (filter (λ k. is_live k pages) (slots_of pages)))
    (length-map xs (λ (s : Slot). s.0)) most
  where
    less : (a b c : ℕ) → b ≡ a → b ≤ c → a ≤ c
    less a b c same within = omega arith
