-- The list of an owner depends on live rows and on the ends of the header alone.
use Rattle.std.proofs.Common.{◌≡◌, ◌∙◌, ◌==◌, ◌&&◌, ◌∷◌, [], ℕ, Bool, List, None, Option, Some, ap, eqb-true}
use Rattle.std.proofs.Common.{inl, inr, is_some, refl, sym, true}
use Rattle.std.specs.List.{list_all}
use Rattle.std.specs.Option.{option_and_then, option_map}
use Rattle.std.proofs.lemmas.Bool.{and_parts, or_cases, or_right, true≢false}
use Rattle.pl_base.specs.declared.id.Slot.{Slot}
use Rattle.pl_base.proofs.Truths.{is_none_at, no_test}
use Rattle.pl_rail.specs.declared.owner.Owner.{Owner}
use Rattle.pl_rail.specs.declared.owner.Owner.TheVariants as owners
use Rattle.pl_rail.specs.declared.owner.Side.{Side}
use Rattle.pl_rail.specs.declared.owner.Side.TheVariants.{Before, Behind}
use Rattle.pl_rail.specs.Rails.{Lists, end_at, end_in, end_link, is_in, is_kind, is_member, member_kind, none}
use Rattle.pl_rail.specs.Rails.{side_link}
use Rattle.pl_rail.proofs.ListLaws.{before_in, behind_in, in_front}
use Rattle.pl_rail.proofs.MemberCount.{live_member, never_free}
use Rattle.pl_rail.proofs.Rings.{AreSame, Named, kept_links}
use Rattle.pl_rail.proofs.SideLaws.{both_kept, numbered}
use Rattle.pl_sheets.specs.Sheets.{Pages}
use Rattle.pl_slot.specs.declared.kind.SlotKind.TheVariants as kinds
use Rattle.pl_slot.specs.declared.links.Link.{Link}
use Rattle.pl_slot.specs.declared.links.Rail.{Rail}
use Rattle.pl_slot.specs.declared.links.Rail.TheVariants.{Live}
use Rattle.pl_slot.specs.declared.row.SlotRow.{SlotRow}
use Rattle.pl_slot.specs.declared.row.SlotRow.TheVariants.{Free}
use Rattle.pl_slot.specs.Arena.{header_of, is_live, live_at, live_row, row_at}
use Rattle.pl_slot.specs.Header.{ends_of}
use Rattle.pl_slot.specs.Links.{kind_at, link_at, link_in, link_place}
use Rattle.pl_slot.specs.Slot.{slot_bytes, slot_kind}
use Rattle.pl_slot.specs.SlotReading.{slot_in}
use Rattle.pl_slot.proofs.FitsLaws.{free_has, text_has}

-- ---- rows without links

no_link : (rail : Rail) (link : Link) (row : SlotRow) → (is_some (link_place rail link (slot_kind row)) ≡ true → ⊥)
    → link_in rail link row ≡ None
no_link rail link row never =
    ap (option_map (λ place. slot_in place (slot_bytes row)))
    (is_none_at (link_place rail link (slot_kind row)) (no_test (is_some (link_place rail link (slot_kind row))) never))

-- a part of a text has no link
pub text_link : (rail : Rail) (link : Link) (row : SlotRow) → slot_kind row ≡ kinds.Text → link_in rail link row ≡ None
text_link rail link row is =
    no_link rail link row (λ has. text_has rail link (ap (λ k. is_some (link_place rail link k)) (sym is) ∙ has))

-- ---- links and kinds are those of live rows

pub link_live : (rail : Rail) (link : Link) (n : ℕ) (pages : Pages)
    → link_at rail link n pages ≡ option_and_then (link_in rail link) (live_at n pages)
unfolding link_at
link_live rail link n pages = of_slot (row_at n pages)
  where
    of_row : (row : SlotRow) → link_in rail link row ≡ option_and_then (link_in rail link) (live_row row)
    of_row (Free next) = no_link rail link (Free next) (free_has rail link)
    of_row row = refl

    of_slot : (row : Option SlotRow)
        → option_and_then (link_in rail link) row
        ≡ option_and_then (link_in rail link) (option_and_then live_row row)
    of_slot None = refl
    of_slot (Some row) = of_row row

pub member_live : (rail : Rail) (owner : Owner) (pages : Pages) (slot : Slot)
    → is_member rail owner pages slot ≡ is_kind (option_map slot_kind (live_at slot.0 pages)) (member_kind rail owner)
unfolding kind_at
member_live rail owner pages slot = of_slot (row_at slot.0 pages)
  where
    of_row : (row : SlotRow)
        → is_kind (Some (slot_kind row)) (member_kind rail owner)
        ≡ is_kind (option_map slot_kind (live_row row)) (member_kind rail owner)
    of_row (Free next) = never_free rail owner
    of_row row = refl

    of_slot : (row : Option SlotRow)
        → is_kind (option_map slot_kind row) (member_kind rail owner)
        ≡ is_kind (option_map slot_kind (option_and_then live_row row)) (member_kind rail owner)
    of_slot None = refl
    of_slot (Some row) = of_row row

-- a link of a slot that holds the live row that it held
pub live_link : (rail : Rail) (link : Link) (n : ℕ) (old new : Pages) → live_at n new ≡ live_at n old
    → link_at rail link n new ≡ link_at rail link n old
live_link rail link n old new same =
    link_live rail link n new ∙ ap (option_and_then (link_in rail link)) same ∙ sym (link_live rail link n old)

-- and whether it may be a member
pub same_member : (rail : Rail) (owner : Owner) (slot : Slot) (old new : Pages)
    → live_at slot.0 new ≡ live_at slot.0 old → is_member rail owner new slot ≡ is_member rail owner old slot
same_member rail owner slot old new same =
    member_live rail owner new slot
    ∙ ap (λ row. is_kind (option_map slot_kind row) (member_kind rail owner)) same
    ∙ sym (member_live rail owner old slot)

-- ---- members are live

-- what holds of all slots of a list holds of each
each_in : (p : Slot → Bool) (slot : Slot) (slots : List Slot) → list_all p slots ≡ true → is_in slot slots ≡ true
    → p slot ≡ true
each_in p slot [] all among = absurd (true≢false (sym among))
each_in p slot (x ∷ xs) all among =
    let parts = and_parts (p x) (list_all p xs) all in
    elim (or_cases (x.0 == slot.0) (is_in slot xs) among) [
      | inl here ↦ ap (λ k. p (numbered k)) (sym (eqb-true x.0 slot.0 here)) ∙ parts.0
      | inr further ↦ each_in p slot xs parts.1 further
    ]

pub kind_in : (rail : Rail) (owner : Owner) (slots : List Slot) (pages : Pages) (s : Slot)
    → Lists rail owner slots pages → is_in s slots ≡ true → is_member rail owner pages s ≡ true
kind_in rail owner slots pages s lists among = each_in (is_member rail owner pages) s slots lists.members among

pub members_in : (rail : Rail) (owner : Owner) (slots : List Slot) (pages : Pages) (s : Slot)
    → Lists rail owner slots pages → is_in s slots ≡ true → is_live s.0 pages ≡ true
members_in rail owner slots pages s lists among =
    live_member rail owner pages s (kind_in rail owner slots pages s lists among)

-- ---- lists that stay

same_all : (p q : Slot → Bool) (slots : List Slot) → ((s : Slot) → is_in s slots ≡ true → q s ≡ p s)
    → list_all q slots ≡ list_all p slots
same_all p q [] same = refl
same_all p q (x ∷ xs) same =
    let rest : list_all q xs ≡ list_all p xs =
    same_all p q xs (λ s among. same s (or_right (x.0 == s.0) (is_in s xs) among)) in
    λ i. same x (in_front x [] xs) i && rest i

same_named : (f g : Named) (slots : List Slot) → ((s : Slot) → is_in s slots ≡ true → g s ≡ f s) → AreSame g f slots
same_named f g [] same = tt
same_named f g (x ∷ xs) same = (
  same x (in_front x [] xs),
  same_named f g xs (λ s among. same s (or_right (x.0 == s.0) (is_in s xs) among)),
)

-- where members are members as before, and links and ends are those that they were
pub lists_same : (rail : Rail) (owner : Owner) (slots : List Slot) (old new : Pages)
    → ((s : Slot) → is_in s slots ≡ true → is_member rail owner new s ≡ is_member rail owner old s)
    → ((side : Side) (s : Slot) → is_in s slots ≡ true
    → link_at rail (side_link side) s.0 new ≡ link_at rail (side_link side) s.0 old)
    → ((side : Side) → end_at side rail owner new ≡ end_at side rail owner old) → Lists rail owner slots old
    → Lists rail owner slots new
lists_same rail owner slots old new members links ends lists =
    record {
      members =
          same_all (is_member rail owner old) (is_member rail owner new) slots members ∙ lists.members;
      linked =
          kept_links (behind_in rail owner old) (before_in rail owner old) (behind_in rail owner new)
          (before_in rail owner new) none none slots (ends Behind) (ends Before)
          (same_named (behind_in rail owner old) (behind_in rail owner new) slots
          (λ s among. both_kept Behind rail owner old new s (ends Behind) (links Behind s among)))
          (same_named (before_in rail owner old) (before_in rail owner new) slots
          (λ s among. both_kept Before rail owner old new s (ends Before) (links Before s among)))
          lists.linked;
    }

-- what names an owner's ends is as it was: its live row, or the header's ends of its kind
abbrev pub KeepsEndsOf : Owner → Pages → Pages → Type 0
KeepsEndsOf (owners.At x) old new = live_at x.0 new ≡ live_at x.0 old
KeepsEndsOf (owners.Header kind) old new = ends_of kind (header_of new) ≡ ends_of kind (header_of old)

pub ends_live : (side : Side) (rail : Rail) (owner : Owner) (old new : Pages) → KeepsEndsOf owner old new
    → end_at side rail owner new ≡ end_at side rail owner old
ends_live side rail (owners.At x) old new own = live_link rail (end_link side) x.0 old new own
ends_live side Live (owners.Header kind) old new own = ap (λ e. Some (end_in side e)) own
ends_live side rail (owners.Header kind) old new own = refl

pub lists_live : (rail : Rail) (owner : Owner) (slots : List Slot) (old new : Pages)
    → ((s : Slot) → is_in s slots ≡ true → live_at s.0 new ≡ live_at s.0 old) → KeepsEndsOf owner old new
    → Lists rail owner slots old → Lists rail owner slots new
lists_live rail owner slots old new same own lists =
    lists_same rail owner slots old new
    (λ s among. same_member rail owner s old new (same s among))
    (λ side s among. live_link rail (side_link side) s.0 old new (same s among))
    (λ side. ends_live side rail owner old new own) lists
