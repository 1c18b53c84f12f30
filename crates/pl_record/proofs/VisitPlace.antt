-- Where the visits of a page that are later than a date end, found along the page's chain.
use Rattle.std.proofs.Common.{◌≡◌, ◌∙◌, ◌<◌, ◌≤◌, ◌∷◌, ◌++◌, [], ℕ, List, None, Option, Some, ap, append_assoc, arith}
use Rattle.std.proofs.Common.{Equal, IsSome, Less, cond, false, inl, inr, is_some, length, nat_lt, refl, subst, suc}
use Rattle.std.proofs.Common.{sym, true, zero}
use Rattle.std.specs.Option.{option_and_then}
use Rattle.std.specs.Cmp.{nat_cmp_is}
use Rattle.std.specs.Ordering.{is_le, nat_cmp}
use Rattle.std.proofs.lemmas.Bool.{cases_Bool, le-ltb, ltb-false, ltb-true, true≢false}
use Rattle.std.proofs.lemmas.Map.Keys.{le_from_is_le}
use Rattle.std.proofs.lemmas.List.{append-nil, length-append}
use Rattle.pl_base.specs.declared.date.Micros.{Micros}
use Rattle.pl_base.specs.declared.id.Slot.{Slot}
use Rattle.pl_base.proofs.Walk.{Names, Runs, Walk, ends, stands as stands_at, starts}
use Rattle.pl_record.specs.declared.rows.Visit.{Visit}
use Rattle.pl_record.specs.Rows.{row_in, visit_row}
use Rattle.pl_record.specs.VisitChanges.{IsPlaceInTime, date_in, is_after, put_in_time, visit_date}
use Rattle.pl_record.proofs.LiveChains.{kind_in}
use Rattle.pl_rail.specs.declared.owner.Owner.TheVariants.{At}
use Rattle.pl_rail.specs.declared.owner.Side.TheVariants.{Behind}
use Rattle.pl_rail.specs.Rails.{Lists, first_of, is_in, is_kind, is_member, last_of, named, none}
use Rattle.pl_rail.specs.Rails.{or_none}
use Rattle.pl_rail.proofs.ChainLaws.{stands}
use Rattle.pl_rail.proofs.ListLaws.{before_in, behind_in, first_behind, in_front, member_link, members_some}
use Rattle.pl_rail.proofs.ListLaws.{named_first}
use Rattle.pl_rail.proofs.Rings.{differ_parts, parted}
use Rattle.pl_rail.proofs.SideLaws.{at_link, numbered}
use Rattle.pl_rail.proofs.Walks.{met_few, last_of_added}
use Rattle.pl_sheets.specs.Sheets.{Pages}
use Rattle.pl_slot.specs.declared.kind.SlotKind.{SlotKind}
use Rattle.pl_slot.specs.declared.kind.SlotKind.TheVariants as kinds
use Rattle.pl_slot.specs.declared.links.Link.TheVariants.{First, Next}
use Rattle.pl_slot.specs.declared.links.Rail.TheVariants.{PageVisits}
use Rattle.pl_slot.specs.Arena.{live_count}
use Rattle.pl_slot.specs.Links.{kind_at, link_at}

pub visit_by_kind : (kind : Option SlotKind) → is_kind kind (Some kinds.Visit) ≡ true → kind ≡ Some kinds.Visit
visit_by_kind None is = absurd (true≢false (sym is))
visit_by_kind (Some kinds.Visit) is = refl
visit_by_kind (Some kinds.Free) is = absurd (true≢false (sym is))
visit_by_kind (Some kinds.Origin) is = absurd (true≢false (sym is))
visit_by_kind (Some kinds.Place) is = absurd (true≢false (sym is))
visit_by_kind (Some kinds.Item) is = absurd (true≢false (sym is))
visit_by_kind (Some kinds.Text) is = absurd (true≢false (sym is))

-- ---- what a test of dates tells

pub not_after : (date other : Micros) → is_le (nat_cmp other.0 date.0) ≡ true → is_after date (Some other) ≡ false
not_after date other is = le-ltb date.0 other.0 (le_from_is_le other.0 date.0 is)

pub then_after : (date other : Micros) → is_le (nat_cmp other.0 date.0) ≡ false → is_after date (Some other) ≡ true
then_after date other is = elim (cases_Bool (is_after date (Some other))) [
  | inl late ↦ late
  | inr early ↦ absurd (true≢false (sym (le_is (ltb-false date.0 other.0 early)) ∙ is))
]
  where
    le_is : other.0 ≤ date.0 → is_le (nat_cmp other.0 date.0) ≡ true
    le_is le = elim (cases_Bool (nat_lt other.0 date.0)) [
      | inl less ↦ ap is_le (sym (nat_cmp_is other.0 date.0 Less (ltb-true other.0 date.0 less)))
      | inr more ↦
          let not_less : date.0 ≤ other.0 = ltb-false other.0 date.0 more in
          ap is_le (sym (nat_cmp_is other.0 date.0 Equal (omega (arith, le, not_less))))
    ]

-- ---- the walk along a page's visits

pub slot_names : Names Slot Slot
slot_names = record { name = λ s. s; first = first_of; of_none = refl; of_some = λ x xs. refl }

-- the slot that one names behind it
behind_of : Pages → Slot → Option Slot
behind_of pages slot = option_and_then named (link_at PageVisits Next slot.0 pages)

-- the visits in front are later than the date, and end with this one
pub record ArePassed (pages : Pages) (date : Micros) (after : Option Slot) (front : List Slot) : Type 0 where
  pub last : last_of front ≡ after
  pub placed : (slot : Slot) (rest : List Slot)
      → put_in_time pages date slot (front ++ rest) ≡ front ++ put_in_time pages date slot rest

abbrev pub PlaceWalk : Pages → Micros → Option Slot → List Slot → Option Slot → Type 0
PlaceWalk pages date after visits next = Walk slot_names visits (ArePassed pages date after) next

-- how many slots are named from one on, counted as far as so many
pub slots_left : Pages → ℕ → Option Slot → ℕ
slots_left pages zero next = 0
slots_left pages (suc k) None = 0
slots_left pages (suc k) (Some slot) = suc (slots_left pages k (behind_of pages slot))

date_read : (slot : Slot) (visit : Visit) (pages : Pages) → row_in slot pages ≡ Some (visit_row visit)
    → date_in pages slot ≡ Some visit.date
date_read slot visit pages row = ap (option_and_then visit_date) row

module _ (page : Slot) (visits : List Slot) (pages : Pages) (lists : Lists PageVisits (At page) visits pages) where
  runs : Runs slot_names (behind_of pages) visits
  unfolding slot_names behind_of
  runs front x rest whole =
      let here = subst (λ l. Lists PageVisits (At page) l pages) whole lists in
      let stood = stands PageVisits (At page) front x rest pages here in
      let some = members_some PageVisits (At page) pages (front ++ x ∷ rest) here.members in
      ap (option_and_then named)
      (sym (at_link Behind PageVisits (At page) pages x (λ zero_is. stood.some (ap numbered zero_is))) ∙ stood.goes_on)
      ∙ named_first rest (or_none (first_of rest)) (differ_parts none front (x ∷ rest) some).1.1 refl

  pub page_names : IsSome (link_at PageVisits First page.0 pages)
  page_names =
      ap is_some
      (first_behind (behind_in PageVisits (At page) pages) (before_in PageVisits (At page) pages) none visits
      lists.linked)

  few : length visits ≤ live_count pages
  few =
      met_few PageVisits (At page) pages visits lists.members
      (parted (behind_in PageVisits (At page) pages) (before_in PageVisits (At page) pages) none visits (none ∷ [])
      lists.linked).0

  left_is : (front rest : List Slot) → visits ≡ front ++ rest → (k : ℕ) → length rest ≤ k
      → slots_left pages k (first_of rest) ≡ length rest
  unfolding slots_left slot_names
  left_is front [] whole zero le = refl
  left_is front [] whole (suc k) le = refl
  left_is front (x ∷ rest) whole zero le = absurd (omega arith)
  left_is front (x ∷ rest) whole (suc k) le =
      let again : visits ≡ (front ++ x ∷ []) ++ rest = whole ∙ sym (append_assoc front (x ∷ []) rest) in
      ap suc (ap (slots_left pages k) (runs front x rest whole) ∙ left_is (front ++ x ∷ []) rest again k (omega arith))

  module _ (date : Micros) where
    pub place_starts : (next : Option Slot) → next ≡ first_of visits → PlaceWalk pages date None visits next
    unfolding slot_names
    place_starts next is =
        starts slot_names visits (ArePassed pages date None) next is
        (record { last = refl; placed = λ slot rest. refl })

    -- behind the end of the chain
    pub place_behind_all : (after next : Option Slot) → PlaceWalk pages date after visits next
        → ((id : Slot) → next ≡ Some id → ⊥) → IsPlaceInTime date after visits pages
    place_behind_all after next walk gone =
        let passed =
        ends slot_names visits (ArePassed pages date after) next walk gone in
        record {
          front = visits;
          back = [];
          is = sym (append-nil visits);
          last = passed.last;
          placed = λ slot. ap (put_in_time pages date slot) (sym (append-nil visits)) ∙ passed.placed slot [];
        }

    module _ (after next : Option Slot) (slot : Slot) (walk : PlaceWalk pages date after visits next)
        (at : next ≡ Some slot) where
      pub record Here : Type 0 where
        pub front : List Slot
        pub rest : List Slot
        pub whole : visits ≡ front ++ slot ∷ rest
        pub passed : ArePassed pages date after front

      pub here : Here
      unfolding slot_names
      here =
          let h = stands_at slot_names visits (ArePassed pages date after) next slot walk at in
          record {
            front = h.front;
            rest = h.rest;
            whole = h.whole ∙ ap (λ s. h.front ++ s ∷ h.rest) h.is;
            passed = h.so_far;
          }

      member_here : is_member PageVisits (At page) pages slot ≡ true
      member_here =
          kind_in PageVisits (At page) visits pages slot lists
          (subst (λ l. is_in slot l ≡ true) (sym here.whole) (in_front slot here.front here.rest))

      pub visit_here : kind_at slot.0 pages ≡ Some kinds.Visit
      visit_here = visit_by_kind (kind_at slot.0 pages) member_here

      pub next_names : IsSome (link_at PageVisits Next slot.0 pages)
      next_names = member_link PageVisits (At page) Behind pages slot member_here

      -- behind this one are `rest`
      pub behind_here : (behind : Option Slot)
          → ((front back : List Slot) → Lists PageVisits (At page) (front ++ slot ∷ back) pages
          → behind ≡ first_of back) → behind ≡ first_of here.rest
      behind_here behind is =
          is here.front here.rest (subst (λ l. Lists PageVisits (At page) l pages) here.whole lists)

      module _ (visit : Visit) (row : row_in slot pages ≡ Some (visit_row visit)) where
        -- the place is in front of one that is not later
        pub place_here : is_after date (Some visit.date) ≡ false → IsPlaceInTime date after visits pages
        place_here early =
            record {
              front = here.front;
              back = slot ∷ here.rest;
              is = here.whole;
              last = here.passed.last;
              placed = λ s.
                  ap (put_in_time pages date s) here.whole ∙ here.passed.placed s (slot ∷ here.rest)
                  ∙ ap (λ b. here.front ++ cond b (slot ∷ put_in_time pages date s here.rest) (s ∷ slot ∷ here.rest))
                  (ap (is_after date) (date_read slot visit pages row) ∙ early);
            }

        -- or behind one that is
        pub place_on : (behind : Option Slot) → behind ≡ first_of here.rest → is_after date (Some visit.date) ≡ true
            → PlaceWalk pages date (Some slot) visits behind
        unfolding slot_names
        place_on behind is late =
            record {
              front = here.front ++ slot ∷ [];
              rest = here.rest;
              whole = here.whole ∙ sym (append_assoc here.front (slot ∷ []) here.rest);
              here = is;
              so_far = record {
                last = last_of_added here.front slot;
                placed = λ s rest.
                    ap (put_in_time pages date s) (append_assoc here.front (slot ∷ []) rest)
                    ∙ here.passed.placed s (slot ∷ rest)
                    ∙ ap (λ b. here.front ++ cond b (slot ∷ put_in_time pages date s rest) (s ∷ slot ∷ rest))
                    (ap (is_after date) (date_read slot visit pages row) ∙ late)
                    ∙ sym (append_assoc here.front (slot ∷ []) (put_in_time pages date s rest));
              };
            }

      pub place_nears : (behind : Option Slot) → behind ≡ first_of here.rest
          → slots_left pages (live_count pages) behind < slots_left pages (live_count pages) next
      place_nears behind is =
          let long : length visits ≡ _ = ap length here.whole ∙ length-append here.front (slot ∷ here.rest) in
          let after_it : slots_left pages (live_count pages) behind ≡ length here.rest =
          ap (slots_left pages (live_count pages)) is
          ∙ left_is (here.front ++ slot ∷ []) here.rest
          (here.whole ∙ sym (append_assoc here.front (slot ∷ []) here.rest)) (live_count pages)
          (omega (arith, long, few)) in
          let before_it : slots_left pages (live_count pages) next ≡ length (slot ∷ here.rest) =
          ap (slots_left pages (live_count pages)) at
          ∙ left_is here.front (slot ∷ here.rest) here.whole (live_count pages) (omega (arith, long, few)) in
          omega (arith, after_it, before_it)
