-- What a link that is set leaves of the neighbours of slots.
use Rattle.std.proofs.Common.{◌≡◌, ◌≢◌, ◌∙◌, ◌==◌, ◌&&◌, ◌||◌, ◌∷◌, [], ℕ, List, Bool, ap, arith, cond, eq-eqb}
use Rattle.std.proofs.Common.{false, inl, inr, IsSome, Option, refl, Some, subst, sym, true}
use Rattle.std.specs.Option.{option_and_then, option_map}
use Rattle.std.proofs.lemmas.Bool.{cases_eq, ne_eqb, or_parts, true≢false}
use Rattle.pl_base.specs.declared.id.Slot.{Slot}
use Rattle.pl_rail.specs.declared.owner.Owner.{Owner}
use Rattle.pl_rail.specs.declared.owner.Owner.TheVariants as owners
use Rattle.pl_rail.specs.declared.owner.Side.{Side}
use Rattle.pl_rail.specs.declared.owner.Side.TheVariants.{Before, Behind}
use Rattle.pl_rail.specs.Rails.{Joins, KeepsHeader, KeepsRest, SetsSide, end_at, end_in, end_link, neighbour, none, page_by}
use Rattle.pl_rail.specs.Rails.{side_link, with_end}
use Rattle.pl_sheets.specs.Sheets.{Pages, page_count}
use Rattle.pl_slot.specs.declared.kind.LiveKind.{LiveKind}
use Rattle.pl_slot.specs.declared.kind.LiveKind.TheVariants.{Item, Origin, Place, Visit}
use Rattle.pl_slot.specs.declared.links.Link.{Link}
use Rattle.pl_slot.specs.declared.links.Rail.{Rail}
use Rattle.pl_slot.specs.declared.links.Rail.TheVariants.{Children, Live, OriginPages, PageVisits, References, Targets}
use Rattle.pl_slot.specs.Arena.{ChangesOnly, KeepsRows, SetsHeader, header_of, header_page, is_among, slot_page}
use Rattle.pl_slot.specs.Header.{Header, ends_of, with_ends}
use Rattle.pl_slot.specs.Links.{SetsLink, is_link, is_rail, kind_at, link_at, link_in, other_fields, others_at}
use Rattle.pl_slot.specs.Slot.{slot_kind}
use Rattle.pl_slot.proofs.ArenaLaws.{then_only}

-- ---- rails and sides

pub rail_itself : (rail : Rail) → is_rail rail rail ≡ true
rail_itself Live = refl
rail_itself OriginPages = refl
rail_itself PageVisits = refl
rail_itself Targets = refl
rail_itself Children = refl
rail_itself References = refl

pub other_rail : (r rail : Rail) → r ≢ rail → is_rail r rail ≡ false
other_rail Live Live apart = absurd (apart refl)
other_rail OriginPages OriginPages apart = absurd (apart refl)
other_rail PageVisits PageVisits apart = absurd (apart refl)
other_rail Targets Targets apart = absurd (apart refl)
other_rail Children Children apart = absurd (apart refl)
other_rail References References apart = absurd (apart refl)
other_rail r rail apart = refl

abbrev is_behind : Side → Bool
is_behind Behind = true
is_behind Before = false

pub other_side : Before ≢ Behind
other_side same = true≢false (sym (ap is_behind same))

pub one_side : Behind ≢ Before
one_side same = true≢false (ap is_behind same)

side_link_itself : (side : Side) → is_link (side_link side) (side_link side) ≡ true
side_link_itself Behind = refl
side_link_itself Before = refl

end_link_itself : (side : Side) → is_link (end_link side) (end_link side) ≡ true
end_link_itself Behind = refl
end_link_itself Before = refl

no_end : (other side : Side) → is_link (end_link other) (side_link side) ≡ false
no_end Behind Behind = refl
no_end Behind Before = refl
no_end Before Behind = refl
no_end Before Before = refl

no_side : (other side : Side) → is_link (side_link other) (end_link side) ≡ false
no_side Behind Behind = refl
no_side Behind Before = refl
no_side Before Behind = refl
no_side Before Before = refl

opposite_side : (other side : Side) → other ≢ side → is_link (side_link other) (side_link side) ≡ false
opposite_side Behind Behind apart = absurd (apart refl)
opposite_side Behind Before apart = refl
opposite_side Before Behind apart = refl
opposite_side Before Before apart = absurd (apart refl)

opposite_end : (other side : Side) → other ≢ side → is_link (end_link other) (end_link side) ≡ false
opposite_end Behind Behind apart = absurd (apart refl)
opposite_end Behind Before apart = refl
opposite_end Before Behind apart = refl
opposite_end Before Before apart = absurd (apart refl)

abbrev pub numbered : ℕ → Slot
numbered n = record { 0 = n }

-- slots that differ have other numbers
pub other_number : (n slot : Slot) → n ≢ slot → n.0 ≢ slot.0
other_number n slot apart same = apart (ap numbered same)

-- ---- the links after one was set

link_here : (rail : Rail) (link : Link) (slot to : Slot) (old new : Pages) → SetsLink rail link slot to old new
    → is_link link link ≡ true → link_at rail link slot.0 new ≡ Some to
link_here rail link slot to old new set itself =
    set.links rail link slot.0
    ∙ ap (λ b. cond (b && is_rail rail rail && slot.0 == slot.0) (Some to) (link_at rail link slot.0 old)) itself
    ∙ ap (λ b. cond (b && slot.0 == slot.0) (Some to) (link_at rail link slot.0 old)) (rail_itself rail)
    ∙ ap (λ b. cond b (Some to) (link_at rail link slot.0 old)) (eq-eqb slot.0 slot.0 refl)

other_link : (rail : Rail) (link : Link) (slot to : Slot) (old new : Pages) → SetsLink rail link slot to old new
    → (r : Rail) (l : Link) (n : ℕ) → is_link l link ≡ false → link_at r l n new ≡ link_at r l n old
other_link rail link slot to old new set r l n other =
    set.links r l n
    ∙ ap (λ b. cond (b && is_rail r rail && n == slot.0) (Some to) (link_at r l n old)) other

of_other_rail : (rail : Rail) (link : Link) (slot to : Slot) (old new : Pages) → SetsLink rail link slot to old new
    → (r : Rail) (l : Link) (n : ℕ) → is_rail r rail ≡ false → link_at r l n new ≡ link_at r l n old
of_other_rail rail link slot to old new set r l n other =
    set.links r l n
    ∙ ap (λ b. cond (is_link l link && b && n == slot.0) (Some to) (link_at r l n old)) other
    ∙ never (is_link l link) (n == slot.0) (Some to) (link_at r l n old)
  where
    never : (a c : Bool) (x y : Option Slot) → cond (a && false && c) x y ≡ y
    never true c x y = refl
    never false c x y = refl

of_other_slot : (rail : Rail) (link : Link) (slot to : Slot) (old new : Pages) → SetsLink rail link slot to old new
    → (r : Rail) (l : Link) (n : ℕ) → n ≢ slot.0 → link_at r l n new ≡ link_at r l n old
of_other_slot rail link slot to old new set r l n apart =
    set.links r l n
    ∙ ap (λ b. cond (is_link l link && is_rail r rail && b) (Some to) (link_at r l n old)) (ne_eqb n slot.0 apart)
    ∙ never (is_link l link) (is_rail r rail) (Some to) (link_at r l n old)
  where
    never : (a b : Bool) (x y : Option Slot) → cond (a && b && false) x y ≡ y
    never true true x y = refl
    never true false x y = refl
    never false b x y = refl

-- ---- neighbours, from ends and links

pub at_end : (side : Side) (rail : Rail) (owner : Owner) (pages : Pages) (n : Slot) → n.0 ≡ 0
    → neighbour side rail owner pages n ≡ end_at side rail owner pages
at_end side rail owner pages n zero_is =
    ap (λ b. cond b (end_at side rail owner pages) (link_at rail (side_link side) n.0 pages)) (eq-eqb n.0 0 zero_is)

pub at_link : (side : Side) (rail : Rail) (owner : Owner) (pages : Pages) (n : Slot) → n.0 ≢ 0
    → neighbour side rail owner pages n ≡ link_at rail (side_link side) n.0 pages
at_link side rail owner pages n some =
    ap (λ b. cond b (end_at side rail owner pages) (link_at rail (side_link side) n.0 pages)) (ne_eqb n.0 0 some)

pub both_kept : (side : Side) (rail : Rail) (owner : Owner) (old new : Pages) (n : Slot)
    → end_at side rail owner new ≡ end_at side rail owner old
    → link_at rail (side_link side) n.0 new ≡ link_at rail (side_link side) n.0 old
    → neighbour side rail owner new n ≡ neighbour side rail owner old n
both_kept side rail owner old new n ends links = λ i. cond (n.0 == 0) (ends i) (links i)

link_kept : (side : Side) (rail : Rail) (owner : Owner) (old new : Pages) (n : Slot) → n.0 ≢ 0
    → link_at rail (side_link side) n.0 new ≡ link_at rail (side_link side) n.0 old
    → neighbour side rail owner new n ≡ neighbour side rail owner old n
link_kept side rail owner old new n some links =
    at_link side rail owner new n some ∙ links ∙ sym (at_link side rail owner old n some)

end_kept : (side : Side) (rail : Rail) (owner : Owner) (old new : Pages) (n : Slot) → n.0 ≡ 0
    → end_at side rail owner new ≡ end_at side rail owner old
    → neighbour side rail owner new n ≡ neighbour side rail owner old n
end_kept side rail owner old new n zero_is ends =
    at_end side rail owner new n zero_is ∙ ends ∙ sym (at_end side rail owner old n zero_is)

-- the ends of an owner, where the header and its links are as they were
ends_kept : (side : Side) (r : Rail) (o : Owner) (old new : Pages) → header_of new ≡ header_of old
    → ((x : Slot) → o ≡ owners.At x → link_at r (end_link side) x.0 new ≡ link_at r (end_link side) x.0 old)
    → end_at side r o new ≡ end_at side r o old
ends_kept side r (owners.At x) old new header links = links x refl
ends_kept side Live (owners.Header kind) old new header links = ap (λ h. Some (end_in side (ends_of kind h))) header
ends_kept side r (owners.Header kind) old new header links = refl

-- ---- the header's own ends

own_ends : (kind : LiveKind) (h : Header) → h ≡ with_ends kind (ends_of kind h) h
own_ends Origin h = refl
own_ends Place h = refl
own_ends Visit h = refl
own_ends Item h = refl

header_kept : (owner : Owner) (old new : Pages) → header_of new ≡ header_of old → KeepsHeader owner old new
header_kept (owners.Header kind) old new same =
    same ∙ own_ends kind (header_of old) ∙ ap (λ h. with_ends kind (ends_of kind h) (header_of old)) (sym same)
header_kept (owners.At slot) old new same = same

-- ---- a member's link is set

pub side_by_link : (side : Side) (rail : Rail) (owner : Owner) (slot to : Slot) (old new : Pages) → slot ≢ none
    → SetsLink rail (side_link side) slot to old new → SetsSide side rail owner slot to old new
side_by_link side rail owner slot to old new some set =
    let zero_not : slot.0 ≢ 0 = other_number slot none some in
    let ends : (other : Side) (o : Owner) → end_at other rail o new ≡ end_at other rail o old =
    λ other o. ends_kept other rail o old new set.header
    (λ x _. other_link rail (side_link side) slot to old new set rail (end_link other) x.0 (no_end other side)) in
    record {
      here =
          at_link side rail owner new slot zero_not
          ∙ link_here rail (side_link side) slot to old new set (side_link_itself side);
      there = λ n apart.
          both_kept side rail owner old new n (ends side owner)
          (of_other_slot rail (side_link side) slot to old new set rail (side_link side) n.0 (other_number n slot apart));
      opposite = λ other n apart.
          both_kept other rail owner old new n (ends other owner)
          (other_link rail (side_link side) slot to old new set rail (side_link other) n.0 (opposite_side other side apart));
      elsewhere = λ o other n apart only. elim (cases_eq n.0 0) [
        | inl zero_is ↦ end_kept other rail o old new n zero_is (ends other o)
        | inr some_n ↦
            link_kept other rail o old new n some_n
            (of_other_slot rail (side_link side) slot to old new set rail (side_link other) n.0
            (λ same. some_n (ap (λ (s : Slot). s.0) (only (ap numbered same)))))
      ];
      rest = link_rest rail (side_link side) owner slot to old new set;
      pages = subst (λ page. ChangesOnly (page ∷ []) old new) (sym (page_of_slot owner slot zero_not)) set.pages;
    }
  where
    page_of_slot : (owner : Owner) (slot : Slot) → slot.0 ≢ 0 → page_by owner slot ≡ slot_page slot.0
    page_of_slot (owners.Header kind) slot some =
        ap (λ b. cond b header_page (slot_page slot.0)) (ne_eqb slot.0 0 some)
    page_of_slot (owners.At x) slot some =
        ap (λ b. cond b (slot_page x.0) (slot_page slot.0)) (ne_eqb slot.0 0 some)

    link_rest : (rail : Rail) (link : Link) (owner : Owner) (slot to : Slot) (old new : Pages)
        → SetsLink rail link slot to old new → KeepsRest rail owner old new
    link_rest rail link owner slot to old new set =
        record {
          kinds = set.kinds;
          fields = set.fields;
          links = λ r l n other. of_other_rail rail link slot to old new set r l n other;
          ends = λ r side o other. ends_kept side r o old new set.header
              (λ x _. of_other_rail rail link slot to old new set r (end_link side) x.0 other);
          header = header_kept owner old new set.header;
          count = set.count;
          as_many = set.as_many;
        }

-- ---- an owner's link is set

pub end_by_link : (side : Side) (rail : Rail) (x to : Slot) (old new : Pages)
    → SetsLink rail (end_link side) x to old new → SetsSide side rail (owners.At x) none to old new
end_by_link side rail x to old new set =
    record {
      here = link_here rail (end_link side) x to old new set (end_link_itself side);
      there = λ n apart. link_kept side rail (owners.At x) old new n (other_number n none apart) (sides side n);
      opposite = λ other n apart.
          both_kept other rail (owners.At x) old new n
          (other_link rail (end_link side) x to old new set rail (end_link other) x.0 (opposite_end other side apart))
          (sides other n);
      elsewhere = λ o other n apart only.
          both_kept other rail o old new n
          (ends_kept other rail o old new set.header
          (λ y is. of_other_slot rail (end_link side) x to old new set rail (end_link other) y.0
          (λ same. apart (is ∙ ap (λ (k : ℕ). owners.At (numbered k)) same))))
          (sides other n);
      rest = record {
        kinds = set.kinds;
        fields = set.fields;
        links = λ r l n other. of_other_rail rail (end_link side) x to old new set r l n other;
        ends = λ r s o other. ends_kept s r o old new set.header
            (λ y _. of_other_rail rail (end_link side) x to old new set r (end_link s) y.0 other);
        header = set.header;
        count = set.count;
        as_many = set.as_many;
      };
      pages = set.pages;
    }
  where
    sides : (other : Side) (n : Slot)
        → link_at rail (side_link other) n.0 new ≡ link_at rail (side_link other) n.0 old
    sides other n = other_link rail (end_link side) x to old new set rail (side_link other) n.0 (no_side other side)

-- ---- the header is set

link_same : (r : Rail) (l : Link) (n : ℕ) (old new : Pages) → KeepsRows old new → link_at r l n new ≡ link_at r l n old
unfolding link_at
link_same r l n old new rows = ap (option_and_then (link_in r l)) (rows n)

kind_same : (n : ℕ) (old new : Pages) → KeepsRows old new → kind_at n new ≡ kind_at n old
unfolding kind_at
kind_same n old new rows = ap (option_map slot_kind) (rows n)

fields_same : (r : Rail) (n : ℕ) (old new : Pages) → KeepsRows old new → others_at r n new ≡ others_at r n old
unfolding others_at
fields_same r n old new rows = ap (option_map (other_fields r)) (rows n)

end_set : (side : Side) (kind : LiveKind) (to : Slot) (h : Header) → end_in side (ends_of kind (with_end side kind to h)) ≡ to
end_set Behind Origin to h = refl
end_set Behind Place to h = refl
end_set Behind Visit to h = refl
end_set Behind Item to h = refl
end_set Before Origin to h = refl
end_set Before Place to h = refl
end_set Before Visit to h = refl
end_set Before Item to h = refl

other_end : (other side : Side) (kind : LiveKind) (to : Slot) (h : Header) → other ≢ side
    → end_in other (ends_of kind (with_end side kind to h)) ≡ end_in other (ends_of kind h)
other_end Behind Behind kind to h apart = absurd (apart refl)
other_end Before Before kind to h apart = absurd (apart refl)
other_end Behind Before Origin to h apart = refl
other_end Behind Before Place to h apart = refl
other_end Behind Before Visit to h apart = refl
other_end Behind Before Item to h apart = refl
other_end Before Behind Origin to h apart = refl
other_end Before Behind Place to h apart = refl
other_end Before Behind Visit to h apart = refl
other_end Before Behind Item to h apart = refl

other_kind : (side : Side) (j kind : LiveKind) (to : Slot) (h : Header) → j ≢ kind
    → ends_of j (with_end side kind to h) ≡ ends_of j h
other_kind side Origin Origin to h apart = absurd (apart refl)
other_kind side Place Place to h apart = absurd (apart refl)
other_kind side Visit Visit to h apart = absurd (apart refl)
other_kind side Item Item to h apart = absurd (apart refl)
other_kind Behind j kind to h apart = refl
other_kind Before j kind to h apart = refl

whole_header : (side : Side) (kind : LiveKind) (to : Slot) (h : Header)
    → with_end side kind to h ≡ with_ends kind (ends_of kind (with_end side kind to h)) h
whole_header Behind Origin to h = refl
whole_header Behind Place to h = refl
whole_header Behind Visit to h = refl
whole_header Behind Item to h = refl
whole_header Before Origin to h = refl
whole_header Before Place to h = refl
whole_header Before Visit to h = refl
whole_header Before Item to h = refl

pub end_by_header : (side : Side) (rail : Rail) (kind : LiveKind) (to : Slot) (old new : Pages)
    → IsSome (end_at side rail (owners.Header kind) old)
    → SetsHeader (with_end side kind to) old new → page_count new ≡ page_count old
    → SetsSide side rail (owners.Header kind) none to old new
end_by_header side Live kind to old new some set as_many =
    record {
      here = ap (λ h. Some (end_in side (ends_of kind h))) set.header ∙ ap Some (end_set side kind to (header_of old));
      there = λ n apart.
          link_kept side Live (owners.Header kind) old new n (other_number n none apart)
          (link_same Live (side_link side) n.0 old new set.rows);
      opposite = λ other n apart.
          both_kept other Live (owners.Header kind) old new n
          (ap (λ h. Some (end_in other (ends_of kind h))) set.header
          ∙ ap Some (other_end other side kind to (header_of old) apart))
          (link_same Live (side_link other) n.0 old new set.rows);
      elsewhere = λ o other n apart only.
          both_kept other Live o old new n (ends_elsewhere other o apart)
          (link_same Live (side_link other) n.0 old new set.rows);
      rest = record {
        kinds = λ n. kind_same n old new set.rows;
        fields = λ n. fields_same Live n old new set.rows;
        links = λ r l n other. link_same r l n old new set.rows;
        ends = other_ends;
        header =
            set.header ∙ whole_header side kind to (header_of old)
            ∙ ap (λ h. with_ends kind (ends_of kind h) (header_of old)) (sym set.header);
        count = set.count;
        as_many = as_many;
      };
      pages = set.pages;
    }
  where
    ends_elsewhere : (other : Side) (o : Owner) → o ≢ owners.Header kind
        → end_at other Live o new ≡ end_at other Live o old
    ends_elsewhere other (owners.At x) apart = link_same Live (end_link other) x.0 old new set.rows
    ends_elsewhere other (owners.Header j) apart =
        ap (λ h. Some (end_in other (ends_of j h))) set.header
        ∙ ap (λ e. Some (end_in other e))
        (other_kind side j kind to (header_of old) (λ same. apart (ap (λ k. owners.Header k) same)))

    other_ends : (r : Rail) (s : Side) (o : Owner) → is_rail r Live ≡ false → end_at s r o new ≡ end_at s r o old
    other_ends r s (owners.At x) other = link_same r (end_link s) x.0 old new set.rows
    other_ends Live s (owners.Header j) other = absurd (true≢false other)
    other_ends r s (owners.Header j) other = refl
end_by_header side rail kind to old new some set as_many = absurd (true≢false (sym some))

-- ---- one change behind another

pub rest_then : (rail : Rail) (owner : Owner) (old middle new : Pages) → KeepsRest rail owner old middle
    → KeepsRest rail owner middle new → KeepsRest rail owner old new
rest_then rail owner old middle new first second =
    record {
      kinds = λ n. second.kinds n ∙ first.kinds n;
      fields = λ n. second.fields n ∙ first.fields n;
      links = λ r l n other. second.links r l n other ∙ first.links r l n other;
      ends = λ r side o other. second.ends r side o other ∙ first.ends r side o other;
      header = headers owner first.header second.header;
      count = second.count ∙ first.count;
      as_many = second.as_many ∙ first.as_many;
    }
  where
    twice : (kind : LiveKind) (new middle old : Header)
        → with_ends kind (ends_of kind new) (with_ends kind (ends_of kind middle) old)
        ≡ with_ends kind (ends_of kind new) old
    twice Origin new middle old = refl
    twice Place new middle old = refl
    twice Visit new middle old = refl
    twice Item new middle old = refl

    headers : (owner : Owner) → KeepsHeader owner old middle → KeepsHeader owner middle new → KeepsHeader owner old new
    headers (owners.At x) first second = second ∙ first
    headers (owners.Header kind) first second =
        second ∙ ap (λ h. with_ends kind (ends_of kind (header_of new)) h) first
        ∙ twice kind (header_of new) (header_of middle) (header_of old)

-- pages among more of them
pub only_then : (xs ys zs : List ℕ) (old middle new : Pages) → page_count middle ≡ page_count old
    → ((p : ℕ) → is_among p zs ≡ false → (is_among p xs ≡ false) × (is_among p ys ≡ false))
    → ChangesOnly xs old middle → ChangesOnly ys middle new → ChangesOnly zs old new
only_then xs ys zs old middle new as_many apart first second =
    then_only xs ys zs old middle new apart (omega (arith, as_many)) first second

pub two_pages : (p a b : ℕ) → is_among p (a ∷ b ∷ []) ≡ false
    → (is_among p (a ∷ []) ≡ false) × (is_among p (b ∷ []) ≡ false)
two_pages p a b apart =
    let parts = or_parts (p == a) ((p == b) || false) apart in
    (ap (λ c. c || false) parts.0, parts.1)

pub joined : (rail : Rail) (owner : Owner) (slot next : Slot) (old middle new : Pages)
    → SetsSide Behind rail owner slot next old middle → SetsSide Before rail owner next slot middle new
    → Joins rail owner slot next old new
joined rail owner slot next old middle new first second =
    record {
      forth = second.opposite Behind slot one_side ∙ first.here;
      back = second.here;
      behind = λ n apart. second.opposite Behind n one_side ∙ first.there n apart;
      before = λ n apart. second.there n apart ∙ first.opposite Before n other_side;
      elsewhere = λ o side n apart here there.
          second.elsewhere o side n apart there ∙ first.elsewhere o side n apart here;
      rest = rest_then rail owner old middle new first.rest second.rest;
      pages =
          only_then (page_by owner slot ∷ []) (page_by owner next ∷ [])
          (page_by owner slot ∷ page_by owner next ∷ []) old middle new first.rest.as_many
          (λ p apart. two_pages p (page_by owner slot) (page_by owner next) apart) first.pages second.pages;
    }
