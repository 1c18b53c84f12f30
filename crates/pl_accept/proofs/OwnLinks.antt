-- What the lists of origins and of pages tell: the owners of their members are below a number where
-- rows name such, and an origin whose list has a page names a first one.
use Rattle.std.proofs.Common.{◌≡◌, ◌≢◌, ◌≤◌, ◌∙◌, ◌==◌, ◌∷◌, [], List, Some, ap, map, not, refl, sym, true, ℕ}
use Rattle.std.proofs.lemmas.Bool.{and_parts, ne_eqb, true≢false}
use Rattle.std.proofs.lemmas.List.Elements.{All-from_recursion, All-map, recursion_from_All}
use Rattle.std.specs.List.{All, list_all, zip}
use Rattle.pl_accept.specs.OwnLists.{HasPageLists, names_first}
use Rattle.pl_base.specs.declared.id.Slot.{Slot}
use Rattle.pl_base.specs.Sorting.{sorted_by}
use Rattle.pl_base.proofs.ListLaws.{all_second}
use Rattle.pl_base.proofs.LookUps.{both}
use Rattle.pl_base.proofs.SortLaws.{all_sorted}
use Rattle.pl_load.specs.Members.{VisitIn, is_newer, origin_members, page_members}
use Rattle.pl_load.proofs.ListParts.{all_pass, pass_all}
use Rattle.pl_owned.specs.declared.owned.Member.{Member}
use Rattle.pl_owned.specs.Owned.{owned_by}
use Rattle.pl_rail.specs.declared.owner.Owner.TheVariants.{At}
use Rattle.pl_rail.specs.Rails.{Lists, first_of, is_member, none, or_none}
use Rattle.pl_rail.proofs.ListLaws.{before_in, behind_in, first_behind, member_some}
use Rattle.pl_rail.proofs.SideLaws.{other_number}
use Rattle.pl_record.specs.declared.rows.Place.{Place}
use Rattle.pl_record.specs.declared.rows.Visit.{Visit}
use Rattle.pl_sheets.specs.Sheets.{Pages}
use Rattle.pl_slot.specs.declared.links.Link.TheVariants.{First}
use Rattle.pl_slot.specs.declared.links.Rail.TheVariants.{OriginPages}
use Rattle.pl_slot.specs.Links.{link_at}

-- ---- owners that rows name

module _ (count : ℕ) where
  -- members that are made of rows
  pub owners_below : {Row : Type 0} (owner : Row → Slot) (slots : List Slot) (rows : List Row)
      → All (λ (r : Row). (owner r).0 ≤ count) rows
      → All (λ (m : Member). m.owner.0 ≤ count)
      (map (λ (r : Slot × Row). record { owner = owner r.1; slot = r.0 }) (zip slots rows))
  owners_below {Row} owner slots rows below =
      All-map (λ (m : Member). m.owner.0 ≤ count) (λ (r : Slot × Row). record { owner = owner r.1; slot = r.0 })
      (zip slots rows)
      (All-from_recursion (λ (r : Slot × Row). (owner r.1).0 ≤ count) (zip slots rows)
      (all_second (λ (r : Row). (owner r).0 ≤ count) slots rows
      (recursion_from_All (λ (r : Row). (owner r).0 ≤ count) rows below)))

  -- those of visits, the latest first
  pub pages_below : (slots : List Slot) (visits : List Visit) → All (λ (v : Visit). v.page.0 ≤ count) visits
      → All (λ (m : Member). m.owner.0 ≤ count) (page_members slots visits)
  pages_below slots visits below =
      All-map (λ (m : Member). m.owner.0 ≤ count) (λ (r : VisitIn). record { owner = r.1.page; slot = r.0 })
      (sorted_by is_newer (zip slots visits))
      (All-from_recursion (λ (r : VisitIn). r.1.page.0 ≤ count) (sorted_by is_newer (zip slots visits))
      (all_sorted is_newer (λ (r : VisitIn). r.1.page.0 ≤ count) (zip slots visits)
      (all_second (λ (v : Visit). v.page.0 ≤ count) slots visits
      (recursion_from_All (λ (v : Visit). v.page.0 ≤ count) visits below))))

-- ---- first pages

module _ (pages : Pages) where
  -- the link that is read tells it
  named_told : (o first : Slot) → link_at OriginPages First o.0 pages ≡ Some first
      → names_first pages o ≡ not (first.0 == 0)
  named_told o first is = ap (λ l. not ((or_none l).0 == 0)) is

  -- an origin names the first page of its list, if that has one
  list_named : (o : Slot) (slots : List Slot) → Lists OriginPages (At o) slots pages
      → names_first pages o ≡ not ((or_none (first_of slots)).0 == 0)
  list_named o slots lists =
      named_told o (or_none (first_of slots))
      (first_behind (behind_in OriginPages (At o) pages) (before_in OriginPages (At o) pages) none slots lists.linked)

  some_named : (o : Slot) (slots : List Slot) → Lists OriginPages (At o) slots pages → names_first pages o ≡ true
      → slots ≢ []
  some_named o slots lists named is =
      true≢false (sym named ∙ list_named o slots lists ∙ ap (λ l. not ((or_none (first_of l)).0 == 0)) is)

  named_some : (o : Slot) (slots : List Slot) → Lists OriginPages (At o) slots pages → slots ≢ []
      → names_first pages o ≡ true
  named_some o [] lists some = absurd (some refl)
  named_some o (x ∷ xs) lists some =
      let first =
      (and_parts (is_member OriginPages (At o) pages x) (list_all (is_member OriginPages (At o) pages) xs)
      lists.members).0 in
      list_named o (x ∷ xs) lists
      ∙ ap not (ne_eqb x.0 0 (other_number x none (member_some OriginPages (At o) pages x first)))

  module _ (slots : List Slot) (places : List Place) where
    abbrev list_of : Slot → List Slot
    list_of o = owned_by (origin_members slots places) o

    abbrev Listed : Slot → Type 0
    Listed o = Lists OriginPages (At o) (list_of o) pages

    abbrev HasSome : Slot → Type 0
    HasSome o = list_of o ≢ []

    -- where each names a first page, each list has one
    pub all_some : (origins : List Slot) → All Listed origins → list_all (names_first pages) origins ≡ true
        → All HasSome origins
    all_some origins lists named =
        All-from_recursion HasSome origins
        (both Listed (λ o. names_first pages o ≡ true) HasSome origins
        (λ o list is. some_named o (list_of o) list is) (recursion_from_All Listed origins lists)
        (all_pass (names_first pages) origins named))

    -- where each list has a page, each names a first one
    pub all_named : (origins : List Slot) → HasPageLists pages origins slots places
        → list_all (names_first pages) origins ≡ true
    all_named origins has =
        pass_all (names_first pages) origins
        (both Listed HasSome (λ o. names_first pages o ≡ true) origins
        (λ o list some. named_some o (list_of o) list some) (recursion_from_All Listed origins has.lists)
        (recursion_from_All HasSome origins has.some_page))
