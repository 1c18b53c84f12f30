-- What the lists of the visits that came from each tell.
use Rattle.std.proofs.Common.{◌≡◌, ◌≤◌, IsSome, List, Some, refl, subst, true}
use Rattle.std.proofs.lemmas.List.Elements.{All-from_recursion, All-map, recursion_from_All}
use Rattle.std.specs.List.{All, AllZip, zip}
use Rattle.pl_base.specs.declared.id.Slot.{Slot}
use Rattle.pl_base.proofs.ListLaws.{all_second, weaker}
use Rattle.pl_load.specs.Members.{VisitIn, source_member, source_members}
use Rattle.pl_load.proofs.ListParts.{all_pass}
use Rattle.pl_load.proofs.RowLinks.{each_linked}
use Rattle.pl_load.proofs.Zips.{seconds}
use Rattle.pl_owned.specs.declared.owned.Member.{Member}
use Rattle.pl_owned.specs.Owned.{IsListed}
use Rattle.pl_rail.specs.declared.owner.Owner.TheVariants.{At}
use Rattle.pl_rail.specs.declared.owner.Side.TheVariants.{Behind}
use Rattle.pl_rail.specs.Rails.{end_at, is_member}
use Rattle.pl_rail.proofs.ListLaws.{one_list}
use Rattle.pl_record.specs.declared.rows.Visit.{Visit}
use Rattle.pl_record.proofs.VisitPlace.{visit_by_kind}
use Rattle.pl_load.proofs.OneReads.{one_right}
use Rattle.pl_sheets.specs.Sheets.{Pages}
use Rattle.pl_slot.specs.declared.kind.SlotKind.TheVariants as kinds
use Rattle.pl_slot.specs.declared.links.Link.TheVariants.{First}
use Rattle.pl_slot.specs.declared.links.Rail.TheVariants.{Targets}
use Rattle.pl_slot.specs.Arena.{slot_count}
use Rattle.pl_slot.specs.Links.{kind_at}

module _ (pages : Pages) (slots : List Slot) (visits : List Visit) where
  abbrev Of : Slot → Type 0
  Of s = kind_at s.0 pages ≡ Some kinds.Visit

  pub owners_there : All Of slots → All (λ (o : Slot). IsSome (end_at Behind Targets (At o) pages)) slots
  owners_there kinds_are =
      each_linked pages Targets First kinds.Visit 40 refl slots (recursion_from_All Of slots kinds_are)

  pub sources_below : All (λ (v : Visit). v.source.0 ≤ slot_count pages) visits
      → All (λ (m : Member). m.owner.0 ≤ slot_count pages) (source_members slots visits)
  sources_below below =
      All-map (λ (m : Member). m.owner.0 ≤ slot_count pages) source_member (zip slots visits)
      (All-from_recursion (λ (v : VisitIn). v.1.source.0 ≤ slot_count pages) (zip slots visits)
      (all_second (λ (v : Visit). v.source.0 ≤ slot_count pages) slots visits
      (recursion_from_All (λ (v : Visit). v.source.0 ≤ slot_count pages) visits below)))

  pub lists_are : (lists : List (List Slot))
      → AllZip (IsListed Targets (source_members slots visits) pages) slots lists
      → All (λ (l : List Slot). All Of l) lists
  lists_are lists all =
      All-from_recursion (λ (l : List Slot). All Of l) lists
      (seconds (IsListed Targets (source_members slots visits) pages) (λ (l : List Slot). All Of l) slots lists
      (λ o l is.
      All-from_recursion Of l
      (weaker (λ (s : Slot). is_member Targets (At o) pages s ≡ true) Of l
      (λ s member. visit_by_kind (kind_at s.0 pages) member)
      (all_pass (is_member Targets (At o) pages) l is.lists.members)))
      all)

  pub lists_found : (members : List Member) (lists : List (List Slot)) → members ≡ source_members slots visits
      → AllZip (IsListed Targets members pages) slots lists
      → AllZip (IsListed Targets (source_members slots visits) pages) slots lists
  lists_found members lists are all =
      subst (λ (ms : List Member). AllZip (IsListed Targets ms pages) slots lists) are all

  pub one_lists : (ls ks : List (List Slot))
      → AllZip (IsListed Targets (source_members slots visits) pages) slots ls
      → AllZip (IsListed Targets (source_members slots visits) pages) slots ks → ls ≡ ks
  one_lists ls ks first second =
      one_right (IsListed Targets (source_members slots visits) pages)
      (IsListed Targets (source_members slots visits) pages)
      (λ o l k a b. one_list Targets (At o) l k pages a.lists b.lists) slots slots ls ks refl first second
