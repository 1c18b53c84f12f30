-- The slots of the visits that came from each visit, redirects first: they are lists of the slots
-- that name each visit as their source.
use Rattle.std.proofs.Common.{◌≡◌, ◌∙◌, ◌++◌, ◌&&◌, Bool, List, All, ap, false, filter, map, not, refl, subst, sym}
use Rattle.std.proofs.Common.{true}
use Rattle.std.specs.List.{AllByRecursion, AllZip}
use Rattle.std.specs.List.Sorted.{IsPermutation}
use Rattle.std.specs.Option.{IfSome}
use Rattle.std.proofs.lemmas.Bool.{and_parts, not-true}
use Rattle.std.proofs.lemmas.List.{map-append}
use Rattle.std.proofs.lemmas.List.Elements.{All-from_recursion, filter_passes, recursion_from_All}
use Rattle.std.proofs.lemmas.List.Sorted.{IsPermutation-append, IsPermutation-filter_both, IsPermutation-map}
use Rattle.std.proofs.lemmas.List.Sorted.{IsPermutation-sym, IsPermutation-trans}
use Rattle.pl_base.specs.declared.id.Slot.{Slot}
use Rattle.pl_base.specs.declared.id.VisitId.{VisitId}
use Rattle.pl_base.specs.Redirects.{is_redirect, is_source, others_from, redirects_from}
use Rattle.pl_base.specs.Rows.{AreTargets, Kept, has_visit, store_of}
use Rattle.pl_base.specs.Store.{Visit}
use Rattle.pl_base.proofs.ListLaws.{all-filter, to_map, weaker}
use Rattle.pl_base.proofs.LookUps.{any_none, both}
use Rattle.pl_base.proofs.SortLaws.{all_moved}
use Rattle.pl_load.specs.Members.{source_members}
use Rattle.pl_load.specs.Reads.{visit_at}
use Rattle.pl_load.proofs.ListParts.{kept_of_kept, pass_all, zip_made}
use Rattle.pl_load.proofs.SourceSlots.{all_there, came_from, redirects_told, sources_owned}
use Rattle.pl_owned.specs.Owned.{IsListed}
use Rattle.pl_owned.specs.Redirects.{HasRedirectsFirst, holds_redirect}
use Rattle.pl_record.specs.declared.rows.Visit.{Visit as VisitRow}
use Rattle.pl_record.specs.Chains.{visit_slots}
use Rattle.pl_record.specs.Records.{HoldsRow, Layout, visit_record}
use Rattle.pl_rail.specs.declared.owner.Owner.TheVariants.{At}
use Rattle.pl_rail.specs.Rails.{Lists}
use Rattle.pl_sheets.specs.Sheets.{Pages}
use Rattle.pl_slot.specs.declared.links.Rail.TheVariants.{Targets}

-- the lists of the slots of what came from each
abbrev pub target_lists : Layout → Kept → (VisitId → List Visit) → List (List Slot)
target_lists at kept targets = map (λ (v : Visit). visit_slots at (targets v.id)) kept.visits

module _ (pages : Pages) (at : Layout) (kept : Kept)
    (held : All (λ (v : Visit). HoldsRow (visit_record at v) pages) kept.visits) (targets : VisitId → List Visit)
    (targeted : (source : VisitId) → AreTargets (store_of kept) source (targets source)) where
  abbrev is_made : Visit → Bool
  is_made v = is_redirect v.transition

  abbrev put : Visit → Slot
  put v = at.visit v.id

  -- ---- in another order they are those that came from each

  visits_moved : (id : VisitId) → IsPermutation (targets id) (came_from kept id)
  visits_moved id =
      let t : AreTargets (store_of kept) id (targets id) = targeted id in
      let parted : IsPermutation (came_from kept id)
      (filter is_made (came_from kept id) ++ filter (λ v. not (is_made v)) (came_from kept id)) =
      IsPermutation-filter_both is_made (λ v. not (is_made v)) (λ v. refl) (came_from kept id) in
      let parts : filter is_made (came_from kept id) ++ filter (λ v. not (is_made v)) (came_from kept id)
      ≡ redirects_from (store_of kept) id ++ others_from (store_of kept) id =
      λ i.
      kept_of_kept is_made (λ (v : Visit). is_source id v.source) kept.visits i
      ++ kept_of_kept (λ v. not (is_made v)) (λ (v : Visit). is_source id v.source) kept.visits i in
      let whole : IsPermutation (came_from kept id)
      (redirects_from (store_of kept) id ++ others_from (store_of kept) id) =
      subst (IsPermutation (came_from kept id)) parts parted in
      subst (λ (vs : List Visit). IsPermutation vs (came_from kept id)) (sym t.is)
      (IsPermutation-trans (t.redirects ++ t.others)
      (redirects_from (store_of kept) id ++ others_from (store_of kept) id) (came_from kept id)
      (IsPermutation-append t.redirects (redirects_from (store_of kept) id) t.others (others_from (store_of kept) id)
      t.all_redirects t.all_others)
      (IsPermutation-sym (came_from kept id) (redirects_from (store_of kept) id ++ others_from (store_of kept) id)
      whole))

  -- ---- redirects stand in front

  -- where a test of visits tells whether a redirect made them, the slots of those that it keeps
  -- tell so too
  told_moved : (test : Visit → Bool) (is : Bool) (vs : List Visit) → IsPermutation vs (filter test kept.visits)
      → ((v : Visit) → test v ≡ true → is_made v ≡ is)
      → AllByRecursion (λ v. holds_redirect pages (put v) ≡ is) vs
  told_moved test is vs moves made =
      all_moved (λ v. holds_redirect pages (put v) ≡ is) (filter test kept.visits) vs
      (IsPermutation-sym vs (filter test kept.visits) moves)
      (both (λ v. holds_redirect pages (put v) ≡ is_made v) (λ v. test v ≡ true)
      (λ v. holds_redirect pages (put v) ≡ is) (filter test kept.visits)
      (λ v told passes. told ∙ made v passes)
      (all-filter (λ v. holds_redirect pages (put v) ≡ is_made v) test kept.visits (redirects_told pages at kept held))
      (recursion_from_All (λ v. test v ≡ true) (filter test kept.visits) (filter_passes test kept.visits)))

  redirects_first : (id : VisitId) → HasRedirectsFirst (visit_slots at (targets id)) pages
  redirects_first id =
      let t : AreTargets (store_of kept) id (targets id) = targeted id in
      record {
        front = map put t.redirects;
        back = map put t.others;
        whole = ap (map put) t.is ∙ map-append put t.redirects t.others;
        redirects =
            pass_all (holds_redirect pages) (map put t.redirects)
            (to_map (λ slot. holds_redirect pages slot ≡ true) put t.redirects
            (told_moved (λ v. is_made v && is_source id v.source) true t.redirects t.all_redirects
            (λ v passes. (and_parts (is_made v) (is_source id v.source) passes).0)));
        others =
            any_none (holds_redirect pages) (map put t.others)
            (to_map (λ slot. holds_redirect pages slot ≡ false) put t.others
            (told_moved (λ v. not (is_made v) && is_source id v.source) false t.others t.all_others
            (λ v passes.
            not-true (is_made v) (and_parts (not (is_made v)) (is_source id v.source) passes).0)));
      }

  pub all_redirects_first : All (λ l. HasRedirectsFirst l pages) (target_lists at kept targets)
  all_redirects_first =
      All-from_recursion (λ l. HasRedirectsFirst l pages) (target_lists at kept targets)
      (to_map (λ l. HasRedirectsFirst l pages) (λ (v : Visit). visit_slots at (targets v.id)) kept.visits
      (weaker (λ (v : Visit). has_visit kept v.id ≡ true)
      (λ (v : Visit). HasRedirectsFirst (visit_slots at (targets v.id)) pages) kept.visits
      (λ v there. redirects_first v.id) (all_there kept)))

  -- ---- they are listed

  module _ (slots : List Slot) (rows : List VisitRow) (slots_are : slots ≡ visit_slots at kept.visits)
      (rows_are : rows ≡ map (visit_at at) kept.visits)
      (sources : AllByRecursion (λ (v : Visit). IfSome v.source (λ s. has_visit kept s ≡ true)) kept.visits)
      (linked : All (λ (v : Visit). Lists Targets (At (at.visit v.id)) (visit_slots at (targets v.id)) pages)
      kept.visits) where
    each_listed : (v : Visit) → has_visit kept v.id ≡ true
        → Lists Targets (At (at.visit v.id)) (visit_slots at (targets v.id)) pages
        → IsListed Targets (source_members slots rows) pages (at.visit v.id) (visit_slots at (targets v.id))
    each_listed v there lists =
        record {
          lists = lists;
          same =
              subst (IsPermutation (visit_slots at (targets v.id)))
              (sym (sources_owned pages at kept held slots rows slots_are rows_are sources v.id there))
              (IsPermutation-map put (targets v.id) (came_from kept v.id) (visits_moved v.id));
        }

    pub all_listed : AllZip (IsListed Targets (source_members slots rows) pages) slots (target_lists at kept targets)
    all_listed =
        subst (λ (ss : List Slot).
        AllZip (IsListed Targets (source_members slots rows) pages) ss (target_lists at kept targets)) (sym slots_are)
        (zip_made (IsListed Targets (source_members slots rows) pages) put
        (λ (v : Visit). visit_slots at (targets v.id)) kept.visits
        (both (λ (v : Visit). has_visit kept v.id ≡ true)
        (λ (v : Visit). Lists Targets (At (at.visit v.id)) (visit_slots at (targets v.id)) pages)
        (λ (v : Visit). IsListed Targets (source_members slots rows) pages (at.visit v.id)
        (visit_slots at (targets v.id))) kept.visits
        (λ v there lists. each_listed v there lists) (all_there kept)
        (recursion_from_All (λ (v : Visit). Lists Targets (At (at.visit v.id)) (visit_slots at (targets v.id)) pages)
        kept.visits linked)))
