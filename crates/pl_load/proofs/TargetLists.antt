-- Lists of the slots that name each visit as their source, redirects first: the visits in them are
-- those that came from each, in the order of the lists.
use Rattle.std.proofs.Common.{◌≡◌, ◌∙◌, ◌∷◌, ◌++◌, ◌==◌, ◌||◌, [], Bool, List, Option, Some, None, All, ap, false}
use Rattle.std.proofs.Common.{◌&&◌, filter, find, if◌then◌else◌, map, not, refl, subst, sym, true}
use Rattle.std.specs.List.{AllByRecursion, AllZip, list_any}
use Rattle.std.specs.List.Sorted.{IsPermutation}
use Rattle.std.specs.Option.{IfSome}
use Rattle.std.proofs.lemmas.Bool.{and_parts, eqb-true, false≢true}
use Rattle.std.proofs.lemmas.List.{map-append}
use Rattle.std.proofs.lemmas.List.Elements.{All-from_recursion, recursion_from_All}
use Rattle.std.proofs.lemmas.List.Sorted.{IsPermutation-map, IsPermutation-refl, IsPermutation-sym}
use Rattle.pl_base.specs.declared.id.Slot.{Slot}
use Rattle.pl_base.specs.declared.id.VisitId.{VisitId}
use Rattle.pl_base.specs.Redirects.{is_redirect, is_source}
use Rattle.pl_base.specs.Rows.{AreTargets, Kept, has_visit, store_of}
use Rattle.pl_base.specs.Store.{Visit}
use Rattle.pl_base.proofs.ListLaws.{all-filter, to_map, weaker}
use Rattle.pl_base.proofs.LookUps.{both, found_self, front, none_kept, none_pass, rest_of}
use Rattle.pl_base.proofs.SortLaws.{all_moved}
use Rattle.pl_base.proofs.TargetsRun.{source_is}
use Rattle.pl_base.proofs.Truths.{no_test}
use Rattle.pl_base.proofs.VisitsLaws.{Differ}
use Rattle.pl_load.specs.Members.{source_members}
use Rattle.pl_load.specs.Reads.{visit_at}
use Rattle.pl_load.proofs.ListParts.{all_pass, back_kept, front_kept, kept_of_kept, made_back, zip_from_made}
use Rattle.pl_load.proofs.ListParts.{zip_joined}
use Rattle.pl_load.proofs.SourceSlots.{all_there, came_from, redirects_told, slots_apart, sources_owned}
use Rattle.pl_owned.specs.Owned.{IsListed}
use Rattle.pl_owned.specs.Redirects.{HasRedirectsFirst, holds_redirect}
use Rattle.pl_record.specs.declared.rows.Visit.{Visit as VisitRow}
use Rattle.pl_record.specs.Chains.{visit_slots}
use Rattle.pl_record.specs.Records.{HoldsRow, Layout, visit_record}
use Rattle.pl_record.proofs.PartMoves.{part_moves}
use Rattle.pl_rail.specs.declared.owner.Owner.TheVariants.{At}
use Rattle.pl_rail.specs.Rails.{Lists}
use Rattle.pl_sheets.specs.Sheets.{Pages}
use Rattle.pl_slot.specs.declared.links.Rail.TheVariants.{Targets}

-- ---- the visits in lists of slots

abbrev or_other : Visit → Option Visit → Visit
or_other other None = other
or_other other (Some v) = v

-- the visit in a slot, or another where none is there
abbrev pub in_slot : Layout → List Visit → Visit → Slot → Visit
in_slot at visits other slot = or_other other (find (λ (v : Visit). (at.visit v.id).0 == slot.0) visits)

-- what is made of the first visit with this id and the list beside it
abbrev pub beside : (Visit → List Slot → List Visit) → List Visit → List (List Slot) → VisitId → List Visit
beside f [] ls id = []
beside f (v ∷ vs) [] id = []
beside f (v ∷ vs) (l ∷ ls) id = if v.id.0 == id.0 then f v l else beside f vs ls id

-- the visits in the slots of the list beside the visit with this id
abbrev pub targets_in : Layout → Kept → List (List Slot) → VisitId → List Visit
targets_in at kept lists = beside (λ v l. map (in_slot at kept.visits v) l) kept.visits lists

same_visit : (a b : VisitId) → (a.0 == b.0) ≡ true → a ≡ b
same_visit a b same = ap (λ n. record { 0 = n }) (eqb-true a.0 b.0 same)

module _ (f : Visit → List Slot → List Visit) where
  -- what holds beside each visit holds of each id that one has
  beside_holds : (P : VisitId → List Visit → Type 0) (vs : List Visit) (ls : List (List Slot)) (id : VisitId)
      → AllZip (λ v l. P v.id (f v l)) vs ls → list_any (λ (v : Visit). v.id.0 == id.0) vs ≡ true
      → P id (beside f vs ls id)
  beside_holds P [] ls id all there = absurd (false≢true there)
  beside_holds P (v ∷ vs) [] id all there = absurd all
  beside_holds P (v ∷ vs) (l ∷ ls) id all there =
      choose (v.id.0 == id.0) refl there (beside_holds P vs ls id all.1)
    where
      choose : (b : Bool) → (v.id.0 == id.0) ≡ b → (b || list_any (λ (w : Visit). w.id.0 == id.0) vs) ≡ true
          → (list_any (λ (w : Visit). w.id.0 == id.0) vs ≡ true → P id (beside f vs ls id))
          → P id (if b then f v l else beside f vs ls id)
      choose true is here rest = subst (λ i. P i (f v l)) (same_visit v.id id is) all.0
      choose false is here rest = rest here

  beside_none : (vs : List Visit) (ls : List (List Slot)) (id : VisitId)
      → AllByRecursion (λ (v : Visit). (v.id.0 == id.0) ≡ false) vs → beside f vs ls id ≡ []
  beside_none [] ls id none = refl
  beside_none (v ∷ vs) [] id none = refl
  beside_none (v ∷ vs) (l ∷ ls) id none =
      ap (λ b. if b then f v l else beside f vs ls id) none.0 ∙ beside_none vs ls id none.1

module _ (pages : Pages) (at : Layout) (kept : Kept)
    (held : All (λ (v : Visit). HoldsRow (visit_record at v) pages) kept.visits) (differ : Differ kept.visits)
    (sources : AllByRecursion (λ (v : Visit). IfSome v.source (λ s. has_visit kept s ≡ true)) kept.visits)
    (slots : List Slot) (rows : List VisitRow) (slots_are : slots ≡ visit_slots at kept.visits)
    (rows_are : rows ≡ map (visit_at at) kept.visits) (lists : List (List Slot))
    (listed : AllZip (IsListed Targets (source_members slots rows) pages) slots lists)
    (first : All (λ l. HasRedirectsFirst l pages) lists) where
  abbrev is_made : Visit → Bool
  is_made v = is_redirect v.transition

  -- ---- a list beside a visit

  module _ (v : Visit) (l : List Slot) (there : has_visit kept v.id ≡ true)
      (is : IsListed Targets (source_members slots rows) pages (at.visit v.id) l)
      (parts : HasRedirectsFirst l pages) where
    abbrev named : Slot → Visit
    named = in_slot at kept.visits v

    abbrev put : Visit → Slot
    put w = at.visit w.id

    -- each visit is found again by its slot
    found_again : AllByRecursion (λ w. named (put w) ≡ w) kept.visits
    found_again =
        weaker (λ w. find (λ (u : Visit). (put u).0 == (put w).0) kept.visits ≡ Some w) (λ w. named (put w) ≡ w)
        kept.visits (λ w found. ap (or_other v) found)
        (found_self (λ (w : Visit). (put w).0) kept.visits (slots_apart pages at kept held differ))

    -- a slot is that of the visit in it, and holds a redirect where that is one
    abbrev IsNamed : Slot → Type 0
    IsNamed slot = (put (named slot) ≡ slot) × (holds_redirect pages slot ≡ is_made (named slot))

    all_named : AllByRecursion (λ w. IsNamed (put w)) kept.visits
    all_named =
        both (λ w. named (put w) ≡ w) (λ w. holds_redirect pages (put w) ≡ is_made w) (λ w. IsNamed (put w)) kept.visits
        (λ w found told. (ap put found, told ∙ ap is_made (sym found))) found_again
        (redirects_told pages at kept held)

    moved : IsPermutation l (map put (came_from kept v.id))
    moved =
        subst (IsPermutation l) (sources_owned pages at kept held slots rows slots_are rows_are sources v.id there)
        is.same

    each_named : AllByRecursion IsNamed l
    each_named =
        all_moved IsNamed (map put (came_from kept v.id)) l (IsPermutation-sym l (map put (came_from kept v.id)) moved)
        (to_map IsNamed put (came_from kept v.id)
        (all-filter (λ w. IsNamed (put w)) (λ (w : Visit). is_source v.id w.source) kept.visits all_named))

    -- the visits in the list
    abbrev ts : List Visit
    ts = map named l

    slots_back : visit_slots at ts ≡ l
    slots_back =
        made_back named put l (weaker IsNamed (λ slot. put (named slot) ≡ slot) l (λ slot known. known.0) each_named)

    visits_moved : IsPermutation ts (came_from kept v.id)
    visits_moved =
        subst (IsPermutation ts)
        (made_back put named (came_from kept v.id)
        (all-filter (λ w. named (put w) ≡ w) (λ (w : Visit). is_source v.id w.source) kept.visits found_again))
        (IsPermutation-map named l (map put (came_from kept v.id)) moved)

    -- ---- its front and its back

    in_parts : AllByRecursion IsNamed (parts.front ++ parts.back)
    in_parts = subst (AllByRecursion IsNamed) parts.whole each_named

    ts_are : ts ≡ map named parts.front ++ map named parts.back
    ts_are = ap (map named) parts.whole ∙ map-append named parts.front parts.back

    made : AllByRecursion (λ w. is_made w ≡ true) (map named parts.front)
    made =
        to_map (λ w. is_made w ≡ true) named parts.front
        (both IsNamed (λ slot. holds_redirect pages slot ≡ true) (λ slot. is_made (named slot) ≡ true) parts.front
        (λ slot known holds. sym known.1 ∙ holds) (front IsNamed parts.front parts.back in_parts)
        (all_pass (holds_redirect pages) parts.front parts.redirects))

    rest : AllByRecursion (λ w. is_made w ≡ false) (map named parts.back)
    rest =
        to_map (λ w. is_made w ≡ false) named parts.back
        (both IsNamed (λ slot. holds_redirect pages slot ≡ false) (λ slot. is_made (named slot) ≡ false) parts.back
        (λ slot known holds. sym known.1 ∙ holds) (rest_of IsNamed parts.front parts.back in_parts)
        (none_pass (holds_redirect pages) parts.back parts.others))

    -- of those that came from the visit, in any order, the ones that pass a test
    part_moved : (test : Visit → Bool) (part : List Visit)
        → filter test (map named parts.front ++ map named parts.back) ≡ part
        → IsPermutation part (filter (λ (w : Visit). test w && is_source v.id w.source) kept.visits)
    part_moved test part part_is =
        subst (IsPermutation part) (kept_of_kept test (λ (w : Visit). is_source v.id w.source) kept.visits)
        (subst (λ (ws : List Visit). IsPermutation ws (filter test (came_from kept v.id)))
        (ap (filter test) ts_are ∙ part_is) (part_moves test ts (came_from kept v.id) visits_moved))

    are_targets : AreTargets (store_of kept) v.id ts
    are_targets =
        record {
          redirects = map named parts.front;
          others = map named parts.back;
          is = ts_are;
          all_redirects =
              part_moved is_made (map named parts.front)
              (front_kept is_made (map named parts.front) (map named parts.back) made rest);
          all_others =
              part_moved (λ w. not (is_made w)) (map named parts.back)
              (back_kept is_made (map named parts.front) (map named parts.back) made rest);
        }

    linked : Lists Targets (At (at.visit v.id)) (visit_slots at ts) pages
    linked = subst (λ (ss : List Slot). Lists Targets (At (at.visit v.id)) ss pages) (sym slots_back) is.lists

  -- ---- all lists

  abbrev IsTargeted : VisitId → List Visit → Type 0
  IsTargeted id ts = AreTargets (store_of kept) id ts × Lists Targets (At (at.visit id)) (visit_slots at ts) pages

  all_targeted : AllZip (λ (v : Visit) l. IsTargeted v.id (map (in_slot at kept.visits v) l)) kept.visits lists
  all_targeted =
      zip_joined (λ (v : Visit). has_visit kept v.id ≡ true) (λ l. HasRedirectsFirst l pages)
      (λ (v : Visit) l. IsListed Targets (source_members slots rows) pages (at.visit v.id) l)
      (λ (v : Visit) l. IsTargeted v.id (map (in_slot at kept.visits v) l)) kept.visits lists
      (λ v l there parts is. (are_targets v l there is parts, linked v l there is parts)) (all_there kept)
      (recursion_from_All (λ l. HasRedirectsFirst l pages) lists first)
      (zip_from_made (IsListed Targets (source_members slots rows) pages) (λ (v : Visit). at.visit v.id) kept.visits
      lists
      (subst (λ (ss : List Slot). AllZip (IsListed Targets (source_members slots rows) pages) ss lists) slots_are
      listed))

  there_targeted : (id : VisitId) → has_visit kept id ≡ true → IsTargeted id (targets_in at kept lists id)
  there_targeted id there =
      beside_holds (λ v l. map (in_slot at kept.visits v) l) IsTargeted kept.visits lists id all_targeted there

  -- from an id that no visit has none came
  none_came : (id : VisitId) → has_visit kept id ≡ false → (test : Visit → Bool)
      → filter (λ (w : Visit). test w && is_source id w.source) kept.visits ≡ []
  none_came id none test =
      none_kept (λ (w : Visit). test w && is_source id w.source) kept.visits
      (weaker (λ (w : Visit). IfSome w.source (λ s. has_visit kept s ≡ true))
      (λ (w : Visit). (test w && is_source id w.source) ≡ false) kept.visits
      (λ w known.
      no_test (test w && is_source id w.source)
      (λ passes.
      let named : w.source ≡ Some id = source_is id w.source (and_parts (test w) (is_source id w.source) passes).1 in
      let there : has_visit kept id ≡ true =
      subst (λ (o : Option VisitId). IfSome o (λ s. has_visit kept s ≡ true)) named known in
      false≢true (sym none ∙ there))) sources)

  pub targeted : (source : VisitId) → AreTargets (store_of kept) source (targets_in at kept lists source)
  targeted source = choose (has_visit kept source) refl
    where
      nothing : has_visit kept source ≡ false → AreTargets (store_of kept) source []
      nothing none =
          record {
            redirects = [];
            others = [];
            is = refl;
            all_redirects = subst (IsPermutation []) (sym (none_came source none is_made)) (IsPermutation-refl []);
            all_others =
                subst (IsPermutation []) (sym (none_came source none (λ w. not (is_made w)))) (IsPermutation-refl []);
          }

      choose : (b : Bool) → has_visit kept source ≡ b
          → AreTargets (store_of kept) source (targets_in at kept lists source)
      choose true there = (there_targeted source there).0
      choose false none =
          subst (AreTargets (store_of kept) source)
          (sym (beside_none (λ v l. map (in_slot at kept.visits v) l) kept.visits lists source
          (none_pass (λ (v : Visit). v.id.0 == source.0) kept.visits none))) (nothing none)

  pub targets_linked : All (λ (v : Visit). Lists Targets (At (at.visit v.id))
      (visit_slots at (targets_in at kept lists v.id)) pages) kept.visits
  targets_linked =
      All-from_recursion (λ (v : Visit). Lists Targets (At (at.visit v.id))
      (visit_slots at (targets_in at kept lists v.id)) pages) kept.visits
      (weaker (λ (v : Visit). has_visit kept v.id ≡ true)
      (λ (v : Visit). Lists Targets (At (at.visit v.id)) (visit_slots at (targets_in at kept lists v.id)) pages)
      kept.visits
      (λ v there. (there_targeted v.id there).1) (all_there kept))
