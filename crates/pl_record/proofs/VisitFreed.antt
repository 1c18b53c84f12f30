-- The slot of a visit that goes.
use Rattle.std.proofs.Common.{◌≡◌, ◌≢◌, ◌∙◌, ◌==◌, ◌∷◌, ◌++◌, [], ℕ, Bool, List, None, Option, Some, ap, arith}
use Rattle.std.proofs.Common.{cond, eq-eqb, false, inl, inr, not, refl, subst, sym, true}
use Rattle.std.proofs.lemmas.Bool.{cases_Bool, cases_eq, ne_eqb, true≢false}
use Rattle.pl_base.specs.declared.id.Slot.{Slot}
use Rattle.pl_base.proofs.Truths.{no_test}
use Rattle.pl_record.specs.ChainMap.{AreApart, AreChains, ChainMap, IsLoose, with_chain}
use Rattle.pl_record.specs.Chains.{IsAlone}
use Rattle.pl_record.specs.declared.rows.Visit.{Visit}
use Rattle.pl_record.specs.Rows.{row_in, visit_row}
use Rattle.pl_record.specs.VisitChanges.{FreesVisit, HoldsVisit, Leaves, LeavesSource, without_member, without_slot}
use Rattle.pl_record.specs.VisitChanges.{without_target_slot, without_visit_slot}
use Rattle.pl_record.proofs.Bases.{both_only}
use Rattle.pl_record.proofs.ChainMaps.{apart_beside, live_apart, loose_beside, one_chain}
use Rattle.pl_record.proofs.ChainMaps.{unlinked_chains, unlinked_loose}
use Rattle.pl_record.proofs.ChainMapsKept.{alone_live, alone_rail, only_one}
use Rattle.pl_record.proofs.PagesTold.{kind_told}
use Rattle.pl_record.proofs.RecordMaps.{given_records, rail_records, record_held}
use Rattle.pl_record.proofs.SlotSteps.{body_then, given_beside, given_body, given_chain, link_missing, rail_body}
use Rattle.pl_record.proofs.SlotSteps.{sideless_loose}
use Rattle.pl_rail.specs.declared.owner.Owner.{Owner}
use Rattle.pl_rail.specs.declared.owner.Owner.TheVariants.{At, Header}
use Rattle.pl_rail.specs.declared.owner.Side.TheVariants.{Before, Behind}
use Rattle.pl_rail.specs.Rails.{HasMember, KeepsRails, Lists, first_of, is_in, last_of, named, or_none, page_by}
use Rattle.pl_rail.proofs.ChainLaws.{stands}
use Rattle.pl_rail.proofs.ListLaws.{one_list}
use Rattle.pl_rail.proofs.Rings.{Differ}
use Rattle.pl_rail.proofs.SideLaws.{other_number}
use Rattle.pl_sheets.specs.Sheets.{Pages, page_count}
use Rattle.pl_slot.specs.declared.kind.LiveKind.TheVariants as live
use Rattle.pl_slot.specs.declared.kind.SlotKind.TheVariants as kinds
use Rattle.pl_slot.specs.declared.links.Link.TheVariants.{First}
use Rattle.pl_slot.specs.declared.links.Rail.{Rail}
use Rattle.pl_slot.specs.declared.links.Rail.TheVariants.{Children, Live, OriginPages, PageVisits, References, Targets}
use Rattle.pl_slot.specs.declared.row.SlotRow.{SlotRow}
use Rattle.pl_slot.specs.declared.row.SlotRow.TheVariants as rows
use Rattle.pl_slot.specs.Arena.{ChangesOnly, is_among}
use Rattle.pl_slot.specs.Links.{ends_at, is_rail, kind_at, sides_at}
use Rattle.pl_slot.proofs.LinkPlaces.{same_rail}
use Rattle.pl_text.specs.Chunks.{pages_of}
use Rattle.pl_text.proofs.Freeing.{GivenBack}

-- ---- a list without a member

all_stay : (slot : Slot) (xs : List Slot) → Differ slot xs → without_slot slot xs ≡ xs
all_stay slot [] apart = refl
all_stay slot (x ∷ xs) apart =
    ap (λ b. cond (not b) (x ∷ without_slot slot xs) (without_slot slot xs))
    (ne_eqb x.0 slot.0 (other_number x slot apart.0))
    ∙ ap (λ l. x ∷ l) (all_stay slot xs apart.1)

pub one_goes : (slot : Slot) (front back : List Slot) → Differ slot front → Differ slot back
    → without_slot slot (front ++ slot ∷ back) ≡ front ++ back
one_goes slot [] back first second =
    ap (λ b. cond (not b) (slot ∷ without_slot slot back) (without_slot slot back)) (eq-eqb slot.0 slot.0 refl)
    ∙ all_stay slot back second
one_goes slot (x ∷ xs) back first second =
    ap (λ b. cond (not b) (x ∷ without_slot slot (xs ++ slot ∷ back)) (without_slot slot (xs ++ slot ∷ back)))
    (ne_eqb x.0 slot.0 (other_number x slot first.0))
    ∙ ap (λ l. x ∷ l) (one_goes slot xs back first.1 second)

module _ (rail : Rail) (owner : Owner) (slot : Slot) (old new : Pages) (leaves : Leaves rail owner slot old new)
    (has : HasMember rail owner slot old) where
  module _ (chains : ChainMap) (are : AreChains chains old) (apart : AreApart rail chains) where
    pub its_list : chains rail owner ≡ has.front ++ slot ∷ has.back
    its_list = sym (one_chain chains old are rail owner (has.front ++ slot ∷ has.back) has.lists)

    pub same_map : with_chain rail owner (has.front ++ has.back) chains ≡ without_member rail owner slot chains
    same_map =
        let stood = stands rail owner has.front slot has.back old has.lists in
        ap (λ l. with_chain rail owner l chains)
        (sym (ap (without_slot slot) its_list
        ∙ one_goes slot has.front has.back stood.front_differs stood.back_differs))

    pub left_chains : AreChains (without_member rail owner slot chains) new
    left_chains =
        subst (λ c. AreChains c new) same_map
        (unlinked_chains rail owner slot has.front has.back chains apart its_list old new are leaves.list leaves.owners
        leaves.others leaves.rest)

    pub left_loose : IsLoose rail slot (without_member rail owner slot chains)
    left_loose =
        subst (λ c. IsLoose rail slot c) same_map
        (unlinked_loose rail owner slot has.front has.back chains apart its_list old are)

  abbrev pub around : List ℕ
  around =
      page_by owner (or_none (last_of has.front)) ∷ page_by owner slot
      ∷ page_by owner (or_none (first_of has.back)) ∷ []

  pub around_only : ChangesOnly around old new
  around_only = leaves.pages has.front has.back has.lists

  -- slots that stand alone and are in no chain of the rail still do
  pub still_lone : (chains : ChainMap) → AreChains chains old → (r : Rail) (other : Slot) → other ≢ slot
      → (is_rail r rail ≡ true → IsLoose rail other chains) → IsAlone r other old → IsAlone r other new
  still_lone chains are r other apart loose alone = elim (cases_Bool (is_rail r rail)) [
    | inl same ↦
        let is : r ≡ rail = same_rail r rail same in
        let was : IsAlone rail other old = subst (λ k. IsAlone k other old) is alone in
        let never =
        ap (is_in other) (one_chain chains old are rail owner (has.front ++ slot ∷ has.back) has.lists)
        ∙ loose same owner in
        let kept = leaves.beside (has.front ++ slot ∷ has.back) has.lists in
        subst (λ k. IsAlone k other new) (sym is)
        (record {
          before = kept Before other apart never ∙ was.before;
          behind = kept Behind other apart never ∙ was.behind;
        })
    | inr differ ↦ alone_rail rail owner old new r other leaves.rest differ alone
  ]

pub member_moved : (rail r : Rail) (o : Owner) (slot : Slot) (old new : Pages) → KeepsRails rail old new → r ≢ rail
    → HasMember r o slot old → HasMember r o slot new
member_moved rail r o slot old new keeps apart has =
    record {
      front = has.front;
      back = has.back;
      lists = keeps r o (has.front ++ slot ∷ has.back) apart has.lists;
    }

-- ---- it leaves the targets of its source

-- a slot that is named is not 0
pub named_some : (s t : Slot) → Some t ≡ named s → (t ≡ s) × (s.0 ≢ 0)
named_some s t is = elim (cases_eq s.0 0) [
  | inl zero_is ↦
      let never : Some t ≡ None = is ∙ ap (λ b. cond b None (Some s)) (eq-eqb s.0 0 zero_is) in
      absurd (cc)
  | inr some ↦
      let both : Some t ≡ Some s = is ∙ ap (λ b. cond b None (Some s)) (ne_eqb s.0 0 some) in
      let same : t ≡ s = cc in
      (same, some)
]

pub leaves_source : (v : Visit) (slot : Slot) (old new : Pages) → v.source.0 ≢ 0
    → Leaves Targets (At v.source) slot old new → HasMember Targets (At v.source) slot old → LeavesSource v slot old new
leaves_source v slot old new some leaves has =
    record {
      records = rail_records Targets (At v.source) old new leaves.rest;
      kinds = leaves.rest.kinds;
      chains = λ chains are apart.
          subst (λ c. AreChains c new) (same chains)
          (left_chains Targets (At v.source) slot old new leaves has chains are apart);
      loose = λ chains are apart loose.
          subst (λ c. IsLoose Targets slot c) (same chains)
          (left_loose Targets (At v.source) slot old new leaves has chains are apart);
      empty = λ lists.
          leaves.owners (has.front ++ slot ∷ has.back) has.lists (At slot) [] (other_owner lists) refl lists;
      others = leaves.others;
      alone = λ chains are r other apart loose alone.
          still_lone Targets (At v.source) slot old new leaves has chains are r other apart loose alone;
      count = leaves.rest.count;
      body = rail_body Targets (At v.source) old new leaves.rest;
      as_many = leaves.rest.as_many;
      these = around Targets (At v.source) slot old new leaves has;
      pages = around_only Targets (At v.source) slot old new leaves has;
    }
  where
    same : (chains : ChainMap)
        → without_member Targets (At v.source) slot chains ≡ without_target_slot v slot chains
    same chains =
        ap (λ b. cond b chains (without_member Targets (At v.source) slot chains)) (sym (ne_eqb v.source.0 0 some))

    filled : (front back : List Slot) → [] ≡ front ++ slot ∷ back → ⊥
    filled [] back is = absurd (cc)
    filled (x ∷ xs) back is = absurd (cc)

    other_owner : Lists Targets (At slot) [] old → At slot ≢ At v.source
    other_owner lists is =
        filled has.front has.back
        (one_list Targets (At slot) [] (has.front ++ slot ∷ has.back) old lists
        (subst (λ o. Lists Targets o (has.front ++ slot ∷ has.back) old) (sym is) has.lists))

-- ---- which links the slot of a visit has

visit_sides : (r : Rail) → is_rail r Live ≡ false → is_rail r PageVisits ≡ false → is_rail r Targets ≡ false
    → sides_at r kinds.Visit ≡ None
visit_sides Live a b c = absurd (true≢false a)
visit_sides PageVisits a b c = absurd (true≢false b)
visit_sides Targets a b c = absurd (true≢false c)
visit_sides OriginPages a b c = refl
visit_sides Children a b c = refl
visit_sides References a b c = refl

visit_ends : (r : Rail) → is_rail r Targets ≡ false → ends_at r kinds.Visit ≡ None
visit_ends Targets other = absurd (true≢false other)
visit_ends Live other = refl
visit_ends OriginPages other = refl
visit_ends PageVisits other = refl
visit_ends Children other = refl
visit_ends References other = refl

visits_rail : PageVisits ≢ Targets
visits_rail same = true≢false (ap (is_rail PageVisits) same)

live_rail : Live ≢ Targets
live_rail same = true≢false (ap (is_rail Live) same)

live_visits : Live ≢ PageVisits
live_visits same = true≢false (ap (is_rail Live) same)

targets_rail : Targets ≢ PageVisits
targets_rail same = true≢false (ap (is_rail Targets) same)

targets_live : Targets ≢ Live
targets_live same = true≢false (ap (is_rail Targets) same)

-- ---- the visit that goes

module _ (slot : Slot) (old : Pages) (held : HoldsVisit slot old) where
  pub visit_kind : kind_at slot.0 old ≡ Some kinds.Visit
  visit_kind =
      kind_told slot (visit_row held.visit) old
      (record_held (record { slot = slot; row = visit_row held.visit }) old held.row)

  module _ (left : Pages) (source : LeavesSource held.visit slot old left) where
    pub of_page : HasMember PageVisits (At held.visit.page) slot left
    of_page =
        member_moved Targets PageVisits (At held.visit.page) slot old left source.others visits_rail held.of_page

    module _ (out : Pages) (page : Leaves PageVisits (At held.visit.page) slot left out) where
      pub of_header : HasMember Live (Header live.Visit) slot out
      of_header =
          member_moved PageVisits Live (Header live.Visit) slot left out page.others live_visits
          (member_moved Targets Live (Header live.Visit) slot old left source.others live_rail held.of_header)

      module _ (bare : Pages) (goes : Leaves Live (Header live.Visit) slot out bare) where
        pub still_visit : kind_at slot.0 bare ≡ Some kinds.Visit
        still_visit = goes.rest.kinds slot.0 ∙ page.rest.kinds slot.0 ∙ source.kinds slot.0 ∙ visit_kind

        module _ (new : Pages) (given : GivenBack slot bare new) where
          module _ (chains : ChainMap) (are : AreChains chains old) (of_pages : AreApart PageVisits chains)
              (of_sources : AreApart Targets chains) (none : held.visit.source.0 ≡ 0 → IsLoose Targets slot chains)
            where
              abbrev first : ChainMap
              first = without_target_slot held.visit slot chains

              abbrev second : ChainMap
              second = without_member PageVisits (At held.visit.page) slot first

              abbrev third : ChainMap
              third = without_member Live (Header live.Visit) slot second

              first_are : AreChains first left
              first_are = source.chains chains are of_sources

              first_apart : AreApart PageVisits first
              first_apart = choose (held.visit.source.0 == 0)
                where
                  choose : (b : Bool)
                      → AreApart PageVisits
                      (cond b chains (without_member Targets (At held.visit.source) slot chains))
                  choose true = of_pages
                  choose false =
                      apart_beside Targets (At held.visit.source)
                      (without_slot slot (chains Targets (At held.visit.source))) chains PageVisits refl of_pages

              second_are : AreChains second out
              second_are =
                  left_chains PageVisits (At held.visit.page) slot left out page of_page first first_are first_apart

              second_loose : IsLoose PageVisits slot second
              second_loose =
                  left_loose PageVisits (At held.visit.page) slot left out page of_page first first_are first_apart

              third_are : AreChains third bare
              third_are =
                  left_chains Live (Header live.Visit) slot out bare goes of_header second second_are
                  (live_apart second out second_are)

              beside_live : (r : Rail) → is_rail r Live ≡ false → IsLoose r slot second → IsLoose r slot third
              beside_live r other loose =
                  loose_beside Live (Header live.Visit) (without_slot slot (second Live (Header live.Visit))) second r
                  slot other loose

              in_none : (r : Rail) → IsLoose r slot third
              in_none r = elim (cases_Bool (is_rail r Live)) [
                | inl same ↦
                    subst (λ k. IsLoose k slot third) (sym (same_rail r Live same))
                    (left_loose Live (Header live.Visit) slot out bare goes of_header second second_are
                    (live_apart second out second_are))
                | inr other ↦ elim (cases_Bool (is_rail r PageVisits)) [
                  | inl same ↦
                      subst (λ k. IsLoose k slot third) (sym (same_rail r PageVisits same))
                      (beside_live PageVisits refl second_loose)
                  | inr also ↦ elim (cases_Bool (is_rail r Targets)) [
                    | inl same ↦
                        subst (λ k. IsLoose k slot third) (sym (same_rail r Targets same))
                        (beside_live Targets refl
                        (loose_beside PageVisits (At held.visit.page)
                        (without_slot slot (first PageVisits (At held.visit.page))) first Targets slot refl
                        (source.loose chains are of_sources none)))
                    | inr further ↦
                        sideless_loose third bare third_are r slot kinds.Visit still_visit
                        (visit_sides r other also further)
                  ]
                ]
              ]

              none_come : third Targets (At slot) ≡ []
              none_come =
                  sym (one_chain third bare third_are Targets (At slot) []
                  (goes.others Targets (At slot) [] targets_live
                  (page.others Targets (At slot) [] targets_rail (source.empty held.no_target))))

              owns_none : (r : Rail) → third r (At slot) ≡ []
              owns_none r = elim (cases_Bool (is_rail r Targets)) [
                | inl same ↦ subst (λ k. third k (At slot) ≡ []) (sym (same_rail r Targets same)) none_come
                | inr other ↦
                    third_are.none r (At slot)
                    (link_missing r First slot.0 kinds.Visit bare still_visit (visit_ends r other))
              ]

              all_left : AreChains (without_visit_slot held.visit slot chains) new
              all_left = given_chain slot bare new given third third_are in_none owns_none

          others_lone : (chains : ChainMap) → AreChains chains old → (r : Rail) (other : Slot) → other ≢ slot
              → is_rail r Live ≡ false → is_rail r PageVisits ≡ false
              → (is_rail r Targets ≡ true → IsLoose Targets other chains) → IsAlone r other old
              → IsAlone r other new
          others_lone chains are r other apart not_live not_page loose alone =
              alone_live r other bare new
              (given_beside slot bare new given other.0
              (no_test (is_among other.0 (slot.0 ∷ []))
              (λ among. other_number other slot apart (only_one other.0 slot.0 among))))
              (alone_rail Live (Header live.Visit) out bare r other goes.rest not_live
              (alone_rail PageVisits (At held.visit.page) left out r other page.rest not_page
              (source.alone chains are r other apart loose alone)))

          abbrev of_pages : List ℕ
          of_pages = around PageVisits (At held.visit.page) slot left out page of_page

          abbrev of_all : List ℕ
          of_all = around Live (Header live.Visit) slot out bare goes of_header

          last_pages : ChangesOnly (of_all ++ pages_of (slot.0 ∷ [])) out new
          last_pages =
              both_only of_all (pages_of (slot.0 ∷ [])) out bare new (omega (arith, goes.rest.as_many))
              (around_only Live (Header live.Visit) slot out bare goes of_header) given.pages

          pub frees_visit : page_count new ≡ page_count bare → FreesVisit held.visit slot old new
          frees_visit as_many =
              record {
                records = λ n.
                    given_records slot.0 given.first bare new given.rows n
                    ∙ ap (λ r. cond (n == slot.0) None r)
                    (rail_records Live (Header live.Visit) out bare goes.rest n
                    ∙ rail_records PageVisits (At held.visit.page) left out page.rest n ∙ source.records n);
                chains = all_left;
                alone = others_lone;
                count = given.count ∙ goes.rest.count ∙ page.rest.count ∙ source.count;
                body =
                    body_then old left new source.body
                    (body_then left out new (rail_body PageVisits (At held.visit.page) left out page.rest)
                    (body_then out bare new (rail_body Live (Header live.Visit) out bare goes.rest)
                    (given_body slot bare new given)));
                longer = omega (arith, source.as_many, page.rest.as_many, goes.rest.as_many, as_many);
                these = source.these ++ (of_pages ++ (of_all ++ pages_of (slot.0 ∷ [])));
                pages =
                    both_only source.these (of_pages ++ (of_all ++ pages_of (slot.0 ∷ []))) old left new
                    (omega (arith, source.as_many)) source.pages
                    (both_only of_pages (of_all ++ pages_of (slot.0 ∷ [])) left out new
                    (omega (arith, page.rest.as_many))
                    (around_only PageVisits (At held.visit.page) slot left out page of_page) last_pages);
              }

-- ---- the visit that is read

visit_of : Option SlotRow → Visit → Visit
visit_of (Some (rows.Visit transition lp ln id page pp pn source tp tn ft lt date)) other =
    record { id = id; transition = transition; page = page; source = source; date = date }
visit_of row other = other

-- it is the one that the slot is held to have
pub visit_read : (slot : Slot) (old : Pages) (held : HoldsVisit slot old) (v : Visit)
    → row_in slot old ≡ Some (visit_row v) → v ≡ held.visit
unfolding visit_of
visit_read slot old held v read =
    ap (λ o. visit_of o v)
    (sym read ∙ record_held (record { slot = slot; row = visit_row held.visit }) old held.row)
