-- The slot of an origin that comes behind all others, and of one that goes.
use Rattle.std.proofs.Common.{◌≡◌, ◌≢◌, ◌∙◌, ◌==◌, ◌||◌, ◌∷◌, ◌++◌, [], ℕ, List, None, Some, ap, arith, cond, false}
use Rattle.std.proofs.Common.{inl, inr, refl, subst, sym, true}
use Rattle.std.proofs.lemmas.Bool.{cases_Bool, or_parts}
use Rattle.pl_base.specs.declared.id.Slot.{Slot}
use Rattle.pl_record.specs.ChainMap.{AreChains, ChainMap, IsLoose, with_chain}
use Rattle.pl_record.specs.Rows.{origin_row}
use Rattle.pl_record.specs.SlotChanges.{Appends, InsertsOrigin, RemovesOrigin}
use Rattle.pl_record.proofs.ChainMaps.{live_apart, one_chain, unlinked_chains, unlinked_loose}
use Rattle.pl_record.proofs.ChainMapsKept.{alone_rail, only_one}
use Rattle.pl_record.proofs.LiveChains.{kind_in}
use Rattle.pl_record.proofs.RecordMaps.{given_records, rail_records, taken_records}
use Rattle.pl_record.proofs.SlotSteps.{Detaches, Takes, appended_chains, around, body_then, fields_body, given_beside}
use Rattle.pl_record.proofs.SlotSteps.{given_body, given_chain, link_missing, origin_by_kind, origin_ends}
use Rattle.pl_record.proofs.SlotSteps.{origin_sides, rail_body, sideless_alone, sideless_loose, taken_alone}
use Rattle.pl_record.proofs.SlotSteps.{taken_chain}
use Rattle.pl_rail.specs.declared.owner.Owner.TheVariants.{At, Header}
use Rattle.pl_rail.specs.Rails.{HasMember, Lists, first_of, is_kind, is_member, last_of, none, or_none, page_by}
use Rattle.pl_rail.proofs.ListLaws.{in_front}
use Rattle.pl_rail.proofs.SideLaws.{only_then}
use Rattle.pl_sheets.specs.Sheets.{Pages, page_count}
use Rattle.pl_slot.specs.declared.kind.LiveKind.TheVariants as live
use Rattle.pl_slot.specs.declared.kind.SlotKind.TheVariants as kinds
use Rattle.pl_slot.specs.declared.links.Link.TheVariants.{First, Previous}
use Rattle.pl_slot.specs.declared.links.Rail.{Rail}
use Rattle.pl_slot.specs.declared.links.Rail.TheVariants.{Live, OriginPages}
use Rattle.pl_slot.specs.Arena.{header_page, is_among, slot_page}
use Rattle.pl_slot.specs.Links.{is_rail, kind_at}
use Rattle.pl_slot.proofs.ArenaLaws.{then_only}
use Rattle.pl_slot.proofs.LinkPlaces.{same_rail}
use Rattle.pl_text.proofs.Freeing.{GivenBack, beside}

-- ---- an origin comes

pub inserts_origin : (slot : Slot) (old middle new : Pages) → Takes slot (origin_row 0) old middle
    → Appends Live (Header live.Origin) slot middle new → (chains : ChainMap) → AreChains chains old
    → InsertsOrigin slot old new
inserts_origin slot old middle new takes appends known were =
    record {
      fresh = takes.taken.fresh;
      records = λ n.
          rail_records Live (Header live.Origin) middle new appends.rest n
          ∙ taken_records slot.0 (origin_row 0) old middle takes.taken.live n;
      chains = λ chains are.
          let now = taken_chain slot (origin_row 0) old middle takes refl chains are in
          appended_chains Live (Header live.Origin) slot chains middle new now (live_apart chains middle now) refl
          appends;
      alone = λ r s other also alone.
          alone_rail Live (Header live.Origin) middle new r s appends.rest other
          (taken_alone slot (origin_row 0) old middle takes r s alone);
      count = appends.rest.count ∙ takes.taken.count;
      body =
          body_then old middle new (fields_body old middle takes.fields)
          (rail_body Live (Header live.Origin) middle new appends.rest);
      longer = omega (arith, takes.longer, appends.rest.as_many);
      before = last;
      pages =
          then_only (header_page ∷ slot_page slot.0 ∷ []) (last ∷ page_by (Header live.Origin) slot ∷ header_page ∷ [])
          (header_page ∷ slot_page slot.0 ∷ last ∷ []) old middle new apart takes.longer takes.pages
          (appends.pages (known Live (Header live.Origin))
          ((taken_chain slot (origin_row 0) old middle takes refl known were).lists Live (Header live.Origin) refl));
    }
  where
    last : ℕ
    last = page_by (Header live.Origin) (or_none (last_of (known Live (Header live.Origin))))

    apart : (p : ℕ) → is_among p (header_page ∷ slot_page slot.0 ∷ last ∷ []) ≡ false
        → (is_among p (header_page ∷ slot_page slot.0 ∷ []) ≡ false)
        × (is_among p (last ∷ page_by (Header live.Origin) slot ∷ header_page ∷ []) ≡ false)
    apart p other =
        let one = or_parts (p == header_page) (is_among p (slot_page slot.0 ∷ last ∷ [])) other in
        let two = or_parts (p == slot_page slot.0) (is_among p (last ∷ [])) one.1 in (
          beside (p == header_page) (is_among p (slot_page slot.0 ∷ [])) one.0 (ap (λ b. b || false) two.0),
          around (Header live.Origin) (or_none (last_of (known Live (Header live.Origin)))) slot none p one.0 two.0
              (or_parts (p == last) false two.1).0 one.0,
        )

-- ---- an origin goes

pages_differ : OriginPages ≢ Live
pages_differ same = absurd (cc)

module _ (slot : Slot) (old middle : Pages) (goes : Detaches Live (Header live.Origin) slot old middle)
    (member : HasMember Live (Header live.Origin) slot old) where
  pub still_member : is_member Live (Header live.Origin) middle slot ≡ true
  still_member =
      ap (λ k. is_kind k (Some kinds.Origin)) (goes.rest.kinds slot.0)
      ∙ kind_in Live (Header live.Origin) (member.front ++ slot ∷ member.back) old slot member.lists
      (in_front slot member.front member.back)

  its_kind : kind_at slot.0 middle ≡ Some kinds.Origin
  its_kind = origin_by_kind (kind_at slot.0 middle) still_member

  module _ (new : Pages) (empty : Lists OriginPages (At slot) [] old) (given : GivenBack slot middle new) where
    gone_chains : (chains : ChainMap) (front back : List Slot) → AreChains chains old
        → chains Live (Header live.Origin) ≡ front ++ slot ∷ back
        → AreChains (with_chain Live (Header live.Origin) (front ++ back) chains) new
    gone_chains chains front back are is =
        given_chain slot middle new given (with_chain Live (Header live.Origin) (front ++ back) chains) now loose
        none_left
      where
        now : AreChains (with_chain Live (Header live.Origin) (front ++ back) chains) middle
        now =
            unlinked_chains Live (Header live.Origin) slot front back chains (live_apart chains old are) is old middle
            are goes.list goes.owners goes.others goes.rest

        loose : (r : Rail) → IsLoose r slot (with_chain Live (Header live.Origin) (front ++ back) chains)
        loose r = elim (cases_Bool (is_rail r Live)) [
          | inl same ↦
              subst (λ k. IsLoose k slot (with_chain Live (Header live.Origin) (front ++ back) chains))
              (sym (same_rail r Live same))
              (unlinked_loose Live (Header live.Origin) slot front back chains (live_apart chains old are) is old are)
          | inr other ↦
              sideless_loose (with_chain Live (Header live.Origin) (front ++ back) chains) middle now r slot
              kinds.Origin its_kind (origin_sides r other)
        ]

        none_left : (r : Rail) → with_chain Live (Header live.Origin) (front ++ back) chains r (At slot) ≡ []
        none_left r = elim (cases_Bool (is_rail r OriginPages)) [
          | inl same ↦
              subst (λ k. with_chain Live (Header live.Origin) (front ++ back) chains k (At slot) ≡ [])
              (sym (same_rail r OriginPages same))
              (sym (one_chain (with_chain Live (Header live.Origin) (front ++ back) chains) middle now OriginPages
              (At slot) [] (goes.others OriginPages (At slot) [] pages_differ empty)))
          | inr other ↦
              now.none r (At slot)
              (link_missing r First slot.0 kinds.Origin middle its_kind (origin_ends r other))
        ]

    pub removes_origin : page_count new ≡ page_count middle → RemovesOrigin slot old new
    removes_origin as_many =
        record {
          records = λ n.
              given_records slot.0 given.first middle new given.rows n
              ∙ ap (λ r. cond (n == slot.0) None r) (rail_records Live (Header live.Origin) old middle goes.rest n);
          chains = gone_chains;
          alone = λ r s other also alone.
              sideless_alone (slot.0 ∷ []) middle new (given_beside slot middle new given)
              (λ n among rail apart _.
              link_missing rail Previous n kinds.Origin middle
              (ap (λ k. kind_at k middle) (only_one n slot.0 among) ∙ its_kind) (origin_sides rail apart)) r s other
              also (alone_rail Live (Header live.Origin) old middle r s goes.rest other alone);
          count = given.count ∙ goes.rest.count;
          body =
              body_then old middle new (rail_body Live (Header live.Origin) old middle goes.rest)
              (given_body slot middle new given);
          longer = omega (arith, goes.rest.as_many, as_many);
          before = first;
          behind = last;
          pages =
              only_then (first ∷ page_by (Header live.Origin) slot ∷ last ∷ []) (header_page ∷ slot_page slot.0 ∷ [])
              (header_page ∷ slot_page slot.0 ∷ first ∷ last ∷ []) old middle new goes.rest.as_many apart
              (goes.pages member.front member.back member.lists) given.pages;
        }
      where
        first : ℕ
        first = page_by (Header live.Origin) (or_none (last_of member.front))

        last : ℕ
        last = page_by (Header live.Origin) (or_none (first_of member.back))

        apart : (p : ℕ) → is_among p (header_page ∷ slot_page slot.0 ∷ first ∷ last ∷ []) ≡ false
            → (is_among p (first ∷ page_by (Header live.Origin) slot ∷ last ∷ []) ≡ false)
            × (is_among p (header_page ∷ slot_page slot.0 ∷ []) ≡ false)
        apart p other =
            let one = or_parts (p == header_page) (is_among p (slot_page slot.0 ∷ first ∷ last ∷ [])) other in
            let two = or_parts (p == slot_page slot.0) (is_among p (first ∷ last ∷ [])) one.1 in
            let three = or_parts (p == first) (is_among p (last ∷ [])) two.1 in (
              around (Header live.Origin) (or_none (last_of member.front)) slot (or_none (first_of member.back)) p
                  one.0 two.0 three.0 (or_parts (p == last) false three.1).0,
              beside (p == header_page) (is_among p (slot_page slot.0 ∷ [])) one.0 (ap (λ b. b || false) two.0),
            )
