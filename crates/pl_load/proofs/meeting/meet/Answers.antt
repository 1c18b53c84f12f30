use Rattle.std.proofs.Common.{◌≡◌, ◌∙◌, ◌++◌, ap, eqb, subst, sym, true}
use Rattle.std.proofs.lemmas.Result.{err_from_is_err_and}
use Rattle.std.specs.List.{All, IsDistinct, flat_map}
use Rattle.pl_load.specs.Held.{held_slots}
use Rattle.pl_load.specs.Reads.{numbers}
use Rattle.pl_load.proofs.MetRows.{Live, all_live, met_once, met_whole, texts_once, texts_there}
use Rattle.pl_reading.specs.Texts.{IsHeld, row_texts, text_parts}
use Rattle.pl_slot.specs.Arena.{is_among}
use Rattle.pl_load.proofs.meeting.meet.Goals as goal

pub are_all_live-requires : goal.are_all_live-requires
are_all_live-requires g c =
    let texts =
    c.deref-3.ensures.value ∙ c.in_ok-texts.ensures
    ∙ (λ i. row_texts (c.deref.ensures.value i) (c.deref-2.ensures.value i)) in
    record {
      live =
          subst (All (Live c.args.arena.now)) (sym (c.deref-4.ensures.value ∙ c.in_ok-met.ensures))
          (all_live c.args.arena.now c.args.held.now c.requires.held
          (subst (All (IsHeld c.args.arena.now)) texts c.in_ok-slots.ensures.held) c.in_ok-slots.slots.items
          (c.in_ok-slots.ensures.slots ∙ ap (flat_map (text_parts c.args.arena.now)) texts));
    }

pub returns-in_err-slots-clause-none : goal.returns-in_err-slots-clause-none
returns-in_err-slots-clause-none g c told reads from =
    let p = err_from_is_err_and c.from_residual-in_err-slots.result c.from_residual-in_err-slots.ensures.1 in
    let texts =
    c.deref-3.ensures.value ∙ c.in_ok-texts.ensures
    ∙ (λ i. row_texts (c.deref.ensures.value i) (c.deref-2.ensures.value i)) in
    c.in_err-slots.ensures.none (let both = sym p.1 ∙ told in let same = p.2 in cc)
    (subst (All (IsHeld c.args.arena.now)) (sym texts)
    (texts_there c.args.arena.now c.args.held.now c.requires.held reads from))
    (subst (λ ts. IsDistinct eqb (flat_map (text_parts c.args.arena.now) ts)) (sym texts)
    (texts_once c.args.arena.now c.args.held.now c.requires.held reads from))

pub returns-then-not-branch-clause-none : goal.returns-then-not-branch-clause-none
returns-then-not-branch-clause-none g c told reads from =
    let h = c.args.held.now in
    let texts =
    c.in_ok-slots.ensures.slots
    ∙ ap (flat_map (text_parts c.args.arena.now))
    (c.deref-3.ensures.value ∙ c.in_ok-texts.ensures
    ∙ (λ i. row_texts (c.deref.ensures.value i) (c.deref-2.ensures.value i))) in
    let met : c.deref-4.result.now ≡ held_slots c.args.arena.now h =
    c.deref-4.ensures.value ∙ c.in_ok-met.ensures
    ∙ ap
    (λ ts.
    numbers h.live.origins.items ++ numbers h.live.places.items ++ numbers h.live.visits.items
    ++ numbers h.live.items.items ++ ts) texts in
    c.in_ok-are_all_live.ensures.no c.if-not-branch.true
    (subst (IsDistinct eqb) (sym met) (met_once c.args.arena.now h c.requires.held reads from))
    (λ n is.
    subst (λ ns. is_among n ns ≡ true) (sym met) (met_whole c.args.arena.now h c.requires.held reads from n is))

pub returns-clause-texts : goal.returns-clause-texts
returns-clause-texts g c =
    subst (All (IsHeld c.args.arena.now))
    (c.deref-3.ensures.value ∙ c.in_ok-texts.ensures
    ∙ (λ i. row_texts (c.deref.ensures.value i) (c.deref-2.ensures.value i))) c.in_ok-slots.ensures.held
