use Rattle.std.proofs.Common.{◌∙◌, ◌++◌, ap, subst, sym}
use Rattle.std.specs.Option.{option_to_list}
use Rattle.percent_encoding.specs.Percent.{percent_decode}
use Rattle.pl_place.specs.Draft.{Gathers, with_value}
use Rattle.pl_place.specs.Keys.{key_named}
use Rattle.pl_place.specs.PlaceText.{piece_of}
use Rattle.pl_place.specs.Values.{is_value}
use Rattle.pl_place.proofs.DraftLemmas.{bad_one, gathers_none, gathers_one}
use Rattle.pl_place.proofs.reader.add_piece.Goals as goal

pub returns-in_default-clause-added : goal.returns-in_default-clause-added
returns-in_default-clause-added c front gathers =
    gathers_none c.args.number c.args.piece.now front c.args.draft.now
    (c.in_default.ensures ∙ ap key_named c.cut.ensures.key) gathers

pub returns-clause-added : goal.returns-clause-added
returns-clause-added c front gathers =
    let value = c.as_slice.ensures.value ∙ c.in_ok-value.ensures ∙ ap percent_decode c.cut.ensures.value in
    let whole = gathers_one c.args.number c.args.piece.now front c.args.draft.now c.in-Some.key
    (c.in-Some.ensures ∙ ap key_named c.cut.ensures.key)
    (sym c.if-not-formed.false ∙ c.in_ok-formed.ensures.formed ∙ ap (is_value c.in-Some.key) value) gathers in
    subst (Gathers (front ++ option_to_list (piece_of (c.args.number, c.args.piece.now))))
    (sym (c.in_ok-formed.ensures.added ∙ ap (λ v. with_value c.in-Some.key v c.args.draft.now) value)) whole

pub returns-then-not-formed-clause-bad : goal.returns-then-not-formed-clause-bad
returns-then-not-formed-clause-bad c at is =
    let value = c.as_slice.ensures.value ∙ c.in_ok-value.ensures ∙ ap percent_decode c.cut.ensures.value in
    let bad = bad_one c.args.number c.args.piece.now c.in-Some.key
    (c.in-Some.ensures ∙ ap key_named c.cut.ensures.key)
    (sym c.if-not-formed.true ∙ c.in_ok-formed.ensures.formed ∙ ap (is_value c.in-Some.key) value) in
    bad ∙ cc
