use Rattle.std.proofs.Common.{◌∙◌, ◌==◌, ◌≡◌, ◌∷◌, [], Err, ap, arith, length-append, lit<}
use Rattle.std.proofs.Common.{subst, sym}
use Rattle.std.specs.List.{slice_split}
use Rattle.std.specs.Str.Iter.{split_has_more, split_pattern, split_text}
use Rattle.std.proofs.lemmas.Iterator.Consumers.{YieldsList-end, YieldsList-so_far, YieldsList-turn}
use Rattle.std.proofs.lemmas.Iterator.Splits.{YieldsList-from_str_split}
use Rattle.std.proofs.lemmas.Result.{err_from_is_err_and}
use Rattle.pl_place.specs.declared.reader.QueryError.TheVariants as variants
use Rattle.pl_place.specs.Draft.{Gathers}
use Rattle.pl_place.proofs.DraftLemmas.{first_bad-cut, pieces_from, pieces_from-cut, texts_of}
use Rattle.pl_place.proofs.reader.gathered.Goals as goal

pub loop-piece-preserved : goal.loop-piece-preserved
loop-piece-preserved c =
    let now = c.loop-piece.invariant in
    record {
      number = omega (arith, length-append c.loop-piece.yielded (c.in-Some.piece ∷ []), now.number);
      gathers = subst (λ pieces. Gathers pieces c.add_piece.new.draft)
          (sym (pieces_from-cut c.loop-piece.yielded c.in-Some.piece c.loop-piece.number now.number))
          (c.in_ok-add_piece.ensures.added (pieces_from (texts_of c.loop-piece.yielded)) now.gathers);
    }

pub returns-in_err-add_piece-clause-bad : goal.returns-in_err-add_piece-clause-bad
returns-in_err-add_piece-clause-bad c at is =
    let gives = c.into_iter-piece-iterator.ensures.into_iter_gives in
    let split = YieldsList-from_str_split {s = c.into_iter-piece-iterator.result} 38 c.args.body.now (lit< tt)
    (ap split_text gives ∙ c.split-piece-items.ensures.text)
    (ap split_has_more gives ∙ c.split-piece-items.ensures.has_more)
    (ap split_pattern gives ∙ c.split-piece-items.ensures.pattern) in
    let cut = c.loop-piece.yielded in
    let front = YieldsList-so_far split cut _ c.loop-piece.yielded_by in
    let turn = YieldsList-turn split cut _ c.loop-piece.yielded_by _ _ _ c.in-Some.is c.next.ensures.steps in
    let same = err_from_is_err_and c.from_residual.result c.from_residual.ensures.1 in
    let error : c.in_err-add_piece.field-0.0 ≡ variants.BadQuery at = cc (same.1, same.2, is) in
    first_bad-cut (slice_split (λ b. b == 38) c.args.body.now) cut c.in-Some.piece c.loop-piece.number at
    front turn c.loop-piece.invariant.number c.loop-piece.invariant.gathers.taken
    (c.in_err-add_piece.ensures.bad at (ap Err error))

pub returns-clause-gathered : goal.returns-clause-gathered
returns-clause-gathered c =
    let gives = c.into_iter-piece-iterator.ensures.into_iter_gives in
    let split = YieldsList-from_str_split {s = c.into_iter-piece-iterator.result} 38 c.args.body.now (lit< tt)
    (ap split_text gives ∙ c.split-piece-items.ensures.text)
    (ap split_has_more gives ∙ c.split-piece-items.ensures.has_more)
    (ap split_pattern gives ∙ c.split-piece-items.ensures.pattern) in
    let cut = c.loop-piece.yielded in
    let end = YieldsList-end split cut _ c.loop-piece.yielded_by _ _ c.in-None.is c.next.ensures.steps in
    subst (λ texts. Gathers (pieces_from texts) c.loop-piece.draft) end.0 c.loop-piece.invariant.gathers
