use Rattle.std.proofs.Common.{◌∙◌, ◌++◌, ap, append-nil, subst, sym}
use Rattle.std.specs.Str.{IsUtf8}
use Rattle.std.specs.Str.Iter.{split_whitespace_rest}
use Rattle.pl_words.specs.Pieces.{pieces}
use Rattle.pl_words.proofs.PieceSteps.{comes_off, none_left, one_more}
use Rattle.pl_words.proofs.words.pieces.Goals as goal

pub loop-word-init : goal.loop-word-init
loop-word-init c =
    let same = ap split_whitespace_rest c.into_iter-word-iterator.ensures.into_iter_gives
    ∙ c.split_whitespace-word-items.ensures.rest in
    record {
      utf8 = subst IsUtf8 (sym same) c.as_str.utf8;
      pieces = rw c.new-words.ensures.items (ap pieces (sym c.as_str.ensures ∙ sym same));
    }

pub loop-word-preserved : goal.loop-word-preserved
loop-word-preserved c =
    let rest = split_whitespace_rest c.loop-word.word-iterator in
    let steps = c.in-Some.ensures.steps in
    let off = comes_off rest c.in-Some.word.now (split_whitespace_rest c.next.new.self) steps.0 steps.5.0
    c.loop-word.invariant.utf8 steps.1 steps.2 steps.3 steps.4 steps.5.1 in
    record {
      utf8 = off.utf8;
      pieces = rw (c.in_ok-push.ensures.items, c.in_ok-copied.ensures)
          (one_more c.args.text.now c.in-Some.word.now rest (split_whitespace_rest c.next.new.self)
          c.loop-word.words.items c.loop-word.invariant.pieces off);
    }

pub returns : goal.returns
returns c =
    let rest = split_whitespace_rest c.loop-word.word-iterator in
    let none = none_left rest c.loop-word.invariant.utf8 c.in-None.ensures.steps.1 in
    sym
    (c.loop-word.invariant.pieces
    ∙ ap (λ more. c.loop-word.words.items ++ more) none
    ∙ append-nil c.loop-word.words.items)
