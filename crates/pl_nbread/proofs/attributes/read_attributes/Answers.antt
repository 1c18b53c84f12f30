-- The loop over attributes.
use Rattle.std.proofs.Common.{◌∙◌, ◌<◌, List, ℕ, Some, None, ap, arith, length, refl, rules, sym}
use borrow.Author.Tests.{eqb-false, eqb-true}
use Rattle.std.proofs.lemmas.Str.Pattern.{strip_prefix_char}
use Rattle.pl_nbread.proofs.AttributeSteps.{next_shorter, noted_end, noted_next, noted_none, noted_stray}
use Rattle.pl_nbread.proofs.AttributeSteps.{stray, strays}
use Rattle.pl_nbread.proofs.AttributeSteps.{strip_one_of}
use Rattle.pl_nbread.proofs.attributes.read_attributes.Goals as goal

pub returns-in-Some : goal.returns-in-Some
returns-in-Some c =
    let left : List ℕ = c.loop-found.left.now in
    noted_end c.args.text.now left _ c.in-Some.behind c.loop-found.invariant.noted
    (strip_prefix_char 62 left (Some c.in-Some.behind) c.in-Some.ensures.cases (omega arith))

pub loop-found-smaller-in-Some-strip_prefix : goal.loop-found-smaller-in-Some-strip_prefix
loop-found-smaller-in-Some-strip_prefix c =
    let w = c.in-Some-strip_prefix in
    let left : List ℕ = c.loop-found.left.now in
    let passed =
    strip_one_of strays left w.ensures.cases.0 w.behind.now refl w.ensures.cases.1 w.ensures.cases.2 in
    omega (arith, ap length passed.2)

pub loop-found-preserved-in-Some-strip_prefix : goal.loop-found-preserved-in-Some-strip_prefix
loop-found-preserved-in-Some-strip_prefix c =
    let w = c.in-Some-strip_prefix in
    let left : List ℕ = c.loop-found.left.now in
    let passed =
    strip_one_of strays left w.ensures.cases.0 w.behind.now refl w.ensures.cases.1 w.ensures.cases.2 in
    record {
      utf8 = search rules;
      noted =
          noted_stray c.args.text.now left w.behind.now _ passed.0 c.loop-found.invariant.noted
          (sym (stray passed.0) ∙ passed.1) passed.2;
    }

pub loop-found-smaller : goal.loop-found-smaller
loop-found-smaller c =
    let left : List ℕ = c.loop-found.left.now in
    let some : 0 < length left =
    omega (arith, eqb-false (length left) 0 (sym c.is_empty.ensures ∙ c.loop-found-test.true)) in
    next_shorter left c.attribute.result.2.now some
    (strip_prefix_char 62 left None c.in_default.ensures.cases (omega arith))
    c.in_default-strip_prefix.ensures.cases c.attribute.ensures.behind

pub loop-found-preserved : goal.loop-found-preserved
loop-found-preserved c =
    let left : List ℕ = c.loop-found.left.now in
    let some : 0 < length left =
    omega (arith, eqb-false (length left) 0 (sym c.is_empty.ensures ∙ c.loop-found-test.true)) in
    record {
      utf8 = search rules;
      noted =
          noted_next c.args.text.now left c.attribute.result.2.now c.attribute.result.0.now c.attribute.result.1.now _ _
          c.loop-found.invariant.noted some
          (strip_prefix_char 62 left None c.in_default.ensures.cases (omega arith))
          c.in_default-strip_prefix.ensures.cases c.attribute.ensures.name c.attribute.ensures.value
          c.attribute.ensures.behind c.with-found.ensures;
    }

pub returns : goal.returns
returns c =
    let left : List ℕ = c.loop-found.left.now in
    noted_none c.args.text.now left _ c.loop-found.invariant.noted
    (eqb-true (length left) 0 (sym c.is_empty.ensures ∙ c.loop-found-test.false))
