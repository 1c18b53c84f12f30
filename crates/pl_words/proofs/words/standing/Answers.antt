use Rattle.std.proofs.Common.{◌≡◌, ◌∙◌, ◌+◌, ◌<◌, ◌≤◌, ℕ, List, false, ap, arith, drop, length}
use Rattle.std.proofs.Common.{nat_eq, subst, sym}
use Rattle.std.specs.List.{starts_with}
use Rattle.pl_words.specs.declared.stands.Standing.TheVariants.{Nowhere}
use Rattle.pl_words.proofs.StandingSteps.{best_from, nothing_left, nothing_sought, other_first}
use Rattle.pl_words.proofs.StandingSteps.{same_first, stands_elsewhere, stands_on_boundary}
use Rattle.pl_words.proofs.StandingSteps.{stands_within}
use Rattle.pl_words.proofs.words.standing.Goals as goal
use Rattle.pl_words.proofs.words.standing.Goals.{then-byte-first+then-starts_with+else-is_boundary}
use Rattle.pl_words.proofs.words.standing.Goals.{else-byte-first}
use Rattle.pl_words.proofs.words.standing.Goals.{
  else-byte-first-via-then-byte-first+else-starts_with,
  else-byte-first-via-else-byte-first,
}

pub returns-in_default : goal.returns-in_default
returns-in_default c =
    let word_is = c.as_bytes.ensures.value ∙ c.as_str-2.ensures in
    sym (nothing_sought c.args.word.now c.args.text.now
    (subst (λ (bs : List ℕ). length bs < 1) word_is c.in_default.len_below))

pub loop-place-init : goal.loop-place-init
loop-place-init c =
    ap (λ text. best_from Nowhere c.args.word.now text 0)
    (sym (c.as_bytes-text.ensures.value ∙ c.as_str.ensures))

pub returns-then-is_boundary : goal.returns-then-is_boundary
returns-then-is_boundary c =
    let l = c.loop-place in
    let text = c.as_bytes-text.result.now in
    let begins = same_first c.as_bytes.result.now text l.place c.in-len1-up.len_at_least
    c.loop-place-test.true c.if-byte-first.true ∙ sym c.starts_with.ensures.value
    ∙ c.if-starts_with.true in
    sym
    (l.invariant
    ∙ stands_on_boundary l.seen c.args.word.now text l.place c.loop-place-test.true
    (sym c.is_boundary.ensures ∙ c.if-is_boundary.true)
    (rw (c.as_bytes.ensures.value, c.as_str-2.ensures) at begins))

pub loop-place-preserved : goal.loop-place-preserved
loop-place-preserved c =
    let l = c.loop-place in
    let text = c.as_bytes-text.result.now in
    let word = c.as_bytes.result.now in
    let same = same_first word text l.place c.in-len1-up.len_at_least c.loop-place-test.true in
    let other = other_first word text l.place c.in-len1-up.len_at_least c.loop-place-test.true in
    l.invariant
    ∙ elim c.if-byte-first.branch [
      | then-byte-first+then-starts_with+else-is_boundary w ↦
          let begins =
          same w.if-byte-first.true ∙ sym w.starts_with.ensures.value ∙ w.if-starts_with.true in
          stands_within l.seen c.args.word.now text l.place c.loop-place-test.true
          (sym w.is_boundary.ensures ∙ w.if-is_boundary.false)
          (rw (c.as_bytes.ensures.value, c.as_str-2.ensures) at begins)
          ∙ ap (λ seen. best_from seen c.args.word.now text (l.place + 1)) (sym w.seen-is)
      | else-byte-first w ↦
          let none : starts_with nat_eq (drop l.place text) word ≡ false =
          elim w.else-byte-first.branch [
            | else-byte-first-via-then-byte-first+else-starts_with o ↦
                same o.if-byte-first.true ∙ sym o.starts_with.ensures.value ∙ o.if-starts_with.false
            | else-byte-first-via-else-byte-first o ↦ other o.if-byte-first.false
          ] in
          stands_elsewhere l.seen c.args.word.now text l.place c.loop-place-test.true
          (rw (c.as_bytes.ensures.value, c.as_str-2.ensures) at none)
          ∙ ap (λ seen. best_from seen c.args.word.now text (l.place + 1)) (sym w.seen-is)
    ]

pub returns : goal.returns
returns c =
    let word_is = c.as_bytes.ensures.value ∙ c.as_str-2.ensures in
    sym
    (c.loop-place.invariant
    ∙ nothing_left c.loop-place.seen c.args.word.now c.as_bytes-text.result.now c.loop-place.place
    (subst (λ (bs : List ℕ). 1 ≤ length bs) word_is c.in-len1-up.len_at_least) (omega arith))
