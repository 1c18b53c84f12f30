use Rattle.std.proofs.Common.{◌∙◌, ◌++◌, List, ℕ, ap, arith}
use Rattle.std.specs.Map.Iter.{deref}
use Rattle.std.specs.String.{string_bytes}
use Rattle.std.specs.BTreeMap.{values}
use Rattle.std.proofs.lemmas.Map.Iter.{rest_more}
use Rattle.std.proofs.lemmas.Str.{encode_ascii}
use Rattle.pl_base.specs.Tags.{comma_joined}
use Rattle.pl_marks.proofs.PageTags.{join_first, join_next}
use Rattle.pl_marks.proofs.tags.joined.Goals.{then-not-is_first+in_ok-push, else-not-is_first}
use Rattle.pl_marks.proofs.tags.joined.Goals as goal

pub loop-title-preserved : goal.loop-title-preserved
loop-title-preserved c =
    elim c.if-not-is_first.branch [
      | then-not-is_first+in_ok-push w ↦ join_next c.loop-title.is_first (string_bytes c.loop-title.text)
          (string_bytes c.if-not-is_first.text) (string_bytes c.push_str.new.self) c.in-Some.title.now
          c.loop-title.title-iterator c.next.new.self (comma_joined (values c.args.tags.now)) w.if-not-is_first.true
          c.loop-title.invariant
          (rest_more deref c.loop-title.title-iterator c.next.new.self c.next.result c.in-Some.title c.in-Some.is
          c.next.ensures.steps)
          (ap string_bytes w.text-is ∙ w.in_ok-push.ensures.bytes
          ∙ ap (λ (t : List ℕ). string_bytes c.loop-title.text ++ t) (encode_ascii 44 (omega arith)))
          (c.in_ok-push_str.ensures.bytes
          ∙ ap (λ (t : List ℕ). string_bytes c.if-not-is_first.text ++ t) c.as_str.ensures)
      | else-not-is_first w ↦ join_first c.loop-title.is_first (string_bytes c.loop-title.text)
          (string_bytes c.push_str.new.self) c.in-Some.title.now
          c.loop-title.title-iterator c.next.new.self (comma_joined (values c.args.tags.now)) w.if-not-is_first.false
          c.loop-title.invariant
          (rest_more deref c.loop-title.title-iterator c.next.new.self c.next.result c.in-Some.title c.in-Some.is
          c.next.ensures.steps)
          (c.in_ok-push_str.ensures.bytes
          ∙ ap (λ (t : List ℕ). string_bytes c.if-not-is_first.text ++ t) c.as_str.ensures
          ∙ ap (λ (s : List ℕ). s ++ c.in-Some.title.now) (ap string_bytes w.text-is))
    ]
