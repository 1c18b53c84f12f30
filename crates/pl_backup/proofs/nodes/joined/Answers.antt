use Rattle.std.proofs.Common.{◌∙◌, ◌++◌, List, ℕ, ap}
use Rattle.std.specs.String.{string_bytes}
use Rattle.pl_base.specs.Tags.{comma_joined}
use Rattle.pl_backup.proofs.Appended.{taken}
use Rattle.pl_backup.specs.Written.{comma_before}
use Rattle.pl_backup.proofs.NodeTexts.{joined_step}
use Rattle.pl_backup.proofs.nodes.joined.Goals as goal

pub loop-tag-preserved : goal.loop-tag-preserved
loop-tag-preserved c =
    let s0 = string_bytes c.loop-tag.names in
    let s1 = string_bytes c.push_str.new.self in
    let s2 = string_bytes c.push_comma.new.names in
    let tag = c.in-Some.tag.now in
    let behind = c.in-Some.behind.now in
    taken s0 s1 s2 tag (comma_before behind) (comma_joined behind) (comma_joined c.loop-tag.left.now)
    (c.in_ok-push_str.ensures.bytes ∙ ap (λ (x : List ℕ). s0 ++ x) c.text.ensures.value)
    c.in_ok-push_comma.ensures
    (ap comma_joined c.in-Some.ensures.cases.0 ∙ joined_step tag behind)
    ∙ c.loop-tag.invariant
