use Rattle.std.proofs.Common.{◌∙◌, ◌++◌, List, ℕ, ap, append_assoc, sym}
use Rattle.std.specs.String.{string_bytes}
use Rattle.pl_base.specs.Tags.{comma_joined}
use Rattle.pl_nbwrite.specs.BookmarkText.{escaped}
use Rattle.pl_nbwrite.specs.Written.{comma_before}
use Rattle.pl_base.proofs.ListLaws.{append_twice}
use Rattle.pl_nbwrite.proofs.Appended.{carried}
use Rattle.pl_nbwrite.proofs.EscapeSteps.{names-step}
use Rattle.pl_nbwrite.proofs.lines.push_names.Goals as goal

pub loop-tag-preserved : goal.loop-tag-preserved
loop-tag-preserved c =
    let s0 = string_bytes c.loop-tag.file in
    let s1 = string_bytes c.push_escaped.new.file in
    let s2 = string_bytes c.push_comma.new.file in
    let tag = c.in-Some.tag.now in
    let behind = c.in-Some.behind.now in
    let step =
    ap (λ (l : List (List ℕ)). escaped (comma_joined l)) c.in-Some.ensures.cases.0
    ∙ names-step tag behind
    ∙ sym (append_assoc (escaped tag) (comma_before behind) (escaped (comma_joined behind))) in
    let first = c.in_ok-push_escaped.ensures ∙ ap (λ (x : List ℕ). s0 ++ escaped x) c.text.ensures.value in
    carried s0 s2 (escaped tag ++ comma_before behind) (escaped (comma_joined c.loop-tag.left.now))
    (escaped (comma_joined behind)) _ c.loop-tag.invariant step
    (append_twice s0 s1 s2 (escaped tag) (comma_before behind) first c.in_ok-push_comma.ensures)
