-- What `</` begins.
use Rattle.std.proofs.Common.{◌∙◌, List, ℕ, refl, subst, sym}
use Rattle.pl_nbread.specs.Scanned.{IsSeen}
use Rattle.pl_nbread.specs.Tokens.{Close, ends_tag_name}
use Rattle.pl_nbread.proofs.ScanParts.{tag_found, tag_none}
use Rattle.pl_nbread.proofs.ScanSteps.{same_behind, same_front, tag_name_ends}
use Rattle.pl_nbread.proofs.TokenLaws.{end_at-tag}
use Rattle.pl_nbread.proofs.part.end_tag.Goals as goal

pub returns-in-Some : goal.returns-in-Some
returns-in-Some c =
    let text : List ℕ = c.args.text.now in
    subst (λ read. IsSeen read (c.closed.result, c.in-Some.behind))
    (sym (end_at-tag text (sym c.begins_with_letter.ensures ∙ c.if-not-begins_with_letter.false)))
    (tag_found (λ name attributes. Close name) text c.cut.result.0.now c.cut.result.1.now c.in-Some.field-0-0
    c.in-Some.behind _ (c.cut.ensures.front ∙ same_front _ ends_tag_name tag_name_ends text)
    (c.cut.ensures.behind ∙ same_behind _ ends_tag_name tag_name_ends text) c.in-Some.ensures
    (λ all tells. c.closed.ensures))

pub returns-in-None : goal.returns-in-None
returns-in-None c =
    let text : List ℕ = c.args.text.now in
    rw (end_at-tag text (sym c.begins_with_letter.ensures ∙ c.if-not-begins_with_letter.false))
    (tag_none (λ name attributes. Close name) text c.cut.result.1.now _
    (c.cut.ensures.behind ∙ same_behind _ ends_tag_name tag_name_ends text) c.in-None.ensures refl)
