use Rattle.std.proofs.Common.{◌∙◌, ◌++◌, ap, map}
use Rattle.std.specs.List.{join_with_byte}
use Rattle.std.specs.String.{string_bytes}
use Rattle.pl_place.specs.PlaceText.{place_prefix}
use Rattle.pl_place.proofs.CutPairs.{joined}
use Rattle.pl_place.proofs.writer.Pairs.text.Goals as goal

pub returns : goal.returns
returns c =
    let pairs =
    c.in_ok-join.ensures.ok ∙ joined string_bytes c.deref.result.now
    ∙ ap (join_with_byte 38) (ap (map string_bytes) c.deref.ensures.value ∙ c.self.view_is) in
    c.from.ensures ∙ c.in_ok-push_str.ensures.bytes
    ∙ ap (λ x. x ++ c.deref-2.result.now) c.in_ok-text.ensures.ok
    ∙ ap (λ x. place_prefix ++ x) (c.deref-2.ensures ∙ pairs)
