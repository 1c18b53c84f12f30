use Rattle.std.proofs.Common.{◌∙◌, ap}
use Rattle.std.specs.Borrow.{Bor}
use Rattle.std.specs.Option.{option_map}
use Rattle.std.specs.Prelude.{List, ℕ}
use Rattle.pl_place.proofs.ValueLemmas.{text_read}
use Rattle.pl_place.proofs.value.as_text.Goals as goal

pub returns : goal.returns
returns c =
    ap (option_map (λ (s : Bor (List ℕ)). s.now)) c.ok.ensures.value
    ∙ text_read c.from_utf8.result c.args.bytes.now _ c.from_utf8.ensures.cases
