use Rattle.std.proofs.Common.{◌≡◌, take}
use Rattle.std.specs.List.{flat_map}
use Rattle.pl_reading.specs.Texts.{page_texts}
use Rattle.pl_reading.proofs.texts.page_texts.Given as goal

abbrev pub invariant-loop-place : goal.invariant-loop-place
invariant-loop-place l = l.texts.items ≡ flat_map page_texts (take l.place-index l.places)
