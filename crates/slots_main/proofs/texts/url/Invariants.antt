use Rattle.std.proofs.Common.{◌≡◌, length}
use Rattle.slots_main.specs.Texts.{url_size}
use Rattle.slots_main.proofs.texts.url.Given as goal

abbrev pub invariant-loop-place : goal.invariant-loop-place
invariant-loop-place l = length l.url ≡ url_size
