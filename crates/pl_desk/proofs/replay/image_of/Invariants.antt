use Rattle.std.proofs.Common.{◌≡◌, drop}
use Rattle.pl_desk.specs.Stopped.{image_after}
use Rattle.pl_desk.specs.Record.{calls_of}
use Rattle.pl_desk.proofs.replay.image_of.Given as goal

-- the image after what is left is that after all
abbrev pub invariant-loop-call : goal.invariant-loop-call
invariant-loop-call l =
    image_after l.filler l.file.items l.image.items (calls_of (drop l.call-index l.calls))
    ≡ image_after l.filler l.first l.first (calls_of l.calls)
