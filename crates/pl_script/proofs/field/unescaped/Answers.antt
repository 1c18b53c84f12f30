use Rattle.std.proofs.Common.{◌∙◌, sym}
use Rattle.pl_script.proofs.Escapes.{escaped_at, backslash_at, plain_at}
use Rattle.pl_script.proofs.field.unescaped.Goals as goal
use Rattle.pl_script.proofs.field.unescaped.Goals.{then-after_backslash+in-Some+in_ok-push}
use Rattle.pl_script.proofs.field.unescaped.Goals.{else-after_backslash+then-byte-eq92}
use Rattle.pl_script.proofs.field.unescaped.Goals.{else-after_backslash+else-byte-eq92+in_ok-push-2}

pub loop-byte-preserved : goal.loop-byte-preserved
loop-byte-preserved c =
    elim c.if-after_backslash.branch [
      | then-after_backslash+in-Some+in_ok-push w ↦
          let before = rw w.if-after_backslash.true at c.loop-byte.invariant in
          rw (w.bytes-is, w.after_backslash-is, w.in_ok-push.ensures.items)
          (escaped_at _ _ _ _ c.loop-byte-test.true (sym w.in-Some.ensures) ∙ before)
      | else-after_backslash+then-byte-eq92 w ↦
          let before = rw w.if-after_backslash.false at c.loop-byte.invariant in
          rw (w.bytes-is, w.after_backslash-is) (backslash_at _ _ _ c.loop-byte-test.true w.if-byte-eq92.true ∙ before)
      | else-after_backslash+else-byte-eq92+in_ok-push-2 w ↦
          let before = rw w.if-after_backslash.false at c.loop-byte.invariant in
          rw (w.bytes-is, w.after_backslash-is, w.if-after_backslash.false, w.in_ok-push-2.ensures.items)
          (plain_at _ _ _ c.loop-byte-test.true w.if-byte-eq92.false ∙ before)
    ]
