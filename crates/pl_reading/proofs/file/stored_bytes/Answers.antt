use Rattle.std.proofs.Common.{◌∙◌, ◌++◌, ap, drop, replicate}
use Rattle.pl_base.specs.Touched.{page_size}
use Rattle.pl_reading.proofs.FileLaws.{blanked}
use Rattle.pl_reading.proofs.file.stored_bytes.Goals as goal

pub returns : goal.returns
returns c =
    blanked c.args.bytes.items c.truncate.new.self.items c.blank_gate.new.bytes c.args.pages c.truncate.new.self.len
    c.requires.some c.requires.whole c.truncate.ensures.items c.truncate.new.self.ok.0
    (c.blank_gate.ensures ∙ ap (λ bs. replicate page_size 0 ++ drop page_size bs) c.deref_mut.ensures.value)
