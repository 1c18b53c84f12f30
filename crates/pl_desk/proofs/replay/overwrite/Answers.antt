use Rattle.std.proofs.Common.{◌≡◌, ℕ, ◌+◌, ◌-◌, ◌++◌, length, take, drop, replicate, rules, List, ◌∙◌, ap, arith}
use Rattle.pl_desk.proofs.Files.{overwritten_is, written_back}
use Rattle.pl_desk.proofs.replay.overwrite.Goals as goal

pub returns-clause-ok : goal.returns-clause-ok
returns-clause-ok c =
    let bytes = c.args.bytes.now in
    let long = c.lengthen.new.file.items in
    let pasted =
    c.paste.ensures ∙ ap (λ (l : List ℕ). take c.args.at l ++ bytes ++ drop (c.args.at + length bytes) l)
    c.deref_mut.ensures.value in
    let count = c.lengthen.new.file.ok.0 in
    let same = c.paste.auto.file in
    let end_is : c.in_ok-end.end ≡ c.args.at + length bytes = search (rules, arith) in
    let lengthened =
    c.in_ok-lengthen.ensures.ok
    ∙ ap (λ (n : ℕ). c.args.file.now.items ++ replicate (n - length c.args.file.now.items) c.args.pad) end_is in
    written_back long c.paste.new.file c.lengthen.new.file.len (omega (arith, count))
    (same ∙ ap length c.deref_mut.ensures.value)
    ∙ overwritten_is c.args.file.now.items bytes long c.paste.new.file c.args.pad c.args.at lengthened pasted
