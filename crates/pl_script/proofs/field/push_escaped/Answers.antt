use Rattle.std.proofs.lemmas.Result.{on_ok_weaker}
use Rattle.pl_script.proofs.Escapes.{text_of-escaped}
use Rattle.pl_script.proofs.field.push_escaped.Goals as goal

pub returns-then-is_plain-clause-reads_back : goal.returns-then-is_plain-clause-reads_back
returns-then-is_plain-clause-reads_back c = text_of-escaped c.args.text.now c.utf8.text

pub returns-clause-reads_back : goal.returns-clause-reads_back
returns-clause-reads_back c =
    on_ok_weaker c.push_chars.result (λ _. text_of-escaped c.args.text.now c.utf8.text) c.push_chars.ensures
