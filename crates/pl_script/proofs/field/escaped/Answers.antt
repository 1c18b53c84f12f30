use Rattle.std.proofs.Common.{◌≡◌, ◌∙◌, ap, rules}
use Rattle.std.specs.String.{string_bytes}
use Rattle.pl_script.specs.Script.{escaped, text_of}
use Rattle.pl_script.proofs.field.escaped.Goals as goal

pub returns-clause-reads_back : goal.returns-clause-reads_back
returns-clause-reads_back c =
    let exact : string_bytes c.push_escaped.new.written ≡ escaped c.args.text.now = search rules in
    ap text_of exact ∙ c.in_ok-push_escaped.ensures.reads_back
