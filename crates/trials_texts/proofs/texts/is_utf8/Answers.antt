use Rattle.std.proofs.Common.{◌∙◌, subst}
use Rattle.std.specs.Str.{IsUtf8}
use Rattle.trials_texts.proofs.texts.is_utf8.Goals as goal

pub returns-in-Ok : goal.returns-in-Ok
returns-in-Ok c told text holds =
    subst IsUtf8 (c.deref.ensures.value ∙ c.in_ok-bytes.ensures text holds) c.in-Ok.ensures.cases.1
