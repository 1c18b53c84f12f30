-- The tag that a text names.
use Rattle.std.specs.Prelude.{ℕ, List}
use Rattle.std.specs.Option.{ok_or}
use Rattle.pl_base.specs.declared.refusal.Refusal.TheVariants.{BadTag}
use Rattle.pl_step.specs.Parsed.{Parsed}
use Rattle.pl_words.specs.TagName.{tag_named}

-- the tag that a text names; another text is refused
abbrev pub tag_of : List ℕ → Parsed (List ℕ)
tag_of text = ok_or (tag_named text) BadTag
