-- What a line is refused with whose text names no tag.
use Rattle.std.proofs.Common.{◌≡◌, refl, ℕ, List, None, Some, Ok}
use Rattle.pl_words.specs.declared.tag_name.TagError.{TagError}
use Rattle.pl_words.specs.declared.tag_name.TagError.TheVariants as tag_error
use Rattle.pl_words.specs.TagName.{tag_named}
use Rattle.pl_script.specs.declared.lines.LineError.{LineError}
use Rattle.pl_script.specs.LineError.{Fails, TagBecomesLineError}
use Rattle.pl_script.specs.TagText.{tag_of}

pub tag_read : (text read name : List ℕ) → read ≡ text → tag_named read ≡ Some name → tag_of text ≡ Ok name
tag_read text read name same is = rw (← same) (rw is refl)

-- what a line is refused with whose text is not read as a tag's name
pub tag_not_read : (text read : List ℕ) (error : TagError) (e : LineError) → read ≡ text
    → (error ≡ tag_error.BadTag → tag_named read ≡ None) → TagBecomesLineError error e → Fails e (tag_of text)
tag_not_read text read tag_error.BadTag e same bad becomes = rw becomes (rw (← same) (rw (bad refl) refl))
tag_not_read text read tag_error.NoMemory e same bad becomes = rw becomes tt
