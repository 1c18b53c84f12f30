-- What was said, where the desk tells it.
use Rattle.std.specs.Prelude.{◌≡◌, ℕ, ◌<◌, List, ◌∷◌, ◌++◌, length, take, Option}
use Rattle.std.specs.Option.{option_map}
use Rattle.std.specs.List.{flat_map}
use Rattle.pl_step.specs.declared.reply.Reply.{Reply}
use Rattle.pl_script.specs.Reply.{reply_text}
use Rattle.places.specs.declared.answer_error.AnswerError.{AnswerError}
use Rattle.places.specs.declared.answer_error.AnswerError.TheVariants.{SayFault, DeviceFault}
use Rattle.places.specs.declared.answer_error.AnswerError.TheVariants.{NoMemory}

-- the piece was said, and nothing else
abbrev pub Says : Option (List ℕ) → List ℕ → Option (List ℕ) → Type 0
Says before piece now = now ≡ option_map (λ said. said ++ piece) before

-- the texts of replies, one after another
abbrev pub texts : List Reply → List ℕ
texts replies = flat_map reply_text replies

-- the texts of some of the replies from the first on
pub record SaysWhole (replies : List Reply) (said : List ℕ) : Type 0 where
  pub answered : List Reply
  pub more : List Reply
  pub order : replies ≡ answered ++ more
  pub text : said ≡ texts answered

-- the same, and then a front of the next reply's text, which is not all of it
pub record SaysPart (replies : List Reply) (said : List ℕ) : Type 0 where
  pub answered : List Reply
  pub next : Reply
  pub more : List Reply
  pub part : ℕ
  pub order : replies ≡ answered ++ next ∷ more
  pub proper : part < length (reply_text next)
  pub text : said ≡ texts answered ++ take part (reply_text next)

-- what was said of the replies when one of them could not be answered
abbrev pub SaysUntil : AnswerError → List Reply → List ℕ → Type 0
SaysUntil SayFault replies said = SaysPart replies said
SaysUntil DeviceFault replies said = SaysWhole replies said
SaysUntil NoMemory replies said = SaysWhole replies said

-- the same of one answer, which has one reply or none
abbrev pub SaysOfAnswer : AnswerError → List Reply → Option (List ℕ) → Option (List ℕ) → Type 0
SaysOfAnswer SayFault replies before now =
    (n : ℕ) × (n < length (texts replies)) × Says before (take n (texts replies)) now
SaysOfAnswer DeviceFault replies before now = now ≡ before
SaysOfAnswer NoMemory replies before now = now ≡ before
