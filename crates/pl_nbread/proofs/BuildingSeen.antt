-- Which part was seen.
use Rattle.std.proofs.Common.{◌≡◌, refl, ap, sym, List, ℕ}
use Rattle.std.specs.Borrow.{Bor}
use Rattle.pl_nbread.specs.declared.part.Part.TheVariants as seen
use Rattle.pl_nbread.specs.Parts.{Part, Heading, Link, ListStart, ListEnd, Rule, TitleEnd, Words}
use Rattle.pl_nbread.specs.Parts.{Other}
use Rattle.pl_nbread.specs.Scanned.{Sees}

pub is_list_end : (this : Part) → Sees this seen.ListEnd → this ≡ ListEnd
is_list_end (Heading attributes) sees = absurd sees
is_list_end (Link attributes) sees = absurd sees
is_list_end ListStart sees = absurd sees
is_list_end ListEnd sees = refl
is_list_end Rule sees = absurd sees
is_list_end TitleEnd sees = absurd sees
is_list_end (Words text) sees = absurd sees
is_list_end Other sees = absurd sees

pub is_words : (text : Bor (List ℕ)) (this : Part) → Sees this (seen.Text text) → this ≡ Words text.now
is_words text (Heading attributes) sees = absurd sees
is_words text (Link attributes) sees = absurd sees
is_words text ListStart sees = absurd sees
is_words text ListEnd sees = absurd sees
is_words text Rule sees = absurd sees
is_words text TitleEnd sees = absurd sees
is_words text (Words words) sees = ap Words (sym sees)
is_words text Other sees = absurd sees
