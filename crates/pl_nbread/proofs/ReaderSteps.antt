-- What stands at the front of a text is taken, and the rest goes on.
use Rattle.std.proofs.Common.{◌≡◌, ◌∙◌, ◌<◌, ℕ, List, [], ◌∷◌, ap, arith, length, map, refl, sym}
use Rattle.std.specs.Option.{option_to_list}
use Rattle.std.proofs.lemmas.List.{map-append}
use Rattle.pl_nbread.specs.declared.builder.Builder.{Builder}
use Rattle.pl_nbread.specs.declared.part.Part.{Part as SeenPart}
use Rattle.pl_nbread.specs.Building.{yields}
use Rattle.pl_nbread.specs.Parts.{Part, part_of}
use Rattle.pl_nbread.specs.Scanned.{Sees, SeesFront}
use Rattle.pl_nbread.specs.Tokens.{front, tokens}
use Rattle.pl_nbread.proofs.BuildingSteps.{front_taken}
use Rattle.pl_nbread.proofs.TokenLaws.{tokens-step}

pub stepped : (text behind : List ℕ) (part : SeenPart) (before after : Builder) → 0 < length text
    → ((b : ℕ) (bytes : List ℕ) → text ≡ b ∷ bytes → SeesFront (front b bytes).what part)
    → ((b : ℕ) (bytes : List ℕ) → text ≡ b ∷ bytes → behind ≡ (front b bytes).behind)
    → ((this : Part) (more : List Part) → Sees this part → yields after more ≡ yields before (this ∷ more))
    → yields after (map part_of (tokens behind)) ≡ yields before (map part_of (tokens text))
stepped [] behind part before after some sees is takes = absurd (omega (arith, some))
stepped (b ∷ bytes) behind part before after some sees is takes =
    ap (λ (t : List ℕ). yields after (map part_of (tokens t))) (is b bytes refl)
    ∙ front_taken before after (front b bytes).what part (map part_of (tokens (front b bytes).behind))
    (sees b bytes refl) (λ this. takes this (map part_of (tokens (front b bytes).behind)))
    ∙ ap (yields before) (sym (ap (map part_of) (tokens-step b bytes)
    ∙ map-append part_of (option_to_list (front b bytes).what) (tokens (front b bytes).behind)))
