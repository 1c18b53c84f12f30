-- Lines as bytes come.
use Rattle.std.specs.List.{cons_option, slice_split, onto_first}
use Rattle.std.specs.Str.Lines.{lines_of_parts, strip_carriage_return}
use Rattle.std.proofs.Common.{◌≡◌, option_to_list, ◌≢◌, ℕ, Bool, true, false, cond, eqb, List, [], ◌∷◌, ◌++◌, length}
use Rattle.std.proofs.Common.{map, Some, None, Option, refl, ap, ◌∙◌, arith}
use Rattle.std.proofs.lemmas.Bool.{cond-true, cond-false, ne_eqb}
use Rattle.std.proofs.lemmas.List.{map-append}
use Rattle.std.proofs.lemmas.List.Elements.{filter_map-append}
use Rattle.pl_step.specs.declared.command.Command.{Command}
use Rattle.pl_step.specs.Parsed.{Parsed}
use Rattle.pl_script.specs.Script.{entry, script}
use Rattle.places.specs.Lines.{all_but_last, last_part, ended_lines, open_line, entries_of, entries_in}

-- there is a part
abbrev IsSome : List (List ℕ) → Type 0
IsSome [] = ⊥
IsSome (part ∷ parts) = Unit {0}

-- the last part with a byte more
abbrev onto_last : ℕ → List (List ℕ) → List (List ℕ)
onto_last b [] = []
onto_last b (part ∷ []) = (part ++ b ∷ []) ∷ []
onto_last b (part ∷ next ∷ more) = part ∷ onto_last b (next ∷ more)

onto_first-is_some : (x : ℕ) (parts : List (List ℕ)) → IsSome (onto_first x parts)
onto_first-is_some x [] = tt
onto_first-is_some x (part ∷ parts) = tt

choice_is_some : (c : Bool) (a b : List (List ℕ)) → IsSome a → IsSome b → IsSome (cond c a b)
choice_is_some true a b p q = p
choice_is_some false a b p q = q

parts_are_some : (p : ℕ → Bool) (bytes : List ℕ) → IsSome (slice_split p bytes)
parts_are_some p [] = tt
parts_are_some p (x ∷ bytes) = choice_is_some (p x) _ _ tt (onto_first-is_some x (slice_split p bytes))

onto_first-append : (x : ℕ) (parts more : List (List ℕ)) → IsSome parts
    → onto_first x (parts ++ more) ≡ onto_first x parts ++ more
onto_first-append x [] more some = absurd some
onto_first-append x (part ∷ parts) more some = refl

onto_first-onto_last : (x b : ℕ) (parts : List (List ℕ)) → IsSome parts
    → onto_first x (onto_last b parts) ≡ onto_last b (onto_first x parts)
onto_first-onto_last x b [] some = absurd some
onto_first-onto_last x b (part ∷ []) some = refl
onto_first-onto_last x b (part ∷ next ∷ more) some = refl

choice : (c : Bool) (a b d e : List (List ℕ)) (f : List (List ℕ) → List (List ℕ)) → d ≡ f a → e ≡ f b
    → cond c d e ≡ f (cond c a b)
choice true a b d e f p q = p
choice false a b d e f p q = q

-- a byte at which the parts end
split_end : (p : ℕ → Bool) (bytes : List ℕ) (b : ℕ) → p b ≡ true
    → slice_split p (bytes ++ b ∷ []) ≡ slice_split p bytes ++ [] ∷ []
split_end p [] b ends = cond-true _ _ _ ends
split_end p (x ∷ bytes) b ends =
    choice (p x) _ _ _ _ (λ parts. parts ++ [] ∷ [])
    (ap (λ parts. [] ∷ parts) (split_end p bytes b ends))
    (ap (onto_first x) (split_end p bytes b ends)
    ∙ onto_first-append x (slice_split p bytes) ([] ∷ []) (parts_are_some p bytes))

onto_last-cons : (b : ℕ) (part : List ℕ) (parts : List (List ℕ)) → IsSome parts
    → part ∷ onto_last b parts ≡ onto_last b (part ∷ parts)
onto_last-cons b part [] some = absurd some
onto_last-cons b part (next ∷ more) some = refl

-- a byte that goes on in the last part
split_on : (p : ℕ → Bool) (bytes : List ℕ) (b : ℕ) → p b ≡ false
    → slice_split p (bytes ++ b ∷ []) ≡ onto_last b (slice_split p bytes)
split_on p [] b on = cond-false _ _ _ on
split_on p (x ∷ bytes) b on =
    choice (p x) _ _ _ _ (onto_last b)
    (ap (λ parts. [] ∷ parts) (split_on p bytes b on)
    ∙ onto_last-cons b [] (slice_split p bytes) (parts_are_some p bytes))
    (ap (onto_first x) (split_on p bytes b on)
    ∙ onto_first-onto_last x b (slice_split p bytes) (parts_are_some p bytes))

all_but_last-end : (parts : List (List ℕ)) → IsSome parts
    → all_but_last (parts ++ [] ∷ []) ≡ all_but_last parts ++ last_part parts ∷ []
all_but_last-end [] some = absurd some
all_but_last-end (part ∷ []) some = refl
all_but_last-end (part ∷ next ∷ more) some = ap (λ parts. part ∷ parts) (all_but_last-end (next ∷ more) tt)

last_part-end : (parts : List (List ℕ)) → IsSome parts → last_part (parts ++ [] ∷ []) ≡ []
last_part-end [] some = absurd some
last_part-end (part ∷ []) some = refl
last_part-end (part ∷ next ∷ more) some = last_part-end (next ∷ more) tt

all_but_last-on : (b : ℕ) (parts : List (List ℕ)) → all_but_last (onto_last b parts) ≡ all_but_last parts
all_but_last-on b [] = refl
all_but_last-on b (part ∷ []) = refl
all_but_last-on b (part ∷ next ∷ []) = refl
all_but_last-on b (part ∷ next ∷ third ∷ more) = ap (λ parts. part ∷ parts) (all_but_last-on b (next ∷ third ∷ more))

last_part-on : (b : ℕ) (parts : List (List ℕ)) → IsSome parts
    → last_part (onto_last b parts) ≡ last_part parts ++ b ∷ []
last_part-on b [] some = absurd some
last_part-on b (part ∷ []) some = refl
last_part-on b (part ∷ next ∷ []) some = refl
last_part-on b (part ∷ next ∷ third ∷ more) some = last_part-on b (next ∷ third ∷ more) tt

abbrev is_lf : ℕ → Bool
is_lf b = eqb b 10

-- ---- a byte more

pub ended_lines-lf : (bytes : List ℕ)
    → ended_lines (bytes ++ 10 ∷ []) ≡ ended_lines bytes ++ strip_carriage_return (open_line bytes) ∷ []
ended_lines-lf bytes =
    ap (λ parts. map strip_carriage_return (all_but_last parts)) (split_end is_lf bytes 10 refl)
    ∙ ap (map strip_carriage_return) (all_but_last-end (slice_split is_lf bytes) (parts_are_some is_lf bytes))
    ∙ map-append strip_carriage_return (all_but_last (slice_split is_lf bytes)) (open_line bytes ∷ [])

pub open_line-lf : (bytes : List ℕ) → open_line (bytes ++ 10 ∷ []) ≡ []
open_line-lf bytes =
    ap last_part (split_end is_lf bytes 10 refl) ∙ last_part-end (slice_split is_lf bytes) (parts_are_some is_lf bytes)

pub ended_lines-on : (bytes : List ℕ) (b : ℕ) → b ≢ 10 → ended_lines (bytes ++ b ∷ []) ≡ ended_lines bytes
ended_lines-on bytes b on =
    ap (λ parts. map strip_carriage_return (all_but_last parts)) (split_on is_lf bytes b (ne_eqb b 10 on))
    ∙ ap (map strip_carriage_return) (all_but_last-on b (slice_split is_lf bytes))

pub open_line-on : (bytes : List ℕ) (b : ℕ) → b ≢ 10 → open_line (bytes ++ b ∷ []) ≡ open_line bytes ++ b ∷ []
open_line-on bytes b on =
    ap last_part (split_on is_lf bytes b (ne_eqb b 10 on))
    ∙ last_part-on b (slice_split is_lf bytes) (parts_are_some is_lf bytes)

-- ---- entries

pub entries_of-append : (xs ys : List (List ℕ)) → entries_of (xs ++ ys) ≡ entries_of xs ++ entries_of ys
entries_of-append xs ys = filter_map-append entry xs ys

one_entry : (found : Option (Parsed Command)) → cons_option found [] ≡ option_to_list found
one_entry None = refl
one_entry (Some x) = refl

pub entries_of-one : (line : List ℕ) → entries_of (line ∷ []) ≡ entries_in line
entries_of-one line = one_entry (entry line)

cons_option-append : (found : Option (Parsed Command)) (xs ys : List (Parsed Command))
    → cons_option found (xs ++ ys) ≡ cons_option found xs ++ ys
cons_option-append None xs ys = refl
cons_option-append (Some x) xs ys = refl

lines_in_parts : (parts : List (List ℕ)) → IsSome parts
    → entries_of (lines_of_parts parts) ≡ entries_of (map strip_carriage_return (all_but_last parts))
    ++ entries_in (last_part parts)
lines_in_parts [] some = absurd some
lines_in_parts ([] ∷ []) some = refl
lines_in_parts ((b ∷ part) ∷ []) some =
    ap entries_of (cond-false _ _ _ (ne_eqb (length (b ∷ part)) 0 (λ e. omega arith))) ∙ entries_of-one (b ∷ part)
lines_in_parts (part ∷ next ∷ more) some =
    ap (cons_option (entry (strip_carriage_return part))) (lines_in_parts (next ∷ more) tt)
    ∙ cons_option-append (entry (strip_carriage_return part))
    (entries_of (map strip_carriage_return (all_but_last (next ∷ more)))) (entries_in (last_part (next ∷ more)))

-- the script of what came: its lines that ended, and the line that has not
pub script-is : (bytes : List ℕ) → script bytes ≡ entries_of (ended_lines bytes) ++ entries_in (open_line bytes)
script-is bytes = lines_in_parts (slice_split is_lf bytes) (parts_are_some is_lf bytes)
