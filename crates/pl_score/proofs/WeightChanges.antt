-- The days on which visits weigh anew.
use Rattle.std.proofs.Common.{◌≡◌, ◌==◌, ◌+◌, ◌-◌, ◌<◌, ◌≤◌, ◌||◌, ◌∙◌, ℕ, ℤ, pos, negsuc, Bool, true, false, not}
use Rattle.std.proofs.Common.{◌++◌, List, [], ◌∷◌, Option, Some, None, ap, arith, get_or, if◌then◌else◌, refl}
use Rattle.std.proofs.Common.{length, subst, suc, sym, take, zero}
use Rattle.std.specs.Bool.{then_some}
use Rattle.std.specs.Prelude.{◌-ℤ◌, ◌≤ℤ◌, nat_le, nat_lt}
use Rattle.std.proofs.Math.Bool.{or-false}
use Rattle.std.proofs.lemmas.Bool.{false≢true, or_left, or_right}
use Rattle.std.proofs.lemmas.Bool.Decides.{nat_tests}
use Rattle.std.proofs.lemmas.Int.{ints}
use Rattle.std.proofs.lemmas.List.{map_push, take_more}
use Rattle.std.proofs.lemmas.List.Folds.{list_any-append}
use Rattle.pl_base.specs.declared.date.Day.{Day}
use Rattle.pl_base.specs.declared.date.Micros.{Micros}
use Rattle.pl_base.specs.Date.{day_number, last_day}
use Rattle.pl_base.specs.Due.{IsFirstDay, some_weighs_anew, weighs_anew}
use Rattle.pl_base.specs.Tables.{weight_of}
use Rattle.pl_score.specs.declared.sample.Sampled.{Sampled}
use Rattle.pl_score.specs.declared.table.TheConstants.{CHANGES}
use Rattle.pl_score.specs.Due.{KeepsWeight, earlier_of}
use Rattle.pl_score.specs.Sample.{dates_of}

-- ---- the weights by age

first_weight : (age : ℤ) → age ≤ℤ pos 4 → weight_of age ≡ 100
first_weight (negsuc n) high = refl
first_weight (pos n) high = let h : n ≤ 4 = omega (arith, ints) in grind (arith, nat_tests)

second_weight : (age : ℤ) → pos 5 ≤ℤ age → age ≤ℤ pos 14 → weight_of age ≡ 70
second_weight (negsuc n) low high = absurd (omega (arith, ints))
second_weight (pos n) low high =
    let h : 5 ≤ n = omega (arith, ints) in
    let k : n ≤ 14 = omega (arith, ints) in
    grind (arith, nat_tests)

third_weight : (age : ℤ) → pos 15 ≤ℤ age → age ≤ℤ pos 31 → weight_of age ≡ 50
third_weight (negsuc n) low high = absurd (omega (arith, ints))
third_weight (pos n) low high =
    let h : 15 ≤ n = omega (arith, ints) in
    let k : n ≤ 31 = omega (arith, ints) in
    grind (arith, nat_tests)

fourth_weight : (age : ℤ) → pos 32 ≤ℤ age → age ≤ℤ pos 90 → weight_of age ≡ 30
fourth_weight (negsuc n) low high = absurd (omega (arith, ints))
fourth_weight (pos n) low high =
    let h : 32 ≤ n = omega (arith, ints) in
    let k : n ≤ 90 = omega (arith, ints) in
    grind (arith, nat_tests)

last_weight : (age : ℤ) → pos 91 ≤ℤ age → weight_of age ≡ 10
last_weight (negsuc n) low = absurd (omega (arith, ints))
last_weight (pos n) low =
    let h : 91 ≤ n = omega (arith, ints) in
    grind (arith, nat_tests)

-- the weight on a day of a visit of day `visited`
abbrev weight_at : ℕ → ℕ → ℕ
weight_at visited day = weight_of (pos day -ℤ pos visited)

-- whether it is another than on the day before
abbrev anew : ℕ → ℕ → Bool
anew visited day = not (weight_at visited day == weight_at visited (day - 1))

-- that by the two weights
changed : (visited day now before : ℕ) → weight_at visited day ≡ now → weight_at visited (day - 1) ≡ before
    → anew visited day ≡ not (now == before)
changed visited day now before at_day day_before =
    ap (λ (w : ℕ). not (w == weight_at visited (day - 1))) at_day ∙ ap (λ (w : ℕ). not (now == w)) day_before

-- ---- the days on which they change

at_first : (visited day : ℕ) → day ≡ visited + 5 → anew visited day ≡ true
at_first visited day is =
    changed visited day 70 100 (second_weight (pos day -ℤ pos visited) (omega (arith, ints)) (omega (arith, ints)))
    (first_weight (pos (day - 1) -ℤ pos visited) (omega (arith, ints)))

at_second : (visited day : ℕ) → day ≡ visited + 15 → anew visited day ≡ true
at_second visited day is =
    changed visited day 50 70 (third_weight (pos day -ℤ pos visited) (omega (arith, ints)) (omega (arith, ints)))
    (second_weight (pos (day - 1) -ℤ pos visited) (omega (arith, ints)) (omega (arith, ints)))

at_third : (visited day : ℕ) → day ≡ visited + 32 → anew visited day ≡ true
at_third visited day is =
    changed visited day 30 50 (fourth_weight (pos day -ℤ pos visited) (omega (arith, ints)) (omega (arith, ints)))
    (third_weight (pos (day - 1) -ℤ pos visited) (omega (arith, ints)) (omega (arith, ints)))

at_fourth : (visited day : ℕ) → day ≡ visited + 91 → anew visited day ≡ true
at_fourth visited day is =
    changed visited day 10 30 (last_weight (pos day -ℤ pos visited) (omega (arith, ints)))
    (fourth_weight (pos (day - 1) -ℤ pos visited) (omega (arith, ints)) (omega (arith, ints)))

-- on all other days they are the same
before_first : (visited day : ℕ) → day < visited + 5 → anew visited day ≡ false
before_first visited day high =
    changed visited day 100 100 (first_weight (pos day -ℤ pos visited) (omega (arith, ints)))
    (first_weight (pos (day - 1) -ℤ pos visited) (omega (arith, ints)))

before_second : (visited day : ℕ) → visited + 5 < day → day < visited + 15 → anew visited day ≡ false
before_second visited day low high =
    changed visited day 70 70 (second_weight (pos day -ℤ pos visited) (omega (arith, ints)) (omega (arith, ints)))
    (second_weight (pos (day - 1) -ℤ pos visited) (omega (arith, ints)) (omega (arith, ints)))

before_third : (visited day : ℕ) → visited + 15 < day → day < visited + 32 → anew visited day ≡ false
before_third visited day low high =
    changed visited day 50 50 (third_weight (pos day -ℤ pos visited) (omega (arith, ints)) (omega (arith, ints)))
    (third_weight (pos (day - 1) -ℤ pos visited) (omega (arith, ints)) (omega (arith, ints)))

before_fourth : (visited day : ℕ) → visited + 32 < day → day < visited + 91 → anew visited day ≡ false
before_fourth visited day low high =
    changed visited day 30 30 (fourth_weight (pos day -ℤ pos visited) (omega (arith, ints)) (omega (arith, ints)))
    (fourth_weight (pos (day - 1) -ℤ pos visited) (omega (arith, ints)) (omega (arith, ints)))

after_fourth : (visited day : ℕ) → visited + 91 < day → anew visited day ≡ false
after_fourth visited day low =
    changed visited day 10 10 (last_weight (pos day -ℤ pos visited) (omega (arith, ints)))
    (last_weight (pos (day - 1) -ℤ pos visited) (omega (arith, ints)))

-- ---- the first of those days

-- a day, unless it lies after the last one
abbrev pub up_to_last : ℕ → Option Day
up_to_last day = then_some (nat_le day last_day) (record { 0 = day })

first_within : (holds : ℕ → Bool) (after : Day) (day : ℕ) → after.0 < day → holds day ≡ true
    → ((other : ℕ) → after.0 < other → other < day → holds other ≡ false) → IsFirstDay holds after (up_to_last day)
first_within p after day later at_day none = choose (nat_le day last_day) refl
  where
    choose : (b : Bool) → nat_le day last_day ≡ b → IsFirstDay p after (then_some b (record { 0 = day }))
    choose true within =
        record { later = later; within = grind (arith, nat_tests); found = at_day; first = none }
    choose false beyond = λ other low high. none other low (grind (arith, nat_tests))

-- the days of the changes before this one are over
abbrev pub AreOver : ℕ → Day → ℕ → Type 0
AreOver visited after i = (k : ℕ) → k < i → visited + get_or CHANGES k 0 ≤ after.0

-- where it lies later, the first change that is not over is the first day
pub first_change : (date : Micros) (after : Day) (visited i : ℕ) (result : Option Day) → visited ≡ day_number date
    → i < 4 → AreOver (day_number date) after i → after.0 < visited + get_or CHANGES i 0
    → result ≡ up_to_last (visited + get_or CHANGES i 0) → IsFirstDay (λ day. weighs_anew day date) after result
first_change date after visited i result is below over later told =
    let first : IsFirstDay (λ day. weighs_anew day date) after (up_to_last (day_number date + get_or CHANGES i 0)) =
    at (day_number date) i below over (omega arith) in
    rw (told, is) first
  where
    at : (visited i : ℕ) → i < 4 → AreOver visited after i → after.0 < visited + get_or CHANGES i 0
        → IsFirstDay (anew visited) after (up_to_last (visited + get_or CHANGES i 0))
    at visited zero below over later =
        first_within (anew visited) after (visited + 5) later (at_first visited (visited + 5) refl)
        (λ other low high. before_first visited other high)
    at visited (suc zero) below over later =
        first_within (anew visited) after (visited + 15) later (at_second visited (visited + 15) refl)
        (λ other low high. before_second visited other (omega (arith, over 0 (omega arith))) high)
    at visited (suc (suc zero)) below over later =
        first_within (anew visited) after (visited + 32) later (at_third visited (visited + 32) refl)
        (λ other low high. before_third visited other (omega (arith, over 1 (omega arith))) high)
    at visited (suc (suc (suc zero))) below over later =
        first_within (anew visited) after (visited + 91) later (at_fourth visited (visited + 91) refl)
        (λ other low high. before_fourth visited other (omega (arith, over 2 (omega arith))) high)
    at visited (suc (suc (suc (suc i)))) below over later = absurd (omega arith)

pub no_change : (date : Micros) (after : Day) → AreOver (day_number date) after 4
    → IsFirstDay (λ day. weighs_anew day date) after None
no_change date after over other low high =
    after_fourth (day_number date) other (omega (arith, over 3 (omega arith)))

-- ---- visits that are so old that no change is left

pub keeps_over : (date : Micros) (day : Day) → day_number date + 91 ≤ day.0 → KeepsWeight day date
keeps_over date day over later after = after_fourth (day_number date) later (omega arith)

pub over_keeps : (date : Micros) (day : Day) → KeepsWeight day date → day_number date + 91 ≤ day.0
over_keeps date day keeps = choose (nat_le (day_number date + 91) day.0) refl
  where
    choose : (b : Bool) → nat_le (day_number date + 91) day.0 ≡ b → day_number date + 91 ≤ day.0
    choose true over = grind (arith, nat_tests)
    choose false left =
        let after : day.0 < day_number date + 91 = grind (arith, nat_tests) in
        absurd (false≢true (sym (keeps (day_number date + 91) after)
        ∙ at_fourth (day_number date) (day_number date + 91) refl))

-- with a visit each that is no later keeps its weight too
pub keeps_older : (date older : Micros) (day : Day) → older.0 ≤ date.0 → KeepsWeight day date → KeepsWeight day older
keeps_older date older day no_later keeps =
    let days : day_number older ≤ day_number date = omega arith in
    keeps_over older day (omega (arith, over_keeps date day keeps))

-- ---- the first day of several visits

-- of two tests that are the same on later days
pub first_alike : (p q : ℕ → Bool) (after : Day) (day : Option Day) → ((d : ℕ) → after.0 < d → p d ≡ q d)
    → IsFirstDay p after day → IsFirstDay q after day
first_alike p q after (Some day) alike first =
    record {
      later = first.later;
      within = first.within;
      found = sym (alike day.0 first.later) ∙ first.found;
      first = λ other low high. sym (alike other low) ∙ first.first other low high;
    }
first_alike p q after None alike first = λ other low high. sym (alike other low) ∙ first other low high

-- of two tests, one of which may hold
pub first_of_either : (p q : ℕ → Bool) (after : Day) (one other : Option Day) → IsFirstDay p after one
    → IsFirstDay q after other → IsFirstDay (λ day. p day || q day) after (earlier_of one other)
first_of_either p q after None None one other = λ d low high. rw (one d low high) (other d low high)
first_of_either p q after None (Some b) one other =
    record {
      later = other.later;
      within = other.within;
      found = or_right (p b.0) (q b.0) other.found;
      first = λ d low high. rw (one d low (omega (arith, other.within))) (other.first d low high);
    }
first_of_either p q after (Some a) None one other =
    record {
      later = one.later;
      within = one.within;
      found = or_left (p a.0) (q a.0) one.found;
      first = λ d low high. rw (one.first d low high) (other d low (omega (arith, one.within)));
    }
first_of_either p q after (Some a) (Some b) one other = choose (nat_lt b.0 a.0) refl
  where
    choose : (c : Bool) → nat_lt b.0 a.0 ≡ c
        → IsFirstDay (λ day. p day || q day) after (if c then Some b else Some a)
    choose true below =
        let lower : b.0 < a.0 = grind (arith, nat_tests) in
        record {
          later = other.later;
          within = other.within;
          found = or_right (p b.0) (q b.0) other.found;
          first = λ d low high. rw (one.first d low (omega arith)) (other.first d low high);
        }
    choose false above =
        let no_lower : a.0 ≤ b.0 = grind (arith, nat_tests) in
        record {
          later = one.later;
          within = one.within;
          found = or_left (p a.0) (q a.0) one.found;
          first = λ d low high. rw (one.first d low high) (other.first d low (omega arith));
        }

-- one visit more
pub first_pushed : (dates : List Micros) (date : Micros) (after : Day) (due change more : Option Day)
    → IsFirstDay (some_weighs_anew dates) after due → IsFirstDay (λ day. weighs_anew day date) after change
    → more ≡ earlier_of due change → IsFirstDay (some_weighs_anew (dates ++ date ∷ [])) after more
first_pushed dates date after due change more so_far here is =
    rw is (first_alike (λ day. some_weighs_anew dates day || weighs_anew day date)
    (some_weighs_anew (dates ++ date ∷ [])) after (earlier_of due change) (λ day later. alike day)
    (first_of_either (some_weighs_anew dates) (λ day. weighs_anew day date) after due change so_far here))
  where
    alike : (day : ℕ) → (some_weighs_anew dates day || weighs_anew day date)
        ≡ some_weighs_anew (dates ++ date ∷ []) day
    alike day =
        ap (λ (b : Bool). some_weighs_anew dates day || b) (sym (or-false (weighs_anew day date)))
        ∙ sym (list_any-append (weighs_anew day) dates (date ∷ []))

-- that of a sample
pub first_more : (sample : List Sampled) (i : ℕ) (otherwise : Sampled) (after : Day) (due change more : Option Day)
    → i < length sample → IsFirstDay (some_weighs_anew (dates_of (take i sample))) after due
    → IsFirstDay (λ day. weighs_anew day (get_or sample i otherwise).date) after change
    → more ≡ earlier_of due change → IsFirstDay (some_weighs_anew (dates_of (take (i + 1) sample))) after more
first_more sample i otherwise after due change more within so_far here is =
    let seen : Sampled = get_or sample i otherwise in
    subst (λ (dates : List Micros). IsFirstDay (some_weighs_anew dates) after more)
    (sym (ap dates_of (take_more sample i otherwise within)
    ∙ map_push (λ (v : Sampled). v.date) (take i sample) seen))
    (first_pushed (dates_of (take i sample)) seen.date after due change more so_far here is)
