-- The figures in a view, and what the test whether figures are the same says.
use Rattle.std.proofs.Common.{◌≡◌, ◌==◌, ◌&&◌, ◌≢◌, ◌∙◌, Bool, true, false, Option, Some, None, ap, int_eq, refl}
use Rattle.std.proofs.Common.{sym}
use Rattle.std.specs.Bool.{Decides}
use Rattle.std.specs.Option.{option_eq}
use Rattle.std.proofs.Math.Bool.{beq}
use Rattle.std.specs.Cmp.{booleans_Decides}
use Rattle.std.proofs.lemmas.Bool.{and_from, and_parts}
use Rattle.std.proofs.lemmas.Bool.Decides.{Decides-eqb, Decides-int_eq, Decides-like, not_from_Decides}
use Rattle.std.proofs.lemmas.Option.{none-some, same_Some}
use Rattle.pl_base.specs.declared.date.Day.{Day}
use Rattle.pl_base.specs.declared.date.Micros.{Micros}
use Rattle.pl_base.specs.declared.view.View.{View}
use Rattle.pl_marks.specs.declared.figures.Figures.{Figures}

-- ---- tests part by part

-- where the test passes the fact holds, and it passes where the two are the same
abbrev pub Tells : {V : Type 0} → V → V → Bool → Type 0 → Type 0
Tells a b test P = (test ≡ true → P) × (a ≡ b → test ≡ true)

-- the test of a part, alone and in front of others
module _ {V X : Type 0} (part : V → X) (a b : V) (test : Bool) (decides : Decides test (part a ≡ part b)) where
  pub last_part : Tells a b test (part a ≡ part b)
  last_part = (decides.0, λ same. decides.1 (ap part same))

  pub and_part : {P : Type 0} (others : Bool) → Tells a b others P → Tells a b (test && others) ((part a ≡ part b) × P)
  and_part others rest = (
    λ is. let both = and_parts test others is in (decides.0 both.0, rest.0 both.1),
    λ same. and_from test others (decides.1 (ap part same)) (rest.1 same),
  )

-- ---- the test whether figures are the same

options_decide : {X : Type 0} (test : X → X → Bool) → ((x y : X) → Decides (test x y) (x ≡ y)) → (a b : Option X)
    → Decides (option_eq test a b) (a ≡ b)
options_decide test each None None = (λ is. refl, λ same. refl)
options_decide test each None (Some y) = (λ is. absurd (cc), λ same. absurd (none-some y same))
options_decide test each (Some x) None = (λ is. absurd (cc), λ same. absurd (none-some x (sym same)))
options_decide {X} test each (Some x) (Some y) =
    Decides-like (test x y) (λ same. ap (λ (z : X). Some z) same) (λ same. same_Some x y same) (each x y)

abbrev pub same_date : Option Micros → Option Micros → Bool
same_date a b = option_eq (λ (x y : Micros). x.0 == y.0) a b

abbrev pub same_day : Option Day → Option Day → Bool
same_day a b = option_eq (λ (x y : Day). x.0 == y.0) a b

pub dates_decide : (a b : Option Micros) → Decides (same_date a b) (a ≡ b)
dates_decide a b =
    options_decide (λ (x y : Micros). x.0 == y.0) (λ x y.
    Decides-like (x.0 == y.0) (λ same. ap (λ n. record { 0 = n }) same) (λ same. ap (λ (d : Micros). d.0) same)
    (Decides-eqb x.0 y.0)) a b

pub days_decide : (a b : Option Day) → Decides (same_day a b) (a ≡ b)
days_decide a b =
    options_decide (λ (x y : Day). x.0 == y.0) (λ x y.
    Decides-like (x.0 == y.0) (λ same. ap (λ n. record { 0 = n }) same) (λ same. ap (λ (d : Day). d.0) same)
    (Decides-eqb x.0 y.0)) a b

-- the figures are the same, one by one
abbrev pub same_figures : Figures → Figures → Bool
same_figures a b =
    int_eq a.frecency b.frecency
    && ((a.count == b.count)
    && (same_date a.last b.last && (same_day a.due b.due && (beq a.typed b.typed && beq a.hidden b.hidden))))

-- the parts of two are the same
abbrev AreSameParts : Figures → Figures → Type 0
AreSameParts a b =
    (a.frecency ≡ b.frecency) × ((a.count ≡ b.count) × ((a.last ≡ b.last) × ((a.due ≡ b.due)
    × ((a.typed ≡ b.typed) × (a.hidden ≡ b.hidden)))))

whole : (a b : Figures) → AreSameParts a b → a ≡ b
whole a b (frecency, (count, (last, (due, (typed, hidden))))) =
    λ i. record {
      frecency = frecency i;
      count = count i;
      last = last i;
      due = due i;
      typed = typed i;
      hidden = hidden i;
    }

pub figures_decide : (a b : Figures) → Decides (same_figures a b) (a ≡ b)
figures_decide a b =
    let parts : Tells a b (same_figures a b) (AreSameParts a b) =
    and_part (λ (f : Figures). f.frecency) a b (int_eq a.frecency b.frecency) (Decides-int_eq a.frecency b.frecency) _
    (and_part (λ (f : Figures). f.count) a b (a.count == b.count) (Decides-eqb a.count b.count) _
    (and_part (λ (f : Figures). f.last) a b (same_date a.last b.last) (dates_decide a.last b.last) _
    (and_part (λ (f : Figures). f.due) a b (same_day a.due b.due) (days_decide a.due b.due) _
    (and_part (λ (f : Figures). f.typed) a b (beq a.typed b.typed) (booleans_Decides a.typed b.typed) _
    (last_part (λ (f : Figures). f.hidden) a b (beq a.hidden b.hidden) (booleans_Decides a.hidden b.hidden)))))) in
    (λ is. whole a b (parts.0 is), parts.1)

-- ---- figures in a view

-- the view with these figures
abbrev pub with_figures : View → Figures → View
with_figures view figures =
    record view {
      frecency = figures.frecency;
      count = figures.count;
      last = figures.last;
      due = figures.due;
      typed = figures.typed;
      hidden = figures.hidden;
    }

-- the figures of the view
abbrev pub figures_of : View → Figures
figures_of view =
    record {
      frecency = view.frecency;
      count = view.count;
      last = view.last;
      due = view.due;
      typed = view.typed;
      hidden = view.hidden;
    }

pub are_figures : (view : View) (f : Figures) → f.frecency ≡ view.frecency → f.count ≡ view.count → f.last ≡ view.last
    → f.due ≡ view.due → f.typed ≡ view.typed → f.hidden ≡ view.hidden → f ≡ figures_of view
are_figures view f frecency count last due typed hidden =
    λ i. record {
      frecency = frecency i;
      count = count i;
      last = last i;
      due = due i;
      typed = typed i;
      hidden = hidden i;
    }

-- a view with other figures is another view
pub other_view : (old copy new : View) (figures own : Figures) → copy ≡ old → new ≡ with_figures old figures
    → own ≡ figures_of old → same_figures figures own ≡ false → Some copy ≢ Some new
other_view old copy new figures own copied made of other same =
    let views : old ≡ with_figures old figures = sym copied ∙ same_Some copy new same ∙ made in
    not_from_Decides (same_figures figures own) (figures_decide figures own) other (sym (of ∙ ap figures_of views))
