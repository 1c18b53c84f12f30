use Rattle.std.specs.List.{All, list_any}
use Rattle.std.proofs.Common.{◌≡◌, ◌≤◌, ◌<◌, ◌+◌, ◌==◌, true, ℕ, List, [], ◌∷◌, ◌++◌, inl, inr, sym, ◌∙◌, arith}
use Rattle.std.proofs.lemmas.Bool.{cases_lt, eq-eqb, or_left, or_right}
use Rattle.std.proofs.lemmas.List.Elements.{All-append}
use Rattle.std.proofs.lemmas.List.Folds.{list_any-append}
use Rattle.pl_base.specs.Touched.{page_numbers}
use Rattle.trials_gate.proofs.gate.touch_added.Goals as goal

-- one page more is still below a length
below_more : (ns : List ℕ) (n after : ℕ) → All (λ k. k < after) ns → n < after → All (λ k. k < after) (ns ++ n ∷ [])
below_more ns n after below lt = All-append (λ k. k < after) ns (n ∷ []) below (grind arith)

-- and so is each page from the first added one to this one among them
added_more : (ns : List ℕ) (before page : ℕ) → ((n : ℕ) → before ≤ n → n < page → list_any (λ m. m == n) ns ≡ true)
    → (n : ℕ) → before ≤ n → n < page + 1 → list_any (λ m. m == n) (ns ++ page ∷ []) ≡ true
added_more ns before page added n le lt = list_any-append (λ m. m == n) ns (page ∷ []) ∙ elim (cases_lt n page) [
  | inl below ↦ or_left _ _ (added n le below)
  | inr above ↦ or_right _ _ (or_left _ _ (eq-eqb page n (omega (arith, lt, above))))
]

pub loop-page-preserved : goal.loop-page-preserved
loop-page-preserved g c =
    let is = c.loop-page.invariant in let did = c.touch.ensures in
    let numbers = page_numbers c.loop-page.touched.pages in
    let more = c.in_ok-touch.ensures in
    record {
      below =
          λ all. rw more.number (below_more numbers c.loop-page.page c.args.touched.now.after (is.below all)
          (rw (sym is.after) more.below));
      added = rw more.number (added_more numbers c.args.case.now.before c.loop-page.page is.added);
      before = did.before ∙ is.before;
      after = did.after ∙ is.after;
    }
