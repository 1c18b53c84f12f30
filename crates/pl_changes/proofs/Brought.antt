-- What is found of one page after another: the changes so far, and that they walk from the old
-- views to new ones.
use Rattle.std.proofs.Common.{◌≡◌, ◌≢◌, ◌∙◌, ◌+◌, ◌<◌, ◌≤◌, ◌++◌, ◌==◌, ◌⊎◌, inl, inr, ℕ, Bool, false}
use Rattle.std.proofs.Common.{List, [], ◌∷◌, Option, Some, None, ap, arith, get_or, length, map, refl, subst, suc}
use Rattle.std.proofs.Common.{sym, take, take_all}
use Rattle.std.specs.List.{AllByRecursion, AllPairs, list_any}
use Rattle.std.specs.List.Sorted.{IsStrictlyIncreasing}
use Rattle.std.specs.Option.{option_to_list}
use Rattle.std.proofs.lemmas.Bool.{cases_eq, ne_eqb, or_from}
use Rattle.std.proofs.lemmas.List.{take_more}
use Rattle.std.proofs.lemmas.List.Elements.{recursion_from_All}
use Rattle.std.proofs.lemmas.List.Kept.{AllPairs-from_increasing}
use Rattle.pl_base.specs.declared.change.Change.{Change}
use Rattle.pl_base.specs.declared.id.PageId.{PageId}
use Rattle.pl_base.specs.declared.view.View.{View}
use Rattle.pl_base.specs.Store.{Store}
use Rattle.pl_base.proofs.Among.{In}
use Rattle.pl_base.proofs.ListLaws.{AllPairs-from_map, everyone, weaker}
use Rattle.pl_known.specs.Known.{view_of}
use Rattle.pl_changes.specs.Brings.{Brings, IsChangeTo, IsViewAt}
use Rattle.pl_changes.proofs.Seen.{seen}
use Rattle.pl_changes.proofs.Steps.{Walk}

-- the changes of these pages, where each was as the views tell and is as the store has it
pub data Brought (store : Store) (views : List View) : List PageId → List Change → Type 0 where
  nothing : Brought store views [] []
  kept : {page : PageId} {pages : List PageId} {changes : List Change} → IsViewAt store page (view_of page views)
      → Brought store views pages changes → Brought store views (page ∷ pages) changes
  moved : {page : PageId} {pages : List PageId} {change : Change} {changes : List Change}
      → IsChangeTo store page (view_of page views) change → Brought store views pages changes
      → Brought store views (page ∷ pages) (change ∷ changes)

-- one page more
pub one_more : (store : Store) (views : List View) (pages : List PageId) (changes : List Change) (page : PageId)
    (o : Option Change) → Brought store views pages changes → Brings store page (view_of page views) o
    → Brought store views (pages ++ page ∷ []) (changes ++ option_to_list o)
one_more store views pages changes page None nothing last = kept last nothing
one_more store views pages changes page (Some c) nothing last = moved last nothing
one_more store views pages changes page o (kept {pages = ps} {changes = cs} is rest) last =
    kept is (one_more store views ps cs page o rest last)
one_more store views pages changes page o (moved {pages = ps} {changes = cs} is rest) last =
    moved is (one_more store views ps cs page o rest last)

-- the next of the pages
pub next_more : (store : Store) (views : List View) (pages : List PageId) (i : ℕ) (d : PageId)
    (changes next : List Change) (o : Option Change) → i < length pages
    → Brought store views (take i pages) changes → Brings store (get_or pages i d) (view_of (get_or pages i d) views) o
    → next ≡ changes ++ option_to_list o → Brought store views (take (i + 1) pages) next
next_more store views pages i d changes next o within so_far brings joined =
    subst (λ (cs : List Change). Brought store views (take (i + 1) pages) cs) (sym joined)
    (subst (λ (ps : List PageId). Brought store views ps (changes ++ option_to_list o))
    (sym (take_more pages i d within))
    (one_more store views (take i pages) changes (get_or pages i d) o so_far brings))

-- the pages are all
pub all_brought : (store : Store) (views : List View) (pages : List PageId) (i : ℕ) (changes : List Change)
    → length pages ≤ i → Brought store views (take i pages) changes → Brought store views pages changes
all_brought store views pages i changes over brought =
    subst (λ (ps : List PageId). Brought store views ps changes) (take_all i pages over) brought

-- what the store has of one of the pages
pub view_there : (store : Store) (views : List View) (pages : List PageId) (changes : List Change)
    → Brought store views pages changes → (page : PageId) → In page pages
    → (o : Option View) × IsViewAt store page o
view_there store views pages changes nothing page h = absurd h
view_there store views pages changes (kept {page = p} {pages = ps} {changes = cs} is rest) page h =
    elim h as (λ _. (o : Option View) × IsViewAt store page o) [
      | inl e ↦ (view_of p views, subst (λ (q : PageId). IsViewAt store q (view_of p views)) (sym e) is)
      | inr g ↦ view_there store views ps cs rest page g
    ]
view_there store views pages changes (moved {page = p} {pages = ps} {change = c} {changes = cs} is rest) page h =
    elim h as (λ _. (o : Option View) × IsViewAt store page o) [
      | inl e ↦ (c.new, subst (λ (q : PageId). IsViewAt store q c.new) (sym e) is.new)
      | inr g ↦ view_there store views ps cs rest page g
    ]

-- ---- ascending pages

-- the pages ascend from a bound on
abbrev pub Climb : ℕ → List PageId → Type 0
Climb k [] = Unit {0}
Climb k (p ∷ ps) = (k ≤ p.0) × Climb (p.0 + 1) ps

abbrev pub is_among : ℕ → List PageId → Bool
is_among n pages = list_any (λ (other : PageId). n == other.0) pages

climb : (k : ℕ) (pages : List PageId) → AllByRecursion (λ (p : PageId). k ≤ p.0) pages
    → AllPairs (λ (p q : PageId). p.0 < q.0) pages → Climb k pages
climb k [] from pairs = tt
climb k (p ∷ ps) from pairs = (
  from.0,
  climb (p.0 + 1) ps
      (weaker (λ (q : PageId). p.0 < q.0) (λ (q : PageId). p.0 + 1 ≤ q.0) ps (λ q above. omega (arith, above))
      (recursion_from_All (λ (q : PageId). p.0 < q.0) ps
      (λ k d within. pairs 0 (suc k) d (omega arith) (omega (arith, within)))))
      (λ i j d before within. pairs (suc i) (suc j) d (omega (arith, before)) (omega (arith, within))),
)

pub climbs : (pages : List PageId) → IsStrictlyIncreasing (map (λ (p : PageId). p.0) pages) → Climb 0 pages
climbs pages ascending =
    climb 0 pages (everyone (λ (p : PageId). 0 ≤ p.0) pages (λ p. omega arith))
    (AllPairs-from_map (λ m n. m < n) (λ (p : PageId). p.0) pages
    (AllPairs-from_increasing (map (λ (p : PageId). p.0) pages) ascending))

climb_less : (j k : ℕ) (pages : List PageId) → j ≤ k → Climb k pages → Climb j pages
climb_less j k [] less up = tt
climb_less j k (p ∷ ps) less up =
    let from : k ≤ p.0 = up.0 in
    (omega (arith, less, from), up.1)

not_among : (n k : ℕ) (pages : List PageId) → n < k → Climb k pages → is_among n pages ≡ false
not_among n k [] under up = refl
not_among n k (p ∷ ps) under up =
    let from : k ≤ p.0 = up.0 in
    or_from (n == p.0) (is_among n ps) (ne_eqb n p.0 (λ same. omega (arith, under, from, same)))
    (not_among n (p.0 + 1) ps (omega (arith, under, from)) up.1)

-- ---- the walk

module _ (store : Store) (old new : List View)
    (told : (page : PageId) (o : Option View) → IsViewAt store page o → o ≡ seen page.0 new) where
  pub walk : (k : ℕ) (pages : List PageId) (changes : List Change) → Brought store old pages changes → Climb k pages
      → ((n : ℕ) → k ≤ n → is_among n pages ≡ false → seen n old ≡ seen n new) → Walk old new k changes
  walk k pages changes nothing up others = λ n from. others n from refl
  walk k pages changes (kept {page = p} {pages = ps} {changes = cs} is rest) up others =
      let from : k ≤ p.0 = up.0 in
      walk k ps cs rest (climb_less k (p.0 + 1) ps (omega (arith, from)) up.1)
      (λ n above none. choose n above none (cases_eq n p.0))
    where
      choose : (n : ℕ) → k ≤ n → is_among n ps ≡ false → (n ≡ p.0) ⊎ (n ≢ p.0) → seen n old ≡ seen n new
      choose n above none (inl same) =
          ap (λ (m : ℕ). seen m old) same ∙ told p (view_of p old) is ∙ ap (λ (m : ℕ). seen m new) (sym same)
      choose n above none (inr other) = others n above (or_from (n == p.0) (is_among n ps) (ne_eqb n p.0 other) none)
  walk k pages changes (moved {page = p} {pages = ps} {change = c} {changes = cs} is rest) up others =
      let from : k ≤ p.0 = up.0 in (
        p.0,
        from,
        λ n above under. others n above (not_among n p.0 (p ∷ ps) under (omega arith, up.1)),
        record { was = is.old; is = told p c.new is.new; differ = is.differ },
        walk (p.0 + 1) ps cs rest up.1
            (λ n above none. others n (omega (arith, above, from))
            (or_from (n == p.0) (is_among n ps) (ne_eqb n p.0 (λ same. omega (arith, above, same))) none)),
      )
